use Rattle.lz_unwind.proofs.HasCallLemmas.{IsSought}
use Rattle.lz_unwind.proofs.moved.+has_call.Given as goal

-- whether one was found so far
abbrev pub invariant-all_have_call-loop-item : goal.invariant-all_have_call-loop-item
invariant-all_have_call-loop-item l = IsSought l.items l.item-index l.any
