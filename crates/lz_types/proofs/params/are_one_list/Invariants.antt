use Rattle.std.proofs.Common.{◌≡◌}
use Rattle.lz_types.proofs.ExternalLemmas.{ones_at}
use Rattle.lz_types.proofs.params.are_one_list.Given as goal

-- all agree where those do that are left
abbrev pub invariant-loop-p : goal.invariant-loop-p
invariant-loop-p l = record {
  at : l.at ≡ l.p-index;
  left : ones_at l.params l.others 0 ≡ ones_at l.params l.others l.p-index;
}
