use Rattle.std.proofs.Common.{◌≡◌, ◌<◌, ℕ, get_or}
use Rattle.lz_outside.proofs.memory.calls.is_listed.Given as goal

-- no number so far is the call's
abbrev pub invariant-loop-listed : goal.invariant-loop-listed
invariant-loop-listed l = (k : ℕ) → k < l.listed-index → get_or l.listed-items k 0 ≡ l.call → ⊥
