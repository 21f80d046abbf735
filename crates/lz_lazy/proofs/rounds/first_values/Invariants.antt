use Rattle.std.proofs.Common.{◌≡◌, ◌∷◌, ◌++◌, replicate}
use Rattle.lz_lazy.proofs.rounds.first_values.Given as goal

abbrev pub invariant-loop : goal.invariant-loop
invariant-loop l = l.first ≡ l.flat.first ++ 0 ∷ 0 ∷ replicate l.index 0
