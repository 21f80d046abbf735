use Rattle.std.proofs.Common.{◌≡◌, ◌++◌, map, drop}
use Rattle.lz_scopes.proofs.whole.bases.Given as goal

-- what was made so far and what is left are all
abbrev pub invariant-loop-p : goal.invariant-loop-p
invariant-loop-p l = l.types ++ map (λ p. p.base) (drop l.p-index l.params) ≡ map (λ p. p.base) l.params
