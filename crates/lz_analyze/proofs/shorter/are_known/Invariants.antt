use Rattle.std.proofs.Common.{◌≡◌, ◌⊎◌, take}
use Rattle.std.specs.List.{All, Contains}
use Rattle.lz_cnf.specs.Models.{variable_of}
use Rattle.lz_analyze.proofs.shorter.are_known.Given as goal

abbrev pub invariant-loop-lit : goal.invariant-loop-lit
invariant-loop-lit l = All (λ lit. (variable_of lit ≡ l.variable) ⊎ Contains l.known.keys (variable_of lit)) (take l.lit-index l.clause)
