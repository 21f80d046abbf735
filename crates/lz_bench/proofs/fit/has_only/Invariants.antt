use Rattle.std.proofs.Common.{◌<◌, take}
use Rattle.std.specs.List.{All}
use Rattle.lz_cnf.specs.Models.{variable_of}
use Rattle.lz_bench.proofs.fit.has_only.Given as goal

abbrev pub invariant-loop-lit : goal.invariant-loop-lit
invariant-loop-lit l = All (λ lit. variable_of lit < l.variables) (take l.lit-index l.clause)
