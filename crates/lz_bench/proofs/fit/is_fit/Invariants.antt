use Rattle.std.proofs.Common.{◌≢◌, ◌<◌, [], take}
use Rattle.std.specs.List.{All}
use Rattle.lz_cnf.specs.Models.{variable_of}
use Rattle.lz_bench.proofs.fit.is_fit.Given as goal

abbrev pub invariant-loop-clause : goal.invariant-loop-clause
invariant-loop-clause l = All (λ c. All (λ lit. variable_of lit < l.cnf.variables) c) (take l.clause-index l.clause-items) × All (λ c. c ≢ []) (take l.clause-index l.clause-items)
