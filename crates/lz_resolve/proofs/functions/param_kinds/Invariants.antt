use Rattle.std.proofs.Common.{◌≡◌, ◌++◌, drop}
use Rattle.lz_resolve.specs.ScopedPrograms.{param_kinds}
use Rattle.lz_resolve.proofs.functions.param_kinds.Given as goal

abbrev pub invariant-loop-param : goal.invariant-loop-param
invariant-loop-param l = param_kinds l.params ≡ l.kinds ++ param_kinds (drop l.param-index l.params)
