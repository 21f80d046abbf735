use Rattle.std.proofs.Common.{◌≡◌, drop}
use Rattle.lz_scopes.specs.Scopes.{with_params}
use Rattle.lz_resolve.proofs.functions.declare_params.Given as goal

abbrev pub invariant-loop-param : goal.invariant-loop-param
invariant-loop-param l = with_params l.initial.place l.params ≡ with_params l.place (drop l.param-index l.params)
