use Rattle.std.proofs.Common.{◌≡◌}
use Rattle.lz_scopes.specs.Constants.{are_constant}
use Rattle.lz_scopes.proofs.ArgumentsLemmas.{left_at}
use Rattle.lz_types.proofs.declarations.are_constant.Given as goal

-- all are constant where those are that are left
abbrev pub invariant-loop-e : goal.invariant-loop-e
invariant-loop-e l = are_constant (left_at l.values 0) ≡ are_constant (left_at l.values l.e-index)
