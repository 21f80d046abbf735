use Rattle.std.proofs.Common.{◌≡◌, ◌++◌}
use Rattle.lz_scopes.specs.ExpressionTypes.{wants_of, further_want}
use Rattle.lz_types.proofs.WalkLemmas.{faults_from}
use Rattle.lz_types.proofs.walk.+walk.Given as goal

-- what was noted so far and what is left are all
abbrev pub invariant-walk_args-loop-e : goal.invariant-walk_args-loop-e
invariant-walk_args-loop-e l = record {
  at : l.argument ≡ l.e-index;
  left : l.initial.faults.items ++ faults_from l.file l.place (wants_of l.file l.callee) (further_want l.callee) l.args 0
      ≡ l.faults.items ++ faults_from l.file l.place (wants_of l.file l.callee) (further_want l.callee) l.args l.e-index;
}
