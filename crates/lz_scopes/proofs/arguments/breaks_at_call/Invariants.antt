use Rattle.std.proofs.Common.{◌≡◌}
use Rattle.lz_scopes.specs.ExpressionTypes.{wants_of, further_want}
use Rattle.lz_scopes.proofs.ArgumentsLemmas.{breaks_from}
use Rattle.lz_scopes.proofs.arguments.breaks_at_call.Given as goal

-- whether one of all breaks the rule is whether one of those that are left does
abbrev pub invariant-loop-e : goal.invariant-loop-e
invariant-loop-e l = record {
  at : l.argument ≡ l.e-index;
  left : breaks_from l.file l.place l.rule (wants_of l.file l.callee) (further_want l.callee) l.args 0
      ≡ breaks_from l.file l.place l.rule (wants_of l.file l.callee) (further_want l.callee) l.args l.e-index;
}
