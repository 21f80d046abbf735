use Rattle.std.proofs.Common.{◌≡◌, ◌∷◌, ◌-◌}
use Rattle.lz_tree.specs.declared.token.Punct.TheVariants as marks
use Rattle.lz_tree.specs.Languages.{is_mark}
use Rattle.lz_expr.specs.Reading.{and_then, pure, until, behind}
use Rattle.lz_expr.specs.Grammar.{mark}
use Rattle.lz_grammar.specs.Grammar.{next_param, more_params}
use Rattle.lz_grammar.proofs.params.more_params.Given as goal

abbrev pub invariant-turns : goal.invariant-turns
invariant-turns l = and_then (more_params l.tokens) (λ more. pure (l.fn.first ∷ more))
    ≡ behind l.params (until (is_mark marks.CloseParen) (mark marks.CloseParen) next_param (l._turn-end - l._turn) l.rest)
