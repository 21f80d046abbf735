use Rattle.std.proofs.Common.{◌+◌, ◌-◌, ◌≡◌, ℕ, suc, ◌<◌, ◌≤◌, map, ◌∷◌, ◌*◌}
use Rattle.lz_expr.specs.Reading.{and_then, pure, until, behind, climb}
use Rattle.lz_tree.specs.declared.token.Punct.TheVariants as marks
use Rattle.lz_tree.specs.Languages.{is_mark}
use Rattle.lz_tree.specs.Trees.{expression, expressions_of, binary}
use Rattle.lz_tree.specs.Height.{expression_height, highest}
use Rattle.lz_expr.specs.Grammar as spec
use Rattle.lz_expr.proofs.expression.+expression.Given as goal

abbrev pub decreases-read_class : goal.decreases-read_class
decreases-read_class l = 64 * l.height

abbrev pub decreases-classes : goal.decreases-classes
decreases-classes l = 64 * l.below + 2 * l.class + 20

abbrev pub decreases-operations : goal.decreases-operations
decreases-operations l = 64 * l.below + 2 * l.class + 19

abbrev pub decreases-conditional : goal.decreases-conditional
decreases-conditional l = 64 * l.below + 41

abbrev pub decreases-assignment : goal.decreases-assignment
decreases-assignment l = 64 * l.below + 43

abbrev pub decreases-prefix : goal.decreases-prefix
decreases-prefix l = 64 * l.below + 18

abbrev pub decreases-parenthesized : goal.decreases-parenthesized
decreases-parenthesized l = 64 * l.below + 15

abbrev pub decreases-signed : goal.decreases-signed
decreases-signed l = 64 * l.below + 15

abbrev pub decreases-addressed : goal.decreases-addressed
decreases-addressed l = 64 * l.below + 15

abbrev pub decreases-step_before : goal.decreases-step_before
decreases-step_before l = 64 * l.below + 15

abbrev pub decreases-named : goal.decreases-named
decreases-named l = 64 * l.below + 15

abbrev pub decreases-target : goal.decreases-target
decreases-target l = 64 * l.below + 8

abbrev pub decreases-indexed : goal.decreases-indexed
decreases-indexed l = 64 * l.below + 6

abbrev pub decreases-arguments : goal.decreases-arguments
decreases-arguments l = 64 * l.below + 8

abbrev pub decreases-more_arguments : goal.decreases-more_arguments
decreases-more_arguments l = 64 * l.below + 6

abbrev pub decreases-next_argument : goal.decreases-next_argument
decreases-next_argument l = 64 * l.below + 4

abbrev pub invariant-more_arguments-turns : goal.invariant-more_arguments-turns
invariant-more_arguments-turns l = record {
  tall : l.high ≡ highest (expressions_of (map expression l.args.items));
  low : l.high ≤ l.below;
  whole : and_then (spec.more_arguments (spec.expr l.below) l.below l.tokens) (λ more. pure (expression l.fn.first ∷ more))
      ≡ behind (map expression l.args.items) (until (is_mark marks.CloseParen) (spec.mark marks.CloseParen) (spec.next_argument (spec.expr l.below) l.below) (l._turn-end - l._turn) l.rest);
}

abbrev pub invariant-operations-row : goal.invariant-operations-row
invariant-operations-row l = record {
  tall : l.high ≡ expression_height (expression l.left);
  low : l.high ≤ suc l.below;
  rows : (turns : ℕ) × (suc l.below < turns + l.high)
      × (spec.operations (spec.expr l.below) l.below (l.class - 1) (spec.classes (spec.expr l.below) l.below (l.class - 1)) l.tokens
      ≡ climb expression_height (spec.operator_shown (suc (l.class - 1))) binary (suc l.below) (spec.expr l.below (l.class - 1)) l.line turns (expression l.left) l.rest);
}

abbrev pub decreases-operations-row : goal.decreases-operations-row
decreases-operations-row l = l.below + 1 - l.high
