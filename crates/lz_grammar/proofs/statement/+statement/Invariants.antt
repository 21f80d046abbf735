use Rattle.std.proofs.Common.{◌≡◌, ◌+◌, ◌-◌, ◌*◌, map}
use Rattle.lz_tree.specs.declared.token.Punct.TheVariants as marks
use Rattle.lz_tree.specs.Languages.{is_mark}
use Rattle.lz_tree.specs.Trees.{statement}
use Rattle.lz_expr.specs.Reading.{until, behind}
use Rattle.lz_expr.specs.Grammar.{mark}
use Rattle.lz_grammar.specs.Grammar.{stmt, parts}
use Rattle.lz_grammar.proofs.statement.+statement.Given as goal

abbrev pub decreases-read_statement : goal.decreases-read_statement
decreases-read_statement l = 8 * l.height

abbrev pub decreases-by_first : goal.decreases-by_first
decreases-by_first l = 8 * l.below + 4

abbrev pub decreases-expression_first : goal.decreases-expression_first
decreases-expression_first l = 8 * l.below + 2

abbrev pub decreases-label_or_end : goal.decreases-label_or_end
decreases-label_or_end l = 8 * l.below + 1

abbrev pub decreases-counted : goal.decreases-counted
decreases-counted l = 8 * l.below + 2

abbrev pub decreases-repeated_behind : goal.decreases-repeated_behind
decreases-repeated_behind l = 8 * l.below + 2

abbrev pub decreases-repeated : goal.decreases-repeated
decreases-repeated l = 8 * l.below + 2

abbrev pub decreases-tested : goal.decreases-tested
decreases-tested l = 8 * l.below + 2

abbrev pub decreases-otherwise : goal.decreases-otherwise
decreases-otherwise l = 8 * l.below + 1

abbrev pub decreases-read_block : goal.decreases-read_block
decreases-read_block l = 8 * l.below + 2

abbrev pub decreases-parts : goal.decreases-parts
decreases-parts l = 8 * l.below + 1

abbrev pub invariant-parts-turns : goal.invariant-parts-turns
invariant-parts-turns l = parts (stmt l.below) l.below l.tokens
    ≡ behind (map statement l.parts.items) (until (is_mark marks.CloseBrace) (mark marks.CloseBrace) (stmt l.below) (l.most - l._turn) l.rest)
