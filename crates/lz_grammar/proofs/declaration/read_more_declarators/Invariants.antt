use Rattle.std.proofs.Common.{◌≡◌, ◌∷◌, ◌-◌, map}
use Rattle.lz_tree.specs.declared.token.Punct.TheVariants as marks
use Rattle.lz_tree.specs.Languages.{is_mark}
use Rattle.lz_tree.specs.Trees.{init_declarator}
use Rattle.lz_expr.specs.Reading.{and_then, pure, until, behind}
use Rattle.lz_expr.specs.Grammar.{mark, expr}
use Rattle.lz_grammar.specs.Grammar.{next_declarator, more_declarators}
use Rattle.lz_grammar.proofs.declaration.read_more_declarators.Given as goal

abbrev pub invariant-turns : goal.invariant-turns
invariant-turns l = and_then (more_declarators expr l.height l.tokens) (λ more. pure (init_declarator l.fn.first ∷ more))
    ≡ behind (map init_declarator l.declarators) (until (is_mark marks.Semicolon) (mark marks.Semicolon) (next_declarator expr l.height) (l._turn-end - l._turn) l.rest)
