use Rattle.std.proofs.Common.{◌≡◌, ◌-◌, ◌∷◌, map}
use Rattle.lz_tree.specs.Trees.{external_declaration}
use Rattle.lz_expr.specs.Reading.{and_then, pure, many, behind}
use Rattle.lz_parse.specs.Grammar as spec
use Rattle.lz_parse.proofs.program.read_more.Given as goal

abbrev pub invariant-turns : goal.invariant-turns
invariant-turns l = and_then (spec.more_externals l.height l.tokens) (λ more. pure (external_declaration l.fn.first ∷ more))
    ≡ behind (map external_declaration l.externals) (many spec.begins_external (spec.external l.height) (l._turn-end - l._turn) l.rest)
