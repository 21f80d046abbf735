use Rattle.std.proofs.Common.{sym, ap, ◌∙◌, Option}
use Rattle.lz_tree.specs.ScopedTrees.{ScopedInitDeclarator}
use Rattle.lz_stations.specs.StationMoves.{single_value, initializer_of}
use Rattle.lz_stations.proofs.StatementsLemmas.{declarator_in, declarator_out}
use Rattle.lz_stations.proofs.places.single_at.Goals as goal

pub returns-then-at-declarators : goal.returns-then-at-declarators
returns-then-at-declarators c =
    c.single_of.ensures ∙
    ap (λ (o : Option ScopedInitDeclarator). single_value (initializer_of o)) (sym (declarator_in c.args.declarators.now c.args.at c.index-declarators-at.result c.if-at-declarators.true c.index-declarators-at.is))

pub returns-else-at-declarators : goal.returns-else-at-declarators
returns-else-at-declarators c = ap (λ (o : Option ScopedInitDeclarator). single_value (initializer_of o)) (sym (declarator_out c.args.declarators.now c.args.at c.if-at-declarators.false))
