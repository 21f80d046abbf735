use Rattle.lz_tree.specs.Trees.{statement}
use Rattle.lz_tree.proofs.TreesLemmas.{is_block}
use Rattle.lz_resolve.proofs.StatementsLemmas.{made_body, body_behind}
use Rattle.lz_resolve.proofs.functions.resolve_body.Goals as goal

pub returns-in_ok-parts-in-Block-clause-place : goal.returns-in_ok-parts-in-Block-clause-place
returns-in_ok-parts-in-Block-clause-place c =
    body_behind c.args.place.now c.resolve_parts.new.place (statement c.args.body.now) _ (is_block c.args.body.now c.in-Block.parts c.in-Block.is)
    (rw c.deref.ensures.value at c.in_ok-parts-in-Block.ensures.place)

pub returns-in_ok-parts-in-Block-clause-tree : goal.returns-in_ok-parts-in-Block-clause-tree
returns-in_ok-parts-in-Block-clause-tree c =
    made_body c.args.file.now c.args.place.now (statement c.args.body.now) _ _ _ (is_block c.args.body.now c.in-Block.parts c.in-Block.is)
    (rw c.deref.ensures.value at c.in_ok-parts-in-Block.ensures.tree) c.block_of.ensures
