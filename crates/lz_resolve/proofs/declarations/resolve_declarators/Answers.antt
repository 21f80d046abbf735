use Rattle.std.proofs.Common.{map}
use Rattle.lz_tree.specs.Trees.{init_declarator}
use Rattle.lz_resolve.proofs.DeclarationsLemmas.{declarators_more, declarators_all}
use Rattle.lz_resolve.proofs.declarations.resolve_declarators.Goals as goal

pub loop-d-preserved : goal.loop-d-preserved
loop-d-preserved c =
    declarators_more c.args.file.now c.args.base _ c.loop-d.place c.resolve_declarator.new.place (map init_declarator c.args.declarators.now) c.args.declarators.now
    c.loop-d.d-index c.d-item.result c.in_ok-scoped.scoped c.loop-d.all _ c.loop-d.invariant c.loop-d-test.true c.d-item.is
    c.in_ok-scoped.ensures.place c.in_ok-scoped.ensures.tree c.in_ok-push.ensures.ok

pub returns-clause-place : goal.returns-clause-place
returns-clause-place c = (declarators_all c.args.file.now c.args.base _ c.loop-d.place _ c.args.declarators.now c.loop-d.d-index c.loop-d.all c.loop-d.invariant c.loop-d-test.false).0

pub returns-clause-tree : goal.returns-clause-tree
returns-clause-tree c = (declarators_all c.args.file.now c.args.base _ c.loop-d.place _ c.args.declarators.now c.loop-d.d-index c.loop-d.all c.loop-d.invariant c.loop-d-test.false).1
