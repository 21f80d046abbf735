use Rattle.std.proofs.Common.{map}
use Rattle.lz_tree.specs.Trees.{init_declarator}
use Rattle.lz_resolve.proofs.FunctionsLemmas.{objects_more, objects_all}
use Rattle.lz_resolve.proofs.functions.declare_all.Goals as goal

pub loop-d-preserved : goal.loop-d-preserved
loop-d-preserved c =
    objects_more c.args.base _ c.loop-d.place c.declare_one.new.place (map init_declarator c.args.declarators.now) c.args.declarators.now c.loop-d.d-index c.d-item.result
    c.loop-d.invariant c.loop-d-test.true c.d-item.is c.in_ok-declare_one.ensures

pub returns : goal.returns
returns c = objects_all c.args.base _ c.loop-d.place (map init_declarator c.args.declarators.now) c.args.declarators.now c.loop-d.d-index c.loop-d.invariant c.loop-d-test.false
