use Rattle.std.proofs.Common.{map}
use Rattle.lz_tree.specs.Trees.{init_declarator}
use Rattle.lz_types.proofs.StatementLemmas.{declarators_more, declarators_end}
use Rattle.lz_types.proofs.declarations.walk_declarators.Goals as goal

pub loop-d-preserved : goal.loop-d-preserved
loop-d-preserved c =
    declarators_more c.args.file.now c.args.base _ c.loop-d.place c.walk_declarator.new.place (map init_declarator c.args.declarators.now) c.args.declarators.now
    c.loop-d.d-index c.d-item.result _ c.loop-d.faults.items c.walk_declarator.new.faults.items c.loop-d.invariant c.loop-d-test.true c.d-item.is
    c.in_ok-walk_declarator.ensures.place c.in_ok-walk_declarator.ensures.faults

pub returns-clause-place : goal.returns-clause-place
returns-clause-place c = (declarators_end c.args.file.now c.args.base _ c.loop-d.place _ c.args.declarators.now c.loop-d.d-index _ c.loop-d.faults.items c.loop-d.invariant c.loop-d-test.false).0

pub returns-clause-faults : goal.returns-clause-faults
returns-clause-faults c = (declarators_end c.args.file.now c.args.base _ c.loop-d.place _ c.args.declarators.now c.loop-d.d-index _ c.loop-d.faults.items c.loop-d.invariant c.loop-d-test.false).1
