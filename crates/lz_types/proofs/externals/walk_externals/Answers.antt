use Rattle.std.proofs.Common.{map}
use Rattle.lz_tree.specs.Trees.{external_declaration}
use Rattle.lz_types.proofs.ExternalLemmas.{externals_more, externals_end}
use Rattle.lz_types.proofs.externals.walk_externals.Goals as goal

pub loop-e-preserved : goal.loop-e-preserved
loop-e-preserved c =
    externals_more c.args.file.now _ c.loop-e.place c.walk_external.new.place (map external_declaration c.args.externals.now) c.args.externals.now
    c.loop-e.e-index c.e-item.result _ c.loop-e.faults.items c.walk_external.new.faults.items c.loop-e.invariant c.loop-e-test.true c.e-item.is
    c.in_ok-walk_external.ensures.place c.in_ok-walk_external.ensures.faults

pub returns : goal.returns
returns c = externals_end c.args.file.now _ c.loop-e.place _ c.args.externals.now c.loop-e.e-index _ c.loop-e.faults.items c.loop-e.invariant c.loop-e-test.false
