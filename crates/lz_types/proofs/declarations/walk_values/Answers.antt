use Rattle.std.proofs.Common.{[]}
use Rattle.std.proofs.Math.Seq.{drop-nil}
use Rattle.lz_scopes.specs.declared.value_types.Want.{Want}
use Rattle.lz_types.proofs.WalkLemmas.{faults_more, faults_done}
use Rattle.lz_types.proofs.declarations.walk_values.Goals as goal

pub loop-e-preserved : goal.loop-e-preserved
loop-e-preserved c =
    faults_more c.args.file.now c.args.place.now [] c.args.want _ c.loop-e.faults.items c.walk.new.faults.items
    c.args.values.now c.loop-e.e-index c.e-item.result c.loop-e.invariant c.loop-e-test.true c.e-item.is
    (rw (drop-nil {A = Want} c.loop-e.e-index) c.in_ok-walk.ensures)

pub returns : goal.returns
returns c =
    faults_done c.args.file.now c.args.place.now [] c.args.want _ c.loop-e.faults.items
    c.args.values.now c.loop-e.e-index c.loop-e.invariant c.loop-e-test.false
