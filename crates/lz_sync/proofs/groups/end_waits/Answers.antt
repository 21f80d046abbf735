use Rattle.lz_sync.proofs.ExpandingLemmas.{wait_turn}
use Rattle.lz_sync.proofs.groups.end_waits.Goals as goal

-- src/groups.rt
pub loop-slot-preserved : goal.loop-slot-preserved
loop-slot-preserved c =
    wait_turn c.args.layout.now _ c.loop-slot.slot _ _ _ _ _ c.loop-slot-test.true c.loop-slot.invariant (rw c.wait_place.ensures at c.fixed_to-to.ensures) c.in_ok-value.ensures c.in_ok-push.ensures.ok
