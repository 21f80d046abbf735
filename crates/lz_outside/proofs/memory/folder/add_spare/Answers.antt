use Rattle.std.proofs.Common.{arith, ◌∙◌, ap, List, length, take, length-append, ◌≤◌}
use Rattle.std.proofs.lemmas.List.{take_all, take-append-le}
use Rattle.lz_outside.specs.declared.memory.slot.Slot.{Slot}
use Rattle.lz_outside.specs.Memory.Slots.{IsRoomy}
use Rattle.lz_outside.proofs.memory.InSlotsLemmas.{All-push}
use Rattle.lz_outside.proofs.memory.folder.add_spare.Goals as goal

pub loop-init : goal.loop-init
loop-init c = record {
  count = omega arith;
  front = take_all _ _ (omega arith);
  roomy = c.requires;
}

pub loop-preserved : goal.loop-preserved
loop-preserved c = record {
  count = omega (arith, ap (λ (x : List Slot). length x) c.in_ok-push.ensures.items, length-append {A = Slot});
  front =
      let k : length c.args.slots.now.items ≤ length c.loop.slots.items = omega arith in
      ap (λ (x : List Slot). take (length c.args.slots.now.items) x) c.in_ok-push.ensures.items
      ∙ take-append-le _ _ _ k ∙ c.loop.invariant.front;
  roomy = rw c.in_ok-push.ensures.items (All-push (IsRoomy c.args.room) _ _ c.loop.invariant.roomy c.in_ok-slot.ensures.roomy);
}

pub returns-clause-count : goal.returns-clause-count
returns-clause-count c = omega arith
