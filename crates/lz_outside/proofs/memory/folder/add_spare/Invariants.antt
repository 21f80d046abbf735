use Rattle.std.proofs.Common.{◌≡◌, ◌+◌, length, take}
use Rattle.std.specs.Prelude.{All}
use Rattle.lz_outside.specs.Memory.Slots.{IsRoomy}
use Rattle.lz_outside.proofs.memory.folder.add_spare.Given as goal

abbrev pub invariant-loop : goal.invariant-loop
invariant-loop l = record {
  count : length l.slots.items ≡ length l.initial.slots.items + l.counter;
  front : take (length l.initial.slots.items) l.slots.items ≡ l.initial.slots.items;
  roomy : All (IsRoomy l.room) l.slots.items;
}
