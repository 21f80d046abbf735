use Rattle.std.proofs.Common.{◌≡◌, take, map}
use Rattle.std.specs.Prelude.{All}
use Rattle.lz_outside.specs.Memory.Slots.{IsRoomy, file_of}
use Rattle.lz_outside.proofs.memory.folder.slots_of.Given as goal

abbrev pub invariant-loop-file : goal.invariant-loop-file
invariant-loop-file l = record {
  files : map file_of l.slots.items ≡ take l.file-index l.files;
  roomy : All (IsRoomy l.room) l.slots.items;
}
