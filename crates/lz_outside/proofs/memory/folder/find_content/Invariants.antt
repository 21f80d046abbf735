use Rattle.std.proofs.Common.{◌≡◌, drop, map}
use Rattle.lz_outside.specs.Memory.Folder.{content_of}
use Rattle.lz_outside.specs.Memory.Slots.{file_of}
use Rattle.lz_outside.proofs.memory.folder.find_content.Given as goal

-- the files that are left decide
abbrev pub invariant-loop-slot : goal.invariant-loop-slot
invariant-loop-slot l =
    content_of (map file_of (drop l.slot-index l.slots)) l.name ≡ content_of (map file_of l.slots) l.name
