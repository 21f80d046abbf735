use Rattle.std.proofs.Common.{◌≡◌, drop, map}
use Rattle.lz_outside.specs.Memory.Slots.{file_of, place_from}
use Rattle.lz_outside.proofs.memory.folder.find_place.Given as goal

-- the files that are left decide
abbrev pub invariant-loop-place : goal.invariant-loop-place
invariant-loop-place l =
    place_from l.place (map file_of (drop l.place l.slots)) l.name ≡ place_from 0 (map file_of l.slots) l.name
