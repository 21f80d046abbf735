-- Inner: the slots of a folder in memory, and the files in them.
use Rattle.std.specs.Prelude.{◌≡◌, ℕ, ◌+◌, ◌≤◌, List, [], ◌∷◌, Option, Some, None, cond, map, take}
use Rattle.std.specs.Str.{bytes_eq}
use Rattle.lz_outside.specs.declared.memory.folder.File.{File}
use Rattle.lz_outside.specs.declared.memory.slot.Slot.{Slot}

-- the file in a slot
abbrev pub file_of : Slot → File
file_of slot = record { name = slot.name.content; bytes = slot.bytes.content }

-- the files in the first slots
abbrev pub files_of : ℕ → List Slot → List File
files_of used slots = map file_of (take used slots)

-- the slot has room for so many bytes, and for each name of a further file
pub record IsRoomy (room : ℕ) (slot : Slot) : Type 0 where
  pub name_fits : 255 ≤ slot.name.room
  pub bytes_fit : room ≤ slot.bytes.room

-- where the first file of the name stands, counted from a number on
abbrev pub place_from : ℕ → List File → List ℕ → Option ℕ
place_from place [] name = None
place_from place (file ∷ rest) name =
    cond (bytes_eq file.name name) (Some place) (place_from (place + 1) rest name)
