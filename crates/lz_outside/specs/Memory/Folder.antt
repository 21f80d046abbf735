-- Inner: a folder in memory, as contracts see it.
use Rattle.std.specs.Prelude.{◌≡◌, ◌≢◌, ℕ, ◌<◌, ◌⊎◌, List, [], ◌∷◌, Option, Some, None, AllPairs, cond, length}
use Rattle.std.specs.Str.{bytes_eq}
use Rattle.lz_outside.specs.declared.memory.folder.File.{File}

-- its files, how many further ones there may be, how many bytes a file is filled to, the numbers of the
-- calls that fail, how many calls were made, and how many reads and writes failed
pub record FolderState : Type 0 where
  pub listing : List File
  pub spare : ℕ
  pub room : ℕ
  pub fails : List ℕ
  pub calls : ℕ
  pub read_faults : ℕ
  pub write_faults : ℕ

-- what the first file of the name holds
abbrev pub content_of : List File → List ℕ → Option (List ℕ)
content_of [] name = None
content_of (file ∷ rest) name = cond (bytes_eq file.name name) (Some file.bytes) (content_of rest name)

-- the first file of the name holds these bytes; where there was none, it stands at the end
abbrev pub with_content : List File → List ℕ → List ℕ → List File
with_content [] name bytes = record { name = name; bytes = bytes } ∷ []
with_content (file ∷ rest) name bytes =
    cond
    (bytes_eq file.name name)
    (record { name = name; bytes = bytes } ∷ rest)
    (file ∷ with_content rest name bytes)

-- no two files have one name
abbrev pub HaveOwnNames : List File → Type 0
HaveOwnNames listing = AllPairs (λ a b. a.name ≢ b.name) listing

-- no file has the name, and none can be made: no further one is left, or the name is too long
abbrev pub HasNoPlace : FolderState → List ℕ → Type 0
HasNoPlace folder name =
    (content_of folder.listing name ≡ None) × ((folder.spare ≡ 0) ⊎ (255 < length name))
