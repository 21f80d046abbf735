-- Trusted: what the files of a folder hold, and what a read of a piece gives.
use Rattle.std.specs.Prelude.{◌≡◌, ◌≢◌, ℕ, ◌+◌, ◌<◌, ◌≤◌, ◌⊎◌, List, [], ◌++◌, length, take, drop, Option, Some, None, ⊤}

-- what the file of each name holds, None where no file has the name
abbrev pub FileMap : Type 0
FileMap = List ℕ → Option (List ℕ)

-- the folder tells that no file has the name
abbrev pub Lacks : Option FileMap → List ℕ → Type 0
Lacks None name = ⊥
Lacks (Some told) name = told name ≡ None

-- the folder tells that the file of the name holds these bytes
abbrev pub Tells : Option FileMap → List ℕ → List ℕ → Type 0
Tells None name bytes = ⊥
Tells (Some told) name bytes = told name ≡ Some bytes

-- where the folder tells its files, the file of the name holds these bytes
abbrev pub Holds : Option FileMap → List ℕ → List ℕ → Type 0
Holds None name bytes = ⊤
Holds (Some told) name bytes = told name ≡ Some bytes

-- A read from a place gave n bytes of the content into a buffer.
pub record IsPieceOf (content : List ℕ) (place n : ℕ) (before after : List ℕ) : Type 0 where
  -- the bytes given stand in the content
  pub within : (place + n ≤ length content) ⊎ (n ≡ 0)
  -- they are the front of the buffer, whose rest stays
  pub copied : after ≡ take n (drop place content) ++ drop n before
  -- nothing is given only at the end of the content or into an empty buffer
  pub nothing : n ≡ 0 → (length content ≤ place) ⊎ (length before ≡ 0)

-- where the folder tells its files, a file has the name and the read gave a piece of it
abbrev pub GivesPiece : Option FileMap → List ℕ → ℕ → ℕ → List ℕ → List ℕ → Type 0
GivesPiece None name place n before after = ⊤
GivesPiece (Some told) name place n before after =
    (content : List ℕ) × (told name ≡ Some content) × IsPieceOf content place n before after

-- where the folder tells its files, a file has the name and holds more than `limit` bytes
abbrev pub IsLonger : Option FileMap → List ℕ → ℕ → Type 0
IsLonger None name limit = ⊤
IsLonger (Some told) name limit =
    (content : List ℕ) × (told name ≡ Some content) × (limit < length content)

-- where the folder tells a file of the name, it begins with these bytes
abbrev pub BeginsWith : Option FileMap → List ℕ → List ℕ → Type 0
BeginsWith None name bytes = ⊤
BeginsWith (Some told) name bytes =
    (content : List ℕ) → told name ≡ Some content → bytes ≡ take (length bytes) content

-- the bytes of a file, none where there is no file
abbrev pub bytes_or_none : Option (List ℕ) → List ℕ
bytes_or_none None = []
bytes_or_none (Some bytes) = bytes

-- what the told file of the name holds, and nothing where there is none
abbrev pub bytes_of : Option FileMap → List ℕ → List ℕ
bytes_of None name = []
bytes_of (Some told) name = bytes_or_none (told name)

-- each file but that of the name is as before
abbrev pub KeepsOtherFiles : FileMap → FileMap → List ℕ → Type 0
KeepsOtherFiles before after name = (other : List ℕ) → other ≢ name → after other ≡ before other

-- where the folder tells its files, it goes on telling them, and each but that of the name is as before; where it told
-- nothing, it tells nothing afterwards either
abbrev pub KeepsOthers : Option FileMap → Option FileMap → List ℕ → Type 0
KeepsOthers None after name = after ≡ None
KeepsOthers (Some before) None name = ⊥
KeepsOthers (Some before) (Some after) name = KeepsOtherFiles before after name

-- where the folder tells its files, it goes on telling them, the file of the name holds these bytes, and
-- each other one is as before; where it told nothing, it tells nothing afterwards either
abbrev pub Changes : Option FileMap → Option FileMap → List ℕ → List ℕ → Type 0
Changes None after name bytes = after ≡ None
Changes (Some before) None name bytes = ⊥
Changes (Some before) (Some after) name bytes = (after name ≡ Some bytes) × KeepsOtherFiles before after name
