-- Inner: which threads name a word, as a tag in the upper half of its first value: 0 for none, one more than its number for a thread alone, and the highest tag where several do.
use Rattle.std.specs.Prelude.{◌≡◌, ◌⊎◌, ℕ, zero, suc, ◌+◌, ◌*◌, ◌/◌, ◌%◌, ◌==◌, Bool, true, ◌&&◌, List, [], ◌∷◌, slice_index, slice_set, if◌then◌else◌}
use Rattle.std.specs.List.{AllByRecursion}
use Rattle.lz_base.specs.Words.{value_bound}
use Rattle.lz_flat.specs.Programs.{Expression, constant, word, element, unary, binary, convert, choose, Location, Instruction, sets, takes, assumes, checks, skips, MarkedInstruction}
use Rattle.lz_flat.specs.WellFormed.{IsInstructionOf}

-- the tag of a word that several threads name
abbrev pub shared_tag : ℕ
shared_tag = 4294967295

-- the tag of a word
abbrev pub tag_of : List ℕ → ℕ → ℕ
tag_of tags w = slice_index tags w / value_bound

-- the word has this tag, or that of a shared word
abbrev pub IsTagged : ℕ → List ℕ → ℕ → Type 0
IsTagged tag tags w = (tag_of tags w ≡ tag) ⊎ (tag_of tags w ≡ shared_tag)

-- the thread whose word it is, as one more than its number; 0 where it is no thread's or shared
abbrev pub owner_of : List ℕ → ℕ → ℕ
owner_of tags w = if tag_of tags w == shared_tag then 0 else tag_of tags w

-- the words that the code names are words of n
abbrev pub NamesWithin : ℕ → List MarkedInstruction → Type 0
NamesWithin n code = AllByRecursion (λ x. IsInstructionOf n x.instr) code

-- ---- claims

-- the tag of a word of this tag, where the thread of a tag names it too
abbrev pub joined : ℕ → ℕ → ℕ
joined tag held = if held == 0 then tag else (if held == tag then tag else shared_tag)

-- a first value with its tag, where the thread of a tag names its word too
unfoldable pub claimed : ℕ → ℕ → ℕ
claimed tag held = held % value_bound + value_bound * joined tag (held / value_bound)

-- the tags after the thread of a tag has claimed a word
unfoldable pub claim_word : ℕ → ℕ → List ℕ → List ℕ
claim_word tag w tags = slice_set tags w (claimed tag (slice_index tags w))

-- so many words from this one on
unfoldable pub claim_range : ℕ → ℕ → ℕ → List ℕ → List ℕ
claim_range tag first zero tags = tags
claim_range tag first (suc len) tags = claim_range tag (suc first) len (claim_word tag first tags)

-- each word that an expression names
unfoldable pub claim : ℕ → Expression → List ℕ → List ℕ
claim tag (constant v) tags = tags
claim tag (word place) tags = claim_word tag place tags
claim tag (element first len index) tags = claim tag index (claim_range tag first len tags)
claim tag (unary op kind of) tags = claim tag of tags
claim tag (binary op kind left right) tags = claim tag right (claim tag left tags)
claim tag (convert from to of) tags = claim tag of tags
claim tag (choose test chosen other) tags = claim tag other (claim tag chosen (claim tag test tags))

-- a location
unfoldable pub claim_location : ℕ → Location → List ℕ → List ℕ
claim_location tag to tags = claim tag to.index (claim_range tag to.first to.len tags)

-- an instruction
unfoldable pub claim_instruction : ℕ → Instruction → List ℕ → List ℕ
claim_instruction tag (sets to of) tags = claim tag of (claim_location tag to tags)
claim_instruction tag (takes to) tags = claim_location tag to tags
claim_instruction tag (assumes test) tags = claim tag test tags
claim_instruction tag (checks test kind line) tags = claim tag test tags
claim_instruction tag (skips test by) tags = claim tag test tags

-- the code of a thread
unfoldable pub claim_code : ℕ → List MarkedInstruction → List ℕ → List ℕ
claim_code tag [] tags = tags
claim_code tag (x ∷ xs) tags = claim_code tag xs (claim_instruction tag x.instr tags)

-- the threads, the first of which has this tag
unfoldable pub claim_threads : ℕ → List (List MarkedInstruction) → List ℕ → List ℕ
claim_threads tag [] tags = tags
claim_threads tag (code ∷ rest) tags = claim_threads (suc tag) rest (claim_code tag code tags)

-- ---- tests

-- so many words from this one on have the tag
unfoldable pub all_tagged : List ℕ → ℕ → ℕ → ℕ → Bool
all_tagged tags tag first zero = true
all_tagged tags tag first (suc len) = tag_of tags first == tag && all_tagged tags tag (suc first) len

-- each word that the expression names has it
unfoldable pub owns : List ℕ → ℕ → Expression → Bool
owns tags tag (constant v) = true
owns tags tag (word place) = tag_of tags place == tag
owns tags tag (element first len index) = all_tagged tags tag first len && owns tags tag index
owns tags tag (unary op kind of) = owns tags tag of
owns tags tag (binary op kind left right) = owns tags tag left && owns tags tag right
owns tags tag (convert from to of) = owns tags tag of
owns tags tag (choose test chosen other) = owns tags tag test && owns tags tag chosen && owns tags tag other

-- each word that the location names
unfoldable pub owns_location : List ℕ → ℕ → Location → Bool
owns_location tags tag to = all_tagged tags tag to.first to.len && owns tags tag to.index

-- each word that the instruction names
unfoldable pub owns_instruction : List ℕ → ℕ → Instruction → Bool
owns_instruction tags tag (sets to of) = owns_location tags tag to && owns tags tag of
owns_instruction tags tag (takes to) = owns_location tags tag to
owns_instruction tags tag (assumes test) = owns tags tag test
owns_instruction tags tag (checks test kind line) = owns tags tag test
owns_instruction tags tag (skips test by) = owns tags tag test
