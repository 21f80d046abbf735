-- Inner: which words instructions name. What an instruction does rests on these alone, and it changes no other.
use Rattle.std.specs.Prelude.{◌≡◌, ℕ, ◌+◌, ◌<◌, Bool, true, List, length, slice_index, ⊤}
use Rattle.std.specs.List.{AllByRecursion}
use Rattle.lz_flat.specs.Programs.{Expression, constant, word, element, unary, binary, convert, choose, Location, Instruction, sets, takes, assumes, checks, skips, MarkedInstruction}
use Rattle.lz_flat.specs.Instructions.{Did, moved, blocked, broke, value, did}

-- each word that the expression names is one of these
abbrev pub NamesOnly : (ℕ → Type 0) → Expression → Type 0
NamesOnly P (constant v) = ⊤
NamesOnly P (word place) = P place
NamesOnly P (element first len index) = ((k : ℕ) → k < len → P (first + k)) × NamesOnly P index
NamesOnly P (unary op kind of) = NamesOnly P of
NamesOnly P (binary op kind left right) = NamesOnly P left × NamesOnly P right
NamesOnly P (convert from to of) = NamesOnly P of
NamesOnly P (choose test chosen other) = NamesOnly P test × NamesOnly P chosen × NamesOnly P other

-- so with a location
abbrev pub LocationNamesOnly : (ℕ → Type 0) → Location → Type 0
LocationNamesOnly P to = ((k : ℕ) → k < to.len → P (to.first + k)) × NamesOnly P to.index

-- so with an instruction
abbrev pub InstructionNamesOnly : (ℕ → Type 0) → Instruction → Type 0
InstructionNamesOnly P (sets to of) = LocationNamesOnly P to × NamesOnly P of
InstructionNamesOnly P (takes to) = LocationNamesOnly P to
InstructionNamesOnly P (assumes test) = NamesOnly P test
InstructionNamesOnly P (checks test kind line) = NamesOnly P test
InstructionNamesOnly P (skips test by) = NamesOnly P test

-- so with code
abbrev pub CodeNamesOnly : (ℕ → Type 0) → List MarkedInstruction → Type 0
CodeNamesOnly P code = AllByRecursion (λ x. InstructionNamesOnly P x.instr) code

-- the memories agree on these words
abbrev pub AgreeOn : (ℕ → Type 0) → List ℕ → List ℕ → Type 0
AgreeOn P one other = (place : ℕ) → P place → slice_index one place ≡ slice_index other place

-- what was done came to the same, but for words that are none of these
abbrev pub AlikeDid : (ℕ → Type 0) → Did → Did → Type 0
AlikeDid P (moved over one) (moved over' other) = (over' ≡ over) × AgreeOn P one other
AlikeDid P (moved over one) blocked = ⊥
AlikeDid P (moved over one) (broke kind line) = ⊥
AlikeDid P blocked (moved over' other) = ⊥
AlikeDid P blocked blocked = ⊤
AlikeDid P blocked (broke kind line) = ⊥
AlikeDid P (broke kind line) (moved over' other) = ⊥
AlikeDid P (broke kind line) blocked = ⊥
AlikeDid P (broke kind line) (broke kind' line') = (kind' ≡ kind) × (line' ≡ line)

-- from one memory to another the words that are none of these stay, and so does the number of words
pub record Keeps (P : ℕ → Type 0) (before after : List ℕ) : Type 0 where
  pub size : length after ≡ length before
  pub others : (place : ℕ) → (P place → ⊥) → slice_index after place ≡ slice_index before place

-- so where the instruction moved on
abbrev pub DidKeeps : (ℕ → Type 0) → List ℕ → Did → Type 0
DidKeeps P before (moved over after) = Keeps P before after
DidKeeps P before blocked = ⊤
DidKeeps P before (broke kind line) = ⊤

-- a word is one of a set
abbrev pub IsIn : (ℕ → Bool) → ℕ → Type 0
IsIn set place = set place ≡ true

-- An expression that names words of a set alone has one value in memories that agree on the set. An instruction
-- that does comes to the same in them, and changes no word that is not in the set.
abbrev pub RestOnNames : Type 0
RestOnNames =
    (set : ℕ → Bool)
    → ((of : Expression) (one other : List ℕ) → NamesOnly (IsIn set) of → AgreeOn (IsIn set) one other → value of one ≡ value of other)
    × ((instr : Instruction) (input : ℕ) (one other : List ℕ) → InstructionNamesOnly (IsIn set) instr → length one ≡ length other → AgreeOn (IsIn set) one other
    → AlikeDid (IsIn set) (did instr input one) (did instr input other))
    × ((instr : Instruction) (input : ℕ) (memory : List ℕ) → InstructionNamesOnly (IsIn set) instr → DidKeeps (IsIn set) memory (did instr input memory))
