-- Inner: the form of the instructions of an operation.
use Rattle.std.specs.Prelude.{ℕ, ◌<◌, ◌≤◌, ◌⊎◌, Bool, List, [], ◌∷◌, ⊤}
use Rattle.std.specs.List.{AllByRecursion}
use Rattle.lz_flat.specs.Programs.{Expression, Location, Instruction, sets, takes, assumes, checks, skips}
use Rattle.lz_flat.specs.Naming.{NamesOnly, LocationNamesOnly, InstructionNamesOnly, IsIn}
use Rattle.lz_flat.specs.WellFormed.{IsExpressionOf, IsLocationOf, IsInstructionOf}
use Rattle.lz_flat.specs.Lengths.{IsLength, HasLengths, LocationHasLengths, InstructionHasLengths}
use Rattle.lz_sync.specs.declared.layout.Layout.{Layout}
use Rattle.lz_sync.specs.Standing.{words_of}
use Rattle.lz_sync.specs.Operations.{Operation, reads, writes, resets, locks, unlocks, parks, wakes, signals, broadcasts, creates, joins, holds_on, holds_off, ends}

-- a write or a check
abbrev pub IsLater : Instruction → Type 0
IsLater (sets to of) = ⊤
IsLater (takes to) = ⊥
IsLater (assumes test) = ⊥
IsLater (checks test kind line) = ⊤
IsLater (skips test by) = ⊥

-- an assumption, and after it writes and checks alone
abbrev pub BeginsWithTest : List Instruction → Type 0
BeginsWithTest [] = ⊥
BeginsWithTest (sets to of ∷ rest) = ⊥
BeginsWithTest (takes to ∷ rest) = ⊥
BeginsWithTest (assumes test ∷ rest) = AllByRecursion IsLater rest
BeginsWithTest (checks test kind line ∷ rest) = ⊥
BeginsWithTest (skips test by ∷ rest) = ⊥

-- ---- the words that are named

-- each word that the operation names is one of these
abbrev pub OperationNamesOnly : (ℕ → Type 0) → Operation → Type 0
OperationNamesOnly P (reads from to) = NamesOnly P from.index × LocationNamesOnly P to
OperationNamesOnly P (writes to of) = NamesOnly P to.index × NamesOnly P of
OperationNamesOnly P (resets m) = NamesOnly P m.index
OperationNamesOnly P (locks m) = NamesOnly P m.index
OperationNamesOnly P (unlocks m) = NamesOnly P m.index
OperationNamesOnly P (parks c m) = NamesOnly P c.index × NamesOnly P m.index
OperationNamesOnly P (wakes c m) = NamesOnly P c.index × NamesOnly P m.index
OperationNamesOnly P (signals c w) = NamesOnly P c.index × NamesOnly P w
OperationNamesOnly P (broadcasts c) = NamesOnly P c.index
OperationNamesOnly P (creates slot start argument) = NamesOnly P argument
OperationNamesOnly P (joins slot) = NamesOnly P slot
OperationNamesOnly P holds_on = ⊤
OperationNamesOnly P holds_off = ⊤
OperationNamesOnly P (ends whole) = ⊤

-- a word that stands for a state, or one of these
abbrev pub IsStateOr : Layout → (ℕ → Type 0) → ℕ → Type 0
IsStateOr layout P place = (place < words_of layout) ⊎ P place

-- Instructions name no words but those that stand for a state and those that the operation names: those of every set
-- that has all of these.
abbrev pub NamesNoOthers : Layout → Operation → List Instruction → Type 0
NamesNoOthers layout op instructions =
    (set : ℕ → Bool) → OperationNamesOnly (IsIn set) op → AllByRecursion (InstructionNamesOnly (IsStateOr layout (IsIn set))) instructions

-- ---- constants and lengths

-- the expression names words of n alone, its constants are below 2 ^ 32, and its lengths are those of arrays
abbrev pub IsFormed : ℕ → Expression → Type 0
IsFormed n e = IsExpressionOf n e × HasLengths e

-- so with a spot, which names no words by itself
abbrev pub IsFormedSpot : ℕ → Location → Type 0
IsFormedSpot n spot = IsLength spot.len × IsFormed n spot.index

-- so with what is written
abbrev pub IsFormedLocation : ℕ → Location → Type 0
IsFormedLocation n to = IsLocationOf n to × LocationHasLengths to

-- so with an instruction
abbrev pub IsFormedInstruction : ℕ → Instruction → Type 0
IsFormedInstruction n instr = IsInstructionOf n instr × InstructionHasLengths instr

-- so with an operation
abbrev pub IsFormedOperation : ℕ → Operation → Type 0
IsFormedOperation n (reads from to) = IsFormedSpot n from × IsFormedLocation n to
IsFormedOperation n (writes to of) = IsFormedSpot n to × IsFormed n of
IsFormedOperation n (resets m) = IsFormedSpot n m
IsFormedOperation n (locks m) = IsFormedSpot n m
IsFormedOperation n (unlocks m) = IsFormedSpot n m
IsFormedOperation n (parks c m) = IsFormedSpot n c × IsFormedSpot n m
IsFormedOperation n (wakes c m) = IsFormedSpot n c × IsFormedSpot n m
IsFormedOperation n (signals c w) = IsFormedSpot n c × IsFormed n w
IsFormedOperation n (broadcasts c) = IsFormedSpot n c
IsFormedOperation n (creates slot start argument) = IsFormed n argument
IsFormedOperation n (joins slot) = IsFormed n slot
IsFormedOperation n holds_on = ⊤
IsFormedOperation n holds_off = ⊤
IsFormedOperation n (ends whole) = ⊤

-- so with instructions, in every memory that has room for the words that stand for a state
abbrev pub FormsAlike : Layout → Operation → List Instruction → Type 0
FormsAlike layout op instructions = (n : ℕ) → words_of layout ≤ n → IsFormedOperation n op → AllByRecursion (IsFormedInstruction n) instructions
