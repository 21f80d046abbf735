-- Inner: when a flat program is well marked, and when a straight program is well formed.
use Rattle.std.specs.Prelude.{◌≡◌, ℕ, suc, ◌+◌, ◌<◌, ◌≤◌, Bool, true, List, [], ◌∷◌, length, ⊤}
use Rattle.std.specs.List.{AllByRecursion}
use Rattle.lz_base.specs.Words.{value_bound}
use Rattle.lz_flat.specs.Programs.{Expression, constant, word, element, unary, binary, convert, choose, Location, Instruction, sets, takes, assumes, checks, skips, MarkedInstruction, FlatProgram, Statement, StraightProgram}

-- a number below 2 ^ 32
abbrev pub IsWord : ℕ → Type 0
IsWord v = v < value_bound

-- each of len words from first on is one of n
abbrev pub AreWithin : ℕ → ℕ → ℕ → Type 0
AreWithin n first len = (k : ℕ) → k < len → first + k < n

-- each word that the expression names is one of n, and each constant is below 2 ^ 32
abbrev pub IsExpressionOf : ℕ → Expression → Type 0
IsExpressionOf n (constant v) = IsWord v
IsExpressionOf n (word place) = place < n
IsExpressionOf n (element first len index) = AreWithin n first len × IsExpressionOf n index
IsExpressionOf n (unary op kind of) = IsExpressionOf n of
IsExpressionOf n (binary op kind left right) = IsExpressionOf n left × IsExpressionOf n right
IsExpressionOf n (convert from to of) = IsExpressionOf n of
IsExpressionOf n (choose test chosen other) = IsExpressionOf n test × IsExpressionOf n chosen × IsExpressionOf n other

-- so with a location
abbrev pub IsLocationOf : ℕ → Location → Type 0
IsLocationOf n to = AreWithin n to.first to.len × IsExpressionOf n to.index

-- so with an instruction
abbrev pub IsInstructionOf : ℕ → Instruction → Type 0
IsInstructionOf n (sets to of) = IsLocationOf n to × IsExpressionOf n of
IsInstructionOf n (takes to) = IsLocationOf n to
IsInstructionOf n (assumes test) = IsExpressionOf n test
IsInstructionOf n (checks test kind line) = IsExpressionOf n test
IsInstructionOf n (skips test by) = IsExpressionOf n test

-- ---- flat programs

-- an assumption is visible
abbrev pub IsMarkedSo : Instruction → Bool → Type 0
IsMarkedSo (sets to of) visible = ⊤
IsMarkedSo (takes to) visible = ⊤
IsMarkedSo (assumes test) visible = visible ≡ true
IsMarkedSo (checks test kind line) visible = ⊤
IsMarkedSo (skips test by) visible = ⊤

-- a skip goes forward, and not past the end, which is so many instructions on
abbrev pub IsForward : ℕ → Instruction → Type 0
IsForward left (sets to of) = ⊤
IsForward left (takes to) = ⊤
IsForward left (assumes test) = ⊤
IsForward left (checks test kind line) = ⊤
IsForward left (skips test by) = (1 ≤ by) × (by ≤ left)

-- the code of a thread names words of n alone, its assumptions are visible, and its skips go forward
abbrev pub IsCodeOf : ℕ → List MarkedInstruction → Type 0
IsCodeOf n [] = ⊤
IsCodeOf n (first ∷ rest) =
    IsInstructionOf n first.instr × IsMarkedSo first.instr first.visible × IsForward (suc (length rest)) first.instr × IsCodeOf n rest

-- the first instruction of the code is visible, or there is none
abbrev pub BeginsVisible : List MarkedInstruction → Type 0
BeginsVisible [] = ⊤
BeginsVisible (first ∷ rest) = first.visible ≡ true

-- A flat program is well marked: its words are words, its code names its own words alone, each assumption
-- and the first instruction of each thread is visible, and skips go forward.
pub record IsWellMarked (flat : FlatProgram) : Type 0 where
  pub words : AllByRecursion IsWord flat.first
  pub codes : AllByRecursion (IsCodeOf (length flat.first)) flat.threads
  pub begins : AllByRecursion BeginsVisible flat.threads

-- ---- straight programs

-- an instruction of a straight program
abbrev pub IsNoSkip : Instruction → Type 0
IsNoSkip (sets to of) = ⊤
IsNoSkip (takes to) = ⊤
IsNoSkip (assumes test) = ⊤
IsNoSkip (checks test kind line) = ⊤
IsNoSkip (skips test by) = ⊥

-- a statement that names words of n alone, and is no skip
abbrev pub IsStatementOf : ℕ → Statement → Type 0
IsStatementOf n statement =
    IsExpressionOf n statement.guard × IsInstructionOf n statement.instr × IsNoSkip statement.instr

-- A straight program is well formed: its words are words, its statements name its own words alone, and none
-- is a skip.
pub record IsWellFormed (straight : StraightProgram) : Type 0 where
  pub words : AllByRecursion IsWord straight.first
  pub statements : AllByRecursion (IsStatementOf (length straight.first)) straight.list
