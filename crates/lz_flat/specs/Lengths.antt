-- Inner: the lengths of the elements that programs name.
use Rattle.std.specs.Prelude.{ℕ, ◌≤◌, List, ⊤}
use Rattle.std.specs.List.{AllByRecursion}
use Rattle.lz_base.specs.Limits.{length_limit}
use Rattle.lz_flat.specs.Programs.{Expression, constant, word, element, unary, binary, convert, choose, Location, Instruction, sets, takes, assumes, checks, skips, MarkedInstruction, FlatProgram, Statement, StraightProgram}

-- from 1 to the most that an array may have
abbrev pub IsLength : ℕ → Type 0
IsLength len = (1 ≤ len) × (len ≤ length_limit)

-- the length of each element in the expression is one of an array
abbrev pub HasLengths : Expression → Type 0
HasLengths (constant v) = ⊤
HasLengths (word place) = ⊤
HasLengths (element first len index) = IsLength len × HasLengths index
HasLengths (unary op kind of) = HasLengths of
HasLengths (binary op kind left right) = HasLengths left × HasLengths right
HasLengths (convert from to of) = HasLengths of
HasLengths (choose test chosen other) = HasLengths test × HasLengths chosen × HasLengths other

-- so with a location
abbrev pub LocationHasLengths : Location → Type 0
LocationHasLengths to = IsLength to.len × HasLengths to.index

-- so with an instruction
abbrev pub InstructionHasLengths : Instruction → Type 0
InstructionHasLengths (sets to of) = LocationHasLengths to × HasLengths of
InstructionHasLengths (takes to) = LocationHasLengths to
InstructionHasLengths (assumes test) = HasLengths test
InstructionHasLengths (checks test kind line) = HasLengths test
InstructionHasLengths (skips test by) = HasLengths test

-- so with code
abbrev pub CodeHasLengths : List MarkedInstruction → Type 0
CodeHasLengths code = AllByRecursion (λ first. InstructionHasLengths first.instr) code

-- so with a flat program
abbrev pub FlatHasLengths : FlatProgram → Type 0
FlatHasLengths flat = AllByRecursion CodeHasLengths flat.threads

-- so with a statement
abbrev pub StatementHasLengths : Statement → Type 0
StatementHasLengths statement = HasLengths statement.guard × InstructionHasLengths statement.instr

-- so with a straight program
abbrev pub StraightHasLengths : StraightProgram → Type 0
StraightHasLengths straight = AllByRecursion StatementHasLengths straight.list
