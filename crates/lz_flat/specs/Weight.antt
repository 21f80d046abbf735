-- Inner: the weight of flat and straight programs, a sum of numbers from one table.
-- A number bounds the variables that its operator, its statement or its instruction takes in the formula. None of
-- an operator is below that of a constant, so that no fold to a constant weighs more.
use Rattle.std.specs.Prelude.{ℕ, ◌+◌, ◌*◌, ◌/◌, nat_le, Bool, true, false, List, [], ◌∷◌, if◌then◌else◌}
use Rattle.lz_base.specs.declared.operator.Unary.{Unary}
use Rattle.lz_base.specs.declared.operator.Unary.TheVariants.{Plus, Minus, Invert, Not}
use Rattle.lz_base.specs.declared.operator.Binary.{Binary}
use Rattle.lz_base.specs.declared.operator.Binary.TheVariants.{Mul, Div, Rem, Add, Sub, Shl, Shr, Lt, Gt, Le, Ge, Eq, Ne, BitAnd, BitXor, BitOr, Both, Either}
use Rattle.lz_flat.specs.Programs.{Expression, constant, word, element, unary, binary, convert, choose, Location, Instruction, sets, takes, assumes, checks, skips, MarkedInstruction, FlatProgram, Statement, StraightProgram}

-- ---- the table

-- a constant
abbrev pub constant_number : ℕ
constant_number = 2

-- a word of the memory
abbrev pub word_number : ℕ
word_number = 2

-- an input
abbrev pub input_number : ℕ
input_number = 34

-- a conversion
abbrev pub convert_number : ℕ
convert_number = 2

-- a choice
abbrev pub choose_number : ℕ
choose_number = 33

-- a unary operator
abbrev pub unary_number : Unary → ℕ
unary_number Plus = 2
unary_number Minus = 96
unary_number Invert = 2
unary_number Not = 2

-- a binary operator
abbrev pub binary_number : Binary → ℕ
binary_number Mul = 4096
binary_number Div = 4640
binary_number Rem = 4640
binary_number Add = 96
binary_number Sub = 96
binary_number Shl = 160
binary_number Shr = 160
binary_number Lt = 64
binary_number Gt = 64
binary_number Le = 64
binary_number Ge = 64
binary_number Eq = 33
binary_number Ne = 33
binary_number BitAnd = 32
binary_number BitXor = 32
binary_number BitOr = 32
binary_number Both = 3
binary_number Either = 3

-- the comparisons of an index with the places of a long list, made once for the group of 32 that it lies in
-- and once for its place in the group
abbrev pub long_index_number : ℕ → ℕ
long_index_number len = 68 + 35 * ((len + 31) / 32 + 32)

-- a read of one of so many words: a chain of choices
abbrev pub element_number : ℕ → ℕ
element_number len = if nat_le len 32 then 70 * len + 2 else long_index_number len + 38 * len + 2

-- a write of one of so many words, by an index
abbrev pub write_number : ℕ → ℕ
write_number len = if nat_le len 32 then 73 * len + 1 else long_index_number len + 41 * len + 1

-- a write of a fixed word
abbrev pub fixed_number : ℕ
fixed_number = 35

-- Statements, but for where they write to.
-- a statement that sets a word
abbrev pub set_number : ℕ
set_number = 4

-- one that takes an input
abbrev pub take_number : ℕ
take_number = 40

-- an assumption
abbrev pub assume_number : ℕ
assume_number = 12

-- a check
abbrev pub check_number : ℕ
check_number = 15

-- Instructions of flat programs, but for where they write to: each stands for three statements.
-- an instruction that sets a word
abbrev pub set_instruction : ℕ
set_instruction = 131

-- one that takes an input
abbrev pub take_instruction : ℕ
take_instruction = 167

-- an assumption
abbrev pub assume_instruction : ℕ
assume_instruction = 139

-- a check
abbrev pub check_instruction : ℕ
check_instruction = 142

-- a skip
abbrev pub skip_instruction : ℕ
skip_instruction = 176

-- what a visible one has more
abbrev pub visible_number : ℕ
visible_number = 71

-- a thread, which stands for twelve statements
abbrev pub thread_number : ℕ
thread_number = 450

-- ---- weights

-- the weight of an expression
abbrev pub expression_weight : Expression → ℕ
expression_weight (constant v) = constant_number
expression_weight (word place) = word_number
expression_weight (element first len index) = element_number len + expression_weight index
expression_weight (unary op kind of) = unary_number op + expression_weight of
expression_weight (binary op kind left right) = binary_number op + expression_weight left + expression_weight right
expression_weight (convert from to of) = convert_number + expression_weight of
expression_weight (choose test chosen other) =
    choose_number + expression_weight test + expression_weight chosen + expression_weight other

-- a write of one of so many words, where the index is a constant, and where it is not
abbrev pub location_number : ℕ → Expression → ℕ
location_number len (constant v) = fixed_number
location_number len (word place) = write_number len
location_number len (element first size index) = write_number len
location_number len (unary op kind of) = write_number len
location_number len (binary op kind left right) = write_number len
location_number len (convert from to of) = write_number len
location_number len (choose test chosen other) = write_number len

-- the weight of where an instruction writes to
abbrev pub location_weight : Location → ℕ
location_weight to = location_number to.len to.index + expression_weight to.index

-- what an instruction names: the expressions in it and where it writes to
abbrev pub parts_weight : Instruction → ℕ
parts_weight (sets to of) = location_weight to + expression_weight of
parts_weight (takes to) = location_weight to
parts_weight (assumes test) = expression_weight test
parts_weight (checks test kind line) = expression_weight test
parts_weight (skips test by) = expression_weight test

-- the number of an instruction as a statement. A straight program has no skip
abbrev pub statement_number : Instruction → ℕ
statement_number (sets to of) = set_number
statement_number (takes to) = take_number
statement_number (assumes test) = assume_number
statement_number (checks test kind line) = check_number
statement_number (skips test by) = 1

-- the weight of a statement
abbrev pub statement_weight : Statement → ℕ
statement_weight statement =
    expression_weight statement.guard + statement_number statement.instr + parts_weight statement.instr

-- the weight of statements
abbrev pub list_weight : List Statement → ℕ
list_weight [] = 0
list_weight (first ∷ rest) = statement_weight first + list_weight rest

-- the weight of a straight program
abbrev pub straight_weight : StraightProgram → ℕ
straight_weight straight = list_weight straight.list

-- the number of an instruction of a flat program
abbrev pub instruction_number : Instruction → ℕ
instruction_number (sets to of) = set_instruction
instruction_number (takes to) = take_instruction
instruction_number (assumes test) = assume_instruction
instruction_number (checks test kind line) = check_instruction
instruction_number (skips test by) = skip_instruction

-- what a mark weighs
abbrev pub mark_number : Bool → ℕ
mark_number true = visible_number
mark_number false = 0

-- the weight of code
abbrev pub code_weight : List MarkedInstruction → ℕ
code_weight [] = 0
code_weight (first ∷ rest) =
    instruction_number first.instr + mark_number first.visible + parts_weight first.instr + code_weight rest

-- the weight of threads
abbrev pub threads_weight : List (List MarkedInstruction) → ℕ
threads_weight [] = 0
threads_weight (code ∷ rest) = thread_number + code_weight code + threads_weight rest

-- the weight of a flat program
abbrev pub flat_weight : FlatProgram → ℕ
flat_weight flat = threads_weight flat.threads
