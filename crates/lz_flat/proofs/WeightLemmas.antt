-- The numbers of the table: each is at least 1, those of elements grow with their lengths, and none is above
-- 65,536 and 1,024 times the length of the element.
use Rattle.std.proofs.Common.{◌≡◌, ℕ, ◌+◌, ◌*◌, ◌≤◌, ◌<◌, Bool, true, false, cond, nat_le, List, [], ◌∷◌, length, refl, arith}
use Rattle.lz_base.specs.declared.operator.Unary.{Unary}
use Rattle.lz_base.specs.declared.operator.Unary.TheVariants.{Plus, Minus, Invert, Not}
use Rattle.lz_base.specs.declared.operator.Binary.{Binary}
use Rattle.lz_base.specs.declared.operator.Binary.TheVariants.{Mul, Div, Rem, Add, Sub, Shl, Shr, Lt, Gt, Le, Ge, Eq, Ne, BitAnd, BitXor, BitOr, Both, Either}
use Rattle.lz_flat.specs.Programs.{Expression, constant, word, element, unary, binary, convert, choose, Instruction, sets, takes, assumes, checks, skips, MarkedInstruction, Statement}
use Rattle.lz_flat.specs.Weight.{constant_number, unary_number, binary_number, long_index_number, element_number, write_number, expression_weight, statement_number, list_weight, instruction_number, code_weight, threads_weight}

-- ---- each number is at least 1, and that of an operator no less than that of a constant

-- the number of a unary operator is no less than that of a constant
pub unary_least : (op : Unary) → constant_number ≤ unary_number op
unary_least Plus = omega arith
unary_least Minus = omega arith
unary_least Invert = omega arith
unary_least Not = omega arith

-- nor is that of a binary one
pub binary_least : (op : Binary) → constant_number ≤ binary_number op
binary_least Mul = omega arith
binary_least Div = omega arith
binary_least Rem = omega arith
binary_least Add = omega arith
binary_least Sub = omega arith
binary_least Shl = omega arith
binary_least Shr = omega arith
binary_least Lt = omega arith
binary_least Gt = omega arith
binary_least Le = omega arith
binary_least Ge = omega arith
binary_least Eq = omega arith
binary_least Ne = omega arith
binary_least BitAnd = omega arith
binary_least BitXor = omega arith
binary_least BitOr = omega arith
binary_least Both = omega arith
binary_least Either = omega arith

-- so the number of a unary operator is not 0
pub unary_positive : (op : Unary) → 1 ≤ unary_number op
unary_positive op = let h = unary_least op in omega (arith, h)

-- nor is that of a binary one
pub binary_positive : (op : Binary) → 1 ≤ binary_number op
binary_positive op = let h = binary_least op in omega (arith, h)

-- nor that of an element
pub element_positive : (len : ℕ) → 1 ≤ element_number len
element_positive len = by_length (nat_le len 32)
  where
    by_length : (b : Bool) → 1 ≤ cond b (70 * len + 2) (long_index_number len + 38 * len + 2)
    by_length true = omega arith
    by_length false = omega arith

-- nor that of a write
pub write_positive : (len : ℕ) → 1 ≤ write_number len
write_positive len = by_length (nat_le len 32)
  where
    by_length : (b : Bool) → 1 ≤ cond b (73 * len + 1) (long_index_number len + 41 * len + 1)
    by_length true = omega arith
    by_length false = omega arith

-- nor that of a statement
pub statement_positive : (i : Instruction) → 1 ≤ statement_number i
statement_positive (sets to of) = omega arith
statement_positive (takes to) = omega arith
statement_positive (assumes test) = omega arith
statement_positive (checks test kind line) = omega arith
statement_positive (skips test by) = omega arith

-- nor that of an instruction
pub instruction_positive : (i : Instruction) → 1 ≤ instruction_number i
instruction_positive (sets to of) = omega arith
instruction_positive (takes to) = omega arith
instruction_positive (assumes test) = omega arith
instruction_positive (checks test kind line) = omega arith
instruction_positive (skips test by) = omega arith

-- ---- so weights bound lengths

-- each expression weighs something
pub expression_weighs : (e : Expression) → 1 ≤ expression_weight e
expression_weighs (constant v) = omega arith
expression_weighs (word place) = omega arith
expression_weighs (element first len index) = let h = element_positive len in omega (arith, h)
expression_weighs (unary op kind of) = let h = unary_positive op in omega (arith, h)
expression_weighs (binary op kind left right) = let h = binary_positive op in omega (arith, h)
expression_weighs (convert from to of) = omega arith
expression_weighs (choose test chosen other) = omega arith

-- there are no more statements than a straight program weighs
pub list_length : (list : List Statement) → length list ≤ list_weight list
list_length [] = omega arith
list_length (s ∷ rest) = let h = list_length rest in let k = statement_positive s.instr in omega (arith, h, k)

-- code has no more instructions than it weighs
pub code_length : (code : List MarkedInstruction) → length code ≤ code_weight code
code_length [] = omega arith
code_length (first ∷ rest) = let h = code_length rest in let k = instruction_positive first.instr in omega (arith, h, k)

-- there are no more threads than a flat program weighs
pub threads_length : (threads : List (List MarkedInstruction)) → length threads ≤ threads_weight threads
threads_length [] = omega arith
threads_length (code ∷ rest) = let h = threads_length rest in omega (arith, h)

-- ---- the numbers of elements grow with their lengths

-- a longer element has a greater number, by whether either is decoded in two levels
grows_by : (a b : ℕ) (p q : Bool) → nat_le a 32 ≡ p → nat_le b 32 ≡ q → a < b → cond p (70 * a + 2) (long_index_number a + 38 * a + 2) < cond q (70 * b + 2) (long_index_number b + 38 * b + 2)
grows_by a b true true e f lt = omega arith
grows_by a b true false e f lt = let x : a ≤ 32 = grind arith in let y : 32 < b = grind arith in omega arith
grows_by a b false true e f lt = let x : 32 < a = grind arith in let y : b ≤ 32 = grind arith in absurd (let z : ⊥ = omega arith in z)
grows_by a b false false e f lt = omega arith

-- the number of an element grows with its length
pub element_grows : (a b : ℕ) → a < b → element_number a < element_number b
element_grows a b lt = grows_by a b (nat_le a 32) (nat_le b 32) refl refl lt

-- so that of a write, by the same cases
write_grows_by : (a b : ℕ) (p q : Bool) → nat_le a 32 ≡ p → nat_le b 32 ≡ q → a < b → cond p (73 * a + 1) (long_index_number a + 41 * a + 1) < cond q (73 * b + 1) (long_index_number b + 41 * b + 1)
write_grows_by a b true true e f lt = omega arith
write_grows_by a b true false e f lt = let x : a ≤ 32 = grind arith in let y : 32 < b = grind arith in omega arith
write_grows_by a b false true e f lt = let x : 32 < a = grind arith in let y : b ≤ 32 = grind arith in absurd (let z : ⊥ = omega arith in z)
write_grows_by a b false false e f lt = omega arith

-- the number of a write grows with its length
pub write_grows : (a b : ℕ) → a < b → write_number a < write_number b
write_grows a b lt = write_grows_by a b (nat_le a 32) (nat_le b 32) refl refl lt

-- ---- and none is above 65,536 and 1,024 times the length

-- the number of an element is at most 65,536 and 1,024 for each place
pub element_bounded : (len : ℕ) → element_number len ≤ 65536 + 1024 * len
element_bounded len = by_length (nat_le len 32)
  where
    by_length : (b : Bool) → cond b (70 * len + 2) (long_index_number len + 38 * len + 2) ≤ 65536 + 1024 * len
    by_length true = omega arith
    by_length false = omega arith

-- so that of a write
pub write_bounded : (len : ℕ) → write_number len ≤ 65536 + 1024 * len
write_bounded len = by_length (nat_le len 32)
  where
    by_length : (b : Bool) → cond b (73 * len + 1) (long_index_number len + 41 * len + 1) ≤ 65536 + 1024 * len
    by_length true = omega arith
    by_length false = omega arith
