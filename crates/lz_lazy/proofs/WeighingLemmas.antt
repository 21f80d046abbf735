-- The straight program weighs so many rounds times what the flat one weighs.
use Rattle.std.proofs.Common.{◌≡◌, ℕ, zero, suc, ◌+◌, ◌*◌, Bool, true, false, List, [], ◌∷◌, ◌++◌, length, drop, refl, ap, arith}
use Rattle.lz_flat.specs.Programs.{Instruction, sets, takes, assumes, checks, skips, MarkedInstruction, FlatProgram, Statement, code_of}
use Rattle.lz_flat.specs.FlatRuns.{threads_from, blocks}
use Rattle.lz_flat.specs.Weight.{expression_weight, parts_weight, statement_weight, list_weight, straight_weight, instruction_number, mark_number, code_weight, thread_number, threads_weight, flat_weight}
use Rattle.lz_lazy.specs.Encoding.{stands_at, runs_next, body, following, head, encoded, encoded_blocks, sequential}
use Rattle.lz_lazy.proofs.SizesLemmas.{part_at}

-- two lists of statements weigh what each weighs
both : (xs ys : List Statement) → list_weight (xs ++ ys) ≡ list_weight xs + list_weight ys
both [] ys = let z : list_weight ys ≡ 0 + list_weight ys = omega arith in z
both (x ∷ xs) ys = let h = both xs ys in omega arith

-- what the flag of an instruction weighs
stands_weighs : (n thread l : ℕ) (visible : Bool) → expression_weight (stands_at n thread l visible) ≡ 37 + mark_number visible
stands_weighs n thread l true = refl
stands_weighs n thread l false = refl

-- what the test weighs that says whether the next instruction runs
abbrev next_weight : List MarkedInstruction → ℕ
next_weight [] = 2
next_weight (first ∷ rest) = 37 + mark_number first.visible

-- it weighs that
next_weighs : (n thread l : ℕ) (part : List MarkedInstruction) → expression_weight (runs_next n thread l part) ≡ next_weight part
next_weighs n thread l [] = refl
next_weighs n thread l (first ∷ rest) = stands_weighs n thread l first.visible

-- the first two statements of an instruction, and what its flag weighs beside its mark
two : (n l : ℕ) (i : Instruction) → statement_weight (body n i) + expression_weight (following l i) + 123 ≡ instruction_number i + parts_weight i
two n l (sets to of) = omega arith
two n l (takes to) = omega arith
two n l (assumes test) = omega arith
two n l (checks test kind line) = omega arith
two n l (skips test by) = omega arith

-- the code of a thread weighs what its instructions weigh, but for the first test
code_weighs : (n thread l : ℕ) (part : List MarkedInstruction) → list_weight (encoded n thread l part) + next_weight part ≡ code_weight part + 2
unfolding encoded
code_weighs n thread l [] = refl
code_weighs n thread l (first ∷ rest) =
    let later = code_weighs n thread (suc l) rest in
    let next = next_weighs n thread (suc l) rest in
    let own = two n l first.instr in
    omega (arith, later, next, own)

-- the head of a block weighs what a thread weighs, with the first test
head_weighs : (n thread : ℕ) (code : List MarkedInstruction) → list_weight (head n thread code) + 2 ≡ thread_number + next_weight code
head_weighs n thread code = let next = next_weighs n thread 0 code in omega (arith, next)

-- a round weighs what the flat program weighs
round_weighs : (flat : FlatProgram) (part : List (List MarkedInstruction)) (t : ℕ) → drop t flat.threads ≡ part
    → list_weight (encoded_blocks flat (threads_from t (length part))) ≡ threads_weight part
unfolding encoded_blocks
round_weighs flat [] t e = refl
round_weighs flat (code ∷ rest) t e =
    let n = length flat.first in
    let at = part_at flat.threads t code rest e in
    let later = round_weighs flat rest (suc t) at.1 in
    let a = both (head n t (code_of flat t) ++ encoded n t 0 (code_of flat t)) (encoded_blocks flat (threads_from (suc t) (length rest))) in
    let b = both (head n t (code_of flat t)) (encoded n t 0 (code_of flat t)) in
    let c = code_weighs n t 0 (code_of flat t) in
    let d = head_weighs n t (code_of flat t) in
    let same : code_weight (code_of flat t) ≡ code_weight code = ap code_weight at.0 in
    omega (arith, later, a, b, c, d, same)

-- the blocks of two lists of threads weigh what each weighs
blocks_both : (flat : FlatProgram) (xs ys : List ℕ) → list_weight (encoded_blocks flat (xs ++ ys)) ≡ list_weight (encoded_blocks flat xs) + list_weight (encoded_blocks flat ys)
unfolding encoded_blocks
blocks_both flat [] ys = let z : list_weight (encoded_blocks flat ys) ≡ 0 + list_weight (encoded_blocks flat ys) = omega arith in z
blocks_both flat (t ∷ xs) ys =
    let n = length flat.first in
    let block = head n t (code_of flat t) ++ encoded n t 0 (code_of flat t) in
    let a = both block (encoded_blocks flat (xs ++ ys)) in
    let b = both block (encoded_blocks flat xs) in
    let c = blocks_both flat xs ys in
    omega (arith, a, b, c)

-- so many rounds weigh so many times the flat program
pub weighs : (flat : FlatProgram) (rounds : ℕ) → straight_weight (sequential flat rounds) ≡ rounds * flat_weight flat
unfolding encoded_blocks
weighs flat zero = let z : 0 ≡ 0 * flat_weight flat = omega arith in z
weighs flat (suc rounds) =
    let later = weighs flat rounds in
    let first = round_weighs flat flat.threads 0 refl in
    let sum = blocks_both flat (threads_from 0 (length flat.threads)) (blocks rounds (length flat.threads)) in
    grind (arith, later, first, sum)
