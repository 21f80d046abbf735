-- The straight program is well formed.
use Rattle.std.proofs.Common.{ℕ, zero, suc, ◌+◌, ◌≤◌, ◌<◌, Bool, true, false, List, [], ◌∷◌, ◌++◌, length, replicate, arith}
use Rattle.std.specs.List.{AllByRecursion}
use Rattle.std.proofs.lemmas.List.{length-append}
use Rattle.lz_base.specs.Words.{value_bound}
use Rattle.lz_flat.specs.FlatRuns.{blocks}
use Rattle.lz_flat.specs.Programs.{Expression, constant, word, element, unary, binary, convert, choose, Location, Instruction, sets, takes, assumes, checks, skips, MarkedInstruction, FlatProgram, code_of, Statement}
use Rattle.lz_flat.specs.WellFormed.{IsExpressionOf, IsLocationOf, IsInstructionOf, IsForward, IsCodeOf, IsStatementOf, IsWellMarked, IsWellFormed}
use Rattle.lz_lazy.specs.Encoding.{whole, saved_place, flag_place, stands_at, runs_next, body, following, head, encoded, encoded_blocks, encoded_first, sequential, clamp, mask_of}
use Rattle.lz_lazy.proofs.MasksLemmas.{mask_small}
use Rattle.lz_flat.proofs.RoundsLemmas.{AreThreads, blocks_small, length_zeros}
use Rattle.lz_lazy.proofs.DrivingLemmas.{all_at}

-- an expression over n words is one over more
wider : (n m : ℕ) (e : Expression) → n ≤ m → IsExpressionOf n e → IsExpressionOf m e
wider n m (constant v) le is = is
wider n m (word place) le is = omega arith
wider n m (element first len index) le is = ((λ k h. let lt = is.0 k h in omega arith), wider n m index le is.1)
wider n m (unary op kind of) le is = wider n m of le is
wider n m (convert from to of) le is = wider n m of le is
wider n m (binary op kind left right) le is = (wider n m left le is.0, wider n m right le is.1)
wider n m (choose test chosen other) le is = (wider n m test le is.0, wider n m chosen le is.1, wider n m other le is.2)

-- a location among n words is one among more
wider_spot : (n m : ℕ) (to : Location) → n ≤ m → IsLocationOf n to → IsLocationOf m to
wider_spot n m to le is = ((λ k h. let lt = is.0 k h in omega arith), wider n m to.index le is.1)

-- the one word at a place within is a location
whole_of : (n place : ℕ) → place < n → IsLocationOf n (whole place)
whole_of n place lt = ((λ k h. omega arith), omega arith)

-- whether a thread stands at a place is an expression over the words and those behind them
stands_of : (n m thread l : ℕ) (visible : Bool) → saved_place n thread < m → l < value_bound → IsExpressionOf m (stands_at n thread l visible)
stands_of n m thread l true lt small = ((lt, small), (small, (let z : n < m = omega arith in z)))
stands_of n m thread l false lt small = (lt, small)

-- so is whether the next instruction runs
next_of : (n m thread l : ℕ) (part : List MarkedInstruction) → saved_place n thread < m → l < value_bound → IsExpressionOf m (runs_next n thread l part)
next_of n m thread l [] lt small = omega arith
next_of n m thread l (first ∷ rest) lt small = stands_of n m thread l first.visible lt small

-- the instruction itself is a statement over them
body_of : (n m : ℕ) (i : Instruction) → n + 1 < m → IsInstructionOf n i → IsStatementOf m (body n i)
body_of n m (sets to of) lt is = (lt, (wider_spot n m to (omega arith) is.0, wider n m of (omega arith) is.1), tt)
body_of n m (takes to) lt is = (lt, wider_spot n m to (omega arith) is, tt)
body_of n m (assumes test) lt is = (lt, wider n m test (omega arith) is, tt)
body_of n m (checks test kind line) lt is = (lt, wider n m test (omega arith) is, tt)
body_of n m (skips test by) lt is = (omega arith, omega arith, tt)

-- the place behind an instruction is an expression over them
following_of : (n m l left : ℕ) (i : Instruction) → n ≤ m → l + left < value_bound → 1 ≤ left → IsInstructionOf n i → IsForward left i → IsExpressionOf m (following l i)
following_of n m l left (sets to of) le small some is go = let z : suc l < value_bound = omega arith in z
following_of n m l left (takes to) le small some is go = let z : suc l < value_bound = omega arith in z
following_of n m l left (assumes test) le small some is go = let z : suc l < value_bound = omega arith in z
following_of n m l left (checks test kind line) le small some is go = let z : suc l < value_bound = omega arith in z
following_of n m l left (skips test by) le small some is go =
    (wider n m test le is, (let g = go.1 in let z : l + by < value_bound = omega arith in z), (let z : suc l < value_bound = omega arith in z))

-- the code of a thread is statements over them
encoded_of : (n m thread l : ℕ) (part : List MarkedInstruction) → saved_place n thread < m → l + length part < value_bound → IsCodeOf n part → AllByRecursion (IsStatementOf m) (encoded n thread l part)
unfolding encoded
encoded_of n m thread l [] lt small is = tt
encoded_of n m thread l (first ∷ rest) lt small is =
    let flag : n + 1 < m = omega arith in (
      body_of n m first.instr flag is.0,
      (
        (flag, (whole_of m (saved_place n thread) lt, following_of n m l (suc (length rest)) first.instr (omega arith) (omega arith) (omega arith) is.0 is.2), tt),
        (
          ((let z : 1 < value_bound = omega arith in z), (whole_of m (flag_place n) flag, next_of n m thread (suc l) rest lt (omega arith)), tt),
          encoded_of n m thread (suc l) rest lt (omega arith) is.3,
        ),
      ),
    )

-- two lists of statements are statements together
all_both : (m : ℕ) (xs ys : List Statement) → AllByRecursion (IsStatementOf m) xs → AllByRecursion (IsStatementOf m) ys → AllByRecursion (IsStatementOf m) (xs ++ ys)
all_both m [] ys h k = k
all_both m (x ∷ xs) ys h k = (h.0, all_both m xs ys h.1 k)

-- the constants 0 and 1 are words
idle_of : (m : ℕ) → (0 < value_bound) × (1 < value_bound) × Unit {0}
idle_of m = (omega arith, omega arith, tt)

-- the clamp is an expression over them
clamp_of : (n m mask : ℕ) → n < m → mask < value_bound → IsExpressionOf m (clamp n mask)
clamp_of n m mask lt small = ((lt, small), (lt, small), small)

-- the head of a block is statements over them
head_of : (n m thread : ℕ) (code : List MarkedInstruction) → saved_place n thread < m → AllByRecursion (IsStatementOf m) (head n thread code)
head_of n m thread code lt =
    let one : 1 < value_bound = omega arith in
    let i = idle_of m in
    let guess : n < m = omega arith in (
      (one, whole_of m n guess, tt),
      (
        (one, (whole_of m n guess, clamp_of n m (mask_of (length code)) guess (mask_small (length code))), tt),
        (
          i,
          (
            i,
            (
              i,
              (
                i,
                (
                  i,
                  (
                    i,
                    (
                      i,
                      (
                        i,
                        (
                          i,
                          ((one, (whole_of m (flag_place n) (omega arith), next_of n m thread 0 code lt (omega arith)), tt), tt),
                        ),
                      ),
                    ),
                  ),
                ),
              ),
            ),
          ),
        ),
      ),
    )

-- blocks are statements over them
blocks_of : (flat : FlatProgram) (m threads : ℕ) (bs : List ℕ) → length flat.first + (2 + threads) ≤ m → AreThreads threads bs
    → ((thread : ℕ) → IsCodeOf (length flat.first) (code_of flat thread)) → ((thread : ℕ) → length (code_of flat thread) < value_bound) → AllByRecursion (IsStatementOf m) (encoded_blocks flat bs)
unfolding encoded_blocks
blocks_of flat m threads [] le are codes short = tt
blocks_of flat m threads (thread ∷ rest) le are codes short =
    let n = length flat.first in
    let code = code_of flat thread in
    let lt : saved_place n thread < m = let h = are.0 in omega arith in
    all_both m (head n thread code ++ encoded n thread 0 code) (encoded_blocks flat rest)
    (all_both m (head n thread code) (encoded n thread 0 code) (head_of n m thread code lt) (encoded_of n m thread 0 code lt (let s = short thread in omega arith) (codes thread)))
    (blocks_of flat m threads rest le are.1 codes short)

-- two lists of words are words together
words_both : (xs ys : List ℕ) → AllByRecursion (λ v. v < value_bound) xs → AllByRecursion (λ v. v < value_bound) ys → AllByRecursion (λ v. v < value_bound) (xs ++ ys)
words_both [] ys h k = k
words_both (x ∷ xs) ys h k = (h.0, words_both xs ys h.1 k)

-- zeros are words
words_zero : (n : ℕ) → AllByRecursion (λ v. v < value_bound) (replicate n 0)
words_zero zero = tt
words_zero (suc n) = ((let z : 0 < value_bound = omega arith in z), words_zero n)

-- the straight program is well formed
pub well_formed : (flat : FlatProgram) (rounds : ℕ) → IsWellMarked flat → ((thread : ℕ) → length (code_of flat thread) < value_bound) → IsWellFormed (sequential flat rounds)
well_formed flat rounds well short =
    let size : length flat.first + (2 + length flat.threads) ≤ length (encoded_first flat) =
    let e = length-append flat.first (0 ∷ 0 ∷ replicate (length flat.threads) 0) in let k = length_zeros (length flat.threads) in omega arith in
    record {
      words = words_both flat.first (0 ∷ 0 ∷ replicate (length flat.threads) 0) well.words (words_zero (suc (suc (length flat.threads))));
      statements = blocks_of flat (length (encoded_first flat)) (length flat.threads) (blocks rounds (length flat.threads)) size (blocks_small rounds (length flat.threads))
          (λ thread. all_at (IsCodeOf (length flat.first)) flat.threads thread well.codes tt) short;
    }
