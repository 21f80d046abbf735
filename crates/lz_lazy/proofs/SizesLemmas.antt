-- How long the straight program is, and inputs as lists.
use Rattle.std.proofs.Common.{◌≡◌, ℕ, zero, suc, ◌+◌, ◌*◌, ◌≤◌, ◌<◌, cond, List, [], ◌∷◌, ◌++◌, length, drop, refl, ◌∙◌, ap, arith}
use Rattle.std.specs.Prelude.{slice_index, slice_index_or, ◌==◌}
use Rattle.std.proofs.lemmas.List.{length-append}
use Rattle.lz_flat.specs.FlatRuns.{threads_from, blocks}
use Rattle.lz_flat.specs.Instructions.{value, Did, moved, blocked, broke, did}
use Rattle.lz_flat.specs.Programs.{MarkedInstruction, FlatProgram, code_of, Statement, instructions}
use Rattle.lz_flat.specs.StraightRuns.{Fate, fate_behind, straight}
use Rattle.lz_lazy.specs.Encoding.{head, encoded, encoded_blocks, encoding}
use Rattle.lz_lazy.proofs.DrivingLemmas.{length_encoded}

-- the blocks of two lists of threads have the statements of both
size_append : (flat : FlatProgram) (xs ys : List ℕ) → length (encoded_blocks flat (xs ++ ys)) ≡ length (encoded_blocks flat xs) + length (encoded_blocks flat ys)
unfolding encoded_blocks
size_append flat [] ys = let z : length (encoded_blocks flat ys) ≡ 0 + length (encoded_blocks flat ys) = omega arith in z
size_append flat (t ∷ xs) ys =
    let n = length flat.first in
    let block = head n t (code_of flat t) ++ encoded n t 0 (code_of flat t) in
    let a = length-append block (encoded_blocks flat (xs ++ ys)) in
    let b = length-append block (encoded_blocks flat xs) in
    let c = size_append flat xs ys in
    omega (arith, a, b, c)

-- the code of a thread and those behind it
pub part_at : (xs : List (List MarkedInstruction)) (t : ℕ) (code : List MarkedInstruction) (rest : List (List MarkedInstruction)) → drop t xs ≡ code ∷ rest → (slice_index_or xs t [] ≡ code) × (drop (suc t) xs ≡ rest)
part_at [] zero code rest e = absurd cc
part_at [] (suc t) code rest e = absurd cc
part_at (x ∷ xs) zero code rest e = (cc, cc)
part_at (x ∷ xs) (suc t) code rest e = part_at xs t code rest e

-- the statements of a round, by instructions and threads
size_round : (flat : FlatProgram) (part : List (List MarkedInstruction)) (t : ℕ) → drop t flat.threads ≡ part → length (encoded_blocks flat (threads_from t (length part))) ≡ 3 * (instructions part + 4 * length part)
unfolding encoded_blocks
size_round flat [] t e = refl
size_round flat (code ∷ rest) t e =
    let n = length flat.first in
    let at = part_at flat.threads t code rest e in
    let later = size_round flat rest (suc t) at.1 in
    let a = length-append (head n t (code_of flat t) ++ encoded n t 0 (code_of flat t)) (encoded_blocks flat (threads_from (suc t) (length rest))) in
    let b = length-append (head n t (code_of flat t)) (encoded n t 0 (code_of flat t)) in
    let c = length_encoded n t 0 (code_of flat t) in
    let d : length (code_of flat t) ≡ length code = ap length at.0 in
    omega (arith, later, a, b, c, d)

-- THE EXACT LENGTH
pub size : (flat : FlatProgram) (rounds : ℕ) → length (encoding flat rounds) ≡ 3 * rounds * (instructions flat.threads + 4 * length flat.threads)
unfolding encoded_blocks
size flat zero = let z : 0 ≡ 3 * 0 * (instructions flat.threads + 4 * length flat.threads) = omega arith in z
size flat (suc rounds) =
    let later = size flat rounds in
    let first = size_round flat flat.threads 0 refl in
    let both = size_append flat (threads_from 0 (length flat.threads)) (blocks rounds (length flat.threads)) in
    grind (arith, later, first, both)

-- ---- inputs as lists

-- so many inputs as a list
unfoldable pub listed : (ℕ → ℕ) → ℕ → ℕ → List ℕ
listed input i zero = []
listed input i (suc more) = input i ∷ listed input (suc i) more

-- it has so many
pub length_listed : (input : ℕ → ℕ) (i more : ℕ) → length (listed input i more) ≡ more
unfolding listed
length_listed input i zero = refl
length_listed input i (suc more) = ap suc (length_listed input (suc i) more)

-- it has the inputs
pub at_listed : (input : ℕ → ℕ) (i more k : ℕ) → k < more → slice_index (listed input i more) k ≡ input (i + k)
unfolding listed
at_listed input i zero k h = absurd (let z : ⊥ = omega arith in z)
at_listed input i (suc more) zero h = ap input (let z : i ≡ i + 0 = omega arith in z)
at_listed input i (suc more) (suc k) h = at_listed input (suc i) more k (omega arith) ∙ ap input (let z : suc i + k ≡ i + suc k = omega arith in z)

-- behind an instruction comes the same where each way on is the same
behind_same : (d : Did) (f g : List ℕ → Fate) → ((m : List ℕ) → f m ≡ g m) → fate_behind d f ≡ fate_behind d g
behind_same (moved over memory) f g h = h memory
behind_same blocked f g h = refl
behind_same (broke kind line) f g h = refl

-- statements read their own inputs alone
pub straight_agrees : (a b : ℕ → ℕ) (i : ℕ) (list : List Statement) (memory : List ℕ) → ((k : ℕ) → i ≤ k → k < i + length list → a k ≡ b k) → straight a i list memory ≡ straight b i list memory
unfolding straight
straight_agrees a b i [] memory same = refl
straight_agrees a b i (first ∷ rest) memory same =
    let each : (m : List ℕ) → straight a (suc i) rest m ≡ straight b (suc i) rest m = λ m. straight_agrees a b (suc i) rest m (λ k h t. same k (omega arith) (omega arith)) in
    rw (each memory, same i (omega arith) (omega arith))
    (ap (cond (value first.guard memory == 0) (straight b (suc i) rest memory)) (behind_same (did first.instr (b i) memory) (straight a (suc i) rest) (straight b (suc i) rest) each))
