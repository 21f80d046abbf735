-- Rounds and their blocks: a run of at most so many rounds fits the blocks of so many rounds, and what fits them has at most so
-- many.
use Rattle.std.proofs.Common.{◌≡◌, ℕ, zero, suc, ◌+◌, ◌≤◌, ◌<◌, Bool, true, false, List, [], ◌∷◌, ◌++◌, length, replicate, eqb, refl, sym, ap, subst, arith}
use Rattle.std.specs.List.{AllByRecursion}
use Rattle.std.proofs.lemmas.Bool.{eqb-true, eqb-false}
use Rattle.lz_base.specs.Descents.{descents}
use Rattle.lz_base.proofs.DescentsLemmas.{Fits, nothing, stay, next, down, down_lt, down_ge, Compared, lower, higher, compared, fewer_descents, without_first}
use Rattle.lz_flat.specs.FlatRuns.{threads_from, blocks, opening}
use Rattle.lz_flat.specs.Programs.{FlatProgram}

-- ---- the threads of blocks

-- each is one of so many threads
abbrev pub AreThreads : ℕ → List ℕ → Type 0
AreThreads threads run = AllByRecursion (λ thread. thread < threads) run

-- what holds of each of two lists holds of both together
all_append : (P : ℕ → Type 0) (xs ys : List ℕ) → AllByRecursion P xs → AllByRecursion P ys → AllByRecursion P (xs ++ ys)
all_append P [] ys h k = k
all_append P (x ∷ xs) ys h k = (h.0, all_append P xs ys h.1 k)

-- the threads of a round are threads of the program
threads_small : (thread more threads : ℕ) → thread + more ≤ threads → AreThreads threads (threads_from thread more)
threads_small thread zero threads h = tt
threads_small thread (suc more) threads h = (omega arith, threads_small (suc thread) more threads (omega arith))

-- so those of all rounds
pub blocks_small : (rounds threads : ℕ) → AreThreads threads (blocks rounds threads)
blocks_small zero threads = tt
blocks_small (suc rounds) threads =
    all_append (λ t. t < threads) (threads_from 0 threads) (blocks rounds threads) (threads_small 0 threads threads (omega arith)) (blocks_small rounds threads)

-- so many zeros are so many
pub length_zeros : (n : ℕ) → length {A = ℕ} (replicate n 0) ≡ n
length_zeros zero = refl
length_zeros (suc n) = ap suc (length_zeros n)

-- the threads of so many rounds of a program, as its places count them
pub opening_threads : (flat : FlatProgram) (rounds : ℕ) → AreThreads (length (opening flat)) (blocks rounds (length flat.threads))
opening_threads flat rounds =
    subst (λ (t : ℕ). AreThreads t (blocks rounds (length flat.threads))) (sym (length_zeros (length flat.threads))) (blocks_small rounds (length flat.threads))

-- ---- a run of few rounds fits

-- the step u, by whether it is of the block's thread t
by_thread : (threads rounds t : ℕ) (bs : List ℕ) → ((run : List ℕ) → AreThreads threads run → descents (suc t ∷ run) ≤ rounds → Fits run bs)
    → (u : ℕ) (run : List ℕ) → AreThreads threads (u ∷ run) → descents (t ∷ u ∷ run) ≤ rounds → (descents (t ∷ run) ≤ rounds → Fits run (t ∷ bs))
    → (same : Bool) → eqb u t ≡ same → Fits (u ∷ run) (t ∷ bs)
by_thread threads rounds t bs later u run small few again true e =
    let same : t ≡ u = sym (eqb-true u t e) in
    subst (λ (v : ℕ). Fits (v ∷ run) (t ∷ bs)) same
    (stay (again (subst (λ (v : ℕ). descents (v ∷ run) ≤ rounds) (sym same) (let z : descents (u ∷ run) ≤ rounds = omega arith in z))))
by_thread threads rounds t bs later u run small few again false e =
    next (later (u ∷ run) small (fewer (compared t u) (compared (suc t) u)))
  where
    fewer : Compared t u → Compared (suc t) u → down (suc t) u + descents (u ∷ run) ≤ rounds
    fewer (lower h k) (lower h' k') = omega (arith, few, k, k')
    fewer (lower h k) (higher h' k') = omega (arith, few, k, k')
    fewer (higher h k) (lower h' k') = absurd (eqb-false u t e (let z : u ≡ t = omega arith in z))
    fewer (higher h k) (higher h' k') = omega (arith, few, k, k')

-- a block of the thread t, where what follows takes what comes after t
at_thread : (threads rounds t : ℕ) (bs : List ℕ) → ((run : List ℕ) → AreThreads threads run → descents (suc t ∷ run) ≤ rounds → Fits run bs)
    → (run : List ℕ) → AreThreads threads run → descents (t ∷ run) ≤ rounds → Fits run (t ∷ bs)
at_thread threads rounds t bs later [] small few = nothing
at_thread threads rounds t bs later (u ∷ run) small few =
    by_thread threads rounds t bs later u run small few (at_thread threads rounds t bs later run small.1) (eqb u t) refl

-- the rest of a round, from the thread t on
in_round : (threads rounds : ℕ) (bs : List ℕ) → ((run : List ℕ) → AreThreads threads run → descents (threads ∷ run) ≤ rounds → Fits run bs)
    → (more t : ℕ) → t + more ≡ threads → (run : List ℕ) → AreThreads threads run → descents (t ∷ run) ≤ rounds → Fits run (threads_from t more ++ bs)
in_round threads rounds bs later zero t e run small few = later run small (let same : t ≡ threads = omega arith in subst (λ (k : ℕ). descents (k ∷ run) ≤ rounds) same few)
in_round threads rounds bs later (suc more) t e run small few =
    at_thread threads rounds t (threads_from (suc t) more ++ bs) (in_round threads rounds bs later more (suc t) (omega arith)) run small few

-- from the end of a round on
from_end : (rounds threads : ℕ) (run : List ℕ) → AreThreads threads run → descents (threads ∷ run) ≤ rounds → Fits run (blocks rounds threads)
from_end zero threads [] small few = nothing
from_end zero threads (u ∷ run) small few = let d = down_lt threads u small.0 in absurd (let z : ⊥ = omega (arith, few, d) in z)
from_end (suc rounds) threads run small few =
    in_round threads rounds (blocks rounds threads) (from_end rounds threads) threads 0 (omega arith) run small (from_zero run small few)
  where
    from_zero : (run : List ℕ) → AreThreads threads run → descents (threads ∷ run) ≤ suc rounds → descents (0 ∷ run) ≤ rounds
    from_zero [] small few = omega arith
    from_zero (u ∷ run) small few =
        let d = down_lt threads u small.0 in
        let z = down_ge 0 u (let z : 0 ≤ u = omega arith in z) in
        omega (arith, few, d, z)

-- THE FITTING LEMMA
pub fits_rounds : (rounds threads : ℕ) (run : List ℕ) → AreThreads threads run → descents run + 1 ≤ rounds → Fits run (blocks rounds threads)
fits_rounds rounds threads [] small few = nothing
fits_rounds rounds threads (u ∷ run) small few =
    from_end rounds threads (u ∷ run) small (let d = down_lt threads u small.0 in omega (arith, few, d))

-- ---- what fits has few rounds

-- a round before blocks adds no descent to those that the blocks have behind any thread
round_descents : (most : ℕ) (bs : List ℕ) → ((y : ℕ) → descents (y ∷ bs) ≤ most) → (more x t : ℕ) → x ≤ t → descents (x ∷ threads_from t more ++ bs) ≤ most
round_descents most bs h zero x t le = h x
round_descents most bs h (suc more) x t le =
    let d = down_ge x t le in
    let later : descents (t ∷ threads_from (suc t) more ++ bs) ≤ most = round_descents most bs h more t (suc t) (omega arith) in
    omega (arith, d, later)

-- another number in front adds one descent at most
one_more : (y : ℕ) (bs : List ℕ) → descents (y ∷ bs) ≤ suc (descents (0 ∷ bs))
one_more y [] = omega arith
one_more y (b ∷ bs) = cases (compared y b)
  where
    cases : Compared y b → down y b + descents (b ∷ bs) ≤ suc (down 0 b + descents (b ∷ bs))
    cases (lower h k) = omega (arith, k)
    cases (higher h k) = omega (arith, k)

-- so many rounds have so many descents at most, whatever stands before them
blocks_descents : (rounds threads y : ℕ) → descents (y ∷ blocks rounds threads) ≤ rounds
blocks_descents zero threads y = omega arith
blocks_descents (suc rounds) threads y =
    let first = round_descents rounds (blocks rounds threads) (blocks_descents rounds threads) threads 0 0 (omega arith) in
    let more = one_more y (blocks (suc rounds) threads) in
    omega (arith, first, more)

-- a run that fits so many rounds has at most so many
pub few_rounds : (rounds threads : ℕ) (run : List ℕ) → Fits run (blocks (suc rounds) threads) → descents run + 1 ≤ suc rounds
few_rounds rounds threads run fits =
    let first = round_descents rounds (blocks rounds threads) (blocks_descents rounds threads) threads 0 0 (omega arith) in
    let fewer = fewer_descents 0 fits in
    let without = without_first 0 run in
    omega (arith, first, fewer, without)
