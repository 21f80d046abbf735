-- What holds of the encoding holds of the program made, and its lists are short since it is light.
use Rattle.std.proofs.Common.{◌≡◌, ℕ, zero, suc, ◌+◌, ◌*◌, ◌≤◌, ◌<◌, All, List, [], ◌∷◌, length, map, replicate, get_or, sym, ◌∙◌, ap, subst, arith}
use Rattle.std.specs.Prelude.{slice_index_or}
use Rattle.std.proofs.Math.Nat.{mul-le-mul_right}
use Rattle.lz_base.specs.Limits.{cost_limit}
use Rattle.lz_base.specs.Words.{value_bound}
use Rattle.lz_flat.specs.declared.program.Marked.{Marked}
use Rattle.lz_flat.specs.declared.program.Guarded.{Guarded}
use Rattle.lz_flat.specs.declared.program.Flat.{Flat}
use Rattle.lz_flat.specs.Programs.{MarkedInstruction, FlatProgram, Statement, StraightProgram, code_of, marked, statement, flat_program, instructions}
use Rattle.lz_flat.specs.Weight.{threads_weight, flat_weight}
use Rattle.lz_lazy.specs.Encoding.{encoding, encoded_first, sequential}
use Rattle.std.proofs.lemmas.List.{length-append, length-map}
use Rattle.lz_flat.proofs.RoundsLemmas.{length_zeros}
use Rattle.lz_lazy.proofs.SizesLemmas.{size}
use Rattle.lz_flat.proofs.WeightLemmas.{code_length}

-- what holds of the straight program by definition holds of the one that was made
pub carry : (P : StraightProgram → Type 0) (flat : FlatProgram) (rounds : ℕ) (list : List Statement) (first : List ℕ) → list ≡ encoding flat rounds → first ≡ encoded_first flat
    → P (sequential flat rounds) → P (record { list = list; first = first })
carry P flat rounds list first list_is first_is h =
    let with_list : P (record { list = list; first = encoded_first flat }) =
    subst (λ (x : List Statement). P (record { list = x; first = encoded_first flat })) (sym list_is) h in
    subst (λ (x : List ℕ). P (record { list = list; first = x })) (sym first_is) with_list

-- ---- lengths

-- the length of what was made, by the numbers of instructions and threads
pub sized : (flat : Flat) (rounds : ℕ) (list : List Guarded) → map statement list ≡ encoding (flat_program flat) rounds
    → length list ≡ 3 * rounds * (instructions (flat_program flat).threads + 4 * length flat.threads)
sized flat rounds list is =
    sym (length-map list statement) ∙ ap length is ∙ size (flat_program flat) rounds
    ∙ ap (λ (t : ℕ). 3 * rounds * (instructions (flat_program flat).threads + 4 * t)) (length-map flat.threads (λ c. map marked c))

-- a program that is light enough for one round or more is light
light : (rounds weight : ℕ) → 1 ≤ rounds → rounds * weight ≤ cost_limit → weight ≤ cost_limit
light rounds weight some h = let k : 1 * weight ≤ rounds * weight = mul-le-mul_right weight some in omega (arith, k, h)

-- the code of a thread is no longer than the threads weigh
code_light : (threads : List (List Marked)) (k : ℕ) (d : List Marked) → k < length threads → length (get_or threads k d) ≤ threads_weight (map (λ c. map marked c) threads)
code_light [] k d lt = absurd (let z : ⊥ = omega arith in z)
code_light (x ∷ xs) zero d lt = let h = code_length (map marked x) in let e = length-map x (λ c. marked c) in omega (arith, h, e)
code_light (x ∷ xs) (suc k) d lt = let h = code_light xs k d (omega arith) in omega (arith, h)

-- each code is short where so many rounds are light
pub all_short : (flat : Flat) (rounds : ℕ) → 1 ≤ rounds → rounds * flat_weight (flat_program flat) ≤ cost_limit → All (λ code. length code + 1 < 4294967296) flat.threads
all_short flat rounds some h k d lt =
    let a = code_light flat.threads k d lt in
    let b = light rounds (flat_weight (flat_program flat)) some h in
    omega (arith, a, b)

-- so the code of a thread of the definition's program
code_of_light : (threads : List (List MarkedInstruction)) (t : ℕ) → length (slice_index_or threads t []) ≤ threads_weight threads
code_of_light [] zero = omega arith
code_of_light [] (suc t) = omega arith
code_of_light (x ∷ xs) zero = let h = code_length x in omega (arith, h)
code_of_light (x ∷ xs) (suc t) = let h = code_of_light xs t in omega (arith, h)

-- each thread has fewer than 2^32 instructions where so many rounds are light
pub short : (flat : FlatProgram) (rounds : ℕ) → 1 ≤ rounds → rounds * flat_weight flat ≤ cost_limit → (thread : ℕ) → length (code_of flat thread) < value_bound
short flat rounds some h thread =
    let a = code_of_light flat.threads thread in
    let b = light rounds (flat_weight flat) some h in
    omega (arith, a, b)

-- the words of the straight program can be numbered where those of the flat one, one more for each thread and two
-- besides, can
pub numbered : (flat : Flat) (first : List ℕ) → first ≡ encoded_first (flat_program flat) → length flat.first + (2 + length flat.threads) < 4294967296 → length first < 4294967296
numbered flat first is lt =
    let a = length-append flat.first (0 ∷ 0 ∷ replicate (length (flat_program flat).threads) 0) in
    let b = length_zeros (length (flat_program flat).threads) in
    let c = length-map flat.threads (λ c. map marked c) in
    let e = ap length is in
    omega (arith, a, b, c, e)
