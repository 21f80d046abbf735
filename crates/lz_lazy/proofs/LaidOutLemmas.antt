-- The memory of the straight program: the words, then the guess, the flag and the saved places.
use Rattle.std.proofs.Common.{◌≡◌, ℕ, suc, ◌+◌, ◌-◌, ◌≤◌, ◌<◌, Bool, true, false, cond, List, [], ◌∷◌, ◌++◌, length, nat_lt, nat_le, not, ◌&&◌, get_or, set, refl, ◌∙◌, ap, arith, bit_and}
use Rattle.std.specs.Prelude.{slice_index, slice_set, ◌==◌}
use Rattle.std.proofs.lemmas.List.{get_or-append_right, set-append_right}
use Rattle.lz_flat.specs.Instructions.{value, put}
use Rattle.lz_flat.specs.Programs.{MarkedInstruction}
use Rattle.lz_base.specs.Words.{truth}
use Rattle.lz_base.proofs.WordsLemmas.{both_truths}
use Rattle.lz_lazy.specs.Encoding.{whole, guess_place, flag_place, saved_place, stands_at, runs_next, clamp}
use Rattle.lz_lazy.proofs.MasksLemmas.{IsMask, and_within}
use Rattle.lz_lazy.proofs.GuessesLemmas.{clamped}

-- the memory of the straight program: the words, the guess, the flag and the places
abbrev pub laid : List ℕ → ℕ → ℕ → List ℕ → List ℕ
laid words guess flag places = words ++ guess ∷ flag ∷ places

-- ---- what stands behind the words

-- behind the words stands the guess
pub at_guess : (n : ℕ) (words : List ℕ) (guess flag : ℕ) (places : List ℕ) → length words ≡ n → slice_index (laid words guess flag places) (guess_place n) ≡ guess
at_guess n words guess flag places long =
    get_or-append_right words (guess ∷ flag ∷ places) n n 0 long (omega arith) ∙ ap (λ (k : ℕ). get_or (guess ∷ flag ∷ places) k 0) (let z : n - n ≡ 0 = omega arith in z)

-- then the flag
pub at_flag : (n : ℕ) (words : List ℕ) (guess flag : ℕ) (places : List ℕ) → length words ≡ n → slice_index (laid words guess flag places) (flag_place n) ≡ flag
at_flag n words guess flag places long =
    get_or-append_right words (guess ∷ flag ∷ places) n (n + 1) 0 long (omega arith) ∙ ap (λ (k : ℕ). get_or (guess ∷ flag ∷ places) k 0) (let z : n + 1 - n ≡ 1 = omega arith in z)

-- then the place of each thread
pub at_saved : (n thread : ℕ) (words : List ℕ) (guess flag : ℕ) (places : List ℕ) → length words ≡ n → slice_index (laid words guess flag places) (saved_place n thread) ≡ slice_index places thread
at_saved n thread words guess flag places long =
    get_or-append_right words (guess ∷ flag ∷ places) n (n + (2 + thread)) 0 long (omega arith) ∙ ap (λ (k : ℕ). get_or (guess ∷ flag ∷ places) k 0) (let z : n + (2 + thread) - n ≡ suc (suc thread) = omega arith in z)

-- a write of one word sets it
pub put_whole : (place v : ℕ) (memory : List ℕ) → put (whole place) v memory ≡ slice_set memory place v
unfolding put value
put_whole place v memory = ap (λ (k : ℕ). set memory k v) (let z : place + 0 ≡ place = omega arith in z)

-- a write of the guess changes the guess alone
pub set_guess : (n : ℕ) (words : List ℕ) (guess flag v : ℕ) (places : List ℕ) → length words ≡ n → put (whole (guess_place n)) v (laid words guess flag places) ≡ laid words v flag places
set_guess n words guess flag v places long =
    put_whole n v (laid words guess flag places) ∙ set-append_right words (guess ∷ flag ∷ places) n n v long (omega arith)
    ∙ ap (λ (k : ℕ). words ++ set (guess ∷ flag ∷ places) k v) (let z : n - n ≡ 0 = omega arith in z)

-- a write of the flag changes the flag alone
pub set_flag : (n : ℕ) (words : List ℕ) (guess flag v : ℕ) (places : List ℕ) → length words ≡ n → put (whole (flag_place n)) v (laid words guess flag places) ≡ laid words guess v places
set_flag n words guess flag v places long =
    put_whole (n + 1) v (laid words guess flag places) ∙ set-append_right words (guess ∷ flag ∷ places) n (n + 1) v long (omega arith)
    ∙ ap (λ (k : ℕ). words ++ set (guess ∷ flag ∷ places) k v) (let z : n + 1 - n ≡ 1 = omega arith in z)

-- a write of a saved place changes that place alone
pub set_saved : (n thread : ℕ) (words : List ℕ) (guess flag v : ℕ) (places : List ℕ) → length words ≡ n → put (whole (saved_place n thread)) v (laid words guess flag places) ≡ laid words guess flag (slice_set places thread v)
set_saved n thread words guess flag v places long =
    put_whole (n + (2 + thread)) v (laid words guess flag places) ∙ set-append_right words (guess ∷ flag ∷ places) n (n + (2 + thread)) v long (omega arith)
    ∙ ap (λ (k : ℕ). words ++ set (guess ∷ flag ∷ places) k v) (let z : n + (2 + thread) - n ≡ suc (suc thread) = omega arith in z)

-- ---- the flag and the clamped guess

-- whether the instruction at place l runs, where the thread stands at this place
abbrev pub ready : ℕ → ℕ → ℕ → Bool → ℕ
ready guess place l true = truth (place == l && nat_lt l guess)
ready guess place l false = truth (place == l)

-- whether the next instruction runs, as the flag has it
abbrev pub ready_next : ℕ → ℕ → ℕ → List MarkedInstruction → ℕ
ready_next guess place l [] = 0
ready_next guess place l (first ∷ rest) = ready guess place l first.visible

-- whether a thread stands at a place, by the guess and the places
pub value_stands : (n thread l : ℕ) (visible : Bool) (words : List ℕ) (guess flag : ℕ) (places : List ℕ) → length words ≡ n
    → value (stands_at n thread l visible) (laid words guess flag places) ≡ ready guess (slice_index places thread) l visible
unfolding value
value_stands n thread l true words guess flag places long =
    rw (at_saved n thread words guess flag places long, at_guess n words guess flag places long) (both_truths (slice_index places thread == l) (nat_lt l guess))
value_stands n thread l false words guess flag places long = rw (at_saved n thread words guess flag places long) refl

-- whether the next instruction runs, by the guess and the places
pub value_next : (n thread l : ℕ) (part : List MarkedInstruction) (words : List ℕ) (guess flag : ℕ) (places : List ℕ) → length words ≡ n
    → value (runs_next n thread l part) (laid words guess flag places) ≡ ready_next guess (slice_index places thread) l part
unfolding value
value_next n thread l [] words guess flag places long = refl
value_next n thread l (first ∷ rest) words guess flag places long = value_stands n thread l first.visible words guess flag places long

-- the clamped guess
pub value_clamp : (n mask : ℕ) (words : List ℕ) (guess flag : ℕ) (places : List ℕ) → length words ≡ n → IsMask mask
    → value (clamp n mask) (laid words guess flag places) ≡ clamped guess mask
unfolding value
value_clamp n mask words guess flag places long is =
    rw (at_guess n words guess flag places long) (by_test (nat_lt mask guess) (nat_le guess mask) refl refl)
  where
    by_test : (above within : Bool) → nat_lt mask guess ≡ above → nat_le guess mask ≡ within
        → cond (truth (not above) == 0) mask (bit_and guess mask) ≡ cond within guess mask
    by_test true true e f = let a : mask < guess = grind arith in let b : guess ≤ mask = grind arith in absurd (let z : ⊥ = omega arith in z)
    by_test true false e f = refl
    by_test false true e f = and_within mask guess is (let b : guess ≤ mask = grind arith in b)
    by_test false false e f = let a : guess ≤ mask = grind arith in let b : mask < guess = grind arith in absurd (let z : ⊥ = omega arith in z)
