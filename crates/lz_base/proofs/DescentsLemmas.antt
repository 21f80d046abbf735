-- Descents of lists: what fits a list of threads has no more descents than the list.
use Rattle.std.proofs.Common.{◌≡◌, ℕ, ◌+◌, ◌≤◌, ◌<◌, Bool, true, false, cond, List, [], ◌∷◌, nat_lt, refl, arith}
use Rattle.std.specs.Prelude.{if◌then◌else◌}
use Rattle.lz_base.specs.Descents.{descents}

-- the first list's threads stand in the second, in order; one may stand for several in a row
pub data Fits : List ℕ → List ℕ → Type 0 where
  nothing : {bs : List ℕ} → Fits [] bs
  stay : {thread : ℕ} {run bs : List ℕ} → Fits run (thread ∷ bs) → Fits (thread ∷ run) (thread ∷ bs)
  next : {thread : ℕ} {run bs : List ℕ} → Fits run bs → Fits run (thread ∷ bs)

-- 1 where the second of two neighbours is smaller, and 0 else
abbrev pub down : ℕ → ℕ → ℕ
down first second = if nat_lt second first then 1 else 0

-- it is 1 where the second is smaller
pub down_lt : (a b : ℕ) → b < a → down a b ≡ 1
down_lt a b h = decide (nat_lt b a) refl
  where
    decide : (r : Bool) → nat_lt b a ≡ r → ◌≡◌ {A = ℕ} (cond r 1 0) 1
    decide true e = refl
    decide false e = absurd (let n : b < a → ⊥ = grind arith in n h)

-- it is 0 where the second is not
pub down_ge : (a b : ℕ) → a ≤ b → down a b ≡ 0
down_ge a b h = decide (nat_lt b a) refl
  where
    decide : (r : Bool) → nat_lt b a ≡ r → ◌≡◌ {A = ℕ} (cond r 1 0) 0
    decide true e = absurd (let n : b < a = grind arith in let z : ⊥ = omega arith in z)
    decide false e = refl

-- either, with its value
pub data Compared (a b : ℕ) : Type 0 where
  lower : b < a → down a b ≡ 1 → Compared a b
  higher : a ≤ b → down a b ≡ 0 → Compared a b

-- two numbers, compared
pub compared : (a b : ℕ) → Compared a b
compared a b = decide (nat_lt b a) refl
  where
    decide : (r : Bool) → nat_lt b a ≡ r → Compared a b
    decide true e = let n : b < a = grind arith in lower n (down_lt a b n)
    decide false e = let n : a ≤ b = grind arith in higher n (down_ge a b n)

-- a number put between two neighbours takes no descent away
triangle : (x t b : ℕ) → down x b ≤ down x t + down t b
triangle x t b = cases (compared x b) (compared x t) (compared t b)
  where
    cases : Compared x b → Compared x t → Compared t b → down x b ≤ down x t + down t b
    cases (higher h k) q r = omega (arith, k)
    cases (lower h k) (lower h' k') r = omega (arith, k, k')
    cases (lower h k) (higher h' k') (lower h'' k'') = omega (arith, k, k', k'')
    cases (lower h k) (higher h' k') (higher h'' k'') = omega arith

-- leaving out the second of a list adds no descent
drop_block : (x t : ℕ) (bs : List ℕ) → descents (x ∷ bs) ≤ descents (x ∷ t ∷ bs)
drop_block x t [] = omega arith
drop_block x t (b ∷ bs) = let q = triangle x t b in omega (arith, q)

-- no number is smaller than itself
self : (t : ℕ) → down t t ≡ 0
self t = down_ge t t (let z : t ≤ t = omega arith in z)

-- leaving elements out, or standing twice, adds no descent
pub fewer_descents : (x : ℕ) {run bs : List ℕ} → Fits run bs → descents (x ∷ run) ≤ descents (x ∷ bs)
fewer_descents x nothing = omega arith
fewer_descents x (stay {thread = t} {run = run} {bs = bs} fits) =
    let later : descents (t ∷ run) ≤ descents (t ∷ t ∷ bs) = fewer_descents t fits in
    let same = self t in
    omega (arith, later, same)
fewer_descents x (next {thread = t} {run = run} {bs = bs} fits) =
    let later : descents (x ∷ run) ≤ descents (x ∷ bs) = fewer_descents x fits in
    let more = drop_block x t bs in
    omega (arith, later, more)

-- leaving out the first adds no descent
pub without_first : (x : ℕ) (run : List ℕ) → descents run ≤ descents (x ∷ run)
without_first x [] = omega arith
without_first x (u ∷ run) = omega arith

-- what fits has no more descents
pub fits_descents : {run bs : List ℕ} → Fits run bs → descents run ≤ descents bs
fits_descents nothing = omega arith
fits_descents (stay {thread = t} {run = run} {bs = bs} fits) =
    let later : descents (t ∷ run) ≤ descents (t ∷ t ∷ bs) = fewer_descents t fits in
    let same = self t in
    omega (arith, later, same)
fits_descents (next {thread = t} {run = run} {bs = bs} fits) =
    let later : descents run ≤ descents bs = fits_descents fits in
    let without = without_first t bs in
    omega (arith, later, without)
