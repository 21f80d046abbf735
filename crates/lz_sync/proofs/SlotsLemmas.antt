-- Slots and the threads that they stand for.
use Rattle.std.proofs.Common.{◌≡◌, ℕ, zero, suc, ◌≤◌, ◌<◌, Bool, true, false, cond, List, [], ◌∷◌, length, eqb, refl, sym, ◌∙◌, ap, subst, arith}
use Rattle.std.specs.Prelude.{slice_index}
use Rattle.std.proofs.lemmas.Bool.{eqb-true, eqb-false, eq-eqb, ne_eqb}
use Rattle.lz_sync.specs.Slots.{place_in, thread_of, slot_of, RisesTo}

pub place_most : (made : List ℕ) (u : ℕ) → place_in made u ≤ length made
unfolding place_in
place_most [] u = omega arith
place_most (k ∷ ks) u = by (eqb k u) (place_most ks u)
  where
    by : (b : Bool) → place_in ks u ≤ length ks → cond b 0 (suc (place_in ks u)) ≤ suc (length ks)
    by true h = omega arith
    by false h = omega arith

-- a slot that is there stands at its place
pub found : (made : List ℕ) (u : ℕ) → place_in made u < length made → slice_index made (place_in made u) ≡ u
unfolding place_in
found [] u lt = absurd (let z : ⊥ = omega (arith, lt) in z)
found (k ∷ ks) u lt = by (eqb k u) refl (λ h. found ks u h) lt
  where
    by : (b : Bool) → eqb k u ≡ b → (place_in ks u < length ks → slice_index ks (place_in ks u) ≡ u) → cond b 0 (suc (place_in ks u)) < suc (length ks)
        → slice_index (k ∷ ks) (cond b 0 (suc (place_in ks u))) ≡ u
    by true e more lt = eqb-true k u e
    by false e more lt = more (omega (arith, lt))

-- each is above low and below top
pub within : (top low : ℕ) (made : List ℕ) (r : ℕ) → RisesTo top low made → r < length made → (low < slice_index made r) × (slice_index made r < top)
within top low [] r h lt = absurd (let z : ⊥ = omega (arith, lt) in z)
within top low (k ∷ ks) zero h lt = (h.0, h.1)
within top low (k ∷ ks) (suc r) h lt = let a = h.0 in let z = within top k ks r h.2 (omega (arith, lt)) in let y = z.0 in (omega (arith, a, y), z.1)

-- the place of the slot at a place
pub placed : (top low : ℕ) (made : List ℕ) (r : ℕ) → RisesTo top low made → r < length made → place_in made (slice_index made r) ≡ r
unfolding place_in
placed top low [] r h lt = absurd (let z : ⊥ = omega (arith, lt) in z)
placed top low (k ∷ ks) zero h lt = rw (eq-eqb k k refl) refl
placed top low (k ∷ ks) (suc r) h lt =
    let less = (within top k ks r h.2 (omega (arith, lt))).0 in
    let other : eqb k (slice_index ks r) ≡ false = ne_eqb k (slice_index ks r) (λ e. let z : ⊥ = omega (arith, e, less) in z) in
    rw other (ap (λ (n : ℕ). suc n) (placed top k ks r h.2 (omega (arith, lt))))

-- the slot of the thread of a slot that is made
pub slot_thread : (made : List ℕ) (u : ℕ) → thread_of made u < suc (length made) → slot_of made (thread_of made u) ≡ u
slot_thread made zero lt = refl
slot_thread made (suc u) lt = found made (suc u) (omega (arith, lt))

-- the thread of the slot of a thread that is made
pub thread_slot : (top : ℕ) (made : List ℕ) (r : ℕ) → RisesTo top 0 made → r < suc (length made) → thread_of made (slot_of made r) ≡ r
thread_slot top made zero h lt = refl
thread_slot top made (suc r) h lt = by (slice_index made r) refl
  where
    by : (n : ℕ) → slice_index made r ≡ n → thread_of made n ≡ suc r
    by zero e = let a = (within top 0 made r h (omega (arith, lt))).0 in absurd (let z : ⊥ = omega (arith, a, e) in z)
    by (suc n) e = ap (λ (x : ℕ). suc x) (subst (λ (x : ℕ). place_in made x ≡ r) e (placed top 0 made r h (omega (arith, lt))))

-- two tests of numbers that mean the same
pub same_test : (a b c d : ℕ) → (a ≡ b → c ≡ d) → (c ≡ d → a ≡ b) → eqb a b ≡ eqb c d
same_test a b c d f g = by (eqb a b) refl (eqb c d) refl
  where
    by : (x : Bool) → eqb a b ≡ x → (y : Bool) → eqb c d ≡ y → x ≡ y
    by true e true h = refl
    by false e false h = refl
    by true e false h = absurd (eqb-false c d h (f (eqb-true a b e)))
    by false e true h = absurd (eqb-false a b e (g (eqb-true c d h)))

-- a slot is that of a thread exactly where the thread is that of the slot
pub same_slot : (top : ℕ) (made : List ℕ) (q u : ℕ) → RisesTo top 0 made → q < suc (length made) → thread_of made u < suc (length made) → eqb (slot_of made q) u ≡ eqb q (thread_of made u)
same_slot top made q u h lq lu = same_test (slot_of made q) u q (thread_of made u)
    (λ e. sym (thread_slot top made q h lq) ∙ ap (λ (x : ℕ). thread_of made x) e)
    (λ e. ap (λ (x : ℕ). slot_of made x) e ∙ slot_thread made u lu)
