-- Slots that are made, and what one more changes.
use Rattle.std.proofs.Common.{◌≡◌, ℕ, zero, suc, ◌+◌, ◌≤◌, ◌<◌, Bool, true, false, not, ◌&&◌, cond, List, [], ◌∷◌, ◌++◌, length, nat_lt, eqb, refl, sym, ◌∙◌, ap, subst, arith}
use Rattle.std.proofs.lemmas.Bool.{eqb-true, eqb-false, eq-eqb, ne_eqb}
use Rattle.std.proofs.lemmas.List.{length-append}
use Rattle.lz_sync.specs.Slots.{place_in, thread_of, RisesTo}
use Rattle.lz_sync.proofs.SlotsLemmas.{place_most}
use Rattle.lz_interleave.specs.Deeds.{starts}
use Rattle.lz_slot_runs.specs.SlotRuns.{is_awake, last_of, may_start}

-- a slot keeps its place in a list with one more at the end
pub place_kept : (made : List ℕ) (k u : ℕ) → place_in made u < length made → place_in (made ++ k ∷ []) u ≡ place_in made u
unfolding place_in
place_kept [] k u lt = absurd (let z : ⊥ = omega (arith, lt) in z)
place_kept (j ∷ js) k u lt = by (eqb j u) (λ h. place_kept js k u h) lt
  where
    by : (b : Bool) → (place_in js u < length js → place_in (js ++ k ∷ []) u ≡ place_in js u) → cond b 0 (suc (place_in js u)) < suc (length js)
        → cond b 0 (suc (place_in (js ++ k ∷ []) u)) ≡ cond b 0 (suc (place_in js u))
    by true more lt = refl
    by false more lt = ap suc (more (omega (arith, lt)))

-- one that was not there stands at the end, if it is the new one
pub place_new : (made : List ℕ) (k : ℕ) → place_in made k ≡ length made → place_in (made ++ k ∷ []) k ≡ length made
unfolding place_in
place_new [] k e = rw (eq-eqb k k refl) refl
place_new (j ∷ js) k e = by (eqb j k) refl (λ h. place_new js k h) e
  where
    by : (b : Bool) → eqb j k ≡ b → (place_in js k ≡ length js → place_in (js ++ k ∷ []) k ≡ length js) → cond b 0 (suc (place_in js k)) ≡ suc (length js)
        → cond b 0 (suc (place_in (js ++ k ∷ []) k)) ≡ suc (length js)
    by true f more e = absurd (let z : ⊥ = omega (arith, e) in z)
    by false f more e = ap suc (more (let z : place_in js k ≡ length js = omega (arith, e) in z))

-- and else it is past the end
pub place_other : (made : List ℕ) (k u : ℕ) → (k ≡ u → ⊥) → place_in made u ≡ length made → place_in (made ++ k ∷ []) u ≡ suc (length made)
unfolding place_in
place_other [] k u other e = rw (ne_eqb k u other) refl
place_other (j ∷ js) k u other e = by (eqb j u) (λ h. place_other js k u other h) e
  where
    by : (b : Bool) → (place_in js u ≡ length js → place_in (js ++ k ∷ []) u ≡ suc (length js)) → cond b 0 (suc (place_in js u)) ≡ suc (length js)
        → cond b 0 (suc (place_in (js ++ k ∷ []) u)) ≡ suc (suc (length js))
    by true more e = absurd (let z : ⊥ = omega (arith, e) in z)
    by false more e = ap suc (more (let z : place_in js u ≡ length js = omega (arith, e) in z))

-- one more item
pub length_more : (made : List ℕ) (k : ℕ) → length (made ++ k ∷ []) ≡ suc (length made)
length_more made k = length-append made (k ∷ []) ∙ (let z : length made + 1 ≡ suc (length made) = omega arith in z)

-- a slot that is made stands for a thread that is
pub awake_is : (made : List ℕ) (u : ℕ) → is_awake made u ≡ true → thread_of made u < suc (length made)
awake_is made u a = grind (arith, a)

-- and the other way round
pub is_awake_at : (made : List ℕ) (u : ℕ) → thread_of made u < suc (length made) → is_awake made u ≡ true
is_awake_at made u lt = grind (arith, lt)

-- slot 0 is made
pub main_awake : (made : List ℕ) → is_awake made 0 ≡ false → ⊥
main_awake made a = let z = is_awake_at made 0 (omega arith) in let y : true ≡ false = sym z ∙ a in cc

-- one that is not made stands for the next thread
pub asleep_is : (made : List ℕ) (u : ℕ) → is_awake made u ≡ false → thread_of made u ≡ suc (length made)
asleep_is made zero a = absurd (main_awake made a)
asleep_is made (suc u) a =
    let most = place_most made (suc u) in
    let never : suc (place_in made (suc u)) < suc (length made) → ⊥ = grind (arith, a) in
    by (nat_lt (place_in made (suc u)) (length made)) refl most never
  where
    by : (b : Bool) → nat_lt (place_in made (suc u)) (length made) ≡ b → place_in made (suc u) ≤ length made → (suc (place_in made (suc u)) < suc (length made) → ⊥) → suc (place_in made (suc u)) ≡ suc (length made)
    by true e most never = absurd (never (let z : place_in made (suc u) < length made = grind (arith, e) in omega (arith, z)))
    by false e most never = let z : length made ≤ place_in made (suc u) = grind (arith, e) in omega (arith, z, most)

-- a slot that is made keeps its thread when one more is made
pub thread_kept : (made : List ℕ) (k u : ℕ) → is_awake made u ≡ true → thread_of (made ++ k ∷ []) u ≡ thread_of made u
thread_kept made k zero a = refl
thread_kept made k (suc u) a = ap suc (place_kept made k (suc u) (let z = awake_is made (suc u) a in omega (arith, z)))

-- the new one is the next thread
pub thread_new : (made : List ℕ) (k : ℕ) → is_awake made k ≡ false → thread_of (made ++ k ∷ []) k ≡ suc (length made)
thread_new made zero a = absurd (main_awake made a)
thread_new made (suc k) a = ap suc (place_new made (suc k) (let z = asleep_is made (suc k) a in omega (arith, z)))

-- a slot that is made stays so
pub awake_kept : (made : List ℕ) (k u : ℕ) → is_awake made u ≡ true → is_awake (made ++ k ∷ []) u ≡ true
awake_kept made k u a =
    let same = thread_kept made k u a in
    let lt = awake_is made u a in
    let long = length_more made k in
    is_awake_at (made ++ k ∷ []) u (omega (arith, same, lt, long))

-- which slots are made when one more is
pub awake_grown : (made : List ℕ) (k u : ℕ) → is_awake made k ≡ false → is_awake (made ++ k ∷ []) u ≡ cond (eqb k u) true (is_awake made u)
awake_grown made k u new = by (eqb k u) refl (is_awake made u) refl
  where
    by : (b : Bool) → eqb k u ≡ b → (c : Bool) → is_awake made u ≡ c → is_awake (made ++ k ∷ []) u ≡ cond b true c
    by true e c f = subst (λ (w : ℕ). is_awake (made ++ k ∷ []) w ≡ true) (eqb-true k u e)
        (let at = thread_new made k new in let long = length_more made k in is_awake_at (made ++ k ∷ []) k (omega (arith, at, long)))
    by false e true f = awake_kept made k u f
    by false e false f = other u f (eqb-false k u e)
      where
        other : (u : ℕ) → is_awake made u ≡ false → (k ≡ u → ⊥) → is_awake (made ++ k ∷ []) u ≡ false
        other zero f apart = absurd (main_awake made f)
        other (suc u) f apart =
            let past = place_other made k (suc u) apart (let z = asleep_is made (suc u) f in omega (arith, z)) in
            let long = length_more made k in
            let not_less : suc (place_in (made ++ k ∷ []) (suc u)) < suc (length (made ++ k ∷ [])) → ⊥ = (λ h. let z : ⊥ = omega (arith, h, past, long) in z) in
            false_of (nat_lt (suc (place_in (made ++ k ∷ []) (suc u))) (suc (length (made ++ k ∷ [])))) refl not_less
          where
            false_of : (b : Bool) → nat_lt (suc (place_in (made ++ k ∷ []) (suc u))) (suc (length (made ++ k ∷ []))) ≡ b → (suc (place_in (made ++ k ∷ []) (suc u)) < suc (length (made ++ k ∷ [])) → ⊥) → b ≡ false
            false_of true e never = absurd (never (grind (arith, e)))
            false_of false e never = refl

-- a start that may be is of a slot that is not made, above all that are
pub new_start : (k v : ℕ) (made : List ℕ) → may_start (starts k v) made ≡ true → (last_of 0 made < k) × (is_awake made k ≡ false)
new_start k v made h = by (nat_lt (last_of 0 made) k) refl (is_awake made k) refl h
  where
    by : (b : Bool) → nat_lt (last_of 0 made) k ≡ b → (c : Bool) → is_awake made k ≡ c → (b && not c) ≡ true → (last_of 0 made < k) × (is_awake made k ≡ false)
    by true e true f h = absurd cc
    by true e false f h = (grind (arith, e), f)
    by false e c f h = absurd cc

-- a list that rises with one more above its last
pub rises_on : (top low k : ℕ) (made : List ℕ) → RisesTo top low made → last_of low made < k → k < top → RisesTo top low (made ++ k ∷ [])
rises_on top low k [] r lt below = (lt, below, tt)
rises_on top low k (j ∷ js) r lt below = (r.0, r.1, rises_on top j k js r.2 lt below)

-- at first no slot but 0 is made
pub none_awake : (k : ℕ) → is_awake [] (suc k) ≡ false
unfolding place_in
none_awake k = refl
