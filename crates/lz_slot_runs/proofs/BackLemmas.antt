-- A run of the process that breaks is a run of slots that breaks alike, in as many rounds.
use Rattle.std.proofs.Common.{◌≡◌, ◌≢◌, ℕ, zero, suc, ◌≤◌, ◌<◌, ◌⊎◌, inl, inr, Bool, true, false, not, ◌&&◌, ◌||◌, cond, List, [], ◌∷◌, ◌++◌, length, nat_lt, eqb, refl, sym, ◌∙◌, ap, arith, Some, None}
use Rattle.std.specs.Prelude.{slice_index}
use Rattle.std.proofs.lemmas.Bool.{ne_eqb}
use Rattle.lz_base.specs.declared.word.BreakKind.TheVariants as kinds
use Rattle.lz_model.specs.declared.actions.Action.{Action}
use Rattle.lz_model.specs.declared.actions.Action.TheVariants.{Loc, Input, Check, Assume, Rd, Wr, Reset, Lock, Unlock, Park, Wake, Signal, Broadcast, Create, Join, HoldOn, HoldOff, End}
use Rattle.lz_model.specs.Actions.{Act, act_of, event_of, started_by, is_shared}
use Rattle.lz_model.specs.Actions as actions
use Rattle.lz_model.specs.Store.{State, Acted, blocked, broke, act, is_halted, held_by_another, is_made, thread_at, waits_on, with_thread, awake, goes_where, joins}
use Rattle.lz_sync.specs.Slots.{place_in, thread_of, slot_of, RisesTo}
use Rattle.lz_sync.proofs.SlotsLemmas.{thread_slot, within}
use Rattle.lz_slot_runs.specs.SlotRuns.{is_awake, last_of, with_threads}
use Rattle.lz_slot_runs.proofs.AwakeLemmas.{asleep_is}
use Rattle.lz_slot_runs.proofs.NamesLemmas.{made_below}

-- ---- lists that rise

-- the front of one rises
pub front_rises : (top low : ℕ) (made rest : List ℕ) → RisesTo top low (made ++ rest) → RisesTo top low made
front_rises top low [] rest r = tt
front_rises top low (k ∷ ks) rest r = (r.0, r.1, front_rises top k ks rest r.2)

-- what comes after a front is above its last, and below top
pub next_rises : (top low k : ℕ) (made rest : List ℕ) → RisesTo top low (made ++ k ∷ rest) → (last_of low made < k) × (k < top)
next_rises top low k [] rest r = (r.0, r.1)
next_rises top low k (j ∷ js) rest r = next_rises top j k js rest r.2

-- the last of a list that rises is no less than where it rises from
last_least : (top low : ℕ) (made : List ℕ) → RisesTo top low made → low ≤ last_of low made
last_least top low [] r = omega arith
last_least top low (k ∷ ks) r = let z = last_least top k ks r.2 in let a = r.0 in omega (arith, z, a)

-- a slot above all is in no place
above_none : (top low k : ℕ) (made : List ℕ) → RisesTo top low made → last_of low made < k → place_in made k ≡ length made
unfolding place_in
above_none top low k [] r lt = refl
above_none top low k (j ∷ js) r lt =
    let least = last_least top j js r.2 in
    rw (ne_eqb j k (λ same. let z : ⊥ = omega (arith, same, least, lt) in z)) (ap suc (above_none top j k js r.2 lt))

-- so it is not made
pub above_asleep : (top k : ℕ) (made : List ℕ) → RisesTo top 0 made → last_of 0 made < k → is_awake made k ≡ false
above_asleep top zero made r lt = absurd (let z : ⊥ = omega (arith, lt) in z)
above_asleep top (suc k) made r lt = by (nat_lt (suc (place_in made (suc k))) (suc (length made))) refl (above_none top 0 (suc k) made r lt)
  where
    by : (b : Bool) → nat_lt (suc (place_in made (suc k))) (suc (length made)) ≡ b → place_in made (suc k) ≡ length made → b ≡ false
    by true e is = absurd (let z : suc (place_in made (suc k)) < suc (length made) = grind (arith, e) in let y : ⊥ = omega (arith, z, is) in y)
    by false e is = refl

-- ---- items of lists

-- an item of the front
front_item : (made rest : List ℕ) (r : ℕ) → r < length made → slice_index (made ++ rest) r ≡ slice_index made r
front_item [] rest r lt = absurd (let z : ⊥ = omega (arith, lt) in z)
front_item (k ∷ ks) rest zero lt = refl
front_item (k ∷ ks) rest (suc r) lt = front_item ks rest r (omega (arith, lt))

-- the first item after it
pub next_item : (made : List ℕ) (k : ℕ) (rest : List ℕ) → slice_index (made ++ k ∷ rest) (length made) ≡ k
next_item [] k rest = refl
next_item (j ∷ js) k rest = next_item js k rest

-- an item past the end is 0
past_item : (made : List ℕ) (r : ℕ) → length made ≤ r → slice_index made r ≡ 0
past_item [] zero le = refl
past_item [] (suc r) le = refl
past_item (k ∷ ks) zero le = absurd (let z : ⊥ = omega (arith, le) in z)
past_item (k ∷ ks) (suc r) le = past_item ks r (omega (arith, le))

-- an item after the front is above the front's last
later_item : (top low : ℕ) (made rest : List ℕ) (r : ℕ) → RisesTo top low (made ++ rest) → length made ≤ r → r < length (made ++ rest) → last_of low made < slice_index (made ++ rest) r
later_item top low [] rest r h le lt = (within top low rest r h lt).0
later_item top low (k ∷ ks) rest zero h le lt = absurd (let z : ⊥ = omega (arith, le) in z)
later_item top low (k ∷ ks) rest (suc r) h le lt = later_item top k ks rest r h.2 (omega (arith, le)) (omega (arith, lt))

-- ---- names there and back

-- the slot of a thread that is made
pub slot_now : (made rest : List ℕ) (t : ℕ) → t < suc (length made) → slot_of (made ++ rest) t ≡ slot_of made t
slot_now made rest zero lt = refl
slot_now made rest (suc r) lt = front_item made rest r (omega (arith, lt))

-- a thread that is made, by its slot and back
pub there_and_back : (top : ℕ) (made rest : List ℕ) (t : ℕ) → RisesTo top 0 (made ++ rest) → t < suc (length made) → thread_of made (slot_of (made ++ rest) t) ≡ t
there_and_back top made rest t r lt = ap (thread_of made) (slot_now made rest t lt) ∙ thread_slot top made t (front_rises top 0 made rest r) lt

-- one that is not made comes back as none that is, or as thread 0
pub back_unmade : (top : ℕ) (made rest : List ℕ) (t : ℕ) → RisesTo top 0 (made ++ rest) → length made < t → (thread_of made (slot_of (made ++ rest) t) ≡ 0) ⊎ (suc (length made) ≤ thread_of made (slot_of (made ++ rest) t))
back_unmade top made rest zero r lt = absurd (let z : ⊥ = omega (arith, lt) in z)
back_unmade top made rest (suc q) r lt = by (nat_lt q (length (made ++ rest))) refl
  where
    by : (b : Bool) → nat_lt q (length (made ++ rest)) ≡ b → (thread_of made (slice_index (made ++ rest) q) ≡ 0) ⊎ (suc (length made) ≤ thread_of made (slice_index (made ++ rest) q))
    by true e =
        let above = later_item top 0 made rest q r (omega (arith, lt)) (grind (arith, e)) in
        let none = above_asleep top (slice_index (made ++ rest) q) made (front_rises top 0 made rest r) above in
        let at = asleep_is made (slice_index (made ++ rest) q) none in
        inr (omega (arith, at))
    by false e = inl (ap (thread_of made) (past_item (made ++ rest) q (grind (arith, e))))

-- who is woken is made, of a signal that is not blocked
pub woken_is_made : (s : State) (t c w : ℕ) → act s t (Signal c (Some w)) ≢ blocked → w < length s.threads
woken_is_made s t c w h = by (is_halted s t || (is_shared (Signal c (Some w)) && held_by_another s.holder t)) (is_made s w) refl (waits_on c (thread_at s w)) h
  where
    by : (x m : Bool) → is_made s w ≡ m → (q : Bool) → cond x blocked (goes_where (m && q) (with_thread s w (awake (thread_at s w)))) ≢ blocked → w < length s.threads
    by true m f q h = absurd (h refl)
    by false true f q h = made_below s w f
    by false false f q h = absurd (h refl)

-- a join of thread 0, or of none that is made, breaks
join_breaks : (s : State) (d : ℕ) → (d ≡ 0) ⊎ (length s.threads ≤ d) → joins s d ≡ broke kinds.Join
join_breaks s d (inl is) = rw is refl
join_breaks s d (inr le) = by (eqb d 0) (is_made s d) refl
  where
    by : (z m : Bool) → is_made s d ≡ m → cond (z || (not m || (thread_at s d).joined)) (broke kinds.Join) (goes_where (thread_at s d).ended (with_thread s d (record (thread_at s d) { joined = true }))) ≡ broke kinds.Join
    by true m f = refl
    by false true f = absurd (let z = made_below s d f in let y : ⊥ = omega (arith, z, le) in y)
    by false false f = refl

-- By names that come back alike, an action that is not blocked comes to the same.
pub names_back : (h : ℕ → ℕ) (s : State) (t : ℕ) (a : Action) → act s t a ≢ blocked → ((w : ℕ) → w < length s.threads → h w ≡ w)
    → ((w : ℕ) → length s.threads ≤ w → (h w ≡ 0) ⊎ (length s.threads ≤ h w)) → ((start : actions.Start) → started_by a ≡ Some start → h start.thread ≡ start.thread)
    → act s t (with_threads h a) ≡ act s t a
names_back h s t Loc goes same past new = refl
names_back h s t (Input v) goes same past new = refl
names_back h s t (Check v kind) goes same past new = refl
names_back h s t (Assume v) goes same past new = refl
names_back h s t (Rd cell v) goes same past new = refl
names_back h s t (Wr cell v) goes same past new = refl
names_back h s t (Reset m) goes same past new = refl
names_back h s t (Lock m) goes same past new = refl
names_back h s t (Unlock m) goes same past new = refl
names_back h s t (Park c m) goes same past new = refl
names_back h s t (Wake c m) goes same past new = refl
names_back h s t (Signal c None) goes same past new = refl
names_back h s t (Signal c (Some w)) goes same past new = ap (λ (n : ℕ). act s t (Signal c (Some n))) (same w (woken_is_made s t c w goes))
names_back h s t (Broadcast c) goes same past new = refl
names_back h s t (Create d start v) goes same past new = ap (λ (n : ℕ). act s t (Create n start v)) (new (record { thread = d; routine = start; argument = v }) refl)
names_back h s t (Join d) goes same past new = by (nat_lt d (length s.threads)) refl
  where
    by : (b : Bool) → nat_lt d (length s.threads) ≡ b → act s t (Join (h d)) ≡ act s t (Join d)
    by true e = ap (λ (n : ℕ). act s t (Join n)) (same d (grind (arith, e)))
    by false e =
        let le : length s.threads ≤ d = grind (arith, e) in
        ap (λ (r : Acted). cond (is_halted s t || (is_shared (Join d) && held_by_another s.holder t)) blocked r) (join_breaks s (h d) (past d le) ∙ sym (join_breaks s d (inr le)))
names_back h s t HoldOn goes same past new = refl
names_back h s t HoldOff goes same past new = refl
names_back h s t (End w) goes same past new = refl

-- two names one after the other
pub named_twice : (f g : ℕ → ℕ) (a : Action) → with_threads g (with_threads f a) ≡ with_threads (λ w. g (f w)) a
named_twice f g Loc = refl
named_twice f g (Input v) = refl
named_twice f g (Check v kind) = refl
named_twice f g (Assume v) = refl
named_twice f g (Rd cell v) = refl
named_twice f g (Wr cell v) = refl
named_twice f g (Reset m) = refl
named_twice f g (Lock m) = refl
named_twice f g (Unlock m) = refl
named_twice f g (Park c m) = refl
named_twice f g (Wake c m) = refl
named_twice f g (Signal c None) = refl
named_twice f g (Signal c (Some w)) = refl
named_twice f g (Broadcast c) = refl
named_twice f g (Create d start v) = refl
named_twice f g (Join d) = refl
named_twice f g HoldOn = refl
named_twice f g HoldOff = refl
named_twice f g (End w) = refl
