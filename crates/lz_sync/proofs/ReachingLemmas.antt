-- A memory for each state that is reached.
use Rattle.std.proofs.Common.{◌≡◌, ℕ, zero, suc, ◌+◌, ◌-◌, ◌≤◌, ◌<◌, Bool, true, false, not, ◌&&◌, ◌||◌, cond, List, [], ◌∷◌, ◌++◌, length, map, eqb, ltb, replicate, refl, sym, ◌∙◌, ap, subst, arith, Option, Some, None}
use Rattle.std.specs.Prelude.{slice_index, slice_index_or, slice_set}
use Rattle.std.specs.List.{AllByRecursion}
use Rattle.std.proofs.lemmas.Bool.{eqb-true, eqb-false, eq-eqb, ne_eqb, ltb-true, ltb-false, lt-ltb, le-ltb}
use Rattle.std.proofs.lemmas.List.{length-set, length-map, get_or-set_same, get_or-set_other, set_past}
use Rattle.lz_base.specs.Words.{truth, value_bound}
use Rattle.lz_base.specs.declared.word.BreakKind.TheVariants as kinds
use Rattle.lz_flat.specs.WellFormed.{IsWord}
use Rattle.lz_model.specs.declared.actions.Action.{Action}
use Rattle.lz_model.specs.declared.actions.Action.TheVariants.{Loc, Input, Check, Assume, Rd, Wr, Reset, Lock, Unlock, Park, Wake, Signal, Broadcast, Create, Join, HoldOn, HoldOff, End}
use Rattle.lz_model.specs.declared.thread_state.ThreadState.{ThreadState}
use Rattle.lz_model.specs.Actions.{is_shared}
use Rattle.lz_model.specs.Store.{State, opening, fresh, went, blocked, is_now, is_made, is_free, is_waiting, owns, owner_of, thread_at, has_waiter, waits_on, awake, woken_from, with_owner, with_thread, is_halted, held_by_another, act_free, act}
use Rattle.lz_model.proofs.RunFrontsLemmas.{goes_is, breaks_is, went_is, joins_is}
use Rattle.lz_sync.specs.declared.layout.Layout.{Layout}
use Rattle.lz_sync.specs.Slots.{thread_of}
use Rattle.lz_sync.specs.Standing.{Role, cell, owner, over, holder, main_life, no_life, life, no_wait, wait, place_of, lives_from, waits_from, words_of, IsOf, life_in, thread_word, number_word, said, IsMadeIn, IsSound, Fits, StandsFor}
use Rattle.lz_sync.specs.Reaching.{IsReached, opens, acts, IsCondOf, IsStateOf, MemoryForEach}
use Rattle.lz_sync.proofs.ActingLemmas.{is_there, neither}
use Rattle.lz_sync.proofs.TellsLemmas.{place_lt}
use Rattle.lz_sync.proofs.SignalLemmas.{slot_lt}

-- ---- an action that goes keeps what every state that is reached has

-- what holds of an item and of the old one holds after a write of the item
set_keeps : {A : Type 0} (P : A → Type 0) (xs : List A) (i j : ℕ) (o d : A) → P o → P (slice_index_or xs j d) → P (slice_index_or (slice_set xs i o) j d)
set_keeps {A = A} P xs i j o d new old = by (eqb j i) refl (ltb i (length xs)) refl
  where
    by : (b : Bool) → eqb j i ≡ b → (c : Bool) → ltb i (length xs) ≡ c → P (slice_index_or (slice_set xs i o) j d)
    by false e c f = subst P (sym (get_or-set_other xs i j o d (eqb-false j i e))) old
    by true e true f = subst P (sym (ap (λ (k : ℕ). slice_index_or (slice_set xs i o) k d) (eqb-true j i e) ∙ get_or-set_same xs i o d (ltb-true i (length xs) f))) new
    by true e false f = subst (λ (ys : List A). P (slice_index_or ys j d)) (sym (set_past xs i o (ltb-false i (length xs) f))) old

-- who was made is made where there are no fewer threads
still : (s s2 : State) (x : Option ℕ) → length s.threads ≤ length s2.threads → IsMadeIn s x → IsMadeIn s2 x
still s s2 None le h = tt
still s s2 (Some n) le h = omega (arith, h, le)

-- who was joined has ended
AreJoined : List ThreadState → Type 0
AreJoined threads = (n : ℕ) → (slice_index_or threads n fresh).joined ≡ true → (slice_index_or threads n fresh).ended ≡ true

with_threads : (s : State) (threads : List ThreadState) → IsSound s → length s.threads ≤ length threads → AreJoined threads → IsSound (record s { threads = threads })
unfolding AreJoined
with_threads s threads h le joined = record {
  owners = λ j. still s (record s { threads = threads }) (owner_of s j) le (h.owners j);
  holder = still s (record s { threads = threads }) s.holder le h.holder;
  joins = joined;
}

one_thread : (s : State) (q : ℕ) (thread : ThreadState) → IsSound s → (thread.joined ≡ true → thread.ended ≡ true) → IsSound (with_thread s q thread)
unfolding AreJoined
one_thread s q thread h new = with_threads s (slice_set s.threads q thread) h (let z = length-set s.threads q thread in omega (arith, z))
    (λ n. set_keeps (λ (x : ThreadState). x.joined ≡ true → x.ended ≡ true) s.threads q n thread fresh new (h.joins n))

one_owner : (s : State) (m : ℕ) (o : Option ℕ) → IsSound s → IsMadeIn s o → IsSound (with_owner s m o)
one_owner s m o h is = record { owners = λ j. set_keeps (λ (x : Option ℕ). IsMadeIn s x) s.owners m j o None is (h.owners j); holder = h.holder; joins = h.joins }

moved : (s1 s2 : State) → IsSound s1 → s1 ≡ s2 → IsSound s2
moved s1 s2 h e = subst (λ (x : State). IsSound x) e h

let_go : (c : Bool) (s s1 s2 : State) → IsSound s → IsSound s1 → went (cond c s1 s) ≡ went s2 → IsSound s2
let_go true s s1 s2 h k e = moved s1 s2 k (went_is s1 s2 e)
let_go false s s1 s2 h k e = moved s s2 h (went_is s s2 e)

maybe_held : (s : State) (c : Bool) → IsSound s → IsMadeIn s (cond c None s.holder)
maybe_held s true h = tt
maybe_held s false h = h.holder

woken_joined : (c : ℕ) (threads : List ThreadState) → AreJoined threads → AreJoined (map (woken_from c) threads)
unfolding AreJoined
woken_joined c [] h n e = absurd cc
woken_joined c (x ∷ xs) h zero e = by (waits_on c x) e
  where
    by : (b : Bool) → (cond b (awake x) x).joined ≡ true → (cond b (awake x) x).ended ≡ true
    by true e = h 0 e
    by false e = h 0 e
woken_joined c (x ∷ xs) h (suc n) e = woken_joined c xs (λ k. h (suc k)) n e

one_more : (threads : List ThreadState) → AreJoined threads → AreJoined (threads ++ fresh ∷ [])
unfolding AreJoined
one_more [] h zero e = absurd cc
one_more [] h (suc n) e = absurd cc
one_more (x ∷ xs) h zero e = h 0 e
one_more (x ∷ xs) h (suc n) e = one_more xs (λ k. h (suc k)) n e

long_by_one : (threads : List ThreadState) → length threads ≤ length (threads ++ fresh ∷ [])
long_by_one [] = omega arith
long_by_one (x ∷ xs) = let z = long_by_one xs in omega (arith, z)

sound_free : (s : State) (t : ℕ) (a : Action) (s2 : State) → IsSound s → t < length s.threads → act_free s t a ≡ went s2 → IsSound s2
unfolding AreJoined
sound_free s t Loc s2 h lt e = moved s s2 h (went_is s s2 e)
sound_free s t (Input v) s2 h lt e = moved s s2 h (went_is s s2 e)
sound_free s t (Check zero kind) s2 h lt e = absurd cc
sound_free s t (Check (suc v) kind) s2 h lt e = moved s s2 h (went_is s s2 e)
sound_free s t (Assume zero) s2 h lt e = absurd cc
sound_free s t (Assume (suc v)) s2 h lt e = moved s s2 h (went_is s s2 e)
sound_free s t (Rd c v) s2 h lt e = moved s s2 h (goes_is (eqb v (slice_index s.cells c)) s s2 e).1
sound_free s t (Wr c v) s2 h lt e =
    let s1 = record s { cells = slice_set s.cells c v } in moved s1 s2 (record { owners = h.owners; holder = h.holder; joins = h.joins }) (went_is s1 s2 e)
sound_free s t (Reset m) s2 h lt e = moved (with_owner s m None) s2 (one_owner s m None h tt) (went_is (with_owner s m None) s2 e)
sound_free s t (Lock m) s2 h lt e = moved (with_owner s m (Some t)) s2 (one_owner s m (Some t) h lt) (goes_is (is_free s m) (with_owner s m (Some t)) s2 e).1
sound_free s t (Unlock m) s2 h lt e = moved (with_owner s m None) s2 (one_owner s m None h tt) (breaks_is (owns s t m) (with_owner s m None) s2 kinds.Unlock e)
sound_free s t (Park c m) s2 h lt e =
    let now = record (thread_at s t) { waits = Some c } in
    let s1 = with_thread (with_owner s m None) t now in
    moved s1 s2 (one_thread (with_owner s m None) t now (one_owner s m None h tt) (h.joins t)) (breaks_is (owns s t m) s1 s2 kinds.Wait e)
sound_free s t (Wake c m) s2 h lt e =
    moved (with_owner s m (Some t)) s2 (one_owner s m (Some t) h lt) (goes_is (not (is_waiting (thread_at s t)) && is_free s m) (with_owner s m (Some t)) s2 e).1
sound_free s t (Signal c None) s2 h lt e = moved s s2 h (goes_is (not (has_waiter s c)) s s2 e).1
sound_free s t (Signal c (Some u)) s2 h lt e =
    let s1 = with_thread s u (awake (thread_at s u)) in moved s1 s2 (one_thread s u (awake (thread_at s u)) h (h.joins u)) (goes_is (is_made s u && waits_on c (thread_at s u)) s1 s2 e).1
sound_free s t (Broadcast c) s2 h lt e =
    let s1 = record s { threads = map (woken_from c) s.threads } in
    moved s1 s2 (with_threads s (map (woken_from c) s.threads) h (let z = length-map s.threads (woken_from c) in omega (arith, z)) (woken_joined c s.threads h.joins)) (went_is s1 s2 e)
sound_free s t (Create d f v) s2 h lt e =
    let s1 = record s { threads = s.threads ++ fresh ∷ [] } in
    moved s1 s2 (with_threads s (s.threads ++ fresh ∷ []) h (long_by_one s.threads) (one_more s.threads h.joins)) (goes_is (eqb d (length s.threads)) s1 s2 e).1
sound_free s t (Join d) s2 h lt e = by (eqb d 0 || (not (is_made s d) || (thread_at s d).joined)) refl (thread_at s d).ended refl
  where
    s1 : State
    s1 = with_thread s d (record (thread_at s d) { joined = true })

    by : (b : Bool) → (eqb d 0 || (not (is_made s d) || (thread_at s d).joined)) ≡ b → (c : Bool) → (thread_at s d).ended ≡ c → IsSound s2
    by b f true g = moved s1 s2 (one_thread s d (record (thread_at s d) { joined = true }) h (λ x. g))
        (joins_is (eqb d 0 || (not (is_made s d) || (thread_at s d).joined)) (thread_at s d).ended s1 s2 kinds.Join e)
    by true f false g = absurd (let z = rw f at e in cc)
    by false f false g = absurd (let z = rw (f, g) at e in cc)
sound_free s t HoldOn s2 h lt e = let s1 = record s { holder = Some t } in moved s1 s2 (record { owners = h.owners; holder = lt; joins = h.joins }) (went_is s1 s2 e)
sound_free s t HoldOff s2 h lt e = let_go (is_now s.holder t) s (record s { holder = None }) s2 h (record { owners = h.owners; holder = tt; joins = h.joins }) e
sound_free s t (End whole) s2 h lt e =
    let now = record (thread_at s t) { ended = true } in
    let s1 = record s { threads = slice_set s.threads t now; holder = cond (is_now s.holder t) None s.holder; over = s.over || whole } in
    let one : IsSound (with_thread s t now) = one_thread s t now h (λ x. refl) in
    moved s1 s2 (record { owners = one.owners; holder = maybe_held (with_thread s t now) (is_now s.holder t) one; joins = one.joins }) (went_is s1 s2 e)

sound_act : (s : State) (t : ℕ) (a : Action) (s2 : State) → IsSound s → act s t a ≡ went s2 → IsSound s2
sound_act s t a s2 h e = by (is_halted s t || (is_shared a && held_by_another s.holder t)) refl e
  where
    by : (b : Bool) → (is_halted s t || (is_shared a && held_by_another s.holder t)) ≡ b → cond b blocked (act_free s t a) ≡ went s2 → IsSound s2
    by true f e = absurd cc
    by false f e = sound_free s t a s2 h (is_there s t (neither (is_halted s t) (is_shared a && held_by_another s.holder t) f)) e

none_at_all : (n j : ℕ) → slice_index_or {A = Option ℕ} (replicate n None) j None ≡ None
none_at_all zero j = refl
none_at_all (suc n) zero = refl
none_at_all (suc n) (suc j) = none_at_all n j

-- every state that is reached
reached_sound : (cells : List ℕ) (mutexes : ℕ) (s : State) → IsReached cells mutexes s → IsSound s
reached_sound cells mutexes s opens = record { owners = λ j. subst (λ (o : Option ℕ). IsMadeIn (opening cells mutexes) o) (sym (none_at_all mutexes j)) tt; holder = tt; joins = joins }
  where
    joins : (n : ℕ) → (thread_at (opening cells mutexes) n).joined ≡ true → (thread_at (opening cells mutexes) n).ended ≡ true
    joins zero e = absurd cc
    joins (suc n) e = absurd cc
reached_sound cells mutexes s (acts before t a after more e) = sound_act before t a after (reached_sound cells mutexes before more) e

-- ---- a list of words

-- so many items from a number on
table : (ℕ → ℕ) → ℕ → ℕ → List ℕ
table f k zero = []
table f k (suc n) = f k ∷ table f (suc k) n

table_long : (f : ℕ → ℕ) (k n : ℕ) → length (table f k n) ≡ n
unfolding table
table_long f k zero = refl
table_long f k (suc n) = ap (λ (x : ℕ). suc x) (table_long f (suc k) n)

table_at : (f : ℕ → ℕ) (k n i : ℕ) → i < n → slice_index (table f k n) i ≡ f (k + i)
unfolding table
table_at f k zero i lt = absurd (let z : ⊥ = omega (arith, lt) in z)
table_at f k (suc n) zero lt = ap f (let z : k ≡ k + 0 = omega arith in z)
table_at f k (suc n) (suc i) lt = table_at f (suc k) n i (omega (arith, lt)) ∙ ap f (let z : suc k + i ≡ k + suc i = omega arith in z)

table_all : (P : ℕ → Type 0) (f : ℕ → ℕ) (k n : ℕ) → ((p : ℕ) → p < k + n → P (f p)) → AllByRecursion P (table f k n)
unfolding table
table_all P f k zero h = tt
table_all P f k (suc n) h = (h k (omega arith), table_all P f (suc k) n (λ p lt. h p (omega (arith, lt))))

-- ---- the role of a place

role_of : Layout → ℕ → Role
role_of layout p =
    cond (ltb p layout.cells) (cell p) (cond (ltb p (layout.cells + layout.mutexes)) (owner (p - layout.cells)) (cond (eqb p (place_of layout over)) over (cond (eqb p (place_of layout holder)) holder
    (cond (eqb p (place_of layout main_life)) main_life (cond (eqb p (lives_from layout)) no_life (cond (ltb p (waits_from layout)) (life (p - lives_from layout)) (cond (eqb p (waits_from layout)) no_wait (wait (p - suc (waits_from layout))))))))))

-- it is that of the layout whose place it is
role_back : (layout : Layout) → 0 < layout.threads → (r : Role) → IsOf layout r → role_of layout (place_of layout r) ≡ r
unfolding role_of
role_back layout pos (cell i) is = rw (lt-ltb i layout.cells is) refl
role_back layout pos (owner i) is = rw (le-ltb (layout.cells + i) layout.cells (omega arith), lt-ltb (layout.cells + i) (layout.cells + layout.mutexes) (omega (arith, is)))
    (ap (λ (n : ℕ). owner n) (let z : layout.cells + i - layout.cells ≡ i = omega arith in z))
role_back layout pos over is = rw (le-ltb (place_of layout over) layout.cells (omega arith), le-ltb (place_of layout over) (layout.cells + layout.mutexes) (omega arith), eq-eqb (place_of layout over) (place_of layout over) refl) refl
role_back layout pos holder is = rw (
  le-ltb (place_of layout holder) layout.cells (omega arith),
  le-ltb (place_of layout holder) (layout.cells + layout.mutexes) (omega arith),
  ne_eqb (place_of layout holder) (place_of layout over) (λ e. let z : ⊥ = omega (arith, e) in z),
  eq-eqb (place_of layout holder) (place_of layout holder) refl,
) refl
role_back layout pos main_life is = rw (
  le-ltb (place_of layout main_life) layout.cells (omega arith),
  le-ltb (place_of layout main_life) (layout.cells + layout.mutexes) (omega arith),
  ne_eqb (place_of layout main_life) (place_of layout over) (λ e. let z : ⊥ = omega (arith, e) in z),
  ne_eqb (place_of layout main_life) (place_of layout holder) (λ e. let z : ⊥ = omega (arith, e) in z),
  eq-eqb (place_of layout main_life) (place_of layout main_life) refl,
) refl
role_back layout pos no_life is = rw (
  le-ltb (lives_from layout) layout.cells (omega arith),
  le-ltb (lives_from layout) (layout.cells + layout.mutexes) (omega arith),
  ne_eqb (lives_from layout) (place_of layout over) (λ e. let z : ⊥ = omega (arith, e) in z),
  ne_eqb (lives_from layout) (place_of layout holder) (λ e. let z : ⊥ = omega (arith, e) in z),
  ne_eqb (lives_from layout) (place_of layout main_life) (λ e. let z : ⊥ = omega (arith, e) in z),
  eq-eqb (lives_from layout) (lives_from layout) refl,
) refl
role_back layout pos (life u) is = rw (
  le-ltb (lives_from layout + u) layout.cells (omega arith),
  le-ltb (lives_from layout + u) (layout.cells + layout.mutexes) (omega arith),
  ne_eqb (lives_from layout + u) (place_of layout over) (λ e. let z : ⊥ = omega (arith, e) in z),
  ne_eqb (lives_from layout + u) (place_of layout holder) (λ e. let z : ⊥ = omega (arith, e) in z),
  ne_eqb (lives_from layout + u) (place_of layout main_life) (λ e. let z : ⊥ = omega (arith, e) in z),
  ne_eqb (lives_from layout + u) (lives_from layout) (λ e. let low = is.0 in let z : ⊥ = omega (arith, e, low) in z),
  lt-ltb (lives_from layout + u) (waits_from layout) (let z = is.1 in omega (arith, z)),
)
    (ap (λ (n : ℕ). life n) (let z : lives_from layout + u - lives_from layout ≡ u = omega arith in z))
role_back layout pos no_wait is = rw (
  le-ltb (waits_from layout) layout.cells (omega arith),
  le-ltb (waits_from layout) (layout.cells + layout.mutexes) (omega arith),
  ne_eqb (waits_from layout) (place_of layout over) (λ e. let z : ⊥ = omega (arith, e) in z),
  ne_eqb (waits_from layout) (place_of layout holder) (λ e. let z : ⊥ = omega (arith, e) in z),
  ne_eqb (waits_from layout) (place_of layout main_life) (λ e. let z : ⊥ = omega (arith, e) in z),
  ne_eqb (waits_from layout) (lives_from layout) (λ e. let z : ⊥ = omega (arith, e, pos) in z),
  le-ltb (waits_from layout) (waits_from layout) (omega arith),
  eq-eqb (waits_from layout) (waits_from layout) refl,
) refl
role_back layout pos (wait u) is = rw (
  le-ltb (waits_from layout + suc u) layout.cells (omega arith),
  le-ltb (waits_from layout + suc u) (layout.cells + layout.mutexes) (omega arith),
  ne_eqb (waits_from layout + suc u) (place_of layout over) (λ e. let z : ⊥ = omega (arith, e) in z),
  ne_eqb (waits_from layout + suc u) (place_of layout holder) (λ e. let z : ⊥ = omega (arith, e) in z),
  ne_eqb (waits_from layout + suc u) (place_of layout main_life) (λ e. let z : ⊥ = omega (arith, e) in z),
  ne_eqb (waits_from layout + suc u) (lives_from layout) (λ e. let z : ⊥ = omega (arith, e) in z),
  le-ltb (waits_from layout + suc u) (waits_from layout) (omega arith),
  ne_eqb (waits_from layout + suc u) (waits_from layout) (λ e. let z : ⊥ = omega (arith, e) in z),
)
    (ap (λ (n : ℕ). wait n) (let z : waits_from layout + suc u - suc (waits_from layout) ≡ u = omega arith in z))

-- a place of the layout has one of its roles
role_is : (layout : Layout) (p : ℕ) → 0 < layout.threads → p < words_of layout → IsOf layout (role_of layout p)
unfolding role_of
role_is layout p pos lt = by_cell (ltb p layout.cells) refl
  where
    wait_ : (b : Bool) → eqb p (waits_from layout) ≡ b → waits_from layout ≤ p → IsOf layout (cond b no_wait (wait (p - suc (waits_from layout))))
    wait_ true e le = tt
    wait_ false e le = let n : p ≡ waits_from layout → ⊥ = eqb-false p (waits_from layout) e in let z : suc (waits_from layout) ≤ p = grind (arith, n, le) in omega (arith, z, lt)

    life_ : (b : Bool) → ltb p (waits_from layout) ≡ b → lives_from layout < p → IsOf layout (cond b (life (p - lives_from layout)) (cond (eqb p (waits_from layout)) no_wait (wait (p - suc (waits_from layout)))))
    life_ true e le = let z : p < waits_from layout = ltb-true p (waits_from layout) e in (omega (arith, le), omega (arith, le, z))
    life_ false e le = wait_ (eqb p (waits_from layout)) refl (ltb-false p (waits_from layout) e)

    no_life_ : (b : Bool) → eqb p (lives_from layout) ≡ b → lives_from layout ≤ p → IsOf layout (cond b no_life (cond (ltb p (waits_from layout)) (life (p - lives_from layout)) (cond (eqb p (waits_from layout)) no_wait (wait (p - suc (waits_from layout))))))
    no_life_ true e le = pos
    no_life_ false e le = life_ (ltb p (waits_from layout)) refl (let n : p ≡ lives_from layout → ⊥ = eqb-false p (lives_from layout) e in grind (arith, n, le))

    rest_ : Role
    rest_ = cond (eqb p (lives_from layout)) no_life (cond (ltb p (waits_from layout)) (life (p - lives_from layout)) (cond (eqb p (waits_from layout)) no_wait (wait (p - suc (waits_from layout)))))

    main_ : (b : Bool) → eqb p (place_of layout main_life) ≡ b → place_of layout main_life ≤ p → IsOf layout (cond b main_life rest_)
    main_ true e le = tt
    main_ false e le = no_life_ (eqb p (lives_from layout)) refl (let n : p ≡ place_of layout main_life → ⊥ = eqb-false p (place_of layout main_life) e in grind (arith, n, le))

    holder_ : (b : Bool) → eqb p (place_of layout holder) ≡ b → place_of layout holder ≤ p → IsOf layout (cond b holder (cond (eqb p (place_of layout main_life)) main_life rest_))
    holder_ true e le = tt
    holder_ false e le = main_ (eqb p (place_of layout main_life)) refl (let n : p ≡ place_of layout holder → ⊥ = eqb-false p (place_of layout holder) e in grind (arith, n, le))

    over_ : (b : Bool) → eqb p (place_of layout over) ≡ b → place_of layout over ≤ p → IsOf layout (cond b over (cond (eqb p (place_of layout holder)) holder (cond (eqb p (place_of layout main_life)) main_life rest_)))
    over_ true e le = tt
    over_ false e le = holder_ (eqb p (place_of layout holder)) refl (let n : p ≡ place_of layout over → ⊥ = eqb-false p (place_of layout over) e in grind (arith, n, le))

    by_owner : (b : Bool) → ltb p (layout.cells + layout.mutexes) ≡ b → layout.cells ≤ p
        → IsOf layout (cond b (owner (p - layout.cells)) (cond (eqb p (place_of layout over)) over (cond (eqb p (place_of layout holder)) holder (cond (eqb p (place_of layout main_life)) main_life rest_))))
    by_owner true e le = let z : p < layout.cells + layout.mutexes = ltb-true p (layout.cells + layout.mutexes) e in omega (arith, le, z)
    by_owner false e le = over_ (eqb p (place_of layout over)) refl (ltb-false p (layout.cells + layout.mutexes) e)

    by_cell : (b : Bool) → ltb p layout.cells ≡ b → IsOf layout (cond b (cell p) (cond (ltb p (layout.cells + layout.mutexes)) (owner (p - layout.cells))
        (cond (eqb p (place_of layout over)) over (cond (eqb p (place_of layout holder)) holder (cond (eqb p (place_of layout main_life)) main_life rest_)))))
    by_cell true e = ltb-true p layout.cells e
    by_cell false e = by_owner (ltb p (layout.cells + layout.mutexes)) refl (ltb-false p layout.cells e)

-- ---- what is said is a word
thread_small : (layout : Layout) (state : State) (made : List ℕ) (o : Option ℕ) → words_of layout < value_bound → 0 < layout.threads → Fits layout state made → IsMadeIn state o → IsWord (thread_word made o)
thread_small layout state made None room pos fits is = omega arith
thread_small layout state made (Some q) room pos fits is = let z = slot_lt layout state made q fits pos is in omega (arith, z, room)

number_small : (conds : ℕ) (o : Option ℕ) → conds < value_bound → IsCondOf conds o → IsWord (number_word o)
number_small conds None few is = omega arith
number_small conds (Some c) few is = omega (arith, few, is)

life_small : (state : State) (n : ℕ) → IsWord (life_in state n)
life_small state n = by (is_made state n) (thread_at state n).ended (thread_at state n).joined
  where
    by : (made ended joined : Bool) → IsWord (cond made (cond ended (cond joined 3 2) 1) 0)
    by false ended joined = omega arith
    by true false joined = omega arith
    by true true false = omega arith
    by true true true = omega arith

truth_small : (b : Bool) → IsWord (truth b)
truth_small true = omega arith
truth_small false = omega arith

said_small : (layout : Layout) (state : State) (made : List ℕ) (r : Role) → words_of layout < value_bound → layout.conds < value_bound → 0 < layout.threads → Fits layout state made → IsStateOf layout state → IsOf layout r → IsWord (said state made r)
said_small layout state made (cell i) room few pos fits is has = is.words i has
said_small layout state made (owner i) room few pos fits is has = thread_small layout state made (owner_of state i) room pos fits (fits.sound.owners i)
said_small layout state made over room few pos fits is has = truth_small state.over
said_small layout state made holder room few pos fits is has = thread_small layout state made state.holder room pos fits fits.sound.holder
said_small layout state made main_life room few pos fits is has = life_small state 0
said_small layout state made no_life room few pos fits is has = omega arith
said_small layout state made (life u) room few pos fits is has = life_small state (thread_of made u)
said_small layout state made no_wait room few pos fits is has = omega arith
said_small layout state made (wait u) room few pos fits is has = number_small layout.conds (thread_at state (thread_of made u)).waits few (is.conds (thread_of made u))

-- a memory for each state that is reached
pub memory_for_each : MemoryForEach
memory_for_each layout cells mutexes state made room few pos reached is rises long = (table says 0 (words_of layout), table_all IsWord says 0 (words_of layout) small, stands)
  where
    says : ℕ → ℕ
    says p = said state made (role_of layout p)

    fits : Fits layout state made
    fits = record { cells = is.cells; mutexes = is.mutexes; threads = long; rises = rises; sound = reached_sound cells mutexes state reached }

    small : (p : ℕ) → p < 0 + words_of layout → IsWord (says p)
    small p lt = said_small layout state made (role_of layout p) room few pos fits is (role_is layout p pos (omega (arith, lt)))

    stands : StandsFor layout (table says 0 (words_of layout)) state made
    stands = record {
      fits = fits;
      tells = record {
        room = let z = table_long says 0 (words_of layout) in omega (arith, z);
        at = λ role has. table_at says 0 (words_of layout) (place_of layout role) (place_lt layout role has)
            ∙ ap (λ (p : ℕ). says p) (let z : 0 + place_of layout role ≡ place_of layout role = omega arith in z) ∙ ap (λ (r : Role). said state made r) (role_back layout pos role has);
      };
    }
