-- Creations.
use Rattle.std.proofs.Common.{◌≡◌, ℕ, zero, suc, ◌+◌, ◌≤◌, ◌<◌, Bool, true, false, ◌||◌, cond, List, [], ◌∷◌, ◌++◌, length, eqb, ltb, refl, sym, ◌∙◌, ap, subst, arith, Option, Some, None}
use Rattle.std.specs.Prelude.{slice_index, slice_index_or, slice_set}
use Rattle.std.proofs.lemmas.Bool.{eqb-true, eqb-false, eq-eqb, ltb-true, ltb-false, lt-ltb, le-ltb}
use Rattle.std.proofs.lemmas.List.{get_or_past}
use Rattle.lz_model.specs.declared.thread_state.ThreadState.{ThreadState}
use Rattle.lz_model.specs.declared.actions.Action.TheVariants as actions
use Rattle.lz_model.specs.Store.{State, fresh, owner_of, thread_at, is_halted, held_by_another, act}
use Rattle.lz_flat.specs.Programs.{Expression, constant, Instruction, sets, assumes}
use Rattle.lz_flat.specs.Instructions.{value}
use Rattle.lz_sync.specs.declared.layout.Layout.{Layout}
use Rattle.lz_sync.specs.Slots.{place_in, thread_of, RisesTo}
use Rattle.lz_sync.specs.Standing.{Role, cell, owner, over, holder, main_life, no_life, life, no_wait, wait, place_of, IsOf, life_in, thread_word, number_word, said, IsMadeIn, Fits, Tells, StandsFor}
use Rattle.lz_flat.specs.Running.{runs}
use Rattle.lz_sync.specs.Operations.{creates}
use Rattle.lz_sync.specs.Groups.{free, role_at}
use Rattle.lz_sync.specs.Doing.{DoesAs, goes, waits, Does}
use Rattle.lz_sync.proofs.SlotsLemmas.{place_most, placed, within}
use Rattle.lz_sync.proofs.TellsLemmas.{but, set_tells}
use Rattle.lz_sync.proofs.TestsLemmas.{value_constant, put_fixed, runs_assume, runs_set, runs_none}
use Rattle.lz_sync.proofs.FreeLemmas.{value_free}
use Rattle.lz_sync.proofs.ActingLemmas.{length_others}
use Rattle.lz_sync.proofs.ThreadsLemmas.{not_made}

-- ---- a list with one more
front_at : {A : Type 0} (xs : List A) (y d : A) (n : ℕ) → n < length xs → slice_index_or (xs ++ y ∷ []) n d ≡ slice_index_or xs n d
front_at [] y d n lt = absurd (let z : ⊥ = omega (arith, lt) in z)
front_at (x ∷ xs) y d zero lt = refl
front_at (x ∷ xs) y d (suc n) lt = front_at xs y d n (omega (arith, lt))

last_at : {A : Type 0} (xs : List A) (y d : A) → slice_index_or (xs ++ y ∷ []) (length xs) d ≡ y
last_at [] y d = refl
last_at (x ∷ xs) y d = last_at xs y d

long_by_one : {A : Type 0} (xs : List A) (y : A) → length (xs ++ y ∷ []) ≡ suc (length xs)
long_by_one [] y = refl
long_by_one (x ∷ xs) y = ap (λ (n : ℕ). suc n) (long_by_one xs y)

-- where a slot stands then
place_grown : (made : List ℕ) (k u : ℕ) → place_in (made ++ k ∷ []) u ≡ cond (ltb (place_in made u) (length made)) (place_in made u) (length made + cond (eqb k u) 0 1)
unfolding place_in
place_grown [] k u = by (eqb k u)
  where
    by : (b : Bool) → cond b 0 1 ≡ cond (ltb 0 0) 0 (0 + cond b 0 1)
    by true = refl
    by false = refl
place_grown (j ∷ js) k u = by (eqb j u) (place_grown js k u)
  where
    by : (b : Bool) → place_in (js ++ k ∷ []) u ≡ cond (ltb (place_in js u) (length js)) (place_in js u) (length js + cond (eqb k u) 0 1)
        → cond b 0 (suc (place_in (js ++ k ∷ []) u)) ≡ cond (ltb (cond b 0 (suc (place_in js u))) (suc (length js))) (cond b 0 (suc (place_in js u))) (suc (length js) + cond (eqb k u) 0 1)
    by true e = rw (lt-ltb 0 (suc (length js)) (omega arith)) refl
    by false e = rw e (within_ (ltb (place_in js u) (length js)) refl)
      where
        within_ : (c : Bool) → ltb (place_in js u) (length js) ≡ c
            → suc (cond c (place_in js u) (length js + cond (eqb k u) 0 1)) ≡ cond (ltb (suc (place_in js u)) (suc (length js))) (suc (place_in js u)) (suc (length js) + cond (eqb k u) 0 1)
        within_ true f = rw (lt-ltb (suc (place_in js u)) (suc (length js)) (let z : place_in js u < length js = ltb-true (place_in js u) (length js) f in omega (arith, z))) refl
        within_ false f = rw (le-ltb (suc (place_in js u)) (suc (length js)) (let z : length js ≤ place_in js u = ltb-false (place_in js u) (length js) f in omega (arith, z))) (omega arith)

-- a slot that was made, that is made now, and any other
pub data Where (layout : Layout) (state : State) (made : List ℕ) (k u : ℕ) : Type 0 where
  made_before : thread_of (made ++ k ∷ []) u ≡ thread_of made u → thread_of made u < length state.threads → Where layout state made k u
  made_now : u ≡ k → thread_of (made ++ k ∷ []) u ≡ length state.threads → thread_of made u ≡ length state.threads → Where layout state made k u
  absent : (u ≡ k → ⊥) → thread_of (made ++ k ∷ []) u ≡ suc (length state.threads) → thread_of made u ≡ length state.threads → Where layout state made k u

pub where_is : (layout : Layout) (state : State) (made : List ℕ) (k u : ℕ) → Fits layout state made → RisesTo layout.threads 0 (made ++ k ∷ []) → Where layout state made k u
where_is layout state made k zero fits up = made_before refl (let z = fits.threads in omega (arith, z))
where_is layout state made k (suc u) fits up = by (ltb (place_in made (suc u)) (length made)) refl (eqb k (suc u)) refl
  where
    by : (b : Bool) → ltb (place_in made (suc u)) (length made) ≡ b → (c : Bool) → eqb k (suc u) ≡ c → Where layout state made k (suc u)
    by true e c f = made_before (let g : place_in (made ++ k ∷ []) (suc u) ≡ place_in made (suc u) = place_grown made k (suc u) ∙ rw e refl in ap (λ (n : ℕ). suc n) g) (let z : place_in made (suc u) < length made = ltb-true (place_in made (suc u)) (length made) e in let y = fits.threads in omega (arith, z, y))
    by false e c f =
        let ge : length made ≤ place_in made (suc u) = ltb-false (place_in made (suc u)) (length made) e in
        let most = place_most made (suc u) in
        let y = fits.threads in
        let old : suc (place_in made (suc u)) ≡ length state.threads = omega (arith, ge, most, y) in
        on c f old
      where
        on : (c : Bool) → eqb k (suc u) ≡ c → suc (place_in made (suc u)) ≡ length state.threads → Where layout state made k (suc u)
        on true f old = made_now (sym (eqb-true k (suc u) f)) (let g : place_in (made ++ k ∷ []) (suc u) ≡ length made + 0 = place_grown made k (suc u) ∙ rw (e, f) refl in let y = fits.threads in omega (arith, y, g)) old
        on false f old = absent (λ h. eqb-false k (suc u) f (sym h)) (let g : place_in (made ++ k ∷ []) (suc u) ≡ length made + 1 = place_grown made k (suc u) ∙ rw (e, f) refl in let y = fits.threads in omega (arith, y, g)) old

-- the slot that is made was not
pub is_new : (layout : Layout) (state : State) (made : List ℕ) (k : ℕ) → Fits layout state made → RisesTo layout.threads 0 (made ++ k ∷ []) → thread_of made k ≡ length state.threads
is_new layout state made k fits up = by k refl
  where
    at_last : slice_index (made ++ k ∷ []) (length made) ≡ k
    at_last = last_at made k 0

    long : length made < length (made ++ k ∷ [])
    long = let z = long_by_one made k in omega (arith, z)

    by : (n : ℕ) → k ≡ n → thread_of made n ≡ length state.threads
    by zero e = let z = (within layout.threads 0 (made ++ k ∷ []) (length made) up long).0 in absurd (let y : ⊥ = omega (arith, z, at_last, e) in y)
    by (suc n) e = on (where_is layout state made k (suc n) fits up)
      where
        grown_is : place_in (made ++ k ∷ []) (suc n) ≡ length made
        grown_is = ap (λ (x : ℕ). place_in (made ++ k ∷ []) x) (sym (at_last ∙ e)) ∙ placed layout.threads 0 (made ++ k ∷ []) (length made) up long

        on : Where layout state made k (suc n) → suc (place_in made (suc n)) ≡ length state.threads
        on (made_before same lt) = absurd (let y = fits.threads in let z : ⊥ = omega (arith, same, lt, grown_is, y) in z)
        on (made_now is new old) = old
        on (absent n_ new old) = old

pub grow : (layout : Layout) (m : List ℕ) (state : State) (made : List ℕ) (k : ℕ) → StandsFor layout m state made → RisesTo layout.threads 0 (made ++ k ∷ [])
    → StandsFor layout (slice_set m (place_of layout (life k)) 1) (record state { threads = state.threads ++ fresh ∷ [] }) (made ++ k ∷ [])
grow layout m state made k st up = record {
  fits = record {
    cells = st.fits.cells;
    mutexes = st.fits.mutexes;
    threads = long_by_one state.threads fresh ∙ ap (λ (n : ℕ). suc n) st.fits.threads ∙ ap (λ (n : ℕ). suc n) (sym (long_by_one made k));
    rises = up;
    sound = record { owners = λ j. still (owner_of state j) (st.fits.sound.owners j); holder = still state.holder st.fits.sound.holder; joins = joins };
  };
  tells = record { room = t.room; at = λ role has. t.at role has ∙ same role has };
}
  where
    long : length made < length (made ++ k ∷ [])
    long = let z = long_by_one made k in omega (arith, z)

    at_last : slice_index (made ++ k ∷ []) (length made) ≡ k
    at_last = last_at made k 0

    is : IsOf layout (life k)
    is = let z = within layout.threads 0 (made ++ k ∷ []) (length made) up long in let a = z.0 in let b = z.1 in (omega (arith, a, at_last), omega (arith, b, at_last))

    t : Tells layout (slice_set m (place_of layout (life k)) 1) (but (said state made) (life k) 1)
    t = set_tells layout m (said state made) (life k) 1 st.tells is

    now : State
    now = record state { threads = state.threads ++ fresh ∷ [] }

    one_more : length (state.threads ++ fresh ∷ []) ≡ suc (length state.threads)
    one_more = long_by_one state.threads fresh

    still : (x : Option ℕ) → IsMadeIn state x → IsMadeIn now x
    still None h = tt
    still (Some n) h = omega (arith, h, one_more)

    -- what is kept of a thread
    read : (n : ℕ) (b : Bool) → ltb n (length state.threads) ≡ b → thread_at now n ≡ thread_at state n
    read n true e = front_at state.threads fresh fresh n (ltb-true n (length state.threads) e)
    read n false e = past_it n (eqb n (length state.threads)) refl (ltb-false n (length state.threads) e) ∙ sym (not_made state n e)
      where
        past_it : (n : ℕ) (c : Bool) → eqb n (length state.threads) ≡ c → length state.threads ≤ n → thread_at now n ≡ fresh
        past_it n true f le = ap (λ (x : ℕ). thread_at now x) (eqb-true n (length state.threads) f) ∙ last_at state.threads fresh fresh
        past_it n false f le = get_or_past (state.threads ++ fresh ∷ []) n fresh (let g : n ≡ length state.threads → ⊥ = eqb-false n (length state.threads) f in let z : length state.threads < n = grind (arith, g, le) in omega (arith, z, one_more))

    joins : (n : ℕ) → (thread_at now n).joined ≡ true → (thread_at now n).ended ≡ true
    joins n h = subst (λ (x : ThreadState). x.ended ≡ true) (sym (read n (ltb n (length state.threads)) refl))
        (st.fits.sound.joins n (subst (λ (x : ThreadState). x.joined ≡ true) (read n (ltb n (length state.threads)) refl) h))

    word_same : (o : Option ℕ) → IsMadeIn state o → thread_word made o ≡ thread_word (made ++ k ∷ []) o
    word_same None h = refl
    word_same (Some zero) h = refl
    word_same (Some (suc n)) h = ap (λ (x : ℕ). suc x) (sym (front_at made k 0 n (let z = st.fits.threads in omega (arith, h, z))))

    life_same : (u : ℕ) → (u ≡ k → ⊥) → Where layout state made k u → life_in state (thread_of made u) ≡ life_in now (thread_of (made ++ k ∷ []) u)
    life_same u n (made_before e lt) = rw (
      e,
      lt-ltb (thread_of made u) (length state.threads) lt,
      lt-ltb (thread_of made u) (length (state.threads ++ fresh ∷ [])) (omega (arith, lt, one_more)),
      read (thread_of made u) (ltb (thread_of made u) (length state.threads)) refl,
    ) refl
    life_same u n (made_now e new old) = absurd (n e)
    life_same u n (absent e new old) = rw (le-ltb (thread_of made u) (length state.threads) (omega (arith, old)), le-ltb (thread_of (made ++ k ∷ []) u) (length (state.threads ++ fresh ∷ [])) (omega (arith, new, one_more))) refl

    wait_same : (u : ℕ) → Where layout state made k u → number_word (thread_at state (thread_of made u)).waits ≡ number_word (thread_at now (thread_of (made ++ k ∷ []) u)).waits
    wait_same u (made_before e lt) = rw (e, read (thread_of made u) (ltb (thread_of made u) (length state.threads)) refl) refl
    wait_same u (made_now e new old) = rw (new, old, last_at state.threads fresh fresh, get_or_past state.threads (length state.threads) fresh (omega arith)) refl
    wait_same u (absent e new old) = rw (old, new, get_or_past state.threads (length state.threads) fresh (omega arith), get_or_past (state.threads ++ fresh ∷ []) (suc (length state.threads)) fresh (omega (arith, one_more))) refl

    same : (role : Role) → IsOf layout role → but (said state made) (life k) 1 role ≡ said now (made ++ k ∷ []) role
    same (cell j) has = refl
    same (owner j) has = word_same (owner_of state j) (st.fits.sound.owners j)
    same over has = refl
    same holder has = word_same state.holder st.fits.sound.holder
    same main_life has = rw (lt-ltb 0 (length state.threads) (let z = st.fits.threads in omega (arith, z)), lt-ltb 0 (length (state.threads ++ fresh ∷ [])) (omega (arith, one_more)), read 0 (ltb 0 (length state.threads)) refl) refl
    same no_life has = refl
    same (life u) has = at (eqb u k) refl (where_is layout state made k u st.fits up)
      where
        at : (b : Bool) → eqb u k ≡ b → Where layout state made k u → cond b 1 (life_in state (thread_of made u)) ≡ life_in now (thread_of (made ++ k ∷ []) u)
        at true e (made_before same lt) = absurd (let z : thread_of made k ≡ length state.threads = is_new layout state made k st.fits up in let y : thread_of made u ≡ thread_of made k = ap (λ (x : ℕ). thread_of made x) (eqb-true u k e) in let x : ⊥ = omega (arith, z, y, lt) in x)
        at true e (made_now is new old) = rw (new, lt-ltb (length state.threads) (length (state.threads ++ fresh ∷ [])) (omega (arith, one_more)), last_at state.threads fresh fresh) refl
        at true e (absent n new old) = absurd (n (eqb-true u k e))
        at false e w = life_same u (eqb-false u k e) w
    same no_wait has = refl
    same (wait u) has = wait_same u (where_is layout state made k u st.fits up)

-- a creation
pub creates_do : (layout : Layout) (t k start : ℕ) (argument : Expression) → Does layout t (creates k start argument)
creates_do layout t k start argument lt few is_ m state made input l st up = by (is_halted state (thread_of made t) || held_by_another state.holder (thread_of made t)) refl
  where
    rest : List Instruction
    rest = sets (role_at layout (life k)) (constant 1) ∷ []

    long : length made < length (made ++ k ∷ [])
    long = let z = long_by_one made k in omega (arith, z)

    is : IsOf layout (life k)
    is = let at_last : slice_index (made ++ k ∷ []) (length made) ≡ k = last_at made k 0 in let z = within layout.threads 0 (made ++ k ∷ []) (length made) up long in let a = z.0 in let b = z.1 in (omega (arith, a, at_last), omega (arith, b, at_last))

    next : eqb (thread_of made k) (length state.threads) ≡ true
    next = eq-eqb (thread_of made k) (length state.threads) (is_new layout state made k st.fits up)

    by : (h : Bool) → (is_halted state (thread_of made t) || held_by_another state.holder (thread_of made t)) ≡ h
        → DoesAs layout m (made ++ k ∷ []) (act state (thread_of made t) (actions.Create (thread_of made k) start (value argument m))) (runs input l (assumes (free layout t) ∷ rest) m)
    by true e = waits (rw e refl) (runs_assume (free layout t) rest input l m false (value_free layout m state made t st lt ∙ rw e refl))
    by false e = goes (record state { threads = state.threads ++ fresh ∷ [] }) (slice_set m (place_of layout (life k)) 1) (rw (e, next) refl)
        (runs_assume (free layout t) rest input l m true (value_free layout m state made t st lt ∙ rw e refl)
        ∙ runs_set (role_at layout (life k)) (constant 1) [] input (suc l) m (slice_set m (place_of layout (life k)) 1) 1 (value_constant 1 m) (put_fixed (place_of layout (life k)) 1 m)
        ∙ runs_none input (suc (suc l)) (slice_set m (place_of layout (life k)) 1))
        (grow layout m state made k st up) (length_others m layout (life k) 1 is)
