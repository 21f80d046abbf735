-- Mutexes: resets, locks and unlocks.
use Rattle.std.proofs.Common.{◌≡◌, ℕ, suc, ◌+◌, ◌≤◌, ◌<◌, Bool, true, false, not, cond, List, [], ◌∷◌, length, eqb, refl, sym, ◌∙◌, ap, subst, arith, Option, Some, None}
use Rattle.std.specs.Prelude.{slice_index_or, slice_set}
use Rattle.std.proofs.lemmas.Bool.{eqb-true, eqb-false, ne_eqb}
use Rattle.std.proofs.lemmas.List.{length-set, get_or-set_same, get_or-set_other}
use Rattle.lz_base.specs.Words.{truth}
use Rattle.lz_base.specs.declared.word.BreakKind.TheVariants as kinds
use Rattle.lz_model.specs.Store.{State, went, is_any, is_free, owns, owner_of, with_owner, goes_where, goes_or_breaks}
use Rattle.lz_flat.specs.Programs.{constant, Location, Instruction, sets, checks}
use Rattle.lz_flat.specs.Instructions.{value}
use Rattle.lz_sync.specs.declared.layout.Layout.{Layout}
use Rattle.lz_sync.specs.Slots.{thread_of, slot_of}
use Rattle.lz_sync.specs.Standing.{Role, cell, owner, over, holder, main_life, no_life, life, no_wait, wait, place_of, IsOf, thread_word, said, IsMadeIn, Fits, Tells, StandsFor}
use Rattle.lz_flat.specs.Running.{runs}
use Rattle.lz_sync.specs.Operations.{spot_of, resets, locks, unlocks, IsSpot, IsIndexed}
use Rattle.lz_sync.specs.Groups.{equal, no, spot_word, spot_at}
use Rattle.lz_sync.specs.Doing.{DoesAs, goes, breaks, Does}
use Rattle.lz_sync.proofs.SlotsLemmas.{slot_thread}
use Rattle.lz_sync.proofs.TellsLemmas.{but, set_tells}
use Rattle.lz_sync.proofs.TestsLemmas.{value_no, value_equal, value_constant, value_spot, put_spot, runs_check}
use Rattle.lz_sync.proofs.ActingLemmas.{who_is, frees, frees_where, runs_last, length_others}

-- the owner of a mutex after one has another
owner_read : (xs : List (Option ℕ)) (i j : ℕ) (o : Option ℕ) (b : Bool) → i < length xs → eqb j i ≡ b → slice_index_or (slice_set xs i o) j None ≡ cond b o (slice_index_or xs j None)
owner_read xs i j o true lt e = subst (λ (k : ℕ). slice_index_or (slice_set xs i o) k None ≡ o) (sym (eqb-true j i e)) (get_or-set_same xs i o None lt)
owner_read xs i j o false lt e = get_or-set_other xs i j o None (eqb-false j i e)

-- memory in which a mutex has another owner
pub set_owner : (layout : Layout) (m : List ℕ) (state : State) (made : List ℕ) (i : ℕ) (o : Option ℕ) (v : ℕ) → StandsFor layout m state made → i < layout.mutexes → IsMadeIn state o → v ≡ thread_word made o
    → StandsFor layout (slice_set m (place_of layout (owner i)) v) (with_owner state i o) made
set_owner layout m state made i o v st lt is e = record {
  fits = record {
    cells = st.fits.cells;
    mutexes = length-set state.owners i o ∙ st.fits.mutexes;
    threads = st.fits.threads;
    rises = st.fits.rises;
    sound = record { owners = λ j. sound j (eqb j i) refl; holder = st.fits.sound.holder; joins = st.fits.sound.joins };
  };
  tells = record { room = t.room; at = λ role has. t.at role has ∙ same role has };
}
  where
    t : Tells layout (slice_set m (place_of layout (owner i)) v) (but (said state made) (owner i) v)
    t = set_tells layout m (said state made) (owner i) v st.tells lt

    long : i < length state.owners
    long = let z = st.fits.mutexes in omega (arith, lt, z)

    sound : (j : ℕ) (b : Bool) → eqb j i ≡ b → IsMadeIn (with_owner state i o) (slice_index_or (slice_set state.owners i o) j None)
    sound j true e = rw (owner_read state.owners i j o true long e) is
    sound j false e = rw (owner_read state.owners i j o false long e) (st.fits.sound.owners j)

    same : (role : Role) → IsOf layout role → but (said state made) (owner i) v role ≡ said (with_owner state i o) made role
    same (cell j) has = refl
    same (owner j) has = at (eqb j i) refl
      where
        at : (b : Bool) → eqb j i ≡ b → cond b v (thread_word made (owner_of state j)) ≡ thread_word made (slice_index_or (slice_set state.owners i o) j None)
        at true f = rw (owner_read state.owners i j o true long f) e
        at false f = rw (owner_read state.owners i j o false long f) refl
    same over has = refl
    same holder has = refl
    same main_life has = refl
    same no_life has = refl
    same (life slot) has = refl
    same no_wait has = refl
    same (wait slot) has = refl

-- nobody owns it
pub none_owns : (made : List ℕ) (o : Option ℕ) → eqb (thread_word made o) 0 ≡ not (is_any o)
none_owns made None = refl
none_owns made (Some q) = ne_eqb (suc (slot_of made q)) 0 (λ e. let z : ⊥ = omega (arith, e) in z)

-- the word of a thread that is made
pub word_of_made : (layout : Layout) (state : State) (made : List ℕ) (t : ℕ) → Fits layout state made → thread_of made t < length state.threads → suc t ≡ thread_word made (Some (thread_of made t))
word_of_made layout state made t fits here = ap (λ (x : ℕ). suc x) (sym (slot_thread made t (let z = fits.threads in omega (arith, here, z))))

-- the mutex that a spot names is one of the layout
pub spot_lt : (most : ℕ) (spot : Location) (m : List ℕ) → spot.first + spot.len ≤ most → IsIndexed spot m → spot_of spot m < most
spot_lt most spot m le ix = omega (arith, le, ix)

-- nobody owns the mutex of a spot
pub value_unowned : (layout : Layout) (m : List ℕ) (state : State) (made : List ℕ) (mutex : Location) → StandsFor layout m state made → IsSpot layout layout.mutexes mutex → IsIndexed mutex m
    → value (no (spot_word layout.cells mutex)) m ≡ truth (is_free state (spot_of mutex m))
value_unowned layout m state made mutex st is ix =
    value_no (spot_word layout.cells mutex) m (thread_word made (owner_of state (spot_of mutex m))) (value_spot layout.cells mutex m ix ∙ st.tells.at (owner (spot_of mutex m)) (spot_lt layout.mutexes mutex m is.within ix))
    ∙ ap (λ (b : Bool). truth b) (none_owns made (owner_of state (spot_of mutex m)))

-- the thread owns the mutex of a spot
pub value_owned : (layout : Layout) (m : List ℕ) (state : State) (made : List ℕ) (t : ℕ) (mutex : Location) → StandsFor layout m state made → IsSpot layout layout.mutexes mutex → IsIndexed mutex m → thread_of made t < length state.threads
    → value (equal (spot_word layout.cells mutex) (constant (suc t))) m ≡ truth (owns state (thread_of made t) (spot_of mutex m))
value_owned layout m state made t mutex st is ix here =
    value_equal (spot_word layout.cells mutex) (constant (suc t)) m (thread_word made (owner_of state (spot_of mutex m))) (suc t)
    (value_spot layout.cells mutex m ix ∙ st.tells.at (owner (spot_of mutex m)) (spot_lt layout.mutexes mutex m is.within ix)) (value_constant (suc t) m)
    ∙ ap (λ (b : Bool). truth b) (who_is layout state made t (owner_of state (spot_of mutex m)) st.fits (st.fits.sound.owners (spot_of mutex m)) here)

-- a reset
pub resets_do : (layout : Layout) (t : ℕ) (mutex : Location) → Does layout t (resets mutex)
resets_do layout t mutex lt few is m state made input l st ix =
    frees layout m m made state made t (sets (spot_at layout.cells mutex) (constant 0) ∷ []) input l (went (with_owner state i None)) st lt
    (λ here. goes (with_owner state i None) after refl (runs_last (spot_at layout.cells mutex) (constant 0) input (suc l) m after 0 (value_constant 0 m) (put_spot layout.cells mutex 0 m ix))
    (set_owner layout m state made i None 0 st within tt refl) (length_others m layout (owner i) 0 within))
  where
    i : ℕ
    i = spot_of mutex m

    within : i < layout.mutexes
    within = spot_lt layout.mutexes mutex m is.within ix

    after : List ℕ
    after = slice_set m (place_of layout (owner i)) 0

-- a lock
pub locks_do : (layout : Layout) (t : ℕ) (mutex : Location) → Does layout t (locks mutex)
locks_do layout t mutex lt few is m state made input l st ix =
    frees_where layout m m made state made t (no (spot_word layout.cells mutex)) (is_free state i) (sets (spot_at layout.cells mutex) (constant (suc t)) ∷ []) input l
    (goes_where (is_free state i) (with_owner state i (Some (thread_of made t)))) st lt (value_unowned layout m state made mutex st is ix)
    (λ e. rw e refl)
    (λ here e. goes (with_owner state i (Some (thread_of made t))) after (rw e refl)
    (runs_last (spot_at layout.cells mutex) (constant (suc t)) input (suc l) m after (suc t) (value_constant (suc t) m) (put_spot layout.cells mutex (suc t) m ix))
    (set_owner layout m state made i (Some (thread_of made t)) (suc t) st within here (word_of_made layout state made t st.fits here)) (length_others m layout (owner i) (suc t) within))
  where
    i : ℕ
    i = spot_of mutex m

    within : i < layout.mutexes
    within = spot_lt layout.mutexes mutex m is.within ix

    after : List ℕ
    after = slice_set m (place_of layout (owner i)) (suc t)

-- an unlock
pub unlocks_do : (layout : Layout) (t : ℕ) (mutex : Location) → Does layout t (unlocks mutex)
unlocks_do layout t mutex lt few is m state made input l st ix =
    frees layout m m made state made t rest input l (goes_or_breaks (owns state (thread_of made t) i) (with_owner state i None) kinds.Unlock) st lt (λ here. by here (owns state (thread_of made t) i) refl)
  where
    i : ℕ
    i = spot_of mutex m

    within : i < layout.mutexes
    within = spot_lt layout.mutexes mutex m is.within ix

    after : List ℕ
    after = slice_set m (place_of layout (owner i)) 0

    last : List Instruction
    last = sets (spot_at layout.cells mutex) (constant 0) ∷ []

    rest : List Instruction
    rest = checks (equal (spot_word layout.cells mutex) (constant (suc t))) kinds.Unlock 0 ∷ last

    by : thread_of made t < length state.threads → (b : Bool) → owns state (thread_of made t) i ≡ b → DoesAs layout m made (goes_or_breaks (owns state (thread_of made t) i) (with_owner state i None) kinds.Unlock) (runs input (suc l) rest m)
    by here false e = breaks kinds.Unlock (rw e refl)
        (runs_check (equal (spot_word layout.cells mutex) (constant (suc t))) kinds.Unlock 0 last input (suc l) m false (value_owned layout m state made t mutex st is ix here ∙ rw e refl))
    by here true e = goes (with_owner state i None) after (rw e refl)
        (runs_check (equal (spot_word layout.cells mutex) (constant (suc t))) kinds.Unlock 0 last input (suc l) m true (value_owned layout m state made t mutex st is ix here ∙ rw e refl)
        ∙ runs_last (spot_at layout.cells mutex) (constant 0) input (suc (suc l)) m after 0 (value_constant 0 m) (put_spot layout.cells mutex 0 m ix))
        (set_owner layout m state made i None 0 st within tt refl) (length_others m layout (owner i) 0 within)
