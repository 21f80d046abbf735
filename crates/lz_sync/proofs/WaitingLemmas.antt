-- Conditions: the two halves of a wait, and broadcasts.
use Rattle.std.proofs.Common.{◌≡◌, ℕ, zero, suc, ◌+◌, ◌≤◌, ◌<◌, Bool, true, false, not, ◌&&◌, cond, List, [], ◌∷◌, length, map, eqb, refl, sym, ◌∙◌, ap, subst, arith, Option, Some, None}
use Rattle.std.specs.Prelude.{slice_set}
use Rattle.std.proofs.Math.ListN.{get_or-map}
use Rattle.std.proofs.lemmas.Bool.{eqb-true, eqb-false, ne_eqb}
use Rattle.std.proofs.lemmas.List.{length-map}
use Rattle.lz_base.specs.Words.{truth}
use Rattle.lz_base.specs.declared.word.BreakKind.TheVariants as kinds
use Rattle.lz_model.specs.declared.thread_state.ThreadState.{ThreadState}
use Rattle.lz_model.specs.Store.{State, went, fresh, is_any, is_now, is_free, is_waiting, waits_on, awake, woken_from, owns, owner_of, thread_at, with_owner, with_thread, goes_where, goes_or_breaks}
use Rattle.lz_flat.specs.Programs.{Expression, constant, binary, choose, Location, Instruction, sets, checks}
use Rattle.lz_flat.specs.Instructions.{value, put}
use Rattle.lz_flat.specs.Instructions as flat
use Rattle.lz_base.specs.declared.operator.Binary.TheVariants.{Add}
use Rattle.lz_base.specs.declared.word.IntType.TheVariants.{Unsigned}
use Rattle.lz_sync.specs.declared.layout.Layout.{Layout}
use Rattle.lz_sync.specs.Slots.{thread_of}
use Rattle.lz_sync.specs.Standing.{Role, cell, owner, over, holder, main_life, no_life, life, no_wait, wait, place_of, IsOf, life_word, life_in, number_word, said, IsMadeIn, Tells, StandsFor}
use Rattle.lz_flat.specs.Running.{runs}
use Rattle.lz_flat.specs.Naming.{NamesOnly, AgreeOn}
use Rattle.lz_sync.specs.Operations.{spot_of, parks, wakes, broadcasts, IsBeside}
use Rattle.lz_sync.specs.Groups.{role_word, role_at, both, equal, no, spot_word, spot_at, spot_number, none_waits}
use Rattle.lz_sync.specs.Doing.{KeepsOthers, DoesAs, goes, breaks, Does}
use Rattle.lz_sync.proofs.TellsLemmas.{but, set_tells}
use Rattle.lz_sync.proofs.TestsLemmas.{value_both, value_no, value_equal, value_constant, value_word, put_spot, put_fixed, runs_check, runs_set, runs_none}
use Rattle.lz_flat.proofs.NamingLemmas.{value_agrees}
use Rattle.lz_sync.proofs.FreeLemmas.{told}
use Rattle.lz_sync.proofs.ThreadsLemmas.{set_wait}
use Rattle.lz_sync.proofs.ActingLemmas.{frees, frees_where, runs_last, length_others, kept_too, kept_all}
use Rattle.lz_sync.proofs.MutexLemmas.{set_owner, word_of_made, spot_lt, value_unowned, value_owned}
use Rattle.lz_sync.proofs.HolderLemmas.{value_chosen}
use Rattle.lz_sync.proofs.SignalLemmas.{number_is, value_number}

-- what the number of a spot names
number_names : (P : ℕ → Type 0) (spot : Location) → NamesOnly P spot.index → NamesOnly P (spot_number spot)
number_names P spot h = by (eqb spot.len 1)
  where
    by : (b : Bool) → NamesOnly P (cond b (constant (suc spot.first)) (binary Add Unsigned spot.index (constant (suc spot.first))))
    by true = tt
    by false = (h, tt)

-- memories with the same words beside those that stand for a state
beside_agrees : (layout : Layout) (before after : List ℕ) → KeepsOthers layout before after → AgreeOn (IsBeside layout) after before
beside_agrees layout before after k = λ place le. k.others place le

-- the second half of a wait
pub wakes_do : (layout : Layout) (t : ℕ) (c mutex : Location) → Does layout t (wakes c mutex)
wakes_do layout t c mutex lt few is m state made input l st ix =
    frees_where layout m m made state made t (both (no (role_word layout (wait t))) (no (spot_word layout.cells mutex))) (not (is_waiting (thread_at state q)) && is_free state i)
    (sets (spot_at layout.cells mutex) (constant (suc t)) ∷ []) input l (goes_where (not (is_waiting (thread_at state q)) && is_free state i) (with_owner state i (Some q))) st lt
    (value_both (no (role_word layout (wait t))) (no (spot_word layout.cells mutex)) m (not (is_waiting (thread_at state q))) (is_free state i)
    (value_no (role_word layout (wait t)) m (number_word (thread_at state q).waits) (told layout m state made (wait t) st lt) ∙ ap (λ (b : Bool). truth b) (none_waits_there (thread_at state q).waits))
    (value_unowned layout m state made mutex st is.1 ix.1))
    (λ e. rw e refl)
    (λ here e. goes (with_owner state i (Some q)) after (rw e refl)
    (runs_last (spot_at layout.cells mutex) (constant (suc t)) input (suc l) m after (suc t) (value_constant (suc t) m) (put_spot layout.cells mutex (suc t) m ix.1))
    (set_owner layout m state made i (Some q) (suc t) st within here (word_of_made layout state made t st.fits here)) (length_others m layout (owner i) (suc t) within))
  where
    q : ℕ
    q = thread_of made t

    i : ℕ
    i = spot_of mutex m

    within : i < layout.mutexes
    within = let z = is.1 in spot_lt layout.mutexes mutex m z.within ix.1

    after : List ℕ
    after = slice_set m (place_of layout (owner i)) (suc t)

    none_waits_there : (o : Option ℕ) → eqb (number_word o) 0 ≡ not (is_any o)
    none_waits_there None = refl
    none_waits_there (Some n) = ne_eqb (suc n) 0 (λ e. let z : ⊥ = omega (arith, e) in z)

-- the first half of a wait
pub parks_do : (layout : Layout) (t : ℕ) (c mutex : Location) → Does layout t (parks c mutex)
parks_do layout t c mutex lt few is m state made input l st ix =
    frees layout m m made state made t rest input l (goes_or_breaks (owns state q i) parked kinds.Wait) st lt (λ here. by here (owns state q i) refl)
  where
    q : ℕ
    q = thread_of made t

    i : ℕ
    i = spot_of mutex m

    k : ℕ
    k = spot_of c m

    within : i < layout.mutexes
    within = let z = is.1 in spot_lt layout.mutexes mutex m z.within ix.1

    given : State
    given = with_owner state i None

    parked : State
    parked = with_thread given q (record (thread_at state q) { waits = Some k })

    m1 : List ℕ
    m1 = slice_set m (place_of layout (owner i)) 0

    m2 : List ℕ
    m2 = slice_set m1 (place_of layout (wait t)) (suc k)

    st1 : StandsFor layout m1 given made
    st1 = set_owner layout m state made i None 0 st within tt refl

    number : value (spot_number c) m1 ≡ suc k
    number = value_agrees (IsBeside layout) (spot_number c) m1 m (let z = is.0 in number_names (IsBeside layout) c z.apart) (beside_agrees layout m m1 (length_others m layout (owner i) 0 within))
        ∙ (let z = is.0 in value_number c m layout.conds z.within few ix.0)

    last : List Instruction
    last = sets (role_at layout (wait t)) (spot_number c) ∷ []

    later : List Instruction
    later = sets (spot_at layout.cells mutex) (constant 0) ∷ last

    rest : List Instruction
    rest = checks (equal (spot_word layout.cells mutex) (constant (suc t))) kinds.Wait 0 ∷ later

    by : thread_of made t < length state.threads → (b : Bool) → owns state q i ≡ b → DoesAs layout m made (goes_or_breaks (owns state q i) parked kinds.Wait) (runs input (suc l) rest m)
    by here false e = breaks kinds.Wait (rw e refl)
        (runs_check (equal (spot_word layout.cells mutex) (constant (suc t))) kinds.Wait 0 later input (suc l) m false (value_owned layout m state made t mutex st is.1 ix.1 here ∙ rw e refl))
    by here true e = goes parked m2 (rw e refl)
        (runs_check (equal (spot_word layout.cells mutex) (constant (suc t))) kinds.Wait 0 later input (suc l) m true (value_owned layout m state made t mutex st is.1 ix.1 here ∙ rw e refl)
        ∙ runs_set (spot_at layout.cells mutex) (constant 0) last input (suc (suc l)) m m1 0 (value_constant 0 m) (put_spot layout.cells mutex 0 m ix.1)
        ∙ runs_last (role_at layout (wait t)) (spot_number c) input (suc (suc (suc l))) m1 m2 (suc k) number (put_fixed (place_of layout (wait t)) (suc k) m1))
        (set_wait layout m1 given made t (suc k) (Some k) st1 lt here refl)
        (kept_too layout m m1 m2 (length_others m layout (owner i) 0 within) (length_others m1 layout (wait t) (suc k) lt))

-- ---- broadcasts

-- a wait is over where it was for this number
abbrev pub over_for : ℕ → ℕ → ℕ
over_for number word = cond (eqb word number) 0 word

-- the words after the waits of so many slots from this one on are over
woken_words : ℕ → ℕ → ℕ → (Role → ℕ) → Role → ℕ
woken_words number slot zero words = words
woken_words number slot (suc more) words = woken_words number (suc slot) more (but words (wait slot) (over_for number (words (wait slot))))

-- the instructions that end them
record Woken (layout : Layout) (before : List ℕ) (words : Role → ℕ) (does : flat.Did) : Type 0 where
  after : List ℕ
  moves : does ≡ flat.moved 0 after
  told_after : Tells layout after words
  kept : KeepsOthers layout before after

wakes_all : (layout : Layout) (first : List ℕ) (number_of : Expression) (number : ℕ) (slot more : ℕ) (m : List ℕ) (words : Role → ℕ) (input : ℕ → ℕ) (l : ℕ) → NamesOnly (IsBeside layout) number_of → value number_of first ≡ number
    → Tells layout m words → KeepsOthers layout first m → slot + more ≤ layout.threads → Woken layout m (woken_words number slot more words) (runs input l (none_waits layout number_of slot more) m)
unfolding woken_words
wakes_all layout first number_of number slot zero m words input l names is t k le = record { after = m; moves = runs_none input l m; told_after = t; kept = kept_all layout m }
wakes_all layout first number_of number slot (suc more) m words input l names is t k le = on (wakes_all layout first number_of number (suc slot) more m1 (but words (wait slot) w) input (suc l) names is t1 (kept_too layout first m m1 k k1) (omega (arith, le)))
  where
    lt : slot < layout.threads
    lt = omega (arith, le)

    w : ℕ
    w = over_for number (words (wait slot))

    m1 : List ℕ
    m1 = slice_set m (place_of layout (wait slot)) w

    t1 : Tells layout m1 (but words (wait slot) w)
    t1 = set_tells layout m words (wait slot) w t lt

    k1 : KeepsOthers layout m m1
    k1 = length_others m layout (wait slot) w lt

    word_is : value (role_word layout (wait slot)) m ≡ words (wait slot)
    word_is = value_word (place_of layout (wait slot)) m ∙ t.at (wait slot) lt

    number_is_ : value number_of m ≡ number
    number_is_ = value_agrees (IsBeside layout) number_of m first names (beside_agrees layout first m k) ∙ is

    chosen : Expression
    chosen = choose (equal (role_word layout (wait slot)) number_of) (constant 0) (role_word layout (wait slot))

    step : runs input l (none_waits layout number_of slot (suc more)) m ≡ runs input (suc l) (none_waits layout number_of (suc slot) more) m1
    step = runs_set (role_at layout (wait slot)) chosen (none_waits layout number_of (suc slot) more) input l m m1 w
        (value_chosen (equal (role_word layout (wait slot)) number_of) (constant 0) (role_word layout (wait slot)) m (eqb (words (wait slot)) number) 0 (words (wait slot))
        (value_equal (role_word layout (wait slot)) number_of m (words (wait slot)) number word_is number_is_) (value_constant 0 m) word_is)
        (put_fixed (place_of layout (wait slot)) w m)

    on : Woken layout m1 (woken_words number (suc slot) more (but words (wait slot) w)) (runs input (suc l) (none_waits layout number_of (suc slot) more) m1)
        → Woken layout m (woken_words number slot (suc more) words) (runs input l (none_waits layout number_of slot (suc more)) m)
    on r = record { after = r.after; moves = step ∙ r.moves; told_after = r.told_after; kept = kept_too layout m m1 r.after k1 r.kept }

-- a word that is no wait is as it was
woken_plain : (number slot more : ℕ) (words : Role → ℕ) (role : Role) → ((u : ℕ) (other : Role → ℕ) (v : ℕ) → but other (wait u) v role ≡ other role) → woken_words number slot more words role ≡ words role
unfolding woken_words
woken_plain number slot zero words role h = refl
woken_plain number slot (suc more) words role h = woken_plain number (suc slot) more (but words (wait slot) (over_for number (words (wait slot)))) role h ∙ h slot words (over_for number (words (wait slot)))

-- a wait before them is as it was
woken_before : (number slot more u : ℕ) (words : Role → ℕ) → u < slot → woken_words number slot more words (wait u) ≡ words (wait u)
unfolding woken_words
woken_before number slot zero u words lt = refl
woken_before number slot (suc more) u words lt = woken_before number (suc slot) more u (but words (wait slot) (over_for number (words (wait slot)))) (omega (arith, lt))
    ∙ rw (ne_eqb u slot (λ e. let z : ⊥ = omega (arith, e, lt) in z)) refl

-- and one of them is over where it was for this number
woken_one : (number slot more u : ℕ) (words : Role → ℕ) → slot ≤ u → u < slot + more → woken_words number slot more words (wait u) ≡ over_for number (words (wait u))
unfolding woken_words
woken_one number slot zero u words le lt = absurd (let z : ⊥ = omega (arith, le, lt) in z)
woken_one number slot (suc more) u words le lt = by (λ above. woken_one number (suc slot) more u next above (omega (arith, lt))) (eqb u slot) refl
  where
    next : Role → ℕ
    next = but words (wait slot) (over_for number (words (wait slot)))

    by : (suc slot ≤ u → woken_words number (suc slot) more next (wait u) ≡ over_for number (next (wait u))) → (b : Bool) → eqb u slot ≡ b → woken_words number (suc slot) more next (wait u) ≡ over_for number (words (wait u))
    by later true e = woken_before number (suc slot) more u next (let z : u ≡ slot = eqb-true u slot e in omega (arith, z))
        ∙ rw e (ap (λ (x : ℕ). over_for number (words (wait x))) (sym (eqb-true u slot e)))
    by later false e = later (let n : u ≡ slot → ⊥ = eqb-false u slot e in let z : suc slot ≤ u = grind (arith, n, le) in z) ∙ rw e refl

-- what is kept of a thread that a broadcast may wake
woken_joins : (c : ℕ) (thread : ThreadState) (b : Bool) → (cond b (awake thread) thread).joined ≡ thread.joined
woken_joins c thread true = refl
woken_joins c thread false = refl

woken_ends : (c : ℕ) (thread : ThreadState) (b : Bool) → (cond b (awake thread) thread).ended ≡ thread.ended
woken_ends c thread true = refl
woken_ends c thread false = refl

woken_lives : (c : ℕ) (thread : ThreadState) (b : Bool) → life_word (cond b (awake thread) thread) ≡ life_word thread
woken_lives c thread true = refl
woken_lives c thread false = refl

woken_waits : (c : ℕ) (thread : ThreadState) → over_for (suc c) (number_word thread.waits) ≡ number_word (woken_from c thread).waits
woken_waits c thread = rw (number_is thread.waits c) (by (is_now thread.waits c))
  where
    by : (b : Bool) → cond b 0 (number_word thread.waits) ≡ number_word (cond b (awake thread) thread).waits
    by true = refl
    by false = refl

-- the state after a broadcast
all_woken : State → ℕ → State
all_woken state c = record state { threads = map (woken_from c) state.threads }

woken_at : (state : State) (c n : ℕ) → thread_at (all_woken state c) n ≡ woken_from c (thread_at state n)
unfolding all_woken
woken_at state c n = get_or-map (woken_from c) state.threads n fresh

-- a broadcast
pub broadcasts_do : (layout : Layout) (t : ℕ) (c : Location) → Does layout t (broadcasts c)
unfolding all_woken
broadcasts_do layout t c lt few is m state made input l st ix =
    frees layout m m made state made t (none_waits layout (spot_number c) 0 layout.threads) input l (went (all_woken state k)) st lt
    (λ here. on (wakes_all layout m (spot_number c) (suc k) 0 layout.threads m (said state made) input (suc l) (number_names (IsBeside layout) c is.apart) (value_number c m layout.conds is.within few ix) st.tells (kept_all layout m) (omega arith)))
  where
    k : ℕ
    k = spot_of c m

    now : State
    now = all_woken state k

    long : length now.threads ≡ length state.threads
    long = length-map state.threads (woken_from k)

    still : (x : Option ℕ) → IsMadeIn state x → IsMadeIn now x
    still None h = tt
    still (Some n) h = let z = long in omega (arith, h, z)

    joins : (n : ℕ) → (thread_at now n).joined ≡ true → (thread_at now n).ended ≡ true
    joins n h = rw (woken_at state k n) (woken_ends k (thread_at state n) (waits_on k (thread_at state n))
        ∙ st.fits.sound.joins n (sym (woken_joins k (thread_at state n) (waits_on k (thread_at state n))) ∙ subst (λ (x : ThreadState). x.joined ≡ true) (woken_at state k n) h))

    lives : (n : ℕ) → life_in state n ≡ life_in now n
    lives n = rw (long, woken_at state k n, woken_lives k (thread_at state n) (waits_on k (thread_at state n))) refl

    same : (role : Role) → IsOf layout role → woken_words (suc k) 0 layout.threads (said state made) role ≡ said now made role
    same (cell j) has = woken_plain (suc k) 0 layout.threads (said state made) (cell j) (λ u other v. refl)
    same (owner j) has = woken_plain (suc k) 0 layout.threads (said state made) (owner j) (λ u other v. refl)
    same over has = woken_plain (suc k) 0 layout.threads (said state made) over (λ u other v. refl)
    same holder has = woken_plain (suc k) 0 layout.threads (said state made) holder (λ u other v. refl)
    same main_life has = woken_plain (suc k) 0 layout.threads (said state made) main_life (λ u other v. refl) ∙ lives 0
    same no_life has = woken_plain (suc k) 0 layout.threads (said state made) no_life (λ u other v. refl)
    same (life u) has = woken_plain (suc k) 0 layout.threads (said state made) (life u) (λ v other x. refl) ∙ lives (thread_of made u)
    same no_wait has = woken_plain (suc k) 0 layout.threads (said state made) no_wait (λ u other v. refl)
    same (wait u) has = woken_one (suc k) 0 layout.threads u (said state made) (omega arith) (omega (arith, has))
        ∙ woken_waits k (thread_at state (thread_of made u)) ∙ ap (λ (x : ThreadState). number_word x.waits) (sym (woken_at state k (thread_of made u)))

    on : Woken layout m (woken_words (suc k) 0 layout.threads (said state made)) (runs input (suc l) (none_waits layout (spot_number c) 0 layout.threads) m)
        → DoesAs layout m made (went now) (runs input (suc l) (none_waits layout (spot_number c) 0 layout.threads) m)
    on r = goes now r.after refl r.moves
        (record {
          fits = record {
            cells = st.fits.cells;
            mutexes = st.fits.mutexes;
            threads = long ∙ st.fits.threads;
            rises = st.fits.rises;
            sound = record { owners = λ j. still (owner_of state j) (st.fits.sound.owners j); holder = still state.holder st.fits.sound.holder; joins = joins };
          };
          tells = (let t_ = r.told_after in record { room = t_.room; at = λ role has. t_.at role has ∙ same role has });
        }) r.kept
