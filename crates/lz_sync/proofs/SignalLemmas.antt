-- Signals.
use Rattle.std.proofs.Common.{◌≡◌, ℕ, zero, suc, ◌+◌, ◌≤◌, ◌<◌, Bool, true, false, not, ◌&&◌, ◌||◌, cond, List, [], ◌∷◌, length, eqb, ltb, refl, sym, ◌∙◌, ap, subst, arith, Option, Some, None}
use Rattle.std.specs.Prelude.{slice_index, slice_index_or, slice_set}
use Rattle.std.specs.List.{list_any}
use Rattle.std.proofs.Math.Nat.{mod-eq_of_lt}
use Rattle.std.proofs.lemmas.Bool.{eqb-true, eqb-false, ne_eqb, ltb-true, ltb-false, lt-ltb, le-ltb}
use Rattle.lz_base.specs.Words.{truth}
use Rattle.lz_model.specs.declared.thread_state.ThreadState.{ThreadState}
use Rattle.lz_model.specs.declared.actions.Action.TheVariants as actions
use Rattle.lz_model.specs.Store.{State, fresh, is_now, is_made, has_waiter, waits_on, awake, with_thread, thread_at, is_halted, held_by_another, act}
use Rattle.lz_base.specs.declared.operator.Binary.TheVariants.{Add}
use Rattle.lz_base.specs.declared.word.IntType.TheVariants.{Unsigned}
use Rattle.lz_flat.specs.Programs.{Expression, constant, element, binary, choose, Location, Instruction, sets, assumes}
use Rattle.lz_flat.specs.Instructions.{value, put}
use Rattle.lz_sync.specs.declared.layout.Layout.{Layout}
use Rattle.lz_sync.specs.Slots.{thread_of, slot_of}
use Rattle.lz_sync.specs.Standing.{Role, cell, owner, over, holder, main_life, no_life, life, no_wait, wait, place_of, waits_from, number_word, said, Fits, Tells, StandsFor}
use Rattle.lz_flat.specs.Running.{runs}
use Rattle.lz_sync.specs.Operations.{signals, spot_of, woken_of, IsIndexed}
use Rattle.lz_sync.specs.Groups.{role_word, free, both, equal, no, spot_number, some_wait, woken_word}
use Rattle.lz_sync.specs.Doing.{DoesAs, goes, waits, Does}
use Rattle.lz_sync.proofs.SlotsLemmas.{thread_slot, within, same_test}
use Rattle.lz_sync.proofs.TellsLemmas.{but, set_tells}
use Rattle.lz_sync.proofs.TestsLemmas.{value_both, value_either, value_equal, value_no, value_constant, truth_zero, runs_assume, runs_set, runs_none}
use Rattle.lz_sync.proofs.FreeLemmas.{told, value_free}
use Rattle.lz_sync.proofs.ActingLemmas.{length_others}
use Rattle.lz_sync.proofs.ThreadsLemmas.{not_made, past, set_wait}

-- the number of a spot, and one more
pub value_number : (spot : Location) (m : List ℕ) (most : ℕ) → spot.first + spot.len ≤ most → most < 4294967296 → IsIndexed spot m → value (spot_number spot) m ≡ suc (spot_of spot m)
unfolding value
value_number spot m most le few ix = by (eqb spot.len 1) refl
  where
    by : (b : Bool) → eqb spot.len 1 ≡ b → value (cond b (constant (suc spot.first)) (binary Add Unsigned spot.index (constant (suc spot.first)))) m ≡ suc (spot_of spot m)
    by true e = let one : spot.len ≡ 1 = eqb-true spot.len 1 e in omega (arith, one, ix)
    by false e = mod-eq_of_lt (let z : value spot.index m + suc spot.first < 4294967296 = omega (arith, le, few, ix) in z) ∙ (let z : value spot.index m + suc spot.first ≡ suc (spot.first + value spot.index m) = omega arith in z)

-- ---- waiters
-- the thread of some slot below this waits there
any_slot : State → List ℕ → ℕ → ℕ → Bool
any_slot state made c zero = false
any_slot state made c (suc slots) = any_slot state made c slots || eqb (number_word (thread_at state (thread_of made slots)).waits) (suc c)

value_some : (layout : Layout) (m : List ℕ) (state : State) (made : List ℕ) (cond_ : Expression) (c slots : ℕ) → StandsFor layout m state made → value cond_ m ≡ suc c → slots ≤ layout.threads
    → value (some_wait layout cond_ slots) m ≡ truth (any_slot state made c slots)
unfolding any_slot
value_some layout m state made cond_ c zero st e le = value_constant 0 m
value_some layout m state made cond_ c (suc zero) st e le =
    value_equal (role_word layout (wait 0)) cond_ m (number_word (thread_at state 0).waits) (suc c) (told layout m state made (wait 0) st (omega (arith, le))) e
value_some layout m state made cond_ c (suc (suc slots)) st e le =
    value_either (some_wait layout cond_ (suc slots)) (equal (role_word layout (wait (suc slots))) cond_) m (any_slot state made c (suc slots)) (eqb (number_word (thread_at state (thread_of made (suc slots))).waits) (suc c))
    (value_some layout m state made cond_ c (suc slots) st e (omega (arith, le)))
    (value_equal (role_word layout (wait (suc slots))) cond_ m (number_word (thread_at state (thread_of made (suc slots))).waits) (suc c) (told layout m state made (wait (suc slots)) st (omega (arith, le))) e)

-- the word of one that waits
-- a thread waits on the condition that its word says
pub number_is : (o : Option ℕ) (c : ℕ) → eqb (number_word o) (suc c) ≡ is_now o c
number_is None c = ne_eqb 0 (suc c) (λ e. let z : ⊥ = omega (arith, e) in z)
number_is (Some n) c = same_test (suc n) (suc c) n c (λ e. omega (arith, e)) (λ e. ap (λ (x : ℕ). suc x) e)

-- two truth values
same_bool : (a b : Bool) → (a ≡ true → b ≡ true) → (b ≡ true → a ≡ true) → a ≡ b
same_bool true b f g = sym (f refl)
same_bool false true f g = g refl
same_bool false false f g = refl

or_true_left : (a b : Bool) → a ≡ true → (a || b) ≡ true
or_true_left true b e = refl
or_true_left false b e = absurd cc

or_true_right : (a b : Bool) → b ≡ true → (a || b) ≡ true
or_true_right true b e = refl
or_true_right false b e = e

-- one of a list
any_at : (c : ℕ) (threads : List ThreadState) (n : ℕ) → n < length threads → waits_on c (slice_index_or threads n fresh) ≡ true → list_any (waits_on c) threads ≡ true
any_at c [] n lt e = absurd (let z : ⊥ = omega (arith, lt) in z)
any_at c (x ∷ xs) zero lt e = or_true_left (waits_on c x) (list_any (waits_on c) xs) e
any_at c (x ∷ xs) (suc n) lt e = or_true_right (waits_on c x) (list_any (waits_on c) xs) (any_at c xs n (omega (arith, lt)) e)

record AnyAt (c : ℕ) (threads : List ThreadState) : Type 0 where
  n : ℕ
  lt : n < length threads
  waits_there : waits_on c (slice_index_or threads n fresh) ≡ true

at_any : (c : ℕ) (threads : List ThreadState) → list_any (waits_on c) threads ≡ true → AnyAt c threads
at_any c [] e = absurd cc
at_any c (x ∷ xs) e = by (λ h. at_any c xs h) (waits_on c x) refl e
  where
    by : (list_any (waits_on c) xs ≡ true → AnyAt c xs) → (b : Bool) → waits_on c x ≡ b → (b || list_any (waits_on c) xs) ≡ true → AnyAt c (x ∷ xs)
    by more true f e = record { n = 0; lt = omega arith; waits_there = f }
    by more false f e = let r = more e in record { n = suc r.n; lt = let z = r.lt in omega (arith, z); waits_there = r.waits_there }

slot_any : (state : State) (made : List ℕ) (c slots slot : ℕ) → slot < slots → is_now (thread_at state (thread_of made slot)).waits c ≡ true → any_slot state made c slots ≡ true
unfolding any_slot
slot_any state made c zero slot lt e = absurd (let z : ⊥ = omega (arith, lt) in z)
slot_any state made c (suc slots) slot lt e = by (λ less. slot_any state made c slots slot less e) (eqb slot slots) refl
  where
    by : (slot < slots → any_slot state made c slots ≡ true) → (b : Bool) → eqb slot slots ≡ b → (any_slot state made c slots || eqb (number_word (thread_at state (thread_of made slots)).waits) (suc c)) ≡ true
    by more true f = or_true_right (any_slot state made c slots) (eqb (number_word (thread_at state (thread_of made slots)).waits) (suc c))
        (number_is (thread_at state (thread_of made slots)).waits c ∙ subst (λ (k : ℕ). is_now (thread_at state (thread_of made k)).waits c ≡ true) (eqb-true slot slots f) e)
    by more false f = or_true_left (any_slot state made c slots) (eqb (number_word (thread_at state (thread_of made slots)).waits) (suc c))
        (more (let n : slot ≡ slots → ⊥ = eqb-false slot slots f in let z : slot < slots = grind (arith, n, lt) in z))

any_is : (state : State) (made : List ℕ) (c slots : ℕ) → any_slot state made c slots ≡ true → list_any (waits_on c) state.threads ≡ true
unfolding any_slot
any_is state made c zero e = absurd cc
any_is state made c (suc slots) e = by (λ h. any_is state made c slots h) (any_slot state made c slots) refl e
  where
    by : (any_slot state made c slots ≡ true → list_any (waits_on c) state.threads ≡ true) → (b : Bool) → any_slot state made c slots ≡ b → (b || eqb (number_word (thread_at state (thread_of made slots)).waits) (suc c)) ≡ true → list_any (waits_on c) state.threads ≡ true
    by more true f e = more f
    by more false f e = here (is_made state (thread_of made slots)) refl
      where
        waits_here : is_now (thread_at state (thread_of made slots)).waits c ≡ true
        waits_here = sym (number_is (thread_at state (thread_of made slots)).waits c) ∙ e

        here : (d : Bool) → is_made state (thread_of made slots) ≡ d → list_any (waits_on c) state.threads ≡ true
        here true g = any_at c state.threads (thread_of made slots) (ltb-true (thread_of made slots) (length state.threads) g) waits_here
        here false g = absurd (let z : is_now fresh.waits c ≡ true = subst (λ (x : ThreadState). is_now x.waits c ≡ true) (not_made state (thread_of made slots) g) waits_here in cc)

-- the slot of a made thread is one of the layout
pub slot_lt : (layout : Layout) (state : State) (made : List ℕ) (n : ℕ) → Fits layout state made → 0 < layout.threads → n < length state.threads → slot_of made n < layout.threads
slot_lt layout state made zero fits pos lt = pos
slot_lt layout state made (suc n) fits pos lt = (within layout.threads 0 made n fits.rises (let z = fits.threads in omega (arith, z, lt))).1

waiters : (layout : Layout) (state : State) (made : List ℕ) (c : ℕ) → Fits layout state made → 0 < layout.threads → any_slot state made c layout.threads ≡ has_waiter state c
waiters layout state made c fits pos = same_bool (any_slot state made c layout.threads) (has_waiter state c) (λ e. any_is state made c layout.threads e)
    (λ e. back (at_any c state.threads e))
  where
    back : AnyAt c state.threads → any_slot state made c layout.threads ≡ true
    back r = slot_any state made c layout.threads (slot_of made r.n) (slot_lt layout state made r.n fits pos r.lt)
        (let z : thread_of made (slot_of made r.n) ≡ r.n = thread_slot layout.threads made r.n fits.rises (let y = fits.threads in let x = r.lt in omega (arith, x, y)) in
        subst (λ (k : ℕ). is_now (thread_at state k).waits c ≡ true) (sym z) r.waits_there)

-- ---- the test of a signal
value_choose_zero : (x y z : Expression) (m : List ℕ) (v : ℕ) → value x m ≡ 0 → value z m ≡ v → value (choose x y z) m ≡ v
unfolding value
value_choose_zero x y z m v e f = rw e f

value_choose_more : (x y z : Expression) (m : List ℕ) (n v : ℕ) → value x m ≡ suc n → value y m ≡ v → value (choose x y z) m ≡ v
unfolding value
value_choose_more x y z m n v e f = rw (e, ne_eqb (suc n) 0 (λ h. let w : ⊥ = omega (arith, h) in w)) f

-- the value of an element
pub value_element : (first len n : ℕ) (x : Expression) (m : List ℕ) → value x m ≡ n → value (element first len x) m ≡ cond (ltb n len) (slice_index m (first + n)) 0
unfolding value
value_element first len n x m e = rw e refl

wait_value : (layout : Layout) (m : List ℕ) (state : State) (made : List ℕ) (slot c : ℕ) (w : Expression) → StandsFor layout m state made → 0 < layout.threads → value w m ≡ suc slot
    → eqb (value (woken_word layout w) m) (suc c) ≡ (is_made state (thread_of made slot) && waits_on c (thread_at state (thread_of made slot)))
wait_value layout m state made slot c w st pos e = by (ltb slot layout.threads) refl
  where
    said_so : (b : Bool) → is_made state (thread_of made slot) ≡ b → eqb (number_word (thread_at state (thread_of made slot)).waits) (suc c) ≡ (b && waits_on c (thread_at state (thread_of made slot)))
    said_so true g = number_is (thread_at state (thread_of made slot)).waits c
    said_so false g = rw (not_made state (thread_of made slot) g) (number_is None c)

    by : (b : Bool) → ltb slot layout.threads ≡ b → eqb (value (woken_word layout w) m) (suc c) ≡ (is_made state (thread_of made slot) && waits_on c (thread_at state (thread_of made slot)))
    by true f =
        let lt : slot < layout.threads = ltb-true slot layout.threads f in
        let in_range : ltb (suc slot) (suc layout.threads) ≡ true = lt-ltb (suc slot) (suc layout.threads) (omega (arith, lt)) in
        ap (λ (x : ℕ). eqb x (suc c)) (value_element (waits_from layout) (suc layout.threads) (suc slot) w m e ∙ rw in_range (st.tells.at (wait slot) lt)) ∙ said_so (is_made state (thread_of made slot)) refl
    by false f =
        let ge : layout.threads ≤ slot = ltb-false slot layout.threads f in
        let out : ltb (suc slot) (suc layout.threads) ≡ false = le-ltb (suc slot) (suc layout.threads) (omega (arith, ge)) in
        ap (λ (x : ℕ). eqb x (suc c)) (value_element (waits_from layout) (suc layout.threads) (suc slot) w m e ∙ rw out refl) ∙ number_is None c ∙ rw (past layout state made slot st.fits ge pos) refl

-- the write of a pad changes nothing
set_pad : (layout : Layout) (m : List ℕ) (state : State) (made : List ℕ) → StandsFor layout m state made → StandsFor layout (slice_set m (place_of layout no_wait) 0) state made
set_pad layout m state made st = record { fits = st.fits; tells = record { room = t.room; at = λ role has. t.at role has ∙ same role } }
  where
    t : Tells layout (slice_set m (place_of layout no_wait) 0) (but (said state made) no_wait 0)
    t = set_tells layout m (said state made) no_wait 0 st.tells tt

    same : (role : Role) → but (said state made) no_wait 0 role ≡ said state made role
    same (cell j) = refl
    same (owner j) = refl
    same over = refl
    same holder = refl
    same main_life = refl
    same no_life = refl
    same (life u) = refl
    same no_wait = refl
    same (wait u) = refl

-- a write of an element
pub put_at : (first len n v : ℕ) (x : Expression) (m : List ℕ) → value x m ≡ n → n < len → put (record { first = first; len = len; index = x }) v m ≡ slice_set m (first + n) v
unfolding put
put_at first len n v x m e lt = rw (e, lt-ltb n len lt) refl

-- a signal
pub signals_do : (layout : Layout) (t : ℕ) (spot : Location) (w : Expression) → Does layout t (signals spot w)
signals_do layout t spot w lt few is m state made input l st ix = by (value w m) refl (is_halted state (thread_of made t) || held_by_another state.holder (thread_of made t)) refl
  where
    c : ℕ
    c = spot_of spot m

    pos : 0 < layout.threads
    pos = omega (arith, lt)

    number : value (spot_number spot) m ≡ suc c
    number = (let z = is.0 in value_number spot m layout.conds z.within few ix)

    test_of : Expression
    test_of = both (free layout t) (choose w (equal (woken_word layout w) (spot_number spot)) (no (some_wait layout (spot_number spot) layout.threads)))

    last : Instruction
    last = sets (record { first = waits_from layout; len = suc layout.threads; index = w }) (constant 0)

    tested : (b : Bool) → value (choose w (equal (woken_word layout w) (spot_number spot)) (no (some_wait layout (spot_number spot) layout.threads))) m ≡ truth b
        → value test_of m ≡ truth (not (is_halted state (thread_of made t) || held_by_another state.holder (thread_of made t)) && b)
    tested b e = value_both (free layout t) (choose w (equal (woken_word layout w) (spot_number spot)) (no (some_wait layout (spot_number spot) layout.threads))) m
        (not (is_halted state (thread_of made t) || held_by_another state.holder (thread_of made t))) b (value_free layout m state made t st lt) e

    nobody : value w m ≡ 0 → value (choose w (equal (woken_word layout w) (spot_number spot)) (no (some_wait layout (spot_number spot) layout.threads))) m ≡ truth (not (has_waiter state c))
    nobody e = value_choose_zero w (equal (woken_word layout w) (spot_number spot)) (no (some_wait layout (spot_number spot) layout.threads)) m (truth (not (has_waiter state c))) e
        (value_no (some_wait layout (spot_number spot) layout.threads) m (truth (any_slot state made c layout.threads)) (value_some layout m state made (spot_number spot) c layout.threads st number (omega arith))
        ∙ ap (λ (b : Bool). truth b) (truth_zero (any_slot state made c layout.threads) ∙ ap (λ (b : Bool). not b) (waiters layout state made c st.fits pos)))

    somebody : (slot : ℕ) → value w m ≡ suc slot → value (choose w (equal (woken_word layout w) (spot_number spot)) (no (some_wait layout (spot_number spot) layout.threads))) m
        ≡ truth (is_made state (thread_of made slot) && waits_on c (thread_at state (thread_of made slot)))
    somebody slot e = value_choose_more w (equal (woken_word layout w) (spot_number spot)) (no (some_wait layout (spot_number spot) layout.threads)) m slot
        (truth (is_made state (thread_of made slot) && waits_on c (thread_at state (thread_of made slot)))) e
        (value_equal (woken_word layout w) (spot_number spot) m (value (woken_word layout w) m) (suc c) refl number ∙ ap (λ (b : Bool). truth b) (wait_value layout m state made slot c w st pos e))

    by : (n : ℕ) → value w m ≡ n → (h : Bool) → (is_halted state (thread_of made t) || held_by_another state.holder (thread_of made t)) ≡ h
        → DoesAs layout m made (act state (thread_of made t) (actions.Signal c (woken_of made (value w m)))) (runs input l (assumes test_of ∷ last ∷ []) m)
    by zero e true f = waits (rw f refl) (runs_assume test_of (last ∷ []) input l m false (tested (not (has_waiter state c)) (nobody e) ∙ rw f refl))
    by zero e false f = rw e (by_waiter (has_waiter state c) refl)
      where
        by_waiter : (b : Bool) → has_waiter state c ≡ b → DoesAs layout m made (act state (thread_of made t) (actions.Signal c None)) (runs input l (assumes test_of ∷ last ∷ []) m)
        by_waiter true g = waits (rw (f, g) refl) (runs_assume test_of (last ∷ []) input l m false (tested (not (has_waiter state c)) (nobody e) ∙ rw (f, g) refl))
        by_waiter false g = goes state (slice_set m (place_of layout no_wait) 0) (rw (f, g) refl)
            (runs_assume test_of (last ∷ []) input l m true (tested (not (has_waiter state c)) (nobody e) ∙ rw (f, g) refl)
            ∙ runs_set (record { first = waits_from layout; len = suc layout.threads; index = w }) (constant 0) [] input (suc l) m (slice_set m (place_of layout no_wait) 0) 0 (value_constant 0 m)
            (put_at (waits_from layout) (suc layout.threads) 0 0 w m e (omega arith) ∙ ap (λ (p : ℕ). slice_set m p 0) (let z : waits_from layout + 0 ≡ waits_from layout = omega arith in z))
            ∙ runs_none input (suc (suc l)) (slice_set m (place_of layout no_wait) 0))
            (set_pad layout m state made st) (length_others m layout no_wait 0 tt)
    by (suc slot) e true f = waits (rw f refl)
        (runs_assume test_of (last ∷ []) input l m false (tested (is_made state (thread_of made slot) && waits_on c (thread_at state (thread_of made slot))) (somebody slot e) ∙ rw f refl))
    by (suc slot) e false f = rw e (by_made (is_made state (thread_of made slot)) refl (waits_on c (thread_at state (thread_of made slot))) refl)
      where
        q : ℕ
        q = thread_of made slot

        test_is : value test_of m ≡ truth (not (is_halted state (thread_of made t) || held_by_another state.holder (thread_of made t)) && (is_made state q && waits_on c (thread_at state q)))
        test_is = tested (is_made state q && waits_on c (thread_at state q)) (somebody slot e)

        by_made : (a : Bool) → is_made state q ≡ a → (b : Bool) → waits_on c (thread_at state q) ≡ b
            → DoesAs layout m made (act state (thread_of made t) (actions.Signal c (Some q))) (runs input l (assumes test_of ∷ last ∷ []) m)
        by_made false g b h = waits (rw (f, g) refl) (runs_assume test_of (last ∷ []) input l m false (test_is ∙ rw (f, g) refl))
        by_made true g false h = waits (rw (f, g, h) refl) (runs_assume test_of (last ∷ []) input l m false (test_is ∙ rw (f, g, h) refl))
        by_made true g true h = goes (with_thread state q (awake (thread_at state q))) (slice_set m (place_of layout (wait slot)) 0) (rw (f, g, h) refl)
            (runs_assume test_of (last ∷ []) input l m true (test_is ∙ rw (f, g, h) refl)
            ∙ runs_set (record { first = waits_from layout; len = suc layout.threads; index = w }) (constant 0) [] input (suc l) m (slice_set m (place_of layout (wait slot)) 0) 0 (value_constant 0 m)
            (put_at (waits_from layout) (suc layout.threads) (suc slot) 0 w m e (omega (arith, in_layout)))
            ∙ runs_none input (suc (suc l)) (slice_set m (place_of layout (wait slot)) 0))
            (set_wait layout m state made slot 0 None st in_layout (ltb-true q (length state.threads) g) refl) (length_others m layout (wait slot) 0 in_layout)
          where
            in_layout : slot < layout.threads
            in_layout = range (ltb slot layout.threads) refl
              where
                range : (b : Bool) → ltb slot layout.threads ≡ b → slot < layout.threads
                range true k = ltb-true slot layout.threads k
                range false k = absurd (let z : true ≡ false = sym g ∙ past layout state made slot st.fits (ltb-false slot layout.threads k) pos in cc)
