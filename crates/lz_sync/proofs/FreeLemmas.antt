-- The test of a thread that may act.
use Rattle.std.proofs.Common.{◌≡◌, ℕ, zero, suc, ◌<◌, Bool, true, false, not, ◌&&◌, ◌||◌, cond, List, length, eqb, ltb, refl, sym, ◌∙◌, ap, subst, arith, Option, Some, None}
use Rattle.std.proofs.lemmas.Bool.{ne_eqb, ltb-true}
use Rattle.lz_base.specs.Words.{truth}
use Rattle.lz_model.specs.declared.thread_state.ThreadState.{ThreadState}
use Rattle.lz_model.specs.Store.{State, is_made, thread_at, is_halted, held_by_another}
use Rattle.lz_flat.specs.Programs.{constant}
use Rattle.lz_flat.specs.Instructions.{value}
use Rattle.lz_sync.specs.declared.layout.Layout.{Layout}
use Rattle.lz_sync.specs.Slots.{thread_of, slot_of}
use Rattle.lz_sync.specs.Standing.{Role, over, holder, main_life, life, place_of, IsOf, life_word, life_in, thread_word, said, IsMadeIn, Fits, StandsFor}
use Rattle.lz_sync.specs.Groups.{role_word, life_role, live, free, either, equal, no}
use Rattle.lz_sync.proofs.SlotsLemmas.{same_slot, same_test}
use Rattle.lz_sync.proofs.TestsLemmas.{value_both, value_either, value_equal, value_no, value_word, value_constant}

-- the value of a word that memory tells
pub told : (layout : Layout) (m : List ℕ) (state : State) (made : List ℕ) (role : Role) → StandsFor layout m state made → IsOf layout role → value (role_word layout role) m ≡ said state made role
told layout m state made role st is = value_word (place_of layout role) m ∙ st.tells.at role is

told_life : (layout : Layout) (m : List ℕ) (state : State) (made : List ℕ) (t : ℕ) → StandsFor layout m state made → t < layout.threads
    → value (role_word layout (life_role t)) m ≡ life_in state (thread_of made t)
told_life layout m state made zero st lt = told layout m state made main_life st tt
told_life layout m state made (suc t) st lt = told layout m state made (life (suc t)) st (omega arith, lt)

lives : (made o : Bool) (thread : ThreadState) → (eqb (cond made (life_word thread) 0) 1 && eqb (truth o) 0) ≡ not (o || (not made || thread.ended))
lives false o thread = by o
  where
    by : (o : Bool) → (false && eqb (truth o) 0) ≡ not (o || true)
    by true = refl
    by false = refl
lives true o thread = by o thread.ended thread.joined
  where
    by : (o ended joined : Bool) → (eqb (cond ended (cond joined 3 2) 1) 1 && eqb (truth o) 0) ≡ not (o || ended)
    by true true true = refl
    by true true false = refl
    by true false true = refl
    by true false false = refl
    by false true true = refl
    by false true false = refl
    by false false true = refl
    by false false false = refl

-- the thread is not halted
pub value_live : (layout : Layout) (m : List ℕ) (state : State) (made : List ℕ) (t : ℕ) → StandsFor layout m state made → t < layout.threads
    → value (live layout t) m ≡ truth (not (is_halted state (thread_of made t)))
value_live layout m state made t st lt =
    value_both (equal (role_word layout (life_role t)) (constant 1)) (no (role_word layout over)) m (eqb (life_in state (thread_of made t)) 1) (eqb (truth state.over) 0)
    (value_equal (role_word layout (life_role t)) (constant 1) m (life_in state (thread_of made t)) 1 (told_life layout m state made t st lt) (value_constant 1 m))
    (value_no (role_word layout over) m (truth state.over) (told layout m state made over st tt))
    ∙ ap (λ (b : Bool). truth b) (lives (is_made state (thread_of made t)) state.over (thread_at state (thread_of made t)))

-- nobody, or this thread, is the holder
holds : (layout : Layout) (state : State) (made : List ℕ) (t : ℕ) (o : Option ℕ) → Fits layout state made → IsMadeIn state o → thread_of made t < suc (length made)
    → (eqb (thread_word made o) 0 || eqb (thread_word made o) (suc t)) ≡ not (held_by_another o (thread_of made t))
holds layout state made t None fits is lt = refl
holds layout state made t (Some q) fits is lt =
    let lq : q < suc (length made) = let z = fits.threads in omega (arith, z, is) in
    let never : eqb (suc (slot_of made q)) 0 ≡ false = ne_eqb (suc (slot_of made q)) 0 (λ e. let z : ⊥ = omega (arith, e) in z) in
    let same : eqb (suc (slot_of made q)) (suc t) ≡ eqb q (thread_of made t) =
    same_test (suc (slot_of made q)) (suc t) (slot_of made q) t (λ e. omega (arith, e)) (λ e. ap (λ (x : ℕ). suc x) e) ∙ same_slot layout.threads made q t fits.rises lq lt in
    rw (never, same) (sym (twice (eqb q (thread_of made t))))
  where
    twice : (b : Bool) → not (not b) ≡ b
    twice true = refl
    twice false = refl

-- the thread is not halted, and no other is the holder
pub value_free : (layout : Layout) (m : List ℕ) (state : State) (made : List ℕ) (t : ℕ) → StandsFor layout m state made → t < layout.threads
    → value (free layout t) m ≡ truth (not (is_halted state (thread_of made t) || held_by_another state.holder (thread_of made t)))
value_free layout m state made t st lt =
    value_both (live layout t) (either (no (role_word layout holder)) (equal (role_word layout holder) (constant (suc t)))) m
    (not (is_halted state (thread_of made t))) (eqb (thread_word made state.holder) 0 || eqb (thread_word made state.holder) (suc t))
    (value_live layout m state made t st lt)
    (value_either (no (role_word layout holder)) (equal (role_word layout holder) (constant (suc t))) m (eqb (thread_word made state.holder) 0) (eqb (thread_word made state.holder) (suc t))
    (value_no (role_word layout holder) m (thread_word made state.holder) (told layout m state made holder st tt))
    (value_equal (role_word layout holder) (constant (suc t)) m (thread_word made state.holder) (suc t) (told layout m state made holder st tt) (value_constant (suc t) m)))
    ∙ ap (λ (b : Bool). truth b) (by (is_halted state (thread_of made t)) refl)
  where
    by : (h : Bool) → is_halted state (thread_of made t) ≡ h
        → (not h && (eqb (thread_word made state.holder) 0 || eqb (thread_word made state.holder) (suc t))) ≡ not (h || held_by_another state.holder (thread_of made t))
    by true e = refl
    by false e = holds layout state made t state.holder st.fits st.fits.sound.holder (here (ltb (thread_of made t) (length state.threads)) refl e)
      where
        here : (b : Bool) → is_made state (thread_of made t) ≡ b → is_halted state (thread_of made t) ≡ false → thread_of made t < suc (length made)
        here true f e = let lt : thread_of made t < length state.threads = ltb-true (thread_of made t) (length state.threads) f in let z = st.fits.threads in omega (arith, lt, z)
        here false f e = absurd (no_way state.over (subst (λ (x : Bool). (state.over || (not x || (thread_at state (thread_of made t)).ended)) ≡ false) f e))
          where
            no_way : (o : Bool) → (o || true) ≡ false → ⊥
            no_way true e = cc
            no_way false e = cc
