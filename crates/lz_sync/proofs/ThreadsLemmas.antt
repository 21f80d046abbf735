-- What is kept of a thread: reads and writes.
use Rattle.std.proofs.Common.{◌≡◌, ℕ, zero, suc, ◌≤◌, ◌<◌, Bool, true, false, cond, List, length, eqb, ltb, refl, sym, ◌∙◌, ap, subst, arith, Option, Some, None}
use Rattle.std.specs.Prelude.{slice_index_or, slice_set}
use Rattle.std.proofs.lemmas.Bool.{eqb-true, eqb-false, ltb-true, ltb-false}
use Rattle.std.proofs.lemmas.List.{length-set, get_or-set_same, get_or-set_other, get_or_past}
use Rattle.lz_model.specs.declared.thread_state.ThreadState.{ThreadState}
use Rattle.lz_model.specs.Store.{State, fresh, is_made, owner_of, thread_at, with_thread}
use Rattle.lz_sync.specs.declared.layout.Layout.{Layout}
use Rattle.lz_sync.specs.Slots.{place_in, thread_of, slot_of}
use Rattle.lz_sync.specs.Standing.{Role, cell, owner, over, holder, main_life, no_life, life, no_wait, wait, place_of, IsOf, life_in, number_word, said, IsMadeIn, Fits, Tells, StandsFor}
use Rattle.lz_sync.proofs.SlotsLemmas.{slot_thread, within, same_test}
use Rattle.lz_sync.proofs.TellsLemmas.{but, set_tells}

-- what is kept of a thread after a change of one
pub thread_read : (state : State) (q n : ℕ) (thread : ThreadState) (b : Bool) → q < length state.threads → eqb n q ≡ b → thread_at (with_thread state q thread) n ≡ cond b thread (thread_at state n)
thread_read state q n thread true lt e = subst (λ (k : ℕ). slice_index_or (slice_set state.threads q thread) k fresh ≡ thread) (sym (eqb-true n q e)) (get_or-set_same state.threads q thread fresh lt)
thread_read state q n thread false lt e = get_or-set_other state.threads q n thread fresh (eqb-false n q e)

-- nothing is kept of a thread that is not made
pub not_made : (state : State) (n : ℕ) → is_made state n ≡ false → thread_at state n ≡ fresh
not_made state n e = get_or_past state.threads n fresh (ltb-false n (length state.threads) e)

-- a slot past the last is not made
pub past : (layout : Layout) (state : State) (made : List ℕ) (slot : ℕ) → Fits layout state made → layout.threads ≤ slot → 0 < layout.threads → is_made state (thread_of made slot) ≡ false
past layout state made zero fits le pos = absurd (let z : ⊥ = omega (arith, le, pos) in z)
past layout state made (suc slot) fits le pos = by (ltb (thread_of made (suc slot)) (length state.threads)) refl
  where
    by : (b : Bool) → ltb (thread_of made (suc slot)) (length state.threads) ≡ b → b ≡ false
    by false e = refl
    by true e =
        let lt : thread_of made (suc slot) < length state.threads = ltb-true (thread_of made (suc slot)) (length state.threads) e in
        let less : thread_of made (suc slot) < suc (length made) = let z = fits.threads in omega (arith, lt, z) in
        let is = slot_thread made (suc slot) less in
        let top = (within layout.threads 0 made (place_in made (suc slot)) fits.rises (omega (arith, less))).1 in
        absurd (let z : ⊥ = omega (arith, is, top, le) in z)

-- two slots of one made thread are one
pub one_slot : (layout : Layout) (state : State) (made : List ℕ) (slot other : ℕ) → Fits layout state made → thread_of made slot < length state.threads → eqb (thread_of made other) (thread_of made slot) ≡ eqb other slot
one_slot layout state made slot other fits lt = same_test (thread_of made other) (thread_of made slot) other slot
    (λ e. sym (slot_thread made other (let z = fits.threads in omega (arith, lt, e, z))) ∙ ap (λ (x : ℕ). slot_of made x) e ∙ slot_thread made slot (let z = fits.threads in omega (arith, lt, z)))
    (λ e. ap (λ (x : ℕ). thread_of made x) e)

-- A change of what is kept of a thread that leaves its life.
pub set_wait : (layout : Layout) (m : List ℕ) (state : State) (made : List ℕ) (slot v : ℕ) (o : Option ℕ) → StandsFor layout m state made → slot < layout.threads → thread_of made slot < length state.threads → v ≡ number_word o
    → StandsFor layout (slice_set m (place_of layout (wait slot)) v) (with_thread state (thread_of made slot) (record (thread_at state (thread_of made slot)) { waits = o })) made
set_wait layout m state made slot v o st lt here e = record {
  fits = record {
    cells = st.fits.cells;
    mutexes = st.fits.mutexes;
    threads = length-set state.threads q now ∙ st.fits.threads;
    rises = st.fits.rises;
    sound = record { owners = λ j. still (owner_of state j) (st.fits.sound.owners j); holder = still state.holder st.fits.sound.holder; joins = λ n. joins n (eqb n q) refl };
  };
  tells = record { room = t.room; at = λ role has. t.at role has ∙ same role has };
}
  where
    q : ℕ
    q = thread_of made slot

    now : ThreadState
    now = record (thread_at state q) { waits = o }

    t : Tells layout (slice_set m (place_of layout (wait slot)) v) (but (said state made) (wait slot) v)
    t = set_tells layout m (said state made) (wait slot) v st.tells lt

    still : (x : Option ℕ) → IsMadeIn state x → IsMadeIn (with_thread state q now) x
    still None h = tt
    still (Some n) h = let z = length-set state.threads q now in omega (arith, h, z)

    joins : (n : ℕ) (b : Bool) → eqb n q ≡ b → (thread_at (with_thread state q now) n).joined ≡ true → (thread_at (with_thread state q now) n).ended ≡ true
    joins n true e h = rw (thread_read state q n now true here e) (st.fits.sound.joins q (subst (λ (x : ThreadState). x.joined ≡ true) (thread_read state q n now true here e) h))
    joins n false e h = rw (thread_read state q n now false here e) (st.fits.sound.joins n (subst (λ (x : ThreadState). x.joined ≡ true) (thread_read state q n now false here e) h))

    lives : (n : ℕ) (b : Bool) → eqb n q ≡ b → life_in state n ≡ life_in (with_thread state q now) n
    lives n true e = rw (length-set state.threads q now, thread_read state q n now true here e, eqb-true n q e) refl
    lives n false e = rw (length-set state.threads q now, thread_read state q n now false here e) refl

    same : (role : Role) → IsOf layout role → but (said state made) (wait slot) v role ≡ said (with_thread state q now) made role
    same (cell j) has = refl
    same (owner j) has = refl
    same over has = refl
    same holder has = refl
    same main_life has = lives 0 (eqb 0 q) refl
    same no_life has = refl
    same (life u) has = lives (thread_of made u) (eqb (thread_of made u) q) refl
    same no_wait has = refl
    same (wait u) has = at (eqb u slot) refl
      where
        at : (b : Bool) → eqb u slot ≡ b → cond b v (number_word (thread_at state (thread_of made u)).waits) ≡ number_word (thread_at (with_thread state q now) (thread_of made u)).waits
        at true f = rw (thread_read state q (thread_of made u) now true here (one_slot layout state made slot u st.fits here ∙ f)) e
        at false f = rw (thread_read state q (thread_of made u) now false here (one_slot layout state made slot u st.fits here ∙ f)) refl
