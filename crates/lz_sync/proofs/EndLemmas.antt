-- Ends.
use Rattle.std.proofs.Common.{◌≡◌, ℕ, zero, suc, ◌<◌, Bool, true, false, ◌||◌, cond, List, [], ◌∷◌, length, eqb, refl, sym, ◌∙◌, ap, subst, arith, Option, Some, None}
use Rattle.std.specs.Prelude.{slice_index, slice_set}
use Rattle.std.proofs.lemmas.Bool.{eqb-true, ne_eqb, ltb-true, lt-ltb}
use Rattle.std.proofs.lemmas.List.{length-set}
use Rattle.lz_base.specs.Words.{truth}
use Rattle.lz_model.specs.declared.thread_state.ThreadState.{ThreadState}
use Rattle.lz_model.specs.declared.actions.Action.TheVariants as actions
use Rattle.lz_model.specs.Store.{State, is_now, is_made, owner_of, thread_at, is_halted, act}
use Rattle.lz_flat.specs.Programs.{constant, choose, sets}
use Rattle.lz_flat.specs.Instructions.{value}
use Rattle.lz_sync.specs.declared.layout.Layout.{Layout}
use Rattle.lz_sync.specs.Slots.{thread_of}
use Rattle.lz_sync.specs.Standing.{Role, cell, owner, over, holder, main_life, no_life, life, no_wait, wait, place_of, IsOf, life_in, thread_word, number_word, said, IsMadeIn, Fits, Tells, StandsFor}
use Rattle.lz_flat.specs.Running.{runs}
use Rattle.lz_sync.specs.Operations.{ends}
use Rattle.lz_sync.specs.Groups.{role_at, role_word, life_role, live, equal, lets_go, over_set, group}
use Rattle.lz_sync.specs.Doing.{KeepsOthers, DoesAs, goes, waits, Does}
use Rattle.lz_sync.proofs.TellsLemmas.{but, set_tells}
use Rattle.lz_sync.proofs.TestsLemmas.{value_equal, value_constant, value_word, put_fixed, runs_assume, runs_set, runs_none}
use Rattle.lz_sync.proofs.FreeLemmas.{value_live}
use Rattle.lz_sync.proofs.ActingLemmas.{lives_on, who_is, length_others, kept_too}
use Rattle.lz_sync.proofs.HolderLemmas.{value_chosen}
use Rattle.lz_sync.proofs.ThreadsLemmas.{thread_read, one_slot}

-- the state after the end of a thread
abbrev ended_state : State → ℕ → Bool → State
ended_state state q whole = record state { threads = slice_set state.threads q (record (thread_at state q) { ended = true }); holder = cond (is_now state.holder q) None state.holder; over = state.over || whole }

-- and the words
abbrev ended_words : State → List ℕ → ℕ → Role → ℕ
ended_words state made t = but (but (said state made) (life_role t) 2) holder (cond (is_now state.holder (thread_of made t)) 0 (thread_word made state.holder))

-- the life of a slot is a word of the layout
pub is_life : (layout : Layout) (t : ℕ) → t < layout.threads → IsOf layout (life_role t)
is_life layout zero lt = tt
is_life layout (suc t) lt = (omega arith, lt)

-- memory that stands for it
ended_stands : (layout : Layout) (m : List ℕ) (state : State) (made : List ℕ) (t : ℕ) (whole : Bool) (words : Role → ℕ) → Fits layout state made → is_halted state (thread_of made t) ≡ false → Tells layout m words
    → ((role : Role) → IsOf layout role → words role ≡ but (ended_words state made t) over (truth (state.over || whole)) role) → StandsFor layout m (ended_state state (thread_of made t) whole) made
ended_stands layout m state made t whole words fits runs_ t_ same_words = record {
  fits = record {
    cells = fits.cells;
    mutexes = fits.mutexes;
    threads = length-set state.threads q now ∙ fits.threads;
    rises = fits.rises;
    sound = record { owners = λ j. still (owner_of state j) (fits.sound.owners j); holder = held (is_now state.holder q); joins = λ n. joins n (eqb n q) refl };
  };
  tells = record { room = t_.room; at = λ role has. t_.at role has ∙ same_words role has ∙ same role has };
}
  where
    q : ℕ
    q = thread_of made t

    now : ThreadState
    now = record (thread_at state q) { ended = true }

    after : State
    after = ended_state state q whole

    there : q < length state.threads
    there = ltb-true q (length state.threads) (lives_on state q runs_).0

    still : (x : Option ℕ) → IsMadeIn state x → IsMadeIn after x
    still None h = tt
    still (Some n) h = let z = length-set state.threads q now in omega (arith, h, z)

    held : (b : Bool) → IsMadeIn after (cond b None state.holder)
    held true = tt
    held false = still state.holder fits.sound.holder

    read : (n : ℕ) (b : Bool) → eqb n q ≡ b → thread_at after n ≡ cond b now (thread_at state n)
    read n b e = thread_read state q n now b there e

    joins : (n : ℕ) (b : Bool) → eqb n q ≡ b → (thread_at after n).joined ≡ true → (thread_at after n).ended ≡ true
    joins n true e h = ap (λ (x : ThreadState). x.ended) (read n true e)
    joins n false e h = rw (read n false e) (fits.sound.joins n (subst (λ (x : ThreadState). x.joined ≡ true) (read n false e) h))

    not_joined : (thread_at state q).joined ≡ false
    not_joined = by (thread_at state q).joined refl
      where
        by : (b : Bool) → (thread_at state q).joined ≡ b → (thread_at state q).joined ≡ false
        by false e = e
        by true e = absurd (let z : true ≡ false = sym (fits.sound.joins q e) ∙ (lives_on state q runs_).1 in cc)

    life_at : (n : ℕ) (b : Bool) → eqb n q ≡ b → cond b 2 (life_in state n) ≡ life_in after n
    life_at n true e = rw (length-set state.threads q now, read n true e, eqb-true n q e, lt-ltb q (length state.threads) there, not_joined) refl
    life_at n false e = rw (length-set state.threads q now, read n false e) refl

    wait_at : (n : ℕ) (b : Bool) → eqb n q ≡ b → (thread_at state n).waits ≡ (thread_at after n).waits
    wait_at n true e = rw (read n true e, eqb-true n q e) refl
    wait_at n false e = rw (read n false e) refl

    slots : (u : ℕ) → eqb (thread_of made u) q ≡ eqb u t
    slots u = one_slot layout state made t u fits there

    main : (t : ℕ) → ((u : ℕ) → eqb (thread_of made u) (thread_of made t) ≡ eqb u t) → ((n : ℕ) (b : Bool) → eqb n (thread_of made t) ≡ b → cond b 2 (life_in state n) ≡ life_in (ended_state state (thread_of made t) whole) n)
        → but (said state made) (life_role t) 2 main_life ≡ life_in (ended_state state (thread_of made t) whole) 0
    main zero s f = f 0 true (s 0)
    main (suc t) s f = f 0 false (s 0 ∙ ne_eqb 0 (suc t) (λ e. let z : ⊥ = omega (arith, e) in z))

    other : (t u : ℕ) → 0 < u → ((u : ℕ) → eqb (thread_of made u) (thread_of made t) ≡ eqb u t) → ((n : ℕ) (b : Bool) → eqb n (thread_of made t) ≡ b → cond b 2 (life_in state n) ≡ life_in (ended_state state (thread_of made t) whole) n)
        → but (said state made) (life_role t) 2 (life u) ≡ life_in (ended_state state (thread_of made t) whole) (thread_of made u)
    other zero u low s f = f (thread_of made u) false (s u ∙ ne_eqb u 0 (λ e. let z : ⊥ = omega (arith, e, low) in z))
    other (suc t) u low s f = f (thread_of made u) (eqb u (suc t)) (s u)

    same : (role : Role) → IsOf layout role → but (ended_words state made t) over (truth (state.over || whole)) role ≡ said after made role
    same (cell j) has = at t
      where
        at : (t : ℕ) → but (said state made) (life_role t) 2 (cell j) ≡ slice_index state.cells j
        at zero = refl
        at (suc t) = refl
    same (owner j) has = at t
      where
        at : (t : ℕ) → but (said state made) (life_role t) 2 (owner j) ≡ thread_word made (owner_of state j)
        at zero = refl
        at (suc t) = refl
    same over has = refl
    same holder has = at (is_now state.holder q)
      where
        at : (b : Bool) → cond b 0 (thread_word made state.holder) ≡ thread_word made (cond b None state.holder)
        at true = refl
        at false = refl
    same main_life has = main t slots life_at
    same no_life has = at t
      where
        at : (t : ℕ) → but (said state made) (life_role t) 2 no_life ≡ 0
        at zero = refl
        at (suc t) = refl
    same (life u) has = other t u has.0 slots life_at
    same no_wait has = at t
      where
        at : (t : ℕ) → but (said state made) (life_role t) 2 no_wait ≡ 0
        at zero = refl
        at (suc t) = refl
    same (wait u) has = at t ∙ ap (λ (x : Option ℕ). number_word x) (wait_at (thread_of made u) (eqb (thread_of made u) q) refl)
      where
        at : (t : ℕ) → but (said state made) (life_role t) 2 (wait u) ≡ number_word (thread_at state (thread_of made u)).waits
        at zero = refl
        at (suc t) = refl

-- an end
pub ends_do : (layout : Layout) (t : ℕ) (whole : Bool) → Does layout t (ends whole)
ends_do layout t whole lt few is m state made input l st ready = by (is_halted state (thread_of made t)) refl whole
  where
    q : ℕ
    q = thread_of made t

    h2 : ℕ
    h2 = cond (is_now state.holder q) 0 (thread_word made state.holder)

    m1 : List ℕ
    m1 = slice_set m (place_of layout (life_role t)) 2

    m2 : List ℕ
    m2 = slice_set m1 (place_of layout holder) h2

    t1 : Tells layout m1 (but (said state made) (life_role t) 2)
    t1 = set_tells layout m (said state made) (life_role t) 2 st.tells (is_life layout t lt)

    t2 : Tells layout m2 (ended_words state made t)
    t2 = set_tells layout m1 (but (said state made) (life_role t) 2) holder h2 t1 tt

    held : value (role_word layout holder) m1 ≡ thread_word made state.holder
    held = value_word (place_of layout holder) m1 ∙ t1.at holder tt ∙ at t
      where
        at : (t : ℕ) → but (said state made) (life_role t) 2 holder ≡ thread_word made state.holder
        at zero = refl
        at (suc t) = refl

    let_go : is_made state q ≡ true → value (choose (equal (role_word layout holder) (constant (suc t))) (constant 0) (role_word layout holder)) m1 ≡ h2
    let_go here = value_chosen (equal (role_word layout holder) (constant (suc t))) (constant 0) (role_word layout holder) m1 (is_now state.holder q) 0 (thread_word made state.holder)
        (value_equal (role_word layout holder) (constant (suc t)) m1 (thread_word made state.holder) (suc t) held (value_constant (suc t) m1)
        ∙ ap (λ (b : Bool). truth b) (who_is layout state made t state.holder st.fits st.fits.sound.holder (ltb-true q (length state.threads) here)))
        (value_constant 0 m1) held

    up_to : (w : Bool) → is_halted state q ≡ false → runs input l (group layout t (ends w)) m ≡ runs input (suc (suc (suc l))) (over_set layout w) m2
    up_to w e = runs_assume (live layout t) (sets (role_at layout (life_role t)) (constant 2) ∷ lets_go layout t ∷ over_set layout w) input l m true (value_live layout m state made t st lt ∙ rw e refl)
        ∙ runs_set (role_at layout (life_role t)) (constant 2) (lets_go layout t ∷ over_set layout w) input (suc l) m m1 2 (value_constant 2 m) (put_fixed (place_of layout (life_role t)) 2 m)
        ∙ runs_set (role_at layout holder) (choose (equal (role_word layout holder) (constant (suc t))) (constant 0) (role_word layout holder)) (over_set layout w) input (suc (suc l)) m1 m2 h2 (let_go (lives_on state q e).0) (put_fixed (place_of layout holder) h2 m1)

    kept : KeepsOthers layout m m2
    kept = kept_too layout m m1 m2 (length_others m layout (life_role t) 2 (is_life layout t lt)) (length_others m1 layout holder h2 tt)

    by : (h : Bool) → is_halted state q ≡ h → (w : Bool) → DoesAs layout m made (act state q (actions.End w)) (runs input l (group layout t (ends w)) m)
    by true e w = waits (rw e refl) (runs_assume (live layout t) (sets (role_at layout (life_role t)) (constant 2) ∷ lets_go layout t ∷ over_set layout w) input l m false (value_live layout m state made t st lt ∙ rw e refl))
    by false e false = goes (ended_state state q false) m2 (rw e refl) (up_to false e ∙ runs_none input (suc (suc (suc l))) m2)
        (ended_stands layout m2 state made t false (ended_words state made t) st.fits e t2 same) kept
      where
        live_on : truth (state.over || false) ≡ 0
        live_on = rw (lives_on state q e).2 refl

        same : (role : Role) → IsOf layout role → ended_words state made t role ≡ but (ended_words state made t) over (truth (state.over || false)) role
        same (cell j) has = refl
        same (owner j) has = refl
        same over has = at t ∙ ap (λ (b : Bool). truth b) (lives_on state q e).2 ∙ sym live_on
          where
            at : (t : ℕ) → but (said state made) (life_role t) 2 over ≡ truth state.over
            at zero = refl
            at (suc t) = refl
        same holder has = refl
        same main_life has = refl
        same no_life has = refl
        same (life u) has = refl
        same no_wait has = refl
        same (wait u) has = refl
    by false e true = goes (ended_state state q true) m3 (rw e refl)
        (up_to true e ∙ runs_set (role_at layout over) (constant 1) [] input (suc (suc (suc l))) m2 m3 1 (value_constant 1 m2) (put_fixed (place_of layout over) 1 m2) ∙ runs_none input (suc (suc (suc (suc l)))) m3)
        (ended_stands layout m3 state made t true (but (ended_words state made t) over 1) st.fits e (set_tells layout m2 (ended_words state made t) over 1 t2 tt) same)
        (kept_too layout m m2 m3 kept (length_others m2 layout over 1 tt))
      where
        m3 : List ℕ
        m3 = slice_set m2 (place_of layout over) 1

        same : (role : Role) → IsOf layout role → but (ended_words state made t) over 1 role ≡ but (ended_words state made t) over (truth (state.over || true)) role
        same (cell j) has = refl
        same (owner j) has = refl
        same over has = rw (lives_on state q e).2 refl
        same holder has = refl
        same main_life has = refl
        same no_life has = refl
        same (life u) has = refl
        same no_wait has = refl
        same (wait u) has = refl
