-- Atomic sections.
use Rattle.std.proofs.Common.{◌≡◌, ℕ, suc, Bool, true, false, cond, List, [], ◌∷◌, refl, ◌∙◌, ap, Option, Some, None}
use Rattle.std.specs.Prelude.{slice_set}
use Rattle.lz_base.specs.Words.{truth}
use Rattle.lz_model.specs.Store.{State, went, is_now, is_halted}
use Rattle.lz_flat.specs.Programs.{Expression, constant, choose, sets}
use Rattle.lz_flat.specs.Instructions.{value}
use Rattle.lz_sync.specs.declared.layout.Layout.{Layout}
use Rattle.lz_sync.specs.Slots.{thread_of}
use Rattle.lz_sync.specs.Standing.{Role, cell, owner, over, holder, main_life, no_life, life, no_wait, wait, place_of, IsOf, thread_word, said, IsMadeIn, Tells, StandsFor}
use Rattle.lz_flat.specs.Running.{runs}
use Rattle.lz_sync.specs.Operations.{holds_on, holds_off}
use Rattle.lz_sync.specs.Groups.{role_word, role_at, equal, lets_go}
use Rattle.lz_sync.specs.Doing.{DoesAs, goes, Does}
use Rattle.lz_sync.proofs.TellsLemmas.{but, set_tells}
use Rattle.lz_sync.proofs.TestsLemmas.{value_equal, value_constant, put_fixed}
use Rattle.lz_sync.proofs.FreeLemmas.{told}
use Rattle.lz_sync.proofs.ActingLemmas.{is_there, who_is, frees, lives_then, runs_last, length_others}
use Rattle.lz_sync.proofs.MutexLemmas.{word_of_made}

-- memory in which the atomic section has another holder
set_holder : (layout : Layout) (m : List ℕ) (state : State) (made : List ℕ) (o : Option ℕ) (v : ℕ) → StandsFor layout m state made → IsMadeIn state o → v ≡ thread_word made o
    → StandsFor layout (slice_set m (place_of layout holder) v) (record state { holder = o }) made
set_holder layout m state made o v st is e = record {
  fits = record {
    cells = st.fits.cells;
    mutexes = st.fits.mutexes;
    threads = st.fits.threads;
    rises = st.fits.rises;
    sound = record { owners = st.fits.sound.owners; holder = is; joins = st.fits.sound.joins };
  };
  tells = record { room = t.room; at = λ role has. t.at role has ∙ same role has };
}
  where
    t : Tells layout (slice_set m (place_of layout holder) v) (but (said state made) holder v)
    t = set_tells layout m (said state made) holder v st.tells tt

    same : (role : Role) → IsOf layout role → but (said state made) holder v role ≡ said (record state { holder = o }) made role
    same (cell j) has = refl
    same (owner j) has = refl
    same over has = refl
    same holder has = e
    same main_life has = refl
    same no_life has = refl
    same (life slot) has = refl
    same no_wait has = refl
    same (wait slot) has = refl

-- a choice by a test
pub value_chosen : (test x y : Expression) (m : List ℕ) (b : Bool) (v w : ℕ) → value test m ≡ truth b → value x m ≡ v → value y m ≡ w → value (choose test x y) m ≡ cond b v w
unfolding value
value_chosen test x y m true v w e f g = rw e f
value_chosen test x y m false v w e f g = rw e g

-- the beginning of an atomic section
pub holds_on_do : (layout : Layout) (t : ℕ) → Does layout t holds_on
holds_on_do layout t lt few is m state made input l st ready =
    frees layout m m made state made t (sets (role_at layout holder) (constant (suc t)) ∷ []) input l (went (record state { holder = Some (thread_of made t) })) st lt
    (λ here. goes (record state { holder = Some (thread_of made t) }) after refl
    (runs_last (role_at layout holder) (constant (suc t)) input (suc l) m after (suc t) (value_constant (suc t) m) (put_fixed (place_of layout holder) (suc t) m))
    (set_holder layout m state made (Some (thread_of made t)) (suc t) st here (word_of_made layout state made t st.fits here)) (length_others m layout holder (suc t) tt))
  where
    after : List ℕ
    after = slice_set m (place_of layout holder) (suc t)

-- its end
pub holds_off_do : (layout : Layout) (t : ℕ) → Does layout t holds_off
holds_off_do layout t lt few is m state made input l st ready =
    lives_then layout m m made state made t (lets_go layout t ∷ []) input l (went (cond (is_now state.holder q) (record state { holder = None }) state)) st lt
    (λ runs_. by runs_ (is_now state.holder q) refl)
  where
    q : ℕ
    q = thread_of made t

    after : Bool → List ℕ
    after b = slice_set m (place_of layout holder) (cond b 0 (thread_word made state.holder))

    word_is : value (role_word layout holder) m ≡ thread_word made state.holder
    word_is = told layout m state made holder st tt

    let_go : (b : Bool) → is_halted state q ≡ false → is_now state.holder q ≡ b
        → value (choose (equal (role_word layout holder) (constant (suc t))) (constant 0) (role_word layout holder)) m ≡ cond b 0 (thread_word made state.holder)
    let_go b runs_ e = value_chosen (equal (role_word layout holder) (constant (suc t))) (constant 0) (role_word layout holder) m b 0 (thread_word made state.holder)
        (value_equal (role_word layout holder) (constant (suc t)) m (thread_word made state.holder) (suc t) word_is (value_constant (suc t) m)
        ∙ ap (λ (c : Bool). truth c) (who_is layout state made t state.holder st.fits st.fits.sound.holder (is_there state q runs_) ∙ e))
        (value_constant 0 m) word_is

    chosen : Expression
    chosen = choose (equal (role_word layout holder) (constant (suc t))) (constant 0) (role_word layout holder)

    by : is_halted state q ≡ false → (b : Bool) → is_now state.holder q ≡ b → DoesAs layout m made (went (cond (is_now state.holder q) (record state { holder = None }) state)) (runs input (suc l) (lets_go layout t ∷ []) m)
    by runs_ true e = goes (record state { holder = None }) (after true) (rw e refl)
        (runs_last (role_at layout holder) chosen input (suc l) m (after true) 0 (let_go true runs_ e) (put_fixed (place_of layout holder) 0 m))
        (set_holder layout m state made None 0 st tt refl) (length_others m layout holder 0 tt)
    by runs_ false e = goes state (after false) (rw e refl)
        (runs_last (role_at layout holder) chosen input (suc l) m (after false) (thread_word made state.holder) (let_go false runs_ e) (put_fixed (place_of layout holder) (thread_word made state.holder) m))
        (set_holder layout m state made state.holder (thread_word made state.holder) st st.fits.sound.holder refl) (length_others m layout holder (thread_word made state.holder) tt)
