-- Joins.
use Rattle.std.proofs.Common.{◌≡◌, ℕ, zero, suc, ◌+◌, ◌<◌, Bool, true, false, not, cond, List, [], ◌∷◌, length, eqb, ltb, refl, sym, ◌∙◌, ap, subst, arith, Option, Some, None}
use Rattle.std.specs.Prelude.{slice_index, slice_set}
use Rattle.std.proofs.lemmas.Bool.{eqb-true, ne_eqb, ltb-true, ltb-false, lt-ltb}
use Rattle.std.proofs.lemmas.List.{length-set}
use Rattle.lz_base.specs.Words.{truth}
use Rattle.lz_base.specs.declared.operator.Binary.TheVariants.{Ne}
use Rattle.lz_base.specs.declared.word.IntType.TheVariants.{Unsigned}
use Rattle.lz_base.specs.declared.word.BreakKind.TheVariants as kinds
use Rattle.lz_model.specs.declared.thread_state.ThreadState.{ThreadState}
use Rattle.lz_model.specs.Store.{State, Acted, is_made, owner_of, thread_at, with_thread}
use Rattle.lz_model.specs.declared.actions.Action.TheVariants as actions
use Rattle.lz_model.specs.Store as model
use Rattle.lz_flat.specs.Programs.{Expression, constant, binary, Instruction, sets, assumes, checks}
use Rattle.lz_flat.specs.Instructions.{value, put}
use Rattle.lz_flat.specs.Instructions as flat
use Rattle.lz_sync.specs.declared.layout.Layout.{Layout}
use Rattle.lz_sync.specs.Slots.{thread_of}
use Rattle.lz_sync.specs.Standing.{Role, cell, owner, over, holder, main_life, no_life, life, no_wait, wait, place_of, lives_from, IsOf, life_in, number_word, said, IsMadeIn, Tells, StandsFor}
use Rattle.lz_flat.specs.Running.{runs}
use Rattle.lz_sync.specs.Operations.{joins}
use Rattle.lz_sync.specs.Groups.{free, both, equal, joined_word, joined_at}
use Rattle.lz_sync.specs.Doing.{DoesAs, goes, breaks, Does}
use Rattle.lz_sync.proofs.TellsLemmas.{but, set_tells}
use Rattle.lz_sync.proofs.TestsLemmas.{value_equal, value_constant, runs_check}
use Rattle.lz_sync.proofs.ThreadsLemmas.{thread_read, past, one_slot}
use Rattle.lz_sync.proofs.ActingLemmas.{frees_where, runs_last, length_others}
use Rattle.lz_sync.proofs.SignalLemmas.{value_element, put_at}

-- memory in which a thread that has ended is joined
set_joined : (layout : Layout) (m : List ℕ) (state : State) (made : List ℕ) (slot : ℕ) → StandsFor layout m state made → 0 < slot → slot < layout.threads → thread_of made slot < length state.threads → (thread_at state (thread_of made slot)).ended ≡ true
    → StandsFor layout (slice_set m (place_of layout (life slot)) 3) (with_thread state (thread_of made slot) (record (thread_at state (thread_of made slot)) { joined = true })) made
set_joined layout m state made slot st low lt here ended = record {
  fits = record {
    cells = st.fits.cells;
    mutexes = st.fits.mutexes;
    threads = length-set state.threads q now ∙ st.fits.threads;
    rises = st.fits.rises;
    sound = record { owners = λ j. still (owner_of state j) (st.fits.sound.owners j); holder = still state.holder st.fits.sound.holder; joins = λ n. joins n (eqb n q) refl };
  };
  tells = record { room = t.room; at = λ role has. t.at role has ∙ same role has };
}
  where
    q : ℕ
    q = thread_of made slot

    now : ThreadState
    now = record (thread_at state q) { joined = true }

    t : Tells layout (slice_set m (place_of layout (life slot)) 3) (but (said state made) (life slot) 3)
    t = set_tells layout m (said state made) (life slot) 3 st.tells (low, lt)

    still : (x : Option ℕ) → IsMadeIn state x → IsMadeIn (with_thread state q now) x
    still None h = tt
    still (Some n) h = let z = length-set state.threads q now in omega (arith, h, z)

    joins : (n : ℕ) (b : Bool) → eqb n q ≡ b → (thread_at (with_thread state q now) n).joined ≡ true → (thread_at (with_thread state q now) n).ended ≡ true
    joins n true e h = rw (thread_read state q n now true here e) ended
    joins n false e h = rw (thread_read state q n now false here e) (st.fits.sound.joins n (subst (λ (x : ThreadState). x.joined ≡ true) (thread_read state q n now false here e) h))

    lives : (n : ℕ) (b : Bool) → eqb n q ≡ b → cond b 3 (life_in state n) ≡ life_in (with_thread state q now) n
    lives n true e = rw (length-set state.threads q now, thread_read state q n now true here e, eqb-true n q e, lt-ltb q (length state.threads) here, ended) refl
    lives n false e = rw (length-set state.threads q now, thread_read state q n now false here e) refl

    wait_at : (n : ℕ) (b : Bool) → eqb n q ≡ b → (thread_at state n).waits ≡ (thread_at (with_thread state q now) n).waits
    wait_at n true e = rw (thread_read state q n now true here e, eqb-true n q e) refl
    wait_at n false e = rw (thread_read state q n now false here e) refl

    same : (role : Role) → IsOf layout role → but (said state made) (life slot) 3 role ≡ said (with_thread state q now) made role
    same (cell j) has = refl
    same (owner j) has = refl
    same over has = refl
    same holder has = refl
    same main_life has = lives 0 false (one_slot layout state made slot 0 st.fits here ∙ ne_eqb 0 slot (λ e. let z : ⊥ = omega (arith, e, low) in z))
    same no_life has = refl
    same (life u) has = lives (thread_of made u) (eqb u slot) (one_slot layout state made slot u st.fits here)
    same no_wait has = refl
    same (wait u) has = ap (λ (o : Option ℕ). number_word o) (wait_at (thread_of made u) (eqb (thread_of made u) q) refl)

-- the life of a slot that is joined: 0 says that it is not made, as does every number that is no slot
joined_value : (layout : Layout) (m : List ℕ) (state : State) (made : List ℕ) (n : ℕ) (slot : Expression) → StandsFor layout m state made → 0 < layout.threads → value slot m ≡ suc n → value (joined_word layout slot) m ≡ life_in state (thread_of made (suc n))
joined_value layout m state made n slot st pos e = by (ltb (suc n) layout.threads) refl
  where
    by : (b : Bool) → ltb (suc n) layout.threads ≡ b → value (joined_word layout slot) m ≡ life_in state (thread_of made (suc n))
    by true f = value_element (lives_from layout) layout.threads (suc n) slot m e ∙ rw f (st.tells.at (life (suc n)) (omega arith, ltb-true (suc n) layout.threads f))
    by false f = value_element (lives_from layout) layout.threads (suc n) slot m e ∙ rw (f, past layout state made (suc n) st.fits (ltb-false (suc n) layout.threads f) pos) refl

nobody_joined : (layout : Layout) (m : List ℕ) (state : State) (made : List ℕ) (slot : Expression) → StandsFor layout m state made → 0 < layout.threads → value slot m ≡ 0 → value (joined_word layout slot) m ≡ 0
nobody_joined layout m state made slot st pos e = value_element (lives_from layout) layout.threads 0 slot m e
    ∙ rw (lt-ltb 0 layout.threads pos) (ap (λ (p : ℕ). slice_index m p) (let z : lives_from layout + 0 ≡ lives_from layout = omega arith in z) ∙ st.tells.at no_life pos)

-- they differ
value_differ : (x y : Expression) (m : List ℕ) (a b : ℕ) → value x m ≡ a → value y m ≡ b → value (binary Ne Unsigned x y) m ≡ truth (not (eqb a b))
unfolding value
value_differ x y m a b e f = rw (e, f) refl

-- a join
pub joins_do : (layout : Layout) (t : ℕ) (slot : Expression) → Does layout t (joins slot)
joins_do layout t slot lt few is m state made input l st ready = by (value slot m) refl
  where
    pos : 0 < layout.threads
    pos = omega (arith, lt)

    last : List Instruction
    last = sets (joined_at layout slot) (constant 3) ∷ []

    rest : List Instruction
    rest = checks (equal (joined_word layout slot) (constant 2)) kinds.Join 0 ∷ last

    test_of : Expression
    test_of = binary Ne Unsigned (joined_word layout slot) (constant 1)

    first_test : (w : ℕ) → value (joined_word layout slot) m ≡ w → value test_of m ≡ truth (not (eqb w 1))
    first_test w e = value_differ (joined_word layout slot) (constant 1) m w 1 e (value_constant 1 m)

    checked : (w : ℕ) (b : Bool) → value (joined_word layout slot) m ≡ w → eqb w 2 ≡ b → runs input (suc l) rest m ≡ cond b (runs input (suc (suc l)) last m) (flat.broke kinds.Join 0)
    checked w b e f = runs_check (equal (joined_word layout slot) (constant 2)) kinds.Join 0 last input (suc l) m b
        (value_equal (joined_word layout slot) (constant 2) m w 2 e (value_constant 2 m) ∙ ap (λ (c : Bool). truth c) f)

    by : (d : ℕ) → value slot m ≡ d → DoesAs layout m made (model.act state (thread_of made t) (actions.Join (thread_of made (value slot m)))) (runs input l (assumes (both (free layout t) test_of) ∷ rest) m)
    by zero e = rw e (frees_where layout m m made state made t test_of true rest input l (model.broke kinds.Join) st lt (first_test 0 none) (λ x. absurd cc) (λ here x. breaks kinds.Join refl (checked 0 false none refl)))
      where
        none : value (joined_word layout slot) m ≡ 0
        none = nobody_joined layout m state made slot st pos e
    by (suc n) e = rw e (by_life (is_made state q) refl (thread_at state q).joined refl (thread_at state q).ended refl)
      where
        q : ℕ
        q = thread_of made (suc n)

        life_is : value (joined_word layout slot) m ≡ life_in state q
        life_is = joined_value layout m state made n slot st pos e

        no_main : eqb q 0 ≡ false
        no_main = ne_eqb q 0 (λ h. let z : ⊥ = omega (arith, h) in z)

        by_life : (a : Bool) → is_made state q ≡ a → (j : Bool) → (thread_at state q).joined ≡ j → (d : Bool) → (thread_at state q).ended ≡ d
            → DoesAs layout m made (model.act state (thread_of made t) (actions.Join q)) (runs input l (assumes (both (free layout t) test_of) ∷ rest) m)
        by_life false f j g d h = frees_where layout m m made state made t test_of true rest input l (model.joins state q) st lt (first_test 0 word_is) (λ x. absurd cc)
            (λ here x. breaks kinds.Join (rw (no_main, f) refl) (checked 0 false word_is refl))
          where
            word_is : value (joined_word layout slot) m ≡ 0
            word_is = life_is ∙ rw f refl
        by_life true f true g false h = absurd (let z : true ≡ false = sym (st.fits.sound.joins q g) ∙ h in cc)
        by_life true f true g true h = frees_where layout m m made state made t test_of true rest input l (model.joins state q) st lt (first_test 3 word_is) (λ x. absurd cc)
            (λ here x. breaks kinds.Join (rw (no_main, f, g) refl) (checked 3 false word_is refl))
          where
            word_is : value (joined_word layout slot) m ≡ 3
            word_is = life_is ∙ rw (f, g, h) refl
        by_life true f false g false h = frees_where layout m m made state made t test_of false rest input l (model.joins state q) st lt (first_test 1 word_is) (λ x. rw (no_main, f, g, h) refl) (λ here x. absurd cc)
          where
            word_is : value (joined_word layout slot) m ≡ 1
            word_is = life_is ∙ rw (f, g, h) refl
        by_life true f false g true h = frees_where layout m m made state made t test_of true rest input l (model.joins state q) st lt (first_test 2 word_is) (λ x. absurd cc)
            (λ here x. goes joined after (rw (no_main, f, g, h) refl)
            (checked 2 true word_is refl ∙ runs_last (joined_at layout slot) (constant 3) input (suc (suc l)) m after 3 (value_constant 3 m) (put_at (lives_from layout) layout.threads (suc n) 3 slot m e in_layout))
            (set_joined layout m state made (suc n) st (omega arith) in_layout (ltb-true q (length state.threads) f) h) (length_others m layout (life (suc n)) 3 (omega arith, in_layout)))
          where
            word_is : value (joined_word layout slot) m ≡ 2
            word_is = life_is ∙ rw (f, g, h) refl

            joined : State
            joined = with_thread state q (record (thread_at state q) { joined = true })

            after : List ℕ
            after = slice_set m (place_of layout (life (suc n))) 3

            in_layout : suc n < layout.threads
            in_layout = range (ltb (suc n) layout.threads) refl
              where
                range : (b : Bool) → ltb (suc n) layout.threads ≡ b → suc n < layout.threads
                range true k = ltb-true (suc n) layout.threads k
                range false k = absurd (let z : true ≡ false = sym f ∙ past layout state made (suc n) st.fits (ltb-false (suc n) layout.threads k) pos in cc)
