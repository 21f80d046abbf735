-- From the answer of a thread to the next action of a replay.
use Rattle.std.proofs.Common.{◌≡◌, ◌≢◌, ℕ, ◌+◌, ◌-◌, ◌<◌, ◌≤◌, inl, inr, min, Bool, true, false, ◌&&◌, ◌||◌, eqb, ltb, cond, List, [], ◌∷◌, length, slice_index, Option, Some, None, refl, sym, ◌∙◌, ap, subst, arith}
use Rattle.std.proofs.lemmas.Bool.{eqb-true, eqb-false}
use Rattle.std.proofs.lemmas.Bool.Decides.{nat_tests}
use Rattle.std.proofs.lemmas.Option.{same_Some}
use Rattle.lz_base.specs.Words.{value_bound}
use Rattle.lz_base.proofs.ListLemmas.{cons_parts}
use Rattle.lz_tree.specs.ScopedTrees.{ScopedProgram}
use Rattle.lz_model.specs.declared.actions.Action.{Action}
use Rattle.lz_model.specs.declared.actions.Action.TheVariants.{Loc, Input, Check, Assume, Rd, Wr, Reset, Lock, Unlock, Park, Wake, Signal, Broadcast, Create, Join, HoldOn, HoldOff, End}
use Rattle.lz_model.specs.declared.schedule.Step.{Step}
use Rattle.lz_model.specs.Actions.{Act, choice_of}
use Rattle.lz_model.specs.Store.{State, blocked, is_made, waits_on, thread_at, awake, with_thread, is_halted, held_by_another, act}
use Rattle.lz_model.specs.CodeTraces.{at}
use Rattle.lz_model.proofs.OneRunLemmas.{read_finds, woken_is, found_is}
use Rattle.lz_machine.specs.Threads.{Standing, going, failed, stopped, ended, spent, Thread, MayGo, MayDo}
use Rattle.lz_machine.specs.Answers.{reads, acts, has_ended, is_cut, read_back, woken_by, HasChosen, StandsFor, HasChoice, Answers}
use Rattle.lz_replay.specs.Stands.{Same, IsNext}
use Rattle.lz_replay.specs.Taking.{room}

-- ---- actions and choices

asked_of : (a : Action) (choice : ℕ) → choice_of a ≡ Some choice → HasChoice choice a
asked_of Loc choice e = tt
asked_of (Input v) choice e = inl cc
asked_of (Check v kind) choice e = tt
asked_of (Assume v) choice e = tt
asked_of (Rd cell v) choice e = tt
asked_of (Wr cell v) choice e = tt
asked_of (Reset m) choice e = tt
asked_of (Lock m) choice e = tt
asked_of (Unlock m) choice e = tt
asked_of (Park c m) choice e = tt
asked_of (Wake c m) choice e = tt
asked_of (Signal c w) choice e = tt
asked_of (Broadcast c) choice e = tt
asked_of (Create d f v) choice e = tt
asked_of (Join d) choice e = tt
asked_of HoldOn choice e = tt
asked_of HoldOff choice e = tt
asked_of (End w) choice e = tt

stands_itself : (a : Action) → StandsFor a a
stands_itself Loc = refl
stands_itself (Input v) = refl
stands_itself (Check v kind) = refl
stands_itself (Assume v) = refl
stands_itself (Rd cell v) = refl
stands_itself (Wr cell v) = refl
stands_itself (Reset m) = refl
stands_itself (Lock m) = refl
stands_itself (Unlock m) = refl
stands_itself (Park c m) = refl
stands_itself (Wake c m) = refl
stands_itself (Signal c w) = (w, refl)
stands_itself (Broadcast c) = refl
stands_itself (Create d f v) = refl
stands_itself (Join d) = refl
stands_itself HoldOn = refl
stands_itself HoldOff = refl
stands_itself (End w) = refl

-- what stands for an action and has its choice is this action
stands_chosen : (a o : Action) (choice : ℕ) → StandsFor a o → choice_of a ≡ Some choice → choice_of o ≡ Some choice → o ≡ a
stands_chosen Loc o choice stands one other = stands
stands_chosen (Input v) o choice stands one other = stands
stands_chosen (Check v kind) o choice stands one other = stands
stands_chosen (Assume v) o choice stands one other = stands
stands_chosen (Rd cell v) o choice stands one other = stands
stands_chosen (Wr cell v) o choice stands one other = stands
stands_chosen (Reset m) o choice stands one other = stands
stands_chosen (Lock m) o choice stands one other = stands
stands_chosen (Unlock m) o choice stands one other = stands
stands_chosen (Park c m) o choice stands one other = stands
stands_chosen (Wake c m) o choice stands one other = stands
stands_chosen (Signal c w) o choice stands one other = stands.1 ∙ ap (λ (x : Option ℕ). Signal c x) (woken_is c stands.0 w (sym (ap choice_of stands.1) ∙ (other ∙ sym one)))
stands_chosen (Broadcast c) o choice stands one other = stands
stands_chosen (Create d f v) o choice stands one other = stands
stands_chosen (Join d) o choice stands one other = stands
stands_chosen HoldOn o choice stands one other = stands
stands_chosen HoldOff o choice stands one other = stands
stands_chosen (End w) o choice stands one other = stands

-- a thread that a signal can wake is made
signal_made : (s : State) (t cond_ u : ℕ) → act s t (Signal cond_ (Some u)) ≢ blocked → u < length s.threads
signal_made s t cond_ u goes =
    below (is_made s u) (waits_on cond_ (thread_at s u)) refl
    (found_is (is_halted s t || (true && held_by_another s.holder t)) (is_made s u && waits_on cond_ (thread_at s u)) (with_thread s u (awake (thread_at s u))) goes)
  where
    below : (b c : Bool) → ltb u (length s.threads) ≡ b → b && c ≡ true → u < length s.threads
    below true c e h = grind (arith, nat_tests)
    below false c e h = absurd cc

-- a signal that wakes the chosen thread, which is among the first, is answered
signal_chosen : (s : State) (t cond_ choice : ℕ) (w v : Option ℕ) → length s.threads ≤ room → w ≡ woken_by choice → choice_of (Signal cond_ v) ≡ Some choice → act s t (Signal cond_ v) ≢ blocked
    → choice_of (Signal cond_ w) ≡ Some choice
signal_chosen s t cond_ choice w v few is chosen goes = by (eqb choice 0) refl v chosen goes
  where
    woken_is_at : (b : Bool) → eqb choice 0 ≡ b → w ≡ cond b None (Some (min (choice - 1) (value_bound - 1)))
    woken_is_at b h = is ∙ ap (λ (c : Bool). cond c None (Some (min (choice - 1) (value_bound - 1)))) h

    small : (u : ℕ) → u + 1 ≡ choice → u < length s.threads → min (choice - 1) (value_bound - 1) + 1 ≡ choice
    small u same made = omega (arith, same, made, few)

    by : (b : Bool) → eqb choice 0 ≡ b → (o : Option ℕ) → choice_of (Signal cond_ o) ≡ Some choice → act s t (Signal cond_ o) ≢ blocked → choice_of (Signal cond_ w) ≡ Some choice
    by true h o c g = ap (λ (x : Option ℕ). choice_of (Signal cond_ x)) (woken_is_at true h) ∙ ap (λ (x : ℕ). Some x) (sym (eqb-true choice 0 h))
    by false h None c g = absurd (eqb-false choice 0 h (sym (same_Some 0 choice c)))
    by false h (Some u) c g =
        ap (λ (x : Option ℕ). choice_of (Signal cond_ x)) (woken_is_at false h) ∙ ap (λ (x : ℕ). Some x) (small u (same_Some (u + 1) choice c) (signal_made s t cond_ u g))

-- what stands for an answered action, has the choice and goes: then the answered one has the choice
other_chosen : (a o : Action) (choice : ℕ) (s : State) (t : ℕ) → length s.threads ≤ room → HasChosen choice a → StandsFor a o → choice_of o ≡ Some choice → act s t o ≢ blocked → choice_of a ≡ Some choice
other_chosen Loc o choice s t few is e chosen goes = ap choice_of (sym e) ∙ chosen
other_chosen (Input v) o choice s t few is e chosen goes = ap choice_of (sym e) ∙ chosen
other_chosen (Check v kind) o choice s t few is e chosen goes = ap choice_of (sym e) ∙ chosen
other_chosen (Assume v) o choice s t few is e chosen goes = ap choice_of (sym e) ∙ chosen
other_chosen (Rd cell v) o choice s t few is e chosen goes = ap choice_of (sym e) ∙ chosen
other_chosen (Wr cell v) o choice s t few is e chosen goes = ap choice_of (sym e) ∙ chosen
other_chosen (Reset m) o choice s t few is e chosen goes = ap choice_of (sym e) ∙ chosen
other_chosen (Lock m) o choice s t few is e chosen goes = ap choice_of (sym e) ∙ chosen
other_chosen (Unlock m) o choice s t few is e chosen goes = ap choice_of (sym e) ∙ chosen
other_chosen (Park c m) o choice s t few is e chosen goes = ap choice_of (sym e) ∙ chosen
other_chosen (Wake c m) o choice s t few is e chosen goes = ap choice_of (sym e) ∙ chosen
other_chosen (Signal c w) o choice s t few is e chosen goes =
    signal_chosen s t c choice w e.0 few is (sym (ap choice_of e.1) ∙ chosen) (subst (λ (x : Action). act s t x ≢ blocked) e.1 goes)
other_chosen (Broadcast c) o choice s t few is e chosen goes = ap choice_of (sym e) ∙ chosen
other_chosen (Create d f v) o choice s t few is e chosen goes = ap choice_of (sym e) ∙ chosen
other_chosen (Join d) o choice s t few is e chosen goes = ap choice_of (sym e) ∙ chosen
other_chosen HoldOn o choice s t few is e chosen goes = ap choice_of (sym e) ∙ chosen
other_chosen HoldOff o choice s t few is e chosen goes = ap choice_of (sym e) ∙ chosen
other_chosen (End w) o choice s t few is e chosen goes = ap choice_of (sym e) ∙ chosen

module _ (p : ScopedProgram) (n : ℕ) where
  stop_at : (whole : Bool) (standing : Standing) → MayGo p n whole standing []
  stop_at whole (going running) = inl refl
  stop_at whole failed = refl
  stop_at whole stopped = refl
  stop_at whole ended = refl
  stop_at whole spent = refl

  -- a thread may stop at any time
  pub may_stop : (thread : Thread) → MayDo p n thread []
  may_stop thread = stop_at thread.whole thread.standing

  module _ (before after : Thread) (choice : ℕ) where
    -- ---- an action

    module _ (action : Action) (line : ℕ) (is : Answers p n choice before (acts action line) after) where
      behind_act : (a : Act) (rest : List Act) → choice_of a.action ≡ Some choice → MayDo p n before (a ∷ rest) → (o : Action) × (a ≡ at line o) × StandsFor action o × MayDo p n after rest
      behind_act a rest chosen h = elim (is.there (a ∷ rest) (asked_of a.action choice chosen) h) [
        | inl e ↦ absurd cc
        | inr b ↦ let parts = cons_parts b.3 in (b.0, parts.0, b.2, subst (λ (xs : List Act). MayDo p n after xs) (sym parts.1) b.4)
      ]

      act_behind : (rest : List Act) → choice_of action ≡ Some choice → MayDo p n after rest → MayDo p n before (at line action ∷ rest)
      act_behind rest chosen h = is.back (at line action ∷ rest) (action, rest, stands_itself action, refl, h)

      pub act_next : (s : State) (step : Step) → step.choice ≡ choice → step.thread < length s.threads → choice_of action ≡ Some choice → IsNext s step (MayDo p n before) (at line action)
      act_next s step same made chosen = record {
        made = made;
        does = act_behind [] chosen (may_stop after);
        chosen = chosen ∙ ap (λ (c : ℕ). Some c) (sym same);
        only = λ other h c goes.
            let here = c ∙ ap (λ (x : ℕ). Some x) same in
            let b = behind_act other [] here h in
            let o : choice_of b.0 ≡ Some choice = sym (ap (λ (x : Act). choice_of x.action) b.1) ∙ here in
            b.1 ∙ ap (λ (x : Action). at line x) (stands_chosen action b.0 choice b.2 chosen o);
      }

      pub act_here : choice_of action ≡ Some choice → Same (λ acts. MayDo p n before (at line action ∷ acts)) (MayDo p n after)
      act_here chosen = record { there = λ list h. (behind_act (at line action) list chosen h).3; back = λ list h. act_behind list chosen h }

      pub act_other : (s : State) (t : ℕ) → length s.threads ≤ room → choice_of action ≢ Some choice → (a : Act) → MayDo p n before (a ∷ []) → choice_of a.action ≡ Some choice → act s t a.action ≢ blocked → ⊥
      act_other s t few other a h chosen goes =
          let b = behind_act a [] chosen h in
          let o : choice_of b.0 ≡ Some choice = sym (ap (λ (x : Act). choice_of x.action) b.1) ∙ chosen in
          other (other_chosen action b.0 choice s t few is.chosen b.2 o (subst (λ (x : Act). act s t x.action ≢ blocked) b.1 goes))

    -- ---- a read

    module _ (cell line : ℕ) (is : Answers p n choice before (reads cell line) after) where
      behind_read : (a : Act) (rest : List Act) → choice_of a.action ≡ Some choice → MayDo p n before (a ∷ rest)
          → (word : ℕ) × (word < value_bound) × (a ≡ at line (Rd cell word)) × MayDo p n (read_back (Some word) after) rest
      behind_read a rest chosen h = elim (is.there (a ∷ rest) (asked_of a.action choice chosen) h) [
        | inl e ↦ absurd cc
        | inr b ↦ let parts = cons_parts b.3 in (b.0, b.2, parts.0, subst (λ (xs : List Act). MayDo p n (read_back (Some b.0) after) xs) (sym parts.1) b.4)
      ]

      finds : (s : State) (t : ℕ) (a : Act) (word : ℕ) → a ≡ at line (Rd cell word) → act s t a.action ≢ blocked → word ≡ slice_index s.cells cell
      finds s t a word e goes = read_finds s t cell word (subst (λ (x : Act). act s t x.action ≢ blocked) e goes)

      pub read_next : (s : State) (step : Step) → step.choice ≡ choice → step.thread < length s.threads → choice ≡ 0 → slice_index s.cells cell < value_bound
          → IsNext s step (MayDo p n before) (at line (Rd cell (slice_index s.cells cell)))
      read_next s step same made none below = record {
        made = made;
        does = read_behind (slice_index s.cells cell) [] none below (may_stop (read_back (Some (slice_index s.cells cell)) after));
        chosen = ap (λ (c : ℕ). Some c) (sym (same ∙ none));
        only = λ other h c goes.
            let b = behind_read other [] (c ∙ ap (λ (x : ℕ). Some x) same) h in
            b.2 ∙ ap (λ (x : ℕ). at line (Rd cell x)) (finds s step.thread other b.0 b.2 goes);
      }
        where
          read_behind : (word : ℕ) (rest : List Act) → choice ≡ 0 → word < value_bound → MayDo p n (read_back (Some word) after) rest → MayDo p n before (at line (Rd cell word) ∷ rest)
          read_behind word rest none below h = is.back (at line (Rd cell word) ∷ rest) (word, rest, below, refl, h)

      pub read_here : (word : ℕ) → choice ≡ 0 → word < value_bound → Same (λ acts. MayDo p n before (at line (Rd cell word) ∷ acts)) (MayDo p n (read_back (Some word) after))
      read_here word none below = record {
        there = λ list h. there list (behind_read (at line (Rd cell word)) list (ap (λ (c : ℕ). Some c) (sym none)) h);
        back = λ list h. is.back (at line (Rd cell word) ∷ list) (word, list, below, refl, h);
      }
        where
          there : (list : List Act) → (other : ℕ) × (other < value_bound) × (at line (Rd cell word) ≡ at line (Rd cell other)) × MayDo p n (read_back (Some other) after) list → MayDo p n (read_back (Some word) after) list
          there list b =
              let same : Rd cell word ≡ Rd cell b.0 = ap (λ (x : Act). x.action) b.2 in
              let word_same : b.0 ≡ word = cc in
              subst (λ (x : ℕ). MayDo p n (read_back (Some x) after) list) word_same b.3

      pub read_chosen : (a : Act) → MayDo p n before (a ∷ []) → choice_of a.action ≡ Some choice → choice ≢ 0 → ⊥
      read_chosen a h chosen other =
          let b = behind_read a [] chosen h in
          let zero_is : Some 0 ≡ Some choice = sym (ap (λ (x : Act). choice_of x.action) b.2) ∙ chosen in
          other (none_is choice zero_is)
        where
          none_is : (c : ℕ) → Some 0 ≡ Some c → c ≡ 0
          none_is c e = cc

      pub read_large : (s : State) (t : ℕ) → value_bound ≤ slice_index s.cells cell → (a : Act) → MayDo p n before (a ∷ []) → choice_of a.action ≡ Some choice → act s t a.action ≢ blocked → ⊥
      read_large s t large a h chosen goes =
          let b = behind_read a [] chosen h in
          let found = finds s t a b.0 b.2 goes in
          let below = b.1 in
          too_large b.0 (slice_index s.cells cell) found below large
        where
          too_large : (word value : ℕ) → word ≡ value → word < value_bound → value_bound ≤ value → ⊥
          too_large word value e below large = omega (arith, e, below, large)

    -- ---- nothing

    pub ended_none : Answers p n choice before has_ended after → (a : Act) → MayDo p n before (a ∷ []) → choice_of a.action ≡ Some choice → ⊥
    ended_none is a h chosen = elim (is.there (a ∷ []) (asked_of a.action choice chosen) h) [ inl e ↦ absurd cc | inr b ↦ b ]

    pub cut_none : Answers p n choice before is_cut after → (a : Act) → MayDo p n before (a ∷ []) → choice_of a.action ≡ Some choice → ⊥
    cut_none is a h chosen = elim (is.there (a ∷ []) (asked_of a.action choice chosen) h) [ inl e ↦ absurd cc | inr b ↦ b ]
