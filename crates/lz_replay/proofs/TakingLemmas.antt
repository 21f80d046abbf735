-- What an answer stands for is what a thread may do next.
use Rattle.std.proofs.Common.{◌≡◌, ◌≢◌, ℕ, ◌<◌, ◌≤◌, Bool, true, false, ◌&&◌, eqb, ltb, ◌∷◌, slice_index, Option, Some, None, refl, sym, ap, subst, arith}
use Rattle.std.proofs.lemmas.Bool.{eqb-true, eqb-false}
use Rattle.std.proofs.lemmas.Bool.Decides.{nat_tests}
use Rattle.lz_base.specs.Words.{value_bound}
use Rattle.lz_tree.specs.ScopedTrees.{ScopedProgram}
use Rattle.lz_model.specs.declared.actions.Action.{Action}
use Rattle.lz_model.specs.declared.actions.Action.TheVariants.{Rd}
use Rattle.lz_model.specs.Actions.{choice_of}
use Rattle.lz_model.specs.Store.{State}
use Rattle.lz_model.specs.CodeTraces.{at}
use Rattle.lz_machine.specs.Threads.{Standing, going, failed, stopped, ended, spent, Thread, MayDo}
use Rattle.lz_machine.specs.Answers.{Answer, reads, acts, has_ended, is_cut, given_word, read_back, Answers}
use Rattle.lz_machine.specs.declared.answer.ReadBack.TheVariants as back
use Rattle.lz_replay.specs.Stands.{Same}
use Rattle.lz_replay.specs.Lines.{some_where}
use Rattle.lz_replay.specs.Taking.{is_chosen, taken_of, IsTaken}
use Rattle.lz_replay.proofs.AnswersLemmas.{act_next, act_here, act_other, read_next, read_here, read_chosen, read_large, ended_none, cut_none}

chosen_is : (o : Option ℕ) (choice : ℕ) → is_chosen o choice ≡ true → o ≡ Some choice
chosen_is None choice h = absurd cc
chosen_is (Some other) choice h = ap (λ (c : ℕ). Some c) (eqb-true other choice h)

not_chosen : (o : Option ℕ) (choice : ℕ) → is_chosen o choice ≡ false → o ≢ Some choice
not_chosen None choice h e = cc
not_chosen (Some other) choice h e = let same : other ≡ choice = cc in eqb-false other choice h same

given_none : (standing : Standing) → given_word None standing ≡ standing
given_none (going running) = refl
given_none failed = refl
given_none stopped = refl
given_none ended = refl
given_none spent = refl

-- nothing that is read back changes nothing
pub read_nothing : (thread : Thread) → read_back None thread ≡ thread
read_nothing thread = ap (λ (x : Standing). with_standing thread x) (given_none thread.standing)
  where
    with_standing : Thread → Standing → Thread
    with_standing thread standing = record { standing = standing; whole = thread.whole }

module _ (p : ScopedProgram) (n : ℕ) (s : State) (choice : ℕ) (before after : Thread) where
  acts_taken : (action : Action) (line : ℕ) → Answers p n choice before (acts action line) after → (b : Bool) → is_chosen (choice_of action) choice ≡ b
      → IsTaken p n s choice before (some_where b (record { action = action; line = line; read = back.Nothing })) after
  acts_taken action line is true h =
      let chosen = chosen_is (choice_of action) choice h in
      record { next_ = λ step same made. act_next p n before after choice action line is s step same made chosen; here = subst (λ (th : Thread). Same (λ acts. MayDo p n before (at line action ∷ acts)) (MayDo p n th)) (sym (read_nothing after)) (act_here p n before after choice action line is chosen) }
  acts_taken action line is false h =
      record { none = λ thread few other does chosen goes. act_other p n before after choice action line is s thread few (not_chosen (choice_of action) choice h) other does chosen goes }

  reads_taken : (cell line : ℕ) → Answers p n choice before (reads cell line) after → (b c : Bool) → eqb choice 0 ≡ b → ltb (slice_index s.cells cell) value_bound ≡ c
      → IsTaken p n s choice before (some_where (b && c) (record { action = Rd cell (slice_index s.cells cell); line = line; read = back.Value (slice_index s.cells cell) })) after
  reads_taken cell line is true true h k =
      let none = eqb-true choice 0 h in
      let below : slice_index s.cells cell < value_bound = grind (arith, nat_tests) in
      record {
        next_ = λ step same made. read_next p n before after choice cell line is s step same made none below;
        here = read_here p n before after choice cell line is (slice_index s.cells cell) none below;
      }
  reads_taken cell line is true false h k =
      let large : value_bound ≤ slice_index s.cells cell = grind (arith, nat_tests) in
      record { none = λ thread few other does chosen goes. read_large p n before after choice cell line is s thread large other does chosen goes }
  reads_taken cell line is false c h k =
      record { none = λ thread few other does chosen goes. read_chosen p n before after choice cell line is other does chosen (eqb-false choice 0 h) }

  -- what an answer stands for is taken
  pub is_taken : (answer : Answer) → Answers p n choice before answer after → IsTaken p n s choice before (taken_of s choice answer) after
  is_taken (reads cell line) is = reads_taken cell line is (eqb choice 0) (ltb (slice_index s.cells cell) value_bound) refl refl
  is_taken (acts action line) is = acts_taken action line is (is_chosen (choice_of action) choice) refl
  is_taken has_ended is = record { none = λ thread few other does chosen goes. ended_none p n before after choice is other does chosen }
  is_taken is_cut is = record { none = λ thread few other does chosen goes. cut_none p n before after choice is other does chosen }
