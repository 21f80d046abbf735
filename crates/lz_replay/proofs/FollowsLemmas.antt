-- Runs that follow a schedule: their fronts, and that one answer of a replay is right.
use Rattle.std.proofs.Common.{◌≡◌, ℕ, zero, suc, ◌+◌, ◌<◌, ◌≤◌, List, [], ◌∷◌, ◌++◌, take, drop, Option, Some, None, refl, sym, ◌∙◌, ap, subst, arith}
use Rattle.std.proofs.lemmas.List.{take-append-drop}
use Rattle.lz_base.specs.declared.word.BreakKind.{BreakKind}
use Rattle.lz_base.proofs.ListLemmas.{cons_parts}
use Rattle.lz_tree.specs.ScopedTrees.{ScopedProgram}
use Rattle.lz_model.specs.declared.actions.Event.{Event}
use Rattle.lz_model.specs.declared.schedule.Step.{Step}
use Rattle.lz_model.specs.Actions.{choice_of}
use Rattle.lz_model.specs.Interleavings.{broken, course, IsRun}
use Rattle.lz_model.specs.BrokenRuns.{step_with, schedule_of, Follows}
use Rattle.lz_model.specs.Programs.{process_of}
use Rattle.lz_model.proofs.RunFrontsLemmas.{front_of_run}
use Rattle.lz_model.proofs.ThreadFrontsLemmas.{program_is_open}
use Rattle.lz_model.proofs.LocLemmas.{bare_course}
use Rattle.lz_model.proofs.OneRunLemmas.{one_run}
use Rattle.lz_replay.specs.declared.answer.Replayed.{Replayed}
use Rattle.lz_replay.specs.declared.answer.Replayed.TheVariants.{Broke, Holds, NotARun}
use Rattle.lz_replay.specs.Replays.{IsFollowed, IsHeld, IsBrokenAt, Says}

-- ---- a run whose schedule is in two parts

-- the events of the first part, and the others
pub record Splits (run : List Event) (xs ys : List Step) : Type 0 where
  pub front : List Event
  pub rest : List Event
  pub are : run ≡ front ++ rest
  pub left : schedule_of front ≡ xs
  pub right : schedule_of rest ≡ ys

no_steps : (xs ys : List Step) → [] ≡ xs ++ ys → (xs ≡ []) × (ys ≡ [])
no_steps [] ys e = (refl, sym e)
no_steps (x ∷ xs) ys e = absurd cc

split_event : (e : Event) (run : List Event) (o : Option ℕ) → choice_of e.action ≡ o → (xs ys : List Step) → step_with e.thread o ++ schedule_of run ≡ xs ++ ys
    → ((xs ys : List Step) → schedule_of run ≡ xs ++ ys → Splits run xs ys) → Splits (e ∷ run) xs ys
split_event e run None c xs ys is later =
    let found = later xs ys is in
    record { front = e ∷ found.front; rest = found.rest; are = ap (λ (es : List Event). e ∷ es) found.are; left = rw c found.left; right = found.right }
split_event e run (Some choice) c [] ys is later = record { front = []; rest = e ∷ run; are = refl; left = refl; right = rw c is }
split_event e run (Some choice) c (x ∷ xs) ys is later =
    let first = cons_parts is in
    let found = later xs ys first.1 in
    record {
      front = e ∷ found.front;
      rest = found.rest;
      are = ap (λ (es : List Event). e ∷ es) found.are;
      left = rw c (ap (λ (steps : List Step). record { thread = e.thread; choice = choice } ∷ steps) found.left ∙ ap (λ (s : Step). s ∷ xs) first.0);
      right = found.right;
    }

pub split : (run : List Event) (xs ys : List Step) → schedule_of run ≡ xs ++ ys → Splits run xs ys
split [] xs ys is = let none = no_steps xs ys is in record { front = []; rest = []; are = refl; left = sym none.0; right = sym none.1 }
split (e ∷ run) xs ys is = split_event e run (choice_of e.action) refl xs ys is (λ xs ys h. split run xs ys h)

-- ---- fronts

module _ (p : ScopedProgram) (n : ℕ) where
  -- what is followed, each front of it is followed
  pub front_followed : (xs ys : List Step) → IsFollowed p n (xs ++ ys) → IsFollowed p n xs
  front_followed xs ys f =
      let parts = split f.run xs ys f.follows in
      record {
        run = parts.front;
        is = front_of_run (process_of p n) (program_is_open p n) parts.front parts.rest (subst (λ (run : List Event). IsRun (process_of p n) run) parts.are f.is);
        follows = parts.left;
      }

  pub take_followed : (i : ℕ) (schedule : List Step) → IsFollowed p n schedule → IsFollowed p n (take i schedule)
  take_followed i schedule f =
      front_followed (take i schedule) (drop i schedule) (subst (λ (steps : List Step). IsFollowed p n steps) (sym (take-append-drop i schedule)) f)

  take_less : (i j : ℕ) (schedule : List Step) → i ≤ j → IsFollowed p n (take j schedule) → IsFollowed p n (take i schedule)
  take_less i j schedule le f = subst (λ (steps : List Step). IsFollowed p n steps) (fewer i j schedule le) (take_followed i (take j schedule) f)
    where
      fewer : (i j : ℕ) (schedule : List Step) → i ≤ j → take i (take j schedule) ≡ take i schedule
      fewer zero j schedule le = refl
      fewer (suc i) zero schedule le = absurd (let no : ⊥ = omega (arith, le) in no)
      fewer (suc i) (suc j) [] le = refl
      fewer (suc i) (suc j) (x ∷ schedule) le = ap (λ (steps : List Step). x ∷ steps) (fewer i j schedule (omega (arith, le)))

  -- ---- one answer

  -- two runs that follow one schedule come to the same
  pub one_end : (run other : List Event) (schedule : List Step) → IsRun (process_of p n) run → IsRun (process_of p n) other → Follows run schedule → Follows other schedule
      → course run (process_of p n).begins ≡ course other (process_of p n).begins
  one_end run other schedule is too follows follows_too =
      sym (bare_course (process_of p n) run is)
      ∙ (ap (λ (es : List Event). course es (process_of p n).begins) (one_run p n run other schedule is too follows follows_too)
      ∙ bare_course (process_of p n) other too)

  held_followed : (schedule : List Step) → IsHeld p n schedule → IsFollowed p n schedule
  held_followed schedule h = record { run = h.run; is = h.is; follows = h.follows }

  broken_followed : (schedule : List Step) (kind : BreakKind) (line : ℕ) → IsBrokenAt p n schedule kind line → IsFollowed p n schedule
  broken_followed schedule kind line h = record { run = h.run; is = h.broken_.is; follows = h.follows }

  same_break : (kind other : BreakKind) (line there : ℕ) → broken kind line ≡ broken other there → (kind ≡ other) × (line ≡ there)
  same_break kind other line there e = (cc, cc)

  holds_or_breaks : (schedule : List Step) (kind : BreakKind) (line : ℕ) → IsHeld p n schedule → IsBrokenAt p n schedule kind line → ⊥
  holds_or_breaks schedule kind line h b = h.holds kind line (one_end h.run b.run schedule h.is b.broken_.is h.follows b.follows ∙ b.broken_.breaks)

  one_index : (i j : ℕ) (schedule : List Step) → IsFollowed p n (take j schedule) → (IsFollowed p n (take (i + 1) schedule) → ⊥) → i < j → ⊥
  one_index i j schedule f none lt = none (take_less (i + 1) j schedule (omega (arith, lt)) f)

  pub one_answer : (schedule : List Step) (one other : Replayed) → Says p n schedule one → Says p n schedule other → one ≡ other
  one_answer schedule (Broke kind line events) (Broke k l e) s t =
      let same = same_break kind k line l (sym s.0.broken_.breaks ∙ (one_end s.0.run t.0.run schedule s.0.broken_.is t.0.broken_.is s.0.follows t.0.follows ∙ t.0.broken_.breaks)) in
      let number : events ≡ e = s.1 ∙ sym t.1 in
      ap (λ (x : BreakKind). Broke x line events) same.0 ∙ (ap (λ (x : ℕ). Broke k x events) same.1 ∙ ap (λ (x : ℕ). Broke k l x) number)
  one_answer schedule (Broke kind line events) (Holds e) s t = absurd (holds_or_breaks schedule kind line t.0 s.0)
  one_answer schedule (Broke kind line events) (NotARun i) s t = absurd (t.1 (take_followed (i + 1) schedule (broken_followed schedule kind line s.0)))
  one_answer schedule (Holds events) (Broke k l e) s t = absurd (holds_or_breaks schedule k l s.0 t.0)
  one_answer schedule (Holds events) (Holds e) s t = ap (λ (x : ℕ). Holds x) (s.1 ∙ sym t.1)
  one_answer schedule (Holds events) (NotARun i) s t = absurd (t.1 (take_followed (i + 1) schedule (held_followed schedule s.0)))
  one_answer schedule (NotARun i) (Broke k l e) s t = absurd (s.1 (take_followed (i + 1) schedule (broken_followed schedule k l t.0)))
  one_answer schedule (NotARun i) (Holds e) s t = absurd (s.1 (take_followed (i + 1) schedule (held_followed schedule t.0)))
  one_answer schedule (NotARun i) (NotARun j) s t =
      let below : i < j → ⊥ = one_index i j schedule t.0 s.1 in
      let above : j < i → ⊥ = one_index j i schedule s.0 t.1 in
      ap (λ (x : ℕ). NotARun x) (neither i j below above)
    where
      neither : (i j : ℕ) → (i < j → ⊥) → (j < i → ⊥) → i ≡ j
      neither i j below above = omega (arith, below, above)
