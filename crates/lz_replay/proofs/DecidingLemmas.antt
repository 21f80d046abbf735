-- What a program without a choice comes to where `main` is let go on alone.
use Rattle.std.proofs.Common.{◌≡◌, ℕ, zero, suc, ◌+◌, ◌-◌, ◌≤◌, ◌<◌, Bool, true, false, ltb, List, [], ◌∷◌, ◌++◌, length, replicate, refl, sym, ◌∙◌, ap, subst, arith}
use Rattle.std.proofs.lemmas.List.{replicate_more, replicate-append-replicate}
use Rattle.std.proofs.lemmas.Bool.Decides.{nat_tests}
use Rattle.lz_base.specs.declared.word.BreakKind.{BreakKind}
use Rattle.lz_tree.specs.ScopedTrees.{ScopedProgram}
use Rattle.lz_model.specs.declared.actions.Event.{Event}
use Rattle.lz_model.specs.declared.schedule.Step.{Step}
use Rattle.lz_model.specs.Rounds.{rounds_of, threads_of}
use Rattle.lz_model.specs.Store.{State, Acted, went, blocked, broke, act}
use Rattle.lz_model.specs.Interleavings.{Course, going, stuck, broken, course_after, course, IsRun}
use Rattle.lz_model.specs.BrokenRuns.{schedule_of, Follows}
use Rattle.lz_model.specs.Programs.{process_of, IsViolatedWithin}
use Rattle.lz_model.specs.WithoutLoc.{bare}
use Rattle.lz_model.proofs.RunFrontsLemmas.{front_of_run}
use Rattle.lz_model.proofs.ThreadFrontsLemmas.{program_is_open}
use Rattle.lz_model.proofs.RoundsLemmas.{descents-replicate_zero}
use Rattle.lz_choices.specs.MainAlone.{main_step}
use Rattle.lz_machine.specs.Threads.{MayDo}
use Rattle.lz_replay.specs.declared.threads.Held.{Held}
use Rattle.lz_replay.specs.declared.replaying.Stepped.{Stepped}
use Rattle.lz_replay.specs.declared.replaying.Stepped.TheVariants.{Went, Blocked, Broke}
use Rattle.lz_replay.specs.declared.deciding.Decided.TheVariants.{Holds, Broken}
use Rattle.lz_replay.specs.Replays.{IsFollowed, IsHeld, IsBrokenAt}
use Rattle.lz_replay.specs.Stands.{Breaks}
use Rattle.lz_replay.specs.Taking.{thread_at}
use Rattle.lz_replay.specs.Replaying.{IsReplay, HasStepped}
use Rattle.lz_replay.specs.Deciding.{Decides}
use Rattle.lz_replay.proofs.FollowsLemmas.{Splits, split, front_followed, one_end}
use Rattle.lz_replay.proofs.RepliesLemmas.{held, broken_there, none_followed}

-- ---- steps of `main`

threads_alone : (k : ℕ) → threads_of (replicate k main_step) ≡ replicate k 0
threads_alone zero = refl
threads_alone (suc k) = ap (λ (threads : List ℕ). 0 ∷ threads) (threads_alone k)

-- they take one round
pub one_round : (k : ℕ) → rounds_of (threads_of (replicate k main_step)) ≡ 1
one_round k = ap rounds_of (threads_alone k) ∙ ap (λ (d : ℕ). d + 1) (descents-replicate_zero k)

-- fewer of them are a front of more
record IsFront (less more : ℕ) : Type 0 where
  rest : List Step
  are : replicate more main_step ≡ replicate less main_step ++ rest

is_front : (less more : ℕ) → less ≤ more → IsFront less more
is_front less more le = record {
  rest = replicate (more - less) main_step;
  are = ap (λ (k : ℕ). replicate k main_step) whole ∙ sym (replicate-append-replicate less (more - less) main_step);
}
  where
    whole : more ≡ less + (more - less)
    whole = omega (arith, le)

-- ---- a front of what is not broken

not_broken : (s : State) (kind : BreakKind) (line : ℕ) → going s ≡ broken kind line → ⊥
not_broken s kind line e = cc

not_going : (acted : Acted) (line : ℕ) (rest more : List Event) (later : State) (kind : BreakKind) (at_ : ℕ)
    → ((s : State) → course (rest ++ more) s ≡ going later → course rest s ≡ broken kind at_ → ⊥)
    → course_after acted line (rest ++ more) (course (rest ++ more)) ≡ going later → course_after acted line rest (course rest) ≡ broken kind at_ → ⊥
not_going (went s) line rest more later kind at_ ih on b = ih s on b
not_going blocked line rest more later kind at_ ih on b = cc
not_going (broke other) line [] [] later kind at_ ih on b = cc
not_going (broke other) line [] (e ∷ more) later kind at_ ih on b = cc
not_going (broke other) line (e ∷ rest) more later kind at_ ih on b = cc

-- no front of events that lead on breaks a check
going_front : (front rest : List Event) (s later : State) (kind : BreakKind) (line : ℕ) → course (front ++ rest) s ≡ going later → course front s ≡ broken kind line → ⊥
going_front [] rest s later kind line on b = not_broken s kind line b
going_front (e ∷ front) rest s later kind line on b =
    not_going (act s e.thread e.action) e.line front rest later kind line (λ next h k. going_front front rest next later kind line h k) on b

module _ (p : ScopedProgram) (n : ℕ) where
  -- no front of a run that holds is the schedule of a broken run
  held_front : (xs ys : List Step) → IsHeld p n (xs ++ ys) → (kind : BreakKind) (line : ℕ) → IsBrokenAt p n xs kind line → ⊥
  held_front xs ys h kind line b = by (course h.run (process_of p n).begins) refl
    where
      parts : Splits h.run xs ys
      parts = split h.run xs ys h.follows

      front_is : IsRun (process_of p n) parts.front
      front_is = front_of_run (process_of p n) (program_is_open p n) parts.front parts.rest (subst (λ (run : List Event). IsRun (process_of p n) run) parts.are h.is)

      breaks : course parts.front (process_of p n).begins ≡ broken kind line
      breaks = one_end p n parts.front b.run xs front_is b.broken_.is parts.left b.follows ∙ b.broken_.breaks

      by : (end : Course) → course h.run (process_of p n).begins ≡ end → ⊥
      by (going s) e =
          going_front parts.front parts.rest (process_of p n).begins s kind line (ap (λ (run : List Event). course run (process_of p n).begins) (sym parts.are) ∙ e) breaks
      by stuck e = h.is.goes e
      by (broken k l) e = h.holds k l e

  -- every run takes steps of `main` alone
  pub record MainAlone : Type 0 where
    pub are : (run : List Event) (schedule : List Step) → IsRun (process_of p n) run → Follows run schedule → schedule ≡ replicate (length schedule) main_step

  module _ (alone : MainAlone) (k : ℕ) where
    -- where `main` goes k steps and no step more, no run breaks a check
    none_broken : IsHeld p n (replicate k main_step) → (IsFollowed p n (replicate k main_step ++ main_step ∷ []) → ⊥) → (rounds : ℕ) → IsViolatedWithin p n rounds → ⊥
    none_broken is none rounds v = by (ltb k (length schedule)) refl
      where
        schedule : List Step
        schedule = schedule_of v.run

        same : schedule ≡ replicate (length schedule) main_step
        same = alone.are v.run schedule v.broken_.is refl

        by : (b : Bool) → ltb k (length schedule) ≡ b → ⊥
        by true h =
            let lt : k < length schedule = grind (arith, nat_tests) in
            let front = is_front (k + 1) (length schedule) (omega (arith, lt)) in
            let follows : schedule ≡ (replicate k main_step ++ main_step ∷ []) ++ front.rest =
            same ∙ (front.are ∙ ap (λ (steps : List Step). steps ++ front.rest) (sym (replicate_more k main_step))) in
            none (front_followed p n (replicate k main_step ++ main_step ∷ []) front.rest (record { run = v.run; is = v.broken_.is; follows = follows }))
        by false h =
            let le : length schedule ≤ k = grind (arith, nat_tests) in
            let front = is_front (length schedule) k le in
            held_front (replicate (length schedule) main_step) front.rest (subst (λ (steps : List Step). IsHeld p n steps) front.are is) v.kind v.line
            (record { run = v.run; broken_ = v.broken_; follows = same })

    -- ---- what a step comes to

    -- nothing more goes: no run breaks a check
    pub stops : (s after : State) (threads more : List Held) → IsReplay p n (replicate k main_step) s threads → (stepped : Stepped)
        → HasStepped p n (replicate k main_step ++ main_step ∷ []) stepped after more → stepped ≡ Blocked → Decides p n Holds
    stops s after threads more is stepped h e =
        none_broken (held p n (replicate k main_step) s (λ thread. MayDo p n (thread_at threads thread)) is.stands)
        (none_followed p n (replicate k main_step ++ main_step ∷ [])
        (subst (λ (x : Stepped). HasStepped p n (replicate k main_step ++ main_step ∷ []) x after more) e h))

  -- one step more
  pub goes : (k : ℕ) (s : State) (threads : List Held) (stepped : Stepped)
      → HasStepped p n (replicate k main_step ++ main_step ∷ []) stepped s threads → stepped ≡ Went → IsReplay p n (replicate (k + 1) main_step) s threads
  goes k s threads stepped h e =
      subst (λ (steps : List Step). IsReplay p n steps s threads) (replicate_more k main_step)
      (subst (λ (x : Stepped). HasStepped p n (replicate k main_step ++ main_step ∷ []) x s threads) e h)

  -- a check breaks: a broken run takes the steps up to there, which take one round
  pub breaks : (k : ℕ) (s : State) (threads : List Held) (stepped : Stepped) (kind : BreakKind) (line : ℕ) (schedule : List Step)
      → HasStepped p n (replicate k main_step ++ main_step ∷ []) stepped s threads → stepped ≡ Broke kind line → schedule ≡ replicate (k + 1) main_step
      → Decides p n (Broken schedule kind line)
  breaks k s threads stepped kind line schedule h e are =
      let found : Breaks (bare (process_of p n)) (replicate k main_step ++ main_step ∷ []) kind line =
      subst (λ (x : Stepped). HasStepped p n (replicate k main_step ++ main_step ∷ []) x s threads) e h in (
        subst (λ (steps : List Step). IsBrokenAt p n steps kind line) (replicate_more k main_step ∙ sym are)
            (broken_there p n (replicate k main_step ++ main_step ∷ []) kind line found),
        ap (λ (steps : List Step). rounds_of (threads_of steps)) are ∙ one_round (k + 1),
      )
