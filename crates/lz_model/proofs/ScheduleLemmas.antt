-- The schedule of a run, with Loc and without, and its rounds.
use Rattle.std.proofs.Common.{◌≡◌, ℕ, ◌+◌, ◌≤◌, Bool, true, false, List, [], ◌∷◌, ◌++◌, map, Some, None, refl, sym, ◌∙◌, ap, arith}
use Rattle.lz_base.specs.declared.word.BreakKind.{BreakKind}
use Rattle.lz_base.proofs.DescentsLemmas.{Fits, nothing, stay, next, fits_descents}
use Rattle.lz_model.specs.declared.actions.Action.{Action}
use Rattle.lz_model.specs.declared.actions.Action.TheVariants.{Loc, Input, Check, Assume, Rd, Wr, Reset, Lock, Unlock, Park, Wake, Signal, Broadcast, Create, Join, HoldOn, HoldOff, End}
use Rattle.lz_model.specs.declared.actions.Event.{Event}
use Rattle.lz_model.specs.declared.schedule.Step.{Step}
use Rattle.lz_model.specs.Rounds.{rounds_of, threads_of}
use Rattle.lz_model.specs.Actions.{is_loc, choice_of}
use Rattle.lz_model.specs.Interleavings.{Process}
use Rattle.lz_model.specs.BrokenRuns.{IsBrokenRun, rounds_of_run, steps_of, schedule_of, Follows}
use Rattle.lz_model.specs.WithoutLoc.{left_out, events_without_loc}
use Rattle.lz_model.proofs.RunFrontsLemmas.{IsOpen}
use Rattle.lz_model.proofs.LocLemmas.{bare_breaks, full_breaks}

-- an action but Loc has a choice
pub record HasChoice (action : Action) : Type 0 where
  pub choice : ℕ
  pub is : choice_of action ≡ Some choice

pub has_choice : (a : Action) → is_loc a ≡ false → HasChoice a
has_choice Loc e = absurd cc
has_choice (Input v) e = record { choice = v; is = refl }
has_choice (Check v kind) e = record { choice = 0; is = refl }
has_choice (Assume v) e = record { choice = 0; is = refl }
has_choice (Rd cell v) e = record { choice = 0; is = refl }
has_choice (Wr cell v) e = record { choice = 0; is = refl }
has_choice (Reset m) e = record { choice = 0; is = refl }
has_choice (Lock m) e = record { choice = 0; is = refl }
has_choice (Unlock m) e = record { choice = 0; is = refl }
has_choice (Park c m) e = record { choice = 0; is = refl }
has_choice (Wake c m) e = record { choice = 0; is = refl }
has_choice (Signal c None) e = record { choice = 0; is = refl }
has_choice (Signal c (Some u)) e = record { choice = u + 1; is = refl }
has_choice (Broadcast c) e = record { choice = 0; is = refl }
has_choice (Create d f v) e = record { choice = 0; is = refl }
has_choice (Join d) e = record { choice = 0; is = refl }
has_choice HoldOn e = record { choice = 0; is = refl }
has_choice HoldOff e = record { choice = 0; is = refl }
has_choice (End w) e = record { choice = 0; is = refl }

pub no_choice : (a : Action) → is_loc a ≡ true → choice_of a ≡ None
no_choice Loc e = refl
no_choice (Input v) e = absurd cc
no_choice (Check v kind) e = absurd cc
no_choice (Assume v) e = absurd cc
no_choice (Rd cell v) e = absurd cc
no_choice (Wr cell v) e = absurd cc
no_choice (Reset m) e = absurd cc
no_choice (Lock m) e = absurd cc
no_choice (Unlock m) e = absurd cc
no_choice (Park c m) e = absurd cc
no_choice (Wake c m) e = absurd cc
no_choice (Signal c w) e = absurd cc
no_choice (Broadcast c) e = absurd cc
no_choice (Create d f v) e = absurd cc
no_choice (Join d) e = absurd cc
no_choice HoldOn e = absurd cc
no_choice HoldOff e = absurd cc
no_choice (End w) e = absurd cc

schedule_step : (e : Event) (run : List Event) (b : Bool) → is_loc e.action ≡ b → schedule_of run ≡ schedule_of (events_without_loc run)
    → steps_of e ++ schedule_of run ≡ schedule_of (left_out b e (events_without_loc run))
schedule_step e run true h ih = rw (no_choice e.action h) ih
schedule_step e run false h ih = ap (λ (steps : List Step). steps_of e ++ steps) ih

-- a run and the same without Loc have one schedule
pub schedule_without_loc : (run : List Event) → schedule_of run ≡ schedule_of (events_without_loc run)
schedule_without_loc [] = refl
schedule_without_loc (e ∷ run) = schedule_step e run (is_loc e.action) refl (schedule_without_loc run)

threads_step : (e : Event) (run rest : List Event) (b : Bool) → is_loc e.action ≡ b → threads_of (schedule_of run) ≡ map (λ (event : Event). event.thread) rest
    → threads_of (steps_of e ++ schedule_of run) ≡ map (λ (event : Event). event.thread) (left_out b e rest)
threads_step e run rest true h ih = rw (no_choice e.action h) ih
threads_step e run rest false h ih = let c = has_choice e.action h in rw c.is (ap (λ (ts : List ℕ). e.thread ∷ ts) ih)

-- the threads of a run's schedule are those of its events but Loc
pub threads_of_schedule : (run : List Event) → threads_of (schedule_of run) ≡ map (λ (event : Event). event.thread) (events_without_loc run)
threads_of_schedule [] = refl
threads_of_schedule (e ∷ run) = threads_step e run (events_without_loc run) (is_loc e.action) refl (threads_of_schedule run)

-- the rounds of a run's schedule are those of its events but Loc
pub rounds_of_schedule : (run : List Event) → rounds_of (threads_of (schedule_of run)) ≡ rounds_of_run (events_without_loc run)
rounds_of_schedule run = ap rounds_of (threads_of_schedule run)

fits_step : (e : Event) (run : List Event) (b : Bool) → Fits (map (λ (event : Event). event.thread) (events_without_loc run)) (map (λ (event : Event). event.thread) run)
    → Fits (map (λ (event : Event). event.thread) (left_out b e (events_without_loc run))) (e.thread ∷ map (λ (event : Event). event.thread) run)
fits_step e run true f = next f
fits_step e run false f = stay (next f)

fits_without_loc : (run : List Event) → Fits (map (λ (event : Event). event.thread) (events_without_loc run)) (map (λ (event : Event). event.thread) run)
fits_without_loc [] = nothing
fits_without_loc (e ∷ run) = fits_step e run (is_loc e.action) (fits_without_loc run)

-- a run's schedule has no more rounds than the run
pub schedule_rounds : (run : List Event) → rounds_of (threads_of (schedule_of run)) ≤ rounds_of_run run
schedule_rounds run = let d = fits_descents (fits_without_loc run) in let e = rounds_of_schedule run in omega (arith, d, e)

-- a broken run that follows the schedule, in as many rounds as it has
pub record BreaksInItsRounds (process : Process) (schedule : List Step) (kind : BreakKind) (line : ℕ) : Type 0 where
  pub run : List Event
  pub broken_ : IsBrokenRun process run kind line
  pub follows : Follows run schedule
  pub rounds : rounds_of_run run ≡ rounds_of (threads_of schedule)

-- a schedule that a broken run follows is followed by one with the schedule's number of rounds
pub breaks_in_its_rounds : (process : Process) → IsOpen process → (run : List Event) (schedule : List Step) (kind : BreakKind) (line : ℕ)
    → IsBrokenRun process run kind line → Follows run schedule → BreaksInItsRounds process schedule kind line
breaks_in_its_rounds process p run schedule kind line is follows =
    let full = full_breaks process p (events_without_loc run) kind line (bare_breaks process run kind line is) in
    let same : schedule_of full.full ≡ schedule = schedule_without_loc full.full ∙ ap schedule_of full.seen ∙ sym (schedule_without_loc run) ∙ follows in
    let few = full.few in
    let least = schedule_rounds full.full in
    let fewer = rounds_of_schedule run in
    let told = ap (λ (steps : List Step). rounds_of (threads_of steps)) same in
    let wanted = ap (λ (steps : List Step). rounds_of (threads_of steps)) follows in
    record { run = full.full; broken_ = full.broken_; follows = same; rounds = omega (arith, few, least, fewer, told, wanted) }
