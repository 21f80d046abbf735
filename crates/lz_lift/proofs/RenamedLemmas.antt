-- Runs of two processes of which the one calls by other numbers what its creates start.
use Rattle.std.proofs.Common.{◌≡◌, ◌≢◌, ℕ, zero, suc, ◌<◌, ◌≤◌, Bool, true, false, List, [], ◌∷◌, ◌++◌, map, Option, Some, None, option_map, length, refl, sym, ap, ap₂, ◌∙◌, subst, arith, cond, eqb, le_trans}
use Rattle.std.specs.Prelude.{⊤}
use Rattle.lz_base.specs.declared.word.BreakKind.{BreakKind}
use Rattle.lz_model.specs.declared.actions.Action.{Action}
use Rattle.lz_model.specs.declared.actions.Action.TheVariants.{Loc, Input, Check, Assume, Rd, Wr, Reset, Lock, Unlock, Park, Wake, Signal, Broadcast, Create, Join, HoldOn, HoldOff, End}
use Rattle.lz_model.specs.declared.actions.Event.{Event}
use Rattle.lz_model.specs.Store.{State, Acted, went, blocked, broke, act}
use Rattle.lz_model.specs.Actions.{Act, act_of, event_of, Start, started_by}
use Rattle.lz_model.specs.Interleavings.{Process, Course, going, stuck, broken, course, course_after, part, start_or, start_of, MayDo, MayDoIn, IsRun}
use Rattle.lz_model.specs.WithoutLoc.{IsSeen, bare, events_without_loc}
use Rattle.lz_bound.specs.SlottedPrograms.{with_start}
use Rattle.lz_lift.specs.Renaming.{renamed_act, renamed_event, Starts, AllStart, Does}
use Rattle.lz_lift.proofs.OnlyStartsLemmas.{IsStarting, EachStarts, only_starts, start_in}

-- a start by another number
abbrev pub renamed_start : (ℕ → ℕ) → Start → Start
renamed_start g s = record { thread = s.thread; routine = g s.routine; argument = s.argument }

-- what starts nothing starts only such
pub weaker : (Is : ℕ → Type 0) (acts : List Act) → AllStart (λ start. ⊥) acts → AllStart Is acts
weaker Is [] h = tt
weaker Is (a ∷ acts) h = (any a.action h.0, weaker Is acts h.1)
  where
    any : (x : Action) → Starts (λ start. ⊥) x → Starts Is x
    any Loc h = tt
    any (Input v) h = tt
    any (Check v kind) h = tt
    any (Assume v) h = tt
    any (Rd cell v) h = tt
    any (Wr cell v) h = tt
    any (Reset m) h = tt
    any (Lock m) h = tt
    any (Unlock m) h = tt
    any (Park c m) h = tt
    any (Wake c m) h = tt
    any (Signal c woken) h = tt
    any (Broadcast c) h = tt
    any (Create thread start v) h = absurd h
    any (Join thread) h = tt
    any HoldOn h = tt
    any HoldOff h = tt
    any (End w) h = tt

module _ (g : ℕ → ℕ) where
  pub same_act : (s : State) (t : ℕ) (a : Action) → act s t (with_start g a) ≡ act s t a
  same_act s t Loc = refl
  same_act s t (Input v) = refl
  same_act s t (Check v kind) = refl
  same_act s t (Assume v) = refl
  same_act s t (Rd cell v) = refl
  same_act s t (Wr cell v) = refl
  same_act s t (Reset m) = refl
  same_act s t (Lock m) = refl
  same_act s t (Unlock m) = refl
  same_act s t (Park c m) = refl
  same_act s t (Wake c m) = refl
  same_act s t (Signal c woken) = refl
  same_act s t (Broadcast c) = refl
  same_act s t (Create thread start v) = refl
  same_act s t (Join thread) = refl
  same_act s t HoldOn = refl
  same_act s t HoldOff = refl
  same_act s t (End w) = refl

  pub same_started : (a : Action) → started_by (with_start g a) ≡ option_map (renamed_start g) (started_by a)
  same_started Loc = refl
  same_started (Input v) = refl
  same_started (Check v kind) = refl
  same_started (Assume v) = refl
  same_started (Rd cell v) = refl
  same_started (Wr cell v) = refl
  same_started (Reset m) = refl
  same_started (Lock m) = refl
  same_started (Unlock m) = refl
  same_started (Park c m) = refl
  same_started (Wake c m) = refl
  same_started (Signal c woken) = refl
  same_started (Broadcast c) = refl
  same_started (Create thread start v) = refl
  same_started (Join thread) = refl
  same_started HoldOn = refl
  same_started HoldOff = refl
  same_started (End w) = refl

  course_by : (acted : Acted) (line : ℕ) (rest : List Event) → ((s : State) → course (map (renamed_event g) rest) s ≡ course rest s) →
      course_after acted line (map (renamed_event g) rest) (course (map (renamed_event g) rest)) ≡ course_after acted line rest (course rest)
  course_by (went s) line rest ih = ih s
  course_by blocked line rest ih = refl
  course_by (broke kind) line [] ih = refl
  course_by (broke kind) line (e ∷ rest) ih = refl

  pub same_course : (run : List Event) (s : State) → course (map (renamed_event g) run) s ≡ course run s
  same_course [] s = refl
  same_course (e ∷ rest) s =
      ap (λ (acted : Acted). course_after acted e.line (map (renamed_event g) rest) (course (map (renamed_event g) rest))) (same_act s e.thread e.action)
      ∙ course_by (act s e.thread e.action) e.line rest (λ s. same_course rest s)

  part_by : (c : Bool) (e : Event) (xs : List Act) (ys : List Act) → xs ≡ map (renamed_act g) ys → cond c (act_of (renamed_event g e) ∷ xs) xs ≡ map (renamed_act g) (cond c (act_of e ∷ ys) ys)
  part_by true e xs ys h = ap (λ (acts : List Act). act_of (renamed_event g e) ∷ acts) h
  part_by false e xs ys h = h

  pub same_part : (t : ℕ) (run : List Event) → part t (map (renamed_event g) run) ≡ map (renamed_act g) (part t run)
  same_part t [] = refl
  same_part t (e ∷ rest) = part_by (eqb e.thread t) e (part t (map (renamed_event g) rest)) (part t rest) (same_part t rest)

  start_by : (t : ℕ) (o later later' : Option Start) → later' ≡ option_map (renamed_start g) later → start_or t (option_map (renamed_start g) o) later' ≡ option_map (renamed_start g) (start_or t o later)
  start_by t None later later' h = h
  start_by t (Some s) later later' h = by (eqb s.thread t)
    where
      by : (c : Bool) → cond c (Some (renamed_start g s)) later' ≡ option_map (renamed_start g) (cond c (Some s) later)
      by true = refl
      by false = h

  pub same_start : (t : ℕ) (run : List Event) → start_of t (map (renamed_event g) run) ≡ option_map (renamed_start g) (start_of t run)
  same_start t [] = refl
  same_start t (e ∷ rest) =
      ap (λ (o : Option Start). start_or t o (start_of t (map (renamed_event g) rest))) (same_started e.action)
      ∙ start_by t (started_by e.action) (start_of t rest) (start_of t (map (renamed_event g) rest)) (same_start t rest)

  -- what starts nothing keeps its name
  pub same_action : (a : Action) → Starts (λ start. ⊥) a → with_start g a ≡ a
  same_action Loc h = refl
  same_action (Input v) h = refl
  same_action (Check v kind) h = refl
  same_action (Assume v) h = refl
  same_action (Rd cell v) h = refl
  same_action (Wr cell v) h = refl
  same_action (Reset m) h = refl
  same_action (Lock m) h = refl
  same_action (Unlock m) h = refl
  same_action (Park c m) h = refl
  same_action (Wake c m) h = refl
  same_action (Signal c woken) h = refl
  same_action (Broadcast c) h = refl
  same_action (Create thread start v) h = absurd h
  same_action (Join thread) h = refl
  same_action HoldOn h = refl
  same_action HoldOff h = refl
  same_action (End w) h = refl

  pub same_acts : (acts : List Act) → AllStart (λ start. ⊥) acts → map (renamed_act g) acts ≡ acts
  same_acts [] h = refl
  same_acts (a ∷ acts) h = ap₂ (λ (x : Action) (xs : List Act). record { action = x; line = a.line } ∷ xs) (same_action a.action h.0) (same_acts acts h.1)

  module _ (Is : ℕ → Type 0) (P Q : Process) (d : Does g Is P Q) (one : length Q.begins.threads ≡ 1) where
    starting : IsStarting Is (bare Q)
    starting = record { one = one; main = d.starts; started = λ routine argument acts is h. weaker Is acts (d.none routine argument acts is h) }

    may_do : (o : Option Start) (acts : List Act) → ((start : Start) → o ≡ Some start → Is start.routine) → MayDo (bare Q) o acts → MayDo (bare P) (option_map (renamed_start g) o) (map (renamed_act g) acts)
    may_do None acts is h = ap (map (renamed_act g)) h
    may_do (Some start) acts is h =
        let k = is start refl in
        subst (λ (xs : List Act). IsSeen (P.started (g start.routine) start.argument) xs) (sym (same_acts acts (d.none start.routine start.argument acts k h))) (d.started start.routine start.argument acts k h)

    -- a run of the second, renamed, is one of the first
    pub renamed_run : (run : List Event) → IsRun (bare Q) run → IsRun (bare P) (map (renamed_event g) run)
    renamed_run run is = record { parts = parts; goes = λ h. is.goes (sym (same_course run Q.begins) ∙ ap (course (map (renamed_event g) run)) (sym d.begins) ∙ h) }
      where
        all : EachStarts Is run
        all = only_starts Is (bare Q) starting run is

        parts : (thread : ℕ) → MayDoIn (bare P) (map (renamed_event g) run) thread (part thread (map (renamed_event g) run))
        parts zero = subst (λ (xs : List Act). IsSeen P.main xs) (sym (same_part 0 run)) (d.main (part 0 run) (is.parts 0))
        parts (suc thread) =
            subst (λ (xs : List Act). MayDo (bare P) (start_of (suc thread) (map (renamed_event g) run)) xs) (sym (same_part (suc thread) run))
            (subst (λ (o : Option Start). MayDo (bare P) o (map (renamed_act g) (part (suc thread) run))) (sym (same_start (suc thread) run))
            (may_do (start_of (suc thread) run) (part (suc thread) run) (λ start e. start_in Is (suc thread) run start all e) (is.parts (suc thread))))
