-- One step of a replay: the only run of the steps so far goes on by one event, breaks there, or no run has the step.
use Rattle.std.proofs.Common.{◌≡◌, ◌≢◌, ℕ, zero, suc, ◌+◌, ◌<◌, ◌≤◌, inl, inr, Bool, true, false, ◌&&◌, ◌||◌, eqb, ltb, cond, List, [], ◌∷◌, ◌++◌, length, Option, Some, None, refl, sym, ◌∙◌, ap, subst, append_assoc, arith}
use Rattle.std.proofs.lemmas.List.{append-nil, length-append}
use Rattle.std.proofs.lemmas.Bool.{cases_eq, eqb-true, eqb-false}
use Rattle.std.proofs.lemmas.Bool.Decides.{nat_tests}
use Rattle.lz_base.specs.declared.word.BreakKind.{BreakKind}
use Rattle.lz_model.specs.declared.actions.Action.{Action}
use Rattle.lz_model.specs.declared.actions.Action.TheVariants.{Loc, Input, Check, Assume, Rd, Wr, Reset, Lock, Unlock, Park, Wake, Signal, Broadcast, Create, Join, HoldOn, HoldOff, End}
use Rattle.lz_model.specs.declared.actions.Event.{Event}
use Rattle.lz_model.specs.declared.schedule.Step.{Step}
use Rattle.lz_model.specs.Actions.{Act, act_of, event_of, is_loc, choice_of, Start, started_by}
use Rattle.lz_model.specs.Store.{State, Acted, went, blocked, broke, fresh, is_halted, held_by_another, goes_where, act}
use Rattle.lz_model.specs.Interleavings.{Process, going, stuck, broken, course_after, course, part, start_or, start_of, MayDo, MayDoIn, IsRun}
use Rattle.lz_model.specs.BrokenRuns.{step_with, steps_of, schedule_of}
use Rattle.lz_model.specs.WithoutLoc.{left_out, events_without_loc}
use Rattle.lz_model.proofs.RunFrontsLemmas.{goes_is, course-append_going, part-append, start_of-append, Grows, as_many, one_more, grows, unmade, IsOpen, front_of_run}
use Rattle.lz_model.proofs.OneRunLemmas.{made_is, made_started, is_made_here, part_first, goes_here}
use Rattle.lz_model.proofs.ScheduleLemmas.{has_choice, no_choice}
use Rattle.lz_replay.specs.Stands.{NoLoc, Same, MayFollow, IsOnly, NoRun, Stands, Breaks, IsNext, Moves}
use Rattle.lz_replay.proofs.FollowsLemmas.{Splits, split}

-- ---- events without Loc

no_loc_step : (e : Event) (rest : List Event) (b : Bool) → is_loc e.action ≡ b → NoLoc rest → NoLoc (left_out b e rest)
no_loc_step e rest true h all = all
no_loc_step e rest false h all = (h, all)

pub no_loc : (run : List Event) → NoLoc (events_without_loc run)
no_loc [] = tt
no_loc (e ∷ run) = no_loc_step e (events_without_loc run) (is_loc e.action) refl (no_loc run)

no_loc_front : (xs ys : List Event) → NoLoc (xs ++ ys) → NoLoc xs
no_loc_front [] ys all = tt
no_loc_front (e ∷ xs) ys all = (all.0, no_loc_front xs ys all.1)

no_loc_back : (xs ys : List Event) → NoLoc (xs ++ ys) → NoLoc ys
no_loc_back [] ys all = all
no_loc_back (e ∷ xs) ys all = no_loc_back xs ys all.1

no_loc_more : (xs : List Event) (e : Event) → NoLoc xs → is_loc e.action ≡ false → NoLoc (xs ++ e ∷ [])
no_loc_more [] e all h = (h, tt)
no_loc_more (x ∷ xs) e all h = (all.0, no_loc_more xs e all.1 h)

-- an action that has a choice is not Loc
chosen_seen : (a : Act) (c : ℕ) → choice_of a.action ≡ Some c → (b : Bool) → is_loc a.action ≡ b → is_loc a.action ≡ false
chosen_seen a c e false h = h
chosen_seen a c e true h = absurd (let z : Some c ≡ None = sym e ∙ no_choice a.action h in cc)

-- ---- schedules

pub schedule-append : (xs ys : List Event) → schedule_of (xs ++ ys) ≡ schedule_of xs ++ schedule_of ys
schedule-append [] ys = refl
schedule-append (e ∷ xs) ys = ap (λ (steps : List Step). steps_of e ++ steps) (schedule-append xs ys) ∙ sym (append_assoc (steps_of e) (schedule_of xs) (schedule_of ys))

-- one step, of one event that is not Loc
one_event : (run : List Event) (step : Step) → NoLoc run → schedule_of run ≡ step ∷ [] → (act : Act) × (run ≡ event_of step.thread act ∷ []) × (choice_of act.action ≡ Some step.choice)
one_event [] step all is = absurd cc
one_event (e ∷ run) step all is = by (has_choice e.action all.0).choice (has_choice e.action all.0).is
  where
    by : (choice : ℕ) → choice_of e.action ≡ Some choice → (act : Act) × (e ∷ run ≡ event_of step.thread act ∷ []) × (choice_of act.action ≡ Some step.choice)
    by choice c =
        let joined : record { thread = e.thread; choice = choice } ∷ schedule_of run ≡ step ∷ [] = ap (λ (o : Option ℕ). step_with e.thread o ++ schedule_of run) (sym c) ∙ is in
        let parts = first_and_rest (record { thread = e.thread; choice = choice }) step (schedule_of run) [] joined in (
          act_of e,
          ap (λ (t : ℕ). event_of t (act_of e) ∷ run) (ap (λ (x : Step). x.thread) parts.0) ∙ ap (λ (es : List Event). event_of step.thread (act_of e) ∷ es) (no_event run all.1 parts.1),
          c ∙ ap (λ (x : Step). Some x.choice) parts.0,
        )
      where
        first_and_rest : (a b : Step) (xs ys : List Step) → a ∷ xs ≡ b ∷ ys → (a ≡ b) × (xs ≡ ys)
        first_and_rest a b xs ys e = (cc, cc)

        no_event : (rest : List Event) → NoLoc rest → schedule_of rest ≡ [] → rest ≡ []
        no_event [] all h = refl
        no_event (f ∷ rest) all h =
            let one = has_choice f.action all.0 in
            let z : record { thread = f.thread; choice = one.choice } ∷ schedule_of rest ≡ [] = ap (λ (o : Option ℕ). step_with f.thread o ++ schedule_of rest) (sym one.is) ∙ h in
            absurd cc

steps_of_act : (t choice : ℕ) (a : Act) → choice_of a.action ≡ Some choice → schedule_of (event_of t a ∷ []) ≡ record { thread = t; choice = choice } ∷ []
steps_of_act t choice a c = ap (λ (o : Option ℕ). step_with t o ++ []) c

-- ---- starts

start_or_none : (t : ℕ) (first later : Option Start) → later ≡ None → ((start : Start) → first ≡ Some start → start.thread ≢ t) → start_or t first later ≡ None
start_or_none t None later e other = e
start_or_none t (Some start) later e other = by (eqb start.thread t) refl
  where
    by : (c : Bool) → eqb start.thread t ≡ c → cond c (Some start) later ≡ None
    by true h = absurd (other start refl (eqb-true start.thread t h))
    by false h = e

-- only a creation starts a thread
is_create : (a : Action) (start : Start) → started_by a ≡ Some start → a ≡ Create start.thread start.routine start.argument
is_create Loc start e = absurd cc
is_create (Input v) start e = absurd cc
is_create (Check v kind) start e = absurd cc
is_create (Assume v) start e = absurd cc
is_create (Rd cell v) start e = absurd cc
is_create (Wr cell v) start e = absurd cc
is_create (Reset m) start e = absurd cc
is_create (Lock m) start e = absurd cc
is_create (Unlock m) start e = absurd cc
is_create (Park c m) start e = absurd cc
is_create (Wake c m) start e = absurd cc
is_create (Signal c w) start e = absurd cc
is_create (Broadcast c) start e = absurd cc
is_create (Create d f v) start e =
    let same : record { thread = d; routine = f; argument = v } ≡ start = cc in
    ap (λ (x : Start). Create x.thread x.routine x.argument) same
is_create (Join d) start e = absurd cc
is_create HoldOn start e = absurd cc
is_create HoldOff start e = absurd cc
is_create (End w) start e = absurd cc

create_goes : (c b : Bool) (s1 s2 : State) → cond c blocked (goes_where b s1) ≡ went s2 → s1 ≡ s2
create_goes true b s1 s2 e = absurd cc
create_goes false b s1 s2 e = (goes_is b s1 s2 e).1

-- a creation that goes makes the next thread
pub creates_next : (s : State) (t : ℕ) (a : Action) (s1 : State) (start : Start) → started_by a ≡ Some start → act s t a ≡ went s1 → (start.thread ≡ length s.threads) × (length s1.threads ≡ length s.threads + 1)
creates_next s t a s1 start is goes =
    let create : act s t (Create start.thread start.routine start.argument) ≡ went s1 = ap (λ (x : Action). act s t x) (sym (is_create a start is)) ∙ goes in
    let not_blocked : act s t (Create start.thread start.routine start.argument) ≢ blocked = λ w. let z : blocked ≡ went s1 = sym w ∙ create in cc in
    let behind = create_goes (is_halted s t || (true && held_by_another s.holder t)) (eqb start.thread (length s.threads)) (record s { threads = s.threads ++ fresh ∷ [] }) s1 create in
    (made_is s t start.thread start.routine start.argument not_blocked, sym (ap (λ (x : State). length x.threads) behind) ∙ length-append s.threads (fresh ∷ []))

same_start : (one other : Start) → Some one ≡ Some other → one ≡ other
same_start one other e = cc

-- no other action makes one
pub as_many_threads : (s : State) (t : ℕ) (a : Action) (s1 : State) → started_by a ≡ None → act s t a ≡ went s1 → length s1.threads ≡ length s.threads
as_many_threads s t a s1 none goes = by (grows s t a s1 goes)
  where
    by : Grows s a s1 → length s1.threads ≡ length s.threads
    by (as_many same) = same
    by (one_more start is thread more) = absurd (let z : Some start ≡ None = sym is ∙ none in cc)

unmade_event : (e : Event) (rest : List Event) (s s1 later : State) (t : ℕ) (o : Option Start) → started_by e.action ≡ o → act s e.thread e.action ≡ went s1 → length later.threads ≤ t
    → (start_of t rest ≡ None) → (length s1.threads ≤ length later.threads) → (start_or t o (start_of t rest) ≡ None) × (length s.threads ≤ length later.threads)
unmade_event e rest s s1 later t None is a few none le = let same = as_many_threads s e.thread e.action s1 is a in (none, omega (arith, le, same))
unmade_event e rest s s1 later t (Some start) is a few none le =
    let next = creates_next s e.thread e.action s1 start is a in
    let number = next.0 in
    let more = next.1 in
    (start_or_none t (Some start) (start_of t rest) none (λ other k there. let at = ap (λ (x : Start). x.thread) (same_start start other k) in let no : ⊥ = omega (arith, le, few, number, more, at, there) in no), omega (arith, le, more))

unmade_after : (e : Event) (rest : List Event) (s later : State) (t : ℕ) (acted : Acted) → act s e.thread e.action ≡ acted → length later.threads ≤ t
    → ((s1 : State) → course rest s1 ≡ going later → (start_of t rest ≡ None) × (length s1.threads ≤ length later.threads))
    → course_after acted e.line rest (course rest) ≡ going later → (start_of t (e ∷ rest) ≡ None) × (length s.threads ≤ length later.threads)
unmade_after e rest s later t (went s1) a few ih on = let found = ih s1 on in unmade_event e rest s s1 later t (started_by e.action) refl a few found.0 found.1
unmade_after e rest s later t blocked a few ih on = absurd cc
unmade_after e [] s later t (broke kind) a few ih on = absurd cc
unmade_after e (f ∷ rest) s later t (broke kind) a few ih on = absurd cc

-- a thread that is not made where events lead was not started, and no thread is unmade
unmade_start : (events : List Event) (s later : State) (t : ℕ) → length later.threads ≤ t → course events s ≡ going later → (start_of t events ≡ None) × (length s.threads ≤ length later.threads)
unmade_start [] s later t few on = let same : s ≡ later = cc in let n = ap (λ (x : State). length x.threads) same in (refl, omega (arith, n))
unmade_start (e ∷ rest) s later t few on = unmade_after e rest s later t (act s e.thread e.action) refl few (λ s1 h. unmade_start rest s1 later t few h) on

start_or_append : (t : ℕ) (first rest all later : Option Start) → start_or t first rest ≡ None → (rest ≡ None → all ≡ later) → start_or t first all ≡ later
start_or_append t None rest all later e ih = ih e
start_or_append t (Some start) rest all later e ih = by (eqb start.thread t) e
  where
    by : (c : Bool) → cond c (Some start) rest ≡ None → cond c (Some start) all ≡ later
    by true e = absurd cc
    by false e = ih e

-- what no front starts the rest may start
start_of-append_none : (t : ℕ) (xs ys : List Event) → start_of t xs ≡ None → start_of t (xs ++ ys) ≡ start_of t ys
start_of-append_none t [] ys e = refl
start_of-append_none t (x ∷ xs) ys e =
    start_or_append t (started_by x.action) (start_of t xs) (start_of t (xs ++ ys)) (start_of t ys) e (λ h. start_of-append_none t xs ys h)

-- ---- what threads may do behind more events

part_other : (t u : ℕ) (a : Act) → t ≢ u → part u (event_of t a ∷ []) ≡ []
part_other t u a other = by (eqb t u) refl
  where
    by : (c : Bool) → eqb t u ≡ c → cond c (a ∷ []) [] ≡ []
    by true h = absurd (other (eqb-true t u h))
    by false h = refl

-- nothing may always be done
pub record IsIdle (process : Process) : Type 0 where
  pub main : process.main []
  pub started : (routine argument : ℕ) → process.started routine argument []

module _ (process : Process) (open_ : IsOpen process) (idle : IsIdle process) where
  -- of a thread that is made, more events do not change what it may do
  made_may : (zs more : List Event) (s : State) → course zs process.begins ≡ going s → (t : ℕ) → t < length s.threads → (acts : List Act)
      → MayDoIn process (zs ++ more) t acts → MayDoIn process zs t acts
  made_may zs more s on zero made acts h = h
  made_may zs more s on (suc t) made acts h =
      let few = open_.one in
      let from = made_started zs process.begins s (suc t) (omega (arith, few)) made on in
      subst (λ (o : Option Start). MayDo process o acts) (start_of-append (suc t) zs more from.start from.is ∙ sym from.is) h

  may_made : (zs more : List Event) (s : State) → course zs process.begins ≡ going s → (t : ℕ) → t < length s.threads → (acts : List Act)
      → MayDoIn process zs t acts → MayDoIn process (zs ++ more) t acts
  may_made zs more s on zero made acts h = h
  may_made zs more s on (suc t) made acts h =
      let few = open_.one in
      let from = made_started zs process.begins s (suc t) (omega (arith, few)) made on in
      subst (λ (o : Option Start). MayDo process o acts) (sym (start_of-append (suc t) zs more from.start from.is ∙ sym from.is)) h

  nothing_done : (o : Option Start) → MayDo process o []
  nothing_done None = refl
  nothing_done (Some start) = idle.started start.routine start.argument

  nothing_in : (run : List Event) (t : ℕ) → MayDoIn process run t []
  nothing_in run zero = idle.main
  nothing_in run (suc t) = nothing_done (start_of (suc t) run)

  goes_on : (zs more : List Event) (s : State) → course zs process.begins ≡ going s → course (zs ++ more) process.begins ≡ course more s
  goes_on zs more s on = course-append_going zs more process.begins s on

  going_not_stuck : (zs : List Event) (s : State) → course zs process.begins ≡ going s → course zs process.begins ≢ stuck
  going_not_stuck zs s on h = let z : going s ≡ stuck = sym on ∙ h in cc

  -- a thread that is not made did nothing
  unmade_part : (zs : List Event) (s : State) → course zs process.begins ≡ going s → (t : ℕ) → length s.threads ≤ t → part t zs ≡ []
  unmade_part zs s on t few =
      let found = unmade_start zs process.begins s t few on in
      let le = found.1 in
      unmade zs process.begins t (omega (arith, few, le)) found.0 (going_not_stuck zs s on)

  -- ---- one step

  module _ (steps : List Step) (s : State) (may : ℕ → List Act → Type 0) (st : Stands process steps s may) (step : Step) where
    -- the last event of a run that has this step too
    record Last (run : List Event) : Type 0 where
      act_ : Act
      are : run ≡ st.events ++ event_of step.thread act_ ∷ []
      made : step.thread < length s.threads
      does : may step.thread (act_ ∷ [])
      chosen : choice_of act_.action ≡ Some step.choice
      goes : act s step.thread act_.action ≢ blocked

    last : (run : List Event) → NoLoc run → IsRun process run → schedule_of run ≡ steps ++ step ∷ [] → Last run
    last run all is follows = record { act_ = a; are = are; made = made; does = does; chosen = one.2; goes = goes }
      where
        parts : Splits run steps (step ∷ [])
        parts = split run steps (step ∷ []) follows

        front_is : IsRun process parts.front
        front_is = front_of_run process open_ parts.front parts.rest (subst (λ (es : List Event). IsRun process es) parts.are is)

        both : NoLoc (parts.front ++ parts.rest)
        both = subst (λ (es : List Event). NoLoc es) parts.are all

        same : parts.front ≡ st.events
        same = st.only.only parts.front (no_loc_front parts.front parts.rest both) front_is parts.left

        one : (act : Act) × (parts.rest ≡ event_of step.thread act ∷ []) × (choice_of act.action ≡ Some step.choice)
        one = one_event parts.rest step (no_loc_back parts.front parts.rest both) parts.right

        a : Act
        a = one.0

        are : run ≡ st.events ++ event_of step.thread a ∷ []
        are = parts.are ∙ (ap (λ (es : List Event). es ++ parts.rest) same ∙ ap (λ (es : List Event). st.events ++ es) one.1)

        is_here : IsRun process (st.events ++ event_of step.thread a ∷ [])
        is_here = subst (λ (es : List Event). IsRun process es) are is

        goes : act s step.thread a.action ≢ blocked
        goes = goes_here (event_of step.thread a) [] s (λ h. is_here.goes (goes_on st.events (event_of step.thread a ∷ []) s st.leads ∙ h))

        made : step.thread < length s.threads
        made = is_made_here s step.thread a.action goes

        all_acts : part step.thread (st.events ++ event_of step.thread a ∷ []) ≡ part step.thread st.events ++ a ∷ []
        all_acts =
            part-append step.thread st.events (event_of step.thread a ∷ [])
            ∙ ap (λ (acts : List Act). part step.thread st.events ++ acts) (part_first step.thread (event_of step.thread a) [] refl)

        does : may step.thread (a ∷ [])
        does =
            (st.rests step.thread made).there (a ∷ [])
            (subst (λ (acts : List Act). MayDoIn process st.events step.thread acts) all_acts
            (made_may st.events (event_of step.thread a ∷ []) s st.leads step.thread made (part step.thread (st.events ++ event_of step.thread a ∷ [])) (is_here.parts step.thread)))

    -- nothing that the thread may do has this choice and is not blocked
    pub no_step : ((a : Act) → step.thread < length s.threads → may step.thread (a ∷ []) → choice_of a.action ≡ Some step.choice → act s step.thread a.action ≢ blocked → ⊥)
        → NoRun process (steps ++ step ∷ [])
    no_step none = record { none = λ run all is follows. let l = last run all is follows in none l.act_ l.made l.does l.chosen l.goes }

    module _ (next : Act) (is_next : IsNext s step (may step.thread) next) where
      pub is_blocked : act s step.thread next.action ≡ blocked → NoRun process (steps ++ step ∷ [])
      is_blocked held = no_step (λ a made does chosen goes. goes (ap (λ (x : Act). act s step.thread x.action) (is_next.only a does chosen goes) ∙ held))

      more : List Event
      more = st.events ++ event_of step.thread next ∷ []

      own_part : part step.thread more ≡ part step.thread st.events ++ next ∷ []
      unfolding more
      own_part =
          part-append step.thread st.events (event_of step.thread next ∷ [])
          ∙ ap (λ (acts : List Act). part step.thread st.events ++ acts) (part_first step.thread (event_of step.thread next) [] refl)

      other_part : (u : ℕ) → u ≢ step.thread → part u more ≡ part u st.events
      unfolding more
      other_part u other =
          part-append u st.events (event_of step.thread next ∷ [])
          ∙ (ap (λ (acts : List Act). part u st.events ++ acts) (part_other step.thread u next (λ e. other (sym e))) ∙ append-nil (part u st.events))

      more_parts : (u : ℕ) → MayDoIn process more u (part u more)
      unfolding more
      more_parts u = elim (cases_eq u step.thread) [
        | inl e ↦ subst (λ (t : ℕ). MayDoIn process more t (part t more)) (sym e) own
        | inr other ↦ by_made u other (ltb u (length s.threads)) refl
      ]
        where
          own : MayDoIn process more step.thread (part step.thread more)
          own = subst (λ (acts : List Act). MayDoIn process more step.thread acts) (sym own_part)
              (may_made st.events (event_of step.thread next ∷ []) s st.leads step.thread is_next.made (part step.thread st.events ++ next ∷ []) ((st.rests step.thread is_next.made).back (next ∷ []) is_next.does))

          by_made : (u : ℕ) → u ≢ step.thread → (c : Bool) → ltb u (length s.threads) ≡ c → MayDoIn process more u (part u more)
          by_made u other true h =
              let made : u < length s.threads = grind (arith, nat_tests) in
              subst (λ (acts : List Act). MayDoIn process more u acts) (sym (other_part u other))
              (may_made st.events (event_of step.thread next ∷ []) s st.leads u made (part u st.events) (st.only.is.parts u))
          by_made u other false h =
              let few : length s.threads ≤ u = grind (arith, nat_tests) in
              subst (λ (acts : List Act). MayDoIn process more u acts) (sym (other_part u other ∙ unmade_part st.events s st.leads u few)) (nothing_in more u)

      more_leads : course more process.begins ≡ course_after (act s step.thread next.action) next.line [] (course [])
      unfolding more
      more_leads = goes_on st.events (event_of step.thread next ∷ []) s st.leads

      -- the events with this one behind them are the only run of the steps and this one
      more_only : (acted : Acted) → act s step.thread next.action ≡ acted → acted ≢ blocked → IsOnly process (steps ++ step ∷ []) more
      unfolding more
      more_only acted is goes = record {
        is = record { parts = more_parts; goes = λ h. not_stuck acted goes (ap (λ (r : Acted). course_after r next.line [] (course [])) (sym is) ∙ (sym more_leads ∙ h)) };
        seen = no_loc_more st.events (event_of step.thread next) st.only.seen (chosen_seen next step.choice is_next.chosen (is_loc next.action) refl);
        follows =
            schedule-append st.events (event_of step.thread next ∷ [])
            ∙ (ap (λ (xs : List Step). xs ++ schedule_of (event_of step.thread next ∷ [])) st.only.follows
            ∙ ap (λ (xs : List Step). steps ++ xs) (steps_of_act step.thread step.choice next is_next.chosen));
        only = λ run all run_is follows.
            let l = last run all run_is follows in
            l.are ∙ ap (λ (a : Act). st.events ++ event_of step.thread a ∷ []) (is_next.only l.act_ l.does l.chosen l.goes);
      }
        where
          not_stuck : (acted : Acted) → acted ≢ blocked → course_after acted next.line [] (course []) ≡ stuck → ⊥
          not_stuck (went state) goes h = cc
          not_stuck blocked goes h = goes refl
          not_stuck (broke kind) goes h = cc

      pub is_broken : (kind : BreakKind) → act s step.thread next.action ≡ broke kind → Breaks process (steps ++ step ∷ []) kind next.line
      unfolding more
      is_broken kind is = record {
        events = more;
        only = only;
        breaks = breaks;
        ends = λ later. record { none = λ run all run_is follows. no_more later run all run_is (split run (steps ++ step ∷ []) (later ∷ []) follows) };
      }
        where
          only : IsOnly process (steps ++ step ∷ []) more
          only = more_only (broke kind) is (λ h. cc)

          breaks : course more process.begins ≡ broken kind next.line
          breaks = more_leads ∙ ap (λ (r : Acted). course_after r next.line [] (course [])) is

          stuck_there : (rest : List Event) (later : Step) → schedule_of rest ≡ later ∷ [] → course (event_of step.thread next ∷ rest) s ≡ stuck
          stuck_there [] later h = absurd cc
          stuck_there (f ∷ rest) later h = ap (λ (r : Acted). course_after r next.line (f ∷ rest) (course (f ∷ rest))) is

          no_more : (later : Step) (run : List Event) → NoLoc run → IsRun process run → Splits run (steps ++ step ∷ []) (later ∷ []) → ⊥
          no_more later run all run_is parts =
              let both = subst (λ (es : List Event). NoLoc es) parts.are all in
              let whole = subst (λ (es : List Event). IsRun process es) parts.are run_is in
              let same : parts.front ≡ more = only.only parts.front (no_loc_front parts.front parts.rest both) (front_of_run process open_ parts.front parts.rest whole) parts.left in
              let joined : parts.front ++ parts.rest ≡ st.events ++ event_of step.thread next ∷ parts.rest =
              ap (λ (es : List Event). es ++ parts.rest) same ∙ append_assoc st.events (event_of step.thread next ∷ []) parts.rest in
              whole.goes (ap (λ (es : List Event). course es process.begins) joined
              ∙ (goes_on st.events (event_of step.thread next ∷ parts.rest) s st.leads ∙ stuck_there parts.rest later parts.right))

      -- it goes: the replay came one step further
      pub goes_further : (after : State) → act s step.thread next.action ≡ went after → (after_may : ℕ → List Act → Type 0) → Moves process s step.thread next may after_may
          → Stands process (steps ++ step ∷ []) after after_may
      unfolding more
      goes_further after is after_may moves = record { events = more; only = more_only (went after) is (λ h. cc); leads = leads; rests = rests }
        where
          leads : course more process.begins ≡ going after
          leads = more_leads ∙ ap (λ (r : Acted). course_after r next.line [] (course [])) is

          own : Same (MayFollow process more step.thread) (after_may step.thread)
          own = record {
            there = λ acts h.
                moves.here.there acts ((st.rests step.thread is_next.made).there (next ∷ acts)
                (subst (λ (xs : List Act). MayDoIn process st.events step.thread xs) (joined acts)
                (made_may st.events (event_of step.thread next ∷ []) s st.leads step.thread is_next.made (part step.thread more ++ acts) h)));
            back = λ acts h.
                may_made st.events (event_of step.thread next ∷ []) s st.leads step.thread is_next.made (part step.thread more ++ acts)
                (subst (λ (xs : List Act). MayDoIn process st.events step.thread xs) (sym (joined acts))
                ((st.rests step.thread is_next.made).back (next ∷ acts) (moves.here.back acts h)));
          }
            where
              joined : (acts : List Act) → part step.thread more ++ acts ≡ part step.thread st.events ++ next ∷ acts
              joined acts = ap (λ (xs : List Act). xs ++ acts) own_part ∙ append_assoc (part step.thread st.events) (next ∷ []) acts

          same_as_before : (u : ℕ) → u < length s.threads → u ≢ step.thread → Same (MayFollow process more u) (after_may u)
          same_as_before u made other = record {
            there = λ acts h.
                (moves.others u made other).there acts ((st.rests u made).there acts
                (subst (λ (xs : List Act). MayDoIn process st.events u (xs ++ acts)) (other_part u other)
                (made_may st.events (event_of step.thread next ∷ []) s st.leads u made (part u more ++ acts) h)));
            back = λ acts h.
                may_made st.events (event_of step.thread next ∷ []) s st.leads u made (part u more ++ acts)
                (subst (λ (xs : List Act). MayDoIn process st.events u (xs ++ acts)) (sym (other_part u other))
                ((st.rests u made).back acts ((moves.others u made other).back acts h)));
          }

          started_here : (start : Start) (t : ℕ) → start.thread ≡ t → start_or t (Some start) None ≡ Some start
          started_here start t e = by (eqb start.thread t) refl
            where
              by : (c : Bool) → eqb start.thread t ≡ c → cond c (Some start) None ≡ Some start
              by true h = refl
              by false h = absurd (eqb-false start.thread t h e)

          new_thread : (start : Start) → started_by next.action ≡ Some start → start.thread ≡ length s.threads → Same (MayFollow process more (length s.threads)) (after_may (length s.threads))
          new_thread start starts number = by (length s.threads) refl
            where
              by : (k : ℕ) → length s.threads ≡ k → Same (MayFollow process more (length s.threads)) (after_may (length s.threads))
              by zero none = let here = is_next.made in absurd (let no : ⊥ = omega (arith, here, none) in no)
              by (suc k) same = subst (λ (x : ℕ). Same (MayFollow process more x) (after_may x)) (sym same) (record {
                there = λ acts h. given.there acts (subst (λ (o : Option Start). MayDo process o acts) begins (subst (λ (xs : List Act). MayDo process (start_of (suc k) more) (xs ++ acts)) nothing h));
                back = λ acts h. subst (λ (xs : List Act). MayDo process (start_of (suc k) more) (xs ++ acts)) (sym nothing) (subst (λ (o : Option Start). MayDo process o acts) (sym begins) (given.back acts h));
              })
                where
                  below : length s.threads ≤ suc k
                  below = omega (arith, same)

                  given : Same (process.started start.routine start.argument) (after_may (suc k))
                  given = subst (λ (x : ℕ). Same (process.started start.routine start.argument) (after_may x)) same (moves.new start starts number)

                  nothing : part (suc k) more ≡ []
                  nothing = other_part (suc k) (λ e. let here = is_next.made in let no : ⊥ = omega (arith, here, same, e) in no) ∙ unmade_part st.events s st.leads (suc k) below

                  begins : start_of (suc k) more ≡ Some start
                  begins =
                      start_of-append_none (suc k) st.events (event_of step.thread next ∷ []) (unmade_start st.events process.begins s (suc k) below st.leads).0
                      ∙ (ap (λ (o : Option Start). start_or (suc k) o None) starts ∙ started_here start (suc k) (number ∙ same))

          just_made : (o : Option Start) → started_by next.action ≡ o → (u : ℕ) → length s.threads ≤ u → u < length after.threads → Same (MayFollow process more u) (after_may u)
          just_made None none u few made = let same = as_many_threads s step.thread next.action after none is in absurd (let no : ⊥ = omega (arith, few, made, same) in no)
          just_made (Some start) starts u few made =
              let found = creates_next s step.thread next.action after start starts is in
              let many = found.1 in
              let here : u ≡ length s.threads = omega (arith, few, made, many) in
              subst (λ (x : ℕ). Same (MayFollow process more x) (after_may x)) (sym here) (new_thread start starts found.0)

          rests : (u : ℕ) → u < length after.threads → Same (MayFollow process more u) (after_may u)
          rests u made = elim (cases_eq u step.thread) [
            | inl e ↦ subst (λ (t : ℕ). Same (MayFollow process more t) (after_may t)) (sym e) own
            | inr other ↦ by_made u other made (ltb u (length s.threads)) refl
          ]
            where
              by_made : (u : ℕ) → u ≢ step.thread → u < length after.threads → (c : Bool) → ltb u (length s.threads) ≡ c → Same (MayFollow process more u) (after_may u)
              by_made u other made true h = same_as_before u (grind (arith, nat_tests)) other
              by_made u other made false h = just_made (started_by next.action) refl u (grind (arith, nat_tests)) made
