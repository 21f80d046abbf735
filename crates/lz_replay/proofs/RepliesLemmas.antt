-- From how far a replay came to what its answer says.
use Rattle.std.proofs.Common.{◌≡◌, ◌≢◌, ℕ, zero, suc, ◌+◌, ◌<◌, ◌≤◌, Bool, true, false, List, [], ◌∷◌, ◌++◌, length, take, get_or as slice_index_or, Option, Some, None, refl, sym, ◌∙◌, ap, subst, arith}
use Rattle.std.proofs.lemmas.List.{take_all, take_more}
use Rattle.lz_base.specs.declared.word.BreakKind.{BreakKind}
use Rattle.lz_tree.specs.ScopedTrees.{ScopedProgram}
use Rattle.lz_model.specs.declared.actions.Event.{Event}
use Rattle.lz_model.specs.declared.schedule.Step.{Step}
use Rattle.lz_model.specs.Actions.{Act, is_loc}
use Rattle.lz_model.specs.Store.{State, opening}
use Rattle.lz_model.specs.Interleavings.{Process, going, broken, MayDoIn}
use Rattle.lz_model.specs.BrokenRuns.{schedule_of}
use Rattle.lz_model.specs.Programs.{IsThreadTrace, is_cut, process_of}
use Rattle.lz_model.specs.WithoutLoc.{left_out, without_loc, events_without_loc, IsSeen, bare}
use Rattle.lz_model.proofs.RunFrontsLemmas.{IsOpen}
use Rattle.lz_model.proofs.ThreadFrontsLemmas.{program_is_open}
use Rattle.lz_model.proofs.LocLemmas.{bare_run, full_run}
use Rattle.lz_model.proofs.ScheduleLemmas.{has_choice, schedule_without_loc}
use Rattle.lz_replay.specs.declared.answer.Replayed.TheVariants.{Broke, Holds, NotARun}
use Rattle.lz_replay.specs.Replays.{IsFollowed, IsHeld, IsBrokenAt, Says}
use Rattle.lz_replay.specs.Stands.{NoLoc, Same, NoRun, Stands, Breaks}
use Rattle.lz_replay.proofs.StandsLemmas.{IsIdle, no_loc}

-- ---- a process without Loc

record SeenFront (full acts : List Act) : Type 0 where
  front : List Act
  rest : List Act
  are : full ≡ front ++ rest
  seen : without_loc front ≡ acts

seen_step : (x a : Act) (full acts more : List Act) (b : Bool) → is_loc x.action ≡ b → left_out b x (without_loc full) ≡ a ∷ (acts ++ more)
    → (without_loc full ≡ a ∷ (acts ++ more) → SeenFront full (a ∷ acts)) → (without_loc full ≡ acts ++ more → SeenFront full acts) → SeenFront (x ∷ full) (a ∷ acts)
seen_step x a full acts more true h e again next =
    let f = again e in record { front = x ∷ f.front; rest = f.rest; are = ap (λ (xs : List Act). x ∷ xs) f.are; seen = ap (λ (b : Bool). left_out b x (without_loc f.front)) h ∙ f.seen }
seen_step x a full acts more false h e again next =
    let first : x ≡ a = cc in
    let later : without_loc full ≡ acts ++ more = cc in
    let f = next later in
    record {
      front = x ∷ f.front;
      rest = f.rest;
      are = ap (λ (xs : List Act). x ∷ xs) f.are;
      seen = ap (λ (b : Bool). left_out b x (without_loc f.front)) h ∙ (ap (λ (xs : List Act). x ∷ xs) f.seen ∙ ap (λ (y : Act). y ∷ acts) first);
    }

seen_front : (full acts more : List Act) → without_loc full ≡ acts ++ more → SeenFront full acts
seen_front full [] more e = record { front = []; rest = full; are = refl; seen = refl }
seen_front [] (a ∷ acts) more e = absurd cc
seen_front (x ∷ full) (a ∷ acts) more e =
    seen_step x a full acts more (is_loc x.action) refl e (λ h. seen_front full (a ∷ acts) more h) (λ h. seen_front full acts more h)

open_seen : (may : List Act → Type 0) → ((acts more : List Act) → may (acts ++ more) → may acts) → (acts more : List Act) → IsSeen may (acts ++ more) → IsSeen may acts
open_seen may front acts more is =
    let f = seen_front is.full acts more is.seen in
    record { full = f.front; does = front f.front f.rest (subst (λ (xs : List Act). may xs) f.are is.does); seen = f.seen }

pub open_bare : (process : Process) → IsOpen process → IsOpen (bare process)
open_bare process p = record {
  one = p.one;
  main = λ acts more h. open_seen process.main p.main acts more h;
  started = λ routine argument acts more h. open_seen (process.started routine argument) (p.started routine argument) acts more h;
}

module _ (p : ScopedProgram) (n : ℕ) where
  idle_trace : (function : ℕ) (arguments : List ℕ) (whole : Bool) → IsSeen (IsThreadTrace p n function arguments whole) []
  idle_trace function arguments whole = record { full = []; does = record { depth = 0; does = is_cut (record { is = refl }); numbered = tt }; seen = refl }

  pub idle_program : IsIdle (bare (process_of p n))
  idle_program = record { main = idle_trace p.main [] true; started = λ routine argument. idle_trace routine (argument ∷ []) false }

  pub open_program : IsOpen (bare (process_of p n))
  open_program = open_bare (process_of p n) (program_is_open p n)

  -- ---- the beginning

  pub begins : (may : ℕ → List Act → Type 0) → Same (IsSeen (IsThreadTrace p n p.main [] true)) (may 0) → Stands (bare (process_of p n)) [] (opening p.cells p.mutexes) may
  begins may same = record {
    events = [];
    only = record { is = record { parts = parts; goes = λ h. cc }; seen = tt; follows = refl; only = λ run all is none. no_event run all none };
    leads = refl;
    rests = λ thread made. subst (λ (t : ℕ). Same (λ acts. MayDoIn (bare (process_of p n)) [] t acts) (may t)) (first thread made) same;
  }
    where
      parts : (thread : ℕ) → MayDoIn (bare (process_of p n)) [] thread []
      parts zero = idle_trace p.main [] true
      parts (suc thread) = refl

      first : (thread : ℕ) → thread < 1 → 0 ≡ thread
      first thread made = omega (arith, made)

      no_event : (run : List Event) → NoLoc run → schedule_of run ≡ [] → run ≡ []
      no_event [] all none = refl
      no_event (e ∷ run) all none =
          let one = has_choice e.action all.0 in
          let z = ap (λ (o : Option ℕ). one_step e.thread o ++ schedule_of run) (sym one.is) ∙ none in
          absurd (not_empty (record { thread = e.thread; choice = one.choice }) (schedule_of run) z)
        where
          one_step : ℕ → Option ℕ → List Step
          one_step thread None = []
          one_step thread (Some choice) = record { thread = thread; choice = choice } ∷ []

          not_empty : (s : Step) (xs : List Step) → s ∷ xs ≡ [] → ⊥
          not_empty s xs e = cc

  -- ---- what was found says

  pub held : (steps : List Step) (s : State) (may : ℕ → List Act → Type 0) → Stands (bare (process_of p n)) steps s may → IsHeld p n steps
  held steps s may st =
      let full = full_run (process_of p n) (program_is_open p n) st.events st.only.is in
      record {
        run = full.full;
        is = full.is;
        holds = λ kind line h. not_broken s kind line (sym st.leads ∙ (sym full.same ∙ h));
        follows = schedule_without_loc full.full ∙ (ap schedule_of full.seen ∙ st.only.follows);
      }
    where
      not_broken : (s : State) (kind : BreakKind) (line : ℕ) → going s ≡ broken kind line → ⊥
      not_broken s kind line e = cc

  pub followed : (steps : List Step) (s : State) (may : ℕ → List Act → Type 0) → Stands (bare (process_of p n)) steps s may → IsFollowed p n steps
  followed steps s may st = let h = held steps s may st in record { run = h.run; is = h.is; follows = h.follows }

  pub broken_there : (steps : List Step) (kind : BreakKind) (line : ℕ) → Breaks (bare (process_of p n)) steps kind line → IsBrokenAt p n steps kind line
  broken_there steps kind line b =
      let full = full_run (process_of p n) (program_is_open p n) b.events b.only.is in
      record {
        run = full.full;
        broken_ = record { is = full.is; breaks = full.same ∙ b.breaks };
        follows = schedule_without_loc full.full ∙ (ap schedule_of full.seen ∙ b.only.follows);
      }

  pub none_followed : (steps : List Step) → NoRun (bare (process_of p n)) steps → IsFollowed p n steps → ⊥
  none_followed steps none f =
      none.none (events_without_loc f.run) (no_loc f.run) (bare_run (process_of p n) f.run f.is) (sym (schedule_without_loc f.run) ∙ f.follows)

  -- ---- answers

  module _ (schedule : List Step) (i : ℕ) (lt : i < length schedule) where
    pub blocked_there : (d : Step) (s : State) (may : ℕ → List Act → Type 0) → Stands (bare (process_of p n)) (take i schedule) s may
        → NoRun (bare (process_of p n)) (take i schedule ++ slice_index_or schedule i d ∷ []) → Says p n schedule (NotARun i)
    blocked_there d s may st none = (
      followed (take i schedule) s may st,
      λ f. none_followed (take i schedule ++ slice_index_or schedule i d ∷ []) none (subst (λ (steps : List Step). IsFollowed p n steps) (take_more schedule i d lt) f),
    )

    pub broke_last : (d : Step) (kind : BreakKind) (line events : ℕ) → Breaks (bare (process_of p n)) (take i schedule ++ slice_index_or schedule i d ∷ []) kind line
        → i + 1 ≡ length schedule → events ≡ length schedule → Says p n schedule (Broke kind line events)
    broke_last d kind line events b last number =
        let all : take (i + 1) schedule ≡ schedule = take_all (i + 1) schedule (omega (arith, last)) in
        (subst (λ (steps : List Step). IsBrokenAt p n steps kind line) (sym (take_more schedule i d lt) ∙ all) (broken_there (take i schedule ++ slice_index_or schedule i d ∷ []) kind line b), number)

    pub broke_before : (d : Step) (kind : BreakKind) (line : ℕ) → Breaks (bare (process_of p n)) (take i schedule ++ slice_index_or schedule i d ∷ []) kind line
        → i + 1 ≢ length schedule → Says p n schedule (NotARun (i + 1))
    broke_before d kind line b more =
        let front = take_more schedule i d lt in
        let found = broken_there (take i schedule ++ slice_index_or schedule i d ∷ []) kind line b in
        let further : i + 1 < length schedule = omega (arith, lt, more) in
        let next = take_more schedule (i + 1) d further ∙ ap (λ (steps : List Step). steps ++ slice_index_or schedule (i + 1) d ∷ []) front in (
          subst (λ (steps : List Step). IsFollowed p n steps) (sym front) (record { run = found.run; is = found.broken_.is; follows = found.follows }),
          λ f. none_followed _ (b.ends (slice_index_or schedule (i + 1) d)) (subst (λ (steps : List Step). IsFollowed p n steps) next f),
        )

  pub came_through : (schedule : List Step) (events i : ℕ) (s : State) (may : ℕ → List Act → Type 0) → Stands (bare (process_of p n)) (take i schedule) s may
      → length schedule ≤ i → events ≡ length schedule → Says p n schedule (Holds events)
  came_through schedule events i s may st all number =
      (subst (λ (steps : List Step). IsHeld p n steps) (take_all i schedule all) (held (take i schedule) s may st), number)
