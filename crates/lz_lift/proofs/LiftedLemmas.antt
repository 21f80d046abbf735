-- A run of the process that names functions, with the sites of its creates.
use Rattle.std.proofs.Common.{◌≡◌, ◌≢◌, ℕ, zero, suc, ◌<◌, ◌≤◌, Bool, true, false, List, [], ◌∷◌, ◌++◌, map, Option, Some, None, option_map, length, refl, sym, ap, ap₂, ◌∙◌, subst, arith, cond, eqb, le_trans}
use Rattle.std.proofs.lemmas.Bool.Decides.{nat_tests}
use Rattle.std.proofs.Math.Dec.{eqb-zero-suc}
use Rattle.std.specs.Prelude.{⊤}
use Rattle.lz_base.specs.declared.word.BreakKind.{BreakKind}
use Rattle.lz_model.specs.declared.actions.Action.{Action}
use Rattle.lz_model.specs.declared.actions.Action.TheVariants.{Loc, Input, Check, Assume, Rd, Wr, Reset, Lock, Unlock, Park, Wake, Signal, Broadcast, Create, Join, HoldOn, HoldOff, End}
use Rattle.lz_model.specs.declared.actions.Event.{Event}
use Rattle.lz_model.specs.Actions.{Act, act_of, event_of, Start, started_by}
use Rattle.lz_model.specs.Interleavings.{Process, Course, going, stuck, broken, course, part, start_of, MayDo, MayDoIn, IsRun}
use Rattle.lz_model.specs.BrokenRuns.{IsBrokenRun, rounds_of_run, IsViolated, schedule_of}
use Rattle.lz_model.specs.Rounds.{rounds_of}
use Rattle.lz_model.specs.WithoutLoc.{IsSeen, bare, events_without_loc}
use Rattle.lz_model.proofs.RunFrontsLemmas.{IsOpen}
use Rattle.lz_model.proofs.LocLemmas.{bare_breaks, full_breaks}
use Rattle.lz_model.proofs.ScheduleLemmas.{rounds_of_schedule, schedule_rounds}
use Rattle.lz_bound.specs.SlottedPrograms.{with_start}
use Rattle.lz_lift.specs.Renaming.{renamed_act, renamed_event, Starts, AllStart, IsNamed, Does, Undoes}
use Rattle.lz_lift.proofs.OnlyStartsLemmas.{IsStarting, EachStarts, only_starts, start_in}
use Rattle.lz_lift.proofs.RenamedLemmas.{renamed_start, same_course, same_part, same_start, same_acts, same_action, renamed_run, weaker}

-- the events, with those of thread 0 from a list
abbrev lift_event : Bool → List Act → Event → (List Act → List Event) → List Event
lift_event false sites e rest = e ∷ rest sites
lift_event true [] e rest = e ∷ rest []
lift_event true (a ∷ sites) e rest = event_of 0 a ∷ rest sites

abbrev pub lifted : List Event → List Act → List Event
lifted [] sites = []
lifted (e ∷ run) sites = lift_event (eqb e.thread 0) sites e (lifted run)

zero_is : (t : ℕ) → eqb t 0 ≡ true → t ≡ 0
zero_is t e = grind (arith, nat_tests)

zero_is_not : (t : ℕ) → eqb t 0 ≡ false → (u : ℕ) × (t ≡ suc u)
zero_is_not zero e = absurd cc
zero_is_not (suc u) e = (u, refl)

-- each thread but 0 starts nothing
pub record OthersStartNone (run : List Event) : Type 0 where
  pub none : (t : ℕ) → AllStart (λ start. ⊥) (part (suc t) run)

part_other : (t : ℕ) (e : Event) (rest : List Event) → e.thread ≡ t → part t (e ∷ rest) ≡ act_of e ∷ part t rest
part_other t e rest h = by (eqb e.thread t) refl
  where
    by : (c : Bool) → eqb e.thread t ≡ c → cond c (act_of e ∷ part t rest) (part t rest) ≡ act_of e ∷ part t rest
    by true k = refl
    by false k = absurd (let n : eqb e.thread t ≡ false → e.thread ≡ t → ⊥ = grind (arith, nat_tests) in n k h)

-- behind the first event
others_rest : (e : Event) (rest : List Event) → OthersStartNone (e ∷ rest) → OthersStartNone rest
others_rest e rest h = record { none = λ t. by t (eqb e.thread (suc t)) (h.none t) }
  where
    by : (t : ℕ) (c : Bool) → AllStart (λ start. ⊥) (cond c (act_of e ∷ part (suc t) rest) (part (suc t) rest)) → AllStart (λ start. ⊥) (part (suc t) rest)
    by t true k = k.1
    by t false k = k

others_first : (e : Event) (rest : List Event) → OthersStartNone (e ∷ rest) → eqb e.thread 0 ≡ false → Starts (λ start. ⊥) e.action
others_first e rest h k =
    let z = zero_is_not e.thread k in
    (subst (λ (acts : List Act). AllStart (λ start. ⊥) acts) (part_other (suc z.0) e rest z.1) (h.none z.0)).0

first_of_acts : (a b : Act) (xs ys : List Act) → a ∷ xs ≡ b ∷ ys → a ≡ b
first_of_acts a b xs ys e = cc

rest_of_acts : (a b : Act) (xs ys : List Act) → a ∷ xs ≡ b ∷ ys → xs ≡ ys
rest_of_acts a b xs ys e = cc

event_is : (e : Event) (a : Act) → e.thread ≡ 0 → act_of e ≡ a → event_of 0 a ≡ e
event_is e a t h = ap₂ (λ (n : ℕ) (x : Act). event_of n x) (sym t) (sym h)

-- one list of actions is that of thread 0, named by functions
pub record AreSites (g : ℕ → ℕ) (Is : ℕ → Type 0) (run : List Event) (sites : List Act) : Type 0 where
  pub named : map (renamed_act g) sites ≡ part 0 run
  pub all : AllStart Is sites
  pub others : OthersStartNone run

-- what is started is named
named_start : (g : ℕ → ℕ) (Is : ℕ → Type 0) (a : Action) → Starts Is a → Starts (IsNamed g Is) (with_start g a)
named_start g Is Loc h = tt
named_start g Is (Input v) h = tt
named_start g Is (Check v kind) h = tt
named_start g Is (Assume v) h = tt
named_start g Is (Rd cell v) h = tt
named_start g Is (Wr cell v) h = tt
named_start g Is (Reset m) h = tt
named_start g Is (Lock m) h = tt
named_start g Is (Unlock m) h = tt
named_start g Is (Park c m) h = tt
named_start g Is (Wake c m) h = tt
named_start g Is (Signal c woken) h = tt
named_start g Is (Broadcast c) h = tt
named_start g Is (Create thread start v) h = record { site = start; is = h; named = refl }
named_start g Is (Join thread) h = tt
named_start g Is HoldOn h = tt
named_start g Is HoldOff h = tt
named_start g Is (End w) h = tt

module _ (g : ℕ → ℕ) (Is : ℕ → Type 0) where
  same_event : (e : Event) → Starts (λ start. ⊥) e.action → renamed_event g e ≡ e
  same_event e h = ap (λ (x : Action). record { thread = e.thread; action = x; line = e.line }) (same_action g e.action h)

  none_any : (a : Act) → Starts (λ start. ⊥) a.action → Starts Is a.action
  none_any a h = (weaker Is (a ∷ []) (h, tt)).0

  lift_names : (run : List Event) (sites : List Act) → map (renamed_act g) sites ≡ part 0 run → OthersStartNone run → map (renamed_event g) (lifted run sites) ≡ run
  lift_names [] sites h k = refl
  lift_names (e ∷ run) sites h k = by (eqb e.thread 0) refl sites h (λ sites h. lift_names run sites h (others_rest e run k))
    where
      by : (c : Bool) → eqb e.thread 0 ≡ c → (sites : List Act) → map (renamed_act g) sites ≡ cond c (act_of e ∷ part 0 run) (part 0 run) →
          ((sites : List Act) → map (renamed_act g) sites ≡ part 0 run → map (renamed_event g) (lifted run sites) ≡ run) → map (renamed_event g) (lift_event c sites e (lifted run)) ≡ e ∷ run
      by false z sites h ih = ap₂ (λ (x : Event) (xs : List Event). x ∷ xs) (same_event e (others_first e run k z)) (ih sites h)
      by true z [] h ih = absurd cc
      by true z (a ∷ sites) h ih = ap₂ (λ (x : Event) (xs : List Event). x ∷ xs)
          (event_is e (renamed_act g a) (zero_is e.thread z) (sym (first_of_acts (renamed_act g a) (act_of e) (map (renamed_act g) sites) (part 0 run) h)))
          (ih sites (rest_of_acts (renamed_act g a) (act_of e) (map (renamed_act g) sites) (part 0 run) h))

  lift_zero : (run : List Event) (sites : List Act) → map (renamed_act g) sites ≡ part 0 run → part 0 (lifted run sites) ≡ sites
  lift_zero [] [] h = refl
  lift_zero [] (a ∷ sites) h = absurd cc
  lift_zero (e ∷ run) sites h = by (eqb e.thread 0) refl sites h (λ sites h. lift_zero run sites h)
    where
      by : (c : Bool) → eqb e.thread 0 ≡ c → (sites : List Act) → map (renamed_act g) sites ≡ cond c (act_of e ∷ part 0 run) (part 0 run) →
          ((sites : List Act) → map (renamed_act g) sites ≡ part 0 run → part 0 (lifted run sites) ≡ sites) → part 0 (lift_event c sites e (lifted run)) ≡ sites
      by false z sites h ih = rw z (ih sites h)
      by true z [] h ih = absurd cc
      by true z (a ∷ sites) h ih = ap (λ (acts : List Act). a ∷ acts) (ih sites (rest_of_acts (renamed_act g a) (act_of e) (map (renamed_act g) sites) (part 0 run) h))

  lift_other : (t : ℕ) (run : List Event) (sites : List Act) → part (suc t) (lifted run sites) ≡ part (suc t) run
  lift_other t [] sites = refl
  lift_other t (e ∷ run) sites = by (eqb e.thread 0) refl sites (λ sites. lift_other t run sites)
    where
      away : eqb e.thread 0 ≡ true → eqb e.thread (suc t) ≡ false
      away z = grind (arith, nat_tests)

      none : eqb 0 (suc t) ≡ false
      none = eqb-zero-suc t

      same : (xs ys : List Act) → xs ≡ ys → cond (eqb e.thread (suc t)) (act_of e ∷ xs) xs ≡ cond (eqb e.thread (suc t)) (act_of e ∷ ys) ys
      same xs ys h = ap (λ (zs : List Act). cond (eqb e.thread (suc t)) (act_of e ∷ zs) zs) h

      by : (c : Bool) → eqb e.thread 0 ≡ c → (sites : List Act) → ((sites : List Act) → part (suc t) (lifted run sites) ≡ part (suc t) run) → part (suc t) (lift_event c sites e (lifted run)) ≡ cond (eqb e.thread (suc t)) (act_of e ∷ part (suc t) run) (part (suc t) run)
      by false z sites ih = same (part (suc t) (lifted run sites)) (part (suc t) run) (ih sites)
      by true z [] ih = same (part (suc t) (lifted run [])) (part (suc t) run) (ih [])
      by true z (a ∷ sites) ih = rw (away z, none) (ih sites)

  lift_all : (run : List Event) (sites : List Act) → AllStart Is sites → OthersStartNone run → map (renamed_act g) sites ≡ part 0 run → EachStarts Is (lifted run sites)
  lift_all [] sites a k h = tt
  lift_all (e ∷ run) sites a k h = by (eqb e.thread 0) refl sites a h (λ sites a h. lift_all run sites a (others_rest e run k) h)
    where
      by : (c : Bool) → eqb e.thread 0 ≡ c → (sites : List Act) → AllStart Is sites → map (renamed_act g) sites ≡ cond c (act_of e ∷ part 0 run) (part 0 run) →
          ((sites : List Act) → AllStart Is sites → map (renamed_act g) sites ≡ part 0 run → EachStarts Is (lifted run sites)) → EachStarts Is (lift_event c sites e (lifted run))
      by false z sites a h ih = (none_any (act_of e) (others_first e run k z), ih sites a h)
      by true z [] a h ih = absurd cc
      by true z (x ∷ sites) a h ih = (a.0, ih sites a.1 (rest_of_acts (renamed_act g x) (act_of e) (map (renamed_act g) sites) (part 0 run) h))

  module _ (P Q : Process) (d : Does g Is P Q) (u : Undoes g Is P Q) (one : length Q.begins.threads ≡ 1) where
    named_starts : (acts : List Act) → AllStart Is acts → AllStart (IsNamed g Is) (map (renamed_act g) acts)
    named_starts [] h = tt
    named_starts (a ∷ acts) h = (named_start g Is a.action h.0, named_starts acts h.1)

    started_none : (routine argument : ℕ) (acts : List Act) → IsNamed g Is routine → IsSeen (P.started routine argument) acts → AllStart (λ start. ⊥) acts
    started_none routine argument acts n h =
        d.none n.site argument acts n.is (u.started n.site argument acts n.is (subst (λ (f : ℕ). IsSeen (P.started f argument) acts) (sym n.named) h))

    starting : IsStarting (IsNamed g Is) (bare P)
    starting = record {
      one = subst (λ s. length s.threads ≡ 1) (sym d.begins) one;
      main = λ acts h. let k = u.main acts h in subst (λ (xs : List Act). AllStart (IsNamed g Is) xs) k.1 (named_starts k.0 (d.starts k.0 k.2));
      started = λ routine argument acts n h. weaker (IsNamed g Is) acts (started_none routine argument acts n h);
    }

    none_in : (o : Option Start) (acts : List Act) → ((start : Start) → o ≡ Some start → IsNamed g Is start.routine) → MayDo (bare P) o acts → AllStart (λ start. ⊥) acts
    none_in None acts k h = subst (λ (xs : List Act). AllStart (λ start. ⊥) xs) (sym h) tt
    none_in (Some start) acts k h = started_none start.routine start.argument acts (k start refl) h

    may_do_back : (o q : Option Start) (acts : List Act) → q ≡ option_map (renamed_start g) o → ((start : Start) → o ≡ Some start → Is start.routine) → MayDo (bare P) q acts → MayDo (bare Q) o acts
    may_do_back None q acts e k h = subst (λ (x : Option Start). MayDo (bare P) x acts) e h
    may_do_back (Some start) q acts e k h =
        u.started start.routine start.argument acts (k start refl) (subst (λ (x : Option Start). MayDo (bare P) x acts) e h)

    -- a run of the first is a run of the second, renamed
    pub lifted_run : (run : List Event) → IsRun (bare P) run → (sites : List Event) × (map (renamed_event g) sites ≡ run) × IsRun (bare Q) sites
    lifted_run run is = (lifted run acts, names, record { parts = parts; goes = goes })
      where
        acts : List Act
        acts = (u.main (part 0 run) (is.parts 0)).0

        named : map (renamed_act g) acts ≡ part 0 run
        named = (u.main (part 0 run) (is.parts 0)).1

        does : IsSeen Q.main acts
        does = (u.main (part 0 run) (is.parts 0)).2

        all : EachStarts (IsNamed g Is) run
        all = only_starts (IsNamed g Is) (bare P) starting run is

        others : OthersStartNone run
        others = record { none = λ t. none_in (start_of (suc t) run) (part (suc t) run) (λ start e. start_in (IsNamed g Is) (suc t) run start all e) (is.parts (suc t)) }

        names : map (renamed_event g) (lifted run acts) ≡ run
        names = lift_names run acts named others

        goes : course (lifted run acts) Q.begins ≢ stuck
        goes h = is.goes (ap (course run) d.begins ∙ ap (λ (es : List Event). course es Q.begins) (sym names) ∙ same_course g (lifted run acts) Q.begins ∙ h)

        sites_all : EachStarts Is (lifted run acts)
        sites_all = lift_all run acts (d.starts acts does) others named

        parts : (thread : ℕ) → MayDoIn (bare Q) (lifted run acts) thread (part thread (lifted run acts))
        parts zero = subst (λ (xs : List Act). IsSeen Q.main xs) (sym (lift_zero run acts named)) does
        parts (suc thread) =
            subst (λ (xs : List Act). MayDo (bare Q) (start_of (suc thread) (lifted run acts)) xs) (sym (lift_other thread run acts))
            (may_do_back (start_of (suc thread) (lifted run acts)) (start_of (suc thread) run) (part (suc thread) run)
            (ap (λ (es : List Event). start_of (suc thread) es) (sym names) ∙ same_start g (suc thread) (lifted run acts))
            (λ start e. start_in Is (suc thread) (lifted run acts) start sites_all e) (is.parts (suc thread)))

-- ---- broken runs

bare_rounds : (run : List Event) → rounds_of_run (events_without_loc run) ≤ rounds_of_run run
bare_rounds run = subst (λ (n : ℕ). n ≤ rounds_of_run run) (rounds_of_schedule run) (schedule_rounds run)

-- A broken run of the one for one of the other: the same break, no more rounds, and the same events but Loc, with creates renamed.
pub record IsLike (g : ℕ → ℕ) (P : Process) (run other : List Event) (kind : BreakKind) (line : ℕ) : Type 0 where
  pub broken_ : IsBrokenRun P other kind line
  pub few : rounds_of_run other ≤ rounds_of_run run

same_threads : (g : ℕ → ℕ) (run : List Event) → rounds_of_run (map (renamed_event g) run) ≡ rounds_of_run run
same_threads g run = ap rounds_by (map_threads g run)
  where
    rounds_by : List ℕ → ℕ
    rounds_by threads = rounds_of threads

    map_threads : (g : ℕ → ℕ) (run : List Event) → map (λ (e : Event). e.thread) (map (renamed_event g) run) ≡ map (λ (e : Event). e.thread) run
    map_threads g [] = refl
    map_threads g (e ∷ run) = ap (λ (xs : List ℕ). e.thread ∷ xs) (map_threads g run)

module _ (g : ℕ → ℕ) (Is : ℕ → Type 0) (P Q : Process) (d : Does g Is P Q) (u : Undoes g Is P Q) where
  -- the first is violated where the second is
  pub violated_there : IsOpen P → IsOpen Q → (k : ℕ) → IsViolated Q k → IsViolated P k
  violated_there p q k v =
      let b = bare_breaks Q v.run v.kind v.line v.broken_ in
      let run = events_without_loc v.run in
      let mine : IsBrokenRun (bare P) (map (renamed_event g) run) v.kind v.line =
      record { is = renamed_run g Is P Q d q.one run b.is; breaks = ap (course (map (renamed_event g) run)) d.begins ∙ same_course g run Q.begins ∙ b.breaks } in
      let f = full_breaks P p (map (renamed_event g) run) v.kind v.line mine in
      let few : rounds_of_run (map (renamed_event g) run) ≤ rounds_of_run v.run = subst (λ (n : ℕ). n ≤ rounds_of_run v.run) (sym (same_threads g run)) (bare_rounds v.run) in
      record { run = f.full; kind = v.kind; line = v.line; broken_ = f.broken_; few = le_trans f.few (le_trans few v.few) }

  -- and the second where the first is
  pub violated_back : IsOpen P → IsOpen Q → (k : ℕ) → IsViolated P k → IsViolated Q k
  violated_back p q k v =
      let b = bare_breaks P v.run v.kind v.line v.broken_ in
      let l = lifted_run g Is P Q d u q.one (events_without_loc v.run) b.is in
      let mine : IsBrokenRun (bare Q) l.0 v.kind v.line =
      record { is = l.2; breaks = sym (same_course g l.0 Q.begins) ∙ ap (λ (es : List Event). course es Q.begins) l.1 ∙ sym (ap (course (events_without_loc v.run)) d.begins) ∙ b.breaks } in
      let f = full_breaks Q q l.0 v.kind v.line mine in
      let few : rounds_of_run l.0 ≤ rounds_of_run v.run = subst (λ (n : ℕ). n ≤ rounds_of_run v.run) (ap rounds_of_run (sym l.1) ∙ same_threads g l.0) (bare_rounds v.run) in
      record { run = f.full; kind = v.kind; line = v.line; broken_ = f.broken_; few = le_trans f.few (le_trans few v.few) }
