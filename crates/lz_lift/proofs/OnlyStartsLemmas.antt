-- In a run whose threads start only such numbers, each event does.
use Rattle.std.proofs.Common.{◌≡◌, ◌≢◌, ℕ, zero, suc, ◌<◌, ◌≤◌, Bool, true, false, List, [], ◌∷◌, ◌++◌, Option, Some, None, length, refl, sym, ap, ◌∙◌, subst, arith, append-nil, append_assoc}
use Rattle.std.proofs.Common.{cond, eqb}
use Rattle.std.specs.Prelude.{⊤}
use Rattle.lz_model.specs.declared.actions.Action.{Action}
use Rattle.lz_model.specs.declared.actions.Action.TheVariants.{Loc, Input, Check, Assume, Rd, Wr, Reset, Lock, Unlock, Park, Wake, Signal, Broadcast, Create, Join, HoldOn, HoldOff, End}
use Rattle.lz_model.specs.declared.actions.Event.{Event}
use Rattle.lz_base.specs.declared.word.BreakKind.{BreakKind}
use Rattle.lz_model.specs.Store.{State, Acted, went, blocked, broke, act}
use Rattle.lz_model.specs.Actions.{Act, act_of, Start, started_by}
use Rattle.lz_model.specs.Interleavings.{Process, Course, going, stuck, broken, course, course_after, part, start_or, start_of, MayDo, MayDoIn, IsRun}
use Rattle.lz_model.proofs.RunFrontsLemmas.{part-append, start_of-append, course-append_going}
use Rattle.lz_model.proofs.OneRunLemmas.{Started, made_started, is_made_here, part_first, goes_here}
use Rattle.lz_lift.specs.Renaming.{Starts, AllStart}

-- what threads start, and the threads that are started so start such too; one thread is there at first
pub record IsStarting (Is : ℕ → Type 0) (process : Process) : Type 0 where
  pub one : length process.begins.threads ≡ 1
  pub main : (acts : List Act) → process.main acts → AllStart Is acts
  pub started : (routine argument : ℕ) (acts : List Act) → Is routine → process.started routine argument acts → AllStart Is acts

abbrev pub EachStarts : (ℕ → Type 0) → List Event → Type 0
EachStarts Is [] = ⊤
EachStarts Is (e ∷ rest) = Starts Is e.action × EachStarts Is rest

all_start-append : (Is : ℕ → Type 0) (xs ys : List Act) → AllStart Is (xs ++ ys) → AllStart Is ys
all_start-append Is [] ys h = h
all_start-append Is (x ∷ xs) ys h = all_start-append Is xs ys h.1

each_append : (Is : ℕ → Type 0) (xs ys : List Event) → EachStarts Is xs → EachStarts Is ys → EachStarts Is (xs ++ ys)
each_append Is [] ys h k = k
each_append Is (x ∷ xs) ys h k = (h.0, each_append Is xs ys h.1 k)

-- what an action starts
start_is : (Is : ℕ → Type 0) (a : Action) (start : Start) → Starts Is a → started_by a ≡ Some start → Is start.routine
start_is Is (Create thread routine v) start h e = let k : routine ≡ start.routine = cc in subst Is k h
start_is Is Loc start h e = absurd cc
start_is Is (Input v) start h e = absurd cc
start_is Is (Check v kind) start h e = absurd cc
start_is Is (Assume v) start h e = absurd cc
start_is Is (Rd cell v) start h e = absurd cc
start_is Is (Wr cell v) start h e = absurd cc
start_is Is (Reset m) start h e = absurd cc
start_is Is (Lock m) start h e = absurd cc
start_is Is (Unlock m) start h e = absurd cc
start_is Is (Park c m) start h e = absurd cc
start_is Is (Wake c m) start h e = absurd cc
start_is Is (Signal c woken) start h e = absurd cc
start_is Is (Broadcast c) start h e = absurd cc
start_is Is (Join thread) start h e = absurd cc
start_is Is HoldOn start h e = absurd cc
start_is Is HoldOff start h e = absurd cc
start_is Is (End w) start h e = absurd cc

-- the start of a thread is one of them
pub start_in : (Is : ℕ → Type 0) (t : ℕ) (events : List Event) (start : Start) → EachStarts Is events → start_of t events ≡ Some start → Is start.routine
start_in Is t [] start h e = absurd cc
start_in Is t (x ∷ rest) start h e = by (λ f. start_in Is t rest start h.1 f) (started_by x.action) refl e
  where
    here : (start_of t rest ≡ Some start → Is start.routine) → (one : Start) (c : Bool) → started_by x.action ≡ Some one → cond c (Some one) (start_of t rest) ≡ Some start → Is start.routine
    here later one true k f = let z : one ≡ start = cc in subst (λ (y : Start). Is y.routine) z (start_is Is x.action one h.0 k)
    here later one false k f = later f

    by : (start_of t rest ≡ Some start → Is start.routine) → (o : Option Start) → started_by x.action ≡ o → start_or t o (start_of t rest) ≡ Some start → Is start.routine
    by later None k f = later f
    by later (Some one) k f = here later one (eqb one.thread t) k f

-- the event of a thread that may do such alone
of_part : (Is : ℕ → Type 0) (zs xs : List Event) (e : Event) → AllStart Is (part e.thread (zs ++ e ∷ xs)) → Starts Is e.action
of_part Is zs xs e h =
    let k = part-append e.thread zs (e ∷ xs) ∙ ap (λ (acts : List Act). part e.thread zs ++ acts) (part_first e.thread e xs refl) in
    (all_start-append Is (part e.thread zs) (act_of e ∷ part e.thread xs) (subst (λ (acts : List Act). AllStart Is acts) k h)).0

part_starts : (Is : ℕ → Type 0) (process : Process) → IsStarting Is process → (zs xs : List Event) (s : State) (t : ℕ) → course zs process.begins ≡ going s → t < length s.threads
    → EachStarts Is zs → IsRun process (zs ++ xs) → AllStart Is (part t (zs ++ xs))
part_starts Is process p zs xs s zero on made all is = p.main (part 0 (zs ++ xs)) (is.parts 0)
part_starts Is process p zs xs s (suc t) on made all is =
    let few = p.one in
    let from = made_started zs process.begins s (suc t) (omega arith) made on in
    let kept = start_of-append (suc t) zs xs from.start from.is in
    p.started from.start.routine from.start.argument (part (suc t) (zs ++ xs)) (start_in Is (suc t) zs from.start all from.is)
    (subst (λ (o : Option Start). MayDo process o (part (suc t) (zs ++ xs))) kept (is.parts (suc t)))

all_from : (Is : ℕ → Type 0) (process : Process) → IsStarting Is process → (xs zs : List Event) (s : State) → course zs process.begins ≡ going s → EachStarts Is zs → IsRun process (zs ++ xs) → EachStarts Is xs
all_from Is process p [] zs s on all is = tt
all_from Is process p (e ∷ xs) zs s on all is = (here, by (λ s1 o a r. all_from Is process p xs (zs ++ e ∷ []) s1 o a r) (act s e.thread e.action) refl)
  where
    goes : course (e ∷ xs) s ≢ stuck
    goes h = is.goes (course-append_going zs (e ∷ xs) process.begins s on ∙ h)

    here : Starts Is e.action
    here = of_part Is zs xs e (part_starts Is process p zs (e ∷ xs) s e.thread on (is_made_here s e.thread e.action (goes_here e xs s goes)) all is)

    joined : zs ++ e ∷ xs ≡ (zs ++ e ∷ []) ++ xs
    joined = sym (append_assoc zs (e ∷ []) xs)

    none_behind : (rest : List Event) (kind : BreakKind) → act s e.thread e.action ≡ broke kind → course (e ∷ rest) s ≢ stuck → EachStarts Is rest
    none_behind [] kind a h = tt
    none_behind (f ∷ rest) kind a h = absurd (h (rw a refl))

    by : ((s1 : State) → course (zs ++ e ∷ []) process.begins ≡ going s1 → EachStarts Is (zs ++ e ∷ []) → IsRun process ((zs ++ e ∷ []) ++ xs) → EachStarts Is xs) → (acted : Acted) → act s e.thread e.action ≡ acted → EachStarts Is xs
    by later (went s1) a = later s1 (course-append_going zs (e ∷ []) process.begins s on ∙ rw a refl) (each_append Is zs (e ∷ []) all (here, tt))
        (subst (λ (run : List Event). IsRun process run) joined is)
    by later blocked a = absurd (goes_here e xs s goes a)
    by later (broke kind) a = none_behind xs kind a goes

-- each event of a run starts such alone
pub only_starts : (Is : ℕ → Type 0) (process : Process) → IsStarting Is process → (run : List Event) → IsRun process run → EachStarts Is run
only_starts Is process p run is = all_from Is process p run [] process.begins refl tt is
