-- A run of slots that breaks is a run of the process that breaks alike, in as many rounds.
use Rattle.std.proofs.Common.{◌≡◌, ◌≢◌, ℕ, zero, suc, ◌+◌, ◌≤◌, ◌<◌, Bool, true, false, not, cond, List, [], ◌∷◌, ◌++◌, length, map, nat_lt, eqb, refl, sym, ◌∙◌, ap, subst, arith, Option, Some, None}
use Rattle.std.specs.Prelude.{option_map, slice_index}
use Rattle.std.proofs.lemmas.Bool.{eqb-true, eqb-false, eq-eqb}
use Rattle.lz_model.specs.declared.actions.Action.TheVariants.{Loc, Input, Check, Assume, Rd, Wr, Reset, Lock, Unlock, Park, Wake, Signal, Broadcast, Create, Join, HoldOn, HoldOff, End}
use Rattle.lz_base.specs.Descents.{descents}
use Rattle.lz_base.specs.declared.word.BreakKind.{BreakKind}
use Rattle.lz_model.specs.declared.actions.Action.{Action}
use Rattle.lz_model.specs.declared.actions.Event.{Event}
use Rattle.lz_model.specs.Actions.{Act, act_of, event_of, started_by}
use Rattle.lz_model.specs.Actions as actions
use Rattle.lz_model.specs.Store.{State, Acted, went, blocked, broke, act}
use Rattle.lz_model.specs.Interleavings as model
use Rattle.lz_model.specs.Interleavings.{Process, course, course_after, going, stuck, broken, MayDo, MayDoIn, IsRun}
use Rattle.lz_model.specs.Programs.{CreatesFrom}
use Rattle.lz_model.specs.BrokenRuns.{IsBrokenRun, rounds_of_run}
use Rattle.lz_model.proofs.OneRunLemmas.{made_is}
use Rattle.lz_sync.specs.Slots.{thread_of, slot_of, RisesTo}
use Rattle.lz_sync.proofs.SlotsLemmas.{thread_slot, slot_thread, within}
use Rattle.lz_interleave.specs.Deeds.{Start, no_start, starts, begins, argument_of, chosen, part, argument, threads_of, ends_broken, ending, IsBrokenRunOf}
use Rattle.lz_interleave.specs.Deeds as deeds
use Rattle.lz_slot_runs.specs.SlotRuns.{is_awake, start_in, start_as, grown_by, may_start, slot_program, with_threads, made_in, by_threads, events_with, GoesBySlots}
use Rattle.lz_slot_runs.proofs.AwakeLemmas.{awake_is, is_awake_at, new_start, awake_grown, none_awake}
use Rattle.lz_slot_runs.proofs.NamesLemmas.{start_with, started_with, threads_grow, threads_stay, breaks_starts_none}
use Rattle.lz_slot_runs.proofs.ToThreadsLemmas.{AllAwake, told}
use Rattle.lz_slot_runs.proofs.PartsLemmas.{AllNamed, AllMade, OnlyMain, parts_named, parts_alone, all_made, made_rises, part_with, past_part, past_start, all_started, same_slots, named_start}

-- ---- the numbers of the threads that main creates

-- no thread but 0 creates one
abbrev pub MainCreates : List Event → Type 0
MainCreates [] = Unit
MainCreates (e ∷ rest) = (e.thread ≢ 0 → started_by e.action ≡ None) × MainCreates rest

-- a creation that goes has the next number
pub next_made : (s : State) (t : ℕ) (a : Action) (start : actions.Start) → started_by a ≡ Some start → act s t a ≢ blocked → start.thread ≡ length s.threads
next_made s t Loc start is goes = absurd cc
next_made s t (Input v) start is goes = absurd cc
next_made s t (Check v kind) start is goes = absurd cc
next_made s t (Assume v) start is goes = absurd cc
next_made s t (Rd cell v) start is goes = absurd cc
next_made s t (Wr cell v) start is goes = absurd cc
next_made s t (Reset m) start is goes = absurd cc
next_made s t (Lock m) start is goes = absurd cc
next_made s t (Unlock m) start is goes = absurd cc
next_made s t (Park c m) start is goes = absurd cc
next_made s t (Wake c m) start is goes = absurd cc
next_made s t (Signal c w) start is goes = absurd cc
next_made s t (Broadcast c) start is goes = absurd cc
next_made s t (Create d f v) start is goes =
    let z : Some (record { thread = d; routine = f; argument = v }) ≡ Some start = is in
    let one : record { thread = d; routine = f; argument = v } ≡ start = cc in
    sym (ap (λ (x : actions.Start). x.thread) one) ∙ made_is s t d f v goes
next_made s t (Join d) start is goes = absurd cc
next_made s t HoldOn start is goes = absurd cc
next_made s t HoldOff start is goes = absurd cc
next_made s t (End w) start is goes = absurd cc

-- the numbers of the threads that thread 0 creates follow each other
numbered_event : (e : Event) (rest : List Event) (s : State) (acted : Acted) → act s e.thread e.action ≡ acted → (e.thread ≢ 0 → started_by e.action ≡ None)
    → course_after acted e.line rest (course rest) ≢ stuck → ((s2 : State) → course rest s2 ≢ stuck → CreatesFrom (model.part 0 rest) (length s2.threads))
    → CreatesFrom (cond (eqb e.thread 0) (act_of e ∷ model.part 0 rest) (model.part 0 rest)) (length s.threads)
numbered_event e rest s (went s2) is main goes later = by (eqb e.thread 0) refl (started_by e.action) refl (later s2 goes)
  where
    by : (b : Bool) → eqb e.thread 0 ≡ b → (start : Option actions.Start) → started_by e.action ≡ start → CreatesFrom (model.part 0 rest) (length s2.threads)
        → CreatesFrom (cond b (act_of e ∷ model.part 0 rest) (model.part 0 rest)) (length s.threads)
    by true f None g h = rw g (subst (CreatesFrom (model.part 0 rest)) (threads_stay s e.thread e.action s2 is g) h)
    by true f (Some start) g h =
        rw g (next_made s e.thread e.action start g (λ w. let z : went s2 ≡ blocked = sym is ∙ w in cc), subst (CreatesFrom (model.part 0 rest)) (threads_grow s e.thread e.action s2 start is g) h)
    by false f start g h =
        subst (CreatesFrom (model.part 0 rest)) (threads_stay s e.thread e.action s2 is (main (λ z. eqb-false e.thread 0 f z))) h
numbered_event e rest s blocked is main goes later = absurd (goes refl)
numbered_event e [] s (broke kind) is main goes later = by (eqb e.thread 0)
  where
    by : (b : Bool) → CreatesFrom (cond b (act_of e ∷ []) []) (length s.threads)
    by true = rw (breaks_starts_none s e.thread e.action kind is) tt
    by false = tt
numbered_event e (d ∷ rest) s (broke kind) is main goes later = absurd (goes refl)

-- so in a whole run
numbered_run : (run : List Event) (s : State) → course run s ≢ stuck → MainCreates run → CreatesFrom (model.part 0 run) (length s.threads)
numbered_run [] s goes main = tt
numbered_run (e ∷ rest) s goes main = numbered_event e rest s (act s e.thread e.action) refl main.0 goes (λ s2 on. numbered_run rest s2 on main.1)

-- so in a run of slots
main_creates : (f : ℕ → ℕ) → f 0 ≡ 0 → (es : List (deeds.Event Act)) → OnlyMain es → MainCreates (events_with f es)
main_creates f zero_is [] only = tt
main_creates f zero_is (e ∷ rest) only = ((λ other. by e.thread refl other), main_creates f zero_is rest only.1)
  where
    by : (t : ℕ) → e.thread ≡ t → f e.thread ≢ 0 → started_by (with_threads f e.deed.action) ≡ None
    by zero is other = absurd (other (ap f is ∙ zero_is))
    by (suc k) is other = started_with f e.deed.action ∙ ap (option_map (start_with f)) (only.0 k is)

-- ---- what starts a thread

-- a slot that is made in the run is started by its creation, with its routine and argument
start_is : (top : ℕ) (begins_ : State) (does : ℕ → ℕ → List Act → Type 0) (last : List ℕ) (k : ℕ) (es : List (deeds.Event Act)) (made : List ℕ) → made_in made es ≡ last
    → is_awake last (suc k) ≡ true → is_awake made (suc k) ≡ false → AllAwake made es → AllNamed top es
    → model.start_of (thread_of last (suc k)) (events_with (thread_of last) es)
    ≡ Some (record { thread = thread_of last (suc k); routine = k; argument = argument (slot_program begins_ does) (suc k) es })
unfolding made_in argument
start_is top begins_ does last k [] made same a new awake named = absurd (let z : is_awake made (suc k) ≡ true = subst (λ (x : List ℕ). is_awake x (suc k) ≡ true) (sym same) a in let y : true ≡ false = sym z ∙ new in cc)
start_is top begins_ does last k (e ∷ rest) made same a new awake named =
    by (started_by e.deed.action) refl (eqb_of (started_by e.deed.action)) refl
    (λ still. start_is top begins_ does last k rest (grown_by (start_in e.deed) made) same a still awake.2 named.1)
  where
    Later : Type 0
    Later = is_awake (grown_by (start_in e.deed) made) (suc k) ≡ false → model.start_of (thread_of last (suc k)) (events_with (thread_of last) rest)
        ≡ Some (record { thread = thread_of last (suc k); routine = k; argument = argument (slot_program begins_ does) (suc k) rest })

    eqb_of : Option actions.Start → Bool
    eqb_of None = false
    eqb_of (Some s) = eqb s.thread (suc k)

    Goal : Option actions.Start → Type 0
    Goal start = model.start_or (thread_of last (suc k)) (option_map (start_with (thread_of last)) start) (model.start_of (thread_of last (suc k)) (events_with (thread_of last) rest))
        ≡ Some (record { thread = thread_of last (suc k); routine = k; argument = cond (begins (start_as start) (suc k)) (argument_of (start_as start)) (argument (slot_program begins_ does) (suc k) rest) })

    later : Later → (start : Option actions.Start) → started_by e.deed.action ≡ start → is_awake (grown_by (start_as start) made) (suc k) ≡ false
        → model.start_of (thread_of last (suc k)) (events_with (thread_of last) rest)
        ≡ Some (record { thread = thread_of last (suc k); routine = k; argument = argument (slot_program begins_ does) (suc k) rest })
    later ih start is still = ih (subst (λ (x : Option actions.Start). is_awake (grown_by (start_as x) made) (suc k) ≡ false) (sym is) still)

    goal : Later → (start : Option actions.Start) → started_by e.deed.action ≡ start → (b : Bool) → eqb_of start ≡ b → Goal start
    goal ih None is b f = later ih None is new
    goal ih (Some s) is true f =
        let here : s.thread ≡ suc k = eqb-true s.thread (suc k) f in
        let wells = named_start top (λ thread. thread) e.deed.action s named.0 is in
        let routine : s.routine ≡ k = (let z : suc s.routine ≡ suc k = sym wells.0 ∙ here in omega (arith, z)) in
        rw (here, routine) (rw (own (thread_of last (suc k)), own (suc k)) refl)
      where
        own : (n : ℕ) → eqb n n ≡ true
        own n = eq-eqb n n refl
    goal ih (Some s) is false f =
        let made_s : is_awake last s.thread ≡ true = (let all = (all_started (e ∷ rest) made awake).0 s is in subst (λ (x : List ℕ). is_awake x s.thread ≡ true) same all) in
        let apart : eqb (thread_of last s.thread) (thread_of last (suc k)) ≡ false = same_slots last s.thread (suc k) made_s a ∙ f in
        let may = subst (λ (x : Option actions.Start). may_start (start_as x) made ≡ true) is awake.1 in
        let still : is_awake (made ++ s.thread ∷ []) (suc k) ≡ false = awake_grown made s.thread (suc k) (new_start s.thread s.argument made may).1 ∙ rw f new in
        rw apart (rw f (later ih (Some s) is still))

    by : (start : Option actions.Start) → started_by e.deed.action ≡ start → (b : Bool) → eqb_of start ≡ b → Later
        → model.start_or (thread_of last (suc k)) (started_by (with_threads (thread_of last) e.deed.action)) (model.start_of (thread_of last (suc k)) (events_with (thread_of last) rest))
        ≡ Some (record { thread = thread_of last (suc k); routine = k; argument = cond (begins (start_as (started_by e.deed.action)) (suc k)) (argument_of (start_as (started_by e.deed.action))) (argument (slot_program begins_ does) (suc k) rest) })
    by start is b f ih = rw (started_with (thread_of last) e.deed.action, is) (goal ih start is b f)

-- ---- rounds

-- items of a list that rises
index_rises : (top low : ℕ) (made : List ℕ) (r q : ℕ) → RisesTo top low made → r < q → q < length made → slice_index made r < slice_index made q
index_rises top low [] r q h lt below = absurd (let z : ⊥ = omega (arith, below) in z)
index_rises top low (k ∷ ks) r zero h lt below = absurd (let z : ⊥ = omega (arith, lt) in z)
index_rises top low (k ∷ ks) zero (suc q) h lt below = (within top k ks q h.2 (omega (arith, below))).0
index_rises top low (k ∷ ks) (suc r) (suc q) h lt below = index_rises top k ks r q h.2 (omega (arith, lt)) (omega (arith, below))

-- slots are in the order of their threads
pub slot_rises : (top : ℕ) (made : List ℕ) (r q : ℕ) → RisesTo top 0 made → r < q → q < suc (length made) → slot_of made r < slot_of made q
slot_rises top made r zero h lt below = absurd (let z : ⊥ = omega (arith, lt) in z)
slot_rises top made zero (suc q) h lt below = (within top 0 made q h (omega (arith, below))).0
slot_rises top made (suc r) (suc q) h lt below = index_rises top 0 made r q h (omega (arith, lt)) (omega (arith, below))

-- threads are in the order of their slots
thread_order : (top : ℕ) (made : List ℕ) (u v : ℕ) → RisesTo top 0 made → is_awake made u ≡ true → is_awake made v ≡ true → nat_lt (thread_of made v) (thread_of made u) ≡ nat_lt v u
thread_order top made u v h a b = by (nat_lt (thread_of made v) (thread_of made u)) refl (nat_lt v u) refl
  where
    back_u : slot_of made (thread_of made u) ≡ u
    back_u = slot_thread made u (awake_is made u a)

    back_v : slot_of made (thread_of made v) ≡ v
    back_v = slot_thread made v (awake_is made v b)

    order : nat_lt (thread_of made v) (thread_of made u) ≡ true → v < u
    order e = let z = slot_rises top made (thread_of made v) (thread_of made u) h (grind (arith, e)) (awake_is made u a) in omega (arith, z, back_u, back_v)

    other : thread_of made u < thread_of made v → u < v
    other lt = let z = slot_rises top made (thread_of made u) (thread_of made v) h lt (awake_is made v b) in omega (arith, z, back_u, back_v)

    by : (x : Bool) → nat_lt (thread_of made v) (thread_of made u) ≡ x → (y : Bool) → nat_lt v u ≡ y → x ≡ y
    by true e true f = refl
    by false e false f = refl
    by true e false f = absurd (let z = order e in let n : v < u → ⊥ = grind (arith, f) in n z)
    by false e true f =
        let lt : v < u = grind (arith, f) in
        let ge : thread_of made u ≤ thread_of made v = grind (arith, e) in
        absurd (split (nat_lt (thread_of made u) (thread_of made v)) refl ge lt)
      where
        split : (c : Bool) → nat_lt (thread_of made u) (thread_of made v) ≡ c → thread_of made u ≤ thread_of made v → v < u → ⊥
        split true g ge lt = let z = other (grind (arith, g)) in let y : ⊥ = omega (arith, z, lt) in y
        split false g ge lt =
            let same : thread_of made u ≡ thread_of made v = (let z : thread_of made v ≤ thread_of made u = grind (arith, g) in omega (arith, z, ge)) in
            let one : u ≡ v = sym back_u ∙ ap (slot_of made) same ∙ back_v in
            let y : ⊥ = omega (arith, one, lt) in y

-- so events of threads go down where those of slots do
same_descents : (top : ℕ) (made : List ℕ) (es : List (deeds.Event Act)) → RisesTo top 0 made → AllMade made es → descents (map (λ (event : Event). event.thread) (events_with (thread_of made) es)) ≡ descents (threads_of es)
same_descents top made [] h all = refl
same_descents top made (e ∷ []) h all = refl
same_descents top made (e ∷ d ∷ rest) h all =
    let down = thread_order top made e.thread d.thread h all.0 all.1.0 in
    let ih : descents (thread_of made d.thread ∷ map (λ (event : Event). event.thread) (events_with (thread_of made) rest)) ≡ descents (d.thread ∷ threads_of rest) = same_descents top made (d ∷ rest) h all.1 in
    ap (λ (b : Bool). cond b 1 0 + descents (thread_of made d.thread ∷ map (λ (event : Event). event.thread) (events_with (thread_of made) rest))) down
    ∙ ap (λ (n : ℕ). cond (nat_lt d.thread e.thread) 1 0 + n) ih

-- ---- the run

-- what each thread does is what the process lets it do
module _ (top : ℕ) (process : Process) (does : ℕ → ℕ → List Act → Type 0) (goes : GoesBySlots top process does) (es : List (deeds.Event Act))
    (parts : (u : ℕ) → deeds.IsPart (slot_program process.begins does) u es) (awake : AllAwake [] es) (one : length process.begins.threads ≡ 1)
    (on : course (events_with (thread_of (made_in [] es)) es) process.begins ≢ stuck) where
  -- the slots that are made in the end
  last : List ℕ
  last = made_in [] es

  -- every event is named well
  named : AllNamed top es
  named = parts_named top es (λ u. goes.slots_are u _ (part u es) (parts u))

  -- slot 0 alone starts others
  only : OnlyMain es
  only = parts_alone es (λ k. goes.slots_alone k _ (part (suc k) es) (parts (suc k)))

  -- every event is of a slot that is made
  there_all : AllMade (made_in [] es) es
  there_all = all_made es [] awake

  -- the slots that are made rise
  rises : RisesTo top 0 (made_in [] es)
  rises = made_rises top es [] tt awake named

  -- thread 0 does what main may
  main_does : process.main (model.part 0 (events_with (thread_of (made_in [] es)) es))
  main_does =
      let numbered : CreatesFrom (model.part 0 (events_with (thread_of (made_in [] es)) es)) 1 =
      subst (CreatesFrom (model.part 0 (events_with (thread_of (made_in [] es)) es))) one
      (numbered_run (events_with (thread_of (made_in [] es)) es) process.begins on (main_creates (thread_of (made_in [] es)) refl es only)) in
      let same = part_with (made_in [] es) 0 es (is_awake_at (made_in [] es) 0 (omega arith)) there_all in
      subst process.main (sym same) (goes.main_back (thread_of (made_in [] es)) refl (part 0 es) (parts 0) (subst (λ (x : List Act). CreatesFrom x 1) same numbered))

  -- a thread that is started does what its routine may
  started_does : (k : ℕ) → is_awake (made_in [] es) (suc k) ≡ true
      → MayDo process (model.start_of (thread_of (made_in [] es) (suc k)) (events_with (thread_of (made_in [] es)) es)) (model.part (thread_of (made_in [] es) (suc k)) (events_with (thread_of (made_in [] es)) es))
  started_does k a =
      let same = part_with (made_in [] es) (suc k) es a there_all in
      let begun : does (suc k) (argument (slot_program process.begins does) (suc k) es) (part (suc k) es) =
      subst (λ (b : Bool). does (suc k) (cond (not b) (argument (slot_program process.begins does) (suc k) es) 0) (part (suc k) es)) (none_awake k) (parts (suc k)) in
      let is = start_is top process.begins does (made_in [] es) k es [] refl a (none_awake k) awake named in
      subst (λ (x : Option actions.Start). MayDo process x (model.part (thread_of (made_in [] es) (suc k)) (events_with (thread_of (made_in [] es)) es))) (sym is)
      (subst (process.started k (argument (slot_program process.begins does) (suc k) es)) (sym same) (goes.started_back (thread_of (made_in [] es)) refl k (argument (slot_program process.begins does) (suc k) es) (part (suc k) es) begun))

  -- each thread does what it may
  each_does : (q : ℕ) → MayDoIn process (events_with (thread_of (made_in [] es)) es) q (model.part q (events_with (thread_of (made_in [] es)) es))
  each_does zero = main_does
  each_does (suc r) = by (nat_lt r (length (made_in [] es))) refl
    where
      by : (b : Bool) → nat_lt r (length (made_in [] es)) ≡ b → MayDo process (model.start_of (suc r) (events_with (thread_of (made_in [] es)) es)) (model.part (suc r) (events_with (thread_of (made_in [] es)) es))
      by true e = at (slice_index (made_in [] es) r) refl
        where
          below : r < length (made_in [] es)
          below = grind (arith, e)

          at : (u : ℕ) → slice_index (made_in [] es) r ≡ u → MayDo process (model.start_of (suc r) (events_with (thread_of (made_in [] es)) es)) (model.part (suc r) (events_with (thread_of (made_in [] es)) es))
          at zero f = absurd (let z = (within top 0 (made_in [] es) r rises below).0 in let y : ⊥ = omega (arith, z, f) in y)
          at (suc k) f =
              let thread : thread_of (made_in [] es) (suc k) ≡ suc r = (ap (thread_of (made_in [] es)) (sym f) ∙ thread_slot top (made_in [] es) (suc r) rises (omega (arith, below))) in
              subst (λ (q : ℕ). MayDo process (model.start_of q (events_with (thread_of (made_in [] es)) es)) (model.part q (events_with (thread_of (made_in [] es)) es))) thread
              (started_does k (is_awake_at (made_in [] es) (suc k) (omega (arith, thread, below))))
      by false e =
          let past : length (made_in [] es) < suc r = (let z : length (made_in [] es) ≤ r = grind (arith, e) in omega (arith, z)) in
          subst (λ (x : Option actions.Start). MayDo process x (model.part (suc r) (events_with (thread_of (made_in [] es)) es))) (sym (past_start (made_in [] es) (suc r) es past (all_started es [] awake)))
          (past_part (made_in [] es) (suc r) es past there_all)

-- a run of slots that breaks is a run of the process that breaks alike, in as many rounds
pub record ByThreads (process : Process) (rounds : ℕ) (kind : BreakKind) (line : ℕ) (es : List (deeds.Event Act)) : Type 0 where
  pub broken_ : IsBrokenRun process (by_threads [] es) kind line
  pub few : rounds_of_run (by_threads [] es) ≤ rounds
  pub named_ : by_threads [] es ≡ events_with (thread_of (made_in [] es)) es

-- so it is with every run of slots that breaks
pub runs_by_threads : (top : ℕ) (process : Process) (does : ℕ → ℕ → List Act → Type 0) → GoesBySlots top process does → length process.begins.threads ≡ 1
    → (rounds : ℕ) (kind : BreakKind) (line : ℕ) (es : List (deeds.Event Act)) → IsBrokenRunOf (slot_program process.begins does) rounds kind line es → ByThreads process rounds kind line es
runs_by_threads top process does goes one rounds kind line es is =
    let tale = told process.begins does kind line es [] process.begins one is.breaks in
    let run = events_with (thread_of (made_in [] es)) es in
    let ends : course run process.begins ≡ broken kind line = ap (λ (x : List Event). course x process.begins) (sym tale.same) ∙ tale.ends in
    let on : course run process.begins ≢ stuck = (λ h. let z : broken kind line ≡ stuck = sym ends ∙ h in cc) in
    let each = each_does top process does goes es is.parts tale.awake one on in
    let down = same_descents top (made_in [] es) es (rises top process does goes es is.parts tale.awake one on) (all_made es [] tale.awake) in
    record {
      broken_ = subst (λ (x : List Event). IsBrokenRun process x kind line) (sym tale.same) (record { is = record { parts = each; goes = on }; breaks = ends });
      few = subst (λ (x : List Event). rounds_of_run x ≤ rounds) (sym tale.same) (let f = is.few in omega (arith, down, f));
      named_ = tale.same;
    }
