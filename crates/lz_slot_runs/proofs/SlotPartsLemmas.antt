-- What each slot does in the run by slots is what its thread does in the run of the process.
use Rattle.std.proofs.Common.{◌≡◌, ◌≢◌, ℕ, zero, suc, ◌+◌, ◌≤◌, ◌<◌, Bool, true, false, not, cond, List, [], ◌∷◌, ◌++◌, length, map, nat_lt, eqb, refl, sym, ◌∙◌, ap, subst, arith, Option, Some, None}
use Rattle.std.specs.Prelude.{slice_index}
use Rattle.std.proofs.lemmas.Bool.{eqb-true, eqb-false, eq-eqb, ne_eqb}
use Rattle.std.proofs.lemmas.List.{append-nil, length-append}
use Rattle.lz_base.specs.Descents.{descents}
use Rattle.lz_base.specs.declared.word.BreakKind.{BreakKind}
use Rattle.lz_model.specs.declared.actions.Action.{Action}
use Rattle.lz_model.specs.declared.actions.Action.TheVariants.{Loc, Input, Check, Assume, Rd, Wr, Reset, Lock, Unlock, Park, Wake, Signal, Broadcast, Create, Join, HoldOn, HoldOff, End}
use Rattle.lz_model.specs.declared.actions.Event.{Event}
use Rattle.lz_model.specs.Actions.{Act, act_of, event_of, started_by}
use Rattle.lz_model.specs.Actions as actions
use Rattle.lz_model.specs.Store.{State, Acted, went, blocked, broke, act}
use Rattle.lz_model.specs.Interleavings as model
use Rattle.lz_model.specs.Interleavings.{Process, course, course_after, going, stuck, broken, MayDo, MayDoIn, IsRun}
use Rattle.lz_model.specs.BrokenRuns.{IsBrokenRun, rounds_of_run}
use Rattle.lz_model.proofs.OneRunLemmas.{is_made_here, goes_here}
use Rattle.lz_sync.specs.Slots.{place_in, thread_of, slot_of, RisesTo}
use Rattle.lz_sync.proofs.SlotsLemmas.{thread_slot, slot_thread, within, same_test}
use Rattle.lz_interleave.specs.Deeds.{Start, no_start, starts, begins, argument_of, chosen, part, argument, threads_of, ends_broken, ending, IsBrokenRunOf}
use Rattle.lz_interleave.specs.Deeds as deeds
use Rattle.lz_slot_runs.specs.SlotRuns.{is_awake, grown_by, slot_program, act_with, acts_with, by_slots, routines_of, routine_before, IsNamedWell, AreNamedWell, GoesBySlots}
use Rattle.lz_slot_runs.proofs.AwakeLemmas.{awake_is, is_awake_at, none_awake}
use Rattle.lz_slot_runs.proofs.NamesLemmas.{started_with, threads_grow, threads_stay, breaks_starts_none}
use Rattle.lz_slot_runs.proofs.ThereLemmas.{MainCreates, next_made, slot_rises}
use Rattle.lz_slot_runs.proofs.BackLemmas.{woken_is_made}
use Rattle.lz_slot_runs.proofs.ToSlotsLemmas.{slots_of, slots_first, slotted_start, At, at_after, Made, makes_next, slots_break}

-- ---- of every event

-- it is of a thread that is made in the end, and its action is named well by slots
abbrev pub AllFine : ℕ → List ℕ → List Event → Type 0
AllFine top last [] = Unit
AllFine top last (e ∷ rest) = (e.thread < suc (length last)) × IsNamedWell top (slot_of last) e.action × AllFine top last rest

-- an action is named well if what it starts and whom it wakes are
well : (top : ℕ) (f : ℕ → ℕ) (a : Action) → ((s : actions.Start) → started_by a ≡ Some s → (f s.thread ≡ suc s.routine) × (f s.thread < top)) → ((c w : ℕ) → a ≡ Signal c (Some w) → f w < top) → IsNamedWell top f a
well top f Loc new wakes = tt
well top f (Input v) new wakes = tt
well top f (Check v kind) new wakes = tt
well top f (Assume v) new wakes = tt
well top f (Rd cell v) new wakes = tt
well top f (Wr cell v) new wakes = tt
well top f (Reset m) new wakes = tt
well top f (Lock m) new wakes = tt
well top f (Unlock m) new wakes = tt
well top f (Park c m) new wakes = tt
well top f (Wake c m) new wakes = tt
well top f (Signal c None) new wakes = tt
well top f (Signal c (Some w)) new wakes = wakes c w refl
well top f (Broadcast c) new wakes = tt
well top f (Create d start v) new wakes = new (record { thread = d; routine = start; argument = v }) refl
well top f (Join d) new wakes = tt
well top f HoldOn new wakes = tt
well top f HoldOff new wakes = tt
well top f (End w) new wakes = tt

-- no more slots are made than in the end
made_within : (top : ℕ) (last made : List ℕ) (run : List Event) (s : State) → At top last made run s → length s.threads ≤ suc (length last)
made_within top last made run s at =
    let long = length-append made (slots_of run) in
    let same = ap (λ (x : List ℕ). length x) at.is in
    let size = at.size in
    omega (arith, long, same, size)

-- the slot of a thread that is made in the end is below top
slot_below : (top : ℕ) (last : List ℕ) (t : ℕ) → 0 < top → RisesTo top 0 last → t < suc (length last) → slot_of last t < top
slot_below top last zero some rises lt = some
slot_below top last (suc r) some rises lt = (within top 0 last r rises (omega (arith, lt))).1

-- one event that is not blocked
fine : (top : ℕ) (last made : List ℕ) (e : Event) (rest : List Event) (s : State) → 0 < top → At top last made (e ∷ rest) s → act s e.thread e.action ≢ blocked → (e.thread ≢ 0 → started_by e.action ≡ None)
    → (e.thread < suc (length last)) × IsNamedWell top (slot_of last) e.action
fine top last made e rest s some at goes main = (thread, well top (slot_of last) e.action new wakes)
  where
    most : length s.threads ≤ suc (length last)
    most = made_within top last made (e ∷ rest) s at

    thread : e.thread < suc (length last)
    thread = let z = is_made_here s e.thread e.action goes in let y = most in omega (arith, z, y)

    new : (start : actions.Start) → started_by e.action ≡ Some start → (slot_of last start.thread ≡ suc start.routine) × (slot_of last start.thread < top)
    new start is =
        let next = makes_next top last made start rest (at.is ∙ ap (λ (x : List ℕ). made ++ x) (slots_first e rest main ∙ rw is refl)) at.rises
        (let z = next_made s e.thread e.action start is goes in let y = at.size in omega (arith, z, y)) in
        let slot = next.slot in
        let below = next.most in
        (slot, omega (arith, slot, below))

    wakes : (c w : ℕ) → e.action ≡ Signal c (Some w) → slot_of last w < top
    wakes c w is = slot_below top last w some at.rises (let z = woken_is_made s e.thread c w (subst (λ (a : Action). act s e.thread a ≢ blocked) is goes) in let y = most in omega (arith, z, y))

-- so with every event of a run
all_fine : (top : ℕ) (last : List ℕ) (run : List Event) (made : List ℕ) (s : State) → 0 < top → At top last made run s → MainCreates run → course run s ≢ stuck → AllFine top last run
all_fine top last [] made s some at main on = tt
all_fine top last (e ∷ rest) made s some at main on =
    let goes = goes_here e rest s on in
    let here = fine top last made e rest s some at goes main.0 in
    (here.0, here.1, by (act s e.thread e.action) refl on (λ made2 s2 next more. all_fine top last rest made2 s2 some next main.1 more))
  where
    by : (acted : Acted) → act s e.thread e.action ≡ acted → course_after acted e.line rest (course rest) ≢ stuck
        → ((made2 : List ℕ) (s2 : State) → At top last made2 rest s2 → course rest s2 ≢ stuck → AllFine top last rest) → AllFine top last rest
    by (went s2) is more later = later (grown_by (slotted_start (slot_of last) (started_by e.action)) made) s2 (at_after top last made e rest s s2 at is main.0) more
    by blocked is more later = absurd (more refl)
    by (broke kind) is more later = last_one rest more
      where
        last_one : (rest : List Event) → course_after (broke kind) e.line rest (course rest) ≢ stuck → AllFine top last rest
        last_one [] more = tt
        last_one (d ∷ rest) more = absurd (more refl)

-- a thread's part is named well
part_fine : (top : ℕ) (last : List ℕ) (t : ℕ) (run : List Event) → AllFine top last run → AreNamedWell top (slot_of last) (model.part t run)
part_fine top last t [] all = tt
part_fine top last t (e ∷ rest) all = by (eqb e.thread t) (part_fine top last t rest all.2)
  where
    by : (b : Bool) → AreNamedWell top (slot_of last) (model.part t rest) → AreNamedWell top (slot_of last) (cond b (act_of e ∷ model.part t rest) (model.part t rest))
    by true h = (all.1, h)
    by false h = h

-- ---- parts

-- two threads that are made in the end are one exactly if their slots are
same_threads : (top : ℕ) (last : List ℕ) (q t : ℕ) → RisesTo top 0 last → q < suc (length last) → t < suc (length last) → eqb (slot_of last q) (slot_of last t) ≡ eqb q t
same_threads top last q t rises lq lt = same_test (slot_of last q) (slot_of last t) q t
    (λ e. sym (thread_slot top last q rises lq) ∙ ap (thread_of last) e ∙ thread_slot top last t rises lt)
    (λ e. ap (slot_of last) e)

-- the part of a thread's slot
slot_part : (top : ℕ) (last : List ℕ) (t : ℕ) (run : List Event) → RisesTo top 0 last → t < suc (length last) → AllFine top last run → part (slot_of last t) (by_slots last run) ≡ acts_with (slot_of last) (model.part t run)
unfolding part
slot_part top last t [] rises lt all = refl
slot_part top last t (e ∷ rest) rises lt all = by (eqb (slot_of last e.thread) (slot_of last t)) (eqb e.thread t) (same_threads top last e.thread t rises all.0 lt) (slot_part top last t rest rises lt all.2)
  where
    by : (b c : Bool) → b ≡ c → part (slot_of last t) (by_slots last rest) ≡ acts_with (slot_of last) (model.part t rest)
        → chosen b (act_with (slot_of last) (act_of e)) (part (slot_of last t) (by_slots last rest)) ≡ acts_with (slot_of last) (cond c (act_of e ∷ model.part t rest) (model.part t rest))
    by true true is ih = ap (λ (xs : List Act). act_with (slot_of last) (act_of e) ∷ xs) ih
    by true false is ih = absurd cc
    by false true is ih = absurd cc
    by false false is ih = ih

-- a slot that is never made does nothing
no_part : (top : ℕ) (last : List ℕ) (u : ℕ) (run : List Event) → RisesTo top 0 last → is_awake last u ≡ false → AllFine top last run → part u (by_slots last run) ≡ []
unfolding part
no_part top last u [] rises none all = refl
no_part top last u (e ∷ rest) rises none all =
    rw (ne_eqb (slot_of last e.thread) u (λ same. never same)) (no_part top last u rest rises none all.2)
  where
    never : slot_of last e.thread ≡ u → ⊥
    never same =
        let back = thread_slot top last e.thread rises all.0 in
        let at : thread_of last u ≡ e.thread = ap (thread_of last) (sym same) ∙ back in
        let lt = all.0 in
        let awake = is_awake_at last u (omega (arith, at, lt)) in
        let z : true ≡ false = sym awake ∙ none in
        cc

-- ---- what starts a thread

-- the start of a thread in the run, and the argument of its slot
record Begun (begins_ : State) (does : ℕ → ℕ → List Act → Type 0) (last : List ℕ) (r k : ℕ) (run : List Event) : Type 0 where
  value : ℕ
  is : model.start_of (suc r) run ≡ Some (record { thread = suc r; routine = k; argument = value })
  given : argument (slot_program begins_ does) (suc k) (by_slots last run) ≡ value

-- at an event that creates: it is this thread's start, or a later one is
begun_here : (top : ℕ) (begins_ : State) (does : ℕ → ℕ → List Act → Type 0) (last made : List ℕ) (r k : ℕ) (e : Event) (rest : List Event) (s : State) (start : actions.Start) → At top last made (e ∷ rest) s
    → started_by e.action ≡ Some start → Made top last made start rest → start.thread ≡ length s.threads → r < length last → slice_index last r ≡ suc k
    → (eqb start.thread (suc r) ≡ false → Begun begins_ does last r k rest) → Begun begins_ does last r k (e ∷ rest)
unfolding argument
begun_here top begins_ does last made r k e rest s start at is next number below slot later = by (eqb start.thread (suc r)) refl
  where
    by : (b : Bool) → eqb start.thread (suc r) ≡ b → Begun begins_ does last r k (e ∷ rest)
    by true f =
        let here : start.thread ≡ suc r = eqb-true start.thread (suc r) f in
        let mine : slot_of last start.thread ≡ suc k = ap (slot_of last) here ∙ slot in
        let routine : start.routine ≡ k = (let z : suc start.routine ≡ suc k = sym next.slot ∙ mine in omega (arith, z)) in
        record {
          value = start.argument;
          is = rw (is, f) (rw (here, routine) refl);
          given = rw (started_with (slot_of last) e.action, is) (rw mine (rw (eq-eqb (suc k) (suc k) refl) refl));
        }
    by false f =
        let more = later f in
        let apart : eqb (slot_of last start.thread) (suc k) ≡ false = subst (λ (w : ℕ). eqb (slot_of last start.thread) w ≡ false) slot
        (same_threads top last start.thread (suc r) at.rises (let z = made_number in omega (arith, z)) (omega (arith, below)) ∙ f) in
        record {
          value = more.value;
          is = rw (is, f) more.is;
          given = rw (started_with (slot_of last) e.action, is) (rw apart more.given);
        }
      where
        made_number : start.thread < suc (length last)
        made_number =
            let same = ap (λ (x : List ℕ). length x) next.after in
            let long = length-append (made ++ slot_of last start.thread ∷ []) (slots_of rest) in
            let one = length-append made (slot_of last start.thread ∷ []) in
            let size = at.size in
            omega (arith, same, long, one, size, number)

-- at an event that creates none: a later one is
begun_later : (begins_ : State) (does : ℕ → ℕ → List Act → Type 0) (last : List ℕ) (r k : ℕ) (e : Event) (rest : List Event) → started_by e.action ≡ None → Begun begins_ does last r k rest → Begun begins_ does last r k (e ∷ rest)
unfolding argument
begun_later begins_ does last r k e rest f more =
    record { value = more.value; is = rw f more.is; given = rw (started_with (slot_of last) e.action, f) more.given }

-- a thread that is made later is started by one of these events
begun : (top : ℕ) (begins_ : State) (does : ℕ → ℕ → List Act → Type 0) (last : List ℕ) (r k : ℕ) (run : List Event) (made : List ℕ) (s : State) → At top last made run s → MainCreates run → course run s ≢ stuck
    → length s.threads ≤ suc r → r < length last → slice_index last r ≡ suc k → Begun begins_ does last r k run
unfolding argument
begun top begins_ does last r k [] made s at main on few below slot =
    absurd (let same = ap (λ (x : List ℕ). length x) (at.is ∙ append-nil made) in let size = at.size in let z : ⊥ = omega (arith, same, size, few, below) in z)
begun top begins_ does last r k (e ∷ rest) made s at main on few below slot =
    by (act s e.thread e.action) refl (started_by e.action) refl on (λ made2 s2 next more less. begun top begins_ does last r k rest made2 s2 next main.1 more less below slot)
  where
    goes : act s e.thread e.action ≢ blocked
    goes = goes_here e rest s on

    by : (acted : Acted) → act s e.thread e.action ≡ acted → (start : Option actions.Start) → started_by e.action ≡ start → course_after acted e.line rest (course rest) ≢ stuck
        → ((made2 : List ℕ) (s2 : State) → At top last made2 rest s2 → course rest s2 ≢ stuck → length s2.threads ≤ suc r → Begun begins_ does last r k rest) → Begun begins_ does last r k (e ∷ rest)
    by (went s2) is None f more later =
        begun_later begins_ does last r k e rest f
        (later (grown_by (slotted_start (slot_of last) (started_by e.action)) made) s2 (at_after top last made e rest s s2 at is main.0) more (let z = threads_stay s e.thread e.action s2 is f in omega (arith, z, few)))
    by (went s2) is (Some start) f more later =
        let number = next_made s e.thread e.action start f goes in
        let next = makes_next top last made start rest (at.is ∙ ap (λ (x : List ℕ). made ++ x) (slots_first e rest main.0 ∙ rw f refl)) at.rises (let y = at.size in omega (arith, number, y)) in
        begun_here top begins_ does last made r k e rest s start at f next number below slot
        (λ other. later (grown_by (slotted_start (slot_of last) (started_by e.action)) made) s2 (at_after top last made e rest s s2 at is main.0) more
        (let grown = threads_grow s e.thread e.action s2 start is f in let apart = eqb-false start.thread (suc r) other in less_of (length s.threads) (length s2.threads) start.thread number grown apart few))
      where
        less_of : (n m t : ℕ) → t ≡ n → m ≡ suc n → (t ≡ suc r → ⊥) → n ≤ suc r → m ≤ suc r
        less_of n m t a b apart le = by_ (nat_lt n (suc r)) refl
          where
            by_ : (c : Bool) → nat_lt n (suc r) ≡ c → m ≤ suc r
            by_ true e = let z : n < suc r = grind (arith, e) in omega (arith, z, b)
            by_ false e = absurd (apart (let z : suc r ≤ n = grind (arith, e) in omega (arith, z, le, a)))
    by blocked is start f more later = absurd (more refl)
    by (broke kind) is start f more later = absurd (ends rest at.is main.0 more)
      where
        ends : (rest : List Event) → last ≡ made ++ slots_of (e ∷ rest) → (e.thread ≢ 0 → started_by e.action ≡ None) → course_after (broke kind) e.line rest (course rest) ≢ stuck → ⊥
        ends [] all main more =
            let none = breaks_starts_none s e.thread e.action kind is in
            let same : last ≡ made = all ∙ ap (λ (x : List ℕ). made ++ x) (slots_first e [] main ∙ rw none refl) ∙ append-nil made in
            let long = ap (λ (x : List ℕ). length x) same in
            let size = at.size in
            let z : ⊥ = omega (arith, long, size, few, below) in
            z
        ends (d ∷ rest) all main more = more refl

-- ---- rounds

-- slots are in the order of their threads
slot_order : (top : ℕ) (last : List ℕ) (t q : ℕ) → RisesTo top 0 last → t < suc (length last) → q < suc (length last) → nat_lt (slot_of last q) (slot_of last t) ≡ nat_lt q t
slot_order top last t q rises lt lq = by (nat_lt q t) refl (nat_lt t q) refl
  where
    by : (x : Bool) → nat_lt q t ≡ x → (y : Bool) → nat_lt t q ≡ y → nat_lt (slot_of last q) (slot_of last t) ≡ x
    by true e y f = let z = slot_rises top last q t rises (grind (arith, e)) lt in grind (arith, z)
    by false e true f = let z = slot_rises top last t q rises (grind (arith, f)) lq in grind (arith, z)
    by false e false f =
        let one : q ≡ t = (let z : t ≤ q = grind (arith, e) in let y : q ≤ t = grind (arith, f) in omega (arith, z, y)) in
        subst (λ (w : ℕ). nat_lt (slot_of last w) (slot_of last t) ≡ false) (sym one) (let z : slot_of last t ≤ slot_of last t = omega arith in grind (arith, z))

-- so events of slots go down where those of threads do
slot_descents : (top : ℕ) (last : List ℕ) (run : List Event) → RisesTo top 0 last → AllFine top last run → descents (threads_of (by_slots last run)) ≡ descents (map (λ (event : Event). event.thread) run)
slot_descents top last [] rises all = refl
slot_descents top last (e ∷ []) rises all = refl
slot_descents top last (e ∷ d ∷ rest) rises all =
    let down = slot_order top last e.thread d.thread rises all.0 all.2.0 in
    let ih : descents (slot_of last d.thread ∷ threads_of (by_slots last rest)) ≡ descents (d.thread ∷ map (λ (event : Event). event.thread) rest) = slot_descents top last (d ∷ rest) rises all.2 in
    ap (λ (b : Bool). cond b 1 0 + descents (slot_of last d.thread ∷ threads_of (by_slots last rest))) down
    ∙ ap (λ (n : ℕ). cond (nat_lt d.thread e.thread) 1 0 + n) ih

-- ---- the run

-- no thread but 0 creates one
creates_alone : (run : List Event) → ((k : ℕ) → routines_of (model.part (suc k) run) ≡ []) → MainCreates run
creates_alone [] all = tt
creates_alone (e ∷ rest) all = ((λ other. by e.thread refl other), creates_alone rest (λ k. later k (eqb e.thread (suc k)) (all k)))
  where
    none_first : (start : Option actions.Start) → (rest : List ℕ) → routine_before start rest ≡ [] → (start ≡ None) × (rest ≡ [])
    none_first None rest h = (refl, h)
    none_first (Some s) rest h = absurd cc

    by : (t : ℕ) → e.thread ≡ t → e.thread ≢ 0 → started_by e.action ≡ None
    by zero is other = absurd (other is)
    by (suc k) is other = first (eqb e.thread (suc k)) refl (all k)
      where
        first : (b : Bool) → eqb e.thread (suc k) ≡ b → routines_of (cond b (act_of e ∷ model.part (suc k) rest) (model.part (suc k) rest)) ≡ [] → started_by e.action ≡ None
        first true f h = (none_first (started_by e.action) (routines_of (model.part (suc k) rest)) h).0
        first false f h = absurd (eqb-false e.thread (suc k) f is)

    later : (k : ℕ) (b : Bool) → routines_of (cond b (act_of e ∷ model.part (suc k) rest) (model.part (suc k) rest)) ≡ [] → routines_of (model.part (suc k) rest) ≡ []
    later k true h = (none_first (started_by e.action) (routines_of (model.part (suc k) rest)) h).1
    later k false h = h

module _ (top : ℕ) (process : Process) (does : ℕ → ℕ → List Act → Type 0) (goes : GoesBySlots top process does) (some : 0 < top) (one : length process.begins.threads ≡ 1)
    (run : List Event) (is : IsRun process run) where
  -- what a thread does that is started creates none
  alone : (k : ℕ) → routines_of (model.part (suc k) run) ≡ []
  alone k = by (model.start_of (suc k) run) (is.parts (suc k))
    where
      by : (start : Option actions.Start) → MayDo process start (model.part (suc k) run) → routines_of (model.part (suc k) run) ≡ []
      by None h = rw h refl
      by (Some start) h = goes.main_alone start.routine start.argument (model.part (suc k) run) h

  -- thread 0 alone creates threads
  main_makes : MainCreates run
  main_makes = creates_alone run alone

  -- the slots that it makes rise
  rising : RisesTo top 0 (slots_of run)
  rising = goes.main_rises (model.part 0 run) (is.parts 0)

  -- what holds at the first event
  first_at : At top (slots_of run) [] run process.begins
  first_at = record { is = refl; rises = rising; size = one }

  -- every event is of a thread that is made in the end, and named well
  fine_all : AllFine top (slots_of run) run
  fine_all = all_fine top (slots_of run) run [] process.begins some first_at main_makes is.goes

  -- each slot does what it may
  slot_does : (u : ℕ) → deeds.IsPart (slot_program process.begins does) u (by_slots (slots_of run) run)
  slot_does zero =
      subst (does 0 0) (sym (slot_part top (slots_of run) 0 run rising (omega arith) fine_all))
      (goes.main_there (slot_of (slots_of run)) refl (model.part 0 run) (is.parts 0) (part_fine top (slots_of run) 0 run fine_all))
  slot_does (suc k) = by (is_awake (slots_of run) (suc k)) refl
    where
      argued : ℕ
      argued = argument (slot_program process.begins does) (suc k) (by_slots (slots_of run) run)

      asleep_now : does (suc k) argued (part (suc k) (by_slots (slots_of run) run)) → deeds.IsPart (slot_program process.begins does) (suc k) (by_slots (slots_of run) run)
      asleep_now h = subst (λ (b : Bool). does (suc k) (cond (not b) argued 0) (part (suc k) (by_slots (slots_of run) run))) (sym (none_awake k)) h

      by : (b : Bool) → is_awake (slots_of run) (suc k) ≡ b → deeds.IsPart (slot_program process.begins does) (suc k) (by_slots (slots_of run) run)
      by false f = asleep_now (subst (does (suc k) argued) (sym (no_part top (slots_of run) (suc k) run rising f fine_all)) (goes.none (suc k) argued))
      by true f = at (place_in (slots_of run) (suc k)) refl
        where
          lt : thread_of (slots_of run) (suc k) < suc (length (slots_of run))
          lt = awake_is (slots_of run) (suc k) f

          at : (r : ℕ) → place_in (slots_of run) (suc k) ≡ r → deeds.IsPart (slot_program process.begins does) (suc k) (by_slots (slots_of run) run)
          at r e =
              let slot : slice_index (slots_of run) r ≡ suc k = (ap (λ (n : ℕ). slice_index (slots_of run) n) (sym e) ∙ slot_thread (slots_of run) (suc k) lt) in
              let below : r < length (slots_of run) = (let z = lt in omega (arith, z, e)) in
              let known = begun top process.begins does (slots_of run) r k run [] process.begins first_at main_makes is.goes (omega (arith, one)) below slot in
              let may : process.started k known.value (model.part (suc r) run) = subst (λ (x : Option actions.Start). MayDo process x (model.part (suc r) run)) known.is (is.parts (suc r)) in
              let there = goes.started_there (slot_of (slots_of run)) refl k known.value (model.part (suc r) run) may (part_fine top (slots_of run) (suc r) run fine_all) in
              let mine : part (suc k) (by_slots (slots_of run) run) ≡ acts_with (slot_of (slots_of run)) (model.part (suc r) run) =
              subst (λ (w : ℕ). part w (by_slots (slots_of run) run) ≡ acts_with (slot_of (slots_of run)) (model.part (suc r) run)) slot (slot_part top (slots_of run) (suc r) run rising (omega (arith, below)) fine_all) in
              asleep_now (subst (does (suc k) argued) (sym mine) (subst (λ (v : ℕ). does (suc k) v (acts_with (slot_of (slots_of run)) (model.part (suc r) run))) (sym known.given) there))

-- a run of the process that breaks is a run of slots that breaks alike, in as many rounds
pub runs_by_slots : (top : ℕ) (process : Process) (does : ℕ → ℕ → List Act → Type 0) → GoesBySlots top process does → 0 < top → length process.begins.threads ≡ 1
    → (rounds : ℕ) (kind : BreakKind) (line : ℕ) (run : List Event) → IsBrokenRun process run kind line → rounds_of_run run ≤ rounds
    → IsBrokenRunOf (slot_program process.begins does) rounds kind line (by_slots (slots_of run) run)
runs_by_slots top process does goes some one rounds kind line run is few_ =
    let down = slot_descents top (slots_of run) run (rising top process does goes some one run is.is) (fine_all top process does goes some one run is.is) in
    record {
      few = omega (arith, down, few_);
      breaks = slots_break top process.begins does kind line (slots_of run) run [] process.begins (first_at top process does goes some one run is.is) (main_makes top process does goes some one run is.is) is.breaks;
      parts = slot_does top process does goes some one run is.is;
    }
