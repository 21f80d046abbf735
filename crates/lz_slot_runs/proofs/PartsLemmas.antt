-- What each thread does in the run by threads is what its slot does in the run by slots.
use Rattle.std.proofs.Common.{◌≡◌, ℕ, suc, ◌<◌, Bool, true, false, cond, List, [], ◌∷◌, length, eqb, refl, sym, ◌∙◌, ap, subst, arith, Option, Some, None}
use Rattle.std.proofs.lemmas.Bool.{eqb-false, ne_eqb}
use Rattle.lz_model.specs.declared.actions.Action.{Action}
use Rattle.lz_model.specs.declared.actions.Action.TheVariants.{Loc, Input, Check, Assume, Rd, Wr, Reset, Lock, Unlock, Park, Wake, Signal, Broadcast, Create, Join, HoldOn, HoldOff, End}
use Rattle.lz_model.specs.Actions.{Act, act_of, event_of, started_by}
use Rattle.lz_model.specs.Actions as actions
use Rattle.lz_model.specs.Interleavings as model
use Rattle.lz_sync.specs.Slots.{thread_of, slot_of, RisesTo}
use Rattle.lz_sync.proofs.SlotsLemmas.{same_test, slot_thread}
use Rattle.lz_interleave.specs.Deeds.{Start, no_start, starts, begins, argument_of, chosen, part, argument}
use Rattle.lz_interleave.specs.Deeds as deeds
use Rattle.lz_slot_runs.specs.SlotRuns.{is_awake, start_in, start_as, grown_by, may_start, with_threads, act_with, acts_with, made_in, events_with, routines_of, routine_before, IsNamedWell, AreNamedWell}
use Rattle.lz_slot_runs.proofs.AwakeLemmas.{awake_is, new_start, rises_on, awake_grown}
use Rattle.lz_slot_runs.proofs.NamesLemmas.{started_with}
use Rattle.lz_slot_runs.proofs.ToThreadsLemmas.{AllAwake, made_kept}

-- ---- of every event

-- each event's action is named well, below top
abbrev pub AllNamed : ℕ → List (deeds.Event Act) → Type 0
AllNamed top [] = Unit
AllNamed top (e ∷ rest) = IsNamedWell top (λ thread. thread) e.deed.action × AllNamed top rest

-- each event is of a slot that is made in the end
abbrev pub AllMade : List ℕ → List (deeds.Event Act) → Type 0
AllMade made [] = Unit
AllMade made (e ∷ rest) = (is_awake made e.thread ≡ true) × AllMade made rest

-- no slot but 0 starts one
abbrev pub OnlyMain : List (deeds.Event Act) → Type 0
OnlyMain [] = Unit
OnlyMain (e ∷ rest) = ((k : ℕ) → e.thread ≡ suc k → started_by e.deed.action ≡ None) × OnlyMain rest

-- what holds of each slot's part holds of each event
pub parts_named : (top : ℕ) (es : List (deeds.Event Act)) → ((u : ℕ) → AreNamedWell top (λ thread. thread) (part u es)) → AllNamed top es
unfolding part
parts_named top [] all = tt
parts_named top (e ∷ rest) all = (first (eqb e.thread e.thread) refl (all e.thread), parts_named top rest (λ u. later u (eqb e.thread u) (all u)))
  where
    first : (b : Bool) → eqb e.thread e.thread ≡ b → AreNamedWell top (λ thread. thread) (chosen b e.deed (part e.thread rest)) → IsNamedWell top (λ thread. thread) e.deed.action
    first true f h = h.0
    first false f h = absurd (eqb-false e.thread e.thread f refl)

    later : (u : ℕ) (b : Bool) → AreNamedWell top (λ thread. thread) (chosen b e.deed (part u rest)) → AreNamedWell top (λ thread. thread) (part u rest)
    later u true h = h.1
    later u false h = h

-- no routine, no start
none_first : (a : Act) (rest : List Act) → routines_of (a ∷ rest) ≡ [] → (started_by a.action ≡ None) × (routines_of rest ≡ [])
none_first a rest h = by (started_by a.action) refl h
  where
    by : (start : Option actions.Start) → started_by a.action ≡ start → routine_before start (routines_of rest) ≡ [] → (started_by a.action ≡ None) × (routines_of rest ≡ [])
    by None is h = (is, h)
    by (Some start) is h = absurd cc

-- if no slot but 0 starts a routine, no event of another one does
pub parts_alone : (es : List (deeds.Event Act)) → ((k : ℕ) → routines_of (part (suc k) es) ≡ []) → OnlyMain es
unfolding part
parts_alone [] all = tt
parts_alone (e ∷ rest) all = ((λ k is. first k is (eqb e.thread (suc k)) refl (all k)), parts_alone rest (λ k. later k (eqb e.thread (suc k)) (all k)))
  where
    first : (k : ℕ) → e.thread ≡ suc k → (b : Bool) → eqb e.thread (suc k) ≡ b → routines_of (chosen b e.deed (part (suc k) rest)) ≡ [] → started_by e.deed.action ≡ None
    first k is true f h = (none_first e.deed (part (suc k) rest) h).0
    first k is false f h = absurd (eqb-false e.thread (suc k) f is)

    later : (k : ℕ) (b : Bool) → routines_of (chosen b e.deed (part (suc k) rest)) ≡ [] → routines_of (part (suc k) rest) ≡ []
    later k true h = (none_first e.deed (part (suc k) rest) h).1
    later k false h = h

-- who is awake at an event is made in the end
pub all_made : (es : List (deeds.Event Act)) (made : List ℕ) → AllAwake made es → AllMade (made_in made es) es
unfolding made_in
all_made [] made awake = tt
all_made (e ∷ rest) made awake = ((made_kept (e ∷ rest) made e.thread awake.0).1, all_made rest (grown_by (start_in e.deed) made) awake.2)

-- the slots that are made in the end rise
grown_rises : (top : ℕ) (start : Option actions.Start) (made : List ℕ) → RisesTo top 0 made → may_start (start_as start) made ≡ true → ((s : actions.Start) → start ≡ Some s → s.thread < top)
    → RisesTo top 0 (grown_by (start_as start) made)
grown_rises top None made r may below = r
grown_rises top (Some s) made r may below = rises_on top 0 s.thread made r (new_start s.thread s.argument made may).0 (below s refl)

-- a creation that is named well
pub named_start : (top : ℕ) (f : ℕ → ℕ) (a : Action) (s : actions.Start) → IsNamedWell top f a → started_by a ≡ Some s → (f s.thread ≡ suc s.routine) × (f s.thread < top)
named_start top f Loc s h e = absurd cc
named_start top f (Input v) s h e = absurd cc
named_start top f (Check v kind) s h e = absurd cc
named_start top f (Assume v) s h e = absurd cc
named_start top f (Rd cell v) s h e = absurd cc
named_start top f (Wr cell v) s h e = absurd cc
named_start top f (Reset m) s h e = absurd cc
named_start top f (Lock m) s h e = absurd cc
named_start top f (Unlock m) s h e = absurd cc
named_start top f (Park c m) s h e = absurd cc
named_start top f (Wake c m) s h e = absurd cc
named_start top f (Signal c None) s h e = absurd cc
named_start top f (Signal c (Some w)) s h e = absurd cc
named_start top f (Broadcast c) s h e = absurd cc
named_start top f (Create d start v) s h e =
    let z : Some (record { thread = d; routine = start; argument = v }) ≡ Some s = e in
    let is : record { thread = d; routine = start; argument = v } ≡ s = cc in
    subst (λ (x : actions.Start). (f x.thread ≡ suc x.routine) × (f x.thread < top)) is h
named_start top f (Join d) s h e = absurd cc
named_start top f HoldOn s h e = absurd cc
named_start top f HoldOff s h e = absurd cc
named_start top f (End w) s h e = absurd cc

-- the slots that are made rise, to the end of the run
pub made_rises : (top : ℕ) (es : List (deeds.Event Act)) (made : List ℕ) → RisesTo top 0 made → AllAwake made es → AllNamed top es → RisesTo top 0 (made_in made es)
unfolding made_in
made_rises top [] made r awake named = r
made_rises top (e ∷ rest) made r awake named =
    made_rises top rest (grown_by (start_in e.deed) made)
    (grown_rises top (started_by e.deed.action) made r awake.1 (λ s is. (named_start top (λ thread. thread) e.deed.action s named.0 is).1)) awake.2 named.1

-- ---- a thread's part

-- two slots that are made are one exactly if their threads are
pub same_slots : (made : List ℕ) (t u : ℕ) → is_awake made t ≡ true → is_awake made u ≡ true → eqb (thread_of made t) (thread_of made u) ≡ eqb t u
same_slots made t u a b = same_test (thread_of made t) (thread_of made u) t u
    (λ e. sym (slot_thread made t (awake_is made t a)) ∙ ap (slot_of made) e ∙ slot_thread made u (awake_is made u b))
    (λ e. ap (thread_of made) e)

-- the part of a slot's thread
pub part_with : (made : List ℕ) (u : ℕ) (es : List (deeds.Event Act)) → is_awake made u ≡ true → AllMade made es
    → model.part (thread_of made u) (events_with (thread_of made) es) ≡ acts_with (thread_of made) (part u es)
unfolding part
part_with made u [] a all = refl
part_with made u (e ∷ rest) a all = by (eqb (thread_of made e.thread) (thread_of made u)) (eqb e.thread u) (same_slots made e.thread u all.0 a) (part_with made u rest a all.1)
  where
    by : (b c : Bool) → b ≡ c → model.part (thread_of made u) (events_with (thread_of made) rest) ≡ acts_with (thread_of made) (part u rest)
        → cond b (act_with (thread_of made) e.deed ∷ model.part (thread_of made u) (events_with (thread_of made) rest)) (model.part (thread_of made u) (events_with (thread_of made) rest))
        ≡ acts_with (thread_of made) (chosen c e.deed (part u rest))
    by true true is ih = ap (λ (xs : List Act). act_with (thread_of made) e.deed ∷ xs) ih
    by true false is ih = absurd cc
    by false true is ih = absurd cc
    by false false is ih = ih

-- ---- a thread that is past all that are made

-- it does nothing
pub past_part : (made : List ℕ) (q : ℕ) (es : List (deeds.Event Act)) → length made < q → AllMade made es → model.part q (events_with (thread_of made) es) ≡ []
past_part made q [] lt all = refl
past_part made q (e ∷ rest) lt all =
    let below = awake_is made e.thread all.0 in
    rw (ne_eqb (thread_of made e.thread) q (λ same. let z : ⊥ = omega (arith, same, below, lt) in z)) (past_part made q rest lt all.1)

-- each slot that is started is made in the end
abbrev pub AllStarted : List ℕ → List (deeds.Event Act) → Type 0
AllStarted made [] = Unit
AllStarted made (e ∷ rest) = ((s : actions.Start) → started_by e.deed.action ≡ Some s → is_awake made s.thread ≡ true) × AllStarted made rest

-- and nobody starts it
pub past_start : (made : List ℕ) (q : ℕ) (es : List (deeds.Event Act)) → length made < q → AllStarted made es → model.start_of q (events_with (thread_of made) es) ≡ None
past_start made q [] lt all = refl
past_start made q (e ∷ rest) lt all = by (started_by e.deed.action) refl (past_start made q rest lt all.1)
  where
    by : (start : Option actions.Start) → started_by e.deed.action ≡ start → model.start_of q (events_with (thread_of made) rest) ≡ None
        → model.start_or q (started_by (with_threads (thread_of made) e.deed.action)) (model.start_of q (events_with (thread_of made) rest)) ≡ None
    by None is ih = rw (started_with (thread_of made) e.deed.action, is) ih
    by (Some s) is ih =
        let below = awake_is made s.thread (all.0 s is) in
        rw (started_with (thread_of made) e.deed.action, is) (rw (ne_eqb (thread_of made s.thread) q (λ same. let z : ⊥ = omega (arith, same, below, lt) in z)) ih)

-- what is started is made in the end
pub all_started : (es : List (deeds.Event Act)) (made : List ℕ) → AllAwake made es → AllStarted (made_in made es) es
unfolding made_in
all_started [] made awake = tt
all_started (e ∷ rest) made awake =
    ((λ s is. (made_kept rest (grown_by (start_in e.deed) made) s.thread (there (started_by e.deed.action) refl s is)).1), all_started rest (grown_by (start_in e.deed) made) awake.2)
  where
    there : (start : Option actions.Start) → started_by e.deed.action ≡ start → (s : actions.Start) → started_by e.deed.action ≡ Some s → is_awake (grown_by (start_in e.deed) made) s.thread ≡ true
    there None is s same = absurd (let z : None ≡ Some s = sym is ∙ same in cc)
    there (Some first) is s same =
        let grown : start_in e.deed ≡ starts s.thread s.argument = ap start_as same in
        rw grown (awake_grown made s.thread s.thread (new_start s.thread s.argument made (subst (λ (x : Start). may_start x made ≡ true) grown awake.1)).1 ∙ own (eqb s.thread s.thread) refl)
      where
        own : (b : Bool) → eqb s.thread s.thread ≡ b → cond b true (is_awake made s.thread) ≡ true
        own true f = refl
        own false f = absurd (eqb-false s.thread s.thread f refl)
