-- A front of a run is a run.
use Rattle.std.proofs.Common.{◌≡◌, ◌≢◌, ℕ, zero, suc, ◌+◌, ◌≤◌, Bool, true, false, not, ◌&&◌, ◌||◌, eqb, ltb, cond, List, [], ◌∷◌, ◌++◌, length, map, slice_index, slice_set, Option, Some, None, refl, sym, ◌∙◌, ap, subst, arith}
use Rattle.std.proofs.lemmas.List.{length-set, length-map, length-append}
use Rattle.std.proofs.lemmas.Bool.{eqb-true, eqb-false}
use Rattle.std.proofs.lemmas.Bool.Decides.{nat_tests}
use Rattle.lz_base.specs.declared.word.BreakKind.{BreakKind}
use Rattle.lz_model.specs.declared.actions.Action.{Action}
use Rattle.lz_model.specs.declared.actions.Action.TheVariants.{Loc, Input, Check, Assume, Rd, Wr, Reset, Lock, Unlock, Park, Wake, Signal, Broadcast, Create, Join, HoldOn, HoldOff, End}
use Rattle.lz_model.specs.declared.actions.Event.{Event}
use Rattle.lz_model.specs.Actions.{Act, act_of, Start, started_by, is_shared}
use Rattle.lz_base.specs.declared.word.BreakKind.TheVariants as kinds
use Rattle.lz_model.specs.Store.{State, Acted, went, blocked, broke, fresh, is_now, is_made, is_waiting, is_free, owns, thread_at, has_waiter, waits_on, awake, woken_from, with_owner, with_thread, is_halted, held_by_another, goes_where, goes_or_breaks, act_free, act}
use Rattle.lz_model.specs.Interleavings.{Process, going, stuck, course_after, course, part, start_or, start_of, MayDo, MayDoIn, IsRun}

-- ---- where events lead

stuck_after : (acted : Acted) (line : ℕ) (rest more : List Event) → ((state : State) → course rest state ≡ stuck → course (rest ++ more) state ≡ stuck)
    → course_after acted line rest (course rest) ≡ stuck → course_after acted line (rest ++ more) (course (rest ++ more)) ≡ stuck
stuck_after (went state) line rest more ih e = ih state e
stuck_after blocked line rest more ih e = refl
stuck_after (broke kind) line [] more ih e = absurd cc
stuck_after (broke kind) line (event ∷ rest) more ih e = refl

-- what is stuck stays stuck
pub course-append_stuck : (events more : List Event) (state : State) → course events state ≡ stuck → course (events ++ more) state ≡ stuck
course-append_stuck [] more state e = absurd cc
course-append_stuck (event ∷ rest) more state e =
    stuck_after (act state event.thread event.action) event.line rest more (λ s h. course-append_stuck rest more s h) e

going_after : (acted : Acted) (line : ℕ) (rest more : List Event) (later : State) → ((state : State) → course rest state ≡ going later → course (rest ++ more) state ≡ course more later)
    → course_after acted line rest (course rest) ≡ going later → course_after acted line (rest ++ more) (course (rest ++ more)) ≡ course more later
going_after (went state) line rest more later ih e = ih state e
going_after blocked line rest more later ih e = absurd cc
going_after (broke kind) line [] more later ih e = absurd cc
going_after (broke kind) line (event ∷ rest) more later ih e = absurd cc

-- what goes leads on
pub course-append_going : (events more : List Event) (state later : State) → course events state ≡ going later → course (events ++ more) state ≡ course more later
course-append_going [] more state later e = let same : state ≡ later = cc in ap (course more) same
course-append_going (event ∷ rest) more state later e =
    going_after (act state event.thread event.action) event.line rest more later (λ s h. course-append_going rest more s later h) e

-- ---- parts and starts

part_chosen : (c : Bool) (a : Act) (xs ys zs : List Act) → zs ≡ xs ++ ys → cond c (a ∷ zs) zs ≡ cond c (a ∷ xs) xs ++ ys
part_chosen true a xs ys zs e = ap (λ (acts : List Act). a ∷ acts) e
part_chosen false a xs ys zs e = e

-- a thread's part of events that follow each other
pub part-append : (thread : ℕ) (xs ys : List Event) → part thread (xs ++ ys) ≡ part thread xs ++ part thread ys
part-append thread [] ys = refl
part-append thread (event ∷ xs) ys =
    part_chosen (eqb event.thread thread) (act_of event) (part thread xs) (part thread ys) (part thread (xs ++ ys)) (part-append thread xs ys)

start_or_front : (thread : ℕ) (first rest later : Option Start) (s : Start) → (rest ≡ Some s → later ≡ Some s) → start_or thread first rest ≡ Some s → start_or thread first later ≡ Some s
start_or_front thread None rest later s ih e = ih e
start_or_front thread (Some start) rest later s ih e = by (eqb start.thread thread) e
  where
    by : (c : Bool) → cond c (Some start) rest ≡ Some s → cond c (Some start) later ≡ Some s
    by true e = e
    by false e = ih e

-- a thread that a front starts is started so
pub start_of-append : (thread : ℕ) (xs ys : List Event) (s : Start) → start_of thread xs ≡ Some s → start_of thread (xs ++ ys) ≡ Some s
start_of-append thread [] ys s e = absurd cc
start_of-append thread (event ∷ xs) ys s e =
    start_or_front thread (started_by event.action) (start_of thread xs) (start_of thread (xs ++ ys)) s (start_of-append thread xs ys s) e

-- ---- threads are made by their creation alone

-- how many threads there are behind an action: as many, or one more where it creates the next
pub data Grows (before : State) (action : Action) (after : State) : Type 0 where
  as_many : length after.threads ≡ length before.threads → Grows before action after
  one_more : (start : Start) → started_by action ≡ Some start → start.thread ≡ length before.threads → length after.threads ≡ length before.threads + 1 → Grows before action after

-- an action that goes where a test holds: it holds
pub goes_is : (b : Bool) (s1 s2 : State) → goes_where b s1 ≡ went s2 → (b ≡ true) × (s1 ≡ s2)
goes_is true s1 s2 e = (refl, cc)
goes_is false s1 s2 e = absurd cc

-- an action that goes or breaks: where it goes
pub breaks_is : (b : Bool) (s1 s2 : State) (kind : BreakKind) → goes_or_breaks b s1 kind ≡ went s2 → s1 ≡ s2
breaks_is true s1 s2 kind e = cc
breaks_is false s1 s2 kind e = absurd cc

many : (s s1 s2 : State) (action : Action) → length s1.threads ≡ length s.threads → s1 ≡ s2 → Grows s action s2
many s s1 s2 action l e = as_many (sym (ap (λ (x : State). length x.threads) e) ∙ l)

-- where two actions go is one state
pub went_is : (s1 s2 : State) → went s1 ≡ went s2 → s1 ≡ s2
went_is s1 s2 e = cc

-- a join that goes
pub joins_is : (c b : Bool) (s1 s2 : State) (kind : BreakKind) → cond c (broke kind) (goes_where b s1) ≡ went s2 → s1 ≡ s2
joins_is true b s1 s2 kind e = absurd cc
joins_is false b s1 s2 kind e = (goes_is b s1 s2 e).1

lets_go : (c : Bool) (s s1 s2 : State) (action : Action) → length s1.threads ≡ length s.threads → went (cond c s1 s) ≡ went s2 → Grows s action s2
lets_go true s s1 s2 action l e = many s s1 s2 action l (went_is s1 s2 e)
lets_go false s s1 s2 action l e = many s s s2 action refl (went_is s s2 e)

grows_free : (s : State) (t : ℕ) (a : Action) (s2 : State) → act_free s t a ≡ went s2 → Grows s a s2
grows_free s t Loc s2 e = many s s s2 Loc refl (went_is s s2 e)
grows_free s t (Input v) s2 e = many s s s2 (Input v) refl (went_is s s2 e)
grows_free s t (Check zero kind) s2 e = absurd cc
grows_free s t (Check (suc v) kind) s2 e = many s s s2 (Check (suc v) kind) refl (went_is s s2 e)
grows_free s t (Assume zero) s2 e = absurd cc
grows_free s t (Assume (suc v)) s2 e = many s s s2 (Assume (suc v)) refl (went_is s s2 e)
grows_free s t (Rd cell v) s2 e = many s s s2 (Rd cell v) refl (goes_is (eqb v (slice_index s.cells cell)) s s2 e).1
grows_free s t (Wr cell v) s2 e = many s (record s { cells = slice_set s.cells cell v }) s2 (Wr cell v) refl (went_is (record s { cells = slice_set s.cells cell v }) s2 e)
grows_free s t (Reset m) s2 e = many s (with_owner s m None) s2 (Reset m) refl (went_is (with_owner s m None) s2 e)
grows_free s t (Lock m) s2 e = many s (with_owner s m (Some t)) s2 (Lock m) refl (goes_is (is_free s m) (with_owner s m (Some t)) s2 e).1
grows_free s t (Unlock m) s2 e = many s (with_owner s m None) s2 (Unlock m) refl (breaks_is (owns s t m) (with_owner s m None) s2 kinds.Unlock e)
grows_free s t (Park c m) s2 e =
    let parked = record (thread_at s t) { waits = Some c } in
    many s (with_thread (with_owner s m None) t parked) s2 (Park c m) (length-set s.threads t parked)
    (breaks_is (owns s t m) (with_thread (with_owner s m None) t parked) s2 kinds.Wait e)
grows_free s t (Wake c m) s2 e =
    many s (with_owner s m (Some t)) s2 (Wake c m) refl (goes_is (not (is_waiting (thread_at s t)) && is_free s m) (with_owner s m (Some t)) s2 e).1
grows_free s t (Signal c None) s2 e = many s s s2 (Signal c None) refl (goes_is (not (has_waiter s c)) s s2 e).1
grows_free s t (Signal c (Some u)) s2 e =
    many s (with_thread s u (awake (thread_at s u))) s2 (Signal c (Some u)) (length-set s.threads u (awake (thread_at s u)))
    (goes_is (is_made s u && waits_on c (thread_at s u)) (with_thread s u (awake (thread_at s u))) s2 e).1
grows_free s t (Broadcast c) s2 e =
    many s (record s { threads = map (woken_from c) s.threads }) s2 (Broadcast c) (length-map s.threads (woken_from c))
    (went_is (record s { threads = map (woken_from c) s.threads }) s2 e)
grows_free s t (Create d f v) s2 e =
    let found = goes_is (eqb d (length s.threads)) (record s { threads = s.threads ++ fresh ∷ [] }) s2 e in
    one_more (record { thread = d; routine = f; argument = v }) refl (eqb-true d (length s.threads) found.0)
    (sym (ap (λ (x : State). length x.threads) found.1) ∙ length-append s.threads (fresh ∷ []))
grows_free s t (Join d) s2 e =
    let joined = record (thread_at s d) { joined = true } in
    many s (with_thread s d joined) s2 (Join d) (length-set s.threads d joined)
    (joins_is (eqb d 0 || (not (is_made s d) || (thread_at s d).joined)) (thread_at s d).ended (with_thread s d joined) s2 kinds.Join e)
grows_free s t HoldOn s2 e = many s (record s { holder = Some t }) s2 HoldOn refl (went_is (record s { holder = Some t }) s2 e)
grows_free s t HoldOff s2 e = lets_go (is_now s.holder t) s (record s { holder = None }) s2 HoldOff refl e
grows_free s t (End whole) s2 e =
    let ended = record (thread_at s t) { ended = true } in
    let s1 = record s { threads = slice_set s.threads t ended; holder = cond (is_now s.holder t) None s.holder; over = s.over || whole } in
    many s s1 s2 (End whole) (length-set s.threads t ended) (went_is s1 s2 e)

grows_by : (c : Bool) (s : State) (t : ℕ) (a : Action) (s2 : State) → cond c blocked (act_free s t a) ≡ went s2 → Grows s a s2
grows_by true s t a s2 e = absurd cc
grows_by false s t a s2 e = grows_free s t a s2 e

-- an action that goes makes no thread but the one that it creates
pub grows : (s : State) (t : ℕ) (a : Action) (s2 : State) → act s t a ≡ went s2 → Grows s a s2
grows s t a s2 e = grows_by (is_halted s t || (is_shared a && held_by_another s.holder t)) s t a s2 e

-- no action goes of a thread that is not made
pub unmade_blocked : (s : State) (t : ℕ) (a : Action) → length s.threads ≤ t → act s t a ≡ blocked
unmade_blocked s t a le = by s.over (is_made s t) (not_below t (length s.threads) le)
  where
    not_below : (t n : ℕ) → n ≤ t → ltb t n ≡ false
    not_below t n le = grind (arith, nat_tests)

    by : (over made : Bool) → made ≡ false
        → cond ((over || (not made || (thread_at s t).ended)) || (is_shared a && held_by_another s.holder t)) blocked (act_free s t a) ≡ blocked
    by true made e = refl
    by false false e = refl
    by false true e = absurd cc

start_none : (t : ℕ) (first later : Option Start) → start_or t first later ≡ None → (later ≡ None) × ((st : Start) → first ≡ Some st → st.thread ≢ t)
start_none t None later e = (e, λ st is. absurd cc)
start_none t (Some start) later e = by (eqb start.thread t) refl e
  where
    by : (c : Bool) → eqb start.thread t ≡ c → cond c (Some start) later ≡ None → (later ≡ None) × ((st : Start) → Some start ≡ Some st → st.thread ≢ t)
    by true h e = absurd cc
    by false h e = (e, λ st is same. let starts : start ≡ st = cc in let there : start.thread ≡ t = ap (λ (x : Start). x.thread) starts ∙ same in eqb-false start.thread t h there)

still_unmade : (s s2 : State) (t : ℕ) (a : Action) → length s.threads ≤ t → ((st : Start) → started_by a ≡ Some st → st.thread ≢ t) → Grows s a s2 → length s2.threads ≤ t
still_unmade s s2 t a le other (as_many same) = omega arith
still_unmade s s2 t a le other (one_more start is thread more) = let different = other start is in omega arith

unmade_after : (e : Event) (rest : List Event) (s : State) (t : ℕ) (acted : Acted) → act s e.thread e.action ≡ acted → length s.threads ≤ t
    → ((st : Start) → started_by e.action ≡ Some st → st.thread ≢ t)
    → ((s2 : State) → length s2.threads ≤ t → course rest s2 ≢ stuck → part t rest ≡ [])
    → course_after acted e.line rest (course rest) ≢ stuck → part t rest ≡ []
unmade_after e rest s t (went s2) is le other ih goes = ih s2 (still_unmade s s2 t e.action le other (grows s e.thread e.action s2 is)) goes
unmade_after e rest s t blocked is le other ih goes = absurd (goes refl)
unmade_after e [] s t (broke kind) is le other ih goes = refl
unmade_after e (first ∷ rest) s t (broke kind) is le other ih goes = absurd (goes refl)

unmade_event : (e : Event) (rest : List Event) (s : State) (t : ℕ) (c : Bool) → eqb e.thread t ≡ c → length s.threads ≤ t → start_of t (e ∷ rest) ≡ None
    → ((s2 : State) → length s2.threads ≤ t → course rest s2 ≢ stuck → part t rest ≡ [])
    → course (e ∷ rest) s ≢ stuck → cond c (act_of e ∷ part t rest) (part t rest) ≡ []
unmade_event e rest s t true h le none ih goes =
    let same : e.thread ≡ t = eqb-true e.thread t h in
    let held : act s e.thread e.action ≡ blocked = unmade_blocked s e.thread e.action (omega arith) in
    absurd (goes (ap (λ (acted : Acted). course_after acted e.line rest (course rest)) held))
unmade_event e rest s t false h le none ih goes =
    let parts = start_none t (started_by e.action) (start_of t rest) none in
    unmade_after e rest s t (act s e.thread e.action) refl le parts.1 ih goes

-- a thread that is not made and not started does nothing
pub unmade : (events : List Event) (s : State) (t : ℕ) → length s.threads ≤ t → start_of t events ≡ None → course events s ≢ stuck → part t events ≡ []
unmade [] s t le none goes = refl
unmade (e ∷ rest) s t le none goes =
    unmade_event e rest s t (eqb e.thread t) refl le none
    (λ s2 few on. unmade rest s2 t few (start_none t (started_by e.action) (start_of t rest) none).0 on) goes

-- ---- a front of a run

-- what threads may do, each front of it may be done too; one thread is there at first
pub record IsOpen (process : Process) : Type 0 where
  pub one : length process.begins.threads ≡ 1
  pub main : (acts more : List Act) → process.main (acts ++ more) → process.main acts
  pub started : (routine argument : ℕ) (acts more : List Act) → process.started routine argument (acts ++ more) → process.started routine argument acts

front_part : (process : Process) → IsOpen process → (thread : ℕ) (front rest : List Event) → (o : Option Start) → start_of (suc thread) front ≡ o
    → course front process.begins ≢ stuck → MayDo process (start_of (suc thread) (front ++ rest)) (part (suc thread) (front ++ rest)) → MayDo process o (part (suc thread) front)
front_part process p thread front rest None e goes whole = let few = p.one in unmade front process.begins (suc thread) (omega arith) e goes
front_part process p thread front rest (Some s) e goes whole =
    let started = subst (λ (o : Option Start). MayDo process o (part (suc thread) (front ++ rest))) (start_of-append (suc thread) front rest s e) whole in
    let joined = subst (λ (acts : List Act). process.started s.routine s.argument acts) (part-append (suc thread) front rest) started in
    p.started s.routine s.argument (part (suc thread) front) (part (suc thread) rest) joined

pub front_of_run : (process : Process) → IsOpen process → (front rest : List Event) → IsRun process (front ++ rest) → IsRun process front
front_of_run process p front rest is = record { parts = parts; goes = goes }
  where
    goes : course front process.begins ≢ stuck
    goes h = is.goes (course-append_stuck front rest process.begins h)

    parts : (thread : ℕ) → MayDoIn process front thread (part thread front)
    parts zero = p.main (part 0 front) (part 0 rest) (subst (λ (acts : List Act). process.main acts) (part-append 0 front rest) (is.parts 0))
    parts (suc thread) = front_part process p thread front rest (start_of (suc thread) front) refl goes (is.parts (suc thread))
