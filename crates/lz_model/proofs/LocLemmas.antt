-- Loc left out of a run, and put in again just before its thread's next other event.
use Rattle.std.proofs.Common.{◌≡◌, ◌≢◌, ℕ, zero, suc, ◌≤◌, ◌⊎◌, inl, inr, Bool, true, false, ◌&&◌, ◌||◌, eqb, cond, List, [], ◌∷◌, ◌++◌, map, Option, Some, None, refl, sym, ◌∙◌, ap, subst, append_assoc, arith}
use Rattle.std.proofs.lemmas.Bool.{eqb-true, eqb-false}
use Rattle.lz_base.specs.declared.word.BreakKind.{BreakKind}
use Rattle.lz_base.proofs.DescentsLemmas.{Fits, nothing, stay, next, fits_descents}
use Rattle.lz_model.specs.declared.actions.Action.{Action}
use Rattle.lz_model.specs.declared.actions.Action.TheVariants.{Loc, Input, Check, Assume, Rd, Wr, Reset, Lock, Unlock, Park, Wake, Signal, Broadcast, Create, Join, HoldOn, HoldOff, End}
use Rattle.lz_model.specs.declared.actions.Event.{Event}
use Rattle.lz_model.specs.Actions.{Act, act_of, event_of, is_loc, Start, started_by, is_shared}
use Rattle.lz_model.specs.Store.{State, Acted, went, blocked, broke, is_halted, held_by_another, act_free, act}
use Rattle.lz_model.specs.Interleavings.{Process, Course, stuck, broken, course_after, course, part, start_or, start_of, MayDo, MayDoIn, IsRun}
use Rattle.lz_model.specs.BrokenRuns.{IsBrokenRun, rounds_of_run}
use Rattle.lz_model.specs.WithoutLoc.{left_out, without_loc, events_without_loc, bare}
use Rattle.lz_model.proofs.RunFrontsLemmas.{IsOpen}

threads : List Event → List ℕ
threads run = map (λ (event : Event). event.thread) run

-- ---- the action Loc

loc_is : (a : Action) → is_loc a ≡ true → a ≡ Loc
loc_is Loc e = refl
loc_is (Input v) e = absurd cc
loc_is (Check v kind) e = absurd cc
loc_is (Assume v) e = absurd cc
loc_is (Rd cell v) e = absurd cc
loc_is (Wr cell v) e = absurd cc
loc_is (Reset m) e = absurd cc
loc_is (Lock m) e = absurd cc
loc_is (Unlock m) e = absurd cc
loc_is (Park c m) e = absurd cc
loc_is (Wake c m) e = absurd cc
loc_is (Signal c w) e = absurd cc
loc_is (Broadcast c) e = absurd cc
loc_is (Create d f v) e = absurd cc
loc_is (Join d) e = absurd cc
loc_is HoldOn e = absurd cc
loc_is HoldOff e = absurd cc
loc_is (End w) e = absurd cc

-- it goes or is blocked, and changes nothing
loc_act : (s : State) (t : ℕ) → (act s t Loc ≡ went s) ⊎ (act s t Loc ≡ blocked)
loc_act s t = by (is_halted s t)
  where
    by : (h : Bool) → (cond (h || (false && held_by_another s.holder t)) blocked (went s) ≡ went s) ⊎ (cond (h || (false && held_by_another s.holder t)) blocked (went s) ≡ blocked)
    by true = inr refl
    by false = inl refl

pub loc_stays : (s : State) (t : ℕ) (a : Action) → is_loc a ≡ true → (act s t a ≡ went s) ⊎ (act s t a ≡ blocked)
loc_stays s t a e = subst (λ (x : Action). (act s t x ≡ went s) ⊎ (act s t x ≡ blocked)) (sym (loc_is a e)) (loc_act s t)

-- it goes wherever another action of its thread is not blocked
pub loc_goes : (s : State) (t : ℕ) (a d : Action) → is_loc a ≡ true → act s t d ≢ blocked → act s t a ≡ went s
loc_goes s t a d e can = subst (λ (x : Action). act s t x ≡ went s) (sym (loc_is a e)) (by (is_halted s t) can)
  where
    by : (h : Bool) → cond (h || (is_shared d && held_by_another s.holder t)) blocked (act_free s t d) ≢ blocked → cond (h || (false && held_by_another s.holder t)) blocked (went s) ≡ went s
    by true can = absurd (can refl)
    by false can = refl

pub loc_starts_none : (a : Action) → is_loc a ≡ true → started_by a ≡ None
loc_starts_none a e = ap started_by (loc_is a e)

-- ---- Loc left out of a run

erased_fits : (e : Event) (ts : List ℕ) (rest : List Event) (b : Bool) → Fits (threads (events_without_loc rest)) ts → Fits (threads (left_out b e (events_without_loc rest))) (e.thread ∷ ts)
unfolding threads
erased_fits e ts rest true f = next f
erased_fits e ts rest false f = stay (next f)

all_fits : (es : List Event) → Fits (threads (events_without_loc es)) (threads es)
unfolding threads
all_fits [] = nothing
all_fits (e ∷ rest) = erased_fits e (threads rest) rest (is_loc e.action) (all_fits rest)

part_step : (u : ℕ) (e : Event) (rest : List Event) (b c : Bool) → is_loc e.action ≡ b → eqb e.thread u ≡ c → part u (events_without_loc rest) ≡ without_loc (part u rest)
    → part u (left_out b e (events_without_loc rest)) ≡ without_loc (cond c (act_of e ∷ part u rest) (part u rest))
part_step u e rest true true h k ih = rw h ih
part_step u e rest true false h k ih = ih
part_step u e rest false true h k ih = rw (h, k) (ap (λ (ys : List Act). act_of e ∷ ys) ih)
part_step u e rest false false h k ih = rw k ih

part_erased : (u : ℕ) (es : List Event) → part u (events_without_loc es) ≡ without_loc (part u es)
part_erased u [] = refl
part_erased u (e ∷ rest) = part_step u e rest (is_loc e.action) (eqb e.thread u) refl refl (part_erased u rest)

start_step : (u : ℕ) (e : Event) (rest : List Event) (b : Bool) → is_loc e.action ≡ b → start_of u (events_without_loc rest) ≡ start_of u rest
    → start_of u (left_out b e (events_without_loc rest)) ≡ start_of u (e ∷ rest)
start_step u e rest true h ih = rw (loc_starts_none e.action h) ih
start_step u e rest false h ih = ap (start_or u (started_by e.action)) ih

start_erased : (u : ℕ) (es : List Event) → start_of u (events_without_loc es) ≡ start_of u es
start_erased u [] = refl
start_erased u (e ∷ rest) = start_step u e rest (is_loc e.action) refl (start_erased u rest)

course_event : (e : Event) (rest : List Event) (end : Course) (r : Acted) → end ≢ stuck → ((s : State) → course rest s ≡ end → course (events_without_loc rest) s ≡ end)
    → course_after r e.line rest (course rest) ≡ end → course_after r e.line (events_without_loc rest) (course (events_without_loc rest)) ≡ end
course_event e rest end (went s) on ih h = ih s h
course_event e rest end blocked on ih h = absurd (on (sym h))
course_event e [] end (broke k) on ih h = h
course_event e (f ∷ rest) end (broke k) on ih h = absurd (on (sym h))

course_step : (e : Event) (rest : List Event) (s : State) (end : Course) (b : Bool) → is_loc e.action ≡ b → end ≢ stuck
    → ((s2 : State) → course rest s2 ≡ end → course (events_without_loc rest) s2 ≡ end)
    → course_after (act s e.thread e.action) e.line rest (course rest) ≡ end → course (left_out b e (events_without_loc rest)) s ≡ end
course_step e rest s end true h on ih is = by (loc_stays s e.thread e.action h)
  where
    by : (act s e.thread e.action ≡ went s) ⊎ (act s e.thread e.action ≡ blocked) → course (events_without_loc rest) s ≡ end
    by (inl g) = ih s (subst (λ (r : Acted). course_after r e.line rest (course rest) ≡ end) g is)
    by (inr w) = let z : stuck ≡ end = subst (λ (r : Acted). course_after r e.line rest (course rest) ≡ end) w is in absurd (on (sym z))
course_step e rest s end false h on ih is = course_event e rest end (act s e.thread e.action) on ih is

-- where events lead, they lead without Loc
course_erased : (end : Course) → end ≢ stuck → (es : List Event) (s : State) → course es s ≡ end → course (events_without_loc es) s ≡ end
course_erased end on [] s h = h
course_erased end on (e ∷ rest) s h = course_step e rest s end (is_loc e.action) refl on (λ s2. course_erased end on rest s2) h

seen_part : (process : Process) (o : Option Start) (acts : List Act) → MayDo process o acts → MayDo (bare process) o (without_loc acts)
seen_part process None acts h = ap without_loc h
seen_part process (Some start) acts h = record { full = acts; does = h; seen = refl }

-- a run, Loc left out, is one of the bare process
pub bare_run : (process : Process) (run : List Event) → IsRun process run → IsRun (bare process) (events_without_loc run)
bare_run process run is = record { parts = parts; goes = λ h. is.goes (sym (course_erased (course run process.begins) is.goes run process.begins refl) ∙ h) }
  where
    parts : (thread : ℕ) → MayDoIn (bare process) (events_without_loc run) thread (part thread (events_without_loc run))
    parts zero = record { full = part 0 run; does = is.parts 0; seen = sym (part_erased 0 run) }
    parts (suc thread) =
        subst (λ (o : Option Start). MayDo (bare process) o (part (suc thread) (events_without_loc run))) (sym (start_erased (suc thread) run))
        (subst (λ (acts : List Act). MayDo (bare process) (start_of (suc thread) run) acts) (sym (part_erased (suc thread) run))
        (seen_part process (start_of (suc thread) run) (part (suc thread) run) (is.parts (suc thread))))

-- a broken run, Loc left out, is one of the bare process
pub bare_breaks : (process : Process) (run : List Event) (kind : BreakKind) (line : ℕ) → IsBrokenRun process run kind line → IsBrokenRun (bare process) (events_without_loc run) kind line
bare_breaks process run kind line is = record {
  is = bare_run process run is.is;
  breaks = course_erased (broken kind line) (λ h. cc) run process.begins is.breaks;
}

-- ---- Loc put in again

AllLoc : List Act → Type 0
AllLoc [] = Unit {0}
AllLoc (a ∷ acts) = (is_loc a.action ≡ true) × AllLoc acts

-- the next action that is not Loc, and those of Loc before it
record Found (acts : List Act) (d : Act) (ds : List Act) : Type 0 where
  locs : List Act
  rest : List Act
  are : acts ≡ locs ++ d ∷ rest
  local : AllLoc locs
  other : is_loc d.action ≡ false
  left : without_loc rest ≡ ds

find_step : (a : Act) (acts : List Act) (d : Act) (ds : List Act) (b : Bool) → is_loc a.action ≡ b → left_out b a (without_loc acts) ≡ d ∷ ds
    → (without_loc acts ≡ d ∷ ds → Found acts d ds) → Found (a ∷ acts) d ds
unfolding AllLoc
find_step a acts d ds true h e again =
    let f = again e in record { locs = a ∷ f.locs; rest = f.rest; are = ap (λ (ys : List Act). a ∷ ys) f.are; local = (h, f.local); other = f.other; left = f.left }
find_step a acts d ds false h e again =
    let same : a ≡ d = cc in
    record { locs = []; rest = acts; are = ap (λ (x : Act). x ∷ acts) same; local = tt; other = sym (ap (λ (x : Act). is_loc x.action) same) ∙ h; left = cc }

find : (acts : List Act) (d : Act) (ds : List Act) → without_loc acts ≡ d ∷ ds → Found acts d ds
find [] d ds e = absurd cc
find (a ∷ acts) d ds e = find_step a acts d ds (is_loc a.action) refl e (λ h. find acts d ds h)

with_locs : ℕ → List Act → List Event → List Event
with_locs t [] es = es
with_locs t (a ∷ acts) es = event_of t a ∷ with_locs t acts es

locs_fit : (t : ℕ) (locs : List Act) (es : List Event) (ts : List ℕ) → Fits (threads es) (t ∷ ts) → Fits (threads (with_locs t locs es)) (t ∷ ts)
unfolding with_locs threads
locs_fit t [] es ts f = f
locs_fit t (a ∷ acts) es ts f = stay (locs_fit t acts es ts f)

locs_course : (t : ℕ) (d : Action) (s : State) (es : List Event) → act s t d ≢ blocked → (locs : List Act) → AllLoc locs → course (with_locs t locs es) s ≡ course es s
unfolding with_locs AllLoc
locs_course t d s es can [] all = refl
locs_course t d s es can (a ∷ acts) all = rw (loc_goes s t a.action d all.0 can) (locs_course t d s es can acts all.1)

locs_part : (t u : ℕ) (es : List Event) (c : Bool) → eqb t u ≡ c → (locs : List Act) → part u (with_locs t locs es) ≡ cond c (locs ++ part u es) (part u es)
unfolding with_locs
locs_part t u es true e [] = refl
locs_part t u es false e [] = refl
locs_part t u es true e (a ∷ acts) = rw e (ap (λ (xs : List Act). a ∷ xs) (locs_part t u es true e acts))
locs_part t u es false e (a ∷ acts) = rw e (locs_part t u es false e acts)

locs_start : (t u : ℕ) (es : List Event) (locs : List Act) → AllLoc locs → start_of u (with_locs t locs es) ≡ start_of u es
unfolding with_locs AllLoc
locs_start t u es [] all = refl
locs_start t u es (a ∷ acts) all = rw (loc_starts_none a.action all.0) (locs_start t u es acts all.1)

locs_erased : (t : ℕ) (es : List Event) (locs : List Act) → AllLoc locs → events_without_loc (with_locs t locs es) ≡ events_without_loc es
unfolding with_locs AllLoc
locs_erased t es [] all = refl
locs_erased t es (a ∷ acts) all = rw all.0 (locs_erased t es acts all.1)

-- a run of which this one is what is seen, from a state and what is left of each thread's actions
record Filled (es : List Event) (rests : ℕ → List Act) (s : State) (end : Course) : Type 0 where
  full : List Event
  fits : Fits (threads full) (threads es)
  ends : course full s ≡ end
  fronts : (u : ℕ) → (tail : List Act) × (rests u ≡ part u full ++ tail)
  starts : (u : ℕ) → start_of u full ≡ start_of u es
  seen : events_without_loc full ≡ es

behind_event : ℕ → List Act → (ℕ → List Act) → ℕ → List Act
behind_event t rest rests u = cond (eqb t u) rest (rests u)

part_of_event : (t u : ℕ) (d : Act) (es : List Event) (c : Bool) → eqb t u ≡ c → part u (event_of t d ∷ es) ≡ cond c (d ∷ part u es) (part u es)
part_of_event t u d es c e = rw e refl

front_of : (t u : ℕ) (d : Act) (locs rest : List Act) (rests : ℕ → List Act) (es : List Event) → rests t ≡ locs ++ d ∷ rest → (c : Bool) → eqb t u ≡ c
    → (tail : List Act) × (cond c rest (rests u) ≡ part u es ++ tail)
    → (tail : List Act) × (rests u ≡ part u (with_locs t locs (event_of t d ∷ es)) ++ tail)
front_of t u d locs rest rests es are true e f =
    let is : part u (with_locs t locs (event_of t d ∷ es)) ≡ locs ++ d ∷ part u es =
    locs_part t u (event_of t d ∷ es) true e locs ∙ ap (λ (xs : List Act). locs ++ xs) (part_of_event t u d es true e) in
    (f.0, ap rests (sym (eqb-true t u e)) ∙ are ∙ ap (λ (xs : List Act). locs ++ d ∷ xs) f.1 ∙ sym (append_assoc locs (d ∷ part u es) f.0) ∙ ap (λ (xs : List Act). xs ++ f.0) (sym is))
front_of t u d locs rest rests es are false e f =
    let is : part u (with_locs t locs (event_of t d ∷ es)) ≡ part u es =
    locs_part t u (event_of t d ∷ es) false e locs ∙ part_of_event t u d es false e in
    (f.0, f.1 ∙ ap (λ (xs : List Act). xs ++ f.0) (sym is))

left_of : (t u : ℕ) (d : Act) (rest : List Act) (rests : ℕ → List Act) (es : List Event) → without_loc rest ≡ part t es → (c : Bool) → eqb t u ≡ c
    → without_loc (rests u) ≡ part u (event_of t d ∷ es) → without_loc (cond c rest (rests u)) ≡ part u es
left_of t u d rest rests es left true e are = left ∙ ap (λ (v : ℕ). part v es) (eqb-true t u e)
left_of t u d rest rests es left false e are = are ∙ part_of_event t u d es false e

-- by what the event comes to
fill_by : (t : ℕ) (d : Act) (es : List Event) (rests : ℕ → List Act) (s : State) (end : Course) → end ≢ stuck → (found : Found (rests t) d (part t es)) (r : Acted) → act s t d.action ≡ r
    → course_after r d.line es (course es) ≡ end
    → ((s2 : State) → course es s2 ≡ end → Filled es (behind_event t found.rest rests) s2 end)
    → Filled (event_of t d ∷ es) rests s end
unfolding behind_event threads
fill_by t d es rests s end on found (went s2) a e later =
    let filled = later s2 e in
    let can : act s t d.action ≢ blocked = λ w. let z : went s2 ≡ blocked = sym a ∙ w in cc in
    record {
      full = with_locs t found.locs (event_of t d ∷ filled.full);
      fits = locs_fit t found.locs (event_of t d ∷ filled.full) (threads es) (kept (threads filled.full) filled.fits);
      ends = locs_course t d.action s (event_of t d ∷ filled.full) can found.locs found.local ∙ rw a filled.ends;
      fronts = λ u. front_of t u d found.locs found.rest rests filled.full found.are (eqb t u) refl (filled.fronts u);
      starts = λ u. locs_start t u (event_of t d ∷ filled.full) found.locs found.local ∙ ap (start_or u (started_by d.action)) (filled.starts u);
      seen = locs_erased t (event_of t d ∷ filled.full) found.locs found.local ∙ rw found.other (ap (λ (xs : List Event). event_of t d ∷ xs) filled.seen);
    }
  where
    kept : (ts : List ℕ) → Fits ts (threads es) → Fits (t ∷ ts) (t ∷ threads es)
    kept ts f = stay (next f)
fill_by t d es rests s end on found blocked a e later = absurd (on (sym e))
fill_by t d [] rests s end on found (broke k) a e later =
    let can : act s t d.action ≢ blocked = λ w. let z : broke k ≡ blocked = sym a ∙ w in cc in
    record {
      full = with_locs t found.locs (event_of t d ∷ []);
      fits = locs_fit t found.locs (event_of t d ∷ []) [] (stay nothing);
      ends = locs_course t d.action s (event_of t d ∷ []) can found.locs found.local ∙ rw a e;
      fronts = λ u. front_of t u d found.locs found.rest rests [] found.are (eqb t u) refl (whole u (eqb t u));
      starts = λ u. locs_start t u (event_of t d ∷ []) found.locs found.local;
      seen = locs_erased t (event_of t d ∷ []) found.locs found.local ∙ rw found.other refl;
    }
  where
    whole : (u : ℕ) (c : Bool) → (tail : List Act) × (cond c found.rest (rests u) ≡ part u [] ++ tail)
    whole u c = (cond c found.rest (rests u), refl)
fill_by t d (f ∷ es) rests s end on found (broke k) a e later = absurd (on (sym e))

fill : (end : Course) → end ≢ stuck → (es : List Event) (rests : ℕ → List Act) (s : State) → ((u : ℕ) → without_loc (rests u) ≡ part u es) → course es s ≡ end → Filled es rests s end
unfolding behind_event threads
fill end on [] rests s are e = record { full = []; fits = nothing; ends = e; fronts = λ u. (rests u, refl); starts = λ u. refl; seen = refl }
fill end on (event ∷ es) rests s are e =
    let found = find (rests event.thread) (act_of event) (part event.thread es) (are event.thread ∙ part_of_event event.thread event.thread (act_of event) es true (self event.thread)) in
    fill_by event.thread (act_of event) es rests s end on found (act s event.thread event.action) refl e
    (λ s2 h. fill end on es (behind_event event.thread found.rest rests) s2
    (λ u. left_of event.thread u (act_of event) found.rest rests es found.left (eqb event.thread u) refl (are u)) h)
  where
    self : (t : ℕ) → eqb t t ≡ true
    self t = decide (eqb t t) refl
      where
        decide : (b : Bool) → eqb t t ≡ b → eqb t t ≡ true
        decide true e = e
        decide false e = absurd (eqb-false t t e refl)

-- what each thread does in a run of the bare process, with its Loc
fulls : (process : Process) (es : List Event) → ((thread : ℕ) → MayDoIn (bare process) es thread (part thread es)) → (thread : ℕ) → (full : List Act) × (MayDoIn process es thread full × (without_loc full ≡ part thread es))
fulls process es parts zero = let p = parts 0 in (p.full, (p.does, p.seen))
fulls process es parts (suc thread) = by (start_of (suc thread) es) refl (parts (suc thread))
  where
    by : (o : Option Start) → start_of (suc thread) es ≡ o → MayDo (bare process) o (part (suc thread) es) → (full : List Act) × (MayDo process (start_of (suc thread) es) full × (without_loc full ≡ part (suc thread) es))
    by None e h = ([], (subst (λ (o : Option Start). MayDo process o []) (sym e) refl, sym h))
    by (Some start) e h = (h.full, (subst (λ (o : Option Start). MayDo process o h.full) (sym e) h.does, h.seen))

open_front : (process : Process) → IsOpen process → (o : Option Start) (acts more : List Act) → MayDo process o (acts ++ more) → MayDo process o acts
open_front process p None acts more h = nil_left acts more h
  where
    nil_left : (acts more : List Act) → acts ++ more ≡ [] → acts ≡ []
    nil_left [] more e = refl
    nil_left (a ∷ acts) more e = absurd cc
open_front process p (Some start) acts more h = p.started start.routine start.argument acts more h

-- a run of the process, of which this run of the bare process is what is seen: it leads to the same, in as many rounds
-- at most
pub record IsFullRun (process : Process) (es : List Event) : Type 0 where
  pub full : List Event
  pub is : IsRun process full
  pub same : course full process.begins ≡ course es process.begins
  pub seen : events_without_loc full ≡ es
  pub few : rounds_of_run full ≤ rounds_of_run es

pub full_run : (process : Process) → IsOpen process → (es : List Event) → IsRun (bare process) es → IsFullRun process es
unfolding threads
full_run process p es is = record {
  full = filled.full;
  is = record { parts = parts; goes = λ h. is.goes (sym filled.ends ∙ h) };
  same = filled.ends;
  seen = filled.seen;
  few = let d = fits_descents filled.fits in omega (arith, d);
}
  where
    each : (thread : ℕ) → (full : List Act) × (MayDoIn process es thread full × (without_loc full ≡ part thread es))
    each thread = fulls process es is.parts thread

    filled : Filled es (λ u. (each u).0) process.begins (course es process.begins)
    filled = fill (course es process.begins) is.goes es (λ u. (each u).0) process.begins (λ u. (each u).1.1) refl

    parts : (thread : ℕ) → MayDoIn process filled.full thread (part thread filled.full)
    parts zero = p.main (part 0 filled.full) (filled.fronts 0).0 (subst (λ (acts : List Act). process.main acts) (filled.fronts 0).1 (each 0).1.0)
    parts (suc thread) =
        open_front process p (start_of (suc thread) filled.full) (part (suc thread) filled.full) (filled.fronts (suc thread)).0
        (subst (λ (o : Option Start). MayDo process o (part (suc thread) filled.full ++ (filled.fronts (suc thread)).0)) (sym (filled.starts (suc thread)))
        (subst (λ (acts : List Act). MayDo process (start_of (suc thread) es) acts) (filled.fronts (suc thread)).1 (each (suc thread)).1.0))

-- the same, of a run that breaks
pub record IsFull (process : Process) (es : List Event) (kind : BreakKind) (line : ℕ) : Type 0 where
  pub full : List Event
  pub broken_ : IsBrokenRun process full kind line
  pub seen : events_without_loc full ≡ es
  pub few : rounds_of_run full ≤ rounds_of_run es

pub full_breaks : (process : Process) → IsOpen process → (es : List Event) (kind : BreakKind) (line : ℕ) → IsBrokenRun (bare process) es kind line → IsFull process es kind line
full_breaks process p es kind line is =
    let run = full_run process p es is.is in
    record { full = run.full; broken_ = record { is = run.is; breaks = run.same ∙ is.breaks }; seen = run.seen; few = run.few }

-- where a run leads, it leads without Loc
pub bare_course : (process : Process) (run : List Event) → IsRun process run → course (events_without_loc run) process.begins ≡ course run process.begins
bare_course process run is = course_erased (course run process.begins) is.goes run process.begins refl
