-- A run of the process that breaks is a run of slots that breaks alike, in as many rounds.
use Rattle.std.proofs.Common.{◌≡◌, ◌≢◌, ℕ, suc, ◌≤◌, ◌<◌, ◌⊎◌, inl, inr, Bool, true, false, not, ◌&&◌, cond, List, [], ◌∷◌, ◌++◌, length, map, nat_lt, eqb, refl, sym, ◌∙◌, ap, subst, arith, Option, Some, None}
use Rattle.std.specs.Prelude.{option_map, slice_index}
use Rattle.std.proofs.lemmas.Bool.{eqb-false}
use Rattle.std.proofs.lemmas.List.{append_assoc}
use Rattle.lz_base.specs.declared.word.BreakKind.{BreakKind}
use Rattle.lz_model.specs.declared.actions.Event.{Event}
use Rattle.lz_model.specs.Actions.{Act, act_of, event_of, started_by}
use Rattle.lz_model.specs.Actions as actions
use Rattle.lz_model.specs.Store.{State, Acted, went, blocked, broke, act}
use Rattle.lz_model.specs.Interleavings as model
use Rattle.lz_model.specs.Interleavings.{Process, course, course_after, going, stuck, broken, MayDo, MayDoIn, IsRun}
use Rattle.lz_model.proofs.OneRunLemmas.{is_made_here}
use Rattle.lz_sync.specs.Slots.{thread_of, slot_of, RisesTo}
use Rattle.lz_interleave.specs.Deeds.{Start, ends_broken, ending}
use Rattle.lz_slot_runs.specs.SlotRuns.{is_awake, last_of, start_as, grown_by, may_start, slot_program, with_threads, by_slots, routines_of, routine_before}
use Rattle.lz_slot_runs.proofs.AwakeLemmas.{is_awake_at, asleep_is, length_more}
use Rattle.lz_slot_runs.proofs.NamesLemmas.{start_with, started_with, threads_grow, threads_stay}
use Rattle.lz_slot_runs.proofs.ThereLemmas.{MainCreates, next_made}
use Rattle.lz_slot_runs.proofs.BackLemmas.{front_rises, next_rises, above_asleep, there_and_back, back_unmade, names_back, named_twice, next_item}

-- the slots that thread 0 makes by these events
abbrev pub slots_of : List Event → List ℕ
slots_of run = map suc (routines_of (model.part 0 run))

-- what holds at each event: the slots that are made, and that are still to be made, rise, and there are as many threads
pub record At (top : ℕ) (last made : List ℕ) (run : List Event) (s : State) : Type 0 where
  pub is : last ≡ made ++ slots_of run
  pub rises : RisesTo top 0 last
  pub size : length s.threads ≡ suc (length made)

-- the slot that an event makes, before those that the rest makes
pub slots_first : (e : Event) (rest : List Event) → (e.thread ≢ 0 → started_by e.action ≡ None) → slots_of (e ∷ rest) ≡ map suc (routine_before (started_by e.action) (routines_of (model.part 0 rest)))
slots_first e rest main = by (eqb e.thread 0) refl
  where
    by : (b : Bool) → eqb e.thread 0 ≡ b → map suc (routines_of (cond b (act_of e ∷ model.part 0 rest) (model.part 0 rest))) ≡ map suc (routine_before (started_by e.action) (routines_of (model.part 0 rest)))
    by true f = refl
    by false f = rw (main (λ z. eqb-false e.thread 0 f z)) refl

-- the start of an event by slots
abbrev pub slotted_start : (ℕ → ℕ) → Option actions.Start → Start
slotted_start f start = start_as (option_map (start_with f) start)

-- what is known of an event that is not blocked
record Now (top : ℕ) (last made : List ℕ) (e : Event) (rest : List Event) (s : State) : Type 0 where
  awake : is_awake made (slot_of last e.thread) ≡ true
  thread : thread_of made (slot_of last e.thread) ≡ e.thread
  may : may_start (slotted_start (slot_of last) (started_by e.action)) made ≡ true
  same : act s e.thread (with_threads (thread_of made) (with_threads (slot_of last) e.action)) ≡ act s e.thread e.action
  later : last ≡ grown_by (slotted_start (slot_of last) (started_by e.action)) made ++ slots_of rest

-- an event that creates makes the next slot
pub record Made (top : ℕ) (last made : List ℕ) (start : actions.Start) (rest : List Event) : Type 0 where
  pub slot : slot_of last start.thread ≡ suc start.routine
  pub least : last_of 0 made < suc start.routine
  pub most : suc start.routine < top
  pub asleep : is_awake made (suc start.routine) ≡ false
  pub back : thread_of made (slot_of last start.thread) ≡ start.thread
  pub after : last ≡ (made ++ slot_of last start.thread ∷ []) ++ slots_of rest

-- a creation with the next number makes the next slot
pub makes_next : (top : ℕ) (last made : List ℕ) (start : actions.Start) (rest : List Event) → last ≡ made ++ suc start.routine ∷ slots_of rest → RisesTo top 0 last → start.thread ≡ suc (length made) → Made top last made start rest
makes_next top last made start rest is rises next =
    let r : RisesTo top 0 (made ++ suc start.routine ∷ slots_of rest) = subst (RisesTo top 0) is rises in
    let bounds = next_rises top 0 (suc start.routine) made (slots_of rest) r in
    let slot : slot_of last start.thread ≡ suc start.routine = (ap (slot_of last) next ∙ ap (λ (x : List ℕ). slice_index x (length made)) is ∙ next_item made (suc start.routine) (slots_of rest)) in
    let none = above_asleep top (suc start.routine) made (front_rises top 0 made (suc start.routine ∷ slots_of rest) r) bounds.0 in
    record {
      slot = slot;
      least = bounds.0;
      most = bounds.1;
      asleep = none;
      back = ap (thread_of made) slot ∙ asleep_is made (suc start.routine) none ∙ sym next;
      after = is ∙ sym (append_assoc made (suc start.routine ∷ []) (slots_of rest)) ∙ ap (λ (k : ℕ). (made ++ k ∷ []) ++ slots_of rest) (sym slot);
    }

-- so with every event that is not blocked
now : (top : ℕ) (last made : List ℕ) (e : Event) (rest : List Event) (s : State) → At top last made (e ∷ rest) s → act s e.thread e.action ≢ blocked → (e.thread ≢ 0 → started_by e.action ≡ None) → Now top last made e rest s
now top last made e rest s at goes main =
    by (started_by e.action) refl
  where
    there : e.thread < suc (length made)
    there = let z = is_made_here s e.thread e.action goes in let y = at.size in omega (arith, z, y)

    rises : RisesTo top 0 (made ++ slots_of (e ∷ rest))
    rises = subst (RisesTo top 0) at.is at.rises

    back : (t : ℕ) → t < suc (length made) → thread_of made (slot_of last t) ≡ t
    back t lt = ap (λ (x : List ℕ). thread_of made (slot_of x t)) at.is ∙ there_and_back top made (slots_of (e ∷ rest)) t rises lt

    past : (t : ℕ) → length s.threads ≤ t → (thread_of made (slot_of last t) ≡ 0) ⊎ (length s.threads ≤ thread_of made (slot_of last t))
    past t le = subst (λ (x : List ℕ). (thread_of made (slot_of x t) ≡ 0) ⊎ (length s.threads ≤ thread_of made (slot_of x t))) (sym at.is)
        (elim (back_unmade top made (slots_of (e ∷ rest)) t rises (let y = at.size in omega (arith, le, y))) [
          | inl z ↦ inl z
          | inr z ↦ inr (let y = at.size in omega (arith, z, y))
        ])

    awake_here : is_awake made (slot_of last e.thread) ≡ true
    awake_here = is_awake_at made (slot_of last e.thread) (let z = back e.thread there in let y = there in omega (arith, z, y))

    named : ((start : actions.Start) → started_by e.action ≡ Some start → thread_of made (slot_of last start.thread) ≡ start.thread) → act s e.thread (with_threads (thread_of made) (with_threads (slot_of last) e.action)) ≡ act s e.thread e.action
    named new = ap (act s e.thread) (named_twice (slot_of last) (thread_of made) e.action)
        ∙ names_back (λ w. thread_of made (slot_of last w)) s e.thread e.action goes (λ w lt. back w (let z = lt in let y = at.size in omega (arith, z, y))) past new

    by : (start : Option actions.Start) → started_by e.action ≡ start → Now top last made e rest s
    by None is = record {
      awake = awake_here;
      thread = back e.thread there;
      may = rw is refl;
      same = named (λ start other. absurd (let z : None ≡ Some start = sym is ∙ other in cc));
      later = rw is (at.is ∙ ap (λ (x : List ℕ). made ++ x) (slots_first e rest main ∙ rw is refl));
    }
    by (Some start) is =
        let next = makes_next top last made start rest (at.is ∙ ap (λ (x : List ℕ). made ++ x) (slots_first e rest main ∙ rw is refl)) at.rises
        (let z = next_made s e.thread e.action start is goes in let y = at.size in omega (arith, z, y)) in
        record {
          awake = awake_here;
          thread = back e.thread there;
          may = rw is (let lt = next.least in let none = next.asleep in subst (λ (k : ℕ). (nat_lt (last_of 0 made) k && not (is_awake made k)) ≡ true) (sym next.slot) (rw none (lt_true (last_of 0 made) (suc start.routine) lt)));
          same = named (λ other also. let z : Some start ≡ Some other = sym is ∙ also in let one : start ≡ other = cc in subst (λ (x : actions.Start). thread_of made (slot_of last x.thread) ≡ x.thread) one next.back);
          later = rw is next.after;
        }
      where
        lt_true : (a b : ℕ) → a < b → (nat_lt a b && true) ≡ true
        lt_true a b lt = by_ (nat_lt a b) refl
          where
            by_ : (c : Bool) → nat_lt a b ≡ c → (c && true) ≡ true
            by_ true e = refl
            by_ false e = absurd (let n : a < b → ⊥ = grind (arith, e) in n lt)

-- what holds after an event that goes
pub at_after : (top : ℕ) (last made : List ℕ) (e : Event) (rest : List Event) (s s2 : State) → At top last made (e ∷ rest) s → act s e.thread e.action ≡ went s2 → (e.thread ≢ 0 → started_by e.action ≡ None)
    → At top last (grown_by (slotted_start (slot_of last) (started_by e.action)) made) rest s2
at_after top last made e rest s s2 at is main =
    at_next (started_by e.action) refl (now top last made e rest s at (λ w. let z : went s2 ≡ blocked = sym is ∙ w in cc) main).later
  where
    at_next : (start : Option actions.Start) → started_by e.action ≡ start → last ≡ grown_by (slotted_start (slot_of last) (started_by e.action)) made ++ slots_of rest → At top last (grown_by (slotted_start (slot_of last) (started_by e.action)) made) rest s2
    at_next None f more = record { is = more; rises = at.rises; size = rw f (threads_stay s e.thread e.action s2 is f ∙ at.size) }
    at_next (Some start) f more = record { is = more; rises = at.rises; size = rw f (threads_grow s e.thread e.action s2 start is f ∙ ap suc (at.size ∙ sym (length_more made (slot_of last start.thread)))) }

-- ---- the run by slots breaks

-- one event, from what its action comes to
slots_event : (top : ℕ) (begins_ : State) (does : ℕ → ℕ → List Act → Type 0) (kind : BreakKind) (line : ℕ) (last made : List ℕ) (e : Event) (rest : List Event) (s : State) → At top last made (e ∷ rest) s
    → (e.thread ≢ 0 → started_by e.action ≡ None) → (acted : Acted) → act s e.thread e.action ≡ acted → course_after acted e.line rest (course rest) ≡ broken kind line
    → ((made2 : List ℕ) (s2 : State) → At top last made2 rest s2 → course rest s2 ≡ broken kind line → ending (slot_program begins_ does) (by_slots last rest) (record { state = s2; made = made2 }) ≡ ends_broken kind line)
    → ending (slot_program begins_ does) (by_slots last (e ∷ rest)) (record { state = s; made = made }) ≡ ends_broken kind line
unfolding ending
slots_event top begins_ does kind line last made e rest s at main (went s2) is ends later =
    let known = now top last made e rest s at (λ w. let z : went s2 ≡ blocked = sym is ∙ w in cc) main in
    let next = later (grown_by (slotted_start (slot_of last) (started_by e.action)) made) s2 (at_after top last made e rest s s2 at is main) ends in
    rw (started_with (slot_of last) e.action, known.awake, known.may, known.thread, known.same, is) next
slots_event top begins_ does kind line last made e rest s at main blocked is ends later = absurd cc
slots_event top begins_ does kind line last made e [] s at main (broke k) is ends later =
    let known = now top last made e [] s at (λ w. let z : broke k ≡ blocked = sym is ∙ w in cc) main in
    let z : ◌≡◌ {A = model.Course} (broken k e.line) (broken kind line) = ends in
    let p : k ≡ kind = cc in
    let q : e.line ≡ line = cc in
    rw (started_with (slot_of last) e.action, known.awake, known.may, known.thread, known.same, is) (rw (p, q) refl)
slots_event top begins_ does kind line last made e (d ∷ rest) s at main (broke k) is ends later = absurd cc

-- so in a whole run
pub slots_break : (top : ℕ) (begins_ : State) (does : ℕ → ℕ → List Act → Type 0) (kind : BreakKind) (line : ℕ) (last : List ℕ) (run : List Event) (made : List ℕ) (s : State) → At top last made run s → MainCreates run
    → course run s ≡ broken kind line → ending (slot_program begins_ does) (by_slots last run) (record { state = s; made = made }) ≡ ends_broken kind line
slots_break top begins_ does kind line last [] made s at main ends = absurd cc
slots_break top begins_ does kind line last (e ∷ rest) made s at main ends =
    slots_event top begins_ does kind line last made e rest s at main.0 (act s e.thread e.action) refl ends (λ made2 s2 next on. slots_break top begins_ does kind line last rest made2 s2 next main.1 on)
