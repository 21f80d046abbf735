-- A run whose thread 0 is calm has steps of thread 0 alone, which choose nothing.
use Rattle.std.proofs.Common.{◌≡◌, ◌≢◌, ℕ, zero, suc, ◌⊎◌, inl, inr, Bool, true, false, not, ◌&&◌, ◌||◌, eqb, ltb, cond, List, [], ◌∷◌, ◌++◌, length, map, replicate, slice_index, slice_index_or, slice_set, Option, Some, None, refl, sym, ◌∙◌, ap, subst, arith}
use Rattle.std.proofs.lemmas.Bool.Decides.{nat_tests}
use Rattle.lz_base.specs.declared.word.BreakKind.TheVariants as kinds
use Rattle.lz_model.specs.declared.actions.Action.{Action}
use Rattle.lz_model.specs.declared.actions.Action.TheVariants.{Loc, Input, Check, Assume, Rd, Wr, Reset, Lock, Unlock, Park, Wake, Signal, Broadcast, Create, Join, HoldOn, HoldOff, End}
use Rattle.lz_model.specs.declared.actions.Event.{Event}
use Rattle.lz_model.specs.declared.schedule.Step.{Step}
use Rattle.lz_model.specs.declared.thread_state.ThreadState.{ThreadState}
use Rattle.lz_model.specs.Actions.{act_of, choice_of, is_shared}
use Rattle.lz_model.specs.Store.{State, Acted, went, blocked, broke, fresh, opening, is_now, is_any, is_made, is_waiting, is_free, owns, thread_at, has_waiter, waits_on, awake, woken_from, with_owner, with_thread, is_halted, held_by_another, goes_where, joins, act_free, act}
use Rattle.lz_model.specs.Interleavings.{stuck, course_after, course, part}
use Rattle.lz_model.specs.BrokenRuns.{step_with, steps_of, schedule_of}
use Rattle.lz_model.proofs.RunFrontsLemmas.{goes_is, breaks_is, went_is, unmade_blocked}
use Rattle.lz_choices.specs.MainAlone.{main_step}
use Rattle.lz_choices.proofs.CalmLemmas.{behind, carries, walk}

-- ---- thread 0 is the only one

-- one thread is there, which waits on a condition or not
pub record Alone (parked : Bool) (s : State) : Type 0 where
  pub thread : ThreadState
  pub only : s.threads ≡ thread ∷ []
  pub waits : is_waiting thread ≡ parked

-- so it is at the beginning
pub alone_first : (cells : List ℕ) (mutexes : ℕ) → Alone false (opening cells mutexes)
alone_first cells mutexes = record { thread = fresh; only = refl; waits = refl }

it_waits : (b : Bool) (s : State) → Alone b s → is_waiting (thread_at s 0) ≡ b
it_waits b s a = ap (λ (ts : List ThreadState). is_waiting (slice_index_or ts 0 fresh)) a.only ∙ a.waits

not_made : (b : Bool) (s : State) (u : ℕ) → Alone b s → is_made s (suc u) ≡ false
not_made b s u a = let one : length s.threads ≡ 1 = ap length a.only in below (length s.threads) one
  where
    below : (n : ℕ) → n ≡ 1 → ltb (suc u) n ≡ false
    below n e = grind (arith, nat_tests)

-- who waits on nothing does not wait on this
waits_on_none : (c : ℕ) (o : Option ℕ) → is_any o ≡ false → is_now o c ≡ false
waits_on_none c None e = refl
waits_on_none c (Some d) e = absurd cc

-- an action of another thread is blocked
pub by_main : (b : Bool) (s : State) (t : ℕ) (a : Action) → Alone b s → act s t a ≢ blocked → t ≡ 0
by_main b s zero a alone h = refl
by_main b s (suc t) a alone h = let one : length s.threads ≡ 1 = ap length alone.only in absurd (h (unmade_blocked s (suc t) a (omega (arith, one))))

-- a parked thread is never woken
parked_blocked : (s : State) (a : Action) (c : Bool) → Alone true s → behind true a ≡ Some c → act_free s 0 a ≡ blocked
parked_blocked s (Wake cond mutex) c alone e =
    ap (λ (w : Bool). goes_where (not w && is_free s mutex) (with_owner s mutex (Some 0))) (it_waits true s alone)
parked_blocked s a c alone e = absurd cc

-- nobody is there whom a signal could wake
wakes_nobody : (s : State) (c u : ℕ) → Alone false s → act_free s 0 (Signal c (Some u)) ≡ blocked
wakes_nobody s c zero alone =
    let no : waits_on c (thread_at s 0) ≡ false = waits_on_none c (thread_at s 0).waits (it_waits false s alone) in
    by (is_made s 0) (waits_on c (thread_at s 0)) no
  where
    by : (made waits : Bool) → waits ≡ false → goes_where (made && waits) (with_thread s 0 (awake (thread_at s 0))) ≡ blocked
    by made true e = absurd cc
    by true false e = refl
    by false false e = refl
wakes_nobody s c (suc u) alone =
    ap (λ (made : Bool). goes_where (made && waits_on c (thread_at s (suc u))) (with_thread s (suc u) (awake (thread_at s (suc u))))) (not_made false s u alone)

-- no thread is there that could be joined
joins_nobody : (s : State) (d : ℕ) → Alone false s → joins s d ≡ broke kinds.Join
joins_nobody s zero alone = refl
joins_nobody s (suc d) alone = by (eqb (suc d) 0) (is_made s (suc d)) (thread_at s (suc d)).joined (not_made false s d alone)
  where
    by : (none made joined : Bool) → made ≡ false
        → cond (none || (not made || joined)) (broke kinds.Join) (goes_where (thread_at s (suc d)).ended (with_thread s (suc d) (record (thread_at s (suc d)) { joined = true }))) ≡ broke kinds.Join
    by none true joined e = absurd cc
    by true false joined e = refl
    by false false joined e = refl

-- where the threads are as they were
stays : (b : Bool) (s s1 s2 : State) → Alone b s → s1.threads ≡ s.threads → s1 ≡ s2 → Alone b s2
stays b s s1 s2 a e k = subst (λ (x : State). Alone b x) k (record { thread = a.thread; only = e ∙ a.only; waits = a.waits })

stays_as : (c : Bool) (s s1 s2 : State) → Alone false s → s1.threads ≡ s.threads → went (cond c s1 s) ≡ went s2 → Alone false s2
stays_as true s s1 s2 a e k = stays false s s1 s2 a e (went_is s1 s2 k)
stays_as false s s1 s2 a e k = stays false s s s2 a refl (went_is s s2 k)

-- another state of thread 0
put_first : (ts : List ThreadState) (t new : ThreadState) → ts ≡ t ∷ [] → slice_set ts 0 new ≡ new ∷ []
put_first ts t new e = ap (λ (xs : List ThreadState). slice_set xs 0 new) e

still : (c : ℕ) (t : ThreadState) → is_waiting t ≡ false → woken_from c t ≡ t
still c t e = by (waits_on c t) (waits_on_none c t.waits e)
  where
    by : (b : Bool) → b ≡ false → cond b (awake t) t ≡ t
    by true k = absurd cc
    by false k = refl

-- so it is behind each action that goes
behind_alone : (s : State) (a : Action) (c : Bool) (s2 : State) → Alone false s → behind false a ≡ Some c → act_free s 0 a ≡ went s2 → Alone c s2
behind_alone s Loc false s2 a e k = stays false s s s2 a refl (went_is s s2 k)
behind_alone s (Input v) c s2 a e k = absurd cc
behind_alone s (Check zero kind) c s2 a e k = absurd cc
behind_alone s (Check (suc v) kind) false s2 a e k = stays false s s s2 a refl (went_is s s2 k)
behind_alone s (Assume zero) c s2 a e k = absurd cc
behind_alone s (Assume (suc v)) false s2 a e k = stays false s s s2 a refl (went_is s s2 k)
behind_alone s (Rd cell v) false s2 a e k = stays false s s s2 a refl (goes_is (eqb v (slice_index s.cells cell)) s s2 k).1
behind_alone s (Wr cell v) false s2 a e k =
    stays false s (record s { cells = slice_set s.cells cell v }) s2 a refl (went_is (record s { cells = slice_set s.cells cell v }) s2 k)
behind_alone s (Reset m) false s2 a e k = stays false s (with_owner s m None) s2 a refl (went_is (with_owner s m None) s2 k)
behind_alone s (Lock m) false s2 a e k = stays false s (with_owner s m (Some 0)) s2 a refl (goes_is (is_free s m) (with_owner s m (Some 0)) s2 k).1
behind_alone s (Unlock m) false s2 a e k = stays false s (with_owner s m None) s2 a refl (breaks_is (owns s 0 m) (with_owner s m None) s2 kinds.Unlock k)
behind_alone s (Park cond mutex) true s2 a e k =
    let parked = record (thread_at s 0) { waits = Some cond } in
    let is = breaks_is (owns s 0 mutex) (with_thread (with_owner s mutex None) 0 parked) s2 kinds.Wait k in
    subst (λ (x : State). Alone true x) is (record { thread = parked; only = put_first s.threads a.thread parked a.only; waits = refl })
behind_alone s (Wake cond mutex) c s2 a e k = absurd cc
behind_alone s (Signal cond None) false s2 a e k = stays false s s s2 a refl (goes_is (not (has_waiter s cond)) s s2 k).1
behind_alone s (Signal cond (Some u)) c s2 a e k = absurd (let z : blocked ≡ went s2 = sym (wakes_nobody s cond u a) ∙ k in cc)
behind_alone s (Broadcast cond) false s2 a e k =
    let same : map (woken_from cond) s.threads ≡ a.thread ∷ [] =
    ap (map (woken_from cond)) a.only ∙ ap (λ (t : ThreadState). t ∷ []) (still cond a.thread a.waits) in
    subst (λ (x : State). Alone false x) (went_is (record s { threads = map (woken_from cond) s.threads }) s2 k) (record { thread = a.thread; only = same; waits = a.waits })
behind_alone s (Create d f v) c s2 a e k = absurd cc
behind_alone s (Join d) c s2 a e k = absurd (let z : broke kinds.Join ≡ went s2 = sym (joins_nobody s d a) ∙ k in cc)
behind_alone s HoldOn false s2 a e k = stays false s (record s { holder = Some 0 }) s2 a refl (went_is (record s { holder = Some 0 }) s2 k)
behind_alone s HoldOff false s2 a e k = stays_as (is_now s.holder 0) s (record s { holder = None }) s2 a refl k
behind_alone s (End whole) false s2 a e k =
    let ended = record (thread_at s 0) { ended = true } in
    let s1 = record s { threads = slice_set s.threads 0 ended; holder = cond (is_now s.holder 0) None s.holder; over = s.over || whole } in
    subst (λ (x : State). Alone false x) (went_is s1 s2 k) (record { thread = ended; only = put_first s.threads a.thread ended a.only; waits = it_waits false s a })
behind_alone s a c s2 alone e k = absurd cc

-- ---- what it chooses

one_choice : (s : State) (a : Action) (c : Bool) → Alone false s → behind false a ≡ Some c → act_free s 0 a ≢ blocked → (choice_of a ≡ None) ⊎ (choice_of a ≡ Some 0)
one_choice s Loc c a e h = inl refl
one_choice s (Input v) c a e h = absurd cc
one_choice s (Check v kind) c a e h = inr refl
one_choice s (Assume v) c a e h = inr refl
one_choice s (Rd cell v) c a e h = inr refl
one_choice s (Wr cell v) c a e h = inr refl
one_choice s (Reset m) c a e h = inr refl
one_choice s (Lock m) c a e h = inr refl
one_choice s (Unlock m) c a e h = inr refl
one_choice s (Park cond mutex) c a e h = inr refl
one_choice s (Wake cond mutex) c a e h = inr refl
one_choice s (Signal cond None) c a e h = inr refl
one_choice s (Signal cond (Some u)) c a e h = absurd (h (wakes_nobody s cond u a))
one_choice s (Broadcast cond) c a e h = inr refl
one_choice s (Create d f v) c a e h = inr refl
one_choice s (Join d) c a e h = inr refl
one_choice s HoldOn c a e h = inr refl
one_choice s HoldOff c a e h = inr refl
one_choice s (End whole) c a e h = inr refl

-- ---- an event of a run

-- what an event comes to that is not blocked
free_is : (c : Bool) (acted : Acted) → cond c blocked acted ≢ blocked → cond c blocked acted ≡ acted
free_is true acted h = absurd (h refl)
free_is false acted h = refl

-- an event of a run: thread 0 was not parked, and chooses nothing
record Turn (s : State) (e : Event) (c : Bool) : Type 0 where
  chosen : (steps_of e ≡ []) ⊎ (steps_of e ≡ main_step ∷ [])
  later : (s2 : State) → act s e.thread e.action ≡ went s2 → Alone c s2

turn_of : (b : Bool) (s : State) (e : Event) (c : Bool) → Alone b s → e.thread ≡ 0 → behind b e.action ≡ Some c → act s e.thread e.action ≢ blocked → Turn s e c
turn_of b s e c alone zero_ is able = by b alone is
  where
    at_zero : act s e.thread e.action ≡ act s 0 e.action
    at_zero = ap (λ (t : ℕ). act s t e.action) zero_

    free : act s 0 e.action ≡ act_free s 0 e.action
    free = free_is (is_halted s 0 || (is_shared e.action && held_by_another s.holder 0)) (act_free s 0 e.action) (λ h. able (at_zero ∙ h))

    goes : act_free s 0 e.action ≢ blocked
    goes h = able (at_zero ∙ free ∙ h)

    by : (b : Bool) → Alone b s → behind b e.action ≡ Some c → Turn s e c
    by true a k = absurd (goes (parked_blocked s e.action c a k))
    by false a k = record {
      chosen = elim (one_choice s e.action c a k goes) [
        | inl none ↦ inl (ap (step_with e.thread) none)
        | inr some ↦ inr (ap (step_with e.thread) some ∙ ap (λ (t : ℕ). record { thread = t; choice = 0 } ∷ []) zero_)
      ];
      later = λ s2 went_. behind_alone s e.action c s2 a k (sym free ∙ sym at_zero ∙ went_);
    }

-- ---- runs

abbrev Same : List Step → Type 0
Same steps = steps ≡ replicate (length steps) main_step

one_more : (first rest : List Step) → (first ≡ []) ⊎ (first ≡ main_step ∷ []) → Same rest → Same (first ++ rest)
one_more first rest (inl e) h = subst (λ (xs : List Step). Same (xs ++ rest)) (sym e) h
one_more first rest (inr e) h = subst (λ (xs : List Step). Same (xs ++ rest)) (sym e) (ap (λ (xs : List Step). main_step ∷ xs) h)

-- the rest of a run, by what its first event comes to
rest_of : (s : State) (e : Event) (rest : List Event) (c : Bool) (acted : Acted) → act s e.thread e.action ≡ acted → Turn s e c
    → ((s2 : State) → Alone c s2 → course rest s2 ≢ stuck → Same (schedule_of rest))
    → course_after acted e.line rest (course rest) ≢ stuck → Same (schedule_of rest)
rest_of s e rest c (went s2) is turn ih goes = ih s2 (turn.later s2 is) goes
rest_of s e rest c blocked is turn ih goes = absurd (goes refl)
rest_of s e [] c (broke kind) is turn ih goes = refl
rest_of s e (next ∷ rest) c (broke kind) is turn ih goes = absurd (goes refl)

event_of_run : (s : State) (b : Bool) (e : Event) (rest : List Event) (c : Bool) (o : Option Bool) → Alone b s → e.thread ≡ 0 → act s e.thread e.action ≢ blocked → behind b e.action ≡ o
    → carries o (λ later. walk later (part 0 rest)) ≡ Some c
    → ((s2 : State) (d : Bool) → Alone d s2 → walk d (part 0 rest) ≡ Some c → course rest s2 ≢ stuck → Same (schedule_of rest))
    → course (e ∷ rest) s ≢ stuck → Same (schedule_of (e ∷ rest))
event_of_run s b e rest c None alone zero_ able is walks ih goes = absurd cc
event_of_run s b e rest c (Some d) alone zero_ able is walks ih goes =
    let turn = turn_of b s e d alone zero_ is able in
    one_more (steps_of e) (schedule_of rest) turn.chosen
    (rest_of s e rest d (act s e.thread e.action) refl turn (λ s2 a on. ih s2 d a walks on) goes)

-- the steps of a run from a state in which thread 0 is alone
pub alone_run : (run : List Event) (s : State) (b c : Bool) → Alone b s → walk b (part 0 run) ≡ Some c → course run s ≢ stuck → Same (schedule_of run)
alone_run [] s b c alone walks goes = refl
alone_run (e ∷ rest) s b c alone walks goes =
    let able : act s e.thread e.action ≢ blocked = λ h. goes (ap (λ (acted : Acted). course_after acted e.line rest (course rest)) h) in
    let zero_ : e.thread ≡ 0 = by_main b s e.thread e.action alone able in
    let first : part 0 (e ∷ rest) ≡ act_of e ∷ part 0 rest = ap (λ (t : ℕ). cond (eqb t 0) (act_of e ∷ part 0 rest) (part 0 rest)) zero_ in
    let is : carries (behind b e.action) (λ later. walk later (part 0 rest)) ≡ Some c = sym (ap (walk b) first) ∙ walks in
    event_of_run s b e rest c (behind b e.action) alone zero_ able refl is (λ s2 d a k on. alone_run rest s2 d c a k on) goes
