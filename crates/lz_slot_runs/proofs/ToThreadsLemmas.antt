-- A run of slots that breaks is a run of threads that breaks alike, by the names of the slots that are made in the end.
use Rattle.std.proofs.Common.{◌≡◌, ℕ, suc, Bool, true, false, ◌&&◌, List, [], ◌∷◌, ◌++◌, length, refl, sym, ◌∙◌, ap, subst, arith, Option, Some, None}
use Rattle.std.specs.Prelude.{option_map}
use Rattle.lz_base.specs.declared.word.BreakKind.{BreakKind}
use Rattle.lz_model.specs.declared.actions.Action.{Action}
use Rattle.lz_model.specs.Actions.{Act, event_of, started_by}
use Rattle.lz_model.specs.Actions as actions
use Rattle.lz_model.specs.Store.{State, Acted, went, blocked, broke, act}
use Rattle.lz_model.specs.Interleavings.{course, broken}
use Rattle.lz_sync.specs.Slots.{thread_of}
use Rattle.lz_interleave.specs.Deeds.{Done, gone, waits, fails, Start, no_start, starts, End, ends_broken, end_behind, ending}
use Rattle.lz_interleave.specs.Deeds as deeds
use Rattle.lz_slot_runs.specs.SlotRuns.{Slotted, is_awake, start_in, start_as, grown_by, may_start, done_as, where_, slot_program, with_threads, act_with, made_in, by_threads, events_with}
use Rattle.lz_slot_runs.proofs.AwakeLemmas.{is_awake_at, asleep_is, thread_kept, thread_new, awake_kept, new_start, length_more}
use Rattle.lz_slot_runs.proofs.NamesLemmas.{names_agree, start_with, started_with, breaks_starts_none, threads_grow, threads_stay}

-- each event is of a slot that is made, and starts what it may
abbrev pub AllAwake : List ℕ → List (deeds.Event Act) → Type 0
AllAwake made [] = Unit
AllAwake made (e ∷ rest) = (is_awake made e.thread ≡ true) × (may_start (start_in e.deed) made ≡ true) × AllAwake (grown_by (start_in e.deed) made) rest

-- a slot that is made keeps its thread when others are made
grown_kept : (start : Start) (made : List ℕ) (u : ℕ) → is_awake made u ≡ true → (thread_of (grown_by start made) u ≡ thread_of made u) × (is_awake (grown_by start made) u ≡ true)
grown_kept no_start made u a = (refl, a)
grown_kept (starts k v) made u a = (thread_kept made k u a, awake_kept made k u a)

-- to the end of the run
pub made_kept : (es : List (deeds.Event Act)) (made : List ℕ) (u : ℕ) → is_awake made u ≡ true → (thread_of (made_in made es) u ≡ thread_of made u) × (is_awake (made_in made es) u ≡ true)
unfolding made_in
made_kept [] made u a = (refl, a)
made_kept (e ∷ rest) made u a =
    let now = grown_kept (start_in e.deed) made u a in
    let later = made_kept rest (grown_by (start_in e.deed) made) u now.1 in
    (later.0 ∙ now.0, later.1)

-- the run by threads, that it breaks so, and the one way in which slots are named in it
pub record Told (made : List ℕ) (es : List (deeds.Event Act)) (s : State) (kind : BreakKind) (line : ℕ) : Type 0 where
  pub ends : course (by_threads made es) s ≡ broken kind line
  pub awake : AllAwake made es
  pub same : by_threads made es ≡ events_with (thread_of (made_in made es)) es

-- as many threads as slots, after an action that goes
grown_threads : (f : ℕ → ℕ) (made : List ℕ) (s s2 : State) (t : ℕ) (a : Action) (start : Option actions.Start) → started_by a ≡ start → act s t (with_threads f a) ≡ went s2
    → length s.threads ≡ suc (length made) → length s2.threads ≡ suc (length (grown_by (start_as start) made))
grown_threads f made s s2 t a None is e size = threads_stay s t (with_threads f a) s2 e (started_with f a ∙ ap (option_map (start_with f)) is) ∙ size
grown_threads f made s s2 t a (Some start) is e size =
    threads_grow s t (with_threads f a) s2 (start_with f start) e (started_with f a ∙ ap (option_map (start_with f)) is) ∙ ap suc (size ∙ sym (length_more made start.thread))

-- the names that an action that goes has are those of the end
named_so : (made : List ℕ) (rest : List (deeds.Event Act)) (s s2 : State) (t : ℕ) (a : Action) (start : Option actions.Start) → started_by a ≡ start → may_start (start_as start) made ≡ true
    → act s t (with_threads (thread_of made) a) ≡ went s2 → length s.threads ≡ suc (length made)
    → with_threads (thread_of (made_in (grown_by (start_as start) made) rest)) a ≡ with_threads (thread_of made) a
named_so made rest s s2 t a start is may e size =
    names_agree (thread_of made) (thread_of (made_in (grown_by (start_as start) made) rest)) s t a s2 e
    (λ w lt. kept w (is_awake_at made w (let k = lt in let z = size in omega (arith, k, z))))
    (λ other same. by start is may other same)
  where
    kept : (w : ℕ) → is_awake made w ≡ true → thread_of (made_in (grown_by (start_as start) made) rest) w ≡ thread_of made w
    kept w awake =
        let now = grown_kept (start_as start) made w awake in
        (made_kept rest (grown_by (start_as start) made) w now.1).0 ∙ now.0

    by : (start : Option actions.Start) → started_by a ≡ start → may_start (start_as start) made ≡ true → (other : actions.Start) → started_by a ≡ Some other
        → thread_of (made_in (grown_by (start_as start) made) rest) other.thread ≡ thread_of made other.thread
    by None is may other same = absurd (let z : None ≡ Some other = sym is ∙ same in cc)
    by (Some first) is may other same =
        let z : Some first ≡ Some other = sym is ∙ same in
        let one : first ≡ other = cc in
        subst (λ (x : actions.Start). thread_of (made_in (made ++ first.thread ∷ []) rest) x.thread ≡ thread_of made x.thread) one
        (let new = (new_start first.thread first.argument made may).1 in
        let at = thread_new made first.thread new in
        let long = length_more made first.thread in
        (made_kept rest (made ++ first.thread ∷ []) first.thread (is_awake_at (made ++ first.thread ∷ []) first.thread (omega (arith, at, long)))).0
        ∙ at ∙ sym (asleep_is made first.thread new))

-- one event, from what its action comes to
told_by : (made : List ℕ) (e : deeds.Event Act) (rest : List (deeds.Event Act)) (s : State) (kind : BreakKind) (line : ℕ) (begins : State) (does : ℕ → ℕ → List Act → Type 0)
    (b c : Bool) (r : Acted) → is_awake made e.thread ≡ b → may_start (start_in e.deed) made ≡ c → act s (thread_of made e.thread) (with_threads (thread_of made) e.deed.action) ≡ r
    → length s.threads ≡ suc (length made)
    → end_behind (where_ (b && c) (done_as e.deed.line (grown_by (start_in e.deed) made) r)) rest (ending (slot_program begins does) rest) ≡ ends_broken kind line
    → ((s2 : State) → length s2.threads ≡ suc (length (grown_by (start_in e.deed) made))
    → ending (slot_program begins does) rest (record { state = s2; made = grown_by (start_in e.deed) made }) ≡ ends_broken kind line → Told (grown_by (start_in e.deed) made) rest s2 kind line)
    → Told made (e ∷ rest) s kind line
unfolding ending by_threads made_in
told_by made e rest s kind line begins does true true (went s2) f g h size is later =
    let tale = later s2 (grown_threads (thread_of made) made s s2 (thread_of made e.thread) e.deed.action (started_by e.deed.action) refl h size) is in
    record {
      ends = rw h tale.ends;
      awake = (f, g, tale.awake);
      same = by (names tale.same);
    }
  where
    last : List ℕ
    last = made_in (grown_by (start_in e.deed) made) rest

    names : by_threads (grown_by (start_in e.deed) made) rest ≡ events_with (thread_of last) rest
        → (thread_of made e.thread ≡ thread_of last e.thread) × (with_threads (thread_of made) e.deed.action ≡ with_threads (thread_of last) e.deed.action) × (by_threads (grown_by (start_in e.deed) made) rest ≡ events_with (thread_of last) rest)
    names same =
        let now = grown_kept (start_in e.deed) made e.thread f in
        (sym ((made_kept rest (grown_by (start_in e.deed) made) e.thread now.1).0 ∙ now.0), sym (named_so made rest s s2 (thread_of made e.thread) e.deed.action (started_by e.deed.action) refl g h size), same)

    by : (thread_of made e.thread ≡ thread_of last e.thread) × (with_threads (thread_of made) e.deed.action ≡ with_threads (thread_of last) e.deed.action) × (by_threads (grown_by (start_in e.deed) made) rest ≡ events_with (thread_of last) rest)
        → event_of (thread_of made e.thread) (act_with (thread_of made) e.deed) ∷ by_threads (grown_by (start_in e.deed) made) rest ≡ event_of (thread_of last e.thread) (act_with (thread_of last) e.deed) ∷ events_with (thread_of last) rest
    by (x, y, z) = rw (x, y, z) refl
told_by made e rest s kind line begins does true true blocked f g h size is later = absurd cc
told_by made e [] s kind line begins does true true (broke k) f g h size is later =
    let z : ◌≡◌ {A = End Slotted} (ends_broken k e.deed.line) (ends_broken kind line) = is in
    let p : k ≡ kind = cc in
    let q : e.deed.line ≡ line = cc in
    let none : start_in e.deed ≡ no_start = still (started_by e.deed.action) refl (breaks_starts_none s (thread_of made e.thread) (with_threads (thread_of made) e.deed.action) k h) in
    record {
      ends = rw h (rw (p, q) refl);
      awake = (f, g, tt);
      same = rw none refl;
    }
  where
    still : (start : Option actions.Start) → started_by e.deed.action ≡ start → started_by (with_threads (thread_of made) e.deed.action) ≡ None → start_as start ≡ no_start
    still None is none = refl
    still (Some start) is none = absurd (let z : None ≡ Some (start_with (thread_of made) start) = sym none ∙ started_with (thread_of made) e.deed.action ∙ ap (option_map (start_with (thread_of made))) is in cc)
told_by made e (d ∷ rest) s kind line begins does true true (broke k) f g h size is later = absurd cc
told_by made e rest s kind line begins does true false r f g h size is later = absurd cc
told_by made e rest s kind line begins does false c r f g h size is later = absurd cc

-- the run by threads of a run of slots that breaks
pub told : (begins : State) (does : ℕ → ℕ → List Act → Type 0) (kind : BreakKind) (line : ℕ) (es : List (deeds.Event Act)) (made : List ℕ) (s : State) → length s.threads ≡ suc (length made)
    → ending (slot_program begins does) es (record { state = s; made = made }) ≡ ends_broken kind line → Told made es s kind line
unfolding ending
told begins does kind line [] made s size is = absurd cc
told begins does kind line (e ∷ rest) made s size is =
    told_by made e rest s kind line begins does (is_awake made e.thread) (may_start (start_in e.deed) made) (act s (thread_of made e.thread) (with_threads (thread_of made) e.deed.action)) refl refl refl size is
    (λ s2 more next. told begins does kind line rest (grown_by (start_in e.deed) made) s2 more next)
