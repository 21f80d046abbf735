-- What slots do meets the law on stores.
use Rattle.std.proofs.Common.{◌≡◌, ℕ, Bool, true, false, not, ◌&&◌, cond, List, [], eqb, refl, sym, ◌∙◌, ap, subst}
use Rattle.std.proofs.lemmas.Bool.{eqb-true}
use Rattle.lz_model.specs.Actions.{Act}
use Rattle.lz_model.specs.Store.{State, Acted, went, blocked, broke, act}
use Rattle.lz_interleave.specs.Deeds.{gone, waits, Start, no_start, starts, begins}
use Rattle.lz_interleave.specs.StepLaw.{StoreLaw}
use Rattle.lz_sync.specs.Slots.{thread_of}
use Rattle.lz_slot_runs.specs.SlotRuns.{Slotted, is_awake, start_in, grown_by, may_start, done_as, where_, slot_act, slot_program, with_threads}
use Rattle.lz_slot_runs.proofs.AwakeLemmas.{awake_grown, new_start}

-- a test that is true has both parts
pub both : (a b : Bool) → (a && b) ≡ true → (a ≡ true) × (b ≡ true)
both true true e = (refl, refl)
both true false e = absurd cc
both false b e = absurd cc

-- a slot that is not made is blocked
pub asleep_waits : (s : Slotted) (slot : ℕ) (a : Act) → not (is_awake s.made slot) ≡ true → slot_act s slot a ≡ waits
asleep_waits s slot a h = by (is_awake s.made slot) h
  where
    by : (b : Bool) → not b ≡ true → where_ (b && may_start (start_in a) s.made) (done_as a.line (grown_by (start_in a) s.made) (act s.state (thread_of s.made slot) (with_threads (thread_of s.made) a.action))) ≡ waits
    by true h = absurd cc
    by false h = refl

-- what goes may go, and makes what it starts
pub record Goes (s : Slotted) (slot : ℕ) (a : Act) (after : Slotted) : Type 0 where
  pub awake : is_awake s.made slot ≡ true
  pub may : may_start (start_in a) s.made ≡ true
  pub goes : act s.state (thread_of s.made slot) (with_threads (thread_of s.made) a.action) ≡ went after.state
  pub made : after.made ≡ grown_by (start_in a) s.made

-- so it is with every action that goes
pub goes_so : (s : Slotted) (slot : ℕ) (a : Act) (after : Slotted) → slot_act s slot a ≡ gone after → Goes s slot a after
goes_so s slot a after e = by (is_awake s.made slot) refl (may_start (start_in a) s.made) refl (act s.state (thread_of s.made slot) (with_threads (thread_of s.made) a.action)) refl e
  where
    by : (b : Bool) → is_awake s.made slot ≡ b → (c : Bool) → may_start (start_in a) s.made ≡ c → (r : Acted) → act s.state (thread_of s.made slot) (with_threads (thread_of s.made) a.action) ≡ r
        → where_ (b && c) (done_as a.line (grown_by (start_in a) s.made) r) ≡ gone after → Goes s slot a after
    by true f true g (went state) h e =
        let is : record { state = state; made = grown_by (start_in a) s.made } ≡ after = cc in
        record { awake = f; may = g; goes = h ∙ ap (λ (x : Slotted). went x.state) is; made = ap (λ (x : Slotted). x.made) (sym is) }
    by true f true g blocked h e = absurd cc
    by true f true g (broke kind) h e = absurd cc
    by true f false g r h e = absurd cc
    by false f c g r h e = absurd cc

-- what is started was not made
wakes_by : (start : Start) (made : List ℕ) (u : ℕ) → may_start start made ≡ true → begins start u ≡ true → not (is_awake made u) ≡ true
wakes_by no_start made u may h = absurd cc
wakes_by (starts k v) made u may h = subst (λ (w : ℕ). not (is_awake made w) ≡ true) (eqb-true k u h) (ap not (new_start k v made may).1)

-- what is made after it
woken_by : (start : Start) (made : List ℕ) (u : ℕ) → may_start start made ≡ true → not (is_awake (grown_by start made) u) ≡ cond (begins start u) false (not (is_awake made u))
woken_by no_start made u may = refl
woken_by (starts k v) made u may = ap not (awake_grown made k u (new_start k v made may).1) ∙ by (eqb k u)
  where
    by : (b : Bool) → not (cond b true (is_awake made u)) ≡ cond b false (not (is_awake made u))
    by true = refl
    by false = refl

-- the law on stores
pub slot_store : (begins_ : State) (does : ℕ → ℕ → List Act → Type 0) → ((slot v : ℕ) → does slot v []) → StoreLaw (slot_program begins_ does)
slot_store begins_ does none = record {
  sleeps = asleep_waits;
  wakes = λ s after t u a e h. wakes_by (start_in a) s.made u (goes_so s t a after e).may h;
  woken = λ s after t u a e. ap (λ (made : List ℕ). not (is_awake made u)) (goes_so s t a after e).made ∙ woken_by (start_in a) s.made u (goes_so s t a after e).may;
  none = none;
}
