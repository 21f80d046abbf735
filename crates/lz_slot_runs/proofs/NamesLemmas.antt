-- Which threads an action that goes names, and two names that agree on them.
use Rattle.std.proofs.Common.{◌≡◌, ℕ, suc, ◌+◌, ◌<◌, Bool, true, false, not, ◌&&◌, ◌||◌, cond, [], ◌∷◌, ◌++◌, length, eqb, refl, sym, ◌∙◌, ap, arith, Some, None}
use Rattle.std.specs.Prelude.{option_map}
use Rattle.lz_base.specs.declared.word.BreakKind.{BreakKind}
use Rattle.lz_base.specs.declared.word.BreakKind.TheVariants as kinds
use Rattle.lz_model.specs.declared.actions.Action.{Action}
use Rattle.lz_model.specs.declared.actions.Action.TheVariants.{Loc, Input, Check, Assume, Rd, Wr, Reset, Lock, Unlock, Park, Wake, Signal, Broadcast, Create, Join, HoldOn, HoldOff, End}
use Rattle.lz_model.specs.Actions.{Act, started_by, is_shared}
use Rattle.lz_model.specs.Actions as actions
use Rattle.lz_model.specs.Store.{State, Acted, went, blocked, broke, act, act_free, is_halted, held_by_another, is_made, thread_at, waits_on, with_thread, awake, goes_where}
use Rattle.std.proofs.lemmas.List.{length-append}
use Rattle.lz_model.specs.Store.{fresh}
use Rattle.lz_model.proofs.RunFrontsLemmas.{Grows, as_many, one_more, grows, goes_is}
use Rattle.lz_slot_runs.specs.SlotRuns.{with_threads}

-- what goes is not kept out
free_goes : (c : Bool) (r : Acted) (s2 : State) → cond c blocked r ≡ went s2 → r ≡ went s2
free_goes true r s2 e = absurd cc
free_goes false r s2 e = e

-- an action that goes is not kept out
pub act_goes : (s : State) (t : ℕ) (a : Action) (s2 : State) → act s t a ≡ went s2 → act_free s t a ≡ went s2
act_goes s t a s2 e = free_goes (is_halted s t || (is_shared a && held_by_another s.holder t)) (act_free s t a) s2 e

-- who is made has a number below theirs
pub made_below : (s : State) (d : ℕ) → is_made s d ≡ true → d < length s.threads
made_below s d h = grind (arith, h)

-- who is joined is made
pub joined_made : (s : State) (t d : ℕ) (s2 : State) → act s t (Join d) ≡ went s2 → d < length s.threads
joined_made s t d s2 e = by (eqb d 0) (is_made s d) refl (thread_at s d).joined (act_goes s t (Join d) s2 e)
  where
    by : (z m : Bool) → is_made s d ≡ m → (j : Bool) → cond (z || (not m || j)) (broke kinds.Join) (goes_where (thread_at s d).ended (with_thread s d (record (thread_at s d) { joined = true }))) ≡ went s2 → d < length s.threads
    by true m f j e = absurd cc
    by false true f j e = made_below s d f
    by false false f j e = absurd cc

-- who is woken is made
pub woken_made : (s : State) (t c w : ℕ) (s2 : State) → act s t (Signal c (Some w)) ≡ went s2 → w < length s.threads
woken_made s t c w s2 e = by (is_made s w) refl (waits_on c (thread_at s w)) (act_goes s t (Signal c (Some w)) s2 e)
  where
    by : (m : Bool) → is_made s w ≡ m → (q : Bool) → goes_where (m && q) (with_thread s w (awake (thread_at s w))) ≡ went s2 → w < length s.threads
    by true f q e = made_below s w f
    by false f q e = absurd cc

-- names that agree on the threads that are made, and on one that is created, name an action that goes alike
pub names_agree : (f g : ℕ → ℕ) (s : State) (t : ℕ) (a : Action) (s2 : State) → act s t (with_threads f a) ≡ went s2 → ((w : ℕ) → f w < length s.threads → g w ≡ f w)
    → ((start : actions.Start) → started_by a ≡ Some start → g start.thread ≡ f start.thread) → with_threads g a ≡ with_threads f a
names_agree f g s t Loc s2 e same new = refl
names_agree f g s t (Input v) s2 e same new = refl
names_agree f g s t (Check v kind) s2 e same new = refl
names_agree f g s t (Assume v) s2 e same new = refl
names_agree f g s t (Rd cell v) s2 e same new = refl
names_agree f g s t (Wr cell v) s2 e same new = refl
names_agree f g s t (Reset m) s2 e same new = refl
names_agree f g s t (Lock m) s2 e same new = refl
names_agree f g s t (Unlock m) s2 e same new = refl
names_agree f g s t (Park c m) s2 e same new = refl
names_agree f g s t (Wake c m) s2 e same new = refl
names_agree f g s t (Signal c None) s2 e same new = refl
names_agree f g s t (Signal c (Some w)) s2 e same new = ap (λ (n : ℕ). Signal c (Some n)) (same w (woken_made s t c (f w) s2 e))
names_agree f g s t (Broadcast c) s2 e same new = refl
names_agree f g s t (Create d start v) s2 e same new = ap (λ (n : ℕ). Create n start v) (new (record { thread = d; routine = start; argument = v }) refl)
names_agree f g s t (Join d) s2 e same new = ap (λ (n : ℕ). Join n) (same d (joined_made s t (f d) s2 e))
names_agree f g s t HoldOn s2 e same new = refl
names_agree f g s t HoldOff s2 e same new = refl
names_agree f g s t (End w) s2 e same new = refl

-- the start with another name for its thread
abbrev pub start_with : (ℕ → ℕ) → actions.Start → actions.Start
start_with f start = record { thread = f start.thread; routine = start.routine; argument = start.argument }

-- what an action starts by other names
pub started_with : (f : ℕ → ℕ) (a : Action) → started_by (with_threads f a) ≡ option_map (start_with f) (started_by a)
started_with f Loc = refl
started_with f (Input v) = refl
started_with f (Check v kind) = refl
started_with f (Assume v) = refl
started_with f (Rd cell v) = refl
started_with f (Wr cell v) = refl
started_with f (Reset m) = refl
started_with f (Lock m) = refl
started_with f (Unlock m) = refl
started_with f (Park c m) = refl
started_with f (Wake c m) = refl
started_with f (Signal c w) = refl
started_with f (Broadcast c) = refl
started_with f (Create d start v) = refl
started_with f (Join d) = refl
started_with f HoldOn = refl
started_with f HoldOff = refl
started_with f (End w) = refl

-- what breaks starts nothing
breaks_free : (s : State) (t : ℕ) (a : Action) (kind : BreakKind) → act_free s t a ≡ broke kind → started_by a ≡ None
breaks_free s t Loc kind e = refl
breaks_free s t (Input v) kind e = refl
breaks_free s t (Check v k) kind e = refl
breaks_free s t (Assume v) kind e = refl
breaks_free s t (Rd cell v) kind e = refl
breaks_free s t (Wr cell v) kind e = refl
breaks_free s t (Reset m) kind e = refl
breaks_free s t (Lock m) kind e = refl
breaks_free s t (Unlock m) kind e = refl
breaks_free s t (Park c m) kind e = refl
breaks_free s t (Wake c m) kind e = refl
breaks_free s t (Signal c w) kind e = refl
breaks_free s t (Broadcast c) kind e = refl
breaks_free s t (Create d start v) kind e = by (eqb d (length s.threads)) _ e
  where
    by : (b : Bool) (s1 : State) → goes_where b s1 ≡ broke kind → started_by (Create d start v) ≡ None
    by true s1 e = absurd cc
    by false s1 e = absurd cc
breaks_free s t (Join d) kind e = refl
breaks_free s t HoldOn kind e = refl
breaks_free s t HoldOff kind e = refl
breaks_free s t (End w) kind e = refl

-- an action that breaks starts no thread
pub breaks_starts_none : (s : State) (t : ℕ) (a : Action) (kind : BreakKind) → act s t a ≡ broke kind → started_by a ≡ None
breaks_starts_none s t a kind e = by (is_halted s t || (is_shared a && held_by_another s.holder t)) e
  where
    by : (c : Bool) → cond c blocked (act_free s t a) ≡ broke kind → started_by a ≡ None
    by true e = absurd cc
    by false e = breaks_free s t a kind e

-- an action that creates makes one thread more
pub threads_grow : (s : State) (t : ℕ) (a : Action) (s2 : State) (start : actions.Start) → act s t a ≡ went s2 → started_by a ≡ Some start → length s2.threads ≡ suc (length s.threads)
threads_grow s t Loc s2 start e is = absurd cc
threads_grow s t (Input v) s2 start e is = absurd cc
threads_grow s t (Check v kind) s2 start e is = absurd cc
threads_grow s t (Assume v) s2 start e is = absurd cc
threads_grow s t (Rd cell v) s2 start e is = absurd cc
threads_grow s t (Wr cell v) s2 start e is = absurd cc
threads_grow s t (Reset m) s2 start e is = absurd cc
threads_grow s t (Lock m) s2 start e is = absurd cc
threads_grow s t (Unlock m) s2 start e is = absurd cc
threads_grow s t (Park c m) s2 start e is = absurd cc
threads_grow s t (Wake c m) s2 start e is = absurd cc
threads_grow s t (Signal c w) s2 start e is = absurd cc
threads_grow s t (Broadcast c) s2 start e is = absurd cc
threads_grow s t (Create d f v) s2 start e is =
    let there = goes_is (eqb d (length s.threads)) (record s { threads = s.threads ++ fresh ∷ [] }) s2 (act_goes s t (Create d f v) s2 e) in
    let long = length-append s.threads (fresh ∷ []) in
    sym (ap (λ (x : State). length x.threads) there.1) ∙ long ∙ (let z : length s.threads + 1 ≡ suc (length s.threads) = omega arith in z)
threads_grow s t (Join d) s2 start e is = absurd cc
threads_grow s t HoldOn s2 start e is = absurd cc
threads_grow s t HoldOff s2 start e is = absurd cc
threads_grow s t (End w) s2 start e is = absurd cc

-- any other one makes none
pub threads_stay : (s : State) (t : ℕ) (a : Action) (s2 : State) → act s t a ≡ went s2 → started_by a ≡ None → length s2.threads ≡ length s.threads
threads_stay s t a s2 e is = by (grows s t a s2 e)
  where
    by : Grows s a s2 → length s2.threads ≡ length s.threads
    by (as_many h) = h
    by (one_more start other thread more) = absurd (let z : None ≡ Some start = sym is ∙ other in cc)
