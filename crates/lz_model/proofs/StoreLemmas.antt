-- An action keeps the numbers of cells and of mutexes.
use Rattle.std.proofs.Common.{◌≡◌, ℕ, zero, suc, Bool, true, false, not, ◌&&◌, ◌||◌, eqb, cond, [], ◌∷◌, ◌++◌, length, map, slice_index, slice_set, Option, Some, None, refl, subst}
use Rattle.std.proofs.lemmas.List.{length-set}
use Rattle.lz_base.specs.declared.word.BreakKind.TheVariants as kinds
use Rattle.lz_model.specs.declared.actions.Action.{Action}
use Rattle.lz_model.specs.declared.actions.Action.TheVariants.{Loc, Input, Check, Assume, Rd, Wr, Reset, Lock, Unlock, Park, Wake, Signal, Broadcast, Create, Join, HoldOn, HoldOff, End}
use Rattle.lz_model.specs.Actions.{is_shared}
use Rattle.lz_model.specs.Store.{State, went, blocked, fresh, is_now, is_made, is_waiting, is_free, owns, thread_at, has_waiter, waits_on, awake, woken_from, with_owner, with_thread, is_halted, held_by_another, act_free, act}
use Rattle.lz_model.proofs.RunFrontsLemmas.{goes_is, breaks_is, went_is, joins_is}

-- as many cells and mutexes
pub record SameSizes (before after : State) : Type 0 where
  pub cells : length after.cells ≡ length before.cells
  pub owners : length after.owners ≡ length before.owners

moved : (s s1 s2 : State) → SameSizes s s1 → s1 ≡ s2 → SameSizes s s2
moved s s1 s2 h e = subst (λ (x : State). SameSizes s x) e h

same : (s : State) → SameSizes s s
same s = record { cells = refl; owners = refl }

owned : (s : State) (m : ℕ) (o : Option ℕ) → SameSizes s (with_owner s m o)
owned s m o = record { cells = refl; owners = length-set s.owners m o }

let_go : (c : Bool) (s s1 s2 : State) → SameSizes s s1 → went (cond c s1 s) ≡ went s2 → SameSizes s s2
let_go true s s1 s2 h e = moved s s1 s2 h (went_is s1 s2 e)
let_go false s s1 s2 h e = moved s s s2 (same s) (went_is s s2 e)

sizes_free : (s : State) (t : ℕ) (a : Action) (s2 : State) → act_free s t a ≡ went s2 → SameSizes s s2
sizes_free s t Loc s2 e = moved s s s2 (same s) (went_is s s2 e)
sizes_free s t (Input v) s2 e = moved s s s2 (same s) (went_is s s2 e)
sizes_free s t (Check zero kind) s2 e = absurd cc
sizes_free s t (Check (suc v) kind) s2 e = moved s s s2 (same s) (went_is s s2 e)
sizes_free s t (Assume zero) s2 e = absurd cc
sizes_free s t (Assume (suc v)) s2 e = moved s s s2 (same s) (went_is s s2 e)
sizes_free s t (Rd cell v) s2 e = moved s s s2 (same s) (goes_is (eqb v (slice_index s.cells cell)) s s2 e).1
sizes_free s t (Wr cell v) s2 e =
    let s1 = record s { cells = slice_set s.cells cell v } in
    moved s s1 s2 (record { cells = length-set s.cells cell v; owners = refl }) (went_is s1 s2 e)
sizes_free s t (Reset m) s2 e = moved s (with_owner s m None) s2 (owned s m None) (went_is (with_owner s m None) s2 e)
sizes_free s t (Lock m) s2 e = moved s (with_owner s m (Some t)) s2 (owned s m (Some t)) (goes_is (is_free s m) (with_owner s m (Some t)) s2 e).1
sizes_free s t (Unlock m) s2 e = moved s (with_owner s m None) s2 (owned s m None) (breaks_is (owns s t m) (with_owner s m None) s2 kinds.Unlock e)
sizes_free s t (Park c m) s2 e =
    let s1 = with_thread (with_owner s m None) t (record (thread_at s t) { waits = Some c }) in
    moved s s1 s2 (record { cells = refl; owners = length-set s.owners m None }) (breaks_is (owns s t m) s1 s2 kinds.Wait e)
sizes_free s t (Wake c m) s2 e =
    moved s (with_owner s m (Some t)) s2 (owned s m (Some t)) (goes_is (not (is_waiting (thread_at s t)) && is_free s m) (with_owner s m (Some t)) s2 e).1
sizes_free s t (Signal c None) s2 e = moved s s s2 (same s) (goes_is (not (has_waiter s c)) s s2 e).1
sizes_free s t (Signal c (Some u)) s2 e =
    let s1 = with_thread s u (awake (thread_at s u)) in
    moved s s1 s2 (record { cells = refl; owners = refl }) (goes_is (is_made s u && waits_on c (thread_at s u)) s1 s2 e).1
sizes_free s t (Broadcast c) s2 e =
    let s1 = record s { threads = map (woken_from c) s.threads } in moved s s1 s2 (record { cells = refl; owners = refl }) (went_is s1 s2 e)
sizes_free s t (Create d f v) s2 e =
    let s1 = record s { threads = s.threads ++ fresh ∷ [] } in
    moved s s1 s2 (record { cells = refl; owners = refl }) (goes_is (eqb d (length s.threads)) s1 s2 e).1
sizes_free s t (Join d) s2 e =
    let s1 = with_thread s d (record (thread_at s d) { joined = true }) in
    moved s s1 s2 (record { cells = refl; owners = refl })
    (joins_is (eqb d 0 || (not (is_made s d) || (thread_at s d).joined)) (thread_at s d).ended s1 s2 kinds.Join e)
sizes_free s t HoldOn s2 e = let s1 = record s { holder = Some t } in moved s s1 s2 (record { cells = refl; owners = refl }) (went_is s1 s2 e)
sizes_free s t HoldOff s2 e = let_go (is_now s.holder t) s (record s { holder = None }) s2 (record { cells = refl; owners = refl }) e
sizes_free s t (End whole) s2 e =
    let s1 = record s { threads = slice_set s.threads t (record (thread_at s t) { ended = true }); holder = cond (is_now s.holder t) None s.holder; over = s.over || whole } in
    moved s s1 s2 (record { cells = refl; owners = refl }) (went_is s1 s2 e)

sizes_by : (c : Bool) (s : State) (t : ℕ) (a : Action) (s2 : State) → cond c blocked (act_free s t a) ≡ went s2 → SameSizes s s2
sizes_by true s t a s2 e = absurd cc
sizes_by false s t a s2 e = sizes_free s t a s2 e

-- an action that goes keeps the numbers of cells and mutexes
pub act_sizes : (s : State) (t : ℕ) (a : Action) (s2 : State) → act s t a ≡ went s2 → SameSizes s s2
act_sizes s t a s2 e = sizes_by (is_halted s t || (is_shared a && held_by_another s.holder t)) s t a s2 e
