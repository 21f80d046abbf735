-- Inner: processes that do the same but for Loc, and for what their creates start.
use Rattle.std.specs.Prelude.{◌≡◌, ℕ, ◌<◌, List, [], ◌∷◌, map, ⊤}
use Rattle.lz_base.specs.Words.{value_bound}
use Rattle.lz_model.specs.declared.actions.Action.{Action}
use Rattle.lz_model.specs.declared.actions.Action.TheVariants.{Loc, Input, Check, Assume, Rd, Wr, Reset, Lock, Unlock, Park, Wake, Signal, Broadcast, Create, Join, HoldOn, HoldOff, End}
use Rattle.lz_model.specs.declared.actions.Event.{Event}
use Rattle.lz_model.specs.Actions.{Act}
use Rattle.lz_model.specs.WithoutLoc.{IsSeen}
use Rattle.lz_bound.specs.SlottedPrograms.{with_start}
use Rattle.lz_model.specs.Interleavings.{Process}

-- the same act, of a create that starts another number
abbrev pub renamed_act : (ℕ → ℕ) → Act → Act
renamed_act g a = record { action = with_start g a.action; line = a.line }

-- the same event, of a create that starts another number
abbrev pub renamed_event : (ℕ → ℕ) → Event → Event
renamed_event g e = record { thread = e.thread; action = with_start g e.action; line = e.line }

-- If the action is a create, this holds of what it starts.
abbrev pub Starts : (ℕ → Type 0) → Action → Type 0
Starts Is Loc = ⊤
Starts Is (Input v) = ⊤
Starts Is (Check v kind) = ⊤
Starts Is (Assume v) = ⊤
Starts Is (Rd cell v) = ⊤
Starts Is (Wr cell v) = ⊤
Starts Is (Reset m) = ⊤
Starts Is (Lock m) = ⊤
Starts Is (Unlock m) = ⊤
Starts Is (Park c m) = ⊤
Starts Is (Wake c m) = ⊤
Starts Is (Signal c woken) = ⊤
Starts Is (Broadcast c) = ⊤
Starts Is (Create thread start v) = Is start
Starts Is (Join thread) = ⊤
Starts Is HoldOn = ⊤
Starts Is HoldOff = ⊤
Starts Is (End w) = ⊤

-- Each create in a list starts a number of which this holds.
abbrev pub AllStart : (ℕ → Type 0) → List Act → Type 0
AllStart Is [] = ⊤
AllStart Is (a ∷ acts) = Starts Is a.action × AllStart Is acts

-- Some number that `g` takes to this one.
pub record IsNamed (g : ℕ → ℕ) (Is : ℕ → Type 0) (function : ℕ) : Type 0 where
  pub site : ℕ
  pub is : Is site
  pub named : g site ≡ function

-- The first process does what the second does, Loc left out, where what a create of the second starts is called by `g`
-- in the first: `Is` holds of what the second's creates start.
pub record Does (g : ℕ → ℕ) (Is : ℕ → Type 0) (P Q : Process) : Type 0 where
  pub begins : P.begins ≡ Q.begins
  -- thread 0: each list of the second, renamed, is one of the first
  pub main : (acts : List Act) → IsSeen Q.main acts → IsSeen P.main (map (renamed_act g) acts)
  -- and starts only such numbers
  pub starts : (acts : List Act) → IsSeen Q.main acts → AllStart Is acts
  pub started : (site argument : ℕ) (acts : List Act) → Is site → IsSeen (Q.started site argument) acts → IsSeen (P.started (g site) argument) acts
  -- the other threads start none
  pub none : (site argument : ℕ) (acts : List Act) → Is site → IsSeen (Q.started site argument) acts → AllStart (λ start. ⊥) acts

-- The second does what the first does: each create of the first is one of the second, called by `g`.
pub record Undoes (g : ℕ → ℕ) (Is : ℕ → Type 0) (P Q : Process) : Type 0 where
  pub main : (acts : List Act) → IsSeen P.main acts → (sites : List Act) × (map (renamed_act g) sites ≡ acts) × IsSeen Q.main sites
  pub started : (site argument : ℕ) (acts : List Act) → Is site → IsSeen (P.started (g site) argument) acts → IsSeen (Q.started site argument) acts
