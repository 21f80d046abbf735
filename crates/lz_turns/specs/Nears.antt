-- Inner: how many calls an expression makes from a place in it, at most, and what it comes to: each call brings it nearer to its end.
use Rattle.std.specs.Prelude.{◌≡◌, ℕ, zero, suc, ◌+◌, ◌*◌, ◌-◌, ◌<◌, List, Option, Some, None, ⊤}
use Rattle.std.specs.List.{Contains}
use Rattle.lz_tree.specs.Calls.{expression_calls}
use Rattle.lz_tree.specs.ScopedTrees.{ScopedExpression}
use Rattle.lz_model.specs.declared.actions.Action.{Action}
use Rattle.lz_model.specs.declared.actions.Action.TheVariants.{Loc, Input, Check, Assume, Rd, Wr, Reset, Lock, Unlock, Park, Wake, Signal, Broadcast, Create, Join, HoldOn, HoldOff, End}
use Rattle.lz_turns.specs.Stages.{given, Point, at_stage, within, Came, settles, acts, reads, asks, signals, creates, calls_on, fails, refuses, quits, stops, Move, enters, goes, comes}
use Rattle.lz_turns.specs.Moves.{slot_of, part_of}
use Rattle.lz_turns.specs.Ranks.{rank_of, rank}
use Rattle.lz_turns.specs.Sizes.{size}

-- An action that is told as it is: neither a check or an assumption of 0, nor one whose value is chosen or found.
abbrev pub IsPlain : Action → Type 0
IsPlain Loc = ⊥
IsPlain (Input value) = ⊥
IsPlain (Check zero kind) = ⊥
IsPlain (Check (suc value) kind) = ⊤
IsPlain (Assume zero) = ⊥
IsPlain (Assume (suc value)) = ⊤
IsPlain (Rd cell value) = ⊥
IsPlain (Wr cell value) = ⊤
IsPlain (Reset mutex) = ⊤
IsPlain (Lock mutex) = ⊤
IsPlain (Unlock mutex) = ⊤
IsPlain (Park cond mutex) = ⊤
IsPlain (Wake cond mutex) = ⊤
IsPlain (Signal cond woken) = ⊥
IsPlain (Broadcast cond) = ⊤
IsPlain (Create thread routine value) = ⊥
IsPlain (Join thread) = ⊤
IsPlain HoldOn = ⊤
IsPlain HoldOff = ⊤
IsPlain (End whole) = ⊥

-- ---- a move

-- what a move comes to at a stage of this rank: a plain action, or a call of one of these functions, behind which the
-- node has its value
abbrev pub IsTold : List ℕ → ℕ → Came → Type 0
IsTold functions r (settles value) = ⊤
IsTold functions r (acts action line point) = IsPlain action
IsTold functions r (reads cell line point) = ⊤
IsTold functions r (asks line kind point) = ⊤
IsTold functions r (signals cond line point) = ⊤
IsTold functions r (creates routine value line point) = ⊤
IsTold functions r (calls_on function kinds values point) = Contains functions function × (0 < r) × (point ≡ at_stage given)
IsTold functions r (fails kind line) = ⊤
IsTold functions r (refuses line) = ⊤
IsTold functions r quits = ⊤
IsTold functions r stops = ⊤

-- a move leads below this rank, or comes so far
abbrev pub Falls : List ℕ → ℕ → ℕ → Move → Type 0
Falls functions n r (enters stage) = rank_of n stage < r
Falls functions n r (goes stage v) = rank_of n stage < r
Falls functions n r (comes came) = IsTold functions r came

-- ---- calls

-- the most calls that an expression of this size makes
abbrev pub most_calls : ℕ → ℕ
most_calls zero = 0
most_calls (suc k) = (4 * suc k + 100) * suc (most_calls k)

-- the most that the parts of an expression make, and one
abbrev pub part_calls : ScopedExpression → ℕ
part_calls e = suc (most_calls (size e - 1))

-- what the part makes, where there is one
abbrev pub left_in : Option ScopedExpression → (ScopedExpression → ℕ) → ℕ
left_in None count = 0
left_in (Some part) count = count part

-- the most calls that an expression makes from a place in it
abbrev pub calls_left : Point → ScopedExpression → ℕ
calls_left (at_stage stage) e = rank e stage * part_calls e
calls_left (within stage inner) e = left_in (part_of e (slot_of stage)) (calls_left inner) + rank e stage * part_calls e

-- What an expression comes to that had so many calls left: a plain action; or a call of one of its functions, behind
-- which fewer are left.
abbrev pub Nears : ScopedExpression → ℕ → Came → Type 0
Nears e left (settles value) = ⊤
Nears e left (acts action line point) = IsPlain action
Nears e left (reads cell line point) = ⊤
Nears e left (asks line kind point) = ⊤
Nears e left (signals cond line point) = ⊤
Nears e left (creates routine value line point) = ⊤
Nears e left (calls_on function kinds values point) = Contains (expression_calls e) function × (calls_left point e < left)
Nears e left (fails kind line) = ⊤
Nears e left (refuses line) = ⊤
Nears e left quits = ⊤
Nears e left stops = ⊤
