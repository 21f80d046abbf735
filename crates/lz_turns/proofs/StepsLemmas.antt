-- The single steps of a node, and what is left behind them, Loc left out.
use Rattle.std.proofs.Common.{ℕ, zero, suc, ◌+◌, Bool, true, false, nat_lt}
use Rattle.lz_base.specs.Words.{truth}
use Rattle.lz_base.specs.declared.word.BreakKind.{BreakKind}
use Rattle.lz_base.specs.declared.word.BreakKind.TheVariants as kinds
use Rattle.lz_tree.specs.declared.scoped.Object.{Object}
use Rattle.lz_tree.specs.declared.scoped.Object.TheVariants.{Local, Cell, Mutex, Cond, Handle, Routine, Known}
use Rattle.lz_tree.specs.ScopedTrees.{ScopedExpression, lvalue, ScopedIndex, whole, element}
use Rattle.lz_model.specs.Behaviours.{Behaviour, ends_with, ◌and_then◌, picks}
use Rattle.lz_model.specs.CodeTraces.{Locals, set_local, Calls, checks, read_at, write_at, needs, bounds, checks_index, len_of, first_of, place_trace, index_trace}
use Rattle.lz_model.proofs.FrontsLemmas.{Fronts, FrontCalls, fronts_value, fronts_halts, fronts_updates, fronts_tells, fronts_chooses, fronts_expression, fronts_checks_index}
use Rattle.lz_turns.specs.Stages.{Stage}
use Rattle.lz_turns.specs.Moves.{check_move, need_move, bound_move, index_move, divide_move, read_move, write_move, written}
use Rattle.lz_turns.specs.Seen.{Alike}
use Rattle.lz_turns.specs.Resumed.{index_checks, read_element, write_element, stage_trace, moved}
use Rattle.lz_turns.proofs.SeenLemmas.{alike_same, alike_alike, alike_behind, alike_value, alike_halts, alike_loc, alike_tells, alike_given, alike_assoc, alike_renamed}

-- ---- fronts

pub fronts_index : (calls : Calls) → FrontCalls calls → (index : ScopedIndex) → Fronts (index_trace calls index)
fronts_index calls c whole = fronts_value
fronts_index calls c (element e) = fronts_expression calls c e

pub fronts_read : (line : ℕ) (meant : Object) (e : ℕ) → Fronts (read_element line meant e)
fronts_read line (Local f len kind) e = fronts_tells
fronts_read line (Cell f len kind) e = fronts_chooses (λ v. fronts_updates)
fronts_read line (Mutex f len) e = fronts_halts
fronts_read line (Cond f len) e = fronts_halts
fronts_read line (Handle f len) e = fronts_tells
fronts_read line (Routine function) e = fronts_value
fronts_read line (Known name) e = fronts_halts

pub fronts_write : (line : ℕ) (meant : Object) (e v : ℕ) → Fronts (write_element line meant e v)
fronts_write line (Local f len kind) e v = fronts_updates
fronts_write line (Cell f len kind) e v = fronts_updates
fronts_write line (Mutex f len) e v = fronts_halts
fronts_write line (Cond f len) e v = fronts_halts
fronts_write line (Handle f len) e v = fronts_halts
fronts_write line (Routine function) e v = fronts_halts
fronts_write line (Known name) e v = fronts_halts

-- ---- an element, by its number

pub read_same : (line : ℕ) (meant : Object) (i : ℕ) (s : Locals) → Alike (read_at line meant i) s (read_element line meant (first_of meant + i)) s
read_same line (Local f len kind) i s = alike_same
read_same line (Cell f len kind) i s = alike_same
read_same line (Mutex f len) i s = alike_same
read_same line (Cond f len) i s = alike_same
read_same line (Handle f len) i s = alike_same
read_same line (Routine function) i s = alike_same
read_same line (Known name) i s = alike_same

pub write_same : (line : ℕ) (meant : Object) (i v : ℕ) (s : Locals) → Alike (write_at line meant i v) s (write_element line meant (first_of meant + i) v) s
write_same line (Local f len kind) i v s = alike_same
write_same line (Cell f len kind) i v s = alike_same
write_same line (Mutex f len) i v s = alike_same
write_same line (Cond f len) i v s = alike_same
write_same line (Handle f len) i v s = alike_same
write_same line (Routine function) i v s = alike_same
write_same line (Known name) i v s = alike_same

-- ---- single steps, and what is left behind them

module _ (calls : Calls) (e : ScopedExpression) (stage : Stage) where
  check_moves : (line value : ℕ) (kind : BreakKind) (rest : Behaviour Locals ℕ) → ((s : Locals) → Alike rest s (stage_trace calls e stage 0) s) → (s : Locals)
      → Alike (checks line value kind and_then λ _. rest) s (moved calls e (check_move line value kind stage)) s
  check_moves line zero kind rest same s = alike_alike alike_assoc (alike_behind fronts_updates (λ v t. alike_halts) s)
  check_moves line (suc value) kind rest same s = alike_behind fronts_updates (λ v t. same t) s

  need_moves : (fits : Bool) (rest : Behaviour Locals ℕ) → ((s : Locals) → Alike rest s (stage_trace calls e stage 0) s) → (s : Locals)
      → Alike (needs fits and_then λ _. rest) s (moved calls e (need_move fits stage)) s
  need_moves true rest same s = alike_alike alike_value (same s)
  need_moves false rest same s = alike_halts

  bound_moves : (line : ℕ) (checked fits : Bool) (rest : Behaviour Locals ℕ) → ((s : Locals) → Alike rest s (stage_trace calls e stage 0) s) → (s : Locals)
      → Alike (bounds line checked fits and_then λ _. rest) s (moved calls e (bound_move line checked fits stage)) s
  bound_moves line true fits rest same s = need_moves fits rest same s
  bound_moves line false fits rest same s = check_moves line (truth fits) kinds.Bounds rest same s

  pub index_moves : (line : ℕ) (meant : Object) (index : ScopedIndex) (checked : Bool) (i : ℕ) (rest : Behaviour Locals ℕ) → ((s : Locals) → Alike rest s (stage_trace calls e stage 0) s) → (s : Locals)
      → Alike (index_checks line meant index checked i and_then λ _. rest) s (moved calls e (index_move (lvalue line meant index checked) i stage)) s
  index_moves line meant whole checked i rest same s = need_moves (nat_lt i 1) rest same s
  index_moves line meant (element index) checked i rest same s = bound_moves line checked (nat_lt i (len_of meant)) rest same s

  pub divide_moves : (divides : Bool) (line divisor : ℕ) (rest : Behaviour Locals ℕ) → ((s : Locals) → Alike rest s (stage_trace calls e stage 0) s) → (s : Locals)
      → Alike (picks divides (checks line divisor kinds.DivZero) (ends_with zero) and_then λ _. rest) s (moved calls e (divide_move divides line divisor stage)) s
  divide_moves true line divisor rest same s = check_moves line divisor kinds.DivZero rest same s
  divide_moves false line divisor rest same s = alike_alike alike_value (same s)

  pub read_moves : (line : ℕ) (meant : Object) (k : ℕ) (rest : ℕ → Behaviour Locals ℕ) → ((v : ℕ) (s : Locals) → Alike (rest v) s (stage_trace calls e stage v) s) → (s : Locals)
      → Alike (read_element line meant k and_then rest) s (moved calls e (read_move meant line k stage s)) s
  read_moves line (Local f len kind) k rest same s = alike_alike (alike_tells line _ rest s) (same _ s)
  read_moves line (Cell f len kind) k rest same s = alike_behind (fronts_chooses (λ v. fronts_updates)) same s
  read_moves line (Mutex f len) k rest same s = alike_halts
  read_moves line (Cond f len) k rest same s = alike_halts
  read_moves line (Handle f len) k rest same s = alike_alike (alike_tells line _ rest s) (same _ s)
  read_moves line (Routine function) k rest same s = alike_alike alike_value (same _ s)
  read_moves line (Known name) k rest same s = alike_halts

  pub write_moves : (line : ℕ) (meant : Object) (k w : ℕ) (rest : ℕ → Behaviour Locals ℕ) → ((s : Locals) → Alike (rest w) s (stage_trace calls e stage 0) s) → (s : Locals)
      → Alike (write_element line meant k w and_then rest) s (moved calls e (write_move meant line k w stage)) (written meant k w s)
  write_moves line (Local f len kind) k w rest same s = alike_alike (alike_loc line (set_local k w) w rest s) (same _)
  write_moves line (Cell f len kind) k w rest same s = alike_alike (alike_renamed _ w zero rest s) (alike_behind fronts_updates (λ v t. same t) s)
  write_moves line (Mutex f len) k w rest same s = alike_halts
  write_moves line (Cond f len) k w rest same s = alike_halts
  write_moves line (Handle f len) k w rest same s = alike_halts
  write_moves line (Routine function) k w rest same s = alike_halts
  write_moves line (Known name) k w rest same s = alike_halts

-- the index of an object and its check, before what follows
pub place_begins : (calls : Calls) → FrontCalls calls → (line : ℕ) (meant : Object) (index : ScopedIndex) (checked : Bool) (next rest : ℕ → Behaviour Locals ℕ)
    → ((i : ℕ) (s : Locals) → Alike (next i) s (rest i) s) → (s : Locals)
    → Alike (place_trace calls (lvalue line meant index checked) and_then next) s (index_trace calls index and_then λ i. checks_index line meant index checked i and_then λ _. rest i) s
place_begins calls c line meant index checked next rest same s =
    alike_alike alike_assoc (alike_behind (fronts_index calls c index) (λ i t.
    alike_alike (alike_given _ (λ _. i) next t) (alike_behind (fronts_checks_index line meant index checked i) (λ v u. same i u) t)) s)
