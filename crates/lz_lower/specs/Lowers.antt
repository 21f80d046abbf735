-- Inner: what a lowered piece owes: it does what the code of the tree does, both ways but for Loc.
use Rattle.std.specs.Prelude.{◌≡◌, ℕ, ◌+◌, ◌<◌, ◌≤◌, Bool, true, false, List, length, slice_index, ⊤}
use Rattle.lz_flat.specs.Programs.{Expression}
use Rattle.lz_flat.specs.Instructions.{value}
use Rattle.lz_model.specs.CodeTraces.{Locals}
use Rattle.lz_bound.specs.BoundedTraces.{Leaving, through}
use Rattle.lz_lower.specs.Lowered.{OwnWords, own_end}

-- the memory holds the local values and the thread objects
pub record Holds (w : OwnWords) (s : Locals) (m : List ℕ) : Type 0 where
  pub apart : w.handles_from + w.handles ≤ w.locals_from
  pub locals : (i : ℕ) → i < w.locals → slice_index m (w.locals_from + i) ≡ s.frame i
  pub handles : (i : ℕ) → i < w.handles → slice_index m (w.handles_from + i) ≡ s.handles i

-- the words after the locals and before an unused one are the same
pub record SameKept (w : OwnWords) (below : ℕ) (m n : List ℕ) : Type 0 where
  pub same : (p : ℕ) → own_end w ≤ p → p < below → slice_index n p ≡ slice_index m p

-- it holds, and still does while those words are the same
pub record Knows (w : OwnWords) (fact : List ℕ → Type 0) (below : ℕ) (m : List ℕ) : Type 0 where
  pub is : (n : List ℕ) → SameKept w below m n → fact n

-- where it is asked for
abbrev pub Where : Bool → Type 0 → Type 0
Where true fact = fact
Where false fact = ⊤

-- After the code of a piece: it went through; its answer has the value, and keeps it, where the piece is kept; the memory
-- holds the local values; and no word changed that was used before and is no local's.
pub record After (w : OwnWords) (stable : Bool) (from room below : ℕ) (answer : Expression) (before : List ℕ) (v : ℕ) (s : Locals) (way : Leaving) (m : List ℕ) : Type 0 where
  pub goes : way ≡ through
  pub has : value answer m ≡ v
  pub holds : Holds w s m
  pub kept : SameKept w from before m
  pub size : room ≤ length m
  pub stays : Where stable (Knows w (λ n. value answer n ≡ v) below m)
