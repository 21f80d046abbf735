-- Inner: ranks of functions, which tell the calls that come back from those that do not.
use Rattle.std.specs.Prelude.{◌≡◌, ℕ, ◌+◌, ◌<◌, ◌≤◌, Bool, List, [], ◌∷◌, length, slice_index, slice_get, Some, All, EachIndex, ◌==◌, if◌then◌else◌}
use Rattle.std.specs.List.{filter}
use Rattle.lz_tree.specs.Calls.{StandsBefore}
use Rattle.lz_calls.specs.Calls.{row, Calls, Reaches}
use Rattle.lz_calls.specs.Reaching.{IsReach}

-- how many are marked
abbrev pub ones : List Bool → ℕ
ones [] = 0
ones (m ∷ rest) = if m then 1 + ones rest else ones rest

-- As many functions can be reached from it.
pub record IsCount (graph : List (List ℕ)) (f n : ℕ) : Type 0 where
  pub marks : List Bool
  pub reached : IsReach graph (f ∷ []) marks
  pub counted : n ≡ ones marks

-- No call leads to a higher rank, and one that leads to the same rank comes back.
pub record IsRanking (graph : List (List ℕ)) (ranks : List ℕ) : Type 0 where
  pub long : length ranks ≡ length graph
  pub positive : (f : ℕ) → f < length graph → 0 < slice_index ranks f
  pub falls : (f g : ℕ) → Calls graph f g → slice_index ranks g ≤ slice_index ranks f
  pub back : (f g : ℕ) → Calls graph f g → slice_index ranks g ≡ slice_index ranks f → Reaches graph g f

-- The numbers of all functions, and no rank stands behind a higher one.
pub record IsRankOrder (count : ℕ) (ranks order : List ℕ) : Type 0 where
  pub whole : length order ≡ count
  pub within : All (λ f. f < count) order
  pub all : (f : ℕ) → f < count → StandsBefore order (length order) f
  pub rising : (i j : ℕ) → i ≤ j → j < length order → slice_index ranks (slice_index order i) ≤ slice_index ranks (slice_index order j)

-- Of each function below a number the calls of its rank.
pub record AreReturning (graph : List (List ℕ)) (ranks : List ℕ) (count : ℕ) (rows : List (List ℕ)) : Type 0 where
  pub long : length rows ≡ count
  pub each : (f : ℕ) → f < count → slice_get rows f ≡ Some (filter (λ g. slice_index ranks g == slice_index ranks f) (row (slice_get graph f)))

-- Each call of the functions below a number leads to a function of lower rank.
pub record IsFalling (graph : List (List ℕ)) (ranks : List ℕ) (count below : ℕ) : Type 0 where
  pub each : (f g : ℕ) → f < below → Calls graph f g → (g < count) × (slice_index ranks g < slice_index ranks f)

-- the same of the calls in a row
abbrev pub AreLower : List ℕ → ℕ → ℕ → List ℕ → Type 0
AreLower ranks own count row = EachIndex row (λ k. (slice_index row k < count) × (slice_index ranks (slice_index row k) < own))
