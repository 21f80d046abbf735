-- Inner: a search by marks for all functions that some can reach.
use Rattle.std.specs.Prelude.{◌≡◌, ℕ, ◌+◌, ◌*◌, ◌<◌, ◌⊎◌, suc, Bool, true, false, List, [], ◌∷◌, length, slice_get, slice_index_or}
use Rattle.lz_calls.specs.Calls.{Calls, Reaches}

abbrev pub Among : List ℕ → ℕ → Type 0
Among [] y = ⊥
Among (x ∷ xs) y = (x ≡ y) ⊎ Among xs y

-- One of some functions can reach it, or is it.
pub record IsReachedFrom (graph : List (List ℕ)) (starts : List ℕ) (f : ℕ) : Type 0 where
  pub start : ℕ
  pub among : Among starts start
  pub path : Reaches graph start f

abbrev pub Marked : List Bool → ℕ → Type 0
Marked marks f = slice_index_or marks f false ≡ true

abbrev pub open_ones : List Bool → ℕ
open_ones [] = 0
open_ones (true ∷ rest) = open_ones rest
open_ones (false ∷ rest) = suc (open_ones rest)

abbrev pub work_left : List Bool → List ℕ → ℕ
work_left marks work = 2 * open_ones marks + length work

-- One more function is marked, and stands in the work if it was not.
pub record Marks (f : ℕ) (old : List Bool) (before : List ℕ) (new : List Bool) (work : List ℕ) : Type 0 where
  pub is : f < length old → Marked new f
  pub stays : (g : ℕ) → Marked old g → Marked new g
  pub only : (g : ℕ) → Marked new g → Marked old g ⊎ ((g ≡ f) × Among work g)
  pub waits : (g : ℕ) → Among before g → Among work g
  pub adds : (g : ℕ) → Among work g → Among before g ⊎ ((g ≡ f) × Marked new g)
  pub less : work_left new work < suc (work_left old before)
  pub long : length new ≡ length old

-- A search, with functions whose calls are still to be looked at.
pub record Search (graph : List (List ℕ)) (starts todo : List ℕ) (marks : List Bool) (work : List ℕ) : Type 0 where
  pub sound : (f : ℕ) → Marked marks f → IsReachedFrom graph starts f
  pub closed : (f g : ℕ) → Marked marks f → Calls graph f g → g < length graph → Marked marks g ⊎ Among work f
  pub begun : (s : ℕ) → Among starts s → s < length graph → Marked marks s ⊎ Among todo s
  pub working : (f : ℕ) → Among work f → Marked marks f
  pub subset : (s : ℕ) → Among todo s → Among starts s
  pub long : length marks ≡ length graph

-- The calls of one function, of which some are still to be looked at.
pub record Looking (graph : List (List ℕ)) (starts : List ℕ) (one : ℕ) (todo : List ℕ) (marks : List Bool) (work : List ℕ) : Type 0 where
  pub sound : (f : ℕ) → Marked marks f → IsReachedFrom graph starts f
  pub closed : (f g : ℕ) → Marked marks f → Calls graph f g → g < length graph → Marked marks g ⊎ (Among work f ⊎ ((f ≡ one) × Among todo g))
  pub begun : (s : ℕ) → Among starts s → s < length graph → Marked marks s
  pub there : Marked marks one
  pub working : (f : ℕ) → Among work f → Marked marks f
  pub subset : (g : ℕ) → Among todo g → Calls graph one g
  pub long : length marks ≡ length graph

-- Marked are exactly the functions that some can reach.
pub record IsReach (graph : List (List ℕ)) (starts : List ℕ) (marks : List Bool) : Type 0 where
  pub long : length marks ≡ length graph
  pub sound : (f : ℕ) → Marked marks f → IsReachedFrom graph starts f
  pub complete : (f : ℕ) → f < length graph → IsReachedFrom graph starts f → Marked marks f
