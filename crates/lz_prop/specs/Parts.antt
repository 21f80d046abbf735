-- Inner: the vectors of a trail, and what holds of each.
use Rattle.std.specs.Prelude.{◌≡◌, ℕ, suc, zero, ◌*◌, ◌-◌, ◌<◌, ◌≤◌, leb, List, [], ◌∷◌, map, length, slice_index, slice_range, Option, Some, None}
use Rattle.std.specs.List.{All, Contains, filter}
use Rattle.lz_cnf.specs.declared.clause.Lit.{Lit}
use Rattle.lz_cnf.specs.Models.{variable_of}
use Rattle.lz_prop.specs.Trail.{Entry}

-- ---- clauses

-- the lists between neighbouring bounds
abbrev pub cut_at : List Lit → List ℕ → List (List Lit)
cut_at literals [] = []
cut_at literals (first ∷ []) = []
cut_at literals (first ∷ second ∷ bounds) = slice_range literals first second ∷ cut_at literals (second ∷ bounds)

-- the bounds cut all literals into clauses
pub record AreCut (literals : List Lit) (bounds : List ℕ) : Type 0 where
  pub some : 0 < length bounds
  pub start : slice_index bounds 0 ≡ 0
  pub end : slice_index bounds (length bounds - 1) ≡ length literals
  pub within : (k : ℕ) → k < length bounds → slice_index bounds k ≤ length literals
  pub rising : (k : ℕ) → suc k < length bounds → slice_index bounds k ≤ slice_index bounds (suc k)

-- ---- true literals

-- a number that was kept with 0 for none
abbrev pub number_kept : ℕ → Option ℕ
number_kept zero = None
number_kept (suc n) = Some (suc n)

-- the entry of a true literal by the tables
abbrev pub entry_at : List ℕ → List ℕ → Lit → Entry
entry_at levels reasons lit = record {
  lit = lit;
  level = slice_index levels (variable_of lit);
  reason = number_kept (slice_index reasons (variable_of lit));
}

abbrev pub entries : List ℕ → List ℕ → List Lit → List Entry
entries levels reasons order = map (entry_at levels reasons) order

-- tables by literal and by variable, for literals below `count` variables; 1 stands where the literal is true
pub record IsTable (count : ℕ) (truths levels reasons : List ℕ) (order : List Lit) : Type 0 where
  pub truths_long : length truths ≡ 2 * count
  pub levels_long : length levels ≡ count
  pub reasons_long : length reasons ≡ count
  pub marked : (lit : Lit) → slice_index truths lit.0 ≡ 1 → Contains order lit
  pub told : All (λ lit. slice_index truths lit.0 ≡ 1) order

-- how many literals were true when each level was decided
pub record AreStarts (set : List Entry) (starts : List ℕ) : Type 0 where
  pub told : (k : ℕ) → k < length starts → slice_index starts k ≡ length (filter (λ e. leb e.level k) set)
  pub rises : (k : ℕ) → k < length starts → k ≤ slice_index starts k
  pub short : length starts ≤ length set
