-- Inner: the walk down the trail to the first unique implication point.
use Rattle.std.specs.Prelude.{◌≡◌, ◌⊎◌, ℕ, ◌<◌, ◌≤◌, Bool, true, eqb, ◌&&◌, List, take, length}
use Rattle.std.specs.List.{All, Contains, count_by, list_any}
use Rattle.lz_cnf.specs.Models.{variable_of, negated}
use Rattle.lz_prop.specs.Trail.{Entry, TrailState, literals, IsApart}
use Rattle.lz_analyze.specs.Learnt.{IsFalseAt}
use Rattle.lz_cnf.specs.declared.clause.Lit.{Lit}
use Rattle.lz_cnf.specs.Partial.{IsFalseLit}
use Rattle.lz_log.specs.Refutation.{LeadsToFalse}

-- Wherever the literals that are left (those at which `rest` holds) are false, and nothing is taken as false that
-- the trail doesn't make false, the hints lead to a false clause.
abbrev pub LeadsFrom : List Lit → List (List Lit) → (Lit → Type 0) → List ℕ → Type 0
LeadsFrom true_ known rest hints =
    (false_ : List Lit) → All (IsFalseLit true_) false_ → ((lit : Lit) → rest lit → Contains false_ lit) → LeadsToFalse known false_ hints

-- an entry of the level whose variable is marked
abbrev pub is_open : ℕ → List ℕ → Entry → Bool
is_open level marked e = eqb e.level level && list_any (eqb (variable_of e.lit)) marked

-- the literal is false by an open entry before the place `i`
pub record IsOpenBefore (set : List Entry) (level : ℕ) (marked : List ℕ) (i : ℕ) (lit : Lit) : Type 0 where
  pub entry : Entry
  pub within : Contains (take i set) entry
  pub negates : entry.lit ≡ negated lit
  pub open_ : is_open level marked entry ≡ true

-- what is left to be resolved or learnt
abbrev pub IsLeft : TrailState → List ℕ → List Lit → ℕ → Lit → Type 0
IsLeft s marked low i lit = Contains low lit ⊎ IsOpenBefore s.set s.level marked i lit

-- The walk stands before the place `i`. `marked` are the variables that were met, `low` the literals that were met
-- below the present level, `pending` the number of open entries that are left, `hints` the last one first,
-- `todo` the literals of the clause at hand that were not looked at.
pub record IsWalk (s : TrailState) (todo : Lit → Type 0) (marked : List ℕ) (low : List Lit) (i pending : ℕ) (hints : List ℕ) : Type 0 where
  pub within : i ≤ length s.set
  pub lower : All (IsFalseAt s.set (λ level. level < s.level)) low
  pub low_marked : All (λ lit. Contains marked (variable_of lit)) low
  pub apart : IsApart low
  pub told : (lit : Lit) → IsFalseAt s.set (λ level. level < s.level) lit → Contains marked (variable_of lit) → Contains low lit
  pub count : pending ≡ count_by (is_open s.level marked) (take i s.set)
  pub leads : LeadsFrom (literals s.set) s.clauses (λ lit. IsLeft s marked low i lit ⊎ todo lit) hints
