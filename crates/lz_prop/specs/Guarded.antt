-- Inner: two literals that guard a clause, so that it is looked at where one of them becomes false.
use Rattle.std.specs.Prelude.{◌≡◌, ℕ, ◌/◌, ◌<◌, ◌≤◌, List, length, take, slice_index, slice_index_or}
use Rattle.std.specs.List.{Contains}
use Rattle.lz_cnf.specs.declared.clause.Lit.{Lit}
use Rattle.lz_cnf.specs.Partial.{IsFalseLit}
use Rattle.lz_prop.specs.Watch.{twin}

-- a literal of the clause is true
pub record IsSatisfied (true_ clause : List Lit) : Type 0 where
  pub lit : Lit
  pub within : Contains clause lit
  pub is_true : Contains true_ lit

-- the literal stands in the clause; where a handled literal makes it false, the clause is satisfied
pub record Guards (true_ handled clause : List Lit) (lit : Lit) : Type 0 where
  pub within : Contains clause lit
  pub satisfied : IsFalseLit handled lit → IsSatisfied true_ clause

-- two literals guard the clause; where they are one, the clause is satisfied
pub record IsGuarded (true_ handled clause : List Lit) (one other : Lit) : Type 0 where
  pub left : Guards true_ handled clause one
  pub right : Guards true_ handled clause other
  pub same : one ≡ other → IsSatisfied true_ clause

-- the same at each decision, by the literals that were true and those that were handled then
abbrev pub WasGuarded : List Lit → List ℕ → List ℕ → List Lit → Lit → Lit → Type 0
WasGuarded order starts fronts clause one other = (k : ℕ) → k < length starts → IsGuarded (take (slice_index starts k) order) (take (slice_index fronts k) order) clause one other

-- the watchers of all clauses that were looked at: the clause k, counted from 0, has the watchers 2 k and 2 k + 1
pub record AreGuarded (clauses : List (List Lit)) (guards true_ handled : List Lit) : Type 0 where
  pub each : (w : ℕ) (c : List Lit) (d : Lit) → w < length guards → Guards true_ handled (slice_index_or clauses (w / 2) c) (slice_index_or guards w d)
  pub same : (w : ℕ) (c : List Lit) (d : Lit) → w < length guards → slice_index_or guards w d ≡ slice_index_or guards (twin w) d → IsSatisfied true_ (slice_index_or clauses (w / 2) c)

-- the same at each decision
abbrev pub WereGuarded : List (List Lit) → List Lit → List Lit → List ℕ → List ℕ → Type 0
WereGuarded clauses guards order starts fronts = (k : ℕ) → k < length starts → AreGuarded clauses guards (take (slice_index starts k) order) (take (slice_index fronts k) order)

-- how many literals were handled at each decision
pub record AreFronts (starts fronts : List ℕ) : Type 0 where
  pub long : length fronts ≡ length starts
  pub within : (k : ℕ) → k < length starts → slice_index fronts k ≤ slice_index starts k
