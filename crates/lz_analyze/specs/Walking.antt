-- Inner: the walk as the code keeps it.
use Rattle.std.specs.Prelude.{◌≡◌, ℕ, ◌⊎◌, ◌-◌, ◌<◌, true, List, [], take, length, slice_index_or, reverse}
use Rattle.std.specs.List.{Contains}
use Rattle.lz_cnf.specs.declared.clause.Lit.{Lit}
use Rattle.lz_cnf.specs.Models.{variable_of}
use Rattle.lz_cnf.specs.Partial.{IsFalseLit}
use Rattle.lz_prop.specs.Trail.{Entry, TrailState, HoldsClause, literals}
use Rattle.lz_analyze.specs.Walks.{IsWalk, is_open}
use Rattle.lz_analyze.specs.declared.walk.Walk.{Walk}

-- a literal of the rest of a clause, false by an entry before the place
abbrev pub IsTodo : TrailState → ℕ → List Lit → Lit → Type 0
IsTodo s at rest lit = Contains rest lit × IsFalseLit (literals (take at s.set)) lit

-- the variable of the literal was met, or the literal is false by an entry before the place of the walk
abbrev pub IsMet : TrailState → Walk → Lit → Type 0
IsMet s w lit = Contains w.marks.keys (variable_of lit) ⊎ IsFalseLit (literals (take w.at s.set)) lit

-- the walk, while the rest of a clause is still to be looked at
pub record IsWalkOver (s : TrailState) (rest : List Lit) (w : Walk) : Type 0 where
  pub walk : IsWalk s (IsTodo s w.at rest) w.marks.keys w.low.items w.at w.pending (reverse w.hints.items)
  pub some : 0 < length w.hints.items

-- the literals of the clause of this number, as they were lent
abbrev pub IsLentFrom : TrailState → ℕ → List Lit → Type 0
IsLentFrom s number lits = HoldsClause s number lits

-- how many entries of the present level the walk leaves
abbrev pub IsLeftAt : ℕ → ℕ → Type 0
IsLeftAt level left = ((level ≡ 0) × (left ≡ 0)) ⊎ (left ≡ 1)

-- the walk stands above the first unique implication point
pub record IsAtPoint (s : TrailState) (w : Walk) : Type 0 where
  pub over : IsWalkOver s [] w
  pub one : w.pending ≡ 1
  pub positive : 0 < w.at
  pub open_ : (d : Entry) → is_open s.level w.marks.keys (slice_index_or s.set (w.at - 1) d) ≡ true
