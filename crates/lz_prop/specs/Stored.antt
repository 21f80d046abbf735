-- Inner: what holds of the store of clauses.
use Rattle.std.specs.Prelude.{◌≡◌, ℕ, ◌≤◌, List, ◌++◌, length, take}
use Rattle.std.specs.Vec.{vec_capacity}
use Rattle.lz_cnf.specs.declared.clause.Lit.{Lit}
use Rattle.lz_prop.specs.declared.store.Store.{Store}
use Rattle.lz_prop.specs.Parts.{cut_at, AreCut}

-- the clauses that a store keeps
abbrev pub clauses_of : Store → List (List Lit)
clauses_of s = cut_at s.literals.items s.bounds.items

-- the most bounds that a store has, one more than its clauses: twice as many numbers are below 2 ^ 32
abbrev pub clause_limit : ℕ
clause_limit = 2147483647

-- what holds of a store
pub record IsStore (s : Store) : Type 0 where
  pub cut : AreCut s.literals.items s.bounds.items
  pub few : length s.bounds.items ≤ clause_limit

-- the literals of a clause are being added: so many stand at the end
pub record IsFilled (old now : Store) (clause : List Lit) (count : ℕ) : Type 0 where
  pub literals : now.literals.items ≡ old.literals.items ++ take count clause
  pub bounds : now.bounds ≡ old.bounds
  pub room : vec_capacity now.literals ≡ vec_capacity old.literals
