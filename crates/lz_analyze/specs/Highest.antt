-- Inner: the greatest level of false literals.
use Rattle.std.specs.Prelude.{◌≡◌, ◌⊎◌, ℕ, ◌≤◌, List, Some}
use Rattle.std.specs.List.{All, Contains}
use Rattle.lz_cnf.specs.declared.clause.Lit.{Lit}
use Rattle.lz_cnf.specs.Models.{variable_of}
use Rattle.lz_prop.specs.Trail.{Entry, entry_of, level_in}

-- no literal was set above the level, and one was at it, or it is 0
pub record IsHighest (set : List Entry) (lits : List Lit) (level : ℕ) : Type 0 where
  pub bound : All (λ lit. (own : ℕ) → level_in (entry_of set (variable_of lit)) ≡ Some own → own ≤ level) lits
  pub reached : (level ≡ 0) ⊎ ((lit : Lit) × Contains lits lit × (level_in (entry_of set (variable_of lit)) ≡ Some level))
