-- Inner: the literals that a truth test depends on.
use Rattle.std.specs.Prelude.{◌≡◌, ◌≤◌, true, false, List, length}
use Rattle.lz_cnf.specs.declared.clause.Lit.{Lit}
use Rattle.lz_gates.specs.Circuits.{Circuit, Assignment, value, clause_value, IsLit, AreLits}

-- Where `on` is true and `off` is false, some of the open literals is true exactly where some of all is.
pub record KeepsTest (on off : Lit) (bits open_ : List Lit) : Type 0 where
  pub says : (a : Assignment) → value a on ≡ true → value a off ≡ false → clause_value a open_ ≡ clause_value a bits
  pub within : (circuit : Circuit) → IsLit circuit on → AreLits circuit bits → AreLits circuit open_
  pub few : length open_ ≤ length bits
