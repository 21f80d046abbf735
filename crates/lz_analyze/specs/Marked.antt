-- Inner: a set of variables as a table and a list.
use Rattle.std.specs.Prelude.{◌≡◌, ℕ, eqb, List, slice_index_or}
use Rattle.std.specs.List.{list_any}

-- what is marked, in the order in which it was
pub record Marked : Type 0 where
  pub keys : List ℕ

-- the table has a 1 exactly at the variables of the list
pub record AreMarked (table keys : List ℕ) : Type 0 where
  pub told : (v : ℕ) → list_any (eqb v) keys ≡ eqb (slice_index_or table v 0) 1

-- both tables tell the same of each variable, whether it has a place or not
pub record AreSame (table new : List ℕ) : Type 0 where
  pub told : (v : ℕ) → slice_index_or new v 0 ≡ slice_index_or table v 0
