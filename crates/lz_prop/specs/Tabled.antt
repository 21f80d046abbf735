-- Inner: a table from which true literals are being taken back.
use Rattle.std.specs.Prelude.{◌≡◌, ℕ, ◌≤◌, length, take}
use Rattle.std.specs.Vec.{vec_capacity}
use Rattle.lz_prop.specs.declared.table.Table.{Table}
use Rattle.lz_prop.specs.Parts.{IsTable}

-- the first literals are left, at least so many
pub record IsShortened (old now : Table) (least : ℕ) : Type 0 where
  pub table : IsTable (length old.levels.items) now.truths.items now.levels.items now.reasons.items now.order.items
  pub order : now.order.items ≡ take (length now.order.items) old.order.items
  pub within : length now.order.items ≤ length old.order.items
  pub enough : least ≤ length now.order.items
  pub levels : now.levels ≡ old.levels
  pub reasons : now.reasons ≡ old.reasons
  pub room : vec_capacity now.order ≡ vec_capacity old.order
