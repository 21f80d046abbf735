use Rattle.std.proofs.Common.{◌≡◌, ℕ, get_or, drop}
use Rattle.std.specs.List.{Contains}
use Rattle.lz_analyze.proofs.marks.wipe.Given as goal

abbrev pub invariant-loop-variable : goal.invariant-loop-variable
invariant-loop-variable l = (v : ℕ) → get_or l.table.items v 0 ≡ 1 → Contains (drop l.variable-index l.list) v
