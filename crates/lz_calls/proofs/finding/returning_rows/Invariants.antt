use Rattle.std.proofs.Common.{map}
use Rattle.lz_calls.specs.Ranks.{AreReturning}
use Rattle.lz_calls.proofs.finding.returning_rows.Given as goal

abbrev pub invariant-loop-function : goal.invariant-loop-function
invariant-loop-function l = AreReturning l.graph l.ranks l.function (map (λ row. row.items) l.rows.items)
