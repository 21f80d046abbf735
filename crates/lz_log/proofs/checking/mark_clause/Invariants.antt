use Rattle.std.proofs.Common.{◌≡◌, length, take}
use Rattle.lz_log.specs.Checking.{IsProper}
use Rattle.lz_log.specs.Marks.{AreStamps, Mark}
use Rattle.lz_log.proofs.checking.mark_clause.Given as goal

abbrev pub invariant-loop-lit : goal.invariant-loop-lit
invariant-loop-lit l =
    (length l.marks.stamps.items ≡ length l.fn.marks.stamps.items)
    × (AreStamps l.fn.marks → AreStamps l.marks)
    × IsProper l.variables (take l.lit-index l.clause)
    × Mark l.marks (take l.lit-index l.clause)
