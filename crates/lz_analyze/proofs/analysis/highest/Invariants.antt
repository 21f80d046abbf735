use Rattle.std.proofs.Common.{take}
use Rattle.lz_analyze.specs.Highest.{IsHighest}
use Rattle.lz_analyze.proofs.analysis.highest.Given as goal

abbrev pub invariant-loop-lit : goal.invariant-loop-lit
invariant-loop-lit l = IsHighest l.trail.set (take l.lit-index l.lits) l.level
