use Rattle.std.proofs.Common.{◌≡◌}
use Rattle.lz_analyze.specs.Chains.{IsPart}
use Rattle.lz_analyze.proofs.shorter.Shorter.keep_all.Given as goal

abbrev pub invariant-loop-lit : goal.invariant-loop-lit
invariant-loop-lit l = IsPart l.low l.fn.point l.self.kept.items l.self.known.keys × (l.self.links.items ≡ l.initial.self.links.items)
