use Rattle.std.proofs.Common.{◌≡◌, List}
use Rattle.lz_cnf.specs.declared.clause.Lit.{Lit}
use Rattle.lz_analyze.specs.Chains.{IsReplay}
use Rattle.lz_analyze.proofs.shorter.Shorter.link_all.Given as goal

abbrev pub invariant-loop-variable : goal.invariant-loop-variable
invariant-loop-variable l =
    ((have : List Lit) → IsReplay l.trail have l.initial.self.known.keys l.initial.self.links.items → IsReplay l.trail have l.self.known.keys l.self.links.items) × (l.self.kept.items ≡ l.initial.self.kept.items)
