use Rattle.std.proofs.Common.{◌≡◌, ◌↔◌, List, length, drop}
use Rattle.lz_cnf.specs.declared.clause.Lit.{Lit}
use Rattle.lz_log.specs.Checking.{Leads}
use Rattle.lz_log.specs.Marks.{AreStamps, Mark}
use Rattle.lz_log.specs.Refutation.{known_clauses}
use Rattle.lz_log.proofs.checking.leads_to_false.Given as goal

abbrev pub invariant-loop-index : goal.invariant-loop-index
invariant-loop-index l =
    (length l.marks.stamps.items ≡ length l.fn.marks.stamps.items)
    × (AreStamps l.fn.marks → AreStamps l.marks)
    × ((false_ : List Lit) → Mark l.fn.marks false_ → (now : List Lit) × Mark l.marks now
    × (Leads (known_clauses l.formula l.earlier) false_ l.hints
    ↔ Leads (known_clauses l.formula l.earlier) now (drop l.index l.hints)))
