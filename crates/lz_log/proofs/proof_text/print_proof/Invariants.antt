use Rattle.std.proofs.Common.{◌≡◌, ◌++◌, drop}
use Rattle.std.specs.List.{flat_map}
use Rattle.lz_log.specs.ProofText.{header_line, clause_line}
use Rattle.lz_log.proofs.proof_text.print_proof.Given as goal

abbrev pub invariant-loop-clause : goal.invariant-loop-clause
invariant-loop-clause l = l.text ++ flat_map clause_line (drop l.clause-index l.formula.clauses) ≡ header_line l.formula ++ flat_map clause_line l.formula.clauses
