use Rattle.std.proofs.Common.{◌≡◌, ◌++◌, codes, drop}
use Rattle.std.specs.List.{flat_map}
use Rattle.lz_log.specs.ProofText.{literal_text}
use Rattle.lz_log.proofs.proof_text.append_clause.Given as goal

abbrev pub invariant-loop-lit : goal.invariant-loop-lit
invariant-loop-lit l =
    l.text ++ flat_map (λ lit. literal_text lit ++ codes " ") (drop l.lit-index l.clause) ≡ l.initial.text ++ flat_map (λ lit. literal_text lit ++ codes " ") l.clause
