use Rattle.std.proofs.Common.{◌≡◌, ◌++◌, codes, drop}
use Rattle.std.specs.Fmt.{decimal}
use Rattle.std.specs.List.{flat_map}
use Rattle.lz_log.proofs.proof_text.append_hints.Given as goal

abbrev pub invariant-loop-hint : goal.invariant-loop-hint
invariant-loop-hint l =
    l.text ++ flat_map (λ hint. decimal hint ++ codes " ") (drop l.hint-index l.hints) ≡ l.initial.text ++ flat_map (λ hint. decimal hint ++ codes " ") l.hints
