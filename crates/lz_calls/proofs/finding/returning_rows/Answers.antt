use Rattle.std.proofs.Common.{◌∙◌, [], ◌∷◌, map, ap, subst, sym}
use Rattle.std.proofs.lemmas.List.{map-append}
use Rattle.lz_calls.specs.Ranks.{AreReturning}
use Rattle.lz_calls.proofs.FactsLemmas.{rows_turn}
use Rattle.lz_calls.proofs.finding.returning_rows.Goals as goal

pub loop-function-preserved : goal.loop-function-preserved
loop-function-preserved c =
    let new = c.in_ok-returning_row.field-0 in
    let is = rw (c.row.ensures, c.rank_at-own.ensures) at c.in_ok-returning_row.ensures in
    let rows = ap (map (λ row. row.items)) c.in_ok-push.ensures.items ∙ map-append (λ row. row.items) c.loop-function.rows.items (new ∷ []) in
    subst (AreReturning c.args.graph.now c.args.ranks.now _) (sym rows) (rows_turn c.args.graph.now c.args.ranks.now c.loop-function.function _ new.items c.loop-function.invariant is)
