use Rattle.std.proofs.Common.{◌≡◌, ◌∙◌, ℕ, List, length, map, ap, sym}
use Rattle.std.proofs.lemmas.List.{length-map}
use Rattle.lz_tree.specs.ScopedTrees.{ScopedDefinition, scoped_definition}
use Rattle.lz_calls.specs.Calls.{graph_of}
use Rattle.lz_calls.specs.Heights.{capped, height_at_rank}
use Rattle.lz_calls.proofs.FactsLemmas.{facts_made, order_found}
use Rattle.lz_calls.proofs.finding.facts.Goals as goal

pub returns-clause-facts : goal.returns-clause-facts
returns-clause-facts c =
    let functions = map scoped_definition c.args.functions.now in
    let count : c.in_ok-count.count ≡ length functions = c.in_ok-count.ensures ∙ sym (length-map c.args.functions.now scoped_definition) in
    let ranking = rw (c.deref.ensures.value, c.in_ok-graph.ensures) at c.in_ok-ranking.ensures.ranks in
    let returning = rw (c.deref-5.ensures.value, c.deref-6.ensures.value, c.in_ok-graph.ensures, count) at c.in_ok-returning.ensures in
    let starts = rw count at c.in_ok-starts.ensures in
    let reached = rw (c.deref-7.ensures.value, c.deref-8.ensures.value, c.in_ok-graph.ensures) at c.in_ok-reached.ensures in
    let long : length c.in_ok-heights.heights.items ≡ length functions = c.in_ok-heights.ensures.0 ∙ sym (length-map c.args.functions.now scoped_definition) in
    let high = rw c.deref-9.ensures.value at c.in_ok-high.ensures in
    facts_made functions c.in_ok-ranking.ranking.ranks.items c.in_ok-heights.heights.items c.in_ok-starts.starts.items _ c.in_ok-reached.reached.items c.in_ok-high.high.items ranking returning starts reached long (λ f low. c.in_ok-heights.ensures.1 f low ∙ ap (λ (rs : List ℕ). capped (height_at_rank functions rs f)) c.deref-3.ensures.value) high

pub returns-clause-order : goal.returns-clause-order
returns-clause-order c =
    let functions = map scoped_definition c.args.functions.now in
    let count : c.in_ok-count.count ≡ length functions = c.in_ok-count.ensures ∙ sym (length-map c.args.functions.now scoped_definition) in
    let ranking = rw (c.deref.ensures.value, c.in_ok-graph.ensures) at c.in_ok-ranking.ensures.ranks in
    let order = rw (c.deref-2.ensures.value, count) at c.in_ok-order.ensures in
    let affirmed = rw (c.deref.ensures.value, c.in_ok-graph.ensures, count) at c.in_ok-ranking.ensures.yes in
    let denied = rw (c.deref.ensures.value, c.in_ok-graph.ensures, count) at c.in_ok-ranking.ensures.no in
    order_found functions c.in_ok-ranking.ranking.ranks.items c.in_ok-order.order _ _ ranking order affirmed denied c.kept-order.ensures
