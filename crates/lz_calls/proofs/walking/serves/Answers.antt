use Rattle.lz_calls.proofs.RanksLemmas.{ranking_by_falling}
use Rattle.lz_calls.proofs.walking.serves.Goals as goal

pub returns-clause-ranking : goal.returns-clause-ranking
returns-clause-ranking c = λ e.
    ranking_by_falling c.args.graph.now c.args.ranks.now c.args.count c.requires c.if-ranks-graph.false (c.are_positive.ensures.0 c.if-not-are_positive.false) (c.is_falling.ensures.yes e)
