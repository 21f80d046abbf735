use Rattle.std.proofs.Common.{◌≡◌, ℕ, suc, ◌+◌, ◌∙◌, ap, arith}
use Rattle.lz_stations.specs.Stations.{filling, moves_on}
use Rattle.lz_stations.proofs.StatementsLemmas.{element_in, element_out}
use Rattle.lz_stations.proofs.statements.listed_element.Goals as goal

pub returns-then-element-values : goal.returns-then-element-values
returns-then-element-values c = element_in c.args.values.now c.args.at c.args.element c.if-element-values.true

pub returns-else-element-values : goal.returns-else-element-values
returns-else-element-values c =
    let next : c.args.element + 1 ≡ suc c.args.element = omega arith in
    ap (λ (i : ℕ). moves_on (filling c.args.at i)) next ∙ element_out c.args.values.now c.args.at c.args.element c.if-element-values.false
