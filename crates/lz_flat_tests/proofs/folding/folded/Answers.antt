use Rattle.std.proofs.Common.{◌≡◌, ◌*◌, ◌≤◌, List, length, sym, subst, ap, arith}
use Rattle.lz_base.specs.Limits.{cost_limit}
use Rattle.lz_ssa.specs.declared.node.Node.{Node}
use Rattle.lz_ssa.specs.NodeWeight.{nodes_weight}
use Rattle.lz_flat_tests.proofs.FoldingLemmas.{weight_bound}
use Rattle.lz_flat_tests.proofs.folding.folded.Goals as goal

pub fold-requires-clause-light : goal.fold-requires-clause-light
fold-requires-clause-light c =
    let bound = weight_bound c.args.row.now in
    let few : length c.args.row.now ≤ 16 = omega arith in
    let light : nodes_weight c.args.row.now ≤ cost_limit = omega (arith, bound, few) in
    subst (λ (xs : List Node). nodes_weight xs ≤ cost_limit) (sym c.in_ok-list.ensures) light
