use Rattle.std.proofs.Common.{List, subst}
use Rattle.std.proofs.lemmas.Result.{IfOk-weaker}
use Rattle.lz_ssa.specs.declared.node.Node.{Node}
use Rattle.lz_fold.specs.Folding.{AnyNode, FoldsBehind}
use Rattle.lz_fold.proofs.GoingLemmas.{any_operands, went_next}
use Rattle.lz_fold.proofs.up.fold_next.Goals as goal

pub returns : goal.returns
returns c = IfOk-weaker c.place.result _ _
    (λ number put inputs old went is. went_next inputs AnyNode old c.args.out.now c.place.new.out c.args.places.now c.args.node c.fold_node-folded.result number
    (subst (λ (n : Node). FoldsBehind c.args.out.now n c.fold_node-folded.result) c.rename-node.ensures
    (subst (λ (xs : List Node). FoldsBehind xs c.rename-node.result c.fold_node-folded.result) c.items.ensures c.fold_node-folded.ensures))
    put went (any_operands c.args.node) is)
    c.place.ensures
