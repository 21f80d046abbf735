use Rattle.std.proofs.Common.{sym, subst}
use Rattle.lz_ssa.specs.declared.node.Node.{Node}
use Rattle.lz_ssa.specs.declared.node.Node.TheVariants.{Unary, Binary, Choose}
use Rattle.lz_fold.specs.Folding.{Knows, KnowsBoth, FoldsBehind}
use Rattle.lz_fold.proofs.GoingLemmas.{folds_behind}
use Rattle.lz_fold.proofs.up.fold_node.Goals as goal

pub returns-in-Unary : goal.returns-in-Unary
returns-in-Unary c = subst (λ (n : Node). FoldsBehind c.args.out.now n c.fold_unary.result) (sym c.in-Unary.is)
    (folds_behind c.args.out.now (Unary c.in-Unary.op c.in-Unary.kind c.in-Unary.of) (Knows c.in-Unary.of c.known.result) c.fold_unary.result c.requires.nodes c.fold_unary.ensures (λ input. c.known.ensures.known input))

pub returns-in-Binary : goal.returns-in-Binary
returns-in-Binary c = subst (λ (n : Node). FoldsBehind c.args.out.now n c.fold_binary.result) (sym c.in-Binary.is)
    (folds_behind c.args.out.now (Binary c.in-Binary.op c.in-Binary.kind c.in-Binary.left c.in-Binary.right) (KnowsBoth c.in-Binary.left c.known-in-Binary.result c.in-Binary.right c.known-in-Binary-2.result) c.fold_binary.result
    c.requires.nodes c.fold_binary.ensures (λ input. (c.known-in-Binary.ensures.known input, c.known-in-Binary-2.ensures.known input)))

pub returns-in-Choose : goal.returns-in-Choose
returns-in-Choose c = subst (λ (n : Node). FoldsBehind c.args.out.now n c.fold_choice.result) (sym c.in-Choose.is)
    (folds_behind c.args.out.now (Choose c.in-Choose.test c.in-Choose.yes c.in-Choose.no) (Knows c.in-Choose.test c.known-in-Choose.result) c.fold_choice.result c.requires.nodes c.fold_choice.ensures (λ input. c.known-in-Choose.ensures.known input))
