use Rattle.std.proofs.Common.{arith}
use Rattle.lz_fold.proofs.GoingLemmas.{length_weight}
use Rattle.lz_fold.proofs.whole.fold.Goals as goal

pub fold_up-requires-clause-few : goal.fold_up-requires-clause-few
fold_up-requires-clause-few c = let n = length_weight c.args.nodes.now.list in let light = c.requires.light in omega (arith, n, light)

pub keep_cone-requires-clause-few : goal.keep_cone-requires-clause-few
keep_cone-requires-clause-few c =
    let n = length_weight c.args.nodes.now.list in let light = c.requires.light in let fewer = c.in_ok-folded.ensures.fewer in omega (arith, n, light, fewer)
