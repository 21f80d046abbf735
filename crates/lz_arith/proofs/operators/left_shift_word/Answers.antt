use Rattle.std.proofs.Common.{arith, refl}
use Rattle.std.proofs.lemmas.List.{length-take-le}
use Rattle.lz_arith.proofs.OperatorsLemmas.{left_shift_makes}
use Rattle.lz_arith.proofs.operators.left_shift_word.Goals as goal

pub returns-clause-made : goal.returns-clause-made
returns-clause-made c = left_shift_makes _ _ _ c.requires.left.length c.requires.right.length refl (length-take-le 5 c.args.right.now (omega (arith, c.requires.right.length))) c.in_ok-bits.ensures.made
