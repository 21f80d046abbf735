use Rattle.lz_arith.proofs.OperatorsLemmas.{turned_of, truth_of}
use Rattle.lz_arith.proofs.operators.order_word.Goals as goal

pub returns-clause-made : goal.returns-clause-made
returns-clause-made c =
    truth_of _ _ _ (turned_of _ c.args.turned _ c.turned_literal-own.ensures c.in_ok-lit.ensures.made) c.in_ok-bits.ensures.made
