use Rattle.lz_blast.proofs.StepsLemmas.{steps_computed}
use Rattle.lz_blast.proofs.node.add_node.Goals as goal

pub returns-in_ok-add_constant-in-Constant-clause-steps : goal.returns-in_ok-add_constant-in-Constant-clause-steps
returns-in_ok-add_constant-in-Constant-clause-steps c = rw c.in-Constant.is (steps_computed (λ i h. h) c.in_ok-add_constant-in-Constant.ensures.adds)

pub returns-in_ok-add_unary-in-Unary-clause-steps : goal.returns-in_ok-add_unary-in-Unary-clause-steps
returns-in_ok-add_unary-in-Unary-clause-steps c = rw c.in-Unary.is (steps_computed (λ i h. h) c.in_ok-add_unary-in-Unary.ensures.adds)

pub returns-in_ok-add_binary-in-Binary-clause-steps : goal.returns-in_ok-add_binary-in-Binary-clause-steps
returns-in_ok-add_binary-in-Binary-clause-steps c = rw c.in-Binary.is (steps_computed (λ i h. h) c.in_ok-add_binary-in-Binary.ensures.adds)

pub returns-in_ok-add_convert-in-Convert-clause-steps : goal.returns-in_ok-add_convert-in-Convert-clause-steps
returns-in_ok-add_convert-in-Convert-clause-steps c = rw c.in-Convert.is (steps_computed (λ i h. h) c.in_ok-add_convert-in-Convert.ensures.adds)

pub returns-in_ok-add_choice-in-Choose-clause-steps : goal.returns-in_ok-add_choice-in-Choose-clause-steps
returns-in_ok-add_choice-in-Choose-clause-steps c = rw c.in-Choose.is (steps_computed (λ i h. h) c.in_ok-add_choice-in-Choose.ensures.adds)
