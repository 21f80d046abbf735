use Rattle.std.proofs.Common.{refl, arith}
use Rattle.lz_arith.proofs.OpenLemmas.{test_none, test_one, test_more, open_in}
use Rattle.lz_arith.proofs.nonzero.truth_test.Goals as goal

pub new_test-requires-clause-bits : goal.new_test-requires-clause-bits
new_test-requires-clause-bits c = open_in c.args.builder.now c.in_ok-kept.ensures c.items-lits.ensures c.truth-on.ensures.lit c.requires.bits

pub returns-clause-made : goal.returns-clause-made
returns-clause-made c = test_more _ c.truth-on.ensures.says c.falsity-off.ensures.says c.in_ok-kept.ensures c.items-lits.ensures c.in_ok-test.ensures.made

pub returns-then-lits-eq0-clause-made : goal.returns-then-lits-eq0-clause-made
returns-then-lits-eq0-clause-made c = test_none c.truth-on.ensures.says c.falsity-off.ensures.says c.in_ok-kept.ensures c.items-lits.ensures c.if-lits-eq0.true

pub returns-then-lits-eq1-clause-made : goal.returns-then-lits-eq1-clause-made
returns-then-lits-eq1-clause-made c = test_one _ c.truth-on.ensures.says c.falsity-off.ensures.says c.in_ok-kept.ensures c.items-lits.ensures c.if-lits-eq1.true refl

pub returns-then-lits-eq1-clause-lit : goal.returns-then-lits-eq1-clause-lit
returns-then-lits-eq1-clause-lit c = open_in c.args.builder.now c.in_ok-kept.ensures c.items-lits.ensures c.truth-on.ensures.lit c.requires.bits 0 _ (let one = c.if-lits-eq1.true in omega arith)
