use Rattle.std.proofs.Common.{sym, ◌∙◌}
use Rattle.lz_tree.specs.Trees.{translation_unit}
use Rattle.lz_types.proofs.CheckingLemmas.{refused, order_there}
use Rattle.lz_types.proofs.checking.answer.Goals as goal

pub unwrap-order-requires : goal.unwrap-order-requires
unwrap-order-requires c =
    order_there (translation_unit c.args.program) c.args.found.faults.items c.args.found.order c.requires.faults
    (sym (rw c.deref.ensures.value at c.first_of.ensures) ∙ c.in-None.is) c.requires.order

pub returns-in-Some-clause-answer : goal.returns-in-Some-clause-answer
returns-in-Some-clause-answer c =
    refused (translation_unit c.args.program) c.args.found.faults.items _ _ c.requires.faults (sym (rw c.deref.ensures.value at c.first_of.ensures) ∙ c.in-Some.is) c.number_of.ensures
