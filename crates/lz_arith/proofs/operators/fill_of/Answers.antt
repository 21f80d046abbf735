use Rattle.std.proofs.Common.{ap, sym, ◌∙◌}
use Rattle.lz_base.specs.declared.word.IntType.{IntType}
use Rattle.lz_arith.specs.Bits.{is_negative, word}
use Rattle.lz_arith.proofs.SignsLemmas.{top_is}
use Rattle.lz_arith.proofs.operators.fill_of.Goals as goal

pub returns-in-Int-clause-says : goal.returns-in-Int-clause-says
returns-in-Int-clause-says c = λ a s. top_is a c.args.bits.now 31 _ c.requires.bits.length ∙ ap (λ (t : IntType). is_negative t (word a c.args.bits.now)) (sym c.in-Int.is)
