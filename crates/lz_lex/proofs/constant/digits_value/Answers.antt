use Rattle.std.proofs.Common.{◌∙◌}
use Rattle.lz_lex.proofs.DigitsLemmas.{digits_ascii, digits_read}
use Rattle.lz_lex.proofs.constant.digits_value.Goals as goal

pub text-requires : goal.text-requires
text-requires c = digits_ascii c.args.base c.args.digits.now c.requires.digits

pub returns : goal.returns
returns c =
    let read = rw (c.text.ensures, c.radix.ensures) at c.from_str_radix.ensures.value in
    c.ok.ensures.value ∙ digits_read c.args.base c.args.digits.now c.from_str_radix.result c.requires.some c.requires.digits read
