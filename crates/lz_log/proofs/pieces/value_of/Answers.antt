use Rattle.std.proofs.lemmas.Int.Digits.{digits_value_more}
use Rattle.std.specs.Str.Parse.{digits_value}
use Rattle.std.proofs.Common.{take}
use Rattle.lz_log.proofs.NumberLemmas.{digit_of}
use Rattle.lz_log.proofs.pieces.value_of.Goals as goal

pub with_digit-value-requires-clause-digit : goal.with_digit-value-requires-clause-digit
with_digit-value-requires-clause-digit c = digit_of c.args.digits.now c.loop-digit.digit-index c.requires c.loop-digit-test.true

pub loop-digit-preserved : goal.loop-digit-preserved
loop-digit-preserved c =
    rw (digits_value_more 10 c.args.digits.now c.loop-digit.digit-index c.loop-digit-test.true)
    (c.with_digit-value.ensures.capped (digits_value 10 (take c.loop-digit.digit-index c.args.digits.now)) c.loop-digit.invariant)
