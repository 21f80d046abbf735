use Rattle.lz_lex.specs.Scanning.{is_digit}
use Rattle.lz_lex.proofs.PrefixLemmas.{prefix_all}
use Rattle.lz_lex.proofs.constant.digits.Goals as goal

pub constant_below-requires-clause-digits : goal.constant_below-requires-clause-digits
constant_below-requires-clause-digits c = rw (c.front.ensures, c.digits_len-len.ensures) (prefix_all (is_digit c.args.base) c.args.bytes.now)
