use Rattle.std.proofs.Common.{◌≡◌, get_or, take, arith}
use Rattle.std.proofs.lemmas.List.{take_rest}
use Rattle.std.specs.Str.Parse.{digits_value}
use Rattle.lz_log.specs.Pieces.{IsCapped}
use Rattle.lz_log.proofs.NumberLemmas.{digits_front, front_digits, found_number}
use Rattle.lz_log.proofs.pieces.number.Goals.{else-len-gt1-via-then-len-gt1+else-bytes-eq48, else-len-gt1-via-else-len-gt1}
use Rattle.lz_log.proofs.pieces.number.Goals as goal

pub value_of-requires : goal.value_of-requires
value_of-requires c = rw c.digits_len-len.ensures.len (front_digits c.args.bytes.now).0

pub returns : goal.returns
returns c =
    let bytes = c.args.bytes.now in
    let len = c.digits_len-len.ensures.len in
    let first : get_or bytes 0 0 ≡ 48 → digits_front bytes ≡ 1 = λ e. elim c.else-len-gt1.branch [
      | else-len-gt1-via-then-len-gt1+else-bytes-eq48 w ↦ absurd (w.if-bytes-eq48.false e)
      | else-len-gt1-via-else-len-gt1 w ↦ (let h = w.if-len-gt1.false in let k = c.if-len-eq0.false in omega (arith, len))
    ] in
    let capped : IsCapped c.value_of.result (digits_value 10 (take (digits_front bytes) bytes)) = rw len at c.value_of.ensures in
    let found = found_number bytes c.value_of.result (let k = c.if-len-eq0.false in omega (arith, len)) (let k = c.digits_len-len.ensures.within in omega (arith, len)) first capped in
    rw (len, take_rest bytes (digits_front bytes)) found
