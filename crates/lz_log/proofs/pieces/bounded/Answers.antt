use Rattle.std.proofs.Common.{◌⊎◌, ◌<◌, inl, inr, arith}
use Rattle.lz_log.proofs.NumberLemmas.{no_bounded, out_of_bounds, other_end, within_bounds}
use Rattle.lz_log.proofs.pieces.bounded.Goals.{then-number-from-via-then-number-from, then-number-from-via-else-number-from+then-number-from-2}
use Rattle.lz_log.proofs.pieces.bounded.Goals as goal

pub returns-in_err-number : goal.returns-in_err-number
returns-in_err-number c = rw c.from_residual.ensures (no_bounded c.args.bytes.now c.args.end c.args.low c.args.high (let f = c.ranges.high.fits in omega arith) c.requires c.in_err-number.ensures)

pub returns-then-number-from : goal.returns-then-number-from
returns-then-number-from c =
    let out : (c.in_ok-number.number < c.args.low) ⊎ (c.args.high < c.in_ok-number.number) = elim c.then-number-from.branch [
      | then-number-from-via-then-number-from w ↦ inl (let h = w.if-number-from.true in omega (arith, c.from.ensures))
      | then-number-from-via-else-number-from+then-number-from-2 w ↦ inr (let h = w.if-number-from-2.true in omega (arith, w.from-else-number-from.ensures))
    ] in
    out_of_bounds c.args.bytes.now c.args.end c.args.low c.args.high c.in_ok-number.number c.in_ok-number.rest.now (let f = c.ranges.high.fits in omega arith) c.requires c.in_ok-number.ensures out (let f = c.ranges.low.fits in omega arith)

pub returns-in_err-rest : goal.returns-in_err-rest
returns-in_err-rest c = rw c.from_residual-in_err-rest.ensures (other_end c.args.bytes.now c.args.end c.args.low c.args.high c.in_ok-number.number c.in_ok-number.rest.now (let f = c.ranges.high.fits in omega arith) c.requires c.in_ok-number.ensures c.in_err-rest.ensures)

pub returns : goal.returns
returns c = within_bounds c.args.bytes.now c.args.end c.args.low c.args.high c.in_ok-number.number c.in_ok-number.rest.now c.in_ok-rest.rest.now (let f = c.ranges.high.fits in omega arith) c.in_ok-number.ensures
    (let h = c.if-number-from.false in omega (arith, c.from.ensures))
    (let h = c.if-number-from-2.false in omega (arith, c.from-else-number-from.ensures))
    c.in_ok-rest.ensures
