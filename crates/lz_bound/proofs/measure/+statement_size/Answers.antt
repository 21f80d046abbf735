use Rattle.std.proofs.Common.{ap, arith}
use Rattle.lz_bound.specs.BoundedTrees.{bounded_statement}
use Rattle.lz_bound.specs.Sizes.{statement_size}
use Rattle.lz_bound.proofs.BoundedTreesLemmas.{is_bounded_seq}
use Rattle.lz_bound.proofs.SumLemmas.{statements_size-of, sum_end}
use Rattle.lz_bound.proofs.measure.+statement_size.Goals as goal

pub parts_size-returns : goal.parts_size-returns
parts_size-returns t c =
    let end = sum_end (omega arith) c.loop-part.invariant in
    let all = statements_size-of bounded_statement c.args.parts.now in
    omega (arith, end, all, c.plus.ensures)

pub statement_size-returns-in-Seq : goal.statement_size-returns-in-Seq
statement_size-returns-in-Seq t c =
    let is = is_bounded_seq c.args.s.now c.in-Seq.parts c.in-Seq.is in
    let given = rw (← c.deref.ensures.value) at (ap statement_size is) in
    rw given c.parts_size.ensures
