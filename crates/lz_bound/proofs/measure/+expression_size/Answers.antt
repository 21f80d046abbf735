use Rattle.std.proofs.Common.{◌∙◌, ap, sym, arith}
use Rattle.lz_tree.specs.ScopedTrees.{scoped_expression}
use Rattle.lz_tree.proofs.ScopedTreesLemmas.{is_scoped_call}
use Rattle.lz_bound.specs.Sizes.{saturated, expression_size}
use Rattle.lz_bound.proofs.SumLemmas.{expressions_size-of, sum_end}
use Rattle.lz_bound.proofs.measure.+expression_size.Goals as goal

pub expressions_size-returns : goal.expressions_size-returns
expressions_size-returns t c =
    let end = sum_end (omega arith) c.loop-item.invariant in
    end ∙ ap saturated (sym (expressions_size-of scoped_expression c.args.items.now))

pub expression_size-returns-in-Call : goal.expression_size-returns-in-Call
expression_size-returns-in-Call t c =
    let is = is_scoped_call c.args.e.now c.in-Call.line c.in-Call.callee c.in-Call.args c.in-Call.kind c.in-Call.is in
    let given = rw (← c.deref-in-Call.ensures.value) at (ap expression_size is) in
    rw given (omega (arith, c.plus-in-Call.ensures, c.expressions_size.ensures))
