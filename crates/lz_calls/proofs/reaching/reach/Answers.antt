use Rattle.std.proofs.Common.{◌≡◌, ◌<◌, ◌≤◌, ◌+◌, length, drop, [], sym, arith, slice_index_or, drop_of_length-le}
use Rattle.std.proofs.lemmas.List.{nil_from_length}
use Rattle.lz_calls.proofs.ReachingLemmas.{search_start, no_marks, start_marked, taken, looked, all_looked, all_marked, drop_at, in_row, from_row, popped_less}
use Rattle.lz_calls.proofs.reaching.reach.Goals as goal

pub loop-s-preserved : goal.loop-s-preserved
loop-s-preserved c =
    start_marked c.args.graph.now c.args.starts.now (drop (c.loop-s.s-index + 1) c.args.starts.now) _ c.loop-s.marks.items c.mark.new.marks.items c.loop-s.work.items c.mark.new.work.items
    (rw (drop_at c.args.starts.now c.loop-s.s-index c.loop-s-test.true) at c.loop-s.invariant) c.in_ok-mark.ensures

pub loop-g-init : goal.loop-g-init
loop-g-init c = (
  taken c.args.graph.now c.args.starts.now c.in-Some.f c.row-g-items.result.now c.loop-f.marks.items c.pop.new.self.items (rw c.in-Some.ensures.items at c.loop-f.invariant)
      (in_row c.args.graph.now c.in-Some.f _ c.row-g-items.ensures) (from_row c.args.graph.now c.in-Some.f _ c.row-g-items.ensures),
  omega arith,
)

pub loop-f-init : goal.loop-f-init
loop-f-init c = rw (drop_of_length-le c.args.starts.now c.loop-s-test.false) at c.loop-s.invariant

pub loop-f-preserved : goal.loop-f-preserved
loop-f-preserved c =
    all_looked c.args.graph.now c.args.starts.now c.in-Some.f c.loop-g.marks.items c.loop-g.work.items (rw (drop_of_length-le c.row-g-items.result.now c.loop-g-test.false) at c.loop-g.invariant.0)

pub loop-g-preserved : goal.loop-g-preserved
loop-g-preserved c =
    let less = c.in_ok-mark-2.ensures.less in
    let before = c.loop-g.invariant.1 in (
      looked c.args.graph.now c.args.starts.now c.in-Some.f _ (drop (c.loop-g.g-index + 1) c.row-g-items.result.now) c.loop-g.marks.items c.mark-in-loop-g.new.marks.items c.loop-g.work.items c.mark-in-loop-g.new.work.items
          (rw (drop_at c.row-g-items.result.now c.loop-g.g-index c.loop-g-test.true) at c.loop-g.invariant.0) c.in_ok-mark-2.ensures,
      omega arith,
    )

pub returns : goal.returns
returns c =
    let b = c.in_default.ensures.cases.0 in
    let none : c.loop-f.work.items ≡ [] = nil_from_length c.loop-f.work.items (omega arith) in
    all_marked c.args.graph.now c.args.starts.now c.loop-f.marks.items (rw none at c.loop-f.invariant)
