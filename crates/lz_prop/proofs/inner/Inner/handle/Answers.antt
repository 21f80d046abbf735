use Rattle.std.proofs.Common.{◌∙◌, arith}
use Rattle.lz_prop.proofs.KeptLemmas.{order_fits, further_join}
use Rattle.lz_prop.proofs.WalkLemmas.{head_kept, head_further}
use Rattle.lz_prop.proofs.inner.Inner.handle.Goals as goal

pub loop-self-preserved : goal.loop-self-preserved
loop-self-preserved c =
    let t = c.loop-self.self in
    let u = c.visit.new.self in
    let lt = c.loop-self-test.true in
    let n = t.table.order.ok.0 in
    let head = c.visit.ensures.head in
    let longer = c.visit.ensures.further.longer in
    record {
      kept = head_kept u c.visit.ensures.kept (omega arith) c.in_default.ensures.outcome;
      further = further_join c.args.self.now t _ c.loop-self.invariant.further (further_join t u _ c.visit.ensures.further (head_further u));
      seen = c.visit.ensures.seen ∙ c.loop-self.invariant.seen;
    }

pub loop-self-smaller : goal.loop-self-smaller
loop-self-smaller c =
    let t = c.loop-self.self in
    let u = c.visit.new.self in
    let lt = c.loop-self-test.true in
    let n = t.table.order.ok.0 in
    let head = c.visit.ensures.head in
    let fits = order_fits t c.loop-self.invariant.kept in
    let same = c.visit.ensures.further.extends.variables in
    omega arith

pub returns-in-Some-clause-further : goal.returns-in-Some-clause-further
returns-in-Some-clause-further c = further_join c.args.self.now c.loop-self.self c.visit.new.self c.loop-self.invariant.further c.visit.ensures.further
