use Rattle.std.proofs.Common.{◌-◌, refl, arith}
use Rattle.lz_prop.proofs.TabledLemmas.{shortened_more}
use Rattle.lz_prop.proofs.table.Table.shorten.Goals as goal

pub loop-self-preserved : goal.loop-self-preserved
loop-self-preserved c =
    let now = c.loop-self.self in
    let n = now.order.ok.0 in
    let last = c.len-last.result - 1 in
    let more = c.loop-self-test.true in
    shortened_more c.args.self.now now _ c.args.len last c.index-lit.result.now c.requires.apart c.loop-self.invariant (omega arith)
    (record {
      last_is = omega arith;
      lit_is = c.index-lit.ensures;
      truths = refl;
      levels = refl;
      reasons = refl;
      order = c.truncate.ensures.items;
      room = c.truncate.ensures.capacity;
    })
