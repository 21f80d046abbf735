use Rattle.std.proofs.Common.{get_or, set, ap, ◌∙◌, arith}
use Rattle.std.proofs.lemmas.List.{get_or_default}
use Rattle.std.proofs.lemmas.List.Edits.{map_over_more}
use Rattle.lz_model.specs.Store.{woken_from, fresh}
use Rattle.lz_store.proofs.parts.wake_all.Goals as goal

pub loop-i-preserved : goal.loop-i-preserved
loop-i-preserved c =
    let ys = c.loop-i.threads in
    let i = c.loop-i.i in
    let x = get_or ys i fresh in
    ap (set ys i) c.woken.ensures
    ∙ map_over_more (woken_from c.args.cond) c.args.threads.now ys i x (omega arith) c.loop-i.invariant (get_or_default ys i fresh x (omega arith))
