use Rattle.std.proofs.Common.{◌∙◌, ℕ, List, length, ap}
use Rattle.lz_points.proofs.MarkingLemmas.{lent_within, written_length, marked_flat}
use Rattle.lz_points.proofs.visible.mark.Goals as goal

pub claim_threads-requires-clause-within : goal.claim_threads-requires-clause-within
claim_threads-requires-clause-within c =
    lent_within c.args.flat.now c.items.result.now (length c.items_mut.result.now) c.requires.marked c.items.ensures (ap (λ (xs : List ℕ). length xs) c.items_mut.ensures.items)

pub thin_threads-requires-clause-within : goal.thin_threads-requires-clause-within
thin_threads-requires-clause-within c =
    lent_within c.args.flat.now c.items_mut-2.result.now (length c.items-2.result.now) c.requires.marked c.items_mut-2.ensures.items
    (ap (λ (xs : List ℕ). length xs) c.items-2.ensures
    ∙ written_length c.args.flat.now.first c.claim_threads.new.tags (c.claim_threads.auto.tags ∙ ap (λ (xs : List ℕ). length xs) c.items_mut.ensures.items))

pub returns : goal.returns
returns c =
    let kept = marked_flat c.args.flat.now c.items.result.now c.items_mut-2.result.now c.thin_threads.new.threads c.items_mut.result.now c.items-2.result.now c.claim_threads.new.tags
    c.items_mut-3.result.now c.restore.new.tags c.requires.marked c.requires.threads c.items_mut.ensures.items c.items.ensures c.claim_threads.ensures c.claim_threads.auto.tags
    c.items_mut-2.ensures.items c.items-2.ensures c.thin_threads.ensures c.thin_threads.auto.threads c.items_mut-3.ensures.items c.restore.ensures c.restore.auto.tags in
    record { marks = kept.marks; broken = kept.broken; before = kept.before; weight = kept.weight; lengths = kept.lengths }
