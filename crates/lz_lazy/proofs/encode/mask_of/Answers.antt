use Rattle.std.proofs.Common.{arith}
use Rattle.lz_lazy.proofs.MasksLemmas.{mask_begins, mask_turns, mask_below, mask_found}
use Rattle.lz_lazy.proofs.encode.mask_of.Goals as goal

pub loop-init : goal.loop-init
loop-init c = mask_begins c.args.size

pub wider_mask-mask-requires : goal.wider_mask-mask-requires
wider_mask-mask-requires c = mask_below c.loop.invariant

pub loop-preserved : goal.loop-preserved
loop-preserved c = mask_turns c.loop.invariant (omega arith) c.wider_mask-mask.ensures

pub returns : goal.returns
returns c = mask_found c.loop.invariant (omega arith)
