use Rattle.lz_blast.proofs.NodeLemmas.{adds_convert}
use Rattle.lz_blast.proofs.node.add_convert.Goals as goal

pub returns : goal.returns
returns c = record { adds = adds_convert _ _ c.items.ensures c.requires.operand c.index-items-of.is c.in_ok-push.ensures.ok c.in_ok-bits.ensures.bits c.in_ok-bits.ensures.made }
