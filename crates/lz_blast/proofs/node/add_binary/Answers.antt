use Rattle.lz_blast.proofs.NodeLemmas.{adds_binary}
use Rattle.lz_blast.proofs.node.add_binary.Goals as goal

pub returns : goal.returns
returns c = record { adds = adds_binary _ _ c.items-lists.ensures c.requires.left c.requires.right c.index-lists-left.is c.index-lists-right.is c.in_ok-push.ensures.ok c.in_ok-bits.ensures.bits c.in_ok-bits.ensures.made }
