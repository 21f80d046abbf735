use Rattle.lz_blast.proofs.NodeLemmas.{adds_constant}
use Rattle.lz_blast.proofs.node.add_constant.Goals as goal

pub returns : goal.returns
returns c = record { adds = adds_constant _ c.in_ok-push.ensures.ok c.in_ok-bits.ensures.bits c.in_ok-bits.ensures.made }
