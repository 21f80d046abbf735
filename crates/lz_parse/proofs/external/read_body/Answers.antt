use Rattle.lz_parse.proofs.LoopsLemmas.{body_below}
use Rattle.lz_parse.proofs.external.read_body.Goals as goal

pub returns : goal.returns
returns c = rw (body_below c.args.height c.requires) c.read_block.ensures
