use Rattle.lz_slots.proofs.LocalLemmas.{body_at_of}
use Rattle.lz_slots.proofs.program.sites_of.Goals as goal

pub returns : goal.returns
returns c =
    let done = rw (← c.index-functions-function.is) at c.statement_sites.ensures in
    rw (body_at_of c.args.functions.now c.args.function c.index-functions-function.result c.requires c.index-functions-function.is) done
