use Rattle.std.proofs.Common.{refl, sym}
use Rattle.lz_model.specs.Store as model
use Rattle.lz_replay.proofs.ReplayingLemmas.{broke_there}
use Rattle.lz_replay.proofs.replaying.act.Goals as goal

pub returns-in-Broke : goal.returns-in-Broke
returns-in-Broke c = (broke_there (model.act c.args.store.now c.args.thread c.args.taken.now.action) c.in-Broke.kind (sym c.in-Broke.ensures.answer), refl)
