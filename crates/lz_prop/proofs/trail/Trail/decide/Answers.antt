use Rattle.lz_prop.proofs.KeptLemmas.{free_of, quiet_of}
use Rattle.lz_prop.proofs.trail.Trail.decide.Goals as goal

pub decide-requires-clause-unassigned : goal.decide-requires-clause-unassigned
decide-requires-clause-unassigned c = free_of c.self.inside.inner c.args.self.now c.args.lit c.self.view_is c.requires.unassigned

pub decide-requires-clause-quiet : goal.decide-requires-clause-quiet
decide-requires-clause-quiet c = quiet_of c.self.inside.inner c.args.self.now c.self.view_is c.requires.quiet
