use Rattle.std.proofs.Common.{refl}
use Rattle.lz_blast.proofs.StepsLemmas.{steps_fresh}
use Rattle.lz_blast.proofs.input.add_fresh.Goals as goal

pub returns-clause-steps : goal.returns-clause-steps
returns-clause-steps c = steps_fresh _ c.requires.number c.requires.unread c.in_ok-bits.ensures.variables c.in_ok-bits.ensures.clauses c.in_ok-bits.ensures.bits c.in_ok-copy.ensures refl c.in_ok-push.ensures.ok
