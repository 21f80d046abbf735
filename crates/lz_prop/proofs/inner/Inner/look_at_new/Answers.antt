use Rattle.std.proofs.Common.{refl}
use Rattle.lz_prop.proofs.KeptLemmas.{further_same, further_join}
use Rattle.lz_prop.proofs.inner.Inner.look_at_new.Goals as goal

pub loop-self-init : goal.loop-self-init
loop-self-init c = record { kept = c.requires.kept; further = further_same c.args.self.now c.args.self.now refl refl refl refl }

pub loop-self-preserved : goal.loop-self-preserved
loop-self-preserved c = record { kept = c.look.ensures.kept; further = further_join c.args.self.now c.loop-self.self c.look.new.self c.loop-self.invariant.further c.look.ensures.further }

pub returns-then-look-clause-further : goal.returns-then-look-clause-further
returns-then-look-clause-further c = further_join c.args.self.now c.loop-self.self c.look.new.self c.loop-self.invariant.further c.look.ensures.further
