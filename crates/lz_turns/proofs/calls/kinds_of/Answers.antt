use Rattle.lz_turns.proofs.ArgumentsLemmas.{kinds-end}
use Rattle.lz_turns.proofs.calls.kinds_of.Goals as goal

pub returns : goal.returns
returns c = kinds-end c.args.args.now c.loop-arg.arg-index c.loop-arg.kinds.items c.loop-arg-test.false c.loop-arg.invariant
