use Rattle.std.proofs.Common.{sym}
use Rattle.lz_turns.proofs.ArgumentsLemmas.{argument_in, argument_out}
use Rattle.lz_stations.proofs.places.value_in.Goals as goal

pub returns-then-at-values : goal.returns-then-at-values
returns-then-at-values c = sym (argument_in c.args.values.now c.args.element _ c.if-at-values.true c.index-values-at.is)

pub returns-else-at-values : goal.returns-else-at-values
returns-else-at-values c = sym (argument_out c.args.values.now c.args.element c.if-at-values.false)
