use Rattle.std.proofs.Common.{sym}
use Rattle.lz_turns.proofs.ArgumentsLemmas.{argument_in, argument_out}
use Rattle.lz_turns.proofs.parts.argument_at.Goals as goal

pub returns-then-at-args : goal.returns-then-at-args
returns-then-at-args c = sym (argument_in c.args.args.now c.args.at _ c.if-at-args.true c.index-args-at.is)

pub returns-else-at-args : goal.returns-else-at-args
returns-else-at-args c = sym (argument_out c.args.args.now c.args.at c.if-at-args.false)
