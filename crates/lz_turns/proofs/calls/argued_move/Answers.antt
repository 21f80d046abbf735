use Rattle.std.proofs.Common.{ap}
use Rattle.lz_turns.specs.Callees.{callee_of}
use Rattle.lz_turns.proofs.ArgumentsLemmas.{argued_in, argued_out}
use Rattle.lz_turns.proofs.calls.argued_move.Goals as goal

pub returns-in_ok-push-in-Known : goal.returns-in_ok-push-in-Known
returns-in_ok-push-in-Known c = argued_in c.args.args.now (callee_of c.args.callee) c.in-Known.line c.in-Known.name (ap callee_of c.in-Known.is) _ _ _ _ _ c.if-at-args.true c.in_ok-push-in-Known.ensures.items

pub returns-else-at-args : goal.returns-else-at-args
returns-else-at-args c = argued_out c.args.args.now (callee_of c.args.callee) c.in-Known.line c.in-Known.name (ap callee_of c.in-Known.is) _ _ _ _ _ c.if-at-args.false c.stops.ensures
