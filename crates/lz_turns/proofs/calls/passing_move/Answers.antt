use Rattle.std.proofs.Common.{ap}
use Rattle.lz_turns.specs.Callees.{callee_of}
use Rattle.lz_turns.proofs.ArgumentsLemmas.{passing_in, passing_out}
use Rattle.lz_turns.proofs.calls.passing_move.Goals as goal

pub returns-then-at-args : goal.returns-then-at-args
returns-then-at-args c = passing_in c.args.args.now (callee_of c.args.callee) c.in-Known.line c.in-Known.name (ap callee_of c.in-Known.is) _ _ _ _ c.if-at-args.true c.index-args-at.is c.passing_one.ensures

pub returns-else-at-args : goal.returns-else-at-args
returns-else-at-args c = passing_out c.args.args.now (callee_of c.args.callee) c.in-Known.line c.in-Known.name (ap callee_of c.in-Known.is) _ _ _ c.if-at-args.false c.new.ensures.items
