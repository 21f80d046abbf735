use Rattle.std.proofs.Common.{ap}
use Rattle.lz_turns.specs.Callees.{callee_of}
use Rattle.lz_turns.proofs.ArgumentsLemmas.{arguing_in, arguing_out}
use Rattle.lz_turns.proofs.calls.arguing_move.Goals as goal

pub returns-then-at-args : goal.returns-then-at-args
returns-then-at-args c = arguing_in c.args.args.now (callee_of c.args.callee) c.in-Known.line c.in-Known.name (ap callee_of c.in-Known.is) _ _ _ _ _ _ _ c.if-at-args.true c.index-args-at.is c.is_object.ensures c.value_so.ensures

pub returns-else-at-args : goal.returns-else-at-args
returns-else-at-args c = arguing_out c.args.args.now (callee_of c.args.callee) c.in-Known.line c.in-Known.name (ap callee_of c.in-Known.is) _ _ _ _ _ _ _ c.if-at-args.false c.deref.ensures.value c.deref-else-at-args.ensures.value c.known_move.ensures
