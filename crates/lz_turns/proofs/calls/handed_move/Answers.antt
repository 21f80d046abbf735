use Rattle.std.proofs.Common.{◌≡◌, ap, subst, IfOk}
use Rattle.lz_turns.specs.Callees.{callee_of}
use Rattle.lz_turns.specs.Stages.{move_of}
use Rattle.lz_turns.specs.Stages as stages
use Rattle.lz_turns.proofs.ArgumentsLemmas.{argument_fits, handed_in, handed_out}
use Rattle.lz_turns.proofs.calls.handed_move.Goals as goal

pub handed_one-requires-clause-fit : goal.handed_one-requires-clause-fit
handed_one-requires-clause-fit c = argument_fits c.args.args.now c.args.at c.index-args-at.result c.if-at-args.true c.index-args-at.is c.requires

pub returns-then-at-args : goal.returns-then-at-args
returns-then-at-args c =
    let e = handed_in c.args.args.now (callee_of c.args.callee) c.in-Known.line c.in-Known.name (ap callee_of c.in-Known.is) c.args.objects.items c.args.at c.args.index c.index-args-at.result c.if-at-args.true c.index-args-at.is in
    subst (λ (t : stages.Move). IfOk c.handed_one.result (λ m. move_of m ≡ t)) e c.handed_one.ensures

pub returns-else-at-args : goal.returns-else-at-args
returns-else-at-args c = handed_out c.args.args.now (callee_of c.args.callee) c.in-Known.line c.in-Known.name (ap callee_of c.in-Known.is) _ _ _ _ c.if-at-args.false c.stops.ensures
