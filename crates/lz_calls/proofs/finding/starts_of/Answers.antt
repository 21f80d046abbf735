use Rattle.std.proofs.Common.{map, arith}
use Rattle.lz_tree.specs.ScopedTrees.{scoped_definition}
use Rattle.lz_calls.proofs.FactsLemmas.{function_at, starts_turn}
use Rattle.lz_calls.proofs.finding.starts_of.Goals as goal

pub loop-number-preserved : goal.loop-number-preserved
loop-number-preserved c =
    let function = c.index-functions-number.result in
    let at = function_at c.args.functions.now c.loop-number.number function (omega (arith, c.loop-number-test.true, c.requires)) c.index-functions-number.is in
    starts_turn (map scoped_definition c.args.functions.now) c.loop-number.number c.loop-number.starts.items c.note_start.new.starts.items (scoped_definition function) at c.loop-number.invariant c.in_ok-note_start.ensures
