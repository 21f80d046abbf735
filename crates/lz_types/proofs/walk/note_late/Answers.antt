use Rattle.std.proofs.Common.{sym}
use Rattle.lz_tree.proofs.TreesLemmas.{is_call}
use Rattle.lz_types.proofs.walk.note_late.Goals as goal

pub returns-in-Call : goal.returns-in-Call
returns-in-Call c =
    let is = is_call c.args.e.now c.in-Call.line c.in-Call.name c.in-Call.args c.in-Call.is in
    rw (is, sym c.callee-callee.ensures, sym c.deref.ensures.value) c.note_late_call.ensures
