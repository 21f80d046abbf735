use Rattle.std.proofs.Common.{sym, ap}
use Rattle.lz_tree.proofs.TreesLemmas.{is_call}
use Rattle.lz_scopes.specs.ExpressionTypes.{early}
use Rattle.lz_types.proofs.walk.early.Goals as goal

pub returns-in-Call : goal.returns-in-Call
returns-in-Call c =
    let is = is_call c.args.e.now c.in-Call.line c.in-Call.name c.in-Call.args c.in-Call.is in
    rw (c.early_call.ensures, c.deref.ensures.value) (sym (ap (early c.args.file.now c.args.place.now) is))
