use Rattle.std.proofs.Common.{◌≡◌, sym, ap}
use Rattle.lz_tree.specs.Trees.{expression}
use Rattle.lz_tree.proofs.TreesLemmas.{is_call}
use Rattle.lz_scopes.specs.ExpressionTypes.{type_of}
use Rattle.lz_scopes.proofs.expressions.+type_of.Goals as goal

pub returns-in-Call : goal.returns-in-Call
unfolding type_of
returns-in-Call t c =
    let is = is_call c.args.e.now c.in-Call.line c.in-Call.name c.in-Call.args c.in-Call.is in
    rw (c.given_at.ensures, c.callee.ensures, c.deref-in-Call.ensures.value)
    (sym (ap (type_of c.args.file.now c.args.place.now) is))
