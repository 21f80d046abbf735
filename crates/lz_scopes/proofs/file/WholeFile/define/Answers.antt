use Rattle.std.proofs.Common.{◌≡◌, length, true, is_ok, not, ap, ◌∙◌, arith}
use Rattle.lz_scopes.proofs.NamesLemmas.{on_ok}
use Rattle.lz_scopes.proofs.WholeLemmas.{defined_more}
use Rattle.lz_scopes.proofs.file.WholeFile.define.Goals as goal

pub invariant_of-self-else-is_err : goal.invariant_of-self-else-is_err
invariant_of-self-else-is_err c =
    let ok : is_ok c.note_first.result ≡ true = c.is_err.ensures.negation ∙ ap not c.if-is_err.false in
    let len : c.len-number.result ≡ length c.self.inside.functions.items = (let e = c.len-number.ensures in omega arith) in
    let set = on_ok _ _ ok c.note_first.ensures.ok in
    rw c.in_ok-push.ensures.items (defined_more c.self.inside.functions.items c.self.inside.defined _ c.args.f c.self.invariant (rw len at set))
