use Rattle.std.proofs.Common.{◌≡◌, length, true, is_ok, not, ap, ◌∙◌, arith}
use Rattle.lz_scopes.proofs.NamesLemmas.{pushed, on_ok}
use Rattle.lz_scopes.proofs.names.Names.declare.Goals as goal

pub invariant_of-self-else-is_err-2 : goal.invariant_of-self-else-is_err-2
invariant_of-self-else-is_err-2 c =
    let ok : is_ok c.push-2.result ≡ true = c.is_err.ensures.negation ∙ ap not c.if-is_err.false in
    let ok2 : is_ok c.set_place.result ≡ true = c.is_err-2.ensures.negation ∙ ap not c.if-is_err-2.false in
    let len : c.len-place.result ≡ length c.self.inside.entries.items = (let e = c.len-place.ensures in omega arith) in
    let set = on_ok _ _ ok2 c.set_place.ensures.ok in
    rw (c.in_ok-push.ensures.items, c.push-2.ensures.items, ok, c.place_of-hidden.ensures)
    (pushed c.self.inside.entries.items c.self.inside.hides.items c.self.inside.places _ c.args.entry c.self.invariant (rw len at set))
