use Rattle.std.proofs.Common.{◌≡◌, ◌+◌, ◌<◌, ◌-◌, length, sym, ◌∙◌, arith}
use Rattle.lz_scopes.proofs.NamesLemmas.{Found, nowhere, found, get_found}
use Rattle.lz_scopes.proofs.names.Names.nearest.Goals as goal

pub returns-in_err-place : goal.returns-in_err-place
returns-in_err-place c =
    rw (c.from_residual.ensures, sym c.self.view_is) (sym (nowhere 0 c.self.inside.entries.items c.args.name (sym (c.self.invariant.nearest_ones c.args.name) ∙ sym c.in_err-place.ensures)))

pub index-requires : goal.index-requires
index-requires c =
    let f : Found 0 c.self.inside.entries.items c.args.name c.in_ok-place.place =
    found 0 c.self.inside.entries.items c.args.name c.in_ok-place.place (sym (c.self.invariant.nearest_ones c.args.name) ∙ sym c.in_ok-place.ensures) in
    let high : c.in_ok-place.place < 0 + length c.self.inside.entries.items = f.high in
    omega arith

pub returns : goal.returns
returns c =
    let f : Found 0 c.self.inside.entries.items c.args.name c.in_ok-place.place =
    found 0 c.self.inside.entries.items c.args.name c.in_ok-place.place (sym (c.self.invariant.nearest_ones c.args.name) ∙ sym c.in_ok-place.ensures) in
    let high : c.in_ok-place.place < 0 + length c.self.inside.entries.items = f.high in
    let same : c.in_ok-place.place - 0 ≡ c.in_ok-place.place = omega arith in
    rw (sym c.self.view_is, f.is, same) (sym (get_found c.self.inside.entries.items c.in_ok-place.place c.index.result.now (omega arith) c.index.ensures))
