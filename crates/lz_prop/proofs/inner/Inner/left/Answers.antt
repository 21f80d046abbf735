use Rattle.std.proofs.Common.{ℕ, ◌<◌, List, [], get_or, length, sym, ap, subst}
use Rattle.std.specs.List.{Contains}
use Rattle.std.proofs.lemmas.List.Elements.{Contains-get_or}
use Rattle.lz_cnf.specs.declared.clause.Lit.{Lit}
use Rattle.lz_cnf.specs.Models.{negated}
use Rattle.lz_prop.proofs.KeptLemmas.{numbered, in_variables}
use Rattle.lz_prop.proofs.inner.Inner.left.Goals as goal

pub find_left-requires : goal.find_left-requires
find_left-requires c k d lt =
    let t = c.args.self.now in
    let lit = get_or c.clause.result.now k d in
    let has = subst (λ (xs : List Lit). Contains xs lit) (c.clause.ensures []) (Contains-get_or c.clause.result.now k d lt) in
    let number = numbered t lit c.requires.kept (in_variables t c.args.at [] lit c.requires.kept c.requires.within has) in
    let long = ap length c.deref.ensures.value in
    subst (λ (n : ℕ). (negated lit).0 < n) (sym long) number.other
