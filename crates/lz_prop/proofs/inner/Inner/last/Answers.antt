use Rattle.std.proofs.Common.{ℕ, ◌<◌, List, [], get_or, length, sym, ap, subst}
use Rattle.std.specs.List.{Contains}
use Rattle.std.proofs.lemmas.List.Elements.{Contains-get_or}
use Rattle.lz_cnf.specs.declared.clause.Lit.{Lit}
use Rattle.lz_cnf.specs.Models.{variable_of}
use Rattle.lz_prop.proofs.KeptLemmas.{numbered, in_variables}
use Rattle.lz_prop.proofs.inner.Inner.last.Goals as goal

pub last_set-requires-clause-within : goal.last_set-requires-clause-within
last_set-requires-clause-within c k d lt =
    let t = c.args.self.now in
    let lit = get_or c.clause.result.now k d in
    let has = subst (λ (xs : List Lit). Contains xs lit) (c.clause.ensures []) (Contains-get_or c.clause.result.now k d lt) in
    let number = numbered t lit c.requires.kept (in_variables t c.args.at [] lit c.requires.kept c.requires.within has) in
    let long = ap length c.deref.ensures.value in
    subst (λ (n : ℕ). variable_of lit < n) (sym long) number.level

pub last_set-requires-clause-has : goal.last_set-requires-clause-has
last_set-requires-clause-has c = subst (λ (xs : List Lit). Contains xs c.args.lit) (sym (c.clause.ensures [])) (c.requires.has [])
