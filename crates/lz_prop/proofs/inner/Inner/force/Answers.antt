use Rattle.std.proofs.Common.{List, [], sym, ap, subst, arith}
use Rattle.std.specs.List.{Contains}
use Rattle.std.proofs.lemmas.List.Elements.{Contains-push}
use Rattle.lz_cnf.specs.declared.clause.Lit.{Lit}
use Rattle.lz_prop.proofs.StoreLemmas.{length-cut}
use Rattle.lz_prop.proofs.KeptLemmas.{numbered, in_variables}
use Rattle.lz_prop.proofs.LookLemmas.{marked_true, left_rests}
use Rattle.lz_prop.proofs.inner.Inner.force.Goals as goal

pub index-requires : goal.index-requires
index-requires c =
    let t = c.args.self.now in
    let number = (numbered t c.args.lit c.requires.kept (in_variables t c.args.at [] c.args.lit c.requires.kept c.requires.within (c.requires.has []))).number in
    let n = t.table.truths.ok.0 in
    omega arith

pub index-requires-2 : goal.index-requires-2
index-requires-2 c =
    let t = c.args.self.now in
    let number = (numbered t c.args.lit c.requires.kept (in_variables t c.args.at [] c.args.lit c.requires.kept c.requires.within (c.requires.has []))).other in
    let same = ap (λ (l : Lit). l.0) c.negated.ensures in
    let n = t.table.truths.ok.0 in
    omega arith

pub returns-then-index-eq1-clause-forced : goal.returns-then-index-eq1-clause-forced
returns-then-index-eq1-clause-forced c =
    let t = c.args.self.now in
    let number = (numbered t c.args.lit c.requires.kept (in_variables t c.args.at [] c.args.lit c.requires.kept c.requires.within (c.requires.has []))).number in
    marked_true t c.args.lit c.index.result.now c.requires.kept number c.index.ensures c.if-index-eq1.true

pub imply-requires-clause-variable : goal.imply-requires-clause-variable
imply-requires-clause-variable c = in_variables c.args.self.now c.args.at [] c.args.lit c.requires.kept c.requires.within (c.requires.has [])

pub imply-requires-clause-rests : goal.imply-requires-clause-rests
imply-requires-clause-rests c = left_rests c.args.self.now c.args.at [] c.args.lit c.requires.kept c.requires.within (c.requires.has []) (c.requires.others [])

pub overflow_cast-at : goal.overflow_cast-at
overflow_cast-at c = let s = c.args.self.now.store in let long = length-cut s.literals.items s.bounds.items in let few = c.requires.kept.store.few in let lt = c.requires.within in omega arith

pub overflow_add-at : goal.overflow_add-at
overflow_add-at c = let s = c.args.self.now.store in let long = length-cut s.literals.items s.bounds.items in let few = c.requires.kept.store.few in let lt = c.requires.within in omega arith

pub returns-clause-forced : goal.returns-clause-forced
returns-clause-forced c = subst (λ (xs : List Lit). Contains xs c.args.lit) (sym c.imply.ensures.order) (Contains-push c.args.self.now.table.order.items c.args.lit)
