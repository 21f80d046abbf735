use Rattle.std.proofs.Common.{◌≡◌, List, ℕ, suc, ◌+◌, length, get_or, slice_range, sym, ◌∙◌, ap, arith}
use Rattle.std.proofs.lemmas.List.{get_or_default}
use Rattle.lz_cnf.specs.declared.clause.Lit.{Lit}
use Rattle.lz_prop.proofs.StoreLemmas.{length-cut, get-cut}
use Rattle.lz_prop.proofs.store.Store.clause.Goals as goal

pub index-requires : goal.index-requires
index-requires c = let s = c.args.self.now in let long = length-cut s.literals.items s.bounds.items in let n = s.bounds.ok.0 in omega arith

pub overflow_add-at : goal.overflow_add-at
overflow_add-at c = let s = c.args.self.now in let long = length-cut s.literals.items s.bounds.items in let few = c.requires.store.few in omega arith

pub index-requires-2 : goal.index-requires-2
index-requires-2 c = let s = c.args.self.now in let long = length-cut s.literals.items s.bounds.items in let n = s.bounds.ok.0 in omega arith

pub part-requires-clause-order : goal.part-requires-clause-order
part-requires-clause-order c =
    let s = c.args.self.now in
    let long = length-cut s.literals.items s.bounds.items in
    let low = c.index.ensures ∙ get_or_default s.bounds.items c.args.at c.index.result.now 0 (omega arith) in
    let high = c.index-2.ensures ∙ get_or_default s.bounds.items (c.args.at + 1) c.index-2.result.now 0 (omega arith) in
    let next : c.args.at + 1 ≡ suc c.args.at = omega arith in
    let same = ap (λ (n : ℕ). get_or s.bounds.items n 0) next in
    let rise = c.requires.store.cut.rising c.args.at (omega arith) in
    omega arith

pub part-requires-clause-within : goal.part-requires-clause-within
part-requires-clause-within c =
    let s = c.args.self.now in
    let long = length-cut s.literals.items s.bounds.items in
    let high = c.index-2.ensures ∙ get_or_default s.bounds.items (c.args.at + 1) c.index-2.result.now 0 (omega arith) in
    let within = c.requires.store.cut.within (c.args.at + 1) (omega arith) in
    let all = ap length c.deref.ensures.value in
    omega arith

pub returns : goal.returns
returns c d =
    let s = c.args.self.now in
    let long = length-cut s.literals.items s.bounds.items in
    let low = c.index.ensures ∙ get_or_default s.bounds.items c.args.at c.index.result.now 0 (omega arith) in
    let next : c.args.at + 1 ≡ suc c.args.at = omega arith in
    let high = c.index-2.ensures ∙ get_or_default s.bounds.items (c.args.at + 1) c.index-2.result.now 0 (omega arith) ∙ ap (λ (n : ℕ). get_or s.bounds.items n 0) next in
    c.part.ensures
    ∙ ap (λ (xs : List Lit). slice_range xs c.index.result.now c.index-2.result.now) c.deref.ensures.value
    ∙ ap (λ (a : ℕ). slice_range s.literals.items a c.index-2.result.now) low
    ∙ ap (λ (b : ℕ). slice_range s.literals.items (get_or s.bounds.items c.args.at 0) b) high
    ∙ sym (get-cut s.literals.items s.bounds.items c.args.at d (omega arith))
