use Rattle.std.proofs.Common.{◌≡◌, ◌⊎◌, ℕ, ◌<◌, List, get_or, length, sym, subst}
use Rattle.std.specs.List.{All, Contains}
use Rattle.lz_cnf.specs.declared.clause.Lit.{Lit}
use Rattle.lz_cnf.specs.Partial.{IsFalseLit}
use Rattle.lz_prop.specs.Stored.{clauses_of}
use Rattle.lz_prop.proofs.KeptLemmas.{further_join}
use Rattle.lz_prop.proofs.LookLemmas.{same_clause, others_further, alone_now, alone_were}
use Rattle.lz_prop.proofs.inner.Inner.look_alone.Goals as goal

pub force-requires-clause-has : goal.force-requires-clause-has
force-requires-clause-has c d = (c.requires.left d).has

pub last-last-requires-clause-has : goal.last-last-requires-clause-has
last-last-requires-clause-has c d = subst (λ (xs : List Lit). Contains xs c.args.lit) (same_clause c.args.self.now c.force.new.self c.force.ensures.further.store c.force.ensures.seen d) (c.requires.left d).has

pub guard-requires-clause-now : goal.guard-requires-clause-now
guard-requires-clause-now c d =
    let t = c.args.self.now in
    let u = c.force.new.self in
    let same = same_clause t u c.force.ensures.further.store c.force.ensures.seen d in
    alone_now u (get_or (clauses_of u.store) u.seen d) c.args.lit c.last-last.result c.if-not-force.ensures.forced
    (subst (λ (xs : List Lit). Contains xs c.args.lit) same (c.requires.left d).has) (c.last-last.ensures d)

pub guard-requires-clause-were : goal.guard-requires-clause-were
guard-requires-clause-were c d =
    let t = c.args.self.now in
    let u = c.force.new.self in
    let same = same_clause t u c.force.ensures.further.store c.force.ensures.seen d in
    let longer : t.seen < length (clauses_of u.store) = subst (λ s. t.seen < length (clauses_of s)) (sym c.force.ensures.further.store) c.requires.within in
    alone_were u u.seen d c.args.lit c.last-last.result c.force.ensures.kept (subst (λ (n : ℕ). n < length (clauses_of u.store)) (sym c.force.ensures.seen) longer) c.if-not-force.ensures.forced
    (subst (λ (xs : List Lit). Contains xs c.args.lit) same (c.requires.left d).has)
    (subst (λ (xs : List Lit). All (λ l. (l ≡ c.args.lit) ⊎ IsFalseLit u.table.order.items l) xs) same
    (others_further t u (get_or (clauses_of t.store) t.seen d) c.args.lit c.requires.kept c.force.ensures.further (c.requires.others d)))
    (c.last-last.ensures d)

pub returns-clause-further : goal.returns-clause-further
returns-clause-further c = further_join c.args.self.now c.force.new.self c.guard.new.self c.force.ensures.further c.guard.ensures.further
