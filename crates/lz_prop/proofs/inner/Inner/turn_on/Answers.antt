use Rattle.std.proofs.Common.{get_or, subst, ◌-◌, ◌/◌}
use Rattle.lz_cnf.specs.declared.clause.Lit.{Lit}
use Rattle.lz_prop.specs.Scan.{IsOther}
use Rattle.lz_prop.specs.Stored.{clauses_of}
use Rattle.lz_prop.proofs.WalkLemmas.{stands_at, other_within, turn_stays, turn_satisfied}
use Rattle.lz_prop.proofs.inner.Inner.turn_on.Goals as goal

pub other-requires-clause-within : goal.other-requires-clause-within
other-requires-clause-within c = (stands_at c.args.self.now c.args.lit c.args.before c.args.at c.requires.kept c.requires.walk c.requires.some).clause

pub shift-requires-clause-other : goal.shift-requires-clause-other
shift-requires-clause-other c d e =
    let t = c.args.self.now in
    subst (λ (l : Lit). IsOther t.table.truths.items (get_or (clauses_of t.store) ((c.args.at - 1) / 2) e) l c.in-Some.to) (c.requires.other d) (c.in-Some.ensures e)

pub force-requires-clause-within : goal.force-requires-clause-within
force-requires-clause-within c = (stands_at c.args.self.now c.args.lit c.args.before c.args.at c.requires.kept c.requires.walk c.requires.some).clause

pub force-requires-clause-has : goal.force-requires-clause-has
force-requires-clause-has c = other_within c.args.self.now c.args.lit c.args.before c.args.at c.args.other c.requires.kept c.requires.walk c.requires.some c.requires.other

pub returns-then-force-clause-turned : goal.returns-then-force-clause-turned
returns-then-force-clause-turned c =
    let t = c.args.self.now in
    turn_stays t c.force.new.self c.args.lit c.args.before c.args.at c.requires.kept c.requires.walk c.requires.some c.force.ensures.further c.force.ensures.watch c.force.ensures.head
    (turn_satisfied t c.force.new.self c.args.lit c.args.before c.args.at c.args.other c.requires.kept c.requires.walk c.requires.some c.requires.other c.if-force.ensures.forced)
