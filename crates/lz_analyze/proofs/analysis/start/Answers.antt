use Rattle.std.proofs.Common.{◌≡◌, ℕ, [], length, reverse, ◌∙◌, subst}
use Rattle.lz_analyze.specs.Walks.{IsWalk}
use Rattle.lz_analyze.specs.Walking.{IsTodo}
use Rattle.lz_analyze.proofs.WalkingLemmas.{lent_variables, met_at}
use Rattle.lz_analyze.proofs.LearnLemmas.{enough}
use Rattle.lz_analyze.proofs.analysis.start.Goals as goal

pub look-requires-clause-variables : goal.look-requires-clause-variables
look-requires-clause-variables c = lent_variables c.args.trail.now c.clause.result.now c.args.conflict c.requires.trail c.clause.ensures

pub look-requires-clause-met : goal.look-requires-clause-met
look-requires-clause-met c = met_at c.args.trail.now c.clause.result.now c.begin.new.self.marks.keys c.begin.new.self.at c.args.conflict c.requires.conflict c.clause.ensures c.in_ok-begin.ensures.at

pub look-requires-clause-walk : goal.look-requires-clause-walk
look-requires-clause-walk c = c.in_ok-begin.ensures.walk c.clause.result.now c.clause.ensures

pub returns-clause-enough : goal.returns-clause-enough
returns-clause-enough c positive =
    let s = c.args.trail.now in
    let w = c.look.new.self in
    let at : w.at ≡ length s.set = c.look.ensures.at ∙ c.in_ok-begin.ensures.at in
    enough s c.clause.result.now c.args.conflict w.marks.keys w.low.items w.pending (reverse w.hints.items) c.requires.trail positive c.requires.conflict c.clause.ensures
    (subst (λ (n : ℕ). IsWalk s (IsTodo s n []) w.marks.keys w.low.items n w.pending (reverse w.hints.items)) at c.in_ok-look.ensures.walk.walk)
    c.in_ok-look.ensures.own
