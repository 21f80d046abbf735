use Rattle.std.proofs.Common.{ℕ, [], reverse, ◌∙◌, ap, subst}
use Rattle.lz_analyze.specs.Walks.{IsWalk}
use Rattle.lz_analyze.specs.Walking.{IsTodo}
use Rattle.lz_analyze.proofs.LearnLemmas.{learnt_zero}
use Rattle.lz_analyze.proofs.analysis.empty_clause.Goals as goal

pub returns : goal.returns
returns c =
    let s = c.args.trail.now in
    let w = c.run.new.self in
    learnt_zero s w.marks.keys w.low.items c.new.result w.at (reverse w.hints.items) c.in_ok-hints.hints c.requires.trail
    (subst (λ (n : ℕ). IsWalk s (IsTodo s w.at []) w.marks.keys w.low.items w.at n (reverse w.hints.items)) c.in_ok-run.ensures.left c.in_ok-run.ensures.walk.walk)
    c.requires.level c.new.ensures (c.in_ok-hints.ensures ∙ ap reverse c.deref.ensures)
