use Rattle.std.proofs.Common.{ℕ, ◌-◌, [], reverse, get_or, sym, ◌∙◌, ap, subst, arith}
use Rattle.lz_analyze.specs.Walks.{is_open}
use Rattle.lz_analyze.specs.Walking.{IsTodo, IsLeftAt}
use Rattle.lz_analyze.proofs.WalkingLemmas.{given_down}
use Rattle.lz_analyze.proofs.walk.Walk.run.Goals as goal

pub resolve-requires-clause-given : goal.resolve-requires-clause-given
resolve-requires-clause-given c d =
    let s = c.args.trail.now in
    let w = c.descend.new.self in
    let more = c.loop-self-test.true in
    let same = c.descend.ensures.pending in
    given_down s (IsTodo s w.at []) w.marks.keys w.low.items w.at w.pending c.args.left (reverse w.hints.items) d c.requires.trail c.descend.ensures.walk.walk c.descend.ensures.at (omega arith)
    (subst (λ (n : ℕ). IsLeftAt n c.args.left) c.requires.level c.requires.left)
    (ap (λ (n : ℕ). is_open n w.marks.keys (get_or s.set (w.at - 1) d)) (sym c.requires.level) ∙ c.descend.ensures.open d)
