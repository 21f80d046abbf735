use Rattle.std.proofs.Common.{◌≡◌, ℕ, ◌-◌, [], get_or, reverse, None, false, sym, ◌∙◌, ap, arith}
use Rattle.lz_prop.specs.Trail.{Entry}
use Rattle.lz_analyze.specs.Walks.{is_open}
use Rattle.lz_analyze.specs.Walking.{IsTodo}
use Rattle.lz_analyze.proofs.WalkingLemmas.{passed_down, at_positive}
use Rattle.lz_analyze.proofs.walk.Walk.descend.Goals as goal

first : Entry
first = record { lit = record { 0 = 0 }; level = 0; reason = None }

pub loop-self-preserved : goal.loop-self-preserved
loop-self-preserved c =
    let s = c.args.trail.now in
    let w = c.loop-self.self in
    let over = c.loop-self.invariant.0 in
    let same = c.loop-self.invariant.1 in
    let down = c.loop-self.invariant.2 in
    let left = c.requires.pending in
    let positive = at_positive s (IsTodo s w.at []) w.marks.keys w.low.items w.at w.pending (reverse w.hints.items) over.walk (omega arith) in
    let off : is_open s.level w.marks.keys (get_or s.set (w.at - 1) first) ≡ false =
    ap (λ (n : ℕ). is_open n w.marks.keys (get_or s.set (w.at - 1) first)) (sym c.requires.level) ∙ sym (c.loop-self-test.ensures first) in (
      record {
        walk = passed_down s w.marks.keys w.low.items w.at w.pending (reverse w.hints.items) first over.walk positive off;
        some = over.some;
      },
      same,
      omega arith,
    )
