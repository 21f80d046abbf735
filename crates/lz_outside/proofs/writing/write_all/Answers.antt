use Rattle.std.proofs.Common.{◌-◌, ◌∙◌, arith, drop, length, length-drop, length-take}
use Rattle.lz_outside.proofs.WrittenLemmas.{Gains-put}
use Rattle.lz_outside.proofs.writing.write_all.Goals as goal

-- what was put is the front of the rest
pub loop-done-preserved : goal.loop-done-preserved
loop-done-preserved g c = record {
  in_range = omega (
    arith,
    c.in_ok-done.ensures.count,
    length-take (length c.args.bytes.now - c.loop-done.done) (drop c.loop-done.done c.args.bytes.now),
    length-drop c.loop-done.done c.args.bytes.now,
  );
  gained = Gains-put _ _ _ c.loop-done.done c.in_ok-done.field-0 c.args.bytes.now c.loop-done.invariant.gained c.in_ok-done.ensures.gains;
  calm = c.in_ok-done.ensures.calm ∙ c.loop-done.invariant.calm;
}
