use Rattle.std.proofs.Common.{◌-◌, ◌∙◌, arith, drop, length, length-drop, length-take}
use Rattle.lz_outside.proofs.FilesLemmas.{Changes-piece}
use Rattle.lz_outside.proofs.writing.write_file.Goals as goal

-- what was added is the front of the rest
pub loop-added-preserved : goal.loop-added-preserved
loop-added-preserved g c = record {
  in_range = omega (
    arith,
    c.in_ok-added.ensures.count,
    length-take (length c.args.bytes.now - c.loop-added.added) (drop c.loop-added.added c.args.bytes.now),
    length-drop c.loop-added.added c.args.bytes.now,
  );
  changed = Changes-piece _ _ _ _ c.loop-added.added c.in_ok-added.field-0 c.args.bytes.now c.loop-added.invariant.changed c.in_ok-added.ensures.changes;
  calm = c.in_ok-added.ensures.calm ∙ c.loop-added.invariant.calm;
  same_reads = c.in_ok-added.ensures.same_reads ∙ c.loop-added.invariant.same_reads;
}
