use Rattle.std.proofs.Common.{◌≡◌, [], length, take}
use Rattle.lz_log.specs.Marks.{AreStamps}
use Rattle.lz_log.specs.Refutation.{AreByHints}
use Rattle.lz_log.proofs.checking.check_steps.Given as goal

abbrev pub invariant-loop-index : goal.invariant-loop-index
invariant-loop-index l =
    (length l.marks.stamps.items ≡ length l.fn.marks.stamps.items)
    × AreStamps l.marks
    × AreByHints l.formula [] (take l.index l.steps)
