use Rattle.std.proofs.Common.{length}
use Rattle.lz_sync_tests.proofs.groups.+run.Given as goal

abbrev pub decreases-run : goal.decreases-run
decreases-run l = length l.instrs.now
