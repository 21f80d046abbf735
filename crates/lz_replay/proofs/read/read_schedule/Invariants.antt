use Rattle.std.proofs.Common.{length}
use Rattle.lz_replay.proofs.ReadingLemmas.{LeadsOn}
use Rattle.lz_replay.proofs.read.read_schedule.Given as goal

-- however the rest is read, so is the whole
abbrev pub invariant-loop-rest : goal.invariant-loop-rest
invariant-loop-rest l = LeadsOn l.fn.bytes l.rest l.schedule l.line

abbrev pub decreases-loop-rest : goal.decreases-loop-rest
decreases-loop-rest l = length l.rest
