use Rattle.std.proofs.Common.{◌≡◌, ◌+◌, ◌≤◌, length}
use Rattle.lz_log.specs.ProofReading.{HasSteps}
use Rattle.lz_log.proofs.proof_reading.read_steps.Given as goal

abbrev pub invariant-loop-left : goal.invariant-loop-left
invariant-loop-left l = record {
  front : HasSteps l.bytes l.variables l.known l.log l.left;
  before : l.before ≡ l.known + length l.log;
  room : length l.log + length l.left ≤ length l.bytes;
}

abbrev pub decreases-loop-left : goal.decreases-loop-left
decreases-loop-left l = length l.left
