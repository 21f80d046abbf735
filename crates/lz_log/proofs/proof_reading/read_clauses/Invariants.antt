use Rattle.std.proofs.Common.{◌≡◌, ◌+◌, ◌≤◌, length}
use Rattle.lz_log.specs.ProofReading.{HasClauses}
use Rattle.lz_log.proofs.proof_reading.read_clauses.Given as goal

abbrev pub invariant-loop : goal.invariant-loop
invariant-loop l = record {
  front : HasClauses l.bytes l.variables l.clauses l.left;
  count : length l.clauses ≡ l.counter;
  room : length l.clauses + length l.left ≤ length l.bytes;
}
