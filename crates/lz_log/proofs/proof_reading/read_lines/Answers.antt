use Rattle.std.proofs.Common.{◌≡◌, ◌<◌, length, ap, arith}
use Rattle.lz_log.specs.Pieces.{number_cap}
use Rattle.lz_log.specs.ProofReading.{HasSteps}
use Rattle.lz_log.proofs.ReadingLemmas.{header_takes, whole_text}
use Rattle.lz_log.proofs.proof_reading.read_lines.Goals as goal

pub overflow_cast-items : goal.overflow_cast-items
overflow_cast-items c =
    let head = header_takes c.args.bytes.now c.in-Some.variables c.in-Some.told c.in-Some.rest.now c.in-Some.ensures in
    let room = c.in_ok-clauses.ensures.2 in
    let same : length c.items.result.now ≡ length c.in_ok-clauses.clauses = ap (λ l. length l) c.items.ensures in
    omega (arith, c.requires)

pub read_steps-requires-clause-few : goal.read_steps-requires-clause-few
read_steps-requires-clause-few c =
    let head = header_takes c.args.bytes.now c.in-Some.variables c.in-Some.told c.in-Some.rest.now c.in-Some.ensures in
    let room = c.in_ok-clauses.ensures.2 in
    let same : length c.items.result.now ≡ length c.in_ok-clauses.clauses = ap (λ l. length l) c.items.ensures in
    omega (arith, c.requires)

pub returns : goal.returns
returns c =
    let head = header_takes c.args.bytes.now c.in-Some.variables c.in-Some.told c.in-Some.rest.now c.in-Some.ensures in
    let h = c.in_ok-clauses.ensures in
    let room = h.2 in
    let small : c.in-Some.told < number_cap = omega (arith, c.requires, h.1) in
    let steps : HasSteps c.in_ok-clauses.rest.now c.in-Some.variables (length c.in_ok-clauses.clauses) c.in_ok-log.log _ = rw c.items.ensures at c.in_ok-log.ensures in
    whole_text c.args.bytes.now c.in-Some.rest.now c.in_ok-clauses.rest.now c.in-Some.variables c.in-Some.told c.in_ok-clauses.clauses c.in_ok-log.log c.in-Some.ensures h.0 h.1 small steps
