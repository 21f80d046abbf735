use Rattle.std.proofs.Common.{◌+◌, ◌∷◌, [], length, arith}
use Rattle.std.proofs.lemmas.List.{length-append}
use Rattle.lz_log.specs.ProofReading.{HasSteps}
use Rattle.lz_log.proofs.ReadingLemmas.{steps_more, step_takes}
use Rattle.lz_log.proofs.proof_reading.read_steps.Goals as goal

pub loop-left-preserved : goal.loop-left-preserved
loop-left-preserved c =
    let i = c.loop-left.invariant in
    let log = c.loop-left.log in
    let step = c.in-Ok.step in
    let pushed = c.in_ok-push-in-Ok.ensures.ok in
    let line : HasSteps c.loop-left.left.now c.args.variables (c.args.known + length log) (step ∷ []) c.in-Ok.rest.now = rw i.before at c.in-Ok.ensures in
    let takes = step_takes c.loop-left.left.now c.in-Ok.rest.now c.args.variables (c.args.known + length log) step line in
    rw pushed record {
      front = steps_more c.args.bytes.now c.loop-left.left.now c.in-Ok.rest.now c.args.variables c.args.known log step i.front line;
      before = (let e = i.before in omega (arith, length-append log (step ∷ [])));
      room = (let r = i.room in omega (arith, length-append log (step ∷ [])));
    }
