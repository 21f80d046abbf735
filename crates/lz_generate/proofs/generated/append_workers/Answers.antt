use Rattle.std.proofs.Common.{◌∙◌, ◌+◌, ◌++◌, ap}
use Rattle.lz_generate.specs.Generated.{worker_text}
use Rattle.lz_generate.proofs.NumberedLemmas.{text_more}
use Rattle.lz_generate.proofs.generated.append_workers.Goals as goal

pub loop-worker-preserved : goal.loop-worker-preserved
loop-worker-preserved c =
    c.in_ok-append_worker.ensures ∙ ap (λ text. text ++ worker_text c.args.seed (c.loop-worker.worker + 1)) c.loop-worker.invariant
    ∙ text_more (worker_text c.args.seed) c.args.text.now c.loop-worker.worker
