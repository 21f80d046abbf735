use Rattle.std.proofs.Common.{◌∙◌, ◌+◌, ◌++◌, ap}
use Rattle.lz_generate.specs.Generated.{create_text}
use Rattle.lz_generate.proofs.NumberedLemmas.{text_more}
use Rattle.lz_generate.proofs.generated.append_creates.Goals as goal

pub loop-worker-preserved : goal.loop-worker-preserved
loop-worker-preserved c =
    c.in_ok-append_create.ensures ∙ ap (λ text. text ++ create_text (c.loop-worker.worker + 1)) c.loop-worker.invariant
    ∙ text_more create_text c.args.text.now c.loop-worker.worker
