use Rattle.std.proofs.Common.{◌∙◌, ◌+◌, ◌++◌, ap}
use Rattle.lz_generate.specs.Generated.{join_text}
use Rattle.lz_generate.proofs.NumberedLemmas.{text_more}
use Rattle.lz_generate.proofs.generated.append_joins.Goals as goal

pub loop-worker-preserved : goal.loop-worker-preserved
loop-worker-preserved c =
    c.in_ok-append_join.ensures ∙ ap (λ text. text ++ join_text (c.loop-worker.worker + 1)) c.loop-worker.invariant
    ∙ text_more join_text c.args.text.now c.loop-worker.worker
