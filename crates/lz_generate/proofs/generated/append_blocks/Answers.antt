use Rattle.std.proofs.Common.{◌∙◌, ◌++◌, ap₂}
use Rattle.lz_generate.specs.Generated.{addend, block_text}
use Rattle.lz_generate.proofs.NumberedLemmas.{text_more}
use Rattle.lz_generate.proofs.generated.append_blocks.Goals as goal

pub loop-block-preserved : goal.loop-block-preserved
loop-block-preserved c =
    c.in_ok-append_block.ensures ∙ ap₂ (λ text number. text ++ block_text number) c.loop-block.invariant c.added.ensures.value
    ∙ text_more (λ block. block_text (addend c.args.seed c.args.worker block)) c.args.text.now c.loop-block.block
