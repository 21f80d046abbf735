use Rattle.std.proofs.Common.{◌≡◌, ◌++◌}
use Rattle.std.specs.List.{flat_map}
use Rattle.lz_generate.specs.Generated.{addend, one_to, block_text}
use Rattle.lz_generate.proofs.generated.append_blocks.Given as goal

abbrev pub invariant-loop-block : goal.invariant-loop-block
invariant-loop-block l = l.text ≡ l.initial.text ++ flat_map (λ block. block_text (addend l.fn.seed l.fn.worker block)) (one_to l.block)
