use Rattle.std.proofs.Common.{length, arith, refl}
use Rattle.lz_points.specs.Tags.{owns_instruction}
use Rattle.lz_points.proofs.LoopsLemmas.{forth_call, forth_within, forth_turn, forth_end}
use Rattle.lz_points.proofs.thin.forth_pass.Goals as goal

pub loop-at-init : goal.loop-at-init
loop-at-init c = record { left = refl; within = c.requires.within }

pub forth_flag-flag-requires-clause-within : goal.forth_flag-flag-requires-clause-within
forth_flag-flag-requires-clause-within c = forth_call (length c.args.tags.now) c.loop-at.at c.loop-at.code c.loop-at.invariant.within

pub loop-at-preserved : goal.loop-at-preserved
loop-at-preserved c = record {
  left = forth_turn (owns_instruction c.args.tags.now c.args.tag) c.loop-at.code c.loop-at.at c.index-code-at.result c.forth_flag-flag.result _ (omega arith) c.forth_flag-flag.ensures c.loop-at.invariant.left;
  within = forth_within (length c.args.tags.now) c.loop-at.code c.loop-at.at c.index-code-at.result c.forth_flag-flag.result (omega arith) c.loop-at.invariant.within;
}

pub returns : goal.returns
returns c = forth_end (owns_instruction c.args.tags.now c.args.tag) c.loop-at.code c.args.code.now c.loop-at.at (omega arith) c.loop-at.invariant.left
