use Rattle.std.proofs.Common.{◌-◌, ◌+◌, length, arith}
use Rattle.lz_points.specs.Tags.{owns_instruction}
use Rattle.lz_points.proofs.LoopsLemmas.{back_start, back_call, back_turn, back_end}
use Rattle.lz_points.proofs.thin.back_pass.Goals as goal

pub loop-left-init : goal.loop-left-init
loop-left-init c = back_start (owns_instruction c.args.tags.now c.args.tag) c.args.code.now

pub back_flag-flag-requires-clause-within : goal.back_flag-flag-requires-clause-within
back_flag-flag-requires-clause-within c =
    back_call (length c.args.tags.now) (owns_instruction c.args.tags.now c.args.tag) c.loop-left.code c.args.code.now (length c.args.code.now - c.loop-left.left) (length c.args.code.now - 1 - c.loop-left.left)
    (omega arith) (omega arith) c.loop-left.invariant c.requires.within

pub loop-left-preserved : goal.loop-left-preserved
loop-left-preserved c =
    back_turn (owns_instruction c.args.tags.now c.args.tag) c.loop-left.code c.args.code.now (length c.args.code.now - c.loop-left.left) (length c.args.code.now - 1 - c.loop-left.left) (length c.args.code.now - (c.loop-left.left + 1))
    c.index-code-at.result c.back_flag-flag.result (omega arith) (omega arith) (omega arith) c.loop-left.auto.code c.loop-left.invariant c.back_flag-flag.ensures

pub returns : goal.returns
returns c = back_end (owns_instruction c.args.tags.now c.args.tag) c.loop-left.code c.args.code.now (length c.args.code.now - c.loop-left.left) (omega arith) c.loop-left.invariant
