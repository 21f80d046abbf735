use Rattle.std.proofs.Common.{◌+◌, get_or, take, sym, subst}
use Rattle.lz_analyze.specs.Highest.{IsHighest}
use Rattle.lz_analyze.proofs.LearnLemmas.{IsOwn, highest_same, highest_own}
use Rattle.lz_analyze.proofs.analysis.highest.Goals as goal
use Rattle.lz_analyze.proofs.analysis.highest.Goals.{then-own-level, else-own-level}

pub loop-lit-preserved : goal.loop-lit-preserved
loop-lit-preserved c =
    let set = c.args.trail.now.set in
    let lits = c.args.lits.now in
    let i = c.loop-lit.lit-index in
    let own = c.level_or_zero-own.result in
    let is : IsOwn set (get_or lits i (record { 0 = 0 })) own = record { told = c.level_or_zero-own.ensures.told; reached = c.level_or_zero-own.ensures.reached } in
    elim c.if-own-level.branch [
      | then-own-level w ↦ subst (IsHighest set (take (i + 1) lits)) (sym w.level-is) (highest_own set lits i (record { 0 = 0 }) c.loop-lit.level own c.loop-lit-test.true c.loop-lit.invariant is w.if-own-level.true)
      | else-own-level w ↦ subst (IsHighest set (take (i + 1) lits)) (sym w.level-is) (highest_same set lits i (record { 0 = 0 }) c.loop-lit.level own c.loop-lit-test.true c.loop-lit.invariant is w.if-own-level.false)
    ]
