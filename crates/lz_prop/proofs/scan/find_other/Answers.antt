use Rattle.std.proofs.Common.{◌≡◌, ◌⊎◌, get_or, subst}
use Rattle.std.proofs.lemmas.List.Elements.{All-more}
use Rattle.lz_prop.specs.Scan.{IsMarkedFalse, IsBeside}
use Rattle.lz_prop.proofs.ScanLemmas.{all_looked}
use Rattle.lz_prop.proofs.scan.find_other.Goals as goal

pub loop-other-preserved : goal.loop-other-preserved
loop-other-preserved c =
    All-more (λ l. (l ≡ c.args.lit) ⊎ IsMarkedFalse c.args.truths.now l) c.args.clause.now c.loop-other.other-index (record { 0 = 0 }) c.loop-other-test.true c.loop-other.invariant
    (subst (IsBeside c.args.truths.now c.args.lit (get_or c.args.clause.now c.loop-other.other-index (record { 0 = 0 }))) c.if-is_beside.false c.is_beside.ensures)

pub returns : goal.returns
returns c = all_looked (λ l. (l ≡ c.args.lit) ⊎ IsMarkedFalse c.args.truths.now l) c.args.clause.now c.loop-other.other-index c.loop-other-test.false c.loop-other.invariant
