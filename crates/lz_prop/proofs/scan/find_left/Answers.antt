use Rattle.std.proofs.Common.{get_or, ◌∙◌, sym, ap}
use Rattle.std.proofs.lemmas.List.Elements.{All-more}
use Rattle.lz_cnf.specs.declared.clause.Lit.{Lit}
use Rattle.lz_prop.specs.Scan.{IsMarkedFalse}
use Rattle.lz_prop.proofs.ScanLemmas.{all_looked}
use Rattle.lz_prop.proofs.scan.find_left.Goals as goal

pub loop-lit-preserved : goal.loop-lit-preserved
loop-lit-preserved c =
    All-more (IsMarkedFalse c.args.truths.now) c.args.clause.now c.loop-lit.lit-index (record { 0 = 0 }) c.loop-lit-test.true c.loop-lit.invariant
    (sym (ap (λ (l : Lit). get_or c.args.truths.now l.0 0) c.negated.ensures) ∙ c.if-truths-negated-ne1.false)

pub returns : goal.returns
returns c = all_looked (IsMarkedFalse c.args.truths.now) c.args.clause.now c.loop-lit.lit-index c.loop-lit-test.false c.loop-lit.invariant
