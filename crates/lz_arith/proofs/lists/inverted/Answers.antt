use Rattle.std.proofs.Common.{ap, ◌∙◌, sym, List, ◌++◌, ◌∷◌, [], take}
use Rattle.std.proofs.lemmas.List.{take_more, take_all}
use Rattle.lz_cnf.specs.declared.clause.Lit.{Lit}
use Rattle.lz_arith.specs.Bits.{negations}
use Rattle.lz_arith.proofs.DivideLemmas.{negations_push}
use Rattle.lz_arith.proofs.lists.inverted.Goals as goal

pub loop-i-preserved : goal.loop-i-preserved
loop-i-preserved c =
    c.in_ok-push.ensures.ok ∙ ap (λ (xs : List Lit). xs ++ c.negated.result ∷ []) c.loop-i.invariant
    ∙ ap (λ (x : Lit). negations (take c.loop-i.i c.args.bits.now) ++ x ∷ []) c.negated.ensures
    ∙ sym (negations_push (take c.loop-i.i c.args.bits.now) _)
    ∙ ap negations (sym (take_more c.args.bits.now c.loop-i.i (record { 0 = 0 }) c.loop-i-test.true))

pub returns : goal.returns
returns c = c.loop-i.invariant ∙ ap negations (take_all c.loop-i.i c.args.bits.now c.loop-i-test.false)
