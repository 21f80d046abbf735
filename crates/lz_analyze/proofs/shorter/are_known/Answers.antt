use Rattle.std.proofs.Common.{◌≡◌, ◌⊎◌, List, refl, subst}
use Rattle.std.specs.List.{All, Contains}
use Rattle.std.proofs.lemmas.List.{take_all}
use Rattle.std.proofs.lemmas.List.Elements.{All-more}
use Rattle.lz_cnf.specs.declared.clause.Lit.{Lit}
use Rattle.lz_cnf.specs.Models.{variable_of}
use Rattle.lz_analyze.proofs.shorter.are_known.Goals as goal

pub loop-lit-preserved : goal.loop-lit-preserved
loop-lit-preserved c =
    All-more (λ lit. (variable_of lit ≡ c.args.variable) ⊎ Contains c.args.known.now.keys (variable_of lit)) c.args.clause.now c.loop-lit.lit-index (record { 0 = 0 }) c.loop-lit-test.true c.loop-lit.invariant
    (c.if-not-is_known.ensures refl)

pub returns : goal.returns
returns c yes_ =
    subst (λ (ys : List Lit). All (λ lit. (variable_of lit ≡ c.args.variable) ⊎ Contains c.args.known.now.keys (variable_of lit)) ys) (take_all c.loop-lit.lit-index c.args.clause.now c.loop-lit-test.false) c.loop-lit.invariant
