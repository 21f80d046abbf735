use Rattle.std.proofs.Common.{◌<◌, List, take, subst}
use Rattle.std.specs.List.{All}
use Rattle.std.proofs.lemmas.List.{take_all}
use Rattle.std.proofs.lemmas.List.Elements.{All-more}
use Rattle.lz_cnf.specs.declared.clause.Lit.{Lit}
use Rattle.lz_cnf.specs.Models.{variable_of}
use Rattle.lz_bench.proofs.fit.has_only.Goals as goal

pub loop-lit-preserved : goal.loop-lit-preserved
loop-lit-preserved c = All-more (λ (lit : Lit). variable_of lit < c.args.variables) c.args.clause.now c.loop-lit.lit-index (record { 0 = 0 }) c.loop-lit-test.true c.loop-lit.invariant c.if-lit-variables.false

pub returns : goal.returns
returns c _ = subst (λ (xs : List Lit). All (λ lit. variable_of lit < c.args.variables) xs) (take_all c.loop-lit.lit-index c.args.clause.now c.loop-lit-test.false) c.loop-lit.invariant
