use Rattle.std.proofs.Common.{◌≡◌, ◌≢◌, ◌<◌, List, [], length, get_or, take, refl, sym, ◌∙◌, ap, subst}
use Rattle.std.specs.List.{All}
use Rattle.std.proofs.lemmas.Bool.{eqb-false}
use Rattle.std.proofs.lemmas.List.{take_all}
use Rattle.std.proofs.lemmas.List.Elements.{All-more}
use Rattle.lz_cnf.specs.declared.clause.Lit.{Lit}
use Rattle.lz_cnf.specs.Models.{variable_of}
use Rattle.lz_bench.proofs.fit.is_fit.Goals as goal

pub loop-clause-preserved : goal.loop-clause-preserved
loop-clause-preserved c =
    let xs = c.items-clause-items.result.now in
    let i = c.loop-clause.clause-index in
    let clause = c.clause-item.result in
    let has = c.if-not-has_only.ensures in (
      All-more (λ (x : List Lit). All (λ lit. variable_of lit < c.args.cnf.now.variables) x) xs i clause c.loop-clause-test.true c.loop-clause.invariant.0
          (subst (λ (x : List Lit). All (λ lit. variable_of lit < c.args.cnf.now.variables) x) c.clause-item.is
          (subst (λ (x : List Lit). All (λ lit. variable_of lit < c.args.cnf.now.variables) x) c.items-in-loop-clause.ensures (has refl))),
      All-more (λ (x : List Lit). x ≢ []) xs i clause c.loop-clause-test.true c.loop-clause.invariant.1
          (λ none. eqb-false (length c.items.result.now) 0 (sym c.if-is_empty.ensures) (ap length (c.items.ensures ∙ c.clause-item.is ∙ none))),
    )

pub returns-clause-formula : goal.returns-clause-formula
returns-clause-formula c _ =
    subst (λ (xs : List (List Lit)). All (λ x. All (λ lit. variable_of lit < c.args.cnf.now.variables) x) xs)
    (take_all c.loop-clause.clause-index c.items-clause-items.result.now c.loop-clause-test.false ∙ c.items-clause-items.ensures) c.loop-clause.invariant.0

pub returns-clause-not_empty : goal.returns-clause-not_empty
returns-clause-not_empty c _ =
    subst (λ (xs : List (List Lit)). All (λ x. x ≢ []) xs) (take_all c.loop-clause.clause-index c.items-clause-items.result.now c.loop-clause-test.false ∙ c.items-clause-items.ensures) c.loop-clause.invariant.1
