use Rattle.std.proofs.Common.{arith, ap, ◌∙◌, ◌<◌, sym, subst, List, ◌∷◌, ◌++◌, [], length}
use Rattle.std.specs.List.{All}
use Rattle.lz_cnf.specs.declared.clause.Lit.{Lit}
use Rattle.lz_cnf.specs.Models.{variable_of}
use Rattle.lz_gates.proofs.GateLemmas.{variable_of-positive, still_working}
use Rattle.lz_gates.proofs.ListsLemmas.{below_two, negated_below}
use Rattle.lz_arith.proofs.NonzeroLemmas.{tests_none, tests_more, tests_all, long_clause}
use Rattle.lz_arith.proofs.nonzero.new_test.Goals as goal

pub loop-i-init : goal.loop-i-init
loop-i-init c = tests_none c.in_ok-test.ensures.variables c.in_ok-test.ensures.clauses

pub loop-i-preserved : goal.loop-i-preserved
loop-i-preserved c =
    tests_more _ c.loop-i.invariant c.loop-i-test.true c.in_ok-require.ensures.variables
    (c.in_ok-require.ensures.clauses ∙ ap (λ (x : Lit). c.loop-i.builder.clauses ++ (x ∷ c.in_ok-test.test ∷ []) ∷ []) c.negated.ensures)

pub require-requires-clause-lits : goal.require-requires-clause-lits
require-requires-clause-lits c =
    let bit_in = c.requires.bits c.loop-i.i (record { 0 = 0 }) c.loop-i-test.true in
    let test_in = variable_of-positive c.in_ok-test.test _ c.in_ok-test.ensures.lit in
    below_two _ _ _
    (subst (λ (x : Lit). variable_of x < c.loop-i.builder.variables) (sym c.negated.ensures) (negated_below _ _ (omega (arith, bit_in, c.loop-i.invariant.variables))))
    (omega (arith, test_in, c.loop-i.invariant.variables))

pub require-requires-2-clause-some : goal.require-requires-2-clause-some
require-requires-2-clause-some c = subst (λ (xs : List Lit). 0 < length xs) (sym (c.items.ensures ∙ c.in_ok-some.ensures)) (omega arith)

pub require-requires-2-clause-lits : goal.require-requires-2-clause-lits
require-requires-2-clause-lits c =
    let test_in = variable_of-positive c.in_ok-test.test _ c.in_ok-test.ensures.lit in
    let is = c.items.ensures ∙ c.in_ok-some.ensures ∙ ap (λ (x : Lit). x ∷ c.args.bits.now) c.negated-2.ensures in
    subst (λ (xs : List Lit). All (λ lit. variable_of lit < c.loop-i.builder.variables) xs) (sym is)
    (long_clause _ _ (omega (arith, test_in, c.loop-i.invariant.variables)) (λ k d lt. let p = c.requires.bits k d lt in omega (arith, p, c.loop-i.invariant.variables)))

pub returns-clause-made : goal.returns-clause-made
returns-clause-made c =
    let is = c.items.ensures ∙ c.in_ok-some.ensures ∙ ap (λ (x : Lit). x ∷ c.args.bits.now) c.negated-2.ensures in
    tests_all c.loop-i.invariant c.loop-i-test.false c.in_ok-test.ensures.lit c.requires.bits c.in_ok-require-2.ensures.variables
    (c.in_ok-require-2.ensures.clauses ∙ ap (λ (xs : List Lit). c.loop-i.builder.clauses ++ xs ∷ []) is)
    (still_working _ _ c.in_ok-test.ensures.stays_spent c.in_ok-require-2.ensures.working)

pub returns-clause-lit : goal.returns-clause-lit
returns-clause-lit c =
    let test_in = variable_of-positive c.in_ok-test.test _ c.in_ok-test.ensures.lit in
    omega (arith, test_in, c.loop-i.invariant.variables, c.in_ok-require-2.ensures.variables)
