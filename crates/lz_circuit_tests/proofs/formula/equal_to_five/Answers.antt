use Rattle.std.proofs.Common.{◌∙◌, ap, List, [], ◌∷◌, ◌++◌, refl}
use Rattle.lz_base.specs.declared.operator.Binary.TheVariants.{Eq}
use Rattle.lz_base.specs.declared.word.IntType.TheVariants.{Unsigned}
use Rattle.lz_ssa.specs.declared.node.Node.{Node}
use Rattle.lz_ssa.specs.declared.node.Node.TheVariants as nodes
use Rattle.lz_circuit_tests.proofs.ExampleLemmas.{three_formed, three_light}
use Rattle.lz_circuit_tests.proofs.formula.equal_to_five.Goals as goal

pub returns-clause-formed : goal.returns-clause-formed
returns-clause-formed c =
    three_formed _
    (c.in_ok-push-3.ensures.ok ∙ ap (λ (xs : List Node). xs ++ nodes.Binary Eq Unsigned 1 0 ∷ [])
    (c.in_ok-push-2.ensures.ok ∙ ap (λ (xs : List Node). xs ++ nodes.Input 0 Unsigned ∷ [])
    (c.in_ok-push.ensures.ok ∙ ap (λ (xs : List Node). xs ++ nodes.Constant 5 ∷ []) c.new-list.ensures)))
    refl refl

pub returns-clause-light : goal.returns-clause-light
returns-clause-light c =
    three_light (record { list = c.push-3.new.self; inputs = 2; fails = 2 })
    (c.in_ok-push-3.ensures.ok ∙ ap (λ (xs : List Node). xs ++ nodes.Binary Eq Unsigned 1 0 ∷ [])
    (c.in_ok-push-2.ensures.ok ∙ ap (λ (xs : List Node). xs ++ nodes.Input 0 Unsigned ∷ [])
    (c.in_ok-push.ensures.ok ∙ ap (λ (xs : List Node). xs ++ nodes.Constant 5 ∷ []) c.new-list.ensures)))
