-- Choices of which one side is a constant: each is a conjunction, or the negation of one.
use Rattle.std.proofs.Common.{◌≡◌, Bool, true, false, not, ◌&&◌, refl, sym, ◌∙◌, ap, arith}
use Rattle.lz_cnf.specs.declared.clause.Lit.{Lit}
use Rattle.lz_cnf.specs.Models.{negated}
use Rattle.lz_gates.specs.Circuits.{Circuit, Assignment, value, IsCircuit, Makes, choice}
use Rattle.lz_gates.proofs.ExtendingLemmas.{makes_so, still}
use Rattle.lz_gates.proofs.GateLemmas.{value-negated}
use Rattle.lz_gates.proofs.FoldLemmas.{value-truth, value-falsity}

-- with 0 on the other side
and_choice : (t y : Bool) → (t && y) ≡ choice t y false
and_choice true y = refl
and_choice false y = refl

-- with 0 on the first side
not_and_choice : (t n : Bool) → (not t && n) ≡ choice t false n
not_and_choice true n = refl
not_and_choice false n = refl

-- with 1 on the other side
or_choice : (t y : Bool) → not (t && not y) ≡ choice t y true
or_choice true true = refl
or_choice true false = refl
or_choice false y = refl

-- with 1 on the first side
not_or_choice : (t n : Bool) → not (not t && not n) ≡ choice t true n
not_or_choice true n = refl
not_or_choice false true = refl
not_or_choice false false = refl

-- a conjunction that has the value of the choice where the truth literal is true
half_makes : (old new : Circuit) (test left right lit : Lit) (P : Assignment → Type 0) → IsCircuit old → Makes old new 1 3 P
    → ((a : Assignment) → a 0 ≡ true → P a → value a lit ≡ choice (value a test) (value a left) (value a right))
    → Makes old new 1 6 (λ a. value a lit ≡ choice (value a test) (value a left) (value a right))
half_makes old new test left right lit P circuit made so =
    makes_so old new 1 1 3 6 P _ made (omega arith) (omega arith) (λ a s p. so a (circuit.truth a (still old new made.extends a s)) p)

-- 0 on the other side
pub half_no_false : {old new : Circuit} (test left right lit : Lit) → IsCircuit old → right.0 ≡ 1
    → Makes old new 1 3 (λ a. value a lit ≡ (value a test && value a left))
    → Makes old new 1 6 (λ a. value a lit ≡ choice (value a test) (value a left) (value a right))
half_no_false {old} {new} test left right lit circuit e made =
    half_makes old new test left right lit _ circuit made
    (λ a t p. p ∙ and_choice (value a test) (value a left) ∙ ap (λ (x : Bool). choice (value a test) (value a left) x) (sym (value-falsity a right e t)))

-- 0 on the first side
pub half_yes_false : {old new : Circuit} (test left right lit : Lit) {off : Lit} → IsCircuit old → left.0 ≡ 1 → off ≡ negated test
    → Makes old new 1 3 (λ a. value a lit ≡ (value a off && value a right))
    → Makes old new 1 6 (λ a. value a lit ≡ choice (value a test) (value a left) (value a right))
half_yes_false {old} {new} test left right lit circuit e is made =
    half_makes old new test left right lit _ circuit made
    (λ a t p. p ∙ ap (λ (x : Lit). value a x && value a right) is ∙ ap (λ (x : Bool). x && value a right) (value-negated a test)
    ∙ not_and_choice (value a test) (value a right) ∙ ap (λ (x : Bool). choice (value a test) x (value a right)) (sym (value-falsity a left e t)))

-- 1 on the other side
pub half_no_true : {old new : Circuit} (test left right against : Lit) {lit not_yes : Lit} → IsCircuit old → right.0 ≡ 0 → not_yes ≡ negated left → lit ≡ negated against
    → Makes old new 1 3 (λ a. value a against ≡ (value a test && value a not_yes))
    → Makes old new 1 6 (λ a. value a lit ≡ choice (value a test) (value a left) (value a right))
half_no_true {old} {new} test left right against {lit} circuit e is lit_is made =
    half_makes old new test left right lit _ circuit made
    (λ a t p. ap (value a) lit_is ∙ value-negated a against
    ∙ ap not (p ∙ ap (λ (x : Lit). value a test && value a x) is ∙ ap (λ (x : Bool). value a test && x) (value-negated a left))
    ∙ or_choice (value a test) (value a left) ∙ ap (λ (x : Bool). choice (value a test) (value a left) x) (sym (value-truth a right e t)))

-- 1 on the first side
pub half_yes_true : {old new : Circuit} (test left right neither : Lit) {lit off not_no : Lit} → IsCircuit old → left.0 ≡ 0 → off ≡ negated test → not_no ≡ negated right → lit ≡ negated neither
    → Makes old new 1 3 (λ a. value a neither ≡ (value a off && value a not_no))
    → Makes old new 1 6 (λ a. value a lit ≡ choice (value a test) (value a left) (value a right))
half_yes_true {old} {new} test left right neither {lit} {not_no} circuit e is also lit_is made =
    half_makes old new test left right lit _ circuit made
    (λ a t p. ap (value a) lit_is ∙ value-negated a neither
    ∙ ap not (p ∙ ap (λ (x : Lit). value a x && value a not_no) is ∙ ap (λ (x : Lit). value a (negated test) && value a x) also
    ∙ ap (λ (x : Bool). x && value a (negated right)) (value-negated a test) ∙ ap (λ (x : Bool). not (value a test) && x) (value-negated a right))
    ∙ not_or_choice (value a test) (value a right) ∙ ap (λ (x : Bool). choice (value a test) x (value a right)) (sym (value-truth a left e t)))
