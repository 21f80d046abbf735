-- The measure of the translation falls: into a part, along a row and into a called body.
use Rattle.std.proofs.Common.{◌≡◌, ℕ, suc, zero, ◌+◌, ◌*◌, ◌<◌, ◌≤◌, List, [], ◌∷◌, length, get_or, map, refl, ap, sym, arith, ◌∙◌, Option, Some, None}
use Rattle.lz_tree.specs.ScopedTrees.{ScopedDefinition, ScopedExpression, scoped_expression, scoped_expressions_of, ScopedExpressions, none, and, ScopedStatement, scoped_statement, scoped_statements_of}
use Rattle.lz_bound.specs.Sizes.{expression_size, expressions_size}
use Rattle.lz_unwind.specs.Weights.{most, statement_weight, statements_weight}

-- a body weighs less than all
pub most-above : (fs : List ScopedDefinition) (i : ℕ) (d : ScopedDefinition) → i < length fs → 4 * statement_weight (get_or fs i d).body + 4 < most fs + 1
most-above [] i d lt = omega (arith, lt)
most-above (f ∷ rest) zero d lt = omega arith
most-above (f ∷ rest) (suc i) d lt = let ih = most-above rest i d (omega (arith, lt)) in omega (arith, ih)

-- one level down, the whole body and what goes on from it are within one `most`
pub falls : (depth below whole weight k : ℕ) → below + 1 ≡ depth → 4 * weight + 4 < whole + 1 → k < 4 → below * whole + (4 * weight + k) < depth * whole
falls depth below whole weight k is lt few =
    let split : (below + 1) * whole ≡ below * whole + whole = omega arith in
    rw (← is, split) (omega (arith, lt, few))

-- an argument weighs at most its row
pub item-expressions : {A : Type 0} (f : A → ScopedExpression) (xs : List A) (i : ℕ) (d : A) → i < length xs → expression_size (f (get_or xs i d)) ≤ expressions_size (scoped_expressions_of (map f xs))
item-expressions f [] i d lt = omega (arith, lt)
item-expressions f (x ∷ rest) zero d lt = omega arith
item-expressions f (x ∷ rest) (suc i) d lt = let ih = item-expressions f rest i d (omega (arith, lt)) in omega (arith, ih)

-- a statement weighs at most its row
pub item-statements : {A : Type 0} (f : A → ScopedStatement) (xs : List A) (i : ℕ) (d : A) → i < length xs → statement_weight (f (get_or xs i d)) ≤ statements_weight (scoped_statements_of (map f xs))
item-statements f [] i d lt = omega (arith, lt)
item-statements f (x ∷ rest) zero d lt = omega arith
item-statements f (x ∷ rest) (suc i) d lt = let ih = item-statements f rest i d (omega (arith, lt)) in omega (arith, ih)
