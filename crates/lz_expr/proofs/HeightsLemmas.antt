-- Expressions of every class are read exactly, up to every height.
use Rattle.std.proofs.Common.{◌≡◌, ℕ, zero, suc, ◌<◌, ◌≤◌, Bool, false, refl, sym, subst, inl, inr, arith}
use Rattle.std.specs.Prelude.{◌⊎◌, ◌==◌}
use Rattle.lz_tree.specs.declared.token.Token.{Token}
use Rattle.lz_tree.specs.Trees.{Expression}
use Rattle.lz_tree.specs.WellFormed.{InExpression}
use Rattle.lz_expr.specs.Reading.{Reader}
use Rattle.lz_expr.specs.Grammar.{operations, by_class, classes, expr}
use Rattle.lz_expr.proofs.RowsLemmas.{Row}
use Rattle.lz_expr.proofs.GoesLemmas.{below, goes, choose_goes, assign_goes, class_goes}
use Rattle.lz_expr.proofs.UnaryLemmas.{row_unary}
use Rattle.lz_expr.proofs.LevelsLemmas.{row_binary}
use Rattle.lz_expr.proofs.ConditionalLemmas.{row_choose, row_assign}

no_equal : (n m : ℕ) → n < m → (n == m) ≡ false
no_equal n m h = grind arith

-- a class is one of the binary levels or below them, choose or assign
class_of : (c : ℕ) → c ≤ 12 → ((c ≤ 10) ⊎ (c ≡ 11)) ⊎ (c ≡ 12)
class_of c h = grind arith

low_goes : (h c : ℕ) → c ≤ 10 → class_goes h c ≡ goes h c
low_goes h c l = rw (no_equal c 12 (omega arith), no_equal c 11 (omega arith)) refl

module _ (h : ℕ) (inner : ℕ → Reader Token Expression) (rows : 0 < h → (c : ℕ) → c ≤ 12 → Row (InExpression h c) (inner c) (class_goes (below h) c)) where
  level_reader : (c : ℕ) (tighter : Reader Token Expression) → c < 10 → by_class inner h c tighter ≡ operations inner h c tighter
  level_reader c tighter l = rw (no_equal c 10 l, no_equal c 11 (omega arith)) refl

  operand : (c : ℕ) → c ≤ 10 → 1 < suc h → Row (InExpression h c) (inner c) (goes (below h) c)
  operand c l some = subst (λ (g : Expression → Token → Bool). Row (InExpression h c) (inner c) g) (low_goes (below h) c l) (rows (omega arith) c (omega arith))

  row_low : (c : ℕ) → c ≤ 10 → Row (InExpression (suc h) c) (classes inner h c) (goes h c)
  unfolding classes
  row_low zero l = row_unary h inner rows
  row_low (suc c) l =
      subst (λ (r : Reader Token Expression). Row (InExpression (suc h) (suc c)) r (goes h (suc c))) (sym (level_reader c (classes inner h c) (omega arith)))
      (row_binary h c (classes inner h c) (inner c) (row_low c (omega arith)) (operand c (omega arith)) (omega arith))

  row_eleven : Row (InExpression (suc h) 11) (classes inner h 11) (choose_goes h)
  unfolding classes
  row_eleven = row_choose h inner rows (classes inner h 10) (row_low 10 (omega arith))

  row_twelve : Row (InExpression (suc h) 12) (classes inner h 12) (assign_goes h)
  unfolding classes
  row_twelve = row_assign h inner rows (classes inner h 11) row_eleven

  row_class : (c : ℕ) → ((c ≤ 10) ⊎ (c ≡ 11)) ⊎ (c ≡ 12) → Row (InExpression (suc h) c) (classes inner h c) (class_goes h c)
  row_class c (inl (inl l)) = subst (λ (g : Expression → Token → Bool). Row (InExpression (suc h) c) (classes inner h c) g) (sym (low_goes h c l)) (row_low c l)
  row_class c (inl (inr e)) = let P : ℕ → Type 0 = λ n. Row (InExpression (suc h) n) (classes inner h n) (class_goes h n) in subst P (sym e) row_eleven
  row_class c (inr e) = let P : ℕ → Type 0 = λ n. Row (InExpression (suc h) n) (classes inner h n) (class_goes h n) in subst P (sym e) row_twelve

-- each class of expressions of at most some height is read exactly
pub row_expression : (h c : ℕ) → c ≤ 12 → Row (InExpression (suc h) c) (expr (suc h) c) (class_goes h c)
unfolding expr
row_expression zero c l = row_class zero (expr zero) (λ some d m. absurd (omega arith)) c (class_of c l)
row_expression (suc h) c l = row_class (suc h) (expr (suc h)) (λ some d m. row_expression h d m) c (class_of c l)
