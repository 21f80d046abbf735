-- Expressions in their order, made from left to right; and a call.
use Rattle.std.proofs.Common.{◌≡◌, ℕ, ◌+◌, ◌<◌, ◌≤◌, Option, List, [], ◌∷◌, ◌++◌, length, map, get_or, refl, sym, ap, ◌∙◌}
use Rattle.std.proofs.lemmas.List.{map-append}
use Rattle.lz_base.specs.declared.word.IntType.{IntType}
use Rattle.lz_tree.specs.declared.expression.Expr.{Expr}
use Rattle.lz_tree.specs.declared.scoped.Object.{Object}
use Rattle.lz_tree.specs.declared.scoped.ScopedExpr.{ScopedExpr}
use Rattle.lz_tree.specs.Trees.{Expression, Expressions, call, expression}
use Rattle.lz_tree.specs.ScopedTrees as scoped
use Rattle.lz_tree.specs.ScopedTrees.{ScopedExpression, ScopedExpressions, none, and, scoped_expression, scoped_expressions_of}
use Rattle.lz_scopes.specs.declared.place.Place.{Place}
use Rattle.lz_scopes.specs.Files.{File}
use Rattle.lz_scopes.proofs.ArgumentsLemmas.{left_at, next, none_left}
use Rattle.lz_scopes.specs.ExpressionTypes.{callee}
use Rattle.lz_resolve.specs.ScopedPrograms.{or_nothing, kind_at, scope, scope_all}

-- some expressions before others
abbrev pub before : List ScopedExpression → ScopedExpressions → ScopedExpressions
before [] rest = rest
before (e ∷ es) rest = and e (before es rest)

before_last : (es : List ScopedExpression) (e : ScopedExpression) (rest : ScopedExpressions) → before (es ++ e ∷ []) rest ≡ before es (and e rest)
before_last [] e rest = refl
before_last (d ∷ es) e rest = ap (λ (x : ScopedExpressions). and d x) (before_last es e rest)

before_none : (es : List ScopedExpression) → before es none ≡ scoped_expressions_of es
before_none [] = refl
before_none (d ∷ es) = ap (λ (x : ScopedExpressions). and d x) (before_none es)

module _ (file : File) (place : Place) where
  -- what was made so far, and what is to be made of those from a number on
  abbrev pub made : List ScopedExpr → List Expr → ℕ → ScopedExpressions
  made done es i = before (map scoped_expression done) (scope_all file place (left_at es i))

  pub made_more : (all : ScopedExpressions) (done done' : List ScopedExpr) (es : List Expr) (i : ℕ) (e : Expr) (s : ScopedExpr) → all ≡ made done es i → i < length es → e ≡ get_or es i e
      → scoped_expression s ≡ scope file place (expression e) → done' ≡ done ++ s ∷ [] → all ≡ made done' es (i + 1)
  unfolding scope
  made_more all done done' es i e s so_far below is one more =
      so_far ∙ rw (next es i e below is, more, map-append, one) (sym (before_last (map scoped_expression done) (scope file place (expression e)) (scope_all file place (left_at es (i + 1)))))

  pub made_all : (all : ScopedExpressions) (done : List ScopedExpr) (es : List Expr) (i : ℕ) → all ≡ made done es i → length es ≤ i
      → scoped_expressions_of (map scoped_expression done) ≡ all
  unfolding scope
  made_all all done es i so_far over = sym (so_far ∙ rw (none_left es i over) (before_none (map scoped_expression done)))

  -- a call is made of what its name and its arguments are
  pub made_call : (e : Expression) (s : ScopedExpression) (line name : ℕ) (args : Expressions) (of : Object) (given : ScopedExpressions) (kind : Option IntType) → e ≡ call line name args
      → kind ≡ kind_at file place e → of ≡ or_nothing (callee file place name) → given ≡ scope_all file place args → s ≡ scoped.call line of given kind → s ≡ scope file place e
  unfolding scope
  made_call e s line name args of given kind is kinds means all node = rw (node, kinds, means, all, is) refl
