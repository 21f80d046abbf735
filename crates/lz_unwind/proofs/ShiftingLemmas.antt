-- Expressions in their order, moved one after the other; and a call.
use Rattle.std.proofs.Common.{◌≡◌, ℕ, ◌+◌, ◌<◌, Option, List, [], ◌∷◌, ◌++◌, length, map, get_or, refl, sym, ap, ◌∙◌}
use Rattle.std.proofs.lemmas.List.{map-append}
use Rattle.lz_base.specs.declared.word.IntType.{IntType}
use Rattle.lz_tree.specs.declared.scoped.Object.{Object}
use Rattle.lz_tree.specs.declared.scoped.ScopedExpr.{ScopedExpr}
use Rattle.lz_tree.specs.ScopedTrees.{ScopedExpression, ScopedExpressions, none, and, call, scoped_expression, scoped_expressions_of}
use Rattle.lz_unwind.specs.Moved.{shift, shift_all}
use Rattle.lz_unwind.proofs.HasCallLemmas.{left_at, left_more, left_none}

-- some expressions before others
abbrev pub before : List ScopedExpression → ScopedExpressions → ScopedExpressions
before [] rest = rest
before (e ∷ es) rest = and e (before es rest)

before_last : (es : List ScopedExpression) (e : ScopedExpression) (rest : ScopedExpressions) → before (es ++ e ∷ []) rest ≡ before es (and e rest)
before_last [] e rest = refl
before_last (d ∷ es) e rest = ap (λ (x : ScopedExpressions). and d x) (before_last es e rest)

before_none : (es : List ScopedExpression) → before es none ≡ scoped_expressions_of es
before_none [] = refl
before_none (d ∷ es) = ap (λ (x : ScopedExpressions). and d x) (before_none es)

-- what was moved so far, and what is to be moved of those from a number on
abbrev pub so_far : ℕ → List ScopedExpr → List ScopedExpr → ℕ → ScopedExpressions
so_far o done es i = before (map scoped_expression done) (shift_all o (left_at es i))

pub moved_more : (o : ℕ) (all : ScopedExpressions) (done done' : List ScopedExpr) (es : List ScopedExpr) (i : ℕ) (e s : ScopedExpr) → all ≡ so_far o done es i → i < length es → e ≡ get_or es i e
    → scoped_expression s ≡ shift o (scoped_expression e) → done' ≡ done ++ s ∷ [] → all ≡ so_far o done' es (i + 1)
moved_more o all done done' es i e s was below is one more =
    was ∙ rw (left_more es i e below is, more, map-append, one) (sym (before_last (map scoped_expression done) (shift o (scoped_expression e)) (shift_all o (left_at es (i + 1)))))

pub moved_all : (o : ℕ) (all : ScopedExpressions) (done : List ScopedExpr) (es : List ScopedExpr) (i : ℕ) → all ≡ so_far o done es i → i ≡ length es
    → scoped_expressions_of (map scoped_expression done) ≡ all
moved_all o all done es i was over = sym (was ∙ rw (left_none es i over) (before_none (map scoped_expression done)))

-- a call is moved where its arguments are
pub moved_call : (o : ℕ) (e s : ScopedExpression) (line : ℕ) (callee : Object) (args given : ScopedExpressions) (kind : Option IntType) → e ≡ call line callee args kind
    → given ≡ shift_all o args → s ≡ call line callee given kind → s ≡ shift o e
moved_call o e s line callee args given kind is all node = rw (node, all, is) refl
