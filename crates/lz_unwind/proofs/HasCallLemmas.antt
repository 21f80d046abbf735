-- Whether one of a list calls a function of the file, item by item.
use Rattle.std.proofs.Common.{◌≡◌, ℕ, suc, ◌+◌, ◌<◌, ◌||◌, Bool, true, false, List, [], ◌∷◌, length, drop, get_or, map, refl, ap, sym, arith, add-one, ◌∙◌}
use Rattle.std.proofs.Math.Seq.{drop-cons, drop-length}
use Rattle.lz_tree.specs.declared.scoped.ScopedExpr.{ScopedExpr}
use Rattle.lz_tree.specs.ScopedTrees.{ScopedExpressions, none, and, scoped_expression, scoped_expressions_of}
use Rattle.lz_unwind.specs.Moved.{has_call, all_have_call}

-- the expressions from a number on
abbrev pub left_at : List ScopedExpr → ℕ → ScopedExpressions
left_at xs i = scoped_expressions_of (map scoped_expression (drop i xs))

pub left_more : (xs : List ScopedExpr) (at : ℕ) (x : ScopedExpr) → at < length xs → x ≡ get_or xs at x → left_at xs at ≡ and (scoped_expression x) (left_at xs (at + 1))
left_more xs at x lt is =
    let cut : drop at xs ≡ get_or xs at x ∷ drop (suc at) xs = drop-cons xs at x lt in
    let one : at + 1 ≡ suc at = add-one at in
    rw (cut, ← is, one) refl

pub left_none : (xs : List ScopedExpr) (at : ℕ) → at ≡ length xs → left_at xs at ≡ none
left_none xs at end = rw end (ap (λ l. scoped_expressions_of (map scoped_expression l)) (drop-length xs))

or_assoc : (a b c : Bool) → a || (b || c) ≡ (a || b) || c
or_assoc true b c = refl
or_assoc false b c = refl

or_false : (a : Bool) → a || false ≡ a
or_false true = refl
or_false false = refl

-- whether one was found, or one of those that are left
pub record IsSought (xs : List ScopedExpr) (at : ℕ) (any : Bool) : Type 0 where
  pub whole : any || all_have_call (left_at xs at) ≡ all_have_call (scoped_expressions_of (map scoped_expression xs))

pub sought_start : (xs : List ScopedExpr) → IsSought xs 0 false
sought_start xs = record { whole = refl }

pub sought_turn : (xs : List ScopedExpr) (at : ℕ) (any new item : Bool) (x : ScopedExpr) → at < length xs → x ≡ get_or xs at x → IsSought xs at any → item ≡ has_call (scoped_expression x) → new ≡ (any || item) → IsSought xs (at + 1) new
sought_turn xs at any new item x lt is so_far one made =
    let more : left_at xs at ≡ and (scoped_expression x) (left_at xs (at + 1)) = left_more xs at x lt is in
    let step : (any || has_call (scoped_expression x)) || all_have_call (left_at xs (at + 1)) ≡ any || all_have_call (left_at xs at) =
    sym (or_assoc any (has_call (scoped_expression x)) (all_have_call (left_at xs (at + 1)))) ∙ ap (λ l. any || all_have_call l) (sym more) in
    record { whole = rw (made, one) (step ∙ so_far.whole) }

pub sought_end : (xs : List ScopedExpr) (at : ℕ) (any : Bool) → at ≡ length xs → IsSought xs at any → any ≡ all_have_call (scoped_expressions_of (map scoped_expression xs))
sought_end xs at any end so_far =
    let none_left : all_have_call (left_at xs at) ≡ false = ap all_have_call (left_none xs at end) in
    sym (or_false any) ∙ ap (λ b. any || b) (sym none_left) ∙ so_far.whole
