-- Walking arguments from left to right: what is wanted of the next one, and what is left.
use Rattle.std.proofs.Common.{◌≡◌, ℕ, zero, suc, ◌+◌, ◌<◌, ◌≤◌, Bool, true, false, not, ◌||◌, ◌&&◌, Option, Some, None, List, [], ◌∷◌, length, map, drop, get_or, refl, sym, ap, arith, drop_of_length-le}
use Rattle.std.proofs.Math.Bool.{not-not}
use Rattle.lz_tree.specs.declared.expression.Expr.{Expr}
use Rattle.lz_tree.specs.Trees.{Expressions, none, and, expression, expressions_of}
use Rattle.lz_scopes.specs.declared.fault.Rule.{Rule}
use Rattle.lz_scopes.specs.declared.place.Place.{Place}
use Rattle.lz_scopes.specs.declared.value_types.Want.{Want}
use Rattle.lz_scopes.specs.Constants.{constant_value, is_constant, are_constant}
use Rattle.lz_scopes.specs.Files.{File}
use Rattle.lz_scopes.specs.RuleLists.{rule_list}
use Rattle.lz_scopes.specs.ExpressionTypes.{count, first_want, rest_of, misplaced, is_broken, some_misplaced, is_none_of}
use Rattle.lz_base.proofs.BoolLemmas.{first_fails, first_holds, first_suffices}
use Rattle.lz_base.proofs.ListLemmas.{drop_item}

-- the wants behind a place
pub rest_drop : (ws : List Want) (i : ℕ) → rest_of (drop i ws) ≡ drop (i + 1) ws
rest_drop [] zero = refl
rest_drop [] (suc i) = let more : suc i + 1 ≡ suc (suc i) = omega arith in rw more refl
rest_drop (w ∷ rest) zero = refl
rest_drop (w ∷ rest) (suc i) = let more : suc i + 1 ≡ suc (i + 1) = omega arith in rw more (rest_drop rest i)

-- the arguments from a place on
abbrev pub left_at : List Expr → ℕ → Expressions
left_at es i = expressions_of (map expression (drop i es))

pub next : (es : List Expr) (i : ℕ) (e : Expr) → i < length es → e ≡ get_or es i e → left_at es i ≡ and (expression e) (left_at es (i + 1))
next es i e below is = ap (λ (l : List Expr). expressions_of (map expression l)) (drop_item es i e below is)

pub none_left : (es : List Expr) (i : ℕ) → length es ≤ i → left_at es i ≡ none
none_left es i over = ap (λ (l : List Expr). expressions_of (map expression l)) (drop_of_length-le es over)

pub count_of : (es : List Expr) → count (expressions_of (map expression es)) ≡ length es
count_of [] = refl
count_of (e ∷ rest) = ap suc (count_of rest)

-- a call that breaks a rule early is wrong
pub wrong_early : {rule : Rule} (r : Option Rule) (early late : List Rule) → r ≡ Some rule → rule_list r ≡ early
    → false ≡ (is_none_of early && is_none_of late)
wrong_early None early late some is = absurd cc
wrong_early (Some other) early late some is = rw (sym is) refl

-- and otherwise one that breaks a rule late
pub wrong_late : (r : Option Rule) (early late : List Rule) (wrong : Bool) → r ≡ None → rule_list r ≡ early
    → wrong ≡ not (is_none_of late) → not wrong ≡ (is_none_of early && is_none_of late)
wrong_late None early late wrong nothing is found = rw (sym is, found) (not-not (is_none_of late))
wrong_late (Some other) early late wrong nothing is found = absurd cc

or_false : (a b : Bool) → a ≡ false → (a || b) ≡ b
or_false false b is = refl
or_false true b is = absurd cc

module _ (file : File) (place : Place) (rule : Rule) (ws : List Want) (further : Want) where
  -- whether one from a place on breaks the rule
  abbrev pub breaks_from : List Expr → ℕ → Bool
  breaks_from es i = some_misplaced file place rule (drop i ws) further (left_at es i)

  pub breaks_more : (es : List Expr) (i : ℕ) (e : Expr) → i < length es → e ≡ get_or es i e
      → is_broken rule (misplaced file place (first_want (drop i ws) further) (expression e)) ≡ false → breaks_from es i ≡ breaks_from es (i + 1)
  breaks_more es i e below is right =
      rw (next es i e below is, rest_drop ws i)
      (or_false (is_broken rule (misplaced file place (first_want (drop i ws) further) (expression e))) (breaks_from es (i + 1)) right)

  pub breaks_here : (es : List Expr) (i : ℕ) (e : Expr) → i < length es → e ≡ get_or es i e
      → is_broken rule (misplaced file place (first_want (drop i ws) further) (expression e)) ≡ true → breaks_from es i ≡ true
  breaks_here es i e below is wrong =
      rw (next es i e below is)
      (first_suffices (is_broken rule (misplaced file place (first_want (drop i ws) further) (expression e)))
      (some_misplaced file place rule (rest_of (drop i ws)) further (left_at es (i + 1))) wrong)

  pub breaks_none : (es : List Expr) (i : ℕ) → length es ≤ i → breaks_from es i ≡ false
  breaks_none es i over = rw (none_left es i over) refl

-- ---- values of an array

pub constant_more : (es : List Expr) (i : ℕ) (e : Expr) → i < length es → e ≡ get_or es i e → not (is_constant (constant_value (expression e))) ≡ false
    → are_constant (left_at es i) ≡ are_constant (left_at es (i + 1))
constant_more es i e below is right = rw (next es i e below is) (first_holds (is_constant (constant_value (expression e))) (are_constant (left_at es (i + 1))) right)

pub constant_not : (es : List Expr) (i : ℕ) (e : Expr) → i < length es → e ≡ get_or es i e → not (is_constant (constant_value (expression e))) ≡ true
    → are_constant (left_at es i) ≡ false
constant_not es i e below is wrong = rw (next es i e below is) (first_fails (is_constant (constant_value (expression e))) (are_constant (left_at es (i + 1))) wrong)
