-- The binary levels: each is read exactly where the tighter one and the operands below the limit are.
use Rattle.std.proofs.Common.{◌≡◌, ℕ, suc, ◌<◌, ◌≤◌, Bool, true, false, List, [], ◌∷◌, ◌++◌, Option, Some, None, refl, sym, ap, subst, ◌∙◌, inl, inr, arith, eq-eqb, nat_lt}
use Rattle.std.specs.Prelude.{◌⊎◌, if◌then◌else◌, ◌==◌}
use Rattle.lz_tree.specs.declared.token.Token.{Token}
use Rattle.lz_tree.specs.declared.token.TokenKind.{TokenKind}
use Rattle.lz_tree.specs.declared.token.TokenKind.TheVariants as kinds
use Rattle.lz_tree.specs.declared.token.Punct.{Punct}
use Rattle.lz_tree.specs.declared.token.Punct.TheVariants as marks
use Rattle.lz_base.specs.declared.operator.Binary.{Binary}
use Rattle.lz_tree.specs.Languages.{same_mark, meant_by, mark_in, line_at}
use Rattle.lz_tree.specs.Spelling.{operator_of, SpellsExpression}
use Rattle.lz_tree.specs.Trees.{Expression, binary, choose, assign}
use Rattle.lz_tree.specs.Height.{expression_height}
use Rattle.lz_tree.specs.WellFormed.{InExpression, FitsExpression, level, looseness}
use Rattle.lz_expr.specs.Reading.{Reader, shows, row_of_operators}
use Rattle.lz_expr.specs.Grammar.{operator_shown, of_level}
use Rattle.lz_expr.proofs.RowsLemmas.{Row}
use Rattle.lz_expr.proofs.ClimbLemmas.{Joined, row_level}
use Rattle.lz_expr.proofs.TokensLemmas.{line_leads}
use Rattle.lz_expr.proofs.GoesLemmas.{below, goes, right_of, Flat, is_flat, flat_of, goes_flat}
use Rattle.lz_expr.proofs.ExpressionsLemmas.{tall, some_text}

pub eq_from : (a b : ℕ) → (a == b) ≡ true → a ≡ b
eq_from a b h = grind arith

-- what an operator of a level shows
level_is : (n : ℕ) (o : Option Binary) (op : Binary) → of_level n o ≡ Some op → (o ≡ Some op) × (looseness op ≡ n)
level_is n None op e = absurd cc
level_is n (Some x) op e = by_test (looseness x == n) refl e
  where
    by_test : (q : Bool) → (looseness x == n) ≡ q → (if q then Some x else None) ≡ Some op → (Some x ≡ Some op) × (looseness op ≡ n)
    by_test true q e = let is : x ≡ op = cc in (e, (let P : Binary → Type 0 = λ y. looseness y ≡ n in subst P is (eq_from (looseness x) n q)))
    by_test false q e = absurd cc

level_shows : (n : ℕ) (op : Binary) → looseness op ≡ n → of_level n (Some op) ≡ Some op
level_shows n op e = rw (eq-eqb (looseness op) n e) refl

-- a level that is no looser than the next is no looser than this one, or is the next
pub tight_or : (a c : ℕ) → a ≤ suc c → (a ≤ c) ⊎ (a ≡ suc c)
tight_or a c h = grind arith

-- no binary operator is a bracket, a parenthesis or a step
operator_flat : (m : Punct) (op : Binary) → operator_of m ≡ Some op → is_flat (kinds.Punct m) ≡ false
unfolding same_mark
operator_flat marks.Star op h = refl
operator_flat marks.Slash op h = refl
operator_flat marks.Percent op h = refl
operator_flat marks.Plus op h = refl
operator_flat marks.Minus op h = refl
operator_flat marks.ShiftLeft op h = refl
operator_flat marks.ShiftRight op h = refl
operator_flat marks.Less op h = refl
operator_flat marks.Greater op h = refl
operator_flat marks.LessEqual op h = refl
operator_flat marks.GreaterEqual op h = refl
operator_flat marks.Equal op h = refl
operator_flat marks.NotEqual op h = refl
operator_flat marks.And op h = refl
operator_flat marks.Xor op h = refl
operator_flat marks.Or op h = refl
operator_flat marks.AndAnd op h = refl
operator_flat marks.OrOr op h = refl
operator_flat _ op h = absurd cc

kind_flat : (k : TokenKind) (op : Binary) → mark_in operator_of k ≡ Some op → is_flat k ≡ false
kind_flat (kinds.Punct m) op h = operator_flat m op h
kind_flat (kinds.Name n) op h = absurd cc
kind_flat (kinds.Constant v f) op h = absurd cc
kind_flat kinds.Text op h = absurd cc
kind_flat (kinds.Keyword w) op h = absurd cc

flat_operator : (k : Token) (op : Binary) → meant_by operator_of k ≡ Some op → Flat k
unfolding meant_by
flat_operator k op h = flat_of k (kind_flat k.kind op h)

not_level : (n : ℕ) (o : Option Binary) (op : Binary) → o ≡ Some op → n < looseness op → shows (of_level n o) ≡ false
not_level n None op e h = cc
not_level n (Some x) op e h = let is : x ≡ op = cc in rw (is, other_level (looseness op) n h) refl
  where
    other_level : (a b : ℕ) → b < a → (a == b) ≡ false
    other_level a b h = grind arith

-- an operator of a looser level does not continue an expression
goes_apart : (h c : ℕ) (e : Expression) (op : Binary) (k : Token) → meant_by operator_of k ≡ Some op → c < looseness op → goes h c e k ≡ false
unfolding operator_shown
goes_apart h c e op k s l = goes_flat h c e k (flat_operator k op s) (λ n m. not_level n (meant_by operator_of k) op s (omega arith))

module _ (h c : ℕ) (rt rr : Reader Token Expression)
    (tighter : Row (InExpression (suc h) c) rt (goes h c)) (right : 1 < suc h → Row (InExpression h c) rr (goes (below h) c)) where
  join : (t r : Expression) (u v : List Token) (k : Token) (o : Binary) → InExpression (suc h) (suc c) t u → expression_height t < suc h → operator_shown (suc c) k ≡ Some o → InExpression h c r v
      → InExpression (suc h) (suc c) (binary (line_at u) o t r) (u ++ k ∷ v)
  unfolding operator_shown
  join t r u v k o ti low s ri =
      let shown = level_is (suc c) (meant_by operator_of k) o s in
      let loose = shown.1 in
      let a = ti.tight in let b = ri.tight in let d = ri.low in
      record {
        low = omega arith;
        tight = omega arith;
        fits = (omega arith, omega arith, ti.fits, ri.fits);
        spells = (line_leads u (k ∷ v) (some_text t u ti.spells), (u, k ∷ v, refl, ti.spells, (k ∷ [], v, refl, (k, refl, shown.0), ri.spells)));
      }

  joined : (line : ℕ) (op : Binary) (l r : Expression) (u : List Token) → expression_height (binary line op l r) ≤ suc h → looseness op ≡ suc c → FitsExpression (binary line op l r) → SpellsExpression (binary line op l r) u
      → Joined expression_height (operator_shown (suc c)) binary (suc h) line_at (InExpression (suc h) (suc c)) (InExpression h c) (binary line op l r) u
  unfolding operator_shown
  joined line op l r u low loose (fl, fr, fits_l, fits_r) (at, (a, b, same, sl, (o, v, same₂, (k, one, s), sr))) =
      let left_line : line_at a ≡ line = sym (line_leads a b (some_text l a sl)) ∙ ap line_at (sym same) ∙ at in
      let behind : b ≡ k ∷ v = same₂ ∙ ap (λ (z : List Token). z ++ v) one in
      record {
        op = op;
        left = l;
        right = r;
        before = a;
        at = k;
        behind = v;
        is = ap (λ (i : ℕ). binary i op l r) left_line;
        same = same ∙ ap (λ (z : List Token). a ++ z) behind;
        shows = ap (of_level (suc c)) s ∙ level_shows (suc c) op loose;
        left_in = record { low = omega arith; tight = omega arith; fits = fits_l; spells = sl };
        right_in = record { low = omega arith; tight = omega arith; fits = fits_r; spells = sr };
      }

  module _ (small : c < 10) where
    of_tree : (t : Expression) (u : List Token) → expression_height t ≤ suc h → level t ≡ suc c → FitsExpression t → SpellsExpression t u
        → Joined expression_height (operator_shown (suc c)) binary (suc h) line_at (InExpression (suc h) (suc c)) (InExpression h c) t u
    of_tree (binary line op l r) u low same fits spells = joined line op l r u low same fits spells
    of_tree (choose line a b d) u low same fits spells = absurd (omega arith)
    of_tree (assign line op at n j v) u low same fits spells = absurd (omega arith)
    of_tree _ u low same fits spells = absurd (omega arith)

    split : (t : Expression) (u : List Token) → InExpression (suc h) (suc c) t u
        → InExpression (suc h) c t u ⊎ Joined expression_height (operator_shown (suc c)) binary (suc h) line_at (InExpression (suc h) (suc c)) (InExpression h c) t u
    split t u i = by_level (tight_or (level t) c i.tight)
      where
        by_level : (level t ≤ c) ⊎ (level t ≡ suc c) → InExpression (suc h) c t u ⊎ Joined expression_height (operator_shown (suc c)) binary (suc h) line_at (InExpression (suc h) (suc c)) (InExpression h c) t u
        by_level (inl tight) = inl (record { low = i.low; tight = tight; fits = i.fits; spells = i.spells })
        by_level (inr same) = inr (of_tree t u i.low same i.fits i.spells)

    abbrev hang : Expression → Token → Bool
    hang e k = if nat_lt c (level e) then goes (below h) c (right_of e) k else goes h c e k

    not_above : (n : ℕ) → n ≤ c → nat_lt c n ≡ false
    not_above n h = grind arith

    above : (n : ℕ) → n ≡ suc c → nat_lt c n ≡ true
    above n h = grind arith

    apart_by : (e : Expression) (k : Token) (o : Binary) → operator_shown (suc c) k ≡ Some o → hang e k ≡ false
    unfolding operator_shown
    apart_by e k o s =
        let shown = level_is (suc c) (meant_by operator_of k) o s in
        let loose : c < looseness o = (let l = shown.1 in omega arith) in
        rw (goes_apart (below h) c (right_of e) o k shown.0 loose, goes_apart h c e o k shown.0 loose) (same (nat_lt c (level e)))
      where
        same : (a : Bool) → (if a then false else false) ≡ false
        same true = refl
        same false = refl

    shown_level : (d : Token) (o : Binary) → operator_shown (suc c) d ≡ Some o → looseness o ≡ suc c
    unfolding operator_shown
    shown_level d o s = (level_is (suc c) (meant_by operator_of d) o s).1

    pub row_binary : Row (InExpression (suc h) (suc c)) (row_of_operators expression_height (operator_shown (suc c)) binary (suc h) line_at rt rr) (goes h (suc c))
    row_binary = row_level expression_height (operator_shown (suc c)) binary (suc h) line_at (InExpression (suc h) (suc c)) (InExpression (suc h) c) (InExpression h c) rt rr (goes h c) (goes (below h) c) tighter.exact right hang
        tall
        (λ line o a b. omega arith)
        (λ t u i. i.low)
        (λ t u i. record { low = i.low; tight = (let k = i.tight in omega arith); fits = i.fits; spells = i.spells })
        join
        split
        (λ t u v i. line_leads u v (some_text t u i.spells))
        (λ t u k i. rw (not_above (level t) i.tight) refl)
        (λ line o a b k d s. rw (above (looseness o) (shown_level d o s)) refl)
        (λ t u k o i s. apart_by t k o s)
        tighter.some tighter.full
