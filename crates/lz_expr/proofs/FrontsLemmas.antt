-- What an exact reader's answer says of the tokens from a place on: where the front ends, and what it spells.
use Rattle.std.proofs.Common.{◌≡◌, ℕ, zero, suc, ◌+◌, ◌-◌, ◌<◌, ◌≤◌, Bool, List, [], ◌∷◌, ◌++◌, length, take, drop, refl, sym, ap, subst, ◌∙◌, append_assoc, append-nil, arith, length-append, length-drop, slice_range}
use Rattle.std.proofs.lemmas.List.{take_at, take_rest}
use Rattle.lz_tree.specs.declared.token.Token.{Token}
use Rattle.lz_tree.specs.Trees.{Expression}
use Rattle.lz_tree.specs.WellFormed.{InExpression}
use Rattle.lz_expr.specs.Fronts.{Viable, IsFront}
use Rattle.lz_expr.specs.Reading.{Outcome, gives, refused, Reader}
use Rattle.lz_expr.specs.Grammar.{expr}
use Rattle.lz_expr.proofs.ExactLemmas.{Refused, Exact}
use Rattle.lz_expr.proofs.WholeLemmas.{unique, refused_there, refused_front, found_there}
use Rattle.lz_expr.proofs.GoesLemmas.{below, class_goes}
use Rattle.lz_expr.proofs.ExpressionsLemmas.{tall}
use Rattle.lz_expr.proofs.HeightsLemmas.{row_expression}

module _ (list : List Token) (from : ℕ) (read left : List Token) (same : drop from list ≡ read ++ left) (inside : from ≤ length list) where
  total : length list - from ≡ length read + length left
  total = sym (length-drop from list) ∙ ap length same ∙ length-append read left

  abbrev at : ℕ
  at = length list - length left

  pub after : from ≤ at
  after = let t = total in omega arith

  pub within : at ≤ length list
  within = omega arith

  wide : at - from ≡ length read
  wide = let t = total in omega arith

  pub here : slice_range list from at ≡ read
  here = rw wide (rw same (take_at read left (length read) refl))

  wider : (c : Token) (r : List Token) → left ≡ c ∷ r → at + 1 - from ≡ length (read ++ c ∷ [])
  wider c r is = let t = total in let n : length left ≡ suc (length r) = ap length is in let m : length (read ++ c ∷ []) ≡ length read + 1 = length-append read (c ∷ []) in omega arith

  pub next : (c : Token) (r : List Token) → left ≡ c ∷ r → slice_range list from (at + 1) ≡ read ++ c ∷ []
  next c r is =
      let texts : drop from list ≡ (read ++ c ∷ []) ++ r = same ∙ ap (λ (w : List Token). read ++ w) is ∙ sym (append_assoc read (c ∷ []) r) in
      rw (wider c r is) (rw texts (take_at (read ++ c ∷ []) r (length (read ++ c ∷ [])) refl))

  pub more : at < length list → (c : Token) × (r : List Token) × (left ≡ c ∷ r)
  more h = by_left left refl
    where
      by_left : (w : List Token) → left ≡ w → (c : Token) × (r : List Token) × (left ≡ c ∷ r)
      by_left [] is = let n : length left ≡ 0 = ap length is in absurd (omega arith)
      by_left (c ∷ r) is = (c, r, is)

module _ {T : Type 0} (l : T → List Token → Type 0) (run : Reader Token T) (g : T → Token → Bool) (a : Exact l run g) (list : List Token) (from : ℕ) (inside : from ≤ length list) where
  -- an answer is spelled by the front
  pub front_found : (t : T) (left : List Token) → run (drop from list) ≡ gives t left → (length left ≤ length list) × IsFront l list from (length list - length left) × l t (slice_range list from (length list - length left))
  front_found t left h =
      let f = a.sound (drop from list) t left h in
      let w : length list - from ≡ length f.read + length left = total list from f.read left f.same inside in
      let is = here list from f.read left f.same inside in (
        omega arith,
        record {
          after = after list from f.read left f.same inside;
          within = within list from f.read left f.same inside;
          begins = (t, [], subst (λ (w : List Token). l t w) (sym (append-nil (slice_range list from (length list - length left)))) (subst (λ (w : List Token). l t w) (sym is) f.spells));
          longest = λ some v.
              let m = more list from f.read left f.same inside some in
              found_there l run g a (drop from list) t left f m.0 m.1 m.2 (subst (λ (w : List Token). Viable l w) (next list from f.read left f.same inside m.0 m.1 m.2) v);
        },
        subst (λ (w : List Token). l t w) (sym is) f.spells,
      )

  -- a refusal is where the front ends, which spells nothing
  pub front_refused : (n : ℕ) → run (drop from list) ≡ refused n → (n ≤ length list) × IsFront l list from (length list - n) × ((t : T) → l t (slice_range list from (length list - n)) → ⊥)
  front_refused n h =
      let f = a.refuses (drop from list) n h in
      let P : ℕ → Type 0 = λ m. (m ≤ length list) × IsFront l list from (length list - m) × ((t : T) → l t (slice_range list from (length list - m)) → ⊥) in
      subst P (sym f.count) (refused_left n h f)
    where
      refused_left : (n : ℕ) → run (drop from list) ≡ refused n → (f : Refused l run (drop from list) n)
          → (length f.left ≤ length list) × IsFront l list from (length list - length f.left) × ((t : T) → l t (slice_range list from (length list - length f.left)) → ⊥)
      refused_left n h f =
          let w : length list - from ≡ length f.read + length f.left = total list from f.read f.left f.same inside in
          let is = here list from f.read f.left f.same inside in (
            omega arith,
            record {
              after = after list from f.read f.left f.same inside;
              within = within list from f.read f.left f.same inside;
              begins = subst (λ (w : List Token). Viable l w) (sym is) f.viable;
              longest = λ some v.
                  let m = more list from f.read f.left f.same inside some in
                  refused_there l run g a (drop from list) n f m.0 m.1 m.2 (subst (λ (w : List Token). Viable l w) (next list from f.read f.left f.same inside m.0 m.1 m.2) v);
            },
            λ t m. refused_front l run g a (drop from list) n f t h (subst (λ (w : List Token). l t w) is m),
          )

-- expressions of a class and a height that is not 0 are read exactly
pub exact_at : (h c : ℕ) → 0 < h → c ≤ 12 → Exact (InExpression h c) (expr h c) (class_goes (below h) c)
exact_at zero c some l = absurd (omega arith)
exact_at (suc h) c some l = (row_expression h c l).exact

-- no two expressions spell the same tokens
pub one : (h : ℕ) (e f : Expression) (ts : List Token) → InExpression h 12 e ts → InExpression h 12 f ts → e ≡ f
one h e f ts m n = let high = tall e in let low = m.low in unique (InExpression h 12) (expr h 12) (class_goes (below h) 12) (exact_at h 12 (omega arith) (omega arith)) e f ts m n

-- what is read of the items from a place on is read of the tokens from there
pub read_rest : (h c : ℕ) (items list : List Token) (from : ℕ) (o : Outcome Token Expression) → items ≡ list → expr h c (take (length items - from) (drop from items)) ≡ o → expr h c (drop from list) ≡ o
read_rest h c items list from o same e = ap (λ (xs : List Token). expr h c (drop from xs)) (sym same) ∙ ap (expr h c) (sym (take_rest items from)) ∙ e

pub expression_found : (h c : ℕ) (list : List Token) (from : ℕ) (e : Expression) (left : List Token) → 0 < h → c ≤ 12 → from ≤ length list → expr h c (drop from list) ≡ gives e left
    → (length left ≤ length list) × IsFront (InExpression h c) list from (length list - length left) × InExpression h c e (slice_range list from (length list - length left))
expression_found h c list from e left some small inside read = front_found (InExpression h c) (expr h c) (class_goes (below h) c) (exact_at h c some small) list from inside e left read

pub expression_refused : (h c : ℕ) (list : List Token) (from n : ℕ) → 0 < h → c ≤ 12 → from ≤ length list → expr h c (drop from list) ≡ refused n
    → (n ≤ length list) × IsFront (InExpression h c) list from (length list - n) × ((e : Expression) → InExpression h c e (slice_range list from (length list - n)) → ⊥)
expression_refused h c list from n some small inside read = front_refused (InExpression h c) (expr h c) (class_goes (below h) c) (exact_at h c some small) list from inside n read
