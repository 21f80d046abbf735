-- The level of unary expressions is read exactly where the parts below it are.
use Rattle.std.proofs.Common.{◌≡◌, ℕ, suc, ◌<◌, ◌≤◌, Bool, true, false, List, [], ◌∷◌, Some, None, refl, sym, ap, subst, ◌∙◌, inl, inr, arith, nat_lt}
use Rattle.std.specs.Prelude.{if◌then◌else◌, ◌⊎◌, ◌&&◌}
use denote.Enum.Bare.{same_true}
use Rattle.std.proofs.lemmas.Bool.{and_parts, lt-ltb, ltb-true}
use Rattle.lz_tree.specs.contracts.token.Keyword as keyword
use Rattle.lz_tree.specs.declared.token.Token.{Token}
use Rattle.lz_tree.specs.declared.token.TokenKind.{TokenKind}
use Rattle.lz_tree.specs.declared.token.TokenKind.TheVariants as kinds
use Rattle.lz_tree.specs.declared.token.Form.{Form}
use Rattle.lz_tree.specs.declared.token.Keyword.{Keyword}
use Rattle.lz_tree.specs.declared.token.Keyword.TheVariants as keys
use Rattle.lz_tree.specs.declared.token.Punct.TheVariants as marks
use Rattle.lz_tree.specs.Languages.{showing, is_key, same_key, mark_shown, key_shown, name_shown, constant_shown, constant_in, ConstantToken, text_shown, text_in, meant_by, line_at}
use Rattle.lz_tree.specs.Spelling.{sign_of, step_of, SpellsExpression}
use Rattle.lz_tree.specs.Trees.{Expression, constant, null, text, object, address, paren, unary, cast, binary, choose, assign, step, call, Index}
use Rattle.lz_tree.specs.Height.{expression_height}
use Rattle.lz_tree.specs.WellFormed.{InExpression, FitsExpression, level}
use Rattle.lz_expr.specs.Reading.{Reader, token, choice}
use Rattle.lz_expr.specs.declared.opening.Opening.{Opening}
use Rattle.lz_expr.specs.declared.opening.Opening.TheVariants as opening
use Rattle.lz_expr.specs.Grammar.{lined_shown, leaf_shown, leaf_of, step_shown, is_object, stepped_before, address_of, named, step_before, addressed, signed, parenthesized, prefix, opening_of, opens}
use Rattle.lz_expr.proofs.RowsLemmas.{Row, made, row_one, row_choice, row_of, heads_token, heads_one}
use Rattle.lz_expr.proofs.TokensLemmas.{token_of, key_kind_is, key_shows, key_is, lined_is, lined_to, lined_from, line_leads, some_shown, no_text}
use Rattle.lz_expr.proofs.GoesLemmas.{below, prefix_goes, class_goes}
use Rattle.lz_expr.proofs.ExpressionsLemmas.{tall, level_small, loose_some, some_text, name_opens, mark_opens, sign_opens, step_opens, target_heads, first_part}
use Rattle.lz_expr.proofs.TargetsLemmas.{Of, is_named}
use Rattle.lz_expr.proofs.PrefixLemmas.{before_text, address_text, signed_text, cast_text, paren_text, parens_text, opens_by, opens_at, row_named, row_before, row_address, row_signed, row_parens}

-- a text of one language or of the other
abbrev pub or_text : (Expression → List Token → Type 0) → (Expression → List Token → Type 0) → Expression → List Token → Type 0
or_text la lb t u = la t u ⊎ lb t u

-- ---- expressions of one token

the_constant : Token
the_constant = token_of (kinds.Constant 0 (record { decimal = true; unsigned = false; longs = 0 }))

constant_leaf : leaf_shown the_constant ≡ Some (constant the_constant.line 0 (record { decimal = true; unsigned = false; longs = 0 }))
unfolding the_constant leaf_shown token_of
constant_leaf = refl

abbrev leaf_text : Expression → List Token → Type 0
leaf_text = showing leaf_shown

-- what a leaf is
record Leafy (h : ℕ) (u : List Token) (t : Expression) : Type 0 where
  inside : InExpression (suc h) 0 t u
  quiet : (c : Token) → prefix_goes h t c ≡ false

constant_at : (c : Token) (v : ℕ) (f : Form) → c.kind ≡ kinds.Constant v f → constant_shown c ≡ Some (record { value = v; form = f })
unfolding constant_shown
constant_at c v f e = ap constant_in e

text_at : (c : Token) → c.kind ≡ kinds.Text → text_shown c ≡ Some c.line
unfolding text_shown
text_at c e = rw e refl

null_at : (c : Token) (w : Keyword) → c.kind ≡ kinds.Keyword w → same_key w keys.Null ≡ true → key_shown keys.Null c ≡ Some c.line
unfolding is_key
null_at c w e h = key_shows keys.Null c (rw e h)

first_line : (c : Token) (u : List Token) → u ≡ c ∷ [] → line_at u ≡ c.line
unfolding line_at
first_line c u one = ap line_at one

leafy_null : (h : ℕ) (u : List Token) (c : Token) (w : Keyword) (q : Bool) → same_key w keys.Null ≡ q → u ≡ c ∷ [] → c.kind ≡ kinds.Keyword w → (t : Expression) → (if q then Some (null c.line) else None) ≡ Some t → Leafy h u t
leafy_null h u c w true s one e t m =
    let is : null c.line ≡ t = cc in
    let made : Leafy h u (null c.line) = record { inside = record { low = omega arith; tight = omega arith; fits = tt; spells = (c, one, null_at c w e s) }; quiet = λ d. refl } in
    subst (λ (x : Expression). Leafy h u x) is made
leafy_null h u c w false s one e t m = absurd cc

leafy_by : (h : ℕ) (u : List Token) (c : Token) (k : TokenKind) → u ≡ c ∷ [] → c.kind ≡ k → (t : Expression) → leaf_of c.line k ≡ Some t → Leafy h u t
leafy_by h u c (kinds.Constant v f) one e t m =
    let is : constant c.line v f ≡ t = cc in
    let made : Leafy h u (constant c.line v f) = record { inside = record { low = omega arith; tight = omega arith; fits = tt; spells = (first_line c u one, (c, one, constant_at c v f e)) }; quiet = λ d. refl } in
    subst (λ (x : Expression). Leafy h u x) is made
leafy_by h u c kinds.Text one e t m =
    let is : text c.line ≡ t = cc in
    let made : Leafy h u (text c.line) = record { inside = record { low = omega arith; tight = omega arith; fits = tt; spells = (c, one, text_at c e) }; quiet = λ d. refl } in
    subst (λ (x : Expression). Leafy h u x) is made
leafy_by h u c (kinds.Keyword w) one e t m = leafy_null h u c w (same_key w keys.Null) refl one e t m
leafy_by h u c (kinds.Name n) one e t m = absurd cc
leafy_by h u c (kinds.Punct p) one e t m = absurd cc

leafy : (h : ℕ) (u : List Token) (t : Expression) → leaf_text t u → Leafy h u t
unfolding leaf_shown
leafy h u t (c, one, m) = leafy_by h u c c.kind one refl t m

constant_kind : (k : TokenKind) (x : ConstantToken) → constant_in k ≡ Some x → k ≡ kinds.Constant x.value x.form
constant_kind (kinds.Constant v f) x h =
    let is : record { value = v; form = f } ≡ x = cc in ap (λ (y : ConstantToken). kinds.Constant y.value y.form) is
constant_kind (kinds.Name n) x h = absurd cc
constant_kind kinds.Text x h = absurd cc
constant_kind (kinds.Keyword w) x h = absurd cc
constant_kind (kinds.Punct p) x h = absurd cc

text_kind : (k : TokenKind) (l x : ℕ) → text_in k l ≡ Some x → (k ≡ kinds.Text) × (l ≡ x)
text_kind kinds.Text l x h = let is : l ≡ x = cc in (refl, is)
text_kind (kinds.Constant v f) l x h = absurd cc
text_kind (kinds.Name n) l x h = absurd cc
text_kind (kinds.Keyword w) l x h = absurd cc
text_kind (kinds.Punct p) l x h = absurd cc

constant_back : (line v : ℕ) (f : Form) (u : List Token) → SpellsExpression (constant line v f) u → leaf_text (constant line v f) u
unfolding constant_shown leaf_shown line_at
constant_back line v f u (at, (c, one, s)) =
    let kind : c.kind ≡ kinds.Constant v f = constant_kind c.kind (record { value = v; form = f }) s in
    let l : c.line ≡ line = sym (ap line_at one) ∙ at in
    (c, one, rw kind (ap (λ (x : ℕ). Some (constant x v f)) l))

text_back : (line : ℕ) (u : List Token) → SpellsExpression (text line) u → leaf_text (text line) u
unfolding text_shown leaf_shown
text_back line u (c, one, s) = let k = text_kind c.kind c.line line s in (c, one, rw k.0 (ap (λ (x : ℕ). Some (text x)) k.1))

null_line : (c : Token) (line : ℕ) → key_shown keys.Null c ≡ Some line → c.line ≡ line
null_line c line s = let e : Some c.line ≡ Some line = sym (key_shows keys.Null c (key_is keys.Null c line s)) ∙ s in cc

null_back : (line : ℕ) (u : List Token) → SpellsExpression (null line) u → leaf_text (null line) u
unfolding leaf_shown same_key
null_back line u (c, one, s) = (c, one, rw (key_kind_is keys.Null c line s) (ap (λ (x : ℕ). Some (null x)) (null_line c line s)))

null_opening : (line : ℕ) (t : Expression) (w : Keyword) (q : Bool) → same_key w keys.Null ≡ q → (if q then Some (null line) else None) ≡ Some t → opening_of (kinds.Keyword w) ≡ opening.Leaf
unfolding same_key
null_opening line t w true e h = ap (λ (x : Keyword). opening_of (kinds.Keyword x)) (same_true keyword.the_type tt w keys.Null e)
null_opening line t w false e h = absurd cc

leaf_opening : (line : ℕ) (k : TokenKind) (t : Expression) → leaf_of line k ≡ Some t → opening_of k ≡ opening.Leaf
leaf_opening line (kinds.Constant v f) t h = refl
leaf_opening line kinds.Text t h = refl
leaf_opening line (kinds.Keyword w) t h = null_opening line t w (same_key w keys.Null) refl h
leaf_opening line (kinds.Name n) t h = absurd cc
leaf_opening line (kinds.Punct p) t h = absurd cc

leaf_opens : (t : Expression) (c : Token) (u : List Token) → leaf_text t (c ∷ u) → opening_of c.kind ≡ opening.Leaf
unfolding leaf_shown
leaf_opens t c u m = leaf_opening c.line c.kind t (heads_one leaf_shown t c u m)

module _ (h : ℕ) (inner : ℕ → Reader Token Expression) (rows : 0 < h → (c : ℕ) → c ≤ 12 → Row (InExpression h c) (inner c) (class_goes (below h) c)) where
  leaf_row : Row leaf_text (token leaf_shown) (prefix_goes h)
  leaf_row = row_of leaf_text (token leaf_shown) (λ _ _. false) (prefix_goes h) (row_one leaf_shown the_constant _ constant_leaf) leaf_text (λ t u m. m) (λ t u m. m) (λ t u c m. (leafy h u t m).quiet c)

  -- ---- each form begins with its own tokens

  named_opens : (t : Expression) (c : Token) (u : List Token) → Of is_named h t (c ∷ u) → opening_of c.kind ≡ opening.Name
  named_opens (object line n i) c u m = target_heads line n i c u m.1.spells
  named_opens (call line n args) c u m = call_opens c u m.1.spells
    where
      call_opens : (c : Token) (u : List Token) → SpellsExpression (call line n args) (c ∷ u) → opening_of c.kind ≡ opening.Name
      call_opens c u (at, s) = first_part (λ d. opening_of d.kind ≡ opening.Name) c u s (λ v m. some_shown name_shown n v m) (λ v m. name_opens c n (heads_one name_shown n c v m))
  named_opens (step line at n i up false) c u m = step_first c u m.1.spells
    where
      step_first : (c : Token) (u : List Token) → SpellsExpression (step line at n i up false) (c ∷ u) → opening_of c.kind ≡ opening.Name
      step_first c u (l, s) = first_part (λ d. opening_of d.kind ≡ opening.Name) c u s (λ v m. some_text (object at n i) v m) (λ v m. target_heads at n i c v m)
  named_opens (step line at n i up true) c u m = let no = m.0 in absurd cc
  named_opens _ c u m = let no = m.0 in absurd cc

  before_opens : (t : Expression) (c : Token) (u : List Token) → before_text h inner rows t (c ∷ u) → opening_of c.kind ≡ opening.Step
  before_opens t c u m = let s = heads_token step_shown (λ s. made (stepped_before s) (Of is_object h)) t c u m in step_opens c s.0.1 (lined_is (meant_by step_of) c s.0.0 s.0.1 s.1).1

  address_opens : (t : Expression) (c : Token) (u : List Token) → address_text h inner rows t (c ∷ u) → opening_of c.kind ≡ opening.Address
  address_opens t c u m = let s = heads_token (mark_shown marks.And) (λ line. made (address_of line) (Of is_object h)) t c u m in mark_opens marks.And c s.0 s.1

  signed_opens : (t : Expression) (c : Token) (u : List Token) → signed_text h inner rows t (c ∷ u) → opening_of c.kind ≡ opening.Sign
  signed_opens t c u m =
      let s = heads_token (lined_shown (meant_by sign_of)) (λ s. made (unary s.0 s.1) (InExpression h 0)) t c u m in sign_opens c s.0.1 (lined_is (meant_by sign_of) c s.0.0 s.0.1 s.1).1

  parens_opens : (t : Expression) (c : Token) (u : List Token) → parens_text h inner rows t (c ∷ u) → opening_of c.kind ≡ opening.Paren
  parens_opens t c u m = let s = heads_token (mark_shown marks.OpenParen) (λ line t u. cast_text h inner rows line t u ⊎ paren_text h inner rows line t u) t c u m in mark_opens marks.OpenParen c s.0 s.1

  signed_room : (t : Expression) (u : List Token) → signed_text h inner rows t u → 0 < h
  signed_room t u (s, (a, b, same, sign, (e, is, e_in))) = let high = tall e in let low = e_in.low in omega arith

  parens_room : (t : Expression) (u : List Token) → parens_text h inner rows t u → 0 < h
  parens_room t u (line, (a, b, same, paren_mark, inl (to, (a₂, b₂, same₂, type, (m, (a₃, b₃, same₃, close, (e, is, e_in))))))) = let high = tall e in let low = e_in.low in omega arith
  parens_room t u (line, (a, b, same, paren_mark, inr (e, (a₂, b₂, same₂, e_in, m)))) = let high = tall e in let low = e_in.low in omega arith

  -- ---- the forms, tightest choice last

  abbrev named_or : Expression → List Token → Type 0
  named_or = or_text (Of is_named h) leaf_text

  abbrev before_or : Expression → List Token → Type 0
  before_or = or_text (before_text h inner rows) named_or

  abbrev address_or : Expression → List Token → Type 0
  address_or = or_text (address_text h inner rows) before_or

  abbrev signed_or : Expression → List Token → Type 0
  signed_or = or_text (signed_text h inner rows) address_or

  abbrev all_forms : Expression → List Token → Type 0
  all_forms = or_text (parens_text h inner rows) signed_or

  row_named_or : Row named_or (choice (opens opening.Name) (named inner h) (token leaf_shown)) (prefix_goes h)
  row_named_or = row_choice (opens opening.Name) (Of is_named h) leaf_text (named inner h) (token leaf_shown) (prefix_goes h) (λ c p. row_named h inner rows) leaf_row named_or (λ t u m. inl m) (λ t u m. inr m) (λ t u m. m)
      (row_named h inner rows).full
      (λ t c u m. opens_at opening.Name opening.Name c (named_opens t c u m))
      (λ t c u m. opens_at opening.Leaf opening.Name c (leaf_opens t c u m))

  opens_named : (p : Opening) (t : Expression) (c : Token) (u : List Token) → opens_by opening.Name p ≡ false → opens_by opening.Leaf p ≡ false → named_or t (c ∷ u) → opens p c ≡ false
  opens_named p t c u a b (inl m) = opens_at opening.Name p c (named_opens t c u m) ∙ a
  opens_named p t c u a b (inr m) = opens_at opening.Leaf p c (leaf_opens t c u m) ∙ b

  row_before_or : Row before_or (choice (opens opening.Step) (step_before inner h) (choice (opens opening.Name) (named inner h) (token leaf_shown))) (prefix_goes h)
  row_before_or = row_choice (opens opening.Step) (before_text h inner rows) named_or (step_before inner h) (choice (opens opening.Name) (named inner h) (token leaf_shown)) (prefix_goes h) (λ c p. row_before h inner rows) row_named_or
      before_or (λ t u m. inl m) (λ t u m. inr m) (λ t u m. m)
      (row_before h inner rows).full
      (λ t c u m. opens_at opening.Step opening.Step c (before_opens t c u m))
      (λ t c u m. opens_named opening.Step t c u refl refl m)

  opens_before : (p : Opening) (t : Expression) (c : Token) (u : List Token) → opens_by opening.Step p ≡ false → opens_by opening.Name p ≡ false → opens_by opening.Leaf p ≡ false → before_or t (c ∷ u) → opens p c ≡ false
  opens_before p t c u a b d (inl m) = opens_at opening.Step p c (before_opens t c u m) ∙ a
  opens_before p t c u a b d (inr m) = opens_named p t c u b d m

  abbrev from_step : Reader Token Expression
  from_step = choice (opens opening.Step) (step_before inner h) (choice (opens opening.Name) (named inner h) (token leaf_shown))

  row_address_or : Row address_or (choice (opens opening.Address) (addressed inner h) from_step) (prefix_goes h)
  row_address_or = row_choice (opens opening.Address) (address_text h inner rows) before_or (addressed inner h) from_step (prefix_goes h) (λ c p. row_address h inner rows) row_before_or address_or (λ t u m. inl m) (λ t u m. inr m) (λ t u m. m)
      (row_address h inner rows).full
      (λ t c u m. opens_at opening.Address opening.Address c (address_opens t c u m))
      (λ t c u m. opens_before opening.Address t c u refl refl refl m)

  opens_address : (p : Opening) (t : Expression) (c : Token) (u : List Token) → opens_by opening.Address p ≡ false → opens_by opening.Step p ≡ false → opens_by opening.Name p ≡ false → opens_by opening.Leaf p ≡ false
      → address_or t (c ∷ u) → opens p c ≡ false
  opens_address p t c u a b d e (inl m) = opens_at opening.Address p c (address_opens t c u m) ∙ a
  opens_address p t c u a b d e (inr m) = opens_before p t c u b d e m

  abbrev from_address : Reader Token Expression
  from_address = choice (opens opening.Address) (addressed inner h) from_step

  signed_full : (t : Expression) → signed_text h inner rows t [] → ⊥
  signed_full t (s, (a, b, same, sign, m)) = no_text a b same (some_shown (lined_shown (meant_by sign_of)) s a sign)

  parens_full : (t : Expression) → parens_text h inner rows t [] → ⊥
  parens_full t (line, (a, b, same, paren_mark, m)) = no_text a b same (some_shown (mark_shown marks.OpenParen) line a paren_mark)

  row_signed_or : Row signed_or (choice (λ c. opens opening.Sign c && nat_lt 0 h) (signed inner h) from_address) (prefix_goes h)
  row_signed_or = row_choice (λ c. opens opening.Sign c && nat_lt 0 h) (signed_text h inner rows) address_or (signed inner h) from_address (prefix_goes h)
      (λ c p. row_signed h inner rows (ltb-true 0 h (and_parts (opens opening.Sign c) (nat_lt 0 h) p).1)) row_address_or signed_or (λ t u m. inl m) (λ t u m. inr m) (λ t u m. m)
      signed_full
      (λ t c u m. rw (opens_at opening.Sign opening.Sign c (signed_opens t c u m), lt-ltb 0 h (signed_room t (c ∷ u) m)) refl)
      (λ t c u m. rw (opens_address opening.Sign t c u refl refl refl refl m) refl)

  abbrev from_sign : Reader Token Expression
  from_sign = choice (λ c. opens opening.Sign c && nat_lt 0 h) (signed inner h) from_address

  opens_sign : (t : Expression) (c : Token) (u : List Token) → signed_or t (c ∷ u) → opens opening.Paren c ≡ false
  opens_sign t c u (inl m) = opens_at opening.Sign opening.Paren c (signed_opens t c u m)
  opens_sign t c u (inr m) = opens_address opening.Paren t c u refl refl refl refl m

  row_all : Row all_forms (choice (λ c. opens opening.Paren c && nat_lt 0 h) (parenthesized inner h) from_sign) (prefix_goes h)
  row_all = row_choice (λ c. opens opening.Paren c && nat_lt 0 h) (parens_text h inner rows) signed_or (parenthesized inner h) from_sign (prefix_goes h)
      (λ c p. row_parens h inner rows (ltb-true 0 h (and_parts (opens opening.Paren c) (nat_lt 0 h) p).1)) row_signed_or all_forms (λ t u m. inl m) (λ t u m. inr m) (λ t u m. m)
      parens_full
      (λ t c u m. rw (opens_at opening.Paren opening.Paren c (parens_opens t c u m), lt-ltb 0 h (parens_room t (c ∷ u) m)) refl)
      (λ t c u m. rw (opens_sign t c u m) refl)

  -- ---- the forms are the unary expressions

  before_in : (t : Expression) (u : List Token) → before_text h inner rows t u → InExpression (suc h) 0 t u
  before_in t u (s, (a, b, same, sign, (e, is, e_of))) = by_object e is e_of
    where
      of_object : (at n : ℕ) (i : Index) → InExpression (suc h) 0 (object at n i) b → InExpression (suc h) 0 (step s.0 at n i s.1 true) u
      of_object at n i m =
          let l = lined_to (meant_by step_of) s.0 s.1 a sign in
          record {
            low = m.low;
            tight = omega arith;
            fits = m.fits;
            spells = (ap line_at same ∙ line_leads a b (some_shown step_shown s a sign) ∙ l.0, (a, b, same, l.1, m.spells));
          }

      by_object : (e : Expression) → stepped_before s e ≡ t → Of is_object h e b → InExpression (suc h) 0 t u
      by_object (object at n i) is m = subst (λ (x : Expression). InExpression (suc h) 0 x u) is (of_object at n i m.1)
      by_object _ is m = let no = m.0 in absurd cc

  address_in : (t : Expression) (u : List Token) → address_text h inner rows t u → InExpression (suc h) 0 t u
  address_in t u (line, (a, b, same, mark, (e, is, e_of))) = by_object e is e_of
    where
      of_object : (at n : ℕ) (i : Index) → InExpression (suc h) 0 (object at n i) b → InExpression (suc h) 0 (address line at n i) u
      of_object at n i m = record { low = m.low; tight = omega arith; fits = m.fits; spells = (a, b, same, mark, m.spells) }

      by_object : (e : Expression) → address_of line e ≡ t → Of is_object h e b → InExpression (suc h) 0 t u
      by_object (object at n i) is m = subst (λ (x : Expression). InExpression (suc h) 0 x u) is (of_object at n i m.1)
      by_object _ is m = let no = m.0 in absurd cc

  signed_in : (t : Expression) (u : List Token) → signed_text h inner rows t u → InExpression (suc h) 0 t u
  signed_in t u (s, (a, b, same, sign, (e, is, m))) =
      let l = lined_to (meant_by sign_of) s.0 s.1 a sign in
      let made : InExpression (suc h) 0 (unary s.0 s.1 e) u = record {
        low = (let x = m.low in omega arith);
        tight = omega arith;
        fits = ((let x = m.tight in omega arith), m.fits);
        spells = (ap line_at same ∙ line_leads a b (some_shown (lined_shown (meant_by sign_of)) s a sign) ∙ l.0, (a, b, same, l.1, m.spells));
      } in
      subst (λ (x : Expression). InExpression (suc h) 0 x u) is made

  parens_in : (t : Expression) (u : List Token) → parens_text h inner rows t u → InExpression (suc h) 0 t u
  parens_in t u (line, (a, b, same, paren_mark, inl (to, (a₂, b₂, same₂, type, (k, (a₃, b₃, same₃, close, (e, is, m))))))) =
      let made : InExpression (suc h) 0 (cast line to e) u = record {
        low = (let x = m.low in omega arith);
        tight = omega arith;
        fits = (type.0, (let x = m.tight in omega arith), m.fits);
        spells = (a, b, same, paren_mark, (a₂, b₂, same₂, type.1, (a₃, b₃, same₃, (k, close), m.spells)));
      } in
      subst (λ (x : Expression). InExpression (suc h) 0 x u) is made
  parens_in t u (line, (a, b, same, paren_mark, inr (e, (a₂, b₂, same₂, m, (k, is, close))))) =
      let made : InExpression (suc h) 0 (paren line e) u = record {
        low = (let x = m.low in omega arith);
        tight = omega arith;
        fits = m.fits;
        spells = (a, b, same, paren_mark, (a₂, b₂, same₂, m.spells, (k, close)));
      } in
      subst (λ (x : Expression). InExpression (suc h) 0 x u) is made

  form_in : (t : Expression) (u : List Token) → all_forms t u → InExpression (suc h) 0 t u
  form_in t u (inl m) = parens_in t u m
  form_in t u (inr (inl m)) = signed_in t u m
  form_in t u (inr (inr (inl m))) = address_in t u m
  form_in t u (inr (inr (inr (inl m)))) = before_in t u m
  form_in t u (inr (inr (inr (inr (inl m))))) = m.1
  form_in t u (inr (inr (inr (inr (inr m))))) = (leafy h u t m).inside

  as_leaf : (t : Expression) (u : List Token) → leaf_text t u → all_forms t u
  as_leaf t u m = inr (inr (inr (inr (inr m))))

  as_named : (t : Expression) (u : List Token) → is_named t ≡ true → InExpression (suc h) 0 t u → all_forms t u
  as_named t u q m = inr (inr (inr (inr (inl (q, m)))))

  form_back : (t : Expression) (u : List Token) → expression_height t ≤ suc h → level t ≤ 0 → FitsExpression t → SpellsExpression t u → InExpression (suc h) 0 t u → all_forms t u
  form_back (constant line v f) u low tight fits s m = as_leaf _ u (constant_back line v f u s)
  form_back (null line) u low tight fits s m = as_leaf _ u (null_back line u s)
  form_back (text line) u low tight fits s m = as_leaf _ u (text_back line u s)
  form_back (object line n i) u low tight fits s m = as_named _ u refl m
  form_back (call line n args) u low tight fits s m = as_named _ u refl m
  form_back (step line at n i up false) u low tight fits s m = as_named _ u refl m
  form_back (step line at n i up true) u low tight fits (l, (a, b, same, sign, target)) m =
      inr (inr (inr (inl (
        (line, up),
        (
          a,
          b,
          same,
          lined_from (meant_by step_of) line up a (sym (line_leads a b (some_shown (meant_by step_of) up a sign)) ∙ ap line_at (sym same) ∙ l) sign,
          (object at n i, refl, (refl, record { low = low; tight = omega arith; fits = fits; spells = target })),
        ),
      ))))
  form_back (address line at n i) u low tight fits (a, b, same, mark, target) m =
      inr (inr (inl (line, (a, b, same, mark, (object at n i, refl, (refl, record { low = low; tight = omega arith; fits = fits; spells = target }))))))
  form_back (unary line op e) u low tight fits (l, (a, b, same, sign, s)) m =
      inr (inl (
        (line, op),
        (
          a,
          b,
          same,
          lined_from (meant_by sign_of) line op a (sym (line_leads a b (some_shown (meant_by sign_of) op a sign)) ∙ ap line_at (sym same) ∙ l) sign,
          (e, refl, record { low = omega arith; tight = (let x = fits.0 in omega arith); fits = fits.1; spells = s }),
        ),
      ))
  form_back (cast line to e) u low tight fits (a, b, same, paren_mark, (a₂, b₂, same₂, type, (a₃, b₃, same₃, (k, close), s))) m =
      inl (line, (a, b, same, paren_mark, inl (to, (a₂, b₂, same₂, (fits.0, type), (k, (a₃, b₃, same₃, close, (e, refl, record { low = omega arith; tight = (let x = fits.1 in omega arith); fits = fits.2; spells = s })))))))
  form_back (paren line e) u low tight fits (a, b, same, paren_mark, (a₂, b₂, same₂, s, (k, close))) m =
      inl (line, (a, b, same, paren_mark, inr (e, (a₂, b₂, same₂, record { low = omega arith; tight = level_small e; fits = fits; spells = s }, (k, refl, close)))))
  form_back (binary line op l r) u low tight fits s m = let some = loose_some op in absurd (omega arith)
  form_back (choose line x y z) u low tight fits s m = absurd (omega arith)
  form_back (assign line op at n i v) u low tight fits s m = absurd (omega arith)

  pub row_unary : Row (InExpression (suc h) 0) (prefix inner h) (prefix_goes h)
  unfolding prefix choice
  row_unary = row_of all_forms (choice (λ c. opens opening.Paren c && nat_lt 0 h) (parenthesized inner h) from_sign) (prefix_goes h) (prefix_goes h) row_all (InExpression (suc h) 0) form_in
      (λ t u m. form_back t u m.low m.tight m.fits m.spells m) (λ t u c m. refl)
