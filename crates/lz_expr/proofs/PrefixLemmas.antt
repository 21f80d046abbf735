-- Unary expressions are read exactly where their parts are.
use Rattle.std.proofs.Common.{◌≡◌, ℕ, suc, ◌<◌, ◌≤◌, Bool, true, false, List, [], ◌∷◌, ◌++◌, Some, None, refl, sym, ap, subst, ◌∙◌, inl, inr, arith, nat_lt}
use Rattle.std.specs.Prelude.{if◌then◌else◌, ◌⊎◌, ◌&&◌, ◌||◌}
use Rattle.std.proofs.Math.Bool.{or-true}
use Rattle.lz_tree.specs.declared.token.Token.{Token}
use Rattle.lz_tree.specs.declared.token.TokenKind.{TokenKind}
use Rattle.lz_tree.specs.declared.token.TokenKind.TheVariants as kinds
use Rattle.lz_tree.specs.declared.token.Form.{Form}
use Rattle.lz_tree.specs.declared.token.Keyword.{Keyword}
use Rattle.lz_tree.specs.declared.token.Keyword.TheVariants as keys
use Rattle.lz_tree.specs.declared.token.Punct.{Punct}
use Rattle.lz_tree.specs.declared.token.Punct.TheVariants as marks
use Rattle.lz_base.specs.declared.operator.Unary.TheVariants as signs
use Rattle.lz_tree.specs.declared.expression.TypeName.{TypeName}
use Rattle.lz_tree.specs.declared.expression.TypeName.TheVariants as types
use Rattle.lz_tree.specs.Languages.{showing, is_mark, is_key, same_key, mark_shown, key_shown, meant_by, line_at}
use Rattle.lz_tree.specs.Spelling.{sign_of, step_of, type_kinds, kinds_of, SpellsType, SpellsExpression}
use Rattle.lz_tree.specs.Trees.{Expression, object, paren, unary, cast, step, call, Index, whole, element}
use Rattle.lz_tree.specs.Height.{index_height}
use Rattle.lz_tree.specs.WellFormed.{InExpression, FitsIndex, may_cast_to}
use Rattle.lz_expr.specs.Reading.{Reader, ◌>>=◌, pure, token, starts, shows, choice}
use Rattle.lz_expr.specs.declared.opening.Opening.{Opening}
use Rattle.lz_expr.specs.contracts.opening.Opening as the_opening
use denote.Enum.Bare.{sameb}
use Rattle.std.proofs.lemmas.Bool.{false_from_ne_true}
use Rattle.lz_expr.specs.Grammar.{mark, lined_shown, sign, step_shown, is_object, stepped, stepped_before, address_of, key_in, key_meant, integer_key, grow, grow_by, void_pointer, integer_type, cast_type, begins_type, target, called_or_not, step_behind, named, step_before, addressed, signed, cast_from, paren_from, parenthesized, opening_of, opening_key, opens}
use Rattle.lz_expr.proofs.RowsLemmas.{Row, made, along, row_one, row_last, row_token, row_part, row_close, row_choice, heads_token, heads_made, begins_made}
use Rattle.lz_expr.proofs.TailLemmas.{Extended, row_tail}
use Rattle.lz_expr.proofs.TokensLemmas.{the_mark, the_mark_shows, the_key, the_key_shows, token_of, mark_kind_is, key_is, key_shows, key_kind_is, is_key_is, is_key_of, is_mark_of, mark_shows, lined_to, lined_from, lined_shows, shows_some, some_shows, line_leads, some_shown, no_text}
use Rattle.lz_expr.proofs.GoesLemmas.{below, target_goes, called_goes, prefix_goes, class_goes, close_paren_stops}
use Rattle.lz_expr.proofs.TypesLemmas.{is_integer, integer_text, row_integer, type_goes}
use Rattle.lz_expr.proofs.ExpressionsLemmas.{some_text, heads, is_opening, first_part}
use Rattle.lz_expr.proofs.TargetsLemmas.{Of, is_called, is_named, row_target, row_called, step_no_mark}

-- ---- types that a cast may name

abbrev pub cast_types : TypeName → List Token → Type 0
cast_types t u = (may_cast_to t ≡ true) × SpellsType t u

abbrev pub pointer_text : TypeName → List Token → Type 0
pointer_text = along (showing (key_shown keys.Void)) (λ v. made (λ s. types.VoidPointer) (showing (mark_shown marks.Star)))

pointer_still : (k : TokenKind) → grow_by types.VoidPointer k ≡ None
pointer_still (kinds.Keyword w) = refl
pointer_still (kinds.Punct m) = refl
pointer_still (kinds.Name n) = refl
pointer_still (kinds.Constant v f) = refl
pointer_still kinds.Text = refl

pointer_goes : (c : Token) → type_goes types.VoidPointer c ≡ false
unfolding grow
pointer_goes c = ap shows (pointer_still c.kind)

star_row : Row (made (λ s. types.VoidPointer) (showing (mark_shown marks.Star))) (mark marks.Star >>= (λ s. pure types.VoidPointer)) type_goes
star_row = row_last (showing (mark_shown marks.Star)) (mark marks.Star) (λ _ _. false) (λ s. types.VoidPointer) type_goes (row_one (mark_shown marks.Star) (the_mark marks.Star) _ (the_mark_shows marks.Star)) (λ x u c m. pointer_goes c)

pointer_row : Row pointer_text void_pointer type_goes
unfolding void_pointer
pointer_row = row_token (key_shown keys.Void) (λ v. made (λ s. types.VoidPointer) (showing (mark_shown marks.Star))) _ type_goes (the_key keys.Void) _ (the_key_shows keys.Void) (λ v. star_row)

may_integer : (t : TypeName) → is_integer t ≡ true → may_cast_to t ≡ true
may_integer types.Void h = absurd cc
may_integer types.VoidPointer h = absurd cc
may_integer types.Thread h = absurd cc
may_integer types.Mutex h = absurd cc
may_integer types.Cond h = absurd cc
may_integer _ h = refl

pointer_in : (t : TypeName) (u : List Token) → pointer_text t u → cast_types t u
pointer_in t u (v, (a, b, same, (c, one, is_void), (s, is, (d, one₂, star)))) =
    let words : kinds_of u ≡ c.kind ∷ d.kind ∷ [] = ap kinds_of (same ∙ ap (λ (w : List Token). w ++ b) one ∙ ap (λ (w : List Token). c ∷ w) one₂) in
    let first : c.kind ≡ kinds.Keyword keys.Void = key_kind_is keys.Void c v is_void in
    let second : d.kind ≡ kinds.Punct marks.Star = mark_kind_is marks.Star d s star in
    let both : kinds_of u ≡ kinds.Keyword keys.Void ∷ kinds.Punct marks.Star ∷ [] = words ∙ two first second in
    subst (λ (x : TypeName). cast_types x u) is (refl, both)
  where
    two : {a b x y : TokenKind} → a ≡ x → b ≡ y → a ∷ b ∷ [] ≡ x ∷ y ∷ []
    two e f = cc

integer_in : (t : TypeName) (u : List Token) → integer_text t u → cast_types t u
integer_in t u (i, s) = (may_integer t i, s)

pointer_back : (u : List Token) → kinds_of u ≡ kinds.Keyword keys.Void ∷ kinds.Punct marks.Star ∷ [] → pointer_text types.VoidPointer u
unfolding key_shown is_key mark_shown is_mark
pointer_back [] h = absurd cc
pointer_back (c ∷ []) h = absurd cc
pointer_back (c ∷ d ∷ []) h =
    let first : c.kind ≡ kinds.Keyword keys.Void = cc in
    let second : d.kind ≡ kinds.Punct marks.Star = cc in
    (c.line, (c ∷ [], d ∷ [], refl, (c, refl, key_shows keys.Void c (is_key_of keys.Void c first)), (d.line, refl, (d, refl, mark_shows marks.Star d (is_mark_of marks.Star d second)))))
pointer_back (c ∷ d ∷ x ∷ u) h = absurd cc

cast_back : (t : TypeName) (u : List Token) → may_cast_to t ≡ true → SpellsType t u → pointer_text t u ⊎ integer_text t u
cast_back types.VoidPointer u m s = inl (pointer_back u s)
cast_back types.Void u m s = absurd cc
cast_back types.Thread u m s = absurd cc
cast_back types.Mutex u m s = absurd cc
cast_back types.Cond u m s = absurd cc
cast_back _ u m s = inr (refl, s)

no_void : (t : TypeName) (ks : List TokenKind) → is_integer t ≡ true → kinds.Keyword keys.Void ∷ ks ≡ type_kinds t → ⊥
no_void types.Void ks i e = cc
no_void _ ks i e = cc

integer_heads : (t : TypeName) (c : Token) (u : List Token) → integer_text t (c ∷ u) → is_key keys.Void c ≡ false
integer_heads t c u (i, s) =
    false_from_ne_true (is_key keys.Void c) (λ h. no_void t (kinds_of u) i (ap (λ (k : TokenKind). k ∷ kinds_of u) (sym (is_key_is keys.Void c h)) ∙ s))

pointer_full : (t : TypeName) → pointer_text t [] → ⊥
pointer_full t (v, (a, b, same, s, m)) = no_text a b same (some_shown (key_shown keys.Void) v a s)

row_cast_type : Row cast_types cast_type type_goes
unfolding cast_type choice
row_cast_type = row_choice (is_key keys.Void) pointer_text integer_text void_pointer integer_type type_goes (λ c p. pointer_row) row_integer cast_types pointer_in integer_in (λ t u m. cast_back t u m.0 m.1) pointer_full
    (λ t c u m. let s = heads_token (key_shown keys.Void) (λ v. made (λ s. types.VoidPointer) (showing (mark_shown marks.Star))) t c u m in key_is keys.Void c s.0 s.1)
    integer_heads

-- a type does not go on with `)`
pub no_paren : (t : TypeName) → grow_by t (kinds.Punct marks.CloseParen) ≡ None
no_paren types.Void = refl
no_paren _ = refl

type_stops : (t : TypeName) (c : Token) (x : ℕ) → mark_shown marks.CloseParen c ≡ Some x → type_goes t c ≡ false
unfolding grow
type_stops t c x s = ap (λ (k : TokenKind). shows (grow_by t k)) (mark_kind_is marks.CloseParen c x s) ∙ ap shows (no_paren t)

-- ---- tokens by what they open

abbrev pub opens_by : Opening → Opening → Bool
opens_by o p = sameb the_opening.the_type o p

pub opens_at : (o p : Opening) (c : Token) → opening_of c.kind ≡ o → opens p c ≡ opens_by o p
unfolding opens
opens_at o p c h = rw h refl

-- no token both opens an expression and begins a type
opening_no_type : (w : Keyword) → is_opening (opening_key w) ≡ true → (same_key w keys.Void ≡ false) × (integer_key w ≡ None)
unfolding same_key
opening_no_type keys.Null h = (refl, refl)
opening_no_type _ h = absurd cc

type_kinds_no : (c : Token) (k : TokenKind) → c.kind ≡ k → is_opening (opening_of k) ≡ true → begins_type c ≡ false
unfolding begins_type is_key key_meant
type_kinds_no c (kinds.Keyword w) e h = let n = opening_no_type w h in rw e (rw (n.0, n.1) refl)
type_kinds_no c (kinds.Name number) e h = rw e refl
type_kinds_no c (kinds.Constant value form) e h = rw e refl
type_kinds_no c kinds.Text e h = rw e refl
type_kinds_no c (kinds.Punct m) e h = rw e refl

expression_no_type : (e : Expression) (c : Token) (u : List Token) → SpellsExpression e (c ∷ u) → begins_type c ≡ false
expression_no_type e c u s = type_kinds_no c c.kind refl (heads e c u s)

-- an integer type begins with a word of one
integer_first : (t : TypeName) (w : TokenKind) (ks : List TokenKind) → is_integer t ≡ true → w ∷ ks ≡ type_kinds t → shows (key_in integer_key w) ≡ true
integer_first t (kinds.Name number) ks i e = absurd (no_name t number ks i e)
  where
    no_name : (t : TypeName) (n : ℕ) (ks : List TokenKind) → is_integer t ≡ true → kinds.Name n ∷ ks ≡ type_kinds t → ⊥
    no_name types.Void n ks i e = cc
    no_name _ n ks i e = cc
integer_first t (kinds.Constant value form) ks i e = absurd (no_constant t value form ks i e)
  where
    no_constant : (t : TypeName) (v : ℕ) (f : Form) (ks : List TokenKind) → is_integer t ≡ true → kinds.Constant v f ∷ ks ≡ type_kinds t → ⊥
    no_constant types.Void v f ks i e = cc
    no_constant _ v f ks i e = cc
integer_first t kinds.Text ks i e = absurd (no_text_kind t ks i e)
  where
    no_text_kind : (t : TypeName) (ks : List TokenKind) → is_integer t ≡ true → kinds.Text ∷ ks ≡ type_kinds t → ⊥
    no_text_kind types.Void ks i e = cc
    no_text_kind _ ks i e = cc
integer_first t (kinds.Punct m) ks i e = absurd (no_punct t m ks i e)
  where
    no_punct : (t : TypeName) (m : Punct) (ks : List TokenKind) → is_integer t ≡ true → kinds.Punct m ∷ ks ≡ type_kinds t → ⊥
    no_punct types.Void m ks i e = cc
    no_punct _ m ks i e = cc
integer_first t (kinds.Keyword w) ks i e = word t w ks i e
  where
    shown_at : (w x : Keyword) → kinds.Keyword w ≡ kinds.Keyword x → shows (integer_key x) ≡ true → shows (integer_key w) ≡ true
    shown_at w x e h = let is : w ≡ x = cc in ap (λ (y : Keyword). shows (integer_key y)) is ∙ h

    word : (t : TypeName) (w : Keyword) (ks : List TokenKind) → is_integer t ≡ true → kinds.Keyword w ∷ ks ≡ type_kinds t → shows (integer_key w) ≡ true
    word types.Int w ks i e = let h : kinds.Keyword w ≡ kinds.Keyword keys.Int = cc in shown_at w keys.Int h refl
    word types.Bool w ks i e = let h : kinds.Keyword w ≡ kinds.Keyword keys.Bool = cc in shown_at w keys.Bool h refl
    word types.Char w ks i e = let h : kinds.Keyword w ≡ kinds.Keyword keys.Char = cc in shown_at w keys.Char h refl
    word types.Signed w ks i e = let h : kinds.Keyword w ≡ kinds.Keyword keys.Signed = cc in shown_at w keys.Signed h refl
    word types.SignedInt w ks i e = let h : kinds.Keyword w ≡ kinds.Keyword keys.Signed = cc in shown_at w keys.Signed h refl
    word types.SignedChar w ks i e = let h : kinds.Keyword w ≡ kinds.Keyword keys.Signed = cc in shown_at w keys.Signed h refl
    word types.Short w ks i e = let h : kinds.Keyword w ≡ kinds.Keyword keys.Short = cc in shown_at w keys.Short h refl
    word types.ShortInt w ks i e = let h : kinds.Keyword w ≡ kinds.Keyword keys.Short = cc in shown_at w keys.Short h refl
    word types.Long w ks i e = let h : kinds.Keyword w ≡ kinds.Keyword keys.Long = cc in shown_at w keys.Long h refl
    word types.LongInt w ks i e = let h : kinds.Keyword w ≡ kinds.Keyword keys.Long = cc in shown_at w keys.Long h refl
    word types.LongLong w ks i e = let h : kinds.Keyword w ≡ kinds.Keyword keys.Long = cc in shown_at w keys.Long h refl
    word types.LongLongInt w ks i e = let h : kinds.Keyword w ≡ kinds.Keyword keys.Long = cc in shown_at w keys.Long h refl
    word types.Void w ks i e = absurd cc
    word types.VoidPointer w ks i e = absurd cc
    word types.Thread w ks i e = absurd cc
    word types.Mutex w ks i e = absurd cc
    word types.Cond w ks i e = absurd cc
    word _ w ks i e = let h : kinds.Keyword w ≡ kinds.Keyword keys.Unsigned = cc in shown_at w keys.Unsigned h refl

by_integer : (t : TypeName) (c : Token) (u : List Token) → integer_text t (c ∷ u) → (is_key keys.Void c || shows (key_meant integer_key c)) ≡ true
unfolding key_meant
by_integer t c u (i, s) = rw (integer_first t c.kind (kinds_of u) i s) (or-true (is_key keys.Void c))

module _ (h : ℕ) (inner : ℕ → Reader Token Expression) (rows : 0 < h → (c : ℕ) → c ≤ 12 → Row (InExpression h c) (inner c) (class_goes (below h) c)) where
  -- ---- `++` and `--` behind an object

  abbrev step_text : Expression → Expression → List Token → Type 0
  step_text e = made (λ s. stepped e s.1) (showing step_shown)

  plus_plus : Token
  plus_plus = token_of (kinds.Punct marks.Increment)

  plus_shows : step_shown plus_plus ≡ Some (plus_plus.line, true)
  unfolding plus_plus meant_by token_of
  plus_shows = lined_shows (meant_by step_of) (token_of (kinds.Punct marks.Increment)) true refl

  step_one : Row (showing step_shown) (token step_shown) (λ _ _. false)
  step_one = row_one step_shown plus_plus _ plus_shows

  -- what goes on behind what begins with a name
  abbrev pub behind_goes : Expression → Token → Bool
  behind_goes = prefix_goes h

  stepped_not : (e : Expression) → is_object e ≡ true → (up : Bool) (c : Token) → behind_goes (stepped e up) c ≡ false
  stepped_not (object line n whole) q up c = refl
  stepped_not (object line n (element i)) q up c = refl
  stepped_not _ q up c = absurd cc

  step_row : (e : Expression) → is_object e ≡ true → Row (step_text e) (step_behind inner h e) behind_goes
  unfolding step_behind
  step_row e q = row_last (showing step_shown) (token step_shown) (λ _ _. false) (λ s. stepped e s.1) behind_goes step_one (λ s u c m. stepped_not e q s.1 c)

  named_into : (e : Expression) (u : List Token) → Of is_called h e u → Of is_named h e u
  named_into (object line n i) u m = (refl, m.1)
  named_into (call line n args) u m = (refl, m.1)
  named_into _ u m = let no = m.0 in absurd cc

  step_in : (line n : ℕ) (i : Index) (u v : List Token) (t : Expression) → InExpression (suc h) 0 (object line n i) u → step_text (object line n i) t v → Of is_named h t (u ++ v)
  step_in line n i u v t m (s, is, shown) =
      let up = lined_to (meant_by step_of) s.0 s.1 v shown in
      let at = m.spells.0 in
      let made : Of is_named h (step line line n i s.1 false) (u ++ v) = (
        refl,
        record {
          low = m.low;
          tight = omega arith;
          fits = m.fits;
          spells = (line_leads u v (some_text (object line n i) u m.spells) ∙ at, (u, v, refl, m.spells, up.1));
        },
      ) in
      subst (λ (x : Expression). Of is_named h x (u ++ v)) is made

  step_more : (e t : Expression) (u v : List Token) → Of is_called h e u → is_object e ≡ true → step_text e t v → Of is_named h t (u ++ v)
  step_more (object line n i) t u v m q b = step_in line n i u v t m.1 b
  step_more _ t u v m q b = absurd cc

  step_split : (line at n : ℕ) (i : Index) (up : Bool) (u : List Token) → suc (index_height i) ≤ suc h → FitsIndex i → SpellsExpression (step line at n i up false) u
      → Extended (Of is_called h) is_object step_text (step line at n i up false) u
  step_split line at n i up u low fits (l, (a, b, same, target, sign)) =
      let lines : at ≡ line = sym target.0 ∙ sym (line_leads a b (some_text (object at n i) a target)) ∙ ap line_at (sym same) ∙ l in
      record {
        start = object at n i;
        before = a;
        behind = b;
        same = same;
        start_in = (refl, record { low = low; tight = omega arith; fits = fits; spells = target });
        may = refl;
        rest_in = ((line_at b, up), ap (λ (x : ℕ). step x at n i up false) lines, lined_from (meant_by step_of) (line_at b) up b refl sign);
      }

  named_split : (t : Expression) (u : List Token) → Of is_named h t u → ((e : Expression) × (e ≡ t) × Of is_called h e u) ⊎ Extended (Of is_called h) is_object step_text t u
  named_split (object line n i) u m = inl (object line n i, refl, (refl, m.1))
  named_split (call line n args) u m = inl (call line n args, refl, (refl, m.1))
  named_split (step line at n i up false) u m = inr (step_split line at n i up u m.1.low m.1.fits m.1.spells)
  named_split (step line at n i up true) u m = let no = m.0 in absurd cc
  named_split _ u m = let no = m.0 in absurd cc

  step_apart : (e : Expression) (u : List Token) (c : Token) → Of is_called h e u → is_object e ≡ true → shows (step_shown c) ≡ true → called_goes h e c ≡ false
  step_apart (object line n whole) u c m q p = let no = step_no_mark c p in rw (no.0, no.1) (nothing (nat_lt 0 h))
    where
      nothing : (a : Bool) → ((a && false) || (true && false)) ≡ false
      nothing true = refl
      nothing false = refl
  step_apart (object line n (element i)) u c m q p = refl
  step_apart _ u c m q p = absurd cc

  named_alone : (e : Expression) (u : List Token) (c : Token) → Of is_called h e u → behind_goes e c ≡ (called_goes h e c || (is_object e && shows (step_shown c)))
  named_alone (object line n i) u c m = refl
  named_alone (call line n args) u c m = refl
  named_alone _ u c m = let no = m.0 in absurd cc

  pub row_named : Row (Of is_named h) (named inner h) behind_goes
  unfolding named
  row_named = row_tail (Of is_called h) (called_or_not inner h) (called_goes h) (row_called h inner rows) (λ e. e) is_object (λ c. shows (step_shown c)) step_text (step_behind inner h) (λ e. behind_goes) step_row (Of is_named h) behind_goes
      named_into step_more named_split
      (λ e t c v q m. let s = heads_made (λ (s : ℕ × Bool). stepped e s.1) step_shown t c v m in some_shows (step_shown c) s.0 s.1)
      (λ e c q p. let s = shows_some (step_shown c) p in begins_made (λ (s : ℕ × Bool). stepped e s.1) step_shown c s.0 s.1)
      step_apart named_alone
      (λ e t v c q m. refl)

  -- ---- signs before a target

  abbrev pub before_text : Expression → List Token → Type 0
  before_text = along (showing step_shown) (λ s. made (stepped_before s) (Of is_object h))

  before_goes : (s : ℕ × Bool) (e : Expression) (u : List Token) (c : Token) → Of is_object h e u → behind_goes (stepped_before s e) c ≡ target_goes h e c
  before_goes s (object line n whole) u c m = refl
  before_goes s (object line n (element i)) u c m = refl
  before_goes s _ u c m = let no = m.0 in absurd cc

  pub row_before : Row before_text (step_before inner h) behind_goes
  unfolding step_before
  row_before = row_token step_shown (λ s. made (stepped_before s) (Of is_object h)) _ behind_goes plus_plus _ plus_shows
      (λ s. row_last (Of is_object h) (target inner h) (target_goes h) (stepped_before s) behind_goes (row_target h inner rows) (before_goes s))

  abbrev pub address_text : Expression → List Token → Type 0
  address_text = along (showing (mark_shown marks.And)) (λ line. made (address_of line) (Of is_object h))

  address_goes : (l : ℕ) (e : Expression) (u : List Token) (c : Token) → Of is_object h e u → behind_goes (address_of l e) c ≡ target_goes h e c
  address_goes l (object line n whole) u c m = refl
  address_goes l (object line n (element i)) u c m = refl
  address_goes l _ u c m = let no = m.0 in absurd cc

  pub row_address : Row address_text (addressed inner h) behind_goes
  unfolding addressed
  row_address = row_token (mark_shown marks.And) (λ line. made (address_of line) (Of is_object h)) _ behind_goes (the_mark marks.And) _ (the_mark_shows marks.And)
      (λ line. row_last (Of is_object h) (target inner h) (target_goes h) (address_of line) behind_goes (row_target h inner rows) (address_goes line))

  -- ---- unary operators

  abbrev pub signed_text : Expression → List Token → Type 0
  signed_text = along (showing (lined_shown (meant_by sign_of))) (λ s. made (unary s.0 s.1) (InExpression h 0))

  minus : Token
  minus = token_of (kinds.Punct marks.Minus)

  minus_shows : lined_shown (meant_by sign_of) minus ≡ Some (minus.line, signs.Minus)
  unfolding minus meant_by token_of
  minus_shows = lined_shows (meant_by sign_of) (token_of (kinds.Punct marks.Minus)) signs.Minus refl

  pub row_signed : 0 < h → Row signed_text (signed inner h) behind_goes
  unfolding signed
  row_signed some = row_token (lined_shown (meant_by sign_of)) (λ s. made (unary s.0 s.1) (InExpression h 0)) _ behind_goes minus _ minus_shows
      (λ s. row_last (InExpression h 0) (inner 0) (class_goes (below h) 0) (unary s.0 s.1) behind_goes (rows some 0 (omega arith)) (λ e u c m. refl))

  -- ---- casts and parentheses

  abbrev pub cast_text : ℕ → Expression → List Token → Type 0
  cast_text line = along cast_types (λ to. along (showing (mark_shown marks.CloseParen)) (λ m. made (cast line to) (InExpression h 0)))

  abbrev pub paren_text : ℕ → Expression → List Token → Type 0
  paren_text line = along (InExpression h 12) (λ e. made (λ m. paren line e) (showing (mark_shown marks.CloseParen)))

  row_cast : 0 < h → (line : ℕ) → Row (cast_text line) (cast_from inner h line) behind_goes
  unfolding cast_from
  row_cast some line = row_part cast_types cast_type type_goes (mark_shown marks.CloseParen) (λ to m. made (cast line to) (InExpression h 0)) _ behind_goes row_cast_type (the_mark marks.CloseParen) _ (the_mark_shows marks.CloseParen) type_stops
      (λ to m. row_last (InExpression h 0) (inner 0) (class_goes (below h) 0) (cast line to) behind_goes (rows some 0 (omega arith)) (λ e u c k. refl))

  row_paren : 0 < h → (line : ℕ) → Row (paren_text line) (paren_from inner h line) behind_goes
  unfolding paren_from
  row_paren some line = row_close (InExpression h 12) (inner 12) (class_goes (below h) 12) (mark_shown marks.CloseParen) (λ e m. paren line e) behind_goes (rows some 12 (omega arith)) (the_mark marks.CloseParen) _ (the_mark_shows marks.CloseParen)
      (close_paren_stops (below h) 12) (λ e m c. refl)

  abbrev pub either_text : ℕ → Expression → List Token → Type 0
  either_text line t u = cast_text line t u ⊎ paren_text line t u

  type_some : (to : TypeName) (u : List Token) → cast_types to u → u ≡ [] → ⊥
  type_some to u m e = let P : List Token → Type 0 = λ w. cast_types to w in row_cast_type.full to (subst P e m)

  cast_full : (line : ℕ) (t : Expression) → cast_text line t [] → ⊥
  cast_full line t (to, (a, b, same, m, n)) = no_text a b same (type_some to a m)

  type_heads : (to : TypeName) (c : Token) (u : List Token) → cast_types to (c ∷ u) → begins_type c ≡ true
  unfolding begins_type
  type_heads to c u m = by_form (cast_back to (c ∷ u) m.0 m.1)
    where
      by_form : pointer_text to (c ∷ u) ⊎ integer_text to (c ∷ u) → (is_key keys.Void c || shows (key_meant integer_key c)) ≡ true
      by_form (inl p) = let s = heads_token (key_shown keys.Void) (λ v. made (λ s. types.VoidPointer) (showing (mark_shown marks.Star))) to c u p in rw (key_is keys.Void c s.0 s.1) refl
      by_form (inr i) = by_integer to c u i

  either_heads : (line : ℕ) (t : Expression) (c : Token) (u : List Token) → cast_text line t (c ∷ u) → begins_type c ≡ true
  either_heads line t c u (to, s) = first_part (λ d. begins_type d ≡ true) c u s (λ v m. type_some to v m) (λ v m. type_heads to c v m)

  paren_heads : (line : ℕ) (t : Expression) (c : Token) (u : List Token) → paren_text line t (c ∷ u) → begins_type c ≡ false
  paren_heads line t c u (e, s) = first_part (λ d. begins_type d ≡ false) c u s (λ v m. some_text e v m.spells) (λ v m. expression_no_type e c v m.spells)

  row_either : 0 < h → (line : ℕ) → Row (either_text line) (choice begins_type (cast_from inner h line) (paren_from inner h line)) behind_goes
  row_either some line = row_choice begins_type (cast_text line) (paren_text line) (cast_from inner h line) (paren_from inner h line) behind_goes (λ c p. row_cast some line) (row_paren some line) (either_text line)
      (λ t u m. inl m) (λ t u m. inr m) (λ t u m. m) (cast_full line) (either_heads line) (paren_heads line)

  abbrev pub parens_text : Expression → List Token → Type 0
  parens_text = along (showing (mark_shown marks.OpenParen)) either_text

  pub row_parens : 0 < h → Row parens_text (parenthesized inner h) behind_goes
  unfolding parenthesized choice
  row_parens some = row_token (mark_shown marks.OpenParen) either_text (λ line ts. if starts begins_type ts then cast_from inner h line ts else paren_from inner h line ts) behind_goes (the_mark marks.OpenParen) _ (the_mark_shows marks.OpenParen) (row_either some)
