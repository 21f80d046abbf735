-- Declarations are read exactly: a type, and declarators up to `;`.
use Rattle.std.proofs.Common.{◌≡◌, ◌≢◌, ℕ, ◌≤◌, Bool, true, false, List, [], ◌∷◌, ◌++◌, Option, Some, None, refl, sym, ap, subst, ◌∙◌, append_assoc, arith}
use Rattle.std.specs.List.{AllByRecursion}
use Rattle.std.proofs.Math.Bool.{and-false}
use Rattle.std.proofs.lemmas.Bool.{or_from}
use Rattle.lz_tree.specs.declared.token.Token.{Token}
use Rattle.lz_tree.specs.declared.token.TokenKind.{TokenKind}
use Rattle.lz_tree.specs.declared.token.TokenKind.TheVariants as kinds
use Rattle.lz_tree.specs.declared.token.Punct.TheVariants as marks
use Rattle.lz_tree.specs.declared.expression.TypeName.{TypeName}
use Rattle.lz_tree.specs.Languages.{showing, Further, is_mark, same_mark, mark_shown, name_shown, name_in, line_at}
use Rattle.lz_tree.specs.Spelling.{Comma, Semicolon, SpellsDeclarator, SpellsDeclaration}
use Rattle.lz_tree.specs.Trees.{Expression, Initializer, nothing, single, listed, mutex, cond, InitDeclarator, Declaration}
use Rattle.lz_tree.specs.Height.{greatest, declarator_height}
use Rattle.lz_tree.specs.WellFormed.{FitsDeclarator, InDeclaration}
use Rattle.lz_expr.specs.Reading.{◌>>=◌, pure, shows}
use Rattle.lz_expr.specs.Grammar.{mark, expr, grow, grow_by}
use Rattle.lz_expr.proofs.RowsLemmas.{Row, made, along, row_one, row_last, row_token, row_then, row_of, heads_token, heads_one}
use Rattle.lz_expr.proofs.ListsLemmas.{list_of, row_list, list_apart}
use Rattle.lz_expr.proofs.TokensLemmas.{the_mark, the_mark_shows, mark_is, mark_kind_is, some_shown}
use Rattle.lz_expr.proofs.GoesLemmas.{below, class_goes, comma_stops, semicolon_stops}
use Rattle.lz_expr.proofs.ExpressionsLemmas.{first_part}
use Rattle.lz_expr.proofs.TypesLemmas.{type_goes}
use Rattle.lz_grammar.specs.Grammar.{begins_type, lined_type, declarator, next_declarator, more_declarators, declaration}
use Rattle.lz_grammar.proofs.AnyTypesLemmas.{TypeText, row_lined_type, type_some, type_leads, type_heads}
use Rattle.lz_grammar.proofs.DeclaratorsLemmas.{InDeclarator, declarator_goes, init_goes, length_goes, row_declarator}

-- the height of the highest of some declarators
abbrev pub declarators_height : List InitDeclarator → ℕ
declarators_height ds = greatest declarator_height ds

comma_flat : (c : Token) (x : ℕ) → mark_shown marks.Comma c ≡ Some x → (is_mark marks.OpenBracket c ≡ false) × (is_mark marks.Assign c ≡ false) × (is_mark marks.Semicolon c ≡ false)
unfolding is_mark same_mark
comma_flat c x h = let k = mark_kind_is marks.Comma c x h in (rw k refl, rw k refl, rw k refl)

semicolon_flat : (c : Token) (x : ℕ) → mark_shown marks.Semicolon c ≡ Some x → (is_mark marks.OpenBracket c ≡ false) × (is_mark marks.Assign c ≡ false)
unfolding is_mark same_mark
semicolon_flat c x h = let k = mark_kind_is marks.Semicolon c x h in (rw k refl, rw k refl)

-- a type does not go on with a name
name_still : (t : TypeName) (k : TokenKind) (n : ℕ) → name_in k ≡ Some n → grow_by t k ≡ None
name_still t (kinds.Name m) n h = refl
name_still t (kinds.Constant v f) n h = refl
name_still t kinds.Text n h = refl
name_still t (kinds.Keyword w) n h = absurd cc
name_still t (kinds.Punct p) n h = absurd cc

pub type_name_apart : (t : TypeName) (c : Token) (n : ℕ) → name_shown c ≡ Some n → type_goes t c ≡ false
unfolding grow name_shown
type_name_apart t c n h = ap shows (name_still t c.kind n h)

module _ (h : ℕ) where
  length_stops : (len : Option Expression) (c : Token) → is_mark marks.OpenBracket c ≡ false → length_goes h len c ≡ false
  length_stops None c b = rw b (and-false _)
  length_stops (Some i) c b = refl

  init_stops : (i : Initializer) (b : Bool) (c : Token) → b ≡ false → ((e : Expression) → class_goes (below h) 12 e c ≡ false) → init_goes h i b c ≡ false
  init_stops nothing b c none stops = none
  init_stops (single e) b c none stops = stops e
  init_stops (listed es k) b c none stops = refl
  init_stops mutex b c none stops = refl
  init_stops cond b c none stops = refl

  pub declarator_stops : (d : InitDeclarator) (c : Token) → is_mark marks.OpenBracket c ≡ false → is_mark marks.Assign c ≡ false → ((e : Expression) → class_goes (below h) 12 e c ≡ false) → declarator_goes h d c ≡ false
  declarator_stops d c bracket equal stops = init_stops d.first _ c (or_from _ _ (length_stops d.length c bracket) equal) stops

  -- ---- more declarators

  abbrev next_text : InitDeclarator → List Token → Type 0
  next_text = along (showing (mark_shown marks.Comma)) (λ m. InDeclarator h)

  next_row : Row next_text (next_declarator expr h) (declarator_goes h)
  unfolding next_declarator
  next_row = row_token (mark_shown marks.Comma) (λ m. InDeclarator h) (λ m. declarator expr h) (declarator_goes h) (the_mark marks.Comma) _ (the_mark_shows marks.Comma) (λ m. row_declarator h)

  end_row : Row (showing (mark_shown marks.Semicolon)) (mark marks.Semicolon) (λ _ _. false)
  end_row = row_one (mark_shown marks.Semicolon) (the_mark marks.Semicolon) _ (the_mark_shows marks.Semicolon)

  abbrev pub more_text : List InitDeclarator → List Token → Type 0
  more_text = list_of (showing (mark_shown marks.Semicolon)) next_text

  end_heads : (b : ℕ) (c : Token) (u : List Token) → showing (mark_shown marks.Semicolon) b (c ∷ u) → is_mark marks.Semicolon c ≡ true
  end_heads b c u m = mark_is marks.Semicolon c b (heads_one (mark_shown marks.Semicolon) b c u m)

  next_heads : (d : InitDeclarator) (c : Token) (u : List Token) → next_text d (c ∷ u) → is_mark marks.Semicolon c ≡ false
  next_heads d c u m = let s = heads_token (mark_shown marks.Comma) (λ m. InDeclarator h) d c u m in (comma_flat c s.0 s.1).2

  next_apart : (d e : InitDeclarator) (c : Token) (u : List Token) → next_text e (c ∷ u) → declarator_goes h d c ≡ false
  next_apart d e c u m =
      let s = heads_token (mark_shown marks.Comma) (λ m. InDeclarator h) e c u m in
      let f = comma_flat c s.0 s.1 in declarator_stops d c f.0 f.1 (λ x. comma_stops (below h) 12 x c s.0 s.1)

  end_apart : (d : InitDeclarator) (b : ℕ) (c : Token) (u : List Token) → showing (mark_shown marks.Semicolon) b (c ∷ u) → declarator_goes h d c ≡ false
  end_apart d b c u m =
      let s = heads_one (mark_shown marks.Semicolon) b c u m in
      let f = semicolon_flat c b s in declarator_stops d c f.0 f.1 (λ x. semicolon_stops (below h) 12 x c b s)

  pub more_row : Row more_text (more_declarators expr h) (λ _ _. false)
  unfolding more_declarators
  more_row = row_list (is_mark marks.Semicolon) (showing (mark_shown marks.Semicolon)) (mark marks.Semicolon) next_text (next_declarator expr h) (declarator_goes h) end_row next_row end_heads next_heads next_apart end_apart

  pub more_apart : (d : InitDeclarator) (ds : List InitDeclarator) (c : Token) (s : List Token) → more_text ds (c ∷ s) → declarator_goes h d c ≡ false
  more_apart d ds c s m = list_apart (is_mark marks.Semicolon) (showing (mark_shown marks.Semicolon)) (mark marks.Semicolon) next_text (next_declarator expr h) (declarator_goes h) end_row next_row end_heads next_heads next_apart end_apart d ds c s m

  pub more_into : (ds : List InitDeclarator) (u : List Token) → more_text ds u → (declarators_height ds ≤ h) × AllByRecursion FitsDeclarator ds × Further Comma Semicolon SpellsDeclarator ds u
  more_into [] u m = (omega arith, tt, m)
  more_into (d ∷ ds) u (a, b, same, (m, (a₂, b₂, same₂, comma, d_in)), rest) =
      let k = more_into ds b rest in
      let low = d_in.low in
      let less = k.0 in
      (omega arith, (d_in.fits, k.1), (a₂, b₂ ++ b, same ∙ ap (λ (w : List Token). w ++ b) same₂ ∙ append_assoc a₂ b₂ b, (m, comma), (b₂, b, refl, d_in.spells, k.2)))

  pub more_back : (ds : List InitDeclarator) (u : List Token) → declarators_height ds ≤ h → AllByRecursion FitsDeclarator ds → Further Comma Semicolon SpellsDeclarator ds u → more_text ds u
  more_back [] u low fits m = m
  more_back (d ∷ ds) u low fits (a, b, same, (m, comma), (b₁, b₂, same₂, d_spells, rest)) = (
    a ++ b₁,
    b₂,
    same ∙ ap (λ (w : List Token). a ++ w) same₂ ∙ sym (append_assoc a b₁ b₂),
    (m, (a, b₁, refl, comma, record { low = omega arith; fits = fits.0; spells = d_spells })),
    more_back ds b₂ (omega arith) fits.1 rest,
  )

  -- ---- declarations

  abbrev make : ℕ × TypeName → InitDeclarator → List InitDeclarator → Declaration
  make t d more = record { line = t.0; base = t.1; declarators = d ∷ more }

  abbrev behind_type : ℕ × TypeName → Declaration → List Token → Type 0
  behind_type t = along (InDeclarator h) (λ d. made (make t d) more_text)

  abbrev text : Declaration → List Token → Type 0
  text = along TypeText behind_type

  behind_row : (t : ℕ × TypeName) → Row (behind_type t) (declarator expr h >>= (λ d. more_declarators expr h >>= (λ more. pure (make t d more)))) (λ _ _. false)
  behind_row t = row_then (InDeclarator h) (declarator expr h) (declarator_goes h) (λ d. made (make t d) more_text) (λ d. more_declarators expr h >>= (λ more. pure (make t d more))) (λ _ _. false) (row_declarator h)
      (λ d. row_last more_text (more_declarators expr h) (λ _ _. false) (make t d) (λ _ _. false) more_row (λ x u c m. refl))
      (λ d e c s m. more_apart d m.0 c s m.2)

  declarator_name : (d : InitDeclarator) (c : Token) (u : List Token) → SpellsDeclarator d (c ∷ u) → name_shown c ≡ Some d.name
  declarator_name d c u (at, m) = first_part (λ x. name_shown x ≡ Some d.name) c u m (λ v s. some_shown name_shown d.name v s) (λ v s. heads_one name_shown d.name c v s)

  pub in_name : (d : InitDeclarator) (c : Token) (u : List Token) → InDeclarator h d (c ∷ u) → name_shown c ≡ Some d.name
  in_name d c u m = declarator_name d c u m.spells

  in_some : (d : InitDeclarator) (u : List Token) → InDeclarator h d u → u ≡ [] → ⊥
  in_some d u m e = let P : List Token → Type 0 = λ w. InDeclarator h d w in (row_declarator h).full d (subst P e m)

  behind_apart : (t : ℕ × TypeName) (e : Declaration) (c : Token) (s : List Token) → behind_type t e (c ∷ s) → type_goes t.1 c ≡ false
  behind_apart t e c s (d, m) = first_part (λ x. type_goes t.1 x ≡ false) c s m (λ v k. in_some d v k) (λ v k. type_name_apart t.1 c d.name (in_name d c v k))

  declaration_into : (e : Declaration) (u : List Token) → text e u → InDeclaration h e u
  declaration_into e u (t, (a, b, same, type, (d, (a₂, b₂, same₂, d_in, (more, is, rest))))) =
      let k = more_into more b₂ rest in
      let made : InDeclaration h (make t d more) u = record {
        low = (let x = d_in.low in let y = k.0 in omega arith);
        fits = (λ no. cc, (d_in.fits, k.1));
        spells = (ap line_at same ∙ type_leads t.1 a b type.1 ∙ type.0, (a, b, same, type.1, (a₂, b₂, same₂, d_in.spells, k.2)));
      } in
      subst (λ (x : Declaration). InDeclaration h x u) is made

  declaration_back_at : (line : ℕ) (base : TypeName) (ds : List InitDeclarator) (u : List Token) → declarators_height ds ≤ h → (ds ≢ []) × AllByRecursion FitsDeclarator ds
      → SpellsDeclaration (record { line = line; base = base; declarators = ds }) u → text (record { line = line; base = base; declarators = ds }) u
  declaration_back_at line base [] u low fits m = absurd (fits.0 refl)
  declaration_back_at line base (d ∷ ds) u low fits (at, (a, b, same, type, (a₂, b₂, same₂, d_spells, rest))) = (
    (line, base),
    (
      a,
      b,
      same,
      (sym (type_leads base a b type) ∙ ap line_at (sym same) ∙ at, type),
      (d, (a₂, b₂, same₂, record { low = omega arith; fits = fits.1.0; spells = d_spells }, (ds, refl, more_back ds b₂ (omega arith) fits.1.1 rest))),
    ),
  )

  pub row_declaration : Row (InDeclaration h) (declaration expr h) (λ _ _. false)
  unfolding declaration
  row_declaration = row_of text (lined_type >>= (λ t. declarator expr h >>= (λ d. more_declarators expr h >>= (λ more. pure (make t d more))))) (λ _ _. false) (λ _ _. false)
      (row_then TypeText lined_type (λ p. type_goes p.1) behind_type (λ t. declarator expr h >>= (λ d. more_declarators expr h >>= (λ more. pure (make t d more)))) (λ _ _. false) row_lined_type behind_row behind_apart)
      (InDeclaration h) declaration_into (λ e u m. declaration_back_at e.line e.base e.declarators u m.low m.fits m.spells) (λ t u c m. refl)

  -- a declaration begins with a word of a type
  pub declaration_heads : (e : Declaration) (c : Token) (u : List Token) → SpellsDeclaration e (c ∷ u) → begins_type c ≡ true
  declaration_heads e c u (at, m) = first_part (λ x. begins_type x ≡ true) c u m (λ v s no. type_some e.base v s no) (λ v s. type_heads e.base c v s)
