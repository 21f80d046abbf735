-- Parameters are read exactly.
use Rattle.std.proofs.Common.{◌≡◌, ℕ, Bool, true, false, List, [], ◌∷◌, ◌++◌, Option, Some, None, refl, sym, ap, subst, ◌∙◌, inl, inr, append_assoc, append-nil}
use Rattle.std.specs.Prelude.{◌⊎◌, ◌&&◌, ◌||◌}
use Rattle.lz_tree.specs.declared.token.Token.{Token}
use Rattle.lz_tree.specs.declared.token.TokenKind.{TokenKind}
use Rattle.lz_tree.specs.declared.token.TokenKind.TheVariants as kinds
use Rattle.lz_tree.specs.declared.token.Keyword.TheVariants as keys
use Rattle.lz_tree.specs.declared.token.Punct.TheVariants as marks
use Rattle.lz_tree.specs.declared.expression.TypeName.{TypeName}
use Rattle.lz_tree.specs.declared.expression.TypeName.TheVariants as types
use Rattle.lz_tree.specs.declared.program.Param.{Param}
use Rattle.lz_tree.specs.Languages.{showing, Any, Key, Further, Listed, is_mark, same_mark, mark_shown, name_shown, name_in, line_at}
use Rattle.lz_tree.specs.Spelling.{Comma, CloseParen, kinds_of, SpellsType, SpellsParam, SpellsParams}
use Rattle.lz_tree.specs.WellFormed.{fits_params}
use Rattle.lz_expr.specs.Reading.{◌>>=◌, pure, shows, choice}
use Rattle.lz_expr.specs.Grammar.{mark, name, lined_shown, opening_of, key_in, key_meant, grow, grow_by}
use Rattle.lz_expr.proofs.RowsLemmas.{Row, made, along, row_one, row_last, row_token, row_then, row_choice, row_map, heads_token, heads_one, heads_made, begins_made}
use Rattle.lz_expr.proofs.TailLemmas.{Extended, row_tail}
use Rattle.lz_expr.proofs.ListsLemmas.{list_of, row_list, list_apart}
use Rattle.lz_expr.proofs.TokensLemmas.{the_mark, the_mark_shows, mark_is, mark_kind_is, key_kind_is, key_shows, is_key_of, lined_is, lined_to, lined_from, lined_shows, no_text}
use Rattle.lz_expr.proofs.ExpressionsLemmas.{first_part, name_opens}
use Rattle.lz_expr.proofs.TargetsLemmas.{the_name, name_shows}
use Rattle.lz_expr.proofs.TypesLemmas.{type_goes}
use Rattle.lz_grammar.specs.Grammar.{type_key, begins_type, lined_type, is_name, begins_name, nameless, named_param, param, next_param, more_params, some_params, all_params, is_void, void_word, params}
use Rattle.lz_grammar.proofs.AnyTypesLemmas.{TypeText, row_lined_type, type_leads, type_heads, type_some}
use Rattle.lz_grammar.proofs.DeclarationsLemmas.{type_name_apart}
use Rattle.lz_expr.proofs.PrefixLemmas.{no_paren}

kind_name : (k : TokenKind) → is_name (opening_of k) ≡ true → (n : ℕ) × (name_in k ≡ Some n)
kind_name (kinds.Name n) h = (n, refl)
kind_name (kinds.Constant v f) h = absurd cc
kind_name kinds.Text h = absurd cc
kind_name (kinds.Keyword keys.Null) h = absurd cc
kind_name (kinds.Keyword _) h = absurd cc
kind_name (kinds.Punct marks.OpenParen) h = absurd cc
kind_name (kinds.Punct _) h = absurd cc

begins_name_is : (c : Token) → begins_name c ≡ true → (n : ℕ) × (name_shown c ≡ Some n)
unfolding begins_name name_shown
begins_name_is c h = kind_name c.kind h

name_begins : (c : Token) (n : ℕ) → name_shown c ≡ Some n → begins_name c ≡ true
unfolding begins_name
name_begins c n h = ap is_name (name_opens c n h)

comma_still : (t : TypeName) → grow_by t (kinds.Punct marks.Comma) ≡ None
comma_still types.Void = refl
comma_still _ = refl

comma_stops_type : (t : TypeName) (c : Token) (x : ℕ) → mark_shown marks.Comma c ≡ Some x → (type_goes t c ≡ false) × (begins_name c ≡ false) × (is_mark marks.CloseParen c ≡ false)
unfolding grow begins_name is_mark same_mark
comma_stops_type t c x h = let k = mark_kind_is marks.Comma c x h in (ap (λ (y : TokenKind). shows (grow_by t y)) k ∙ ap shows (comma_still t), ap (λ (y : TokenKind). is_name (opening_of y)) k, rw k refl)

close_stops_type : (t : TypeName) (c : Token) (x : ℕ) → mark_shown marks.CloseParen c ≡ Some x → (type_goes t c ≡ false) × (begins_name c ≡ false)
unfolding grow begins_name
close_stops_type t c x h = let k = mark_kind_is marks.CloseParen c x h in (ap (λ (y : TokenKind). shows (grow_by t y)) k ∙ ap shows (no_paren t), ap (λ (y : TokenKind). is_name (opening_of y)) k)

close_no_type : (c : Token) (x : ℕ) → mark_shown marks.CloseParen c ≡ Some x → begins_type c ≡ false
unfolding begins_type key_meant
close_no_type c x h = ap (λ (y : TokenKind). shows (key_in type_key y)) (mark_kind_is marks.CloseParen c x h)

-- ---- one parameter

abbrev name_goes : TypeName → Option ℕ → Token → Bool
name_goes t None c = type_goes t c || (true && begins_name c)
name_goes t (Some n) c = false

abbrev param_goes : Param → Token → Bool
param_goes p c = name_goes p.base p.name c

abbrev named_text : ℕ × TypeName → Param → List Token → Type 0
named_text t = made (named_param t) (showing (lined_shown name_shown))

name_row : Row (showing (lined_shown name_shown)) name (λ _ _. false)
name_row = row_one (lined_shown name_shown) the_name _ name_shows

named_row : (t : ℕ × TypeName) → Row (named_text t) (name >>= (λ n. pure (named_param t n))) param_goes
named_row t = row_last (showing (lined_shown name_shown)) name (λ _ _. false) (named_param t) param_goes name_row (λ n u c m. refl)

param_alone : (t : ℕ × TypeName) (u : List Token) → TypeText t u → SpellsParam (nameless t) u
param_alone t u m = (m.0, (u, [], sym (append-nil u), m.1, refl))

param_more : (t : ℕ × TypeName) (p : Param) (u v : List Token) → TypeText t u → true ≡ true → named_text t p v → SpellsParam p (u ++ v)
param_more t p u v m q (n, is, s) =
    let made : SpellsParam (named_param t n) (u ++ v) = (type_leads t.1 u v m.1 ∙ m.0, (u, v, refl, m.1, (lined_to name_shown n.0 n.1 v s).1)) in
    subst (λ (x : Param). SpellsParam x (u ++ v)) is made

param_split_by : (line : ℕ) (base : TypeName) (n : Option ℕ) (u : List Token) → SpellsParam (record { line = line; base = base; name = n }) u
    → ((t : ℕ × TypeName) × (nameless t ≡ record { line = line; base = base; name = n }) × TypeText t u) ⊎ Extended TypeText (λ t. true) named_text (record { line = line; base = base; name = n }) u
param_split_by line base None u (at, (a, b, same, type, nothing_is)) =
    let is : u ≡ a = same ∙ ap (λ (w : List Token). a ++ w) nothing_is ∙ append-nil a in
    inl ((line, base), refl, (at, subst (λ (w : List Token). SpellsType base w) (sym is) type))
param_split_by line base (Some n) u (at, (a, b, same, type, s)) = inr (record {
  start = (line, base);
  before = a;
  behind = b;
  same = same;
  start_in = (sym (type_leads base a b type) ∙ ap line_at (sym same) ∙ at, type);
  may = refl;
  rest_in = ((line_at b, n), refl, lined_from name_shown (line_at b) n b refl s);
})

row_param : Row SpellsParam param param_goes
unfolding param
row_param = row_tail TypeText lined_type (λ t. type_goes t.1) row_lined_type nameless (λ t. true) begins_name named_text (λ t. name >>= (λ n. pure (named_param t n))) (λ t. param_goes) (λ t q. named_row t) SpellsParam param_goes
    param_alone param_more (λ p u m. param_split_by p.line p.base p.name u m)
    (λ t p c v q m. let s = heads_made (named_param t) (lined_shown name_shown) p c v m in name_begins c s.0.1 (lined_is name_shown c s.0.0 s.0.1 s.1).1)
    (λ t c q i. let n = begins_name_is c i in begins_made (named_param t) (lined_shown name_shown) c (c.line, n.0) (lined_shows name_shown c n.0 n.1))
    (λ t u c m q i. let n = begins_name_is c i in type_name_apart t.1 c n.0 n.1)
    (λ t u c m. refl)
    (λ t p v c q m. refl)

none_goes : (t : TypeName) (n : Option ℕ) (c : Token) → type_goes t c ≡ false → begins_name c ≡ false → name_goes t n c ≡ false
none_goes t None c a b = rw (a, b) refl
none_goes t (Some n) c a b = refl

-- ---- parameters up to `)`

abbrev next_text : Param → List Token → Type 0
next_text = along (showing (mark_shown marks.Comma)) (λ m. SpellsParam)

next_row : Row next_text next_param param_goes
unfolding next_param
next_row = row_token (mark_shown marks.Comma) (λ m. SpellsParam) (λ m. param) param_goes (the_mark marks.Comma) _ (the_mark_shows marks.Comma) (λ m. row_param)

close_row : Row (showing (mark_shown marks.CloseParen)) (mark marks.CloseParen) (λ _ _. false)
close_row = row_one (mark_shown marks.CloseParen) (the_mark marks.CloseParen) _ (the_mark_shows marks.CloseParen)

abbrev more_text : List Param → List Token → Type 0
more_text = list_of (showing (mark_shown marks.CloseParen)) next_text

close_heads : (b : ℕ) (c : Token) (u : List Token) → showing (mark_shown marks.CloseParen) b (c ∷ u) → is_mark marks.CloseParen c ≡ true
close_heads b c u m = mark_is marks.CloseParen c b (heads_one (mark_shown marks.CloseParen) b c u m)

next_heads : (p : Param) (c : Token) (u : List Token) → next_text p (c ∷ u) → is_mark marks.CloseParen c ≡ false
next_heads p c u m = let s = heads_token (mark_shown marks.Comma) (λ m. SpellsParam) p c u m in (comma_stops_type p.base c s.0 s.1).2

next_apart : (p q : Param) (c : Token) (u : List Token) → next_text q (c ∷ u) → param_goes p c ≡ false
next_apart p q c u m = let s = heads_token (mark_shown marks.Comma) (λ m. SpellsParam) q c u m in let d = comma_stops_type p.base c s.0 s.1 in none_goes p.base p.name c d.0 d.1

close_apart : (p : Param) (b : ℕ) (c : Token) (u : List Token) → showing (mark_shown marks.CloseParen) b (c ∷ u) → param_goes p c ≡ false
close_apart p b c u m = let d = close_stops_type p.base c b (heads_one (mark_shown marks.CloseParen) b c u m) in none_goes p.base p.name c d.0 d.1

more_row : Row more_text more_params (λ _ _. false)
unfolding more_params
more_row = row_list (is_mark marks.CloseParen) (showing (mark_shown marks.CloseParen)) (mark marks.CloseParen) next_text next_param param_goes close_row next_row close_heads next_heads next_apart close_apart

abbrev some_text : List Param → List Token → Type 0
some_text = along SpellsParam (λ p. made (λ more. p ∷ more) more_text)

some_row : Row some_text some_params (λ _ _. false)
unfolding some_params
some_row = row_then SpellsParam param param_goes (λ p. made (λ more. p ∷ more) more_text) (λ p. more_params >>= (λ more. pure (p ∷ more))) (λ _ _. false) row_param
    (λ p. row_last more_text more_params (λ _ _. false) (λ more. p ∷ more) (λ _ _. false) more_row (λ x u c m. refl))
    (λ p t c s m. list_apart (is_mark marks.CloseParen) (showing (mark_shown marks.CloseParen)) (mark marks.CloseParen) next_text next_param param_goes close_row next_row close_heads next_heads next_apart close_apart p m.0 c s m.2)

abbrev ListText : List Param → List Token → Type 0
ListText = Listed Comma CloseParen SpellsParam

further_in : (ps : List Param) (u : List Token) → more_text ps u → Further Comma CloseParen SpellsParam ps u
further_in [] u m = m
further_in (p ∷ ps) u (a, b, same, (m, (a₂, b₂, same₂, comma, p_in)), rest) =
    (a₂, b₂ ++ b, same ∙ ap (λ (w : List Token). w ++ b) same₂ ∙ append_assoc a₂ b₂ b, (m, comma), (b₂, b, refl, p_in, further_in ps b rest))

further_back : (ps : List Param) (u : List Token) → Further Comma CloseParen SpellsParam ps u → more_text ps u
further_back [] u m = m
further_back (p ∷ ps) u (a, b, same, (m, comma), (b₁, b₂, same₂, p_in, rest)) =
    (a ++ b₁, b₂, same ∙ ap (λ (w : List Token). a ++ w) same₂ ∙ sym (append_assoc a b₁ b₂), (m, (a, b₁, refl, comma, p_in)), further_back ps b₂ rest)

abbrev none_text : List Param → List Token → Type 0
none_text = made (λ m. []) (showing (mark_shown marks.CloseParen))

none_row : Row none_text (mark marks.CloseParen >>= (λ m. pure [])) (λ _ _. false)
none_row = row_last (showing (mark_shown marks.CloseParen)) (mark marks.CloseParen) (λ _ _. false) (λ m. []) (λ _ _. false) close_row (λ x u c m. refl)

some_in : (ps : List Param) (u : List Token) → some_text ps u → ListText ps u
some_in ps u (p, (a, b, same, p_in, (more, is, rest))) =
    let made : ListText (p ∷ more) u = (a, b, same, p_in, further_in more b rest) in subst (λ (x : List Param). ListText x u) is made

none_in : (ps : List Param) (u : List Token) → none_text ps u → ListText ps u
none_in ps u (m, is, s) = let made : ListText [] u = (m, s) in subst (λ (x : List Param). ListText x u) is made

list_back : (ps : List Param) (u : List Token) → ListText ps u → some_text ps u ⊎ none_text ps u
list_back [] u (m, s) = inr (m, refl, s)
list_back (p ∷ ps) u (a, b, same, p_in, rest) = inl (p, (a, b, same, p_in, (ps, refl, further_back ps b rest)))

param_some : (p : Param) (u : List Token) → SpellsParam p u → u ≡ [] → ⊥
param_some p u (at, (a, b, same, type, k)) e = no_text a b (sym e ∙ same) (type_some p.base a type)

param_heads : (p : Param) (c : Token) (u : List Token) → SpellsParam p (c ∷ u) → begins_type c ≡ true
param_heads p c u (at, m) = first_part (λ d. begins_type d ≡ true) c u m (λ v s. type_some p.base v s) (λ v s. type_heads p.base c v s)

some_full : (ps : List Param) → some_text ps [] → ⊥
some_full ps (p, (a, b, same, p_in, m)) = no_text a b same (param_some p a p_in)

row_all_params : Row ListText all_params (λ _ _. false)
unfolding all_params choice
row_all_params = row_choice begins_type some_text none_text some_params (mark marks.CloseParen >>= (λ m. pure [])) (λ _ _. false) (λ c p. some_row) none_row ListText some_in none_in list_back some_full
    (λ ps c u m. first_part (λ d. begins_type d ≡ true) c u m.1 (λ v s. param_some m.0 v s) (λ v s. param_heads m.0 c v s))
    (λ ps c u m. let s = heads_made (λ m. []) (mark_shown marks.CloseParen) ps c u m in close_no_type c s.0 s.1)

-- ---- the word `void`

-- parameters up to `)`, or the word `void`
pub record ParamsText (t : List Param × Bool) (u : List Token) : Type 0 where
  pub fits : fits_params t.1 t.0 ≡ true
  pub spells : SpellsParams t.1 t.0 u

void_in : (u : List Token) → SpellsType types.Void u → Any (Key keys.Void) u
void_in [] s = absurd cc
void_in (c ∷ []) s = let is : c.kind ≡ kinds.Keyword keys.Void = cc in (c.line, (c, refl, key_shows keys.Void c (is_key_of keys.Void c is)))
void_in (c ∷ d ∷ u) s = absurd cc

void_back : (u : List Token) → Any (Key keys.Void) u → SpellsType types.Void u
void_back u (m, (c, one, s)) = ap kinds_of one ∙ ap (λ (k : TokenKind). k ∷ []) (key_kind_is keys.Void c m s)

one_in : (line : ℕ) (base : TypeName) (n : Option ℕ) (u : List Token) → (is_void base n ≡ false) → (fits_params false (record { line = line; base = base; name = n } ∷ []) ≡ true) → ListText (record { line = line; base = base; name = n } ∷ []) u
    → ParamsText (void_word (record { line = line; base = base; name = n } ∷ [])) u
one_in line base n u not_void fits m = rw not_void (record { fits = fits; spells = ([], u, refl, refl, m) })

word_in : (ps : List Param) (u : List Token) → ListText ps u → ParamsText (void_word ps) u
word_in [] u m = record { fits = refl; spells = ([], u, refl, refl, m) }
word_in (p ∷ q ∷ rest) u m = record { fits = refl; spells = ([], u, refl, refl, m) }
word_in (p ∷ []) u m = by_param p.line p.base p.name m
  where
    by_param : (line : ℕ) (base : TypeName) (n : Option ℕ) → ListText (record { line = line; base = base; name = n } ∷ []) u → ParamsText (void_word (record { line = line; base = base; name = n } ∷ [])) u
    by_param line types.Void None (a, b, same, (at, (a₂, b₂, same₂, type, nothing_is)), close) =
        let is : a ≡ a₂ = same₂ ∙ ap (λ (w : List Token). a₂ ++ w) nothing_is ∙ append-nil a₂ in
        record { fits = refl; spells = (a, b, same, void_in a (subst (λ (w : List Token). SpellsType types.Void w) (sym is) type), close) }
    by_param line types.Void (Some n) m = one_in line types.Void (Some n) u refl refl m
    by_param line base None m = one_in line base None u refl refl m
    by_param line base (Some n) m = one_in line base (Some n) u refl refl m

alone_of : (line : ℕ) (base : TypeName) (n : Option ℕ) → fits_params false (record { line = line; base = base; name = n } ∷ []) ≡ true
    → void_word (record { line = line; base = base; name = n } ∷ []) ≡ (record { line = line; base = base; name = n } ∷ [], false)
alone_of line types.Void None fits = absurd cc
alone_of line types.Void (Some n) fits = refl
alone_of line base None fits = refl
alone_of line base (Some n) fits = refl

word_back : (ps : List Param) (v : Bool) (u : List Token) → fits_params v ps ≡ true → SpellsParams v ps u → (qs : List Param) × (void_word qs ≡ (ps, v)) × ListText qs u
word_back [] false u fits m = ([], refl, without m)
  where
    without : SpellsParams false [] u → ListText [] u
    without (a, b, same, nothing_is, k) = let is : u ≡ b = same ∙ ap (λ (x : List Token). x ++ b) nothing_is in subst (λ (w : List Token). ListText [] w) (sym is) k
word_back [] true u fits m = with_word m
  where
    with_word : SpellsParams true [] u → (qs : List Param) × (void_word qs ≡ ([], true)) × ListText qs u
    with_word (a, b, same, w, close) =
        (record { line = line_at a; base = types.Void; name = None } ∷ [], refl, (a, b, same, (refl, (a, [], sym (append-nil a), void_back a w, refl)), close))
word_back (p ∷ []) false u fits m = (p ∷ [], alone_of p.line p.base p.name fits, without m)
  where
    without : SpellsParams false (p ∷ []) u → ListText (p ∷ []) u
    without (a, b, same, nothing_is, k) = let is : u ≡ b = same ∙ ap (λ (x : List Token). x ++ b) nothing_is in subst (λ (w : List Token). ListText (p ∷ []) w) (sym is) k
word_back (p ∷ q ∷ rest) false u fits m = (p ∷ q ∷ rest, refl, without m)
  where
    without : SpellsParams false (p ∷ q ∷ rest) u → ListText (p ∷ q ∷ rest) u
    without (a, b, same, nothing_is, k) = let is : u ≡ b = same ∙ ap (λ (x : List Token). x ++ b) nothing_is in subst (λ (w : List Token). ListText (p ∷ q ∷ rest) w) (sym is) k
word_back (p ∷ rest) true u fits m = absurd cc

pub row_params : Row ParamsText params (λ _ _. false)
unfolding params
row_params = row_map ListText all_params (λ _ _. false) row_all_params void_word ParamsText (λ _ _. false) word_in (λ t u m. word_back t.0 t.1 u m.fits m.spells) (λ x u c m. refl)
