-- External declarations are read exactly: objects, functions and prototypes.
use Rattle.std.proofs.Common.{◌≡◌, ℕ, zero, suc, ◌<◌, ◌≤◌, Bool, true, false, List, [], ◌∷◌, ◌++◌, Option, Some, None, refl, sym, ap, subst, ◌∙◌, inl, inr, append_assoc, arith}
use Rattle.std.specs.Prelude.{◌⊎◌, ◌&&◌, ◌||◌, not, is_some}
use Rattle.std.specs.Option.{IsSome}
use Rattle.std.specs.List.{AllByRecursion}
use Rattle.std.proofs.lemmas.Bool.{and_parts}
use Rattle.lz_tree.specs.declared.token.Token.{Token}
use Rattle.lz_tree.specs.declared.token.Punct.{Punct}
use Rattle.lz_tree.specs.declared.token.Punct.TheVariants as marks
use Rattle.lz_tree.specs.declared.expression.TypeName.{TypeName}
use Rattle.lz_tree.specs.declared.program.Param.{Param}
use Rattle.lz_tree.specs.declared.program.Lead.{Lead}
use Rattle.lz_tree.specs.declared.program.Lead.TheVariants as leads
use Rattle.lz_tree.specs.Languages.{◌⊙◌, showing, Any, Mark, NameToken, Further, is_mark, same_mark, mark_shown, name_shown, line_at}
use Rattle.lz_tree.specs.Spelling.{Comma, Semicolon, SpellsType, SpellsLength, SpellsInitializer, SpellsDeclarator, SpellsStatement, SpellsParams, SpellsHidden, SpellsLead, SpellsExternal}
use Rattle.lz_tree.specs.Trees.{Expression, Initializer, nothing, single, listed, mutex, cond, InitDeclarator, Statement, block, ExternalDeclaration, objects, prototype, function}
use Rattle.lz_tree.specs.Height.{declaration_height, statement_height}
use Rattle.lz_tree.specs.WellFormed.{InStatement, FitsDeclarator, FitsDeclaration, FitsStatement, fits_params, is_block}
use Rattle.lz_expr.specs.Fronts.{Viable}
use Rattle.lz_expr.specs.Reading.{◌>>=◌, pure, choice}
use Rattle.lz_expr.specs.Grammar.{mark, expr}
use Rattle.lz_expr.proofs.RowsLemmas.{Row, made, along, row_one, row_last, row_token, row_then, row_behind, row_choice, row_of, heads_token, heads_one, heads_made}
use Rattle.lz_expr.proofs.TokensLemmas.{the_mark, the_mark_shows, mark_is, mark_kind_is, is_mark_of, lined_to, lined_from, line_leads, some_shown, no_text}
use Rattle.lz_expr.proofs.ExpressionsLemmas.{first_part}
use Rattle.lz_grammar.specs.Grammar.{begins_type, declarator_from, more_declarators, stmt, params}
use Rattle.lz_grammar.proofs.AnyTypesLemmas.{TypeText, type_leads}
use Rattle.lz_grammar.proofs.DeclaratorsLemmas.{Rest, rest_into, rest_back, FromName, declarator_goes, exact_from, from_some}
use Rattle.lz_grammar.proofs.DeclarationsLemmas.{more_text, more_row, more_apart, more_into, more_back}
use Rattle.lz_grammar.proofs.ParamsLemmas.{ParamsText, row_params}
use Rattle.lz_grammar.proofs.FormsLemmas.{form, statement_goes, kind_first}
use Rattle.lz_grammar.proofs.StatementsLemmas.{Of, row_block}
use Rattle.lz_grammar.proofs.StatementHeightsLemmas.{row_statement}
use Rattle.lz_parse.specs.Grammar.{Heading, heading_of, is_hidden, is_outside, all_named, may_define, objects_of, prototype_of, function_of, objects_from, body, function_from, prototype_from, body_or_end, called_from, behind_heading, external, begins_lead, begins_external, InExternal, lined_heading}
use Rattle.lz_parse.proofs.HeadingsLemmas.{HeadingText, NameText, LinedHeading, row_lined_heading, heading_some, heading_heads, heading_begins}

abbrev pub never : ExternalDeclaration → Token → Bool
never e c = false

-- ---- tokens

no_paren : (c : Token) (p : Punct) (x : ℕ) → mark_shown p c ≡ Some x → same_mark p marks.OpenParen ≡ false → is_mark marks.OpenParen c ≡ false
unfolding is_mark
no_paren c p x h other = rw (mark_kind_is p c x h) other

bracket_no_paren : (c : Token) (x : ℕ) → mark_shown marks.OpenBracket c ≡ Some x → is_mark marks.OpenParen c ≡ false
unfolding same_mark
bracket_no_paren c x h = no_paren c marks.OpenBracket x h refl

equal_no_paren : (c : Token) (x : ℕ) → mark_shown marks.Assign c ≡ Some x → is_mark marks.OpenParen c ≡ false
unfolding same_mark
equal_no_paren c x h = no_paren c marks.Assign x h refl

comma_no_paren : (c : Token) (x : ℕ) → mark_shown marks.Comma c ≡ Some x → is_mark marks.OpenParen c ≡ false
unfolding same_mark
comma_no_paren c x h = no_paren c marks.Comma x h refl

semicolon_no_paren : (c : Token) (x : ℕ) → mark_shown marks.Semicolon c ≡ Some x → is_mark marks.OpenParen c ≡ false
unfolding same_mark
semicolon_no_paren c x h = no_paren c marks.Semicolon x h refl

semicolon_no_brace : (c : Token) (x : ℕ) → mark_shown marks.Semicolon c ≡ Some x → is_mark marks.OpenBrace c ≡ false
unfolding is_mark same_mark
semicolon_no_brace c x h = rw (mark_kind_is marks.Semicolon c x h) refl

-- ---- the parts of a heading

-- The tokens of the word before the type, of the type and of the name.
record Parts (d : Heading) (u : List Token) : Type 0 where
  lead : List Token
  type : List Token
  name : List Token
  same : u ≡ lead ++ (type ++ name)
  lead_in : SpellsLead d.word lead
  type_in : TypeText d.base type
  name_in : NameText d.name name

parts : (d : Heading) (u : List Token) → HeadingText d u → Parts d u
parts d u (w, (a, b, same, l, (t, (a₂, b₂, same₂, t_in, (n, is, n_in))))) =
    let made : Parts (heading_of w t n) u = record {
      lead = a;
      type = a₂;
      name = b₂;
      same = same ∙ ap (λ (z : List Token). a ++ z) same₂;
      lead_in = l;
      type_in = t_in;
      name_in = n_in;
    } in
    subst (λ (x : Heading). Parts x u) is made

-- a heading of these tokens, with the lines of its type and of its name
headed : (w : Lead) (base : TypeName) (name : ℕ) (a b c : List Token) → SpellsLead w a → SpellsType base b → showing name_shown name c → HeadingText (heading_of w (line_at b, base) (line_at c, name)) (a ++ (b ++ c))
headed w base name a b c l t n = (w, (a, b ++ c, refl, l, ((line_at b, base), (b, c, refl, (refl, t), ((line_at c, name), refl, lined_from name_shown (line_at c) name c refl n)))))

leads_on : (d : Heading) (u v : List Token) → HeadingText d u → line_at (u ++ v) ≡ line_at u
leads_on d u v m = line_leads u v (heading_some d u m)

-- ---- `static` and `extern`

hidden_into : (w : Lead) (u : List Token) → is_outside w ≡ false → SpellsLead w u → SpellsHidden (is_hidden w) u
hidden_into leads.Nothing u e m = m
hidden_into leads.Hidden u e m = m
hidden_into leads.Outside u e m = absurd cc

-- the word that says that a declaration is hidden
abbrev word_of : Bool → Lead
word_of true = leads.Hidden
word_of false = leads.Nothing

hidden_back : (hidden : Bool) (u : List Token) → SpellsHidden hidden u → SpellsLead (word_of hidden) u
hidden_back true u m = m
hidden_back false u m = m

hidden_same : (hidden : Bool) → is_hidden (word_of hidden) ≡ hidden
hidden_same true = refl
hidden_same false = refl

hidden_inside : (hidden : Bool) → is_outside (word_of hidden) ≡ false
hidden_inside true = refl
hidden_inside false = refl

-- ---- parameters that all have a name

named_into : (ps : List Param) → all_named ps ≡ true → AllByRecursion (λ p. IsSome p.name) ps
named_into [] h = tt
named_into (p ∷ rest) h = ((and_parts (is_some p.name) (all_named rest) h).0, named_into rest (and_parts (is_some p.name) (all_named rest) h).1)

named_back : (ps : List Param) → AllByRecursion (λ p. IsSome p.name) ps → all_named ps ≡ true
named_back [] h = refl
named_back (p ∷ rest) h = rw (h.0, named_back rest h.1) refl

defines_inside : (d : Heading) (ps : List Param × Bool) → may_define d ps ≡ true → is_outside d.word ≡ false
defines_inside d ps h = not_is (is_outside d.word) (and_parts (not (is_outside d.word)) (all_named ps.0) h).0
  where
    not_is : (q : Bool) → not q ≡ true → q ≡ false
    not_is true h = absurd cc
    not_is false h = refl

defines_named : (d : Heading) (ps : List Param × Bool) → may_define d ps ≡ true → all_named ps.0 ≡ true
defines_named d ps h = (and_parts (not (is_outside d.word)) (all_named ps.0) h).1

-- ---- statements

-- statements of at most a height that is not 0
pub row_at : (h : ℕ) → 0 < h → Row (InStatement h) (stmt h) statement_goes
row_at zero some = absurd (omega arith)
row_at (suc h) some = row_statement h

block_is : (s : Statement) → form s ≡ 2 → is_block s ≡ true
block_is (block ss) e = refl
block_is _ e = absurd (omega arith)

block_of : (s : Statement) → is_block s ≡ true → form s ≡ 2
block_of (block ss) e = refl
block_of _ e = absurd cc

block_ends : (s : Statement) (c : Token) → form s ≡ 2 → false ≡ statement_goes s c
block_ends (block ss) c e = refl
block_ends _ c e = absurd (omega arith)

-- ---- what stands behind the name of an object does not begin with `(`

any_heads : (p : Punct) (B : List Token → Type 0) (c : Token) (u : List Token) → (Any (Mark p) ⊙ B) (c ∷ u) → (x : ℕ) × (mark_shown p c ≡ Some x)
any_heads p B c u m = first_part (λ d. (x : ℕ) × (mark_shown p d ≡ Some x)) c u m (λ v s. some_shown (mark_shown p) s.0 v s.1) (λ v s. (s.0, heads_one (mark_shown p) s.0 c v s.1))

initializer_heads : (i : Initializer) (c : Token) (u : List Token) → SpellsInitializer i (c ∷ u) → is_mark marks.OpenParen c ≡ false
initializer_heads nothing c u m = absurd cc
initializer_heads (single e) c u m = let s = any_heads marks.Assign _ c u m in equal_no_paren c s.0 s.1
initializer_heads (listed es k) c u m = let s = any_heads marks.Assign _ c u m in equal_no_paren c s.0 s.1
initializer_heads mutex c u m = let s = any_heads marks.Assign _ c u m in equal_no_paren c s.0 s.1
initializer_heads cond c u m = let s = any_heads marks.Assign _ c u m in equal_no_paren c s.0 s.1

rest_heads : (len : Option Expression) (i : Initializer) (c : Token) (u : List Token) → (SpellsLength len ⊙ SpellsInitializer i) (c ∷ u) → is_mark marks.OpenParen c ≡ false
rest_heads None i c u (a, b, same, nil, m) =
    let all : c ∷ u ≡ b = same ∙ ap (λ (z : List Token). z ++ b) nil in
    initializer_heads i c u (subst (λ (z : List Token). SpellsInitializer i z) (sym all) m)
rest_heads (Some e) i c u (a, b, same, l, m) = first_part {B = SpellsInitializer i} (λ d. is_mark marks.OpenParen d ≡ false) c u (a, b, same, l, m) length_some (λ v s. let k = any_heads marks.OpenBracket _ c v s in bracket_no_paren c k.0 k.1)
  where
    length_some : (v : List Token) → SpellsLength (Some e) v → v ≡ [] → ⊥
    length_some v (x, y, same₂, s, k) nil = no_text x y (sym nil ∙ same₂) (some_shown (mark_shown marks.OpenBracket) s.0 x s.1)

module _ (h : ℕ) where
  more_heads : (ds : List InitDeclarator) (c : Token) (u : List Token) → more_text h ds (c ∷ u) → is_mark marks.OpenParen c ≡ false
  more_heads [] c u m = semicolon_no_paren c m.0 (heads_one (mark_shown marks.Semicolon) m.0 c u m.1)
  more_heads (d ∷ ds) c u (a, b, same, (x, (a₂, b₂, same₂, s, d_in)), m) =
      let all : c ∷ u ≡ a₂ ++ (b₂ ++ b) = same ∙ ap (λ (z : List Token). z ++ b) same₂ ∙ append_assoc a₂ b₂ b in
      comma_no_paren c x (first_part {B = λ z. z ≡ b₂ ++ b} (λ d. mark_shown marks.Comma d ≡ Some x) c u (a₂, b₂ ++ b, all, s, refl) (λ v k. some_shown (mark_shown marks.Comma) x v k) (λ v k. heads_one (mark_shown marks.Comma) x c v k))

  declarators_heads : (first : InitDeclarator) (ds : List InitDeclarator) (c : Token) (u r z : List Token) → c ∷ u ≡ r ++ z → Rest h first r → more_text h ds z → is_mark marks.OpenParen c ≡ false
  declarators_heads first ds c u [] z same m k = more_heads ds c u (subst (λ (w : List Token). more_text h ds w) (sym same) k)
  declarators_heads first ds c u (d ∷ r) z same m k =
      let is : d ≡ c = cc in
      subst (λ (x : Token). is_mark marks.OpenParen x ≡ false) is (rest_heads first.length first.first d r (rest_into h first (d ∷ r) m).2)

module _ (h : ℕ) where
  -- ---- objects

  abbrev objects_behind : Heading → ExternalDeclaration → List Token → Type 0
  objects_behind d = along (FromName (suc h) d.name) (λ first. made (λ more. objects_of d first more) (more_text (suc h)))

  objects_row : (d : Heading) → Row (objects_behind d) (objects_from (suc h) d) never
  unfolding objects_from
  objects_row d = row_behind (FromName (suc h) d.name) (declarator_from expr (suc h) d.name) (declarator_goes (suc h)) (λ first. made (λ more. objects_of d first more) (more_text (suc h))) (λ first. more_declarators expr (suc h) >>= (λ more. pure (objects_of d first more))) never
      (exact_from (suc h) d.name) (from_some (suc h) d.name)
      (λ first. row_last (more_text (suc h)) (more_declarators expr (suc h)) (λ _ _. false) (λ more. objects_of d first more) never (more_row (suc h)) (λ x u c m. refl))
      (λ first e c s m. more_apart (suc h) first m.0 c s m.2)

  -- objects behind a heading, which is not one of `extern`
  abbrev ObjectsText : ℕ × Heading → ExternalDeclaration → List Token → Type 0
  ObjectsText p e u = (is_outside p.1.word ≡ false) × objects_behind p.1 e u

  row_objects : (p : ℕ × Heading) → is_outside p.1.word ≡ false → Row (ObjectsText p) (objects_from (suc h) p.1) never
  row_objects p inside = row_of (objects_behind p.1) (objects_from (suc h) p.1) never never (objects_row p.1) (ObjectsText p) (λ e u m. (inside, m)) (λ e u m. m.1) (λ e u c m. refl)

  -- ---- functions and prototypes

  abbrev BodyText : Statement → List Token → Type 0
  BodyText = Of 2 h

  body_row : Row BodyText (body (suc h)) statement_goes
  unfolding body
  body_row = row_block h (stmt h) (λ some. row_at h some)

  abbrev FunctionText : ℕ × Heading → List Param × Bool → ExternalDeclaration → List Token → Type 0
  FunctionText p ps e u = (may_define p.1 ps ≡ true) × made (λ s. function_of p ps s) BodyText e u

  function_row : (p : ℕ × Heading) (ps : List Param × Bool) → may_define p.1 ps ≡ true → Row (FunctionText p ps) (function_from (suc h) p ps) never
  unfolding function_from
  function_row p ps may = row_of (made (λ s. function_of p ps s) BodyText) (body (suc h) >>= (λ s. pure (function_of p ps s))) never never
      (row_last BodyText (body (suc h)) statement_goes (λ s. function_of p ps s) never body_row (λ s u c m. block_ends s c m.0)) (FunctionText p ps) (λ e u m. (may, m)) (λ e u m. m.1) (λ e u c m. refl)

  abbrev PrototypeText : ℕ × Heading → List Param × Bool → ExternalDeclaration → List Token → Type 0
  PrototypeText p ps = made (λ m. prototype_of p ps) (showing (mark_shown marks.Semicolon))

  prototype_row : (p : ℕ × Heading) (ps : List Param × Bool) → Row (PrototypeText p ps) (prototype_from p ps) never
  unfolding prototype_from
  prototype_row p ps = row_last (showing (mark_shown marks.Semicolon)) (mark marks.Semicolon) (λ _ _. false) (λ m. prototype_of p ps) never (row_one (mark_shown marks.Semicolon) (the_mark marks.Semicolon) _ (the_mark_shows marks.Semicolon)) (λ m u c s. refl)

  abbrev EndText : ℕ × Heading → List Param × Bool → ExternalDeclaration → List Token → Type 0
  EndText p ps e u = FunctionText p ps e u ⊎ PrototypeText p ps e u

  body_some : (s : Statement) (u : List Token) → BodyText s u → u ≡ [] → ⊥
  body_some s u m e = let P : List Token → Type 0 = λ w. BodyText s w in body_row.full s (subst P e m)

  body_heads : (s : Statement) (c : Token) (u : List Token) → BodyText s (c ∷ u) → is_mark marks.OpenBrace c ≡ true
  body_heads (block ss) c u m = is_mark_of marks.OpenBrace c (kind_first (block ss) c u (omega arith) m.1.spells)
  body_heads _ c u m = let e = m.0 in absurd (omega arith)

  end_row : (p : ℕ × Heading) (ps : List Param × Bool) → Row (EndText p ps) (body_or_end (suc h) p ps) never
  unfolding body_or_end choice
  end_row p ps = row_choice (λ c. is_mark marks.OpenBrace c && may_define p.1 ps) (FunctionText p ps) (PrototypeText p ps) (function_from (suc h) p ps) (prototype_from p ps) never
      (λ c q. function_row p ps (and_parts (is_mark marks.OpenBrace c) (may_define p.1 ps) q).1) (prototype_row p ps) (EndText p ps) (λ e u m. inl m) (λ e u m. inr m) (λ e u m. m)
      (λ e m. body_some m.1.0 [] m.1.2 refl)
      (λ e c u m. rw (body_heads m.1.0 c u m.1.2, m.0) refl)
      (λ e c u m. let s = heads_made (λ m. prototype_of p ps) (mark_shown marks.Semicolon) e c u m in rw (semicolon_no_brace c s.0 s.1) refl)

  abbrev called_behind : ℕ × Heading → ℕ → ExternalDeclaration → List Token → Type 0
  called_behind p m = along ParamsText (EndText p)

  abbrev CalledText : ℕ × Heading → ExternalDeclaration → List Token → Type 0
  CalledText p = along (showing (mark_shown marks.OpenParen)) (called_behind p)

  called_row : (p : ℕ × Heading) → Row (CalledText p) (called_from (suc h) p) never
  unfolding called_from
  called_row p = row_token (mark_shown marks.OpenParen) (called_behind p) (λ m. params >>= body_or_end (suc h) p) never (the_mark marks.OpenParen) _ (the_mark_shows marks.OpenParen)
      (λ m. row_then ParamsText params (λ _ _. false) (EndText p) (body_or_end (suc h) p) never row_params (end_row p) (λ ps e c s k. refl))

  -- ---- behind a heading

  abbrev BehindText : ℕ × Heading → ExternalDeclaration → List Token → Type 0
  BehindText p e u = ObjectsText p e u ⊎ CalledText p e u

  abbrev no_call : ℕ × Heading → Token → Bool
  no_call p c = not (is_mark marks.OpenParen c) && not (is_outside p.1.word)

  no_call_inside : (p : ℕ × Heading) (c : Token) → no_call p c ≡ true → is_outside p.1.word ≡ false
  no_call_inside p c h = not_is (is_outside p.1.word) (and_parts (not (is_mark marks.OpenParen c)) (not (is_outside p.1.word)) h).1
    where
      not_is : (q : Bool) → not q ≡ true → q ≡ false
      not_is true h = absurd cc
      not_is false h = refl

  objects_no_call : (p : ℕ × Heading) (e : ExternalDeclaration) (c : Token) (u : List Token) → ObjectsText p e (c ∷ u) → no_call p c ≡ true
  objects_no_call p e c u (inside, (first, (r, z, same, rest, (more, is, z_in)))) = rw (declarators_heads (suc h) first more c u r z same rest.1 z_in, inside) refl

  behind_row : (p : ℕ × Heading) → Row (BehindText p) (behind_heading (suc h) p) never
  unfolding behind_heading choice
  behind_row p = row_choice (no_call p) (ObjectsText p) (CalledText p) (objects_from (suc h) p.1) (called_from (suc h) p) never
      (λ c q. row_objects p (no_call_inside p c q)) (called_row p) (BehindText p) (λ e u m. inl m) (λ e u m. inr m) (λ e u m. m)
      (λ e m. (objects_row p.1).full e m.1)
      (objects_no_call p)
      (λ e c u m. let s = heads_token (mark_shown marks.OpenParen) (called_behind p) e c u m in rw (mark_is marks.OpenParen c s.0 s.1) refl)

  -- ---- the same in the words of the grammar

  abbrev Row_text : ExternalDeclaration → List Token → Type 0
  Row_text = along LinedHeading BehindText

  objects_into : (line : ℕ) (d : Heading) (u v : List Token) → HeadingText d u → is_outside d.word ≡ false → (first : InitDeclarator) (r z : List Token) → v ≡ r ++ z → FromName (suc h) d.name first r
      → (more : List InitDeclarator) → more_text (suc h) more z → InExternal (suc h) (objects_of d first more) (u ++ v)
  objects_into line d u v head inside first r z same rest more z_in =
      let p = parts d u head in
      let n = lined_to name_shown d.name.0 d.name.1 p.name p.name_in in
      let k = rest_into (suc h) first r rest.1 in
      let m = more_into (suc h) more z z_in in
      let line_is : d.name.0 ≡ first.line = sym (ap (λ (q : ℕ × ℕ). q.0) rest.0) in
      let name_is : d.name.1 ≡ first.name = sym (ap (λ (q : ℕ × ℕ). q.1) rest.0) in
      let name_in : showing name_shown first.name p.name = subst (λ (i : ℕ). showing name_shown i p.name) name_is n.1 in
      record {
        low = (let a = k.0 in let b = m.0 in omega arith);
        fits = (λ no. cc, (k.1, m.1));
        spells = (
          p.lead,
          p.type ++ ((p.name ++ r) ++ z),
          ap (λ (w : List Token). w ++ v) p.same ∙ ap (λ (w : List Token). (p.lead ++ (p.type ++ p.name)) ++ w) same ∙ texts p.lead p.type p.name r z,
          hidden_into d.word p.lead inside p.lead_in,
          (
            type_leads d.base.1 p.type ((p.name ++ r) ++ z) p.type_in.1 ∙ p.type_in.0,
            (
              p.type,
              (p.name ++ r) ++ z,
              refl,
              p.type_in.1,
              (p.name ++ r, z, refl, (line_leads p.name r (some_shown name_shown first.name p.name name_in) ∙ n.0 ∙ line_is, (p.name, r, refl, name_in, k.2)), m.2),
            ),
          ),
        );
      }
    where
      texts : (a b c r z : List Token) → (a ++ (b ++ c)) ++ (r ++ z) ≡ a ++ (b ++ ((c ++ r) ++ z))
      texts a b c r z = simp append_assoc

  objects_back : (hidden : Bool) (line : ℕ) (base : TypeName) (ds : List InitDeclarator) (u : List Token) → InExternal (suc h) (objects hidden (record { line = line; base = base; declarators = ds })) u
      → Row_text (objects hidden (record { line = line; base = base; declarators = ds })) u
  objects_back hidden line base ds u m = by_list ds m.low m.fits m.spells
    where
      texts : (a b n r z : List Token) → a ++ (b ++ ((n ++ r) ++ z)) ≡ (a ++ (b ++ n)) ++ (r ++ z)
      texts a b n r z = simp append_assoc

      by_parts : (first : InitDeclarator) (more : List InitDeclarator) → declaration_height (record { line = line; base = base; declarators = first ∷ more }) ≤ suc h → FitsDeclarator first → AllByRecursion FitsDeclarator more
          → (a b n r z : List Token) → u ≡ a ++ (b ++ ((n ++ r) ++ z)) → SpellsHidden hidden a → line_at (b ++ ((n ++ r) ++ z)) ≡ line → SpellsType base b → line_at (n ++ r) ≡ first.line → NameToken first.name n
          → (SpellsLength first.length ⊙ SpellsInitializer first.first) r → Further Comma Semicolon SpellsDeclarator more z → Row_text (objects hidden (record { line = line; base = base; declarators = first ∷ more })) u
      by_parts first more low fits fits_more a b n r z same hid at type at_name name rest further =
          let type_line : line_at b ≡ line = sym (type_leads base b ((n ++ r) ++ z) type) ∙ at in
          let name_line : line_at n ≡ first.line = sym (line_leads n r (some_shown name_shown first.name n name)) ∙ at_name in
          let d : Heading = heading_of (word_of hidden) (line_at b, base) (line_at n, first.name) in (
            (line_at (a ++ (b ++ n)), d),
            (
              a ++ (b ++ n),
              r ++ z,
              same ∙ texts a b n r z,
              (refl, headed (word_of hidden) base first.name a b n (hidden_back hidden a hid) type name),
              inl (
                hidden_inside hidden,
                (
                  first,
                  (
                    r,
                    z,
                    refl,
                    (ap (λ (i : ℕ). (i, first.name)) (sym name_line), rest_back (suc h) first r (omega arith) fits rest),
                    (
                      more,
                      ap (λ (q : Bool). objects q (record { line = line_at b; base = base; declarators = first ∷ more })) (hidden_same hidden)
                          ∙ ap (λ (i : ℕ). objects hidden (record { line = i; base = base; declarators = first ∷ more })) type_line,
                      more_back (suc h) more z (omega arith) fits_more further,
                    ),
                  ),
                ),
              ),
            ),
          )

      by_list : (ds : List InitDeclarator) → declaration_height (record { line = line; base = base; declarators = ds }) ≤ suc h → FitsDeclaration (record { line = line; base = base; declarators = ds })
          → SpellsExternal (objects hidden (record { line = line; base = base; declarators = ds })) u → Row_text (objects hidden (record { line = line; base = base; declarators = ds })) u
      by_list [] low fits m = absurd (fits.0 refl)
      by_list (first ∷ more) low fits (a, w, same, hid, (at, (b, x, same₂, type, (y, z, same₃, (at_name, (n, r, same₄, name, rest)), further)))) =
          let x_is : x ≡ (n ++ r) ++ z = same₃ ∙ ap (λ (q : List Token). q ++ z) same₄ in
          let w_is : w ≡ b ++ ((n ++ r) ++ z) = same₂ ∙ ap (λ (q : List Token). b ++ q) x_is in
          by_parts first more low fits.1.0 fits.1.1 a b n r z (same ∙ ap (λ (q : List Token). a ++ q) w_is) hid (sym (ap line_at w_is) ∙ at) type (sym (ap line_at same₄) ∙ at_name) name rest further

  -- ---- what a function and a prototype share

  -- what spells a name with parameters: a word or none, a type, the name, the parameters, and what ends it
  abbrev Shared : (List Token → Type 0) → TypeName → ℕ → List Param × Bool → (List Token → Type 0) → List Token → Type 0
  Shared word base name ps end = word ⊙ (SpellsType base ⊙ (NameToken name ⊙ (Any (Mark marks.OpenParen) ⊙ (SpellsParams ps.1 ps.0 ⊙ end))))

  shared_into : (d : Heading) (ps : List Param × Bool) (word end : List Token → Type 0) (u v o w q t : List Token) (m : ℕ) → HeadingText d u → ((a : List Token) → SpellsLead d.word a → word a) → v ≡ o ++ w → w ≡ q ++ t
      → showing (mark_shown marks.OpenParen) m o → SpellsParams ps.1 ps.0 q → end t → Shared word d.base.1 d.name.1 ps end (u ++ v)
  shared_into d ps word end u v o w q t m head words same same₂ s ps_in end_in =
      let p = parts d u head in
      let n = lined_to name_shown d.name.0 d.name.1 p.name p.name_in in
      let v_is : v ≡ o ++ (q ++ t) = same ∙ ap (λ (z : List Token). o ++ z) same₂ in (
        p.lead,
        p.type ++ (p.name ++ (o ++ (q ++ t))),
        ap (λ (z : List Token). z ++ v) p.same ∙ ap (λ (z : List Token). (p.lead ++ (p.type ++ p.name)) ++ z) v_is ∙ texts p.lead p.type p.name (o ++ (q ++ t)),
        words p.lead p.lead_in,
        (p.type, p.name ++ (o ++ (q ++ t)), refl, p.type_in.1, (p.name, o ++ (q ++ t), refl, n.1, (o, q ++ t, refl, (m, s), (q, t, refl, ps_in, end_in)))),
      )
    where
      texts : (a b c z : List Token) → (a ++ (b ++ c)) ++ z ≡ a ++ (b ++ (c ++ z))
      texts a b c z = simp append_assoc

  -- The tokens of a heading, of `(`, of the parameters and of the end.
  record Divided (w : Lead) (base : TypeName) (name : ℕ) (ps : List Param × Bool) (end : List Token → Type 0) (u : List Token) : Type 0 where
    at_base : ℕ
    at_name : ℕ
    head : List Token
    open_in : List Token
    inside : List Token
    behind : List Token
    same : u ≡ head ++ (open_in ++ (inside ++ behind))
    head_in : HeadingText (heading_of w (at_base, base) (at_name, name)) head
    opens : (m : ℕ) × showing (mark_shown marks.OpenParen) m open_in
    params_in : SpellsParams ps.1 ps.0 inside
    end_in : end behind

  shared_back : (w : Lead) (base : TypeName) (name : ℕ) (ps : List Param × Bool) (word end : List Token → Type 0) (u : List Token) → ((a : List Token) → word a → SpellsLead w a) → Shared word base name ps end u → Divided w base name ps end u
  shared_back w base name ps word end u words (a, x, same, a_in, (b, y, same₂, type, (c, z, same₃, n_in, (o, r, same₄, o_in, (q, t, same₅, ps_in, end_in))))) =
      let z_is : z ≡ o ++ (q ++ t) = same₄ ∙ ap (λ (k : List Token). o ++ k) same₅ in
      let y_is : y ≡ c ++ (o ++ (q ++ t)) = same₃ ∙ ap (λ (k : List Token). c ++ k) z_is in
      let x_is : x ≡ b ++ (c ++ (o ++ (q ++ t))) = same₂ ∙ ap (λ (k : List Token). b ++ k) y_is in
      record {
        at_base = line_at b;
        at_name = line_at c;
        head = a ++ (b ++ c);
        open_in = o;
        inside = q;
        behind = t;
        same = same ∙ ap (λ (k : List Token). a ++ k) x_is ∙ texts a b c (o ++ (q ++ t));
        head_in = headed w base name a b c (words a a_in) type n_in;
        opens = o_in;
        params_in = ps_in;
        end_in = end_in;
      }
    where
      texts : (a b c z : List Token) → a ++ (b ++ (c ++ z)) ≡ (a ++ (b ++ c)) ++ z
      texts a b c z = simp append_assoc

  function_into : (p : ℕ × Heading) (u v : List Token) → LinedHeading p u → (m : ℕ) (o w q t : List Token) → v ≡ o ++ w → w ≡ q ++ t → showing (mark_shown marks.OpenParen) m o → (ps : List Param × Bool) → ParamsText ps q
      → may_define p.1 ps ≡ true → (s : Statement) → BodyText s t → InExternal (suc h) (function_of p ps s) (u ++ v)
  function_into p u v head m o w q t same same₂ s ps ps_in may body body_in = record {
    low = body_in.1.low;
    fits = (ps_in.fits, named_into ps.0 (defines_named p.1 ps may), block_is body body_in.0, body_in.1.fits);
    spells = (
      leads_on p.1 u v head.1 ∙ head.0,
      shared_into p.1 ps (SpellsHidden (is_hidden p.1.word)) (SpellsStatement body) u v o w q t m head.1 (λ a l. hidden_into p.1.word a (defines_inside p.1 ps may) l) same same₂ s ps_in.spells body_in.1.spells,
    );
  }

  prototype_into : (p : ℕ × Heading) (u v : List Token) → LinedHeading p u → (m : ℕ) (o w q t : List Token) → v ≡ o ++ w → w ≡ q ++ t → showing (mark_shown marks.OpenParen) m o → (ps : List Param × Bool) → ParamsText ps q
      → (k : ℕ) → showing (mark_shown marks.Semicolon) k t → InExternal (suc h) (prototype_of p ps) (u ++ v)
  prototype_into p u v head m o w q t same same₂ s ps ps_in k end_in = record {
    low = omega arith;
    fits = ps_in.fits;
    spells = (leads_on p.1 u v head.1 ∙ head.0, shared_into p.1 ps (SpellsLead p.1.word) Semicolon u v o w q t m head.1 (λ a l. l) same same₂ s ps_in.spells (k, end_in));
  }

  behind_into : (p : ℕ × Heading) (e : ExternalDeclaration) (u v : List Token) → LinedHeading p u → BehindText p e v → InExternal (suc h) e (u ++ v)
  behind_into p e u v head (inl (inside, (first, (r, z, same, rest, (more, is, z_in))))) =
      subst (λ (x : ExternalDeclaration). InExternal (suc h) x (u ++ v)) is (objects_into p.0 p.1 u v head.1 inside first r z same rest more z_in)
  behind_into p e u v head (inr (m, (o, w, same, s, (ps, (q, t, same₂, ps_in, inl (may, (body, is, body_in))))))) =
      subst (λ (x : ExternalDeclaration). InExternal (suc h) x (u ++ v)) is (function_into p u v head m o w q t same same₂ s ps ps_in may body body_in)
  behind_into p e u v head (inr (m, (o, w, same, s, (ps, (q, t, same₂, ps_in, inr (k, is, end_in)))))) =
      subst (λ (x : ExternalDeclaration). InExternal (suc h) x (u ++ v)) is (prototype_into p u v head m o w q t same same₂ s ps ps_in k end_in)

  external_into : (e : ExternalDeclaration) (u : List Token) → Row_text e u → InExternal (suc h) e u
  external_into e u (p, (a, b, same, head, m)) = subst (λ (w : List Token). InExternal (suc h) e w) (sym same) (behind_into p e a b head m)

  prototype_back : (line : ℕ) (w : Lead) (base : TypeName) (name : ℕ) (ps : List Param × Bool) (u : List Token) → fits_params ps.1 ps.0 ≡ true → line_at u ≡ line → Divided w base name ps Semicolon u → Row_text (prototype line w base name ps.0 ps.1) u
  prototype_back line w base name ps u fits at k =
      let d : Heading = heading_of w (k.at_base, base) (k.at_name, name) in (
        (line, d),
        (
          k.head,
          k.open_in ++ (k.inside ++ k.behind),
          k.same,
          (sym (leads_on d k.head (k.open_in ++ (k.inside ++ k.behind)) k.head_in) ∙ sym (ap line_at k.same) ∙ at, k.head_in),
          inr (k.opens.0, (k.open_in, k.inside ++ k.behind, refl, k.opens.1, (ps, (k.inside, k.behind, refl, record { fits = fits; spells = k.params_in }, inr (k.end_in.0, refl, k.end_in.1))))),
        ),
      )

  function_back : (line : ℕ) (hidden : Bool) (base : TypeName) (name : ℕ) (ps : List Param × Bool) (body : Statement) (u : List Token) → fits_params ps.1 ps.0 ≡ true → all_named ps.0 ≡ true → (is_block body ≡ true) × (statement_height body ≤ suc h) × FitsStatement body
      → line_at u ≡ line → Divided (word_of hidden) base name ps (SpellsStatement body) u → Row_text (function line hidden base name ps.0 ps.1 body) u
  function_back line hidden base name ps body u fits named good at k =
      let d : Heading = heading_of (word_of hidden) (k.at_base, base) (k.at_name, name) in (
        (line, d),
        (
          k.head,
          k.open_in ++ (k.inside ++ k.behind),
          k.same,
          (sym (leads_on d k.head (k.open_in ++ (k.inside ++ k.behind)) k.head_in) ∙ sym (ap line_at k.same) ∙ at, k.head_in),
          inr (
            k.opens.0,
            (
              k.open_in,
              k.inside ++ k.behind,
              refl,
              k.opens.1,
              (
                ps,
                (
                  k.inside,
                  k.behind,
                  refl,
                  record { fits = fits; spells = k.params_in },
                  inl (
                    rw (hidden_inside hidden, named) refl,
                    (
                      body,
                      ap (λ (q : Bool). function line q base name ps.0 ps.1 body) (hidden_same hidden),
                      (block_of body good.0, record { low = good.1; fits = good.2; spells = k.end_in }),
                    ),
                  ),
                ),
              ),
            ),
          ),
        ),
      )

  external_back : (e : ExternalDeclaration) (u : List Token) → InExternal (suc h) e u → Row_text e u
  external_back (objects hidden of) u m = objects_back hidden of.line of.base of.declarators u m
  external_back (prototype line w base name params vw) u m = prototype_back line w base name (params, vw) u m.fits m.spells.0 (shared_back w base name (params, vw) (SpellsLead w) Semicolon u (λ a l. l) m.spells.1)
  external_back (function line hidden base name params vw body) u m =
      function_back line hidden base name (params, vw) body u m.fits.0 (named_back params m.fits.1) (m.fits.2, m.low, m.fits.3) m.spells.0
      (shared_back (word_of hidden) base name (params, vw) (SpellsHidden hidden) (SpellsStatement body) u (λ a l. hidden_back hidden a l) m.spells.1)

  pub row_external : Row (InExternal (suc h)) (external (suc h)) never
  unfolding external
  row_external = row_of Row_text (lined_heading >>= behind_heading (suc h)) never never
      (row_then LinedHeading lined_heading (λ _ _. false) BehindText (behind_heading (suc h)) never row_lined_heading behind_row (λ p e c s m. refl))
      (InExternal (suc h)) external_into external_back (λ e u c m. refl)

  -- an external declaration begins with a word of it or of a type
  pub external_heads : (e : ExternalDeclaration) (c : Token) (u : List Token) → InExternal (suc h) e (c ∷ u) → begins_external c ≡ true
  unfolding begins_external
  external_heads e c u m = by_parts (external_back e (c ∷ u) m)
    where
      by_parts : Row_text e (c ∷ u) → (begins_lead c || begins_type c) ≡ true
      by_parts (p, m) = first_part (λ x. (begins_lead x || begins_type x) ≡ true) c u m (λ v s. heading_some p.1 v s.1) (λ v s. heading_heads p.1 c v s.1)

  -- and each such token begins one
  pub external_begins : (c : Token) → begins_external c ≡ true → Viable (InExternal (suc h)) (c ∷ [])
  unfolding begins_external
  external_begins c e =
      let d = heading_begins c e in
      let p : ℕ × Heading = (line_at (c ∷ d.1), d.0) in
      let more = (behind_row p).some in
      (more.0, d.1 ++ more.1, external_into more.0 (c ∷ (d.1 ++ more.1)) (p, (c ∷ d.1, more.1, refl, (refl, d.2), more.2)))
