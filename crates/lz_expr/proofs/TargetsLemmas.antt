-- What begins with a name is read exactly where its parts are: objects, elements, calls and steps.
use Rattle.std.proofs.Common.{◌≡◌, ℕ, suc, ◌<◌, ◌≤◌, Bool, true, false, List, [], ◌∷◌, ◌++◌, Some, refl, sym, ap, subst, ◌∙◌, inl, inr, append_assoc, append-nil, arith, nat_lt}
use Rattle.std.specs.Prelude.{◌⊎◌, ◌&&◌, ◌||◌, not}
use Rattle.std.proofs.lemmas.Bool.{and_parts, lt-ltb, ltb-true}
use Rattle.std.proofs.Math.Bool.{and-false}
use Rattle.lz_tree.specs.declared.token.Token.{Token}
use Rattle.lz_tree.specs.declared.token.TokenKind.{TokenKind}
use Rattle.lz_tree.specs.declared.token.TokenKind.TheVariants as kinds
use Rattle.lz_tree.specs.declared.token.Punct.{Punct}
use Rattle.lz_tree.specs.declared.token.Punct.TheVariants as marks
use Rattle.lz_tree.specs.Languages.{showing, is_mark, same_mark, mark_shown, name_shown, meant_by, mark_in, line_at}
use Rattle.lz_tree.specs.Spelling.{step_of, SpellsExpression, SpellsList, SpellsFurther, CloseParen}
use Rattle.lz_tree.specs.Trees.{Expression, object, step, call, Index, whole, element, Expressions, expressions_of}
use Rattle.lz_tree.specs.Height.{highest}
use Rattle.lz_tree.specs.WellFormed.{InExpression, FitsAll}
use Rattle.lz_expr.specs.Reading.{Reader, ◌>>=◌, pure, shows, choice}
use Rattle.lz_expr.specs.Grammar.{mark, name, lined_shown, step_shown, is_object, is_whole, called, indexed, target, next_argument, more_arguments, some_arguments, no_arguments, arguments, call_of, called_or_not, opening_of}
use Rattle.lz_expr.proofs.RowsLemmas.{Row, made, along, row_one, row_last, row_token, row_then, row_close, row_choice, heads_token, heads_one, heads_made, begins_token}
use Rattle.lz_expr.proofs.TailLemmas.{Extended, row_tail}
use Rattle.lz_expr.proofs.ListsLemmas.{list_of, row_list, list_apart}
use Rattle.lz_expr.proofs.TokensLemmas.{the_mark, the_mark_shows, token_of, mark_is, mark_shows, mark_kind_is, is_mark_is, lined_to, lined_from, lined_shows, shows_some, shows_lined, line_leads, some_shown, no_text}
use Rattle.lz_expr.proofs.GoesLemmas.{below, target_goes, called_goes, class_goes, close_bracket_stops, close_paren_stops, comma_stops}
use Rattle.lz_expr.proofs.ExpressionsLemmas.{tall, level_small, some_text, heads, is_opening, expressions_list, expressions_back}

-- an expression of a form, up to a height
abbrev pub Of : (Expression → Bool) → ℕ → Expression → List Token → Type 0
Of f h e u = (f e ≡ true) × InExpression (suc h) 0 e u

-- objects and calls
abbrev pub is_called : Expression → Bool
is_called (object line n i) = true
is_called (call line n args) = true
is_called e = false

-- objects, calls, and steps behind an object
abbrev pub is_named : Expression → Bool
is_named (object line n i) = true
is_named (call line n args) = true
is_named (step line at n i up false) = true
is_named e = false

paren_no_bracket : (c : Token) → is_mark marks.OpenParen c ≡ true → is_mark marks.OpenBracket c ≡ false
unfolding is_mark same_mark
paren_no_bracket c h = rw (is_mark_is marks.OpenParen c h) refl

comma_no_paren : (c : Token) (x : ℕ) → mark_shown marks.Comma c ≡ Some x → is_mark marks.CloseParen c ≡ false
unfolding is_mark same_mark
comma_no_paren c x h = rw (mark_kind_is marks.Comma c x h) refl

opening_no_paren : (c : Token) → is_opening (opening_of c.kind) ≡ true → is_mark marks.CloseParen c ≡ false
opening_no_paren c h = by_test (is_mark marks.CloseParen c) refl
  where
    by_test : (q : Bool) → is_mark marks.CloseParen c ≡ q → is_mark marks.CloseParen c ≡ false
    by_test true e = let k : is_opening (opening_of c.kind) ≡ false = ap (λ (x : TokenKind). is_opening (opening_of x)) (is_mark_is marks.CloseParen c e) in absurd cc
    by_test false e = e

step_marks : (m : Punct) (up : Bool) → step_of m ≡ Some up → (same_mark m marks.OpenBracket ≡ false) × (same_mark m marks.OpenParen ≡ false)
unfolding same_mark
step_marks marks.Increment up h = (refl, refl)
step_marks marks.Decrement up h = (refl, refl)
step_marks _ up h = absurd cc

step_kinds : (c : Token) (k : TokenKind) (up : Bool) → c.kind ≡ k → mark_in step_of k ≡ Some up → (is_mark marks.OpenBracket c ≡ false) × (is_mark marks.OpenParen c ≡ false)
unfolding is_mark
step_kinds c (kinds.Punct m) up e h = let d = step_marks m up h in (rw e d.0, rw e d.1)
step_kinds c (kinds.Name number) up e h = absurd cc
step_kinds c (kinds.Constant value form) up e h = absurd cc
step_kinds c kinds.Text up e h = absurd cc
step_kinds c (kinds.Keyword word) up e h = absurd cc

pub step_no_mark : (c : Token) → shows (step_shown c) ≡ true → (is_mark marks.OpenBracket c ≡ false) × (is_mark marks.OpenParen c ≡ false)
unfolding meant_by
step_no_mark c h =
    let s = shows_some (meant_by step_of c) (sym (shows_lined (meant_by step_of) c) ∙ h) in step_kinds c c.kind s.0 refl s.1

pub the_name : Token
the_name = token_of (kinds.Name 0)

pub name_shows : lined_shown name_shown the_name ≡ Some (the_name.line, 0)
unfolding the_name name_shown token_of
name_shows = lined_shows name_shown (token_of (kinds.Name 0)) 0 refl

module _ (h : ℕ) (inner : ℕ → Reader Token Expression) (rows : 0 < h → (c : ℕ) → c ≤ 12 → Row (InExpression h c) (inner c) (class_goes (below h) c)) where
  -- ---- objects and elements

  abbrev index_behind : ℕ × ℕ → ℕ → Expression → List Token → Type 0
  index_behind n m = along (InExpression h 12) (λ i. made (λ e. object n.0 n.1 (element i)) (showing (mark_shown marks.CloseBracket)))

  abbrev index_text : ℕ × ℕ → Expression → List Token → Type 0
  index_text n = along (showing (mark_shown marks.OpenBracket)) (index_behind n)

  behind_row : 0 < h → (n : ℕ × ℕ) (m : ℕ) → Row (index_behind n m) (inner 12 >>= (λ i. mark marks.CloseBracket >>= (λ e. pure (object n.0 n.1 (element i))))) (target_goes h)
  behind_row some n m =
      row_close (InExpression h 12) (inner 12) (class_goes (below h) 12) (mark_shown marks.CloseBracket) (λ i e. object n.0 n.1 (element i)) (target_goes h) (rows some 12 (omega arith))
      (the_mark marks.CloseBracket) _ (the_mark_shows marks.CloseBracket) (close_bracket_stops (below h) 12) (λ i e c. refl)

  index_row : 0 < h → (n : ℕ × ℕ) → Row (index_text n) (indexed inner h n) (target_goes h)
  unfolding indexed
  index_row some n = row_token (mark_shown marks.OpenBracket) (index_behind n) _ (target_goes h) (the_mark marks.OpenBracket) _ (the_mark_shows marks.OpenBracket) (behind_row some n)

  object_in : (n : ℕ × ℕ) (u : List Token) → showing (lined_shown name_shown) n u → Of is_object h (object n.0 n.1 whole) u
  object_in n u m =
      let s = lined_to name_shown n.0 n.1 u m in
      (refl, record { low = omega arith; tight = omega arith; fits = tt; spells = (s.0, (u, [], sym (append-nil u), s.1, refl)) })

  name_some : (n : ℕ × ℕ) (u : List Token) → showing (lined_shown name_shown) n u → u ≡ [] → ⊥
  name_some n u m = some_shown (lined_shown name_shown) n u m

  element_in : (n : ℕ × ℕ) (t : Expression) (u v : List Token) → showing (lined_shown name_shown) n u → nat_lt 0 h ≡ true → index_text n t v → Of is_object h t (u ++ v)
  element_in n t u v s q (m, (a, b, same, opens, (i, (a₂, b₂, same₂, i_in, (e, is, close))))) =
      let l = lined_to name_shown n.0 n.1 u s in
      let made : Of is_object h (object n.0 n.1 (element i)) (u ++ v) = (
        refl,
        record {
          low = (let x = i_in.low in omega arith);
          tight = omega arith;
          fits = i_in.fits;
          spells = (line_leads u v (name_some n u s) ∙ l.0, (u, v, refl, l.1, (a, b, same, (m, opens), (a₂, b₂, same₂, i_in.spells, (e, close)))));
        },
      ) in
      subst (λ (x : Expression). Of is_object h x (u ++ v)) is made

  split_target : (line n : ℕ) (i : Index) (u : List Token) → InExpression (suc h) 0 (object line n i) u
      → ((x : ℕ × ℕ) × (object x.0 x.1 whole ≡ object line n i) × showing (lined_shown name_shown) x u) ⊎ Extended (showing (lined_shown name_shown)) (λ x. nat_lt 0 h) index_text (object line n i) u
  split_target line n whole u m = whole_by u m.spells
    where
      whole_by : (u : List Token) → SpellsExpression (object line n whole) u
          → ((x : ℕ × ℕ) × (object x.0 x.1 whole ≡ object line n whole) × showing (lined_shown name_shown) x u) ⊎ Extended (showing (lined_shown name_shown)) (λ x. nat_lt 0 h) index_text (object line n whole) u
      whole_by u (at, (a, b, same, s, nothing)) =
          let is : u ≡ a = same ∙ ap (λ (w : List Token). a ++ w) nothing ∙ append-nil a in
          inl ((line, n), refl, lined_from name_shown line n u at (subst (λ (w : List Token). showing name_shown n w) (sym is) s))
  split_target line n (element i) u m = element_by u m.spells
    where
      element_by : (u : List Token) → SpellsExpression (object line n (element i)) u
          → ((x : ℕ × ℕ) × (object x.0 x.1 whole ≡ object line n (element i)) × showing (lined_shown name_shown) x u) ⊎ Extended (showing (lined_shown name_shown)) (λ x. nat_lt 0 h) index_text (object line n (element i)) u
      element_by u (at, (a, b, same, s, (a₂, b₂, same₂, (o, opens), (a₃, b₃, same₃, i_spells, (e, close))))) =
          let high = tall i in
          let low = m.low in
          inr (record {
            start = (line, n);
            before = a;
            behind = b;
            same = same;
            start_in = lined_from name_shown line n a (sym (line_leads a b (some_shown name_shown n a s)) ∙ ap line_at (sym same) ∙ at) s;
            may = lt-ltb 0 h (omega arith);
            rest_in = (o, (a₂, b₂, same₂, opens, (i, (a₃, b₃, same₃, record { low = omega arith; tight = level_small i; fits = m.fits; spells = i_spells }, (e, refl, close)))));
          })

  split_object : (t : Expression) (u : List Token) → Of is_object h t u
      → ((x : ℕ × ℕ) × (object x.0 x.1 whole ≡ t) × showing (lined_shown name_shown) x u) ⊎ Extended (showing (lined_shown name_shown)) (λ x. nat_lt 0 h) index_text t u
  split_object (object line n i) u m = split_target line n i u m.1
  split_object _ u m = let no = m.0 in absurd cc

  pub row_target : Row (Of is_object h) (target inner h) (target_goes h)
  unfolding target
  row_target = row_tail (showing (lined_shown name_shown)) name (λ _ _. false) (row_one (lined_shown name_shown) the_name _ name_shows) (λ n. object n.0 n.1 whole) (λ n. nat_lt 0 h) (is_mark marks.OpenBracket)
      index_text (indexed inner h) (λ n. target_goes h) (λ n q. index_row (ltb-true 0 h q) n) (Of is_object h) (target_goes h)
      object_in element_in split_object
      (λ n t c v q m. let s = heads_token (mark_shown marks.OpenBracket) (index_behind n) t c v m in mark_is marks.OpenBracket c s.0 s.1)
      (λ n c q p. begins_token (mark_shown marks.OpenBracket) (index_behind n) c c.line (mark_shows marks.OpenBracket c p) (behind_row (ltb-true 0 h q) n c.line).some)
      (λ n u c m q p. refl)
      (λ n u c m. refl)
      (λ n t v c q m. refl)

  -- ---- arguments

  -- arguments, and the parenthesis that ends them
  pub record InList (es : List Expression) (u : List Token) : Type 0 where
    pub low : highest (expressions_of es) ≤ h
    pub fits : FitsAll (expressions_of es)
    pub spells : SpellsList CloseParen (expressions_of es) u

  record InFurther (es : List Expression) (u : List Token) : Type 0 where
    low : highest (expressions_of es) ≤ h
    fits : FitsAll (expressions_of es)
    spells : SpellsFurther CloseParen (expressions_of es) u

  abbrev next_text : Expression → List Token → Type 0
  next_text = along (showing (mark_shown marks.Comma)) (λ m. InExpression h 12)

  next_row : 0 < h → Row next_text (next_argument inner h) (class_goes (below h) 12)
  unfolding next_argument
  next_row some =
      row_token (mark_shown marks.Comma) (λ m. InExpression h 12) (λ m. inner 12) (class_goes (below h) 12) (the_mark marks.Comma) _ (the_mark_shows marks.Comma) (λ m. rows some 12 (omega arith))

  close_row : Row (showing (mark_shown marks.CloseParen)) (mark marks.CloseParen) (λ _ _. false)
  close_row = row_one (mark_shown marks.CloseParen) (the_mark marks.CloseParen) _ (the_mark_shows marks.CloseParen)

  abbrev more_text : List Expression → List Token → Type 0
  more_text = list_of (showing (mark_shown marks.CloseParen)) next_text

  close_heads : (b : ℕ) (c : Token) (u : List Token) → showing (mark_shown marks.CloseParen) b (c ∷ u) → is_mark marks.CloseParen c ≡ true
  close_heads b c u m = mark_is marks.CloseParen c b (heads_one (mark_shown marks.CloseParen) b c u m)

  next_heads : (e : Expression) (c : Token) (u : List Token) → next_text e (c ∷ u) → is_mark marks.CloseParen c ≡ false
  next_heads e c u m = let s = heads_token (mark_shown marks.Comma) (λ m. InExpression h 12) e c u m in comma_no_paren c s.0 s.1

  next_apart : (x y : Expression) (c : Token) (u : List Token) → next_text y (c ∷ u) → class_goes (below h) 12 x c ≡ false
  next_apart x y c u m = let s = heads_token (mark_shown marks.Comma) (λ m. InExpression h 12) y c u m in comma_stops (below h) 12 x c s.0 s.1

  close_apart : (x : Expression) (b : ℕ) (c : Token) (u : List Token) → showing (mark_shown marks.CloseParen) b (c ∷ u) → class_goes (below h) 12 x c ≡ false
  close_apart x b c u m = close_paren_stops (below h) 12 x c b (heads_one (mark_shown marks.CloseParen) b c u m)

  more_row : 0 < h → Row more_text (more_arguments inner h) (λ _ _. false)
  unfolding more_arguments
  more_row some =
      row_list (is_mark marks.CloseParen) (showing (mark_shown marks.CloseParen)) (mark marks.CloseParen) next_text (next_argument inner h) (class_goes (below h) 12) close_row (next_row some) close_heads next_heads next_apart close_apart

  abbrev some_args : List Expression → List Token → Type 0
  some_args = along (InExpression h 12) (λ e. made (λ more. e ∷ more) more_text)

  abbrev no_args : List Expression → List Token → Type 0
  no_args = made (λ m. []) (showing (mark_shown marks.CloseParen))

  some_row : 0 < h → Row some_args (some_arguments inner h) (λ _ _. false)
  unfolding some_arguments
  some_row some =
      row_then (InExpression h 12) (inner 12) (class_goes (below h) 12) (λ e. made (λ more. e ∷ more) more_text) (λ e. more_arguments inner h >>= (λ more. pure (e ∷ more))) (λ _ _. false) (rows some 12 (omega arith))
      (λ e. row_last more_text (more_arguments inner h) (λ _ _. false) (λ more. e ∷ more) (λ _ _. false) (more_row some) (λ x u c m. refl))
      (λ e t c s m. list_apart (is_mark marks.CloseParen) (showing (mark_shown marks.CloseParen)) (mark marks.CloseParen) next_text (next_argument inner h) (class_goes (below h) 12) close_row (next_row some)
      close_heads next_heads next_apart close_apart e m.0 c s m.2)

  no_row : Row no_args (no_arguments inner h) (λ _ _. false)
  unfolding no_arguments
  no_row = row_last (showing (mark_shown marks.CloseParen)) (mark marks.CloseParen) (λ _ _. false) (λ m. []) (λ _ _. false) close_row (λ x u c m. refl)

  further_in : (es : List Expression) (u : List Token) → more_text es u → InFurther es u
  further_in [] u m = record { low = omega arith; fits = tt; spells = m }
  further_in (e ∷ es) u (a, b, same, (m, (a₂, b₂, same₂, comma, e_in)), rest) =
      let k = further_in es b rest in
      record {
        low = (let x = e_in.low in let y = k.low in omega arith);
        fits = (e_in.fits, k.fits);
        spells = (a₂, b₂ ++ b, same ∙ ap (λ (w : List Token). w ++ b) same₂ ∙ append_assoc a₂ b₂ b, (m, comma), (b₂, b, refl, e_in.spells, k.spells));
      }

  further_back : (es : List Expression) (u : List Token) → highest (expressions_of es) ≤ h → FitsAll (expressions_of es) → SpellsFurther CloseParen (expressions_of es) u → more_text es u
  further_back [] u low fits m = m
  further_back (e ∷ es) u low fits (a, b, same, (m, comma), (b₁, b₂, same₂, e_spells, rest)) = (
    a ++ b₁,
    b₂,
    same ∙ ap (λ (w : List Token). a ++ w) same₂ ∙ sym (append_assoc a b₁ b₂),
    (m, (a, b₁, refl, comma, record { low = omega arith; tight = level_small e; fits = fits.0; spells = e_spells })),
    further_back es b₂ (omega arith) fits.1 rest,
  )

  list_some : (es : List Expression) (u : List Token) → some_args es u → InList es u
  list_some es u (e, (a, b, same, e_in, (more, is, rest))) =
      let k = further_in more b rest in
      let made : InList (e ∷ more) u = record {
        low = (let x = e_in.low in let y = k.low in omega arith);
        fits = (e_in.fits, k.fits);
        spells = (a, b, same, e_in.spells, k.spells);
      } in
      subst (λ (x : List Expression). InList x u) is made

  list_none : (es : List Expression) (u : List Token) → no_args es u → InList es u
  list_none es u (m, is, close) =
      let made : InList [] u = record { low = omega arith; fits = tt; spells = (m, close) } in
      subst (λ (x : List Expression). InList x u) is made

  list_back : (es : List Expression) (u : List Token) → highest (expressions_of es) ≤ h → FitsAll (expressions_of es) → SpellsList CloseParen (expressions_of es) u → some_args es u ⊎ no_args es u
  list_back [] u low fits (m, close) = inr (m, refl, close)
  list_back (e ∷ es) u low fits (a, b, same, e_spells, rest) =
      inl (e, (a, b, same, record { low = omega arith; tight = level_small e; fits = fits.0; spells = e_spells }, (es, refl, further_back es b (omega arith) fits.1 rest)))

  some_full : (es : List Expression) → some_args es [] → ⊥
  some_full es (e, (a, b, same, e_in, m)) = no_text a b same (some_text e a e_in.spells)

  in_opens : (e : Expression) (c : Token) (u v : List Token) (w : List Token) → c ∷ u ≡ v ++ w → InExpression h 12 e v → is_opening (opening_of c.kind) ≡ true
  in_opens e c u [] w same m = absurd (some_text e [] m.spells refl)
  in_opens e c u (d ∷ v) w same m = let is : d ≡ c = cc in let P : Token → Type 0 = λ x. is_opening (opening_of x.kind) ≡ true in subst P is (heads e d v m.spells)

  some_heads : (es : List Expression) (c : Token) (u : List Token) → some_args es (c ∷ u) → (nat_lt 0 h && not (is_mark marks.CloseParen c)) ≡ true
  some_heads es c u (e, (a, b, same, e_in, m)) =
      let high = tall e in
      let low = e_in.low in
      rw (lt-ltb 0 h (omega arith), opening_no_paren c (in_opens e c u a b same e_in)) refl

  none_heads : (es : List Expression) (c : Token) (u : List Token) → no_args es (c ∷ u) → (nat_lt 0 h && not (is_mark marks.CloseParen c)) ≡ false
  none_heads es c u m = let s = heads_made (λ m. []) (mark_shown marks.CloseParen) es c u m in rw (mark_is marks.CloseParen c s.0 s.1) (and-false (nat_lt 0 h))

  pub row_arguments : Row InList (arguments inner h) (λ _ _. false)
  unfolding arguments choice
  row_arguments = row_choice (λ c. nat_lt 0 h && not (is_mark marks.CloseParen c)) some_args no_args (some_arguments inner h) (no_arguments inner h) (λ _ _. false)
      (λ c p. some_row (ltb-true 0 h (and_parts (nat_lt 0 h) (not (is_mark marks.CloseParen c)) p).0)) no_row InList list_some list_none (λ es u m. list_back es u m.low m.fits m.spells) some_full some_heads none_heads

  -- ---- calls

  abbrev call_text : Expression → Expression → List Token → Type 0
  call_text e = along (showing (mark_shown marks.OpenParen)) (λ m. made (λ args. called e (expressions_of args)) InList)

  called_not : (e : Expression) (args : Expressions) (c : Token) → called_goes h (called e args) c ≡ false
  called_not (object line n i) args c = refl
  called_not _ args c = refl

  args_row : (e : Expression) (m : ℕ) → Row (made (λ args. called e (expressions_of args)) InList) (arguments inner h >>= (λ args. pure (called e (expressions_of args)))) (called_goes h)
  args_row e m = row_last InList (arguments inner h) (λ _ _. false) (λ args. called e (expressions_of args)) (called_goes h) row_arguments (λ args u c k. called_not e (expressions_of args) c)

  call_row : (e : Expression) → Row (call_text e) (call_of inner h e) (called_goes h)
  unfolding call_of
  call_row e = row_token (mark_shown marks.OpenParen) (λ m. made (λ args. called e (expressions_of args)) InList) _ (called_goes h) (the_mark marks.OpenParen) _ (the_mark_shows marks.OpenParen) (args_row e)

  called_into : (e : Expression) (u : List Token) → Of is_object h e u → Of is_called h e u
  called_into (object line n i) u m = (refl, m.1)
  called_into _ u m = let no = m.0 in absurd cc

  call_in : (line n : ℕ) (u v : List Token) (t : Expression) → SpellsExpression (object line n whole) u → call_text (object line n whole) t v → Of is_called h t (u ++ v)
  call_in line n u v t (at, (a₁, b₁, same₁, s, nothing)) (m, (a, b, same, opens, (args, is, args_in))) =
      let whole_is : u ≡ a₁ = same₁ ∙ ap (λ (w : List Token). a₁ ++ w) nothing ∙ append-nil a₁ in
      let name_in : showing name_shown n u = subst (λ (w : List Token). showing name_shown n w) (sym whole_is) s in
      let made : Of is_called h (call line n (expressions_of args)) (u ++ v) = (
        refl,
        record {
          low = (let x = args_in.low in omega arith);
          tight = omega arith;
          fits = args_in.fits;
          spells = (line_leads u v (some_shown name_shown n u name_in) ∙ at, (u, v, refl, name_in, (a, b, same, (m, opens), args_in.spells)));
        },
      ) in
      subst (λ (x : Expression). Of is_called h x (u ++ v)) is made

  call_more : (e t : Expression) (u v : List Token) → Of is_object h e u → is_whole e ≡ true → call_text e t v → Of is_called h t (u ++ v)
  call_more (object line n whole) t u v m q b = call_in line n u v t m.1.spells b
  call_more (object line n (element i)) t u v m q b = absurd cc
  call_more _ t u v m q b = absurd cc

  call_split : (line n : ℕ) (args : Expressions) (u : List Token) → highest args ≤ h → FitsAll args → SpellsExpression (call line n args) u → Extended (Of is_object h) is_whole call_text (call line n args) u
  call_split line n args u low fits (at, (a, b, same, s, (a₂, b₂, same₂, (m, opens), rest))) =
      let es = expressions_list args in
      let back : expressions_of es ≡ args = expressions_back args in
      record {
        start = object line n whole;
        before = a;
        behind = b;
        same = same;
        start_in = (
          refl,
          record {
            low = omega arith;
            tight = omega arith;
            fits = tt;
            spells = (sym (line_leads a b (some_shown name_shown n a s)) ∙ ap line_at (sym same) ∙ at, (a, [], sym (append-nil a), s, refl));
          },
        );
        may = refl;
        rest_in = (
          m,
          (
            a₂,
            b₂,
            same₂,
            opens,
            (
              es,
              ap (λ (x : Expressions). call line n x) back,
              record {
                low = subst (λ (x : Expressions). highest x ≤ h) (sym back) low;
                fits = subst FitsAll (sym back) fits;
                spells = subst (λ (x : Expressions). SpellsList CloseParen x b₂) (sym back) rest;
              },
            ),
          ),
        );
      }

  called_split : (t : Expression) (u : List Token) → Of is_called h t u → ((e : Expression) × (e ≡ t) × Of is_object h e u) ⊎ Extended (Of is_object h) is_whole call_text t u
  called_split (object line n i) u m = inl (object line n i, refl, (refl, m.1))
  called_split (call line n args) u m = let low = m.1.low in inr (call_split line n args u (omega arith) m.1.fits m.1.spells)
  called_split _ u m = let no = m.0 in absurd cc

  call_apart : (e : Expression) (u : List Token) (c : Token) → Of is_object h e u → is_whole e ≡ true → is_mark marks.OpenParen c ≡ true → target_goes h e c ≡ false
  call_apart (object line n whole) u c m q p = rw (paren_no_bracket c p) (and-false (nat_lt 0 h))
  call_apart (object line n (element i)) u c m q p = refl
  call_apart _ u c m q p = absurd cc

  called_alone : (e : Expression) (u : List Token) (c : Token) → Of is_object h e u → called_goes h e c ≡ (target_goes h e c || (is_whole e && is_mark marks.OpenParen c))
  called_alone (object line n i) u c m = refl
  called_alone _ u c m = let no = m.0 in absurd cc

  pub row_called : Row (Of is_called h) (called_or_not inner h) (called_goes h)
  unfolding called_or_not
  row_called = row_tail (Of is_object h) (target inner h) (target_goes h) row_target (λ e. e) is_whole (is_mark marks.OpenParen) call_text (call_of inner h) (λ e. called_goes h) (λ e q. call_row e) (Of is_called h) (called_goes h)
      called_into call_more called_split
      (λ e t c v q m. let s = heads_token (mark_shown marks.OpenParen) (λ m. made (λ args. called e (expressions_of args)) InList) t c v m in mark_is marks.OpenParen c s.0 s.1)
      (λ e c q p. begins_token (mark_shown marks.OpenParen) (λ m. made (λ args. called e (expressions_of args)) InList) c c.line (mark_shows marks.OpenParen c p) (args_row e c.line).some)
      call_apart called_alone
      (λ e t v c q m. refl)
