-- Each form of statement is read exactly where its parts are.
use Rattle.std.proofs.Common.{◌≡◌, ℕ, suc, ◌<◌, ◌≤◌, Bool, true, false, List, [], ◌∷◌, ◌++◌, length, Option, Some, None, refl, sym, ap, subst, ◌∙◌, inl, inr, arith, nat_lt}
use Rattle.std.specs.Prelude.{◌⊎◌, ◌&&◌, not, if◌then◌else◌}
use Rattle.std.proofs.lemmas.Bool.{and_parts, lt-ltb, ltb-true, and_right}
use Rattle.std.proofs.Math.Bool.{and-false}
use Rattle.lz_tree.specs.declared.token.Token.{Token}
use Rattle.lz_tree.specs.declared.token.TokenKind.TheVariants as kinds
use Rattle.lz_tree.specs.declared.token.Keyword.{Keyword}
use Rattle.lz_tree.specs.declared.token.Keyword.TheVariants as keys
use Rattle.lz_tree.specs.declared.token.Punct.{Punct}
use Rattle.lz_tree.specs.declared.token.Punct.TheVariants as marks
use Rattle.lz_tree.specs.Languages.{◌⊙◌, showing, Any, Mark, is_mark, mark_shown, key_shown}
use Rattle.lz_tree.specs.Spelling.{SpellsOptional, SpellsStatement, SpellsParts}
use Rattle.lz_tree.specs.Trees.{Expression, Statement, empty, eval, block, declare, break, continue, return, Statements, nil, cons, statements_of}
use Rattle.lz_tree.specs.Height.{optional_height, statement_height, parts_height}
use Rattle.lz_tree.specs.WellFormed.{InExpression, InDeclaration, InStatement, FitsOptional, FitsParts, is_open}
use Rattle.lz_expr.specs.Reading.{Reader, ◌>>=◌, pure, choice, until}
use Rattle.lz_expr.specs.Grammar.{mark, key, expr}
use Rattle.lz_expr.proofs.RowsLemmas.{Row, made, along, row_one, row_last, row_token, row_close, row_choice, row_of, heads_one, heads_made}
use Rattle.lz_expr.proofs.ListsLemmas.{list_of, row_list}
use Rattle.lz_expr.proofs.TokensLemmas.{the_mark, the_mark_shows, the_key, the_key_shows, mark_is, is_mark_is, no_text}
use Rattle.lz_expr.proofs.GoesLemmas.{below, class_goes, close_paren_stops, semicolon_stops}
use Rattle.lz_expr.proofs.ExpressionsLemmas.{tall, level_small, some_text, first_part}
use Rattle.lz_grammar.specs.Grammar.{begins_expression, semicolon, declared, declaration, parts, blocked, maybe_then, broken, continued, returned}
use Rattle.lz_grammar.proofs.ValuesLemmas.{row_expr}
use Rattle.lz_grammar.proofs.DeclaratorsLemmas.{expression_begins, not_begins}
use Rattle.lz_grammar.proofs.DeclarationsLemmas.{row_declaration}
use Rattle.lz_grammar.proofs.FormsLemmas.{statement_goes, form, no_else, no_close, mark_no_else}

-- a statement of a form, whose parts have at most the height
abbrev pub Of : ℕ → ℕ → Statement → List Token → Type 0
Of n h s u = (form s ≡ n) × InStatement (suc h) s u

pub tall_statement : (s : Statement) → 0 < statement_height s
tall_statement (eval e) = omega arith
tall_statement _ = omega arith

semicolon_row : Row (showing (mark_shown marks.Semicolon)) (mark marks.Semicolon) (λ _ _. false)
semicolon_row = row_one (mark_shown marks.Semicolon) (the_mark marks.Semicolon) _ (the_mark_shows marks.Semicolon)

module _ (h : ℕ) (inner : Reader Token Statement) where
  -- ---- `;`, `break ;` and `continue ;`

  abbrev empty_text : Statement → List Token → Type 0
  empty_text = made (λ m. empty) (showing (mark_shown marks.Semicolon))

  empty_into : (s : Statement) (u : List Token) → empty_text s u → Of 10 h s u
  empty_into s u (m, is, k) = subst (λ (x : Statement). Of 10 h x u) is (refl, record { low = omega arith; fits = tt; spells = (m, k) })

  empty_back : (s : Statement) (u : List Token) → Of 10 h s u → empty_text s u
  empty_back empty u m = let s = m.1.spells in (s.0, refl, s.1)
  empty_back _ u m = let e = m.0 in absurd (omega arith)

  pub row_empty : Row (Of 10 h) semicolon statement_goes
  unfolding semicolon
  row_empty = row_of empty_text (mark marks.Semicolon >>= (λ m. pure empty)) statement_goes statement_goes (row_last (showing (mark_shown marks.Semicolon)) (mark marks.Semicolon) (λ _ _. false) (λ m. empty) statement_goes semicolon_row (λ x u c m. refl))
      (Of 10 h) empty_into empty_back (λ t u c m. refl)

  -- a keyword and `;`
  abbrev word_text : Keyword → (ℕ → Statement) → Statement → List Token → Type 0
  word_text k f = along (showing (key_shown k)) (λ line. made (λ m. f line) (showing (mark_shown marks.Semicolon)))

  word_row : (k : Keyword) (f : ℕ → Statement) → ((line : ℕ) (c : Token) → statement_goes (f line) c ≡ false) → Row (word_text k f) (key k >>= (λ line. mark marks.Semicolon >>= (λ m. pure (f line)))) statement_goes
  word_row k f ends = row_token (key_shown k) (λ line. made (λ m. f line) (showing (mark_shown marks.Semicolon))) _ statement_goes (the_key k) _ (the_key_shows k)
      (λ line. row_last (showing (mark_shown marks.Semicolon)) (mark marks.Semicolon) (λ _ _. false) (λ m. f line) statement_goes semicolon_row (λ x u c m. ends line c))

  break_into : (s : Statement) (u : List Token) → word_text keys.Break break s u → Of 7 h s u
  break_into s u (line, (a, b, same, k, (m, is, e))) = subst (λ (x : Statement). Of 7 h x u) is (refl, record { low = omega arith; fits = tt; spells = (a, b, same, k, (m, e)) })

  break_back : (s : Statement) (u : List Token) → Of 7 h s u → word_text keys.Break break s u
  break_back (break line) u m = by_spells m.1.spells
    where
      by_spells : SpellsStatement (break line) u → word_text keys.Break break (break line) u
      by_spells (a, b, same, k, (n, e)) = (line, (a, b, same, k, (n, refl, e)))
  break_back _ u m = let e = m.0 in absurd (omega arith)

  pub row_break : Row (Of 7 h) (broken inner h) statement_goes
  unfolding broken
  row_break = row_of (word_text keys.Break break) (key keys.Break >>= (λ line. mark marks.Semicolon >>= (λ m. pure (break line)))) statement_goes statement_goes (word_row keys.Break break (λ line c. refl)) (Of 7 h) break_into break_back (λ t u c m. refl)

  continue_into : (s : Statement) (u : List Token) → word_text keys.Continue continue s u → Of 8 h s u
  continue_into s u (line, (a, b, same, k, (m, is, e))) = subst (λ (x : Statement). Of 8 h x u) is (refl, record { low = omega arith; fits = tt; spells = (a, b, same, k, (m, e)) })

  continue_back : (s : Statement) (u : List Token) → Of 8 h s u → word_text keys.Continue continue s u
  continue_back (continue line) u m = by_spells m.1.spells
    where
      by_spells : SpellsStatement (continue line) u → word_text keys.Continue continue (continue line) u
      by_spells (a, b, same, k, (n, e)) = (line, (a, b, same, k, (n, refl, e)))
  continue_back _ u m = let e = m.0 in absurd (omega arith)

  pub row_continue : Row (Of 8 h) (continued inner h) statement_goes
  unfolding continued
  row_continue = row_of (word_text keys.Continue continue) (key keys.Continue >>= (λ line. mark marks.Semicolon >>= (λ m. pure (continue line)))) statement_goes statement_goes (word_row keys.Continue continue (λ line c. refl)) (Of 8 h)
      continue_into continue_back (λ t u c m. refl)

  -- ---- an expression that may be left out, up to a punctuator

  -- an expression or nothing, and the punctuator
  abbrev pub MaybeThen : Punct → Option Expression → List Token → Type 0
  MaybeThen p None u = Any (Mark p) u
  MaybeThen p (Some e) u = (InExpression h 12 e ⊙ Any (Mark p)) u

  abbrev some_then : Punct → Option Expression → List Token → Type 0
  some_then p = along (InExpression h 12) (λ e. made (λ m. Some e) (showing (mark_shown p)))

  abbrev none_then : Punct → Option Expression → List Token → Type 0
  none_then p = made (λ m. None) (showing (mark_shown p))

  module _ (p : Punct) (stops : (e : Expression) (c : Token) (x : ℕ) → mark_shown p c ≡ Some x → class_goes (below h) 12 e c ≡ false)
      (opens : (c : Token) → is_mark p c ≡ true → begins_expression c ≡ false) where
    some_then_row : 0 < h → Row (some_then p) (expr h 12 >>= (λ e. mark p >>= (λ m. pure (Some e)))) (λ _ _. false)
    some_then_row some = row_close (InExpression h 12) (expr h 12) (class_goes (below h) 12) (mark_shown p) (λ e m. Some e) (λ _ _. false) (row_expr h 12 some (omega arith)) (the_mark p) _ (the_mark_shows p) stops (λ e m c. refl)

    none_then_row : Row (none_then p) (mark p >>= (λ m. pure None)) (λ _ _. false)
    none_then_row = row_last (showing (mark_shown p)) (mark p) (λ _ _. false) (λ m. None) (λ _ _. false) (row_one (mark_shown p) (the_mark p) _ (the_mark_shows p)) (λ x u c m. refl)

    some_then_in : (v : Option Expression) (u : List Token) → some_then p v u → MaybeThen p v u
    some_then_in v u (e, (a, b, same, e_in, (m, is, s))) = subst (λ (x : Option Expression). MaybeThen p x u) is (a, b, same, e_in, (m, s))

    none_then_in : (v : Option Expression) (u : List Token) → none_then p v u → MaybeThen p v u
    none_then_in v u (m, is, s) = subst (λ (x : Option Expression). MaybeThen p x u) is (m, s)

    then_back : (v : Option Expression) (u : List Token) → MaybeThen p v u → some_then p v u ⊎ none_then p v u
    then_back None u (m, s) = inr (m, refl, s)
    then_back (Some e) u (a, b, same, e_in, (m, s)) = inl (e, (a, b, same, e_in, (m, refl, s)))

    some_then_full : (v : Option Expression) → some_then p v [] → ⊥
    some_then_full v (e, (a, b, same, e_in, m)) = no_text a b same (some_text e a e_in.spells)

    not_mark : (c : Token) (q : Bool) → is_mark p c ≡ q → begins_expression c ≡ true → is_mark p c ≡ false
    not_mark c true e k = let never = opens c e in absurd cc
    not_mark c false e k = e

    some_then_heads : (v : Option Expression) (c : Token) (u : List Token) → some_then p v (c ∷ u) → (nat_lt 0 h && not (is_mark p c)) ≡ true
    some_then_heads v c u (e, m) = first_part (λ d. (nat_lt 0 h && not (is_mark p d)) ≡ true) c u m (λ w k. some_text e w k.spells)
        (λ w k. let high = tall e in let low = k.low in rw (lt-ltb 0 h (omega arith), not_mark c (is_mark p c) refl (expression_begins e c w k.spells)) refl)

    none_then_heads : (v : Option Expression) (c : Token) (u : List Token) → none_then p v (c ∷ u) → (nat_lt 0 h && not (is_mark p c)) ≡ false
    none_then_heads v c u m = let s = heads_made (λ m. None) (mark_shown p) v c u m in rw (mark_is p c s.0 s.1) (and-false (nat_lt 0 h))

    pub row_maybe_then : Row (MaybeThen p) (maybe_then inner h p) (λ _ _. false)
    unfolding maybe_then choice
    row_maybe_then = row_choice (λ c. nat_lt 0 h && not (is_mark p c)) (some_then p) (none_then p) (expr h 12 >>= (λ e. mark p >>= (λ m. pure (Some e)))) (mark p >>= (λ m. pure None)) (λ _ _. false)
        (λ c q. some_then_row (ltb-true 0 h (and_parts (nat_lt 0 h) (not (is_mark p c)) q).0)) none_then_row (MaybeThen p) some_then_in none_then_in then_back some_then_full some_then_heads none_then_heads

  semicolon_opens : (c : Token) → is_mark marks.Semicolon c ≡ true → begins_expression c ≡ false
  semicolon_opens c e = not_begins c (kinds.Punct marks.Semicolon) (is_mark_is marks.Semicolon c e) refl

  close_opens : (c : Token) → is_mark marks.CloseParen c ≡ true → begins_expression c ≡ false
  close_opens c e = not_begins c (kinds.Punct marks.CloseParen) (is_mark_is marks.CloseParen c e) refl

  pub until_semicolon : Row (MaybeThen marks.Semicolon) (maybe_then inner h marks.Semicolon) (λ _ _. false)
  until_semicolon = row_maybe_then marks.Semicolon (semicolon_stops (below h) 12) semicolon_opens

  pub until_close : Row (MaybeThen marks.CloseParen) (maybe_then inner h marks.CloseParen) (λ _ _. false)
  until_close = row_maybe_then marks.CloseParen (close_paren_stops (below h) 12) close_opens

  -- what is left out or stands there
  pub then_parts : (p : Punct) (v : Option Expression) (u : List Token) → MaybeThen p v u → (optional_height v ≤ h) × FitsOptional v × (SpellsOptional v ⊙ Any (Mark p)) u
  then_parts p None u m = (omega arith, tt, ([], u, refl, refl, m))
  then_parts p (Some e) u (a, b, same, e_in, m) = (e_in.low, e_in.fits, (a, b, same, e_in.spells, m))

  pub parts_then : (p : Punct) (v : Option Expression) (u : List Token) → optional_height v ≤ h → FitsOptional v → (SpellsOptional v ⊙ Any (Mark p)) u → MaybeThen p v u
  parts_then p None u low fits (a, b, same, nil_is, m) =
      let is : u ≡ b = same ∙ ap (λ (w : List Token). w ++ b) nil_is in subst (λ (w : List Token). Any (Mark p) w) (sym is) m
  parts_then p (Some e) u low fits (a, b, same, e_spells, m) = (a, b, same, record { low = low; tight = level_small e; fits = fits; spells = e_spells }, m)

  -- ---- `return`

  abbrev return_text : Statement → List Token → Type 0
  return_text = along (showing (key_shown keys.Return)) (λ line. made (return line) (MaybeThen marks.Semicolon))

  return_into : (s : Statement) (u : List Token) → return_text s u → Of 9 h s u
  return_into s u (line, (a, b, same, k, (v, is, m))) =
      let t = then_parts marks.Semicolon v b m in
      subst (λ (x : Statement). Of 9 h x u) is (refl, record { low = (let x = t.0 in omega arith); fits = t.1; spells = (a, b, same, k, t.2) })

  return_back : (s : Statement) (u : List Token) → Of 9 h s u → return_text s u
  return_back (return line v) u m = by_spells m.1.low m.1.fits m.1.spells
    where
      by_spells : suc (optional_height v) ≤ suc h → FitsOptional v → SpellsStatement (return line v) u → return_text (return line v) u
      by_spells low fits (a, b, same, k, rest) = (line, (a, b, same, k, (v, refl, parts_then marks.Semicolon v b (omega arith) fits rest)))
  return_back _ u m = let e = m.0 in absurd (omega arith)

  pub row_return : Row (Of 9 h) (returned inner h) statement_goes
  unfolding returned
  row_return = row_of return_text (key keys.Return >>= (λ line. maybe_then inner h marks.Semicolon >>= (λ v. pure (return line v)))) statement_goes statement_goes
      (row_token (key_shown keys.Return) (λ line. made (return line) (MaybeThen marks.Semicolon)) _ statement_goes (the_key keys.Return) _ (the_key_shows keys.Return)
      (λ line. row_last (MaybeThen marks.Semicolon) (maybe_then inner h marks.Semicolon) (λ _ _. false) (return line) statement_goes until_semicolon (λ x u c m. refl)))
      (Of 9 h) return_into return_back (λ t u c m. refl)

  -- ---- declarations

  declare_into : (s : Statement) (u : List Token) → made declare (InDeclaration h) s u → Of 1 h s u
  declare_into s u (d, is, m) = subst (λ (x : Statement). Of 1 h x u) is (refl, record { low = (let x = m.low in omega arith); fits = m.fits; spells = m.spells })

  declare_back : (s : Statement) (u : List Token) → Of 1 h s u → made declare (InDeclaration h) s u
  declare_back (declare d) u m = (d, refl, record { low = (let x = m.1.low in omega arith); fits = m.1.fits; spells = m.1.spells })
  declare_back _ u m = let e = m.0 in absurd (omega arith)

  pub row_declare : Row (Of 1 h) (declared h) statement_goes
  unfolding declared
  row_declare = row_of (made declare (InDeclaration h)) (declaration expr h >>= (λ d. pure (declare d))) statement_goes statement_goes (row_last (InDeclaration h) (declaration expr h) (λ _ _. false) declare statement_goes (row_declaration h) (λ x u c m. refl))
      (Of 1 h) declare_into declare_back (λ t u c m. refl)

  -- ---- forms with parts that are statements

  module _ (rs : 0 < h → Row (InStatement h) inner statement_goes) where
    -- ---- blocks

    abbrev part_list : List Statement → List Token → Type 0
    part_list = list_of (showing (mark_shown marks.CloseBrace)) (InStatement h)

    brace_row : Row (showing (mark_shown marks.CloseBrace)) (mark marks.CloseBrace) (λ _ _. false)
    brace_row = row_one (mark_shown marks.CloseBrace) (the_mark marks.CloseBrace) _ (the_mark_shows marks.CloseBrace)

    list_row : 0 < h → Row part_list (λ ts. until (is_mark marks.CloseBrace) (mark marks.CloseBrace) inner (length ts) ts) (λ _ _. false)
    list_row some = row_list (is_mark marks.CloseBrace) (showing (mark_shown marks.CloseBrace)) (mark marks.CloseBrace) (InStatement h) inner statement_goes brace_row (rs some)
        (λ b c u m. mark_is marks.CloseBrace c b (heads_one (mark_shown marks.CloseBrace) b c u m))
        (λ s c u m. no_close s c u m.spells)
        (λ s t c u m. and_right (is_open s) _ (no_else t c u m.spells))
        (λ s b c u m. and_right (is_open s) _ (mark_no_else marks.CloseBrace c b (heads_one (mark_shown marks.CloseBrace) b c u m)))

    -- statements up to `}`
    pub record InParts (ss : List Statement) (u : List Token) : Type 0 where
      pub low : parts_height (statements_of ss) ≤ h
      pub fits : FitsParts (statements_of ss)
      pub spells : SpellsParts (statements_of ss) u

    parts_in : (ss : List Statement) (u : List Token) → part_list ss u → InParts ss u
    parts_in [] u m = record { low = omega arith; fits = tt; spells = m }
    parts_in (s ∷ ss) u (a, b, same, m, rest) =
        let k = parts_in ss b rest in
        record { low = (let x = m.low in let y = k.low in omega arith); fits = (m.fits, k.fits); spells = (a, b, same, m.spells, k.spells) }

    parts_back : (ss : List Statement) (u : List Token) → parts_height (statements_of ss) ≤ h → FitsParts (statements_of ss) → SpellsParts (statements_of ss) u → part_list ss u
    parts_back [] u low fits m = m
    parts_back (s ∷ ss) u low fits (a, b, same, s_spells, rest) = (a, b, same, record { low = omega arith; fits = fits.0; spells = s_spells }, parts_back ss b (omega arith) fits.1 rest)

    none_back : (ss : List Statement) (u : List Token) → h ≡ 0 → InParts ss u → made (λ m. []) (showing (mark_shown marks.CloseBrace)) ss u
    none_back [] u at m = let s = m.spells in (s.0, refl, s.1)
    none_back (s ∷ ss) u at m = let high = tall_statement s in let low = m.low in absurd (omega arith)

    none_in : (ss : List Statement) (u : List Token) → made (λ m. []) (showing (mark_shown marks.CloseBrace)) ss u → InParts ss u
    none_in ss u (m, is, s) = let k : InParts [] u = record { low = omega arith; fits = tt; spells = (m, s) } in subst (λ (x : List Statement). InParts x u) is k

    no_parts : h ≡ 0 → Row InParts (mark marks.CloseBrace >>= (λ m. pure [])) (λ _ _. false)
    no_parts at = row_of (made (λ m. []) (showing (mark_shown marks.CloseBrace))) (mark marks.CloseBrace >>= (λ m. pure [])) (λ _ _. false) (λ _ _. false)
        (row_last (showing (mark_shown marks.CloseBrace)) (mark marks.CloseBrace) (λ _ _. false) (λ m. []) (λ _ _. false) brace_row (λ x u c m. refl)) InParts none_in (λ ss u m. none_back ss u at m) (λ t u c m. refl)

    some_parts : 0 < h → Row InParts (λ ts. until (is_mark marks.CloseBrace) (mark marks.CloseBrace) inner (length ts) ts) (λ _ _. false)
    some_parts some = row_of part_list (λ ts. until (is_mark marks.CloseBrace) (mark marks.CloseBrace) inner (length ts) ts) (λ _ _. false) (λ _ _. false) (list_row some) InParts parts_in (λ ss u m. parts_back ss u m.low m.fits m.spells) (λ t u c m. refl)

    pub row_parts : Row InParts (parts inner h) (λ _ _. false)
    unfolding parts
    row_parts = by_room (nat_lt 0 h) refl
      where
        zero_of : (n : ℕ) → nat_lt 0 n ≡ false → n ≡ 0
        zero_of n e = grind arith

        by_room : (q : Bool) → nat_lt 0 h ≡ q
            → Row InParts (λ ts. if q then until (is_mark marks.CloseBrace) (mark marks.CloseBrace) inner (length ts) ts else (mark marks.CloseBrace >>= (λ m. pure [])) ts) (λ _ _. false)
        by_room true e = some_parts (ltb-true 0 h e)
        by_room false e = no_parts (zero_of h e)

    abbrev block_text : Statement → List Token → Type 0
    block_text = along (showing (mark_shown marks.OpenBrace)) (λ m. made (λ found. block (statements_of found)) InParts)

    block_into : (s : Statement) (u : List Token) → block_text s u → Of 2 h s u
    block_into s u (m, (a, b, same, o, (ss, is, k))) =
        subst (λ (x : Statement). Of 2 h x u) is (refl, record { low = (let x = k.low in omega arith); fits = k.fits; spells = (a, b, same, (m, o), k.spells) })

    pub statements_list : Statements → List Statement
    statements_list nil = []
    statements_list (cons s rest) = s ∷ statements_list rest

    pub statements_back : (ss : Statements) → statements_of (statements_list ss) ≡ ss
    unfolding statements_list
    statements_back nil = refl
    statements_back (cons s rest) = ap (λ (x : Statements). cons s x) (statements_back rest)

    block_back : (s : Statement) (u : List Token) → Of 2 h s u → block_text s u
    block_back (block ss) u m = by_spells m.1.low m.1.fits m.1.spells
      where
        by_spells : suc (parts_height ss) ≤ suc h → FitsParts ss → SpellsStatement (block ss) u → block_text (block ss) u
        by_spells low fits (a, b, same, (k, o), rest) =
            let back : statements_of (statements_list ss) ≡ ss = statements_back ss in
            let most : parts_height ss ≤ h = omega arith in (
              k,
              (
                a,
                b,
                same,
                o,
                (
                  statements_list ss,
                  ap (λ (x : Statements). block x) back,
                  record {
                    low = subst (λ (x : Statements). parts_height x ≤ h) (sym back) most;
                    fits = subst (λ (x : Statements). FitsParts x) (sym back) fits;
                    spells = subst (λ (x : Statements). SpellsParts x b) (sym back) rest;
                  },
                ),
              ),
            )
    block_back _ u m = let e = m.0 in absurd (omega arith)

    pub row_block : Row (Of 2 h) (blocked inner h) statement_goes
    unfolding blocked
    row_block = row_of block_text (mark marks.OpenBrace >>= (λ m. parts inner h >>= (λ found. pure (block (statements_of found))))) statement_goes statement_goes
        (row_token (mark_shown marks.OpenBrace) (λ m. made (λ found. block (statements_of found)) InParts) _ statement_goes (the_mark marks.OpenBrace) _ (the_mark_shows marks.OpenBrace)
        (λ m. row_last InParts (parts inner h) (λ _ _. false) (λ found. block (statements_of found)) statement_goes row_parts (λ x u c m. refl)))
        (Of 2 h) block_into block_back (λ t u c m. refl)
