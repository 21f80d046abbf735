-- `for` is read exactly where its parts are.
use Rattle.std.proofs.Common.{◌≡◌, ℕ, suc, ◌<◌, ◌≤◌, Bool, true, false, List, [], ◌∷◌, ◌++◌, Option, refl, sym, ap, subst, ◌∙◌, inl, inr, append_assoc, arith, nat_lt}
use Rattle.std.specs.Prelude.{◌⊎◌, ◌&&◌}
use Rattle.std.proofs.lemmas.Bool.{and_parts, lt-ltb, ltb-true}
use Rattle.lz_tree.specs.declared.token.Token.{Token}
use Rattle.lz_tree.specs.declared.token.Keyword.TheVariants as keys
use Rattle.lz_tree.specs.declared.token.Punct.TheVariants as marks
use Rattle.lz_tree.specs.Languages.{◌⊙◌, showing, Any, Mark, mark_shown, key_shown}
use Rattle.lz_tree.specs.Spelling.{SpellsOptional, SpellsStatement}
use Rattle.lz_tree.specs.Trees.{Expression, Statement, empty, eval, declare, for}
use Rattle.lz_tree.specs.Height.{expression_height, optional_height, statement_height}
use Rattle.lz_tree.specs.WellFormed.{InExpression, InStatement, FitsExpression, FitsOptional, FitsStatement, is_start}
use Rattle.lz_expr.specs.Reading.{Reader, ◌>>=◌, pure, choice}
use Rattle.lz_expr.specs.Grammar.{mark, expr}
use Rattle.lz_expr.proofs.RowsLemmas.{Row, made, along, row_one, row_last, row_token, row_then, row_choice, row_of, heads_made}
use Rattle.lz_expr.proofs.TokensLemmas.{the_mark, the_mark_shows, the_key, the_key_shows, no_text}
use Rattle.lz_expr.proofs.GoesLemmas.{below, class_goes, semicolon_stops}
use Rattle.lz_expr.proofs.ExpressionsLemmas.{tall, level_small, some_text}
use Rattle.lz_grammar.specs.Grammar.{begins_expression, begins_type, semicolon, evaluated, declared, start, counted, maybe_then}
use Rattle.lz_grammar.proofs.ValuesLemmas.{row_expr}
use Rattle.lz_grammar.proofs.FormsLemmas.{statement_goes, form, eval_first, declare_first, later_no_expression, later_no_type}
use Rattle.lz_grammar.proofs.StatementsLemmas.{Of, MaybeThen, until_semicolon, until_close, then_parts, parts_then, row_declare, row_empty}

abbrev is_eval : Statement → Bool
is_eval (eval e) = true
is_eval s = false

module _ (h : ℕ) (inner : Reader Token Statement) where
  -- ---- the first part

  -- an expression, a declaration or nothing
  abbrev Start : Statement → List Token → Type 0
  Start s u = (is_start s ≡ true) × InStatement (suc h) s u

  abbrev EvalOf : Statement → List Token → Type 0
  EvalOf s u = (is_eval s ≡ true) × InStatement (suc h) s u

  semicolon_row : Row (showing (mark_shown marks.Semicolon)) (mark marks.Semicolon) (λ _ _. false)
  semicolon_row = row_one (mark_shown marks.Semicolon) (the_mark marks.Semicolon) _ (the_mark_shows marks.Semicolon)

  abbrev eval_text : Statement → List Token → Type 0
  eval_text = along (InExpression h 12) (λ v. made (λ m. eval v) (showing (mark_shown marks.Semicolon)))

  eval_into : (t : Statement) (u : List Token) → eval_text t u → EvalOf t u
  eval_into t u (v, (a, b, same, v_in, (m, is, s))) = subst (λ (x : Statement). EvalOf x u) is (refl, record { low = (let x = v_in.low in omega arith); fits = v_in.fits; spells = (a, b, same, v_in.spells, (m, s)) })

  eval_back_at : (v : Expression) (u : List Token) → suc (expression_height v) ≤ suc h → FitsExpression v → SpellsStatement (eval v) u → eval_text (eval v) u
  eval_back_at v u low fits (a, b, same, s, (m, e)) = (v, (a, b, same, record { low = omega arith; tight = level_small v; fits = fits; spells = s }, (m, refl, e)))

  eval_back : (t : Statement) (u : List Token) → EvalOf t u → eval_text t u
  eval_back (eval v) u m = eval_back_at v u m.1.low m.1.fits m.1.spells
  eval_back _ u m = let never = m.0 in absurd cc

  eval_row : 0 < h → Row EvalOf (evaluated h) (λ _ _. false)
  unfolding evaluated
  eval_row some = row_of eval_text (expr h 12 >>= (λ v. mark marks.Semicolon >>= (λ m. pure (eval v)))) (λ _ _. false) (λ _ _. false)
      (row_then (InExpression h 12) (expr h 12) (class_goes (below h) 12) (λ v. made (λ m. eval v) (showing (mark_shown marks.Semicolon))) _ (λ _ _. false) (row_expr h 12 some (omega arith))
      (λ v. row_last (showing (mark_shown marks.Semicolon)) (mark marks.Semicolon) (λ _ _. false) (λ m. eval v) (λ _ _. false) semicolon_row (λ x u c m. refl))
      (λ v t c s m. let k = heads_made (λ m. eval v) (mark_shown marks.Semicolon) t c s m in semicolon_stops (below h) 12 v c k.0 k.1))
      EvalOf eval_into eval_back (λ t u c m. refl)

  eval_form : (t : Statement) (u : List Token) → EvalOf t u → form t ≡ 0
  eval_form (eval v) u m = refl
  eval_form _ u m = let never = m.0 in absurd cc

  eval_full : (t : Statement) → EvalOf t [] → ⊥
  eval_full (eval v) m = full_by m.1.spells
    where
      full_by : SpellsStatement (eval v) [] → ⊥
      full_by (a, b, same, s, k) = no_text a b same (some_text v a s)
  eval_full _ m = let never = m.0 in absurd cc

  eval_room : (t : Statement) (u : List Token) → EvalOf t u → 0 < h
  eval_room (eval v) u m = let high = tall v in let low = m.1.low in omega arith
  eval_room _ u m = let never = m.0 in absurd cc

  declare_goes : (t : Statement) (u : List Token) (c : Token) → Of 1 h t u → false ≡ statement_goes t c
  declare_goes (declare d) u c m = refl
  declare_goes _ u c m = let e = m.0 in absurd (omega arith)

  empty_goes : (t : Statement) (u : List Token) (c : Token) → Of 10 h t u → false ≡ statement_goes t c
  empty_goes empty u c m = refl
  empty_goes _ u c m = let e = m.0 in absurd (omega arith)

  declare_row : Row (Of 1 h) (declared h) (λ _ _. false)
  declare_row = row_of (Of 1 h) (declared h) statement_goes (λ _ _. false) (row_declare h inner) (Of 1 h) (λ t u m. m) (λ t u m. m) declare_goes

  empty_row : Row (Of 10 h) semicolon (λ _ _. false)
  empty_row = row_of (Of 10 h) semicolon statement_goes (λ _ _. false) (row_empty h inner) (Of 10 h) (λ t u m. m) (λ t u m. m) empty_goes

  abbrev declare_or : Statement → List Token → Type 0
  declare_or t u = Of 1 h t u ⊎ Of 10 h t u

  row_declare_or : Row declare_or (choice begins_type (declared h) semicolon) (λ _ _. false)
  row_declare_or = row_choice begins_type (Of 1 h) (Of 10 h) (declared h) semicolon (λ _ _. false) (λ c p. declare_row) empty_row declare_or (λ t u m. inl m) (λ t u m. inr m) (λ t u m. m) declare_row.full
      (λ t c u m. declare_first t c u m.0 m.1.spells)
      (λ t c u m. let e = m.0 in later_no_type t c u (omega arith) m.1.spells)

  or_no_expression : (t : Statement) (c : Token) (u : List Token) → declare_or t (c ∷ u) → begins_expression c ≡ false
  or_no_expression t c u (inl m) = let e = m.0 in later_no_expression t c u (omega arith) m.1.spells
  or_no_expression t c u (inr m) = let e = m.0 in later_no_expression t c u (omega arith) m.1.spells

  eval_start : (t : Statement) (u : List Token) → EvalOf t u → Start t u
  eval_start (eval v) u m = (refl, m.1)
  eval_start _ u m = let never = m.0 in absurd cc

  or_start : (t : Statement) (u : List Token) → declare_or t u → Start t u
  or_start (declare d) u (inl m) = (refl, m.1)
  or_start empty u (inr m) = (refl, m.1)
  or_start _ u (inl m) = let e = m.0 in absurd (omega arith)
  or_start _ u (inr m) = let e = m.0 in absurd (omega arith)

  start_back : (t : Statement) (u : List Token) → Start t u → EvalOf t u ⊎ declare_or t u
  start_back (eval v) u m = inl (refl, m.1)
  start_back (declare d) u m = inr (inl (refl, m.1))
  start_back empty u m = inr (inr (refl, m.1))
  start_back _ u m = let never = m.0 in absurd cc

  pub row_start : Row Start (start h) (λ _ _. false)
  unfolding start choice
  row_start = row_choice (λ c. begins_expression c && nat_lt 0 h) EvalOf declare_or (evaluated h) (choice begins_type (declared h) semicolon) (λ _ _. false)
      (λ c p. eval_row (ltb-true 0 h (and_parts (begins_expression c) (nat_lt 0 h) p).1)) row_declare_or Start eval_start or_start start_back eval_full
      (λ t c u m. rw (eval_first t c u (eval_form t (c ∷ u) m) m.1.spells, lt-ltb 0 h (eval_room t (c ∷ u) m)) refl)
      (λ t c u m. rw (or_no_expression t c u m) refl)

  -- ---- the whole

  module _ (rs : Row (InStatement (suc h)) inner statement_goes) where
    abbrev behind_change : ℕ → Statement → Option Expression → Option Expression → Statement → List Token → Type 0
    behind_change line first test change = made (for line first test change) (InStatement (suc h))

    abbrev behind_test : ℕ → Statement → Option Expression → Statement → List Token → Type 0
    behind_test line first test = along (MaybeThen (suc h) inner marks.CloseParen) (behind_change line first test)

    abbrev behind_first : ℕ → Statement → Statement → List Token → Type 0
    behind_first line first = along (MaybeThen (suc h) inner marks.Semicolon) (behind_test line first)

    abbrev for_text : Statement → List Token → Type 0
    for_text = along (showing (key_shown keys.For)) (λ line. along (showing (mark_shown marks.OpenParen)) (λ m. along Start (behind_first line)))

    test_row : (line : ℕ) (first : Statement) (test : Option Expression) → Row (behind_test line first test) (maybe_then inner (suc h) marks.CloseParen >>= (λ change. inner >>= (λ body. pure (for line first test change body)))) statement_goes
    test_row line first test = row_then (MaybeThen (suc h) inner marks.CloseParen) (maybe_then inner (suc h) marks.CloseParen) (λ _ _. false) (behind_change line first test) _ statement_goes (until_close (suc h) inner)
        (λ change. row_last (InStatement (suc h)) inner statement_goes (for line first test change) statement_goes rs (λ s u c k. refl)) (λ x t c s m. refl)

    first_row : (line : ℕ) (first : Statement) → Row (behind_first line first)
        (maybe_then inner (suc h) marks.Semicolon >>= (λ test. maybe_then inner (suc h) marks.CloseParen >>= (λ change. inner >>= (λ body. pure (for line first test change body))))) statement_goes
    first_row line first = row_then (MaybeThen (suc h) inner marks.Semicolon) (maybe_then inner (suc h) marks.Semicolon) (λ _ _. false) (behind_test line first) _ statement_goes (until_semicolon (suc h) inner) (test_row line first) (λ x t c s m. refl)

    for_row : Row for_text (counted inner (suc h)) statement_goes
    unfolding counted
    for_row = row_token (key_shown keys.For) _ _ statement_goes (the_key keys.For) _ (the_key_shows keys.For) (λ line.
        row_token (mark_shown marks.OpenParen) (λ m. along Start (behind_first line)) _ statement_goes (the_mark marks.OpenParen) _ (the_mark_shows marks.OpenParen) (λ m.
        row_then Start (start h) (λ _ _. false) (behind_first line) _ statement_goes row_start (first_row line) (λ x t c s m. refl)))

    for_into : (t : Statement) (u : List Token) → for_text t u → Of 6 (suc h) t u
    for_into t u (line, (a, b, same, k, (m, (a₂, b₂, same₂, o, (first, (a₃, b₃, same₃, first_in, (test, (a₄, b₄, same₄, test_in, (change, (a₅, b₅, same₅, change_in, (body, is, body_in)))))))))))
        = by_parts (then_parts (suc h) inner marks.Semicolon test a₄ test_in) (then_parts (suc h) inner marks.CloseParen change a₅ change_in)
      where
        by_parts : (optional_height test ≤ suc h) × FitsOptional test × (SpellsOptional test ⊙ Any (Mark marks.Semicolon)) a₄ → (optional_height change ≤ suc h) × FitsOptional change × (SpellsOptional change ⊙ Any (Mark marks.CloseParen)) a₅ → Of 6 (suc h) t u
        by_parts (tl, tf, (a₆, b₆, same₆, t_spells, semi)) (cl, cf, (a₇, b₇, same₇, c_spells, close)) =
            subst (λ (x : Statement). Of 6 (suc h) x u) is (
              refl,
              record {
                low = (let x = first_in.1.low in let y = body_in.low in omega arith);
                fits = (first_in.0, first_in.1.fits, tf, cf, body_in.fits);
                spells = (
                  a,
                  b,
                  same,
                  k,
                  (
                    a₂,
                    b₂,
                    same₂,
                    (m, o),
                    (
                      a₃,
                      b₃,
                      same₃,
                      first_in.1.spells,
                      (
                        a₆,
                        b₆ ++ b₄,
                        same₄ ∙ ap (λ (w : List Token). w ++ b₄) same₆ ∙ append_assoc a₆ b₆ b₄,
                        t_spells,
                        (
                          b₆,
                          b₄,
                          refl,
                          semi,
                          (a₇, b₇ ++ b₅, same₅ ∙ ap (λ (w : List Token). w ++ b₅) same₇ ∙ append_assoc a₇ b₇ b₅, c_spells, (b₇, b₅, refl, close, body_in.spells)),
                        ),
                      ),
                    ),
                  ),
                );
              },
            )

    for_back_at : (line : ℕ) (first : Statement) (test change : Option Expression) (body : Statement) (u : List Token) → statement_height (for line first test change body) ≤ suc (suc h) → FitsStatement (for line first test change body)
        → SpellsStatement (for line first test change body) u → for_text (for line first test change body) u
    for_back_at line first test change body u low fits (a, b, same, k, (a₂, b₂, same₂, (m, o), (a₃, b₃, same₃, f_spells, (a₄, b₄, same₄, t_spells, (a₅, b₅, same₅, semi, (a₆, b₆, same₆, c_spells, (a₇, b₇, same₇, close, b_spells))))))) = (
      line,
      (
        a,
        b,
        same,
        k,
        (
          m,
          (
            a₂,
            b₂,
            same₂,
            o,
            (
              first,
              (
                a₃,
                b₃,
                same₃,
                (fits.0, record { low = omega arith; fits = fits.1; spells = f_spells }),
                (
                  test,
                  (
                    a₄ ++ a₅,
                    b₅,
                    same₄ ∙ ap (λ (w : List Token). a₄ ++ w) same₅ ∙ sym (append_assoc a₄ a₅ b₅),
                    parts_then (suc h) inner marks.Semicolon test (a₄ ++ a₅) (omega arith) fits.2 (a₄, a₅, refl, t_spells, semi),
                    (
                      change,
                      (
                        a₆ ++ a₇,
                        b₇,
                        same₆ ∙ ap (λ (w : List Token). a₆ ++ w) same₇ ∙ sym (append_assoc a₆ a₇ b₇),
                        parts_then (suc h) inner marks.CloseParen change (a₆ ++ a₇) (omega arith) fits.3 (a₆, a₇, refl, c_spells, close),
                        (body, refl, record { low = omega arith; fits = fits.4; spells = b_spells }),
                      ),
                    ),
                  ),
                ),
              ),
            ),
          ),
        ),
      ),
    )

    for_back : (t : Statement) (u : List Token) → Of 6 (suc h) t u → for_text t u
    for_back (for line first test change body) u m = for_back_at line first test change body u m.1.low m.1.fits m.1.spells
    for_back _ u m = let e = m.0 in absurd (omega arith)

    pub row_for : Row (Of 6 (suc h)) (counted inner (suc h)) statement_goes
    row_for = row_of for_text (counted inner (suc h)) statement_goes statement_goes for_row (Of 6 (suc h)) for_into for_back (λ t u c m. refl)
