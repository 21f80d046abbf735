-- Loops, `if`, expressions and labels are read exactly where their parts are.
use Rattle.std.proofs.Common.{◌≡◌, ℕ, suc, ◌<◌, ◌≤◌, Bool, true, false, List, [], ◌∷◌, ◌++◌, Some, refl, sym, ap, subst, ◌∙◌, inl, inr, append-nil, arith}
use Rattle.std.specs.Prelude.{◌⊎◌, ◌&&◌, ◌||◌, not, if◌then◌else◌}
use Rattle.std.proofs.lemmas.Bool.{and_parts, and_right, not-true}
use Rattle.lz_tree.specs.declared.token.Token.{Token}
use Rattle.lz_tree.specs.declared.token.Keyword.TheVariants as keys
use Rattle.lz_tree.specs.declared.token.Punct.TheVariants as marks
use Rattle.lz_tree.specs.Languages.{showing, is_mark, is_key, same_mark, mark_shown, key_shown, name_shown, line_at}
use Rattle.lz_tree.specs.Spelling.{SpellsExpression, SpellsStatement}
use Rattle.lz_tree.specs.Trees.{Expression, object, whole, element, Statement, eval, when, while, do_while, label, Branch, absent, branch}
use Rattle.lz_tree.specs.Height.{expression_height, statement_height}
use Rattle.lz_tree.specs.WellFormed.{InExpression, InStatement, FitsExpression, FitsStatement, is_open}
use Rattle.lz_expr.specs.Reading.{Reader, gives, ◌>>=◌, pure, starts, choice, Ends}
use Rattle.lz_expr.specs.Grammar.{mark, key, begins_key, is_whole, expr}
use Rattle.lz_expr.proofs.ExactLemmas.{Exact}
use Rattle.lz_expr.proofs.RowsLemmas.{Row, made, along, row_one, row_last, row_token, row_part, row_then, row_choice, row_of, exact_same, agree, heads_token, heads_made, begins_token}
use Rattle.lz_expr.proofs.TailLemmas.{Extended, exact_tail}
use Rattle.lz_expr.proofs.TokensLemmas.{the_mark, the_mark_shows, the_key, the_key_shows, mark_is, mark_kind_is, key_is, key_shows, some_shown, no_text}
use Rattle.lz_expr.proofs.GoesLemmas.{below, class_goes, close_paren_stops, semicolon_stops, colon_stops}
use Rattle.lz_expr.proofs.ExpressionsLemmas.{level_small}
use Rattle.lz_grammar.specs.Grammar.{evaluated, otherwise, tested, repeated, repeated_behind, labelled, label_or_end, expression_first}
use Rattle.lz_grammar.proofs.ValuesLemmas.{row_expr}
use Rattle.lz_grammar.proofs.FormsLemmas.{statement_goes, form, while_no_else}
use Rattle.lz_grammar.proofs.StatementsLemmas.{Of}
use Rattle.lz_base.proofs.BoolLemmas.{first_fails}

semicolon_colon : (c : Token) (x : ℕ) → mark_shown marks.Semicolon c ≡ Some x → is_mark marks.Colon c ≡ false
unfolding is_mark same_mark
semicolon_colon c x e = rw (mark_kind_is marks.Semicolon c x e) refl

either : (a b : Bool) → (true && b) ≡ ((a && b) || (not a && b))
either true true = refl
either true false = refl
either false true = refl
either false false = refl

other : (a b : Bool) → not a ≡ false → (a && b) ≡ false → b ≡ false
other true b h k = k
other false b h k = absurd cc

module _ (h : ℕ) (inner : Reader Token Statement) (some : 0 < h) (rs : Row (InStatement h) inner statement_goes) where
  abbrev In : Expression → List Token → Type 0
  In = InExpression h 12

  row_test : Row In (expr h 12) (class_goes (below h) 12)
  row_test = row_expr h 12 some (omega arith)

  -- ---- `while ( assign ) stmt`

  abbrev while_test : ℕ → ℕ → Statement → List Token → Type 0
  while_test line m = along In (λ test. along (showing (mark_shown marks.CloseParen)) (λ n. made (while line test) (InStatement h)))

  abbrev while_text : Statement → List Token → Type 0
  while_text = along (showing (key_shown keys.While)) (λ line. along (showing (mark_shown marks.OpenParen)) (while_test line))

  while_row : Row while_text (repeated inner h) statement_goes
  unfolding repeated
  while_row = row_token (key_shown keys.While) _ _ statement_goes (the_key keys.While) _ (the_key_shows keys.While) (λ line.
      row_token (mark_shown marks.OpenParen) (while_test line) _ statement_goes (the_mark marks.OpenParen) _ (the_mark_shows marks.OpenParen) (λ m.
      row_part In (expr h 12) (class_goes (below h) 12) (mark_shown marks.CloseParen) (λ test n. made (while line test) (InStatement h)) _ statement_goes row_test (the_mark marks.CloseParen) _ (the_mark_shows marks.CloseParen) (close_paren_stops (below h) 12) (λ test n.
      row_last (InStatement h) inner statement_goes (while line test) statement_goes rs (λ s u c k. refl))))

  while_into : (t : Statement) (u : List Token) → while_text t u → Of 4 h t u
  while_into t u (line, (a, b, same, k, (m, (a₂, b₂, same₂, o, (test, (a₃, b₃, same₃, e_in, (n, (a₄, b₄, same₄, close, (body, is, s_in))))))))) =
      subst (λ (x : Statement). Of 4 h x u) is (
        refl,
        record {
          low = (let x = e_in.low in let y = s_in.low in omega arith);
          fits = (e_in.fits, s_in.fits);
          spells = (a, b, same, k, (a₂, b₂, same₂, (m, o), (a₃, b₃, same₃, e_in.spells, (a₄, b₄, same₄, (n, close), s_in.spells))));
        },
      )

  while_back_at : (line : ℕ) (test : Expression) (body : Statement) (u : List Token) → statement_height (while line test body) ≤ suc h → FitsStatement (while line test body) → SpellsStatement (while line test body) u
      → while_text (while line test body) u
  while_back_at line test body u low fits (a, b, same, k, (a₂, b₂, same₂, (m, o), (a₃, b₃, same₃, e_spells, (a₄, b₄, same₄, (n, close), s_spells)))) = (
    line,
    (
      a,
      b,
      same,
      k,
      (
        m,
        (
          a₂,
          b₂,
          same₂,
          o,
          (
            test,
            (
              a₃,
              b₃,
              same₃,
              record { low = omega arith; tight = level_small test; fits = fits.0; spells = e_spells },
              (n, (a₄, b₄, same₄, close, (body, refl, record { low = omega arith; fits = fits.1; spells = s_spells }))),
            ),
          ),
        ),
      ),
    ),
  )

  while_back : (t : Statement) (u : List Token) → Of 4 h t u → while_text t u
  while_back (while line test body) u m = while_back_at line test body u m.1.low m.1.fits m.1.spells
  while_back _ u m = let e = m.0 in absurd (omega arith)

  pub row_while : Row (Of 4 h) (repeated inner h) statement_goes
  row_while = row_of while_text (repeated inner h) statement_goes statement_goes while_row (Of 4 h) while_into while_back (λ t u c m. refl)

  -- ---- `do stmt while ( assign ) ;`

  abbrev do_test : ℕ → Statement → ℕ → ℕ → Statement → List Token → Type 0
  do_test line body k m = along In (λ test. along (showing (mark_shown marks.CloseParen)) (λ n. made (λ s. do_while line body test) (showing (mark_shown marks.Semicolon))))

  abbrev do_while_word : ℕ → Statement → Statement → List Token → Type 0
  do_while_word line body = along (showing (key_shown keys.While)) (λ k. along (showing (mark_shown marks.OpenParen)) (do_test line body k))

  abbrev do_text : Statement → List Token → Type 0
  do_text = along (showing (key_shown keys.Do)) (λ line. along (InStatement h) (do_while_word line))

  semicolon_row : Row (showing (mark_shown marks.Semicolon)) (mark marks.Semicolon) (λ _ _. false)
  semicolon_row = row_one (mark_shown marks.Semicolon) (the_mark marks.Semicolon) _ (the_mark_shows marks.Semicolon)

  do_behind : (line : ℕ) (body : Statement) → Row (do_while_word line body)
      (key keys.While >>= (λ k. mark marks.OpenParen >>= (λ m. expr h 12 >>= (λ test. mark marks.CloseParen >>= (λ n. mark marks.Semicolon >>= (λ s. pure (do_while line body test))))))) statement_goes
  do_behind line body = row_token (key_shown keys.While) _ _ statement_goes (the_key keys.While) _ (the_key_shows keys.While) (λ k.
      row_token (mark_shown marks.OpenParen) (do_test line body k) _ statement_goes (the_mark marks.OpenParen) _ (the_mark_shows marks.OpenParen) (λ m.
      row_part In (expr h 12) (class_goes (below h) 12) (mark_shown marks.CloseParen) (λ test n. made (λ s. do_while line body test) (showing (mark_shown marks.Semicolon))) _ statement_goes row_test
      (the_mark marks.CloseParen) _ (the_mark_shows marks.CloseParen) (close_paren_stops (below h) 12) (λ test n.
      row_last (showing (mark_shown marks.Semicolon)) (mark marks.Semicolon) (λ _ _. false) (λ s. do_while line body test) statement_goes semicolon_row (λ s u c k. refl))))

  do_row : Row do_text (repeated_behind inner h) statement_goes
  unfolding repeated_behind
  do_row = row_token (key_shown keys.Do) (λ line. along (InStatement h) (do_while_word line)) _ statement_goes (the_key keys.Do) _ (the_key_shows keys.Do) (λ line.
      row_then (InStatement h) inner statement_goes (do_while_word line) _ statement_goes rs (do_behind line)
      (λ s t c v m. let k = heads_token (key_shown keys.While) (λ k. along (showing (mark_shown marks.OpenParen)) (do_test line s k)) t c v m in and_right (is_open s) _ (while_no_else c k.0 k.1)))

  do_into : (t : Statement) (u : List Token) → do_text t u → Of 5 h t u
  do_into t u (line, (a, b, same, k, (body, (a₂, b₂, same₂, s_in, (j, (a₃, b₃, same₃, w, (m, (a₄, b₄, same₄, o, (test, (a₅, b₅, same₅, e_in, (n, (a₆, b₆, same₆, close, (l, is, e))))))))))))) =
      subst (λ (x : Statement). Of 5 h x u) is (
        refl,
        record {
          low = (let x = e_in.low in let y = s_in.low in omega arith);
          fits = (s_in.fits, e_in.fits);
          spells = (a, b, same, k, (a₂, b₂, same₂, s_in.spells, (a₃, b₃, same₃, (j, w), (a₄, b₄, same₄, (m, o), (a₅, b₅, same₅, e_in.spells, (a₆, b₆, same₆, (n, close), (l, e)))))));
        },
      )

  do_back_at : (line : ℕ) (body : Statement) (test : Expression) (u : List Token) → statement_height (do_while line body test) ≤ suc h → FitsStatement (do_while line body test) → SpellsStatement (do_while line body test) u
      → do_text (do_while line body test) u
  do_back_at line body test u low fits (a, b, same, k, (a₂, b₂, same₂, s_spells, (a₃, b₃, same₃, (j, w), (a₄, b₄, same₄, (m, o), (a₅, b₅, same₅, e_spells, (a₆, b₆, same₆, (n, close), (l, e))))))) = (
    line,
    (
      a,
      b,
      same,
      k,
      (
        body,
        (
          a₂,
          b₂,
          same₂,
          record { low = omega arith; fits = fits.0; spells = s_spells },
          (
            j,
            (
              a₃,
              b₃,
              same₃,
              w,
              (
                m,
                (
                  a₄,
                  b₄,
                  same₄,
                  o,
                  (test, (a₅, b₅, same₅, record { low = omega arith; tight = level_small test; fits = fits.1; spells = e_spells }, (n, (a₆, b₆, same₆, close, (l, refl, e))))),
                ),
              ),
            ),
          ),
        ),
      ),
    ),
  )

  do_back : (t : Statement) (u : List Token) → Of 5 h t u → do_text t u
  do_back (do_while line body test) u m = do_back_at line body test u m.1.low m.1.fits m.1.spells
  do_back _ u m = let e = m.0 in absurd (omega arith)

  pub row_do : Row (Of 5 h) (repeated_behind inner h) statement_goes
  row_do = row_of do_text (repeated_behind inner h) statement_goes statement_goes do_row (Of 5 h) do_into do_back (λ t u c m. refl)

  -- ---- `if ( assign ) stmt`, and `else stmt`

  module _ (line : ℕ) (test : Expression) where
    abbrev alone : Statement → Statement
    alone met = when line test met absent

    abbrev closed : Statement → Bool
    closed met = not (is_open met)

    abbrev else_text : Statement → Statement → List Token → Type 0
    else_text met = along (showing (key_shown keys.Else)) (λ m. made (λ s. when line test met (branch s)) (InStatement h))

    abbrev with_else : Statement → Reader Token Statement
    with_else met = key keys.Else >>= (λ m. inner >>= (λ s. pure (when line test met (branch s))))

    else_behind : (met : Statement) → Row (made (λ s. when line test met (branch s)) (InStatement h)) (inner >>= (λ s. pure (when line test met (branch s)))) statement_goes
    else_behind met = row_last (InStatement h) inner statement_goes (λ s. when line test met (branch s)) statement_goes rs (λ s u c m. refl)

    else_row : (met : Statement) → Row (else_text met) (with_else met) statement_goes
    else_row met = row_token (key_shown keys.Else) (λ m. made (λ s. when line test met (branch s)) (InStatement h)) _ statement_goes (the_key keys.Else) _ (the_key_shows keys.Else) (λ m. else_behind met)

    -- what may stand behind `if ( assign )`
    abbrev behind_test : Statement → List Token → Type 0
    behind_test t u = ((met : Statement) × (alone met ≡ t) × InStatement h met u) ⊎ Extended (InStatement h) closed else_text t u

    looking : Exact behind_test (inner >>= (λ met ts. if closed met && starts (is_key keys.Else) ts then with_else met ts else gives (alone met) ts)) statement_goes
    looking = exact_tail (InStatement h) inner statement_goes rs.exact alone closed (is_key keys.Else) else_text with_else (λ met. statement_goes) (λ met q. (else_row met).exact)
        behind_test statement_goes
        (λ met u m. inl (met, refl, m))
        (λ met t u v m q n. inr (record { start = met; before = u; behind = v; same = refl; start_in = m; may = q; rest_in = n }))
        (λ t u m. m)
        (λ met t c v q m. let s = heads_token (key_shown keys.Else) (λ m. made (λ s. when line test met (branch s)) (InStatement h)) t c v m in key_is keys.Else c s.0 s.1)
        (λ met t q m. (else_row met).full t m)
        (λ met c q p. begins_token (key_shown keys.Else) (λ m. made (λ s. when line test met (branch s)) (InStatement h)) c c.line (key_shows keys.Else c p) (else_behind met).some)
        (λ met u c m q e. first_fails (is_open met) (is_key keys.Else c) q)
        (λ met u c m. either (is_open met) (is_key keys.Else c))
        (λ met t v c q m. refl)

    -- the reader needs not look whether the `if` is closed: behind an open one no `else` is left
    no_look : (met : Statement) (mid : List Token) → Ends (statement_goes met) mid
        → (if closed met && starts (is_key keys.Else) mid then with_else met mid else gives (alone met) mid) ≡ (if begins_key keys.Else mid then with_else met mid else gives (alone met) mid)
    no_look met mid e = go mid e (closed met) refl
      where
        go : (mid : List Token) → Ends (statement_goes met) mid → (q : Bool) → closed met ≡ q
            → (if q && starts (is_key keys.Else) mid then with_else met mid else gives (alone met) mid) ≡ (if begins_key keys.Else mid then with_else met mid else gives (alone met) mid)
        go mid e true q = refl
        go [] e false q = refl
        go (c ∷ mid) e false q = rw (other (is_open met) (is_key keys.Else c) q e) refl

    none_behind : (t : Statement) → behind_test t [] → ⊥
    none_behind t (inl m) = rs.full m.0 m.2
    none_behind t (inr x) = no_front x.start x.before x.behind x.same x.start_in
      where
        no_front : (met : Statement) (u v : List Token) → [] ≡ u ++ v → InStatement h met u → ⊥
        no_front met [] v same m = rs.full met m
        no_front met (c ∷ u) v same m = absurd cc

    behind_row : Row behind_test (inner >>= (λ met. otherwise inner h line test met)) statement_goes
    unfolding otherwise
    behind_row = record {
      exact = exact_same behind_test (inner >>= (λ met ts. if closed met && starts (is_key keys.Else) ts then with_else met ts else gives (alone met) ts))
          (inner >>= (λ met ts. if begins_key keys.Else ts then with_else met ts else gives (alone met) ts)) statement_goes looking
          (agree (InStatement h) inner statement_goes rs.exact (λ met ts. if closed met && starts (is_key keys.Else) ts then with_else met ts else gives (alone met) ts)
          (λ met ts. if begins_key keys.Else ts then with_else met ts else gives (alone met) ts) no_look);
      some = (let s = rs.some in (alone s.0, s.1, inl (s.0, refl, s.2)));
      full = none_behind;
    }

  abbrev if_test : ℕ → ℕ → Statement → List Token → Type 0
  if_test line m = along In (λ test. along (showing (mark_shown marks.CloseParen)) (λ n. behind_test line test))

  abbrev if_text : Statement → List Token → Type 0
  if_text = along (showing (key_shown keys.If)) (λ line. along (showing (mark_shown marks.OpenParen)) (if_test line))

  if_row : Row if_text (tested inner h) statement_goes
  unfolding tested
  if_row = row_token (key_shown keys.If) _ _ statement_goes (the_key keys.If) _ (the_key_shows keys.If) (λ line.
      row_token (mark_shown marks.OpenParen) (if_test line) _ statement_goes (the_mark marks.OpenParen) _ (the_mark_shows marks.OpenParen) (λ m.
      row_part In (expr h 12) (class_goes (below h) 12) (mark_shown marks.CloseParen) (λ test n. behind_test line test) (λ test n. inner >>= (λ met. otherwise inner h line test met)) statement_goes row_test
      (the_mark marks.CloseParen) _ (the_mark_shows marks.CloseParen) (close_paren_stops (below h) 12) (λ test n. behind_row line test)))

  if_into : (t : Statement) (u : List Token) → if_text t u → Of 3 h t u
  if_into t u (line, (a, b, same, k, (m, (a₂, b₂, same₂, o, (test, (a₃, b₃, same₃, e_in, (n, (a₄, b₄, same₄, close, inl (met, is, s_in))))))))) =
      subst (λ (x : Statement). Of 3 h x u) is (
        refl,
        record {
          low = (let x = e_in.low in let y = s_in.low in omega arith);
          fits = (e_in.fits, s_in.fits, tt);
          spells = (a, b, same, k, (a₂, b₂, same₂, (m, o), (a₃, b₃, same₃, e_in.spells, (a₄, b₄, same₄, (n, close), (b₄, [], sym (append-nil b₄), s_in.spells, refl)))));
        },
      )
  if_into t u (line, (a, b, same, k, (m, (a₂, b₂, same₂, o, (test, (a₃, b₃, same₃, e_in, (n, (a₄, b₄, same₄, close, inr x)))))))) = with_branch x.start x.before x.behind x.same x.start_in x.may x.rest_in
    where
      with_branch : (met : Statement) (u₅ v₅ : List Token) → b₄ ≡ u₅ ++ v₅ → InStatement h met u₅ → not (is_open met) ≡ true → along (showing (key_shown keys.Else)) (λ k. made (λ s. when line test met (branch s)) (InStatement h)) t v₅ → Of 3 h t u
      with_branch met u₅ v₅ same₅ met_in q (j, (u₆, v₆, same₆, els, (s, is, s_in))) =
          subst (λ (y : Statement). Of 3 h y u) is (
            refl,
            record {
              low = (let x = e_in.low in let y = met_in.low in let z = s_in.low in omega arith);
              fits = (e_in.fits, met_in.fits, (not-true (is_open met) q, s_in.fits));
              spells = (a, b, same, k, (a₂, b₂, same₂, (m, o), (a₃, b₃, same₃, e_in.spells, (a₄, b₄, same₄, (n, close), (u₅, v₅, same₅, met_in.spells, (u₆, v₆, same₆, (j, els), s_in.spells))))));
            },
          )

  if_back_at : (line : ℕ) (test : Expression) (met : Statement) (unmet : Branch) (u : List Token) → statement_height (when line test met unmet) ≤ suc h → FitsStatement (when line test met unmet)
      → SpellsStatement (when line test met unmet) u → if_text (when line test met unmet) u
  if_back_at line test met absent u low fits (a, b, same, k, (a₂, b₂, same₂, (m, o), (a₃, b₃, same₃, e_spells, (a₄, b₄, same₄, (n, close), (u₅, v₅, same₅, s_spells, nothing_is))))) =
      let is : b₄ ≡ u₅ = same₅ ∙ ap (λ (w : List Token). u₅ ++ w) nothing_is ∙ append-nil u₅ in (
        line,
        (
          a,
          b,
          same,
          k,
          (
            m,
            (
              a₂,
              b₂,
              same₂,
              o,
              (
                test,
                (
                  a₃,
                  b₃,
                  same₃,
                  record { low = omega arith; tight = level_small test; fits = fits.0; spells = e_spells },
                  (n, (a₄, b₄, same₄, close, inl (met, refl, record { low = omega arith; fits = fits.1; spells = subst (λ (w : List Token). SpellsStatement met w) (sym is) s_spells }))),
                ),
              ),
            ),
          ),
        ),
      )
  if_back_at line test met (branch s) u low fits (a, b, same, k, (a₂, b₂, same₂, (m, o), (a₃, b₃, same₃, e_spells, (a₄, b₄, same₄, (n, close), (u₅, v₅, same₅, s_spells, (u₆, v₆, same₆, (j, els), t_spells)))))) =
      let closed_is = fits.2.0 in (
        line,
        (
          a,
          b,
          same,
          k,
          (
            m,
            (
              a₂,
              b₂,
              same₂,
              o,
              (
                test,
                (
                  a₃,
                  b₃,
                  same₃,
                  record { low = omega arith; tight = level_small test; fits = fits.0; spells = e_spells },
                  (
                    n,
                    (
                      a₄,
                      b₄,
                      same₄,
                      close,
                      inr (record {
                        start = met;
                        before = u₅;
                        behind = v₅;
                        same = same₅;
                        start_in = record { low = omega arith; fits = fits.1; spells = s_spells };
                        may = rw closed_is refl;
                        rest_in = (j, (u₆, v₆, same₆, els, (s, refl, record { low = omega arith; fits = fits.2.1; spells = t_spells })));
                      }),
                    ),
                  ),
                ),
              ),
            ),
          ),
        ),
      )

  if_back : (t : Statement) (u : List Token) → Of 3 h t u → if_text t u
  if_back (when line test met unmet) u m = if_back_at line test met unmet u m.1.low m.1.fits m.1.spells
  if_back _ u m = let e = m.0 in absurd (omega arith)

  pub row_if : Row (Of 3 h) (tested inner h) statement_goes
  row_if = row_of if_text (tested inner h) statement_goes statement_goes if_row (Of 3 h) if_into if_back (λ t u c m. refl)

  -- ---- `assign ;`

  abbrev eval_text : Statement → List Token → Type 0
  eval_text = along In (λ v. made (λ m. eval v) (showing (mark_shown marks.Semicolon)))

  eval_row : Row eval_text (evaluated h) statement_goes
  unfolding evaluated
  eval_row = row_then In (expr h 12) (class_goes (below h) 12) (λ v. made (λ m. eval v) (showing (mark_shown marks.Semicolon))) _ statement_goes row_test
      (λ v. row_last (showing (mark_shown marks.Semicolon)) (mark marks.Semicolon) (λ _ _. false) (λ m. eval v) statement_goes semicolon_row (λ x u c m. refl))
      (λ v t c s m. let k = heads_made (λ m. eval v) (mark_shown marks.Semicolon) t c s m in semicolon_stops (below h) 12 v c k.0 k.1)

  eval_in : (t : Statement) (u : List Token) → eval_text t u → (form t ≡ 0) × InStatement (suc h) t u
  eval_in t u (v, (a, b, same, v_in, (m, is, s))) = subst (λ (x : Statement). Of 0 h x u) is (refl, record { low = (let x = v_in.low in omega arith); fits = v_in.fits; spells = (a, b, same, v_in.spells, (m, s)) })

  -- ---- a name with `:`, and a statement

  abbrev label_behind : Expression → ℕ → Statement → List Token → Type 0
  label_behind v m = made (labelled inner h v) (InStatement h)

  abbrev label_text : Expression → Statement → List Token → Type 0
  label_text v t u = (is_whole v ≡ true) × along (showing (mark_shown marks.Colon)) (label_behind v) t u

  labelled_goes : (v : Expression) → is_whole v ≡ true → (s : Statement) (c : Token) → statement_goes (labelled inner h v s) c ≡ statement_goes s c
  labelled_goes (object line n whole) q s c = refl
  labelled_goes (object line n (element i)) q s c = absurd cc
  labelled_goes _ q s c = absurd cc

  label_row : (v : Expression) → is_whole v ≡ true → Row (label_text v) (mark marks.Colon >>= (λ m. inner >>= (λ s. pure (labelled inner h v s)))) statement_goes
  label_row v q = row_of (along (showing (mark_shown marks.Colon)) (label_behind v)) (mark marks.Colon >>= (λ m. inner >>= (λ s. pure (labelled inner h v s)))) statement_goes statement_goes
      (row_token (mark_shown marks.Colon) (label_behind v) _ statement_goes (the_mark marks.Colon) _ (the_mark_shows marks.Colon)
      (λ m. row_last (InStatement h) inner statement_goes (labelled inner h v) statement_goes rs (λ s u c k. labelled_goes v q s c)))
      (label_text v) (λ t u m. (q, m)) (λ t u m. m.1) (λ t u c m. refl)

  abbrev end_text : Expression → Statement → List Token → Type 0
  end_text v = made (λ m. eval v) (showing (mark_shown marks.Semicolon))

  abbrev label_or : Expression → Statement → List Token → Type 0
  label_or v t u = label_text v t u ⊎ end_text v t u

  label_full : (v : Expression) (t : Statement) → label_text v t [] → ⊥
  label_full v t (q, (m, (a, b, same, s, k))) = no_text a b same (some_shown (mark_shown marks.Colon) m a s)

  semicolon_no_colon : (c : Token) (x : ℕ) → mark_shown marks.Semicolon c ≡ Some x → is_mark marks.Colon c ≡ false
  semicolon_no_colon c x e = semicolon_colon c x e

  or_row : (v : Expression) → Row (label_or v) (label_or_end inner h v) statement_goes
  unfolding label_or_end choice
  or_row v = row_choice (λ c. is_mark marks.Colon c && is_whole v) (label_text v) (end_text v) (mark marks.Colon >>= (λ m. inner >>= (λ s. pure (labelled inner h v s)))) (mark marks.Semicolon >>= (λ m. pure (eval v))) statement_goes
      (λ c p. label_row v (and_parts (is_mark marks.Colon c) (is_whole v) p).1)
      (row_last (showing (mark_shown marks.Semicolon)) (mark marks.Semicolon) (λ _ _. false) (λ m. eval v) statement_goes semicolon_row (λ x u c m. refl))
      (label_or v) (λ t u m. inl m) (λ t u m. inr m) (λ t u m. m) (label_full v)
      (λ t c u m. let s = heads_token (mark_shown marks.Colon) (label_behind v) t c u m.1 in rw (mark_is marks.Colon c s.0 s.1, m.0) refl)
      (λ t c u m. let s = heads_made (λ m. eval v) (mark_shown marks.Semicolon) t c u m in rw (semicolon_no_colon c s.0 s.1) refl)

  or_apart : (v : Expression) (t : Statement) (c : Token) (s : List Token) → label_or v t (c ∷ s) → class_goes (below h) 12 v c ≡ false
  or_apart v t c s (inl m) = let k = heads_token (mark_shown marks.Colon) (label_behind v) t c s m.1 in colon_stops (below h) 12 v c k.0 k.1
  or_apart v t c s (inr m) = let k = heads_made (λ m. eval v) (mark_shown marks.Semicolon) t c s m in semicolon_stops (below h) 12 v c k.0 k.1

  abbrev first_text : Statement → List Token → Type 0
  first_text = along In label_or

  label_in : (v : Expression) (t : Statement) (a b u : List Token) → u ≡ a ++ b → In v a → label_text v t b → Of 0 h t u
  label_in (object line n whole) t a b u same v_in (q, (m, (a₂, b₂, same₂, s, (of, is, of_in)))) = by_spells v_in.spells
    where
      by_spells : SpellsExpression (object line n whole) a → Of 0 h t u
      by_spells (at, (a₃, b₃, same₃, name_in, nothing_is)) =
          let whole_is : a ≡ a₃ = same₃ ∙ ap (λ (w : List Token). a₃ ++ w) nothing_is ∙ append-nil a₃ in
          subst (λ (x : Statement). Of 0 h x u) is (
            refl,
            record {
              low = (let x = of_in.low in omega arith);
              fits = of_in.fits;
              spells = (a, b, same, subst (λ (w : List Token). showing name_shown n w) (sym whole_is) name_in, (a₂, b₂, same₂, (m, s), of_in.spells));
            },
          )
  label_in (object line n (element i)) t a b u same v_in (q, m) = absurd cc
  label_in _ t a b u same v_in (q, m) = absurd cc

  first_into : (t : Statement) (u : List Token) → first_text t u → Of 0 h t u
  first_into t u (v, (a, b, same, v_in, inl m)) = label_in v t a b u same v_in m
  first_into t u (v, (a, b, same, v_in, inr m)) = eval_in t u (v, (a, b, same, v_in, m))

  eval_back : (v : Expression) (u : List Token) → suc (expression_height v) ≤ suc h → FitsExpression v → SpellsStatement (eval v) u → first_text (eval v) u
  eval_back v u low fits (a, b, same, s, (m, e)) = (v, (a, b, same, record { low = omega arith; tight = level_small v; fits = fits; spells = s }, inr (m, refl, e)))

  label_back : (n : ℕ) (of : Statement) (u : List Token) → suc (statement_height of) ≤ suc h → FitsStatement of → SpellsStatement (label n of) u → first_text (label n of) u
  label_back n of u low fits (a, b, same, s, (a₂, b₂, same₂, (m, colon), of_spells)) = (
    object (line_at a) n whole,
    (
      a,
      b,
      same,
      record { low = omega arith; tight = omega arith; fits = tt; spells = (refl, (a, [], sym (append-nil a), s, refl)) },
      inl (refl, (m, (a₂, b₂, same₂, colon, (of, refl, record { low = omega arith; fits = fits; spells = of_spells })))),
    ),
  )

  first_back : (t : Statement) (u : List Token) → Of 0 h t u → first_text t u
  first_back (eval v) u m = eval_back v u m.1.low m.1.fits m.1.spells
  first_back (label n of) u m = label_back n of u m.1.low m.1.fits m.1.spells
  first_back _ u m = let e = m.0 in absurd (omega arith)

  pub row_expression_first : Row (Of 0 h) (expression_first inner h) statement_goes
  unfolding expression_first
  row_expression_first = row_of first_text (expr h 12 >>= label_or_end inner h) statement_goes statement_goes
      (row_then In (expr h 12) (class_goes (below h) 12) label_or (label_or_end inner h) statement_goes row_test or_row or_apart)
      (Of 0 h) first_into first_back (λ t u c m. refl)
