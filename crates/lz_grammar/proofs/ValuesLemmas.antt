-- A list of initializers is read exactly, with a comma behind its last value or without.
use Rattle.std.proofs.Common.{◌≡◌, ℕ, zero, suc, ◌+◌, ◌-◌, ◌<◌, ◌≤◌, Bool, true, false, List, [], ◌∷◌, ◌++◌, length, Option, Some, None, refl, ap, subst, ◌∙◌, inl, inr, arith, length-append, nat_lt}
use Rattle.std.specs.Prelude.{if◌then◌else◌, ◌⊎◌, ◌&&◌, not}
use Rattle.std.proofs.lemmas.Bool.{and_parts, lt-ltb, ltb-true}
use Rattle.std.proofs.Math.Bool.{and-false}
use Rattle.lz_tree.specs.declared.token.Token.{Token}
use Rattle.lz_tree.specs.declared.token.TokenKind.{TokenKind}
use Rattle.lz_tree.specs.declared.token.Punct.TheVariants as marks
use Rattle.lz_tree.specs.Languages.{showing, is_mark, same_mark, mark_shown}
use Rattle.lz_tree.specs.Spelling.{SpellsList, SpellsFurther, CloseList}
use Rattle.lz_tree.specs.Trees.{Expression, expressions_of}
use Rattle.lz_tree.specs.Height.{highest}
use Rattle.lz_tree.specs.WellFormed.{InExpression, FitsAll, is_empty}
use Rattle.lz_expr.specs.Reading.{Outcome, gives, refused, Reader, and_then, ◌>>=◌, pure, shown, token, starts, choice}
use Rattle.lz_expr.specs.Grammar.{mark, expr, opening_of}
use Rattle.lz_expr.proofs.ExactLemmas.{Found}
use Rattle.lz_expr.proofs.RowsLemmas.{Row, made, along, row_one, row_last, row_token, row_then, row_choice, heads_token, heads_made}
use Rattle.lz_expr.proofs.TurnsLemmas.{row_turns}
use Rattle.lz_expr.proofs.TokensLemmas.{the_mark, the_mark_shows, mark_is, mark_kind_is, is_mark_is, no_text}
use Rattle.lz_expr.proofs.GoesLemmas.{below, class_goes, comma_stops, close_brace_stops}
use Rattle.lz_expr.proofs.ExpressionsLemmas.{level_small, some_text, heads, is_opening, first_part}
use Rattle.lz_expr.proofs.HeightsLemmas.{row_expression}
use Rattle.lz_grammar.specs.Grammar.{values, all_values}

-- expressions of a class and a height that is not 0
pub row_expr : (h c : ℕ) → 0 < h → c ≤ 12 → Row (InExpression h c) (expr h c) (class_goes (below h) c)
row_expr zero c some l = absurd (omega arith)
row_expr (suc h) c some l = row_expression h c l

opening_no_brace : (c : Token) → is_opening (opening_of c.kind) ≡ true → is_mark marks.CloseBrace c ≡ false
opening_no_brace c h = by_test (is_mark marks.CloseBrace c) refl
  where
    by_test : (q : Bool) → is_mark marks.CloseBrace c ≡ q → is_mark marks.CloseBrace c ≡ false
    by_test true e = let k : is_opening (opening_of c.kind) ≡ false = ap (λ (x : TokenKind). is_opening (opening_of x)) (is_mark_is marks.CloseBrace c e) in absurd cc
    by_test false e = e

brace_no_comma : (c : Token) (x : ℕ) → mark_shown marks.CloseBrace c ≡ Some x → is_mark marks.Comma c ≡ false
unfolding is_mark same_mark
brace_no_comma c x h = rw (mark_kind_is marks.CloseBrace c x h) refl

module _ (h : ℕ) (room : 1 < h) where
  abbrev Values : Type 0
  Values = List Expression × Bool

  abbrev In : Expression → List Token → Type 0
  In = InExpression (h - 1) 12

  row_in : Row In (expr (h - 1) 12) (class_goes (below (h - 1)) 12)
  row_in = row_expr (h - 1) 12 (omega arith) (omega arith)

  abbrev ended : Expression → Bool → Values → List Token → Type 0
  ended v comma = made (λ k. (v ∷ [], comma)) (showing (mark_shown marks.CloseBrace))

  abbrev after_comma : (Values → List Token → Type 0) → Expression → ℕ → Values → List Token → Type 0
  after_comma more v m t u = made (λ r. (v ∷ r.0, r.1)) more t u ⊎ ended v true t u

  abbrev after_value : (Values → List Token → Type 0) → Expression → Values → List Token → Type 0
  after_value more v t u = along (showing (mark_shown marks.Comma)) (after_comma more v) t u ⊎ ended v false t u

  abbrev turn_text : ℕ → Values → List Token → Type 0
  turn_text zero t u = ⊥
  turn_text (suc n) t u = along In (after_value (turn_text n)) t u

  end_row : (v : Expression) (comma : Bool) → Row (ended v comma) (mark marks.CloseBrace >>= (λ k. pure {A = Values} (v ∷ [], comma))) (λ _ _. false)
  end_row v comma = row_last (showing (mark_shown marks.CloseBrace)) (mark marks.CloseBrace) (λ _ _. false) (λ k. (v ∷ [], comma)) (λ _ _. false) (row_one (mark_shown marks.CloseBrace) (the_mark marks.CloseBrace) _ (the_mark_shows marks.CloseBrace))
      (λ x u c m. refl)

  turn_full : (n : ℕ) (t : Values) → turn_text n t [] → ⊥
  turn_full zero t m = m
  turn_full (suc n) t (v, (a, b, same, v_in, m)) = no_text a b same (some_text v a v_in.spells)

  turn_opens : (n : ℕ) (t : Values) (c : Token) (u : List Token) → turn_text n t (c ∷ u) → (0 < n) × (is_opening (opening_of c.kind) ≡ true)
  turn_opens zero t c u m = absurd m
  turn_opens (suc n) t c u (v, m) = (omega arith, first_part (λ d. is_opening (opening_of d.kind) ≡ true) c u m (λ w k. some_text v w k.spells) (λ w k. heads v c w k.spells))

  abbrev again : ℕ → Token → Bool
  again n c = nat_lt 0 n && not (is_mark marks.CloseBrace c)

  more_full : (n : ℕ) (v : Expression) (t : Values) → made (λ r. (v ∷ r.0, r.1)) (turn_text n) t [] → ⊥
  more_full n v t m = turn_full n m.0 m.2

  more_heads : (n : ℕ) (v : Expression) (t : Values) (c : Token) (u : List Token) → made (λ r. (v ∷ r.0, r.1)) (turn_text n) t (c ∷ u) → again n c ≡ true
  more_heads n v t c u m = let o = turn_opens n m.0 c u m.2 in rw (lt-ltb 0 n o.0, opening_no_brace c o.1) refl

  end_heads : (n : ℕ) (v : Expression) (comma : Bool) (t : Values) (c : Token) (u : List Token) → ended v comma t (c ∷ u) → again n c ≡ false
  end_heads n v comma t c u m = let s = heads_made (λ k. (v ∷ [], comma)) (mark_shown marks.CloseBrace) t c u m in rw (mark_is marks.CloseBrace c s.0 s.1) (and-false (nat_lt 0 n))

  end_no_comma : (v : Expression) (comma : Bool) (t : Values) (c : Token) (u : List Token) → ended v comma t (c ∷ u) → is_mark marks.Comma c ≡ false
  end_no_comma v comma t c u m = let s = heads_made (λ k. (v ∷ [], comma)) (mark_shown marks.CloseBrace) t c u m in brace_no_comma c s.0 s.1

  abbrev next : ℕ → Expression → Reader Token Values
  next n v = values expr h n >>= (λ r. pure (v ∷ r.0, r.1))

  abbrev closing : Expression → Bool → Reader Token Values
  closing v comma = mark marks.CloseBrace >>= (λ k. pure (v ∷ [], comma))

  module _ (n : ℕ) (rest : 0 < n → Row (turn_text n) (values expr h n) (λ _ _. false)) where
    comma_row : (v : Expression) (m : ℕ) → Row (after_comma (turn_text n) v m) (choice (again n) (next n v) (closing v true)) (λ _ _. false)
    comma_row v m = row_choice (again n) (made (λ r. (v ∷ r.0, r.1)) (turn_text n)) (ended v true) (next n v) (closing v true) (λ _ _. false)
        (λ c p. row_last (turn_text n) (values expr h n) (λ _ _. false) (λ r. (v ∷ r.0, r.1)) (λ _ _. false) (rest (ltb-true 0 n (and_parts (nat_lt 0 n) (not (is_mark marks.CloseBrace c)) p).0)) (λ x u c m. refl))
        (end_row v true) (after_comma (turn_text n) v m) (λ t u m. inl m) (λ t u m. inr m) (λ t u m. m) (more_full n v) (more_heads n v) (end_heads n v true)

    behind_comma : (v : Expression) → Row (along (showing (mark_shown marks.Comma)) (after_comma (turn_text n) v)) (mark marks.Comma >>= (λ m. choice (again n) (next n v) (closing v true))) (λ _ _. false)
    behind_comma v = row_token (mark_shown marks.Comma) (after_comma (turn_text n) v) (λ m. choice (again n) (next n v) (closing v true)) (λ _ _. false) (the_mark marks.Comma) _ (the_mark_shows marks.Comma) (comma_row v)

    value_row : (v : Expression) → Row (after_value (turn_text n) v) (choice (is_mark marks.Comma) (mark marks.Comma >>= (λ m. choice (again n) (next n v) (closing v true))) (closing v false)) (λ _ _. false)
    value_row v = row_choice (is_mark marks.Comma) (along (showing (mark_shown marks.Comma)) (after_comma (turn_text n) v)) (ended v false) (mark marks.Comma >>= (λ m. choice (again n) (next n v) (closing v true))) (closing v false) (λ _ _. false)
        (λ c p. behind_comma v) (end_row v false) (after_value (turn_text n) v) (λ t u m. inl m) (λ t u m. inr m) (λ t u m. m) (behind_comma v).full
        (λ t c u m. let s = heads_token (mark_shown marks.Comma) (after_comma (turn_text n) v) t c u m in mark_is marks.Comma c s.0 s.1)
        (end_no_comma v false)

    value_apart : (v : Expression) (t : Values) (c : Token) (s : List Token) → after_value (turn_text n) v t (c ∷ s) → class_goes (below (h - 1)) 12 v c ≡ false
    value_apart v t c s (inl m) = let k = heads_token (mark_shown marks.Comma) (after_comma (turn_text n) v) t c s m in comma_stops (below (h - 1)) 12 v c k.0 k.1
    value_apart v t c s (inr m) = let k = heads_made (λ k. (v ∷ [], false)) (mark_shown marks.CloseBrace) t c s m in close_brace_stops (below (h - 1)) 12 v c k.0 k.1

    turn_row : Row (turn_text (suc n)) (values expr h (suc n)) (λ _ _. false)
    unfolding values choice
    turn_row = row_then In (expr (h - 1) 12) (class_goes (below (h - 1)) 12) (after_value (turn_text n)) (λ v. choice (is_mark marks.Comma) (mark marks.Comma >>= (λ m. choice (again n) (next n v) (closing v true))) (closing v false)) (λ _ _. false)
        row_in value_row value_apart

  turns : (n : ℕ) → Row (turn_text (suc n)) (values expr h (suc n)) (λ _ _. false)
  turns zero = turn_row zero (λ some. absurd (omega arith))
  turns (suc n) = turn_row (suc n) (λ some. turns n)

  -- ---- what the turns spell

  -- values, and what ends their list
  pub record InValues (t : Values) (u : List Token) : Type 0 where
    pub low : highest (expressions_of t.0) ≤ h - 1
    pub some : is_empty (expressions_of t.0) ≡ false
    pub fits : FitsAll (expressions_of t.0)
    pub spells : SpellsList (CloseList t.1) (expressions_of t.0) u

  -- what stands behind a value of the list
  record Behind (t : Values) (u : List Token) : Type 0 where
    low : highest (expressions_of t.0) ≤ h - 1
    fits : FitsAll (expressions_of t.0)
    spells : SpellsFurther (CloseList t.1) (expressions_of t.0) u

  first_of : (v : Expression) (t : Values) (a b u : List Token) → u ≡ a ++ b → In v a → Behind t b → InValues (v ∷ t.0, t.1) u
  first_of v t a b u same v_in k = record {
    low = (let x = v_in.low in let y = k.low in omega arith);
    some = refl;
    fits = (v_in.fits, k.fits);
    spells = (a, b, same, v_in.spells, k.spells);
  }

  behind_list : (t : Values) (m : ℕ) (a b u : List Token) → u ≡ a ++ b → showing (mark_shown marks.Comma) m a → InValues t b → Behind t u
  behind_list ([], comma) m a b u same s k = let no = k.some in absurd cc
  behind_list (e ∷ es, comma) m a b u same s k = record { low = k.low; fits = k.fits; spells = (a, b, same, (m, s), k.spells) }

  up : (n : ℕ) (t : Values) (u : List Token) → turn_text n t u → InValues t u
  up zero t u m = absurd m
  up (suc n) t u (v, (a, b, same, v_in, inr (k, is, close))) =
      subst (λ (x : Values). InValues x u) is (first_of v ([], false) a b u same v_in (record { low = omega arith; fits = tt; spells = (k, close) }))
  up (suc n) t u (v, (a, b, same, v_in, inl (m, (a₂, b₂, same₂, comma, inr (k, is, close))))) =
      subst (λ (x : Values). InValues x u) is (first_of v ([], true) a b u same v_in (record { low = omega arith; fits = tt; spells = (a₂, b₂, same₂, (m, comma), (k, close)) }))
  up (suc n) t u (v, (a, b, same, v_in, inl (m, (a₂, b₂, same₂, comma, inl (r, is, more))))) =
      subst (λ (x : Values). InValues x u) is (first_of v r a b u same v_in (behind_list r m a₂ b₂ b same₂ comma (up n r b₂ more)))

  some_length : (v : Expression) (u : List Token) → In v u → 0 < length u
  some_length v [] m = absurd (some_text v [] m.spells refl)
  some_length v (c ∷ u) m = omega arith

  down_by : (n : ℕ) (es : List Expression) (comma : Bool) (u : List Token) → highest (expressions_of es) ≤ h - 1 → is_empty (expressions_of es) ≡ false → FitsAll (expressions_of es)
      → SpellsList (CloseList comma) (expressions_of es) u → length u < n → turn_text n (es, comma) u
  down_by n [] comma u low some fits m l = absurd cc
  down_by zero (e ∷ es) comma u low some fits m l = absurd (omega arith)
  down_by (suc n) (e ∷ []) false u low some fits (a, b, same, e_spells, (k, close)) l =
      (e, (a, b, same, record { low = omega arith; tight = level_small e; fits = fits.0; spells = e_spells }, inr (k, refl, close)))
  down_by (suc n) (e ∷ []) true u low some fits (a, b, same, e_spells, (a₂, b₂, same₂, (m, comma), (k, close))) l =
      (e, (a, b, same, record { low = omega arith; tight = level_small e; fits = fits.0; spells = e_spells }, inl (m, (a₂, b₂, same₂, comma, inr (k, refl, close)))))
  down_by (suc n) (e ∷ f ∷ es) c u low some fits (a, b, same, e_spells, (a₂, b₂, same₂, (m, comma), rest)) l =
      let e_in : In e a = record { low = omega arith; tight = level_small e; fits = fits.0; spells = e_spells } in
      let long = some_length e a e_in in
      let total : length u ≡ length a + length b = ap length same ∙ length-append a b in
      let total₂ : length b ≡ length a₂ + length b₂ = ap length same₂ ∙ length-append a₂ b₂ in
      (e, (a, b, same, e_in, inl (m, (a₂, b₂, same₂, comma, inl ((f ∷ es, c), refl, down_by n (f ∷ es) c b₂ (omega arith) refl fits.1 rest (omega arith))))))

  -- ---- enough turns are enough

  shorter : (ts : List Token) (v : Expression) (mid : List Token) → Found In (class_goes (below (h - 1)) 12) ts v mid → length mid < length ts
  shorter ts v mid f =
      let long = some_length v f.read f.spells in let total : length ts ≡ length f.read + length mid = ap length f.same ∙ length-append f.read mid in omega arith

  abbrev behind_reader : ℕ → Expression → Reader Token Values
  behind_reader n v = choice (is_mark marks.Comma) (mark marks.Comma >>= (λ m. choice (again n) (next n v) (closing v true))) (closing v false)

  same_next : (n m : ℕ) (v : Expression) (ts : List Token) → length ts < n → length ts < m → ((us : List Token) → length us < n → length us < m → values expr h n us ≡ values expr h m us)
      → choice (again n) (next n v) (closing v true) ts ≡ choice (again m) (next m v) (closing v true) ts
  unfolding choice
  same_next n m v [] l k e = refl
  same_next n m v (c ∷ ts) l k e = rw (lt-ltb 0 n (omega arith), lt-ltb 0 m (omega arith)) (by_test (not (is_mark marks.CloseBrace c)))
    where
      by_test : (q : Bool) → (if true && q then next n v (c ∷ ts) else closing v true (c ∷ ts)) ≡ (if true && q then next m v (c ∷ ts) else closing v true (c ∷ ts))
      by_test true = ap (λ (o : Outcome Token Values). and_then o (λ r. pure {A = Values} (v ∷ r.0, r.1))) (e (c ∷ ts) l k)
      by_test false = refl

  same_comma : (n m : ℕ) (v : Expression) (ts : List Token) → length ts ≤ n → length ts ≤ m → ((us : List Token) → length us < n → length us < m → values expr h n us ≡ values expr h m us)
      → (mark marks.Comma >>= (λ k. choice (again n) (next n v) (closing v true))) ts ≡ (mark marks.Comma >>= (λ k. choice (again m) (next m v) (closing v true))) ts
  unfolding token
  same_comma n m v [] l k e = refl
  same_comma n m v (c ∷ ts) l k e = by_shown (mark_shown marks.Comma c)
    where
      by_shown : (o : Option ℕ) → and_then (shown c ts o) (λ x. choice (again n) (next n v) (closing v true)) ≡ and_then (shown c ts o) (λ x. choice (again m) (next m v) (closing v true))
      by_shown None = refl
      by_shown (Some x) = same_next n m v ts (omega arith) (omega arith) e

  same_behind : (n m : ℕ) (v : Expression) (ts : List Token) → length ts ≤ n → length ts ≤ m → ((us : List Token) → length us < n → length us < m → values expr h n us ≡ values expr h m us) → behind_reader n v ts ≡ behind_reader m v ts
  unfolding choice
  same_behind n m v ts l k e = by_test (starts (is_mark marks.Comma) ts)
    where
      by_test : (q : Bool) → (if q then (mark marks.Comma >>= (λ k. choice (again n) (next n v) (closing v true))) ts else closing v false ts) ≡ (if q then (mark marks.Comma >>= (λ k. choice (again m) (next m v) (closing v true))) ts else closing v false ts)
      by_test true = same_comma n m v ts l k e
      by_test false = refl

  same_from : (n m : ℕ) (ts : List Token) → length ts ≤ n → length ts ≤ m → ((us : List Token) → length us < n → length us < m → values expr h n us ≡ values expr h m us) → (o : Outcome Token Expression) → expr (h - 1) 12 ts ≡ o
      → and_then o (behind_reader n) ≡ and_then o (behind_reader m)
  same_from n m ts l k e (gives v mid) is = let s = shorter ts v mid (row_in.exact.sound ts v mid is) in same_behind n m v mid (omega arith) (omega arith) e
  same_from n m ts l k e (refused i) is = refl

  same_turns : (n m : ℕ) (ts : List Token) → length ts < n → length ts < m → values expr h n ts ≡ values expr h m ts
  unfolding values choice
  same_turns zero m ts l k = absurd (omega arith)
  same_turns (suc n) zero ts l k = absurd (omega arith)
  same_turns (suc n) (suc m) ts l k = same_from n m ts (omega arith) (omega arith) (λ us a b. same_turns n m us a b) (expr (h - 1) 12 ts) refl

  pub row_values : Row InValues (all_values expr h) (λ _ _. false)
  unfolding all_values
  row_values = row_turns InValues turn_text (values expr h) (λ _ _. false) turns up (λ n t u m l. down_by n t.0 t.1 u m.low m.some m.fits m.spells l) same_turns
