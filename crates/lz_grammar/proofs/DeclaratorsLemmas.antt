-- Declarators are read exactly: a name, its length and its initializer.
use Rattle.std.proofs.Common.{◌≡◌, ℕ, suc, ◌-◌, ◌<◌, ◌≤◌, Bool, true, false, List, [], ◌∷◌, ◌++◌, Option, Some, None, refl, sym, ap, subst, ◌∙◌, inl, inr, append_assoc, append-nil, arith, nat_lt}
use Rattle.std.specs.Prelude.{if◌then◌else◌, ◌⊎◌, ◌&&◌, ◌||◌}
use Rattle.std.proofs.lemmas.Bool.{and_parts, lt-ltb, ltb-true}
use Rattle.std.proofs.Math.Bool.{and-false}
use Rattle.lz_tree.specs.declared.token.Token.{Token}
use Rattle.lz_tree.specs.declared.token.TokenKind.{TokenKind}
use Rattle.lz_tree.specs.declared.token.TokenKind.TheVariants as kinds
use Rattle.lz_tree.specs.declared.token.Keyword.{Keyword}
use Rattle.lz_tree.specs.declared.token.Keyword.TheVariants as keys
use Rattle.lz_tree.specs.declared.token.Punct.TheVariants as marks
use Rattle.lz_tree.specs.Languages.{◌⊙◌, showing, Any, Mark, Key, Text, is_mark, is_key, same_mark, same_key, mark_shown, key_shown, name_shown, line_at}
use Rattle.lz_tree.specs.Spelling.{SpellsExpression, SpellsList, CloseList, SpellsLength, SpellsInitializer, SpellsDeclarator}
use Rattle.lz_tree.specs.Trees.{Expression, Expressions, none, and, expressions_of, Initializer, nothing, single, listed, mutex, cond, InitDeclarator}
use Rattle.lz_tree.specs.Height.{expression_height, highest, optional_height, initializer_height, declarator_height}
use Rattle.lz_tree.specs.WellFormed.{InExpression, FitsAll, is_empty, FitsLength, FitsInitializer, FitsDeclarator}
use Rattle.lz_expr.specs.Fronts.{Viable}
use Rattle.lz_expr.specs.declared.opening.Opening.{Opening}
use Rattle.lz_expr.specs.declared.opening.Opening.TheVariants as opening
use Rattle.lz_expr.specs.Reading.{gives, Reader, ◌>>=◌, pure, starts, choice, Ends}
use Rattle.lz_expr.specs.Grammar.{mark, key, name, lined_shown, expr, opening_of}
use Rattle.lz_expr.proofs.ExactLemmas.{Exact}
use Rattle.lz_expr.proofs.RowsLemmas.{Row, made, along, row_one, row_last, row_token, row_close, row_choice, row_of, heads_token, heads_one, begins_token}
use Rattle.lz_expr.proofs.TailLemmas.{Extended, exact_tail}
use Rattle.lz_expr.proofs.TokensLemmas.{the_mark, the_mark_shows, the_key, the_key_shows, mark_is, mark_shows, is_mark_is, key_is, key_kind_is, lined_to, lined_from, line_leads, some_shown, no_text}
use Rattle.lz_expr.proofs.GoesLemmas.{below, class_goes, close_bracket_stops}
use Rattle.lz_expr.proofs.ExpressionsLemmas.{tall, level_small, some_text, heads, is_opening, expressions_list, expressions_back, first_part}
use Rattle.lz_expr.proofs.TargetsLemmas.{the_name, name_shows}
use Rattle.lz_grammar.specs.Grammar.{opens_any, begins_expression, array_length, all_values, listed_values, single_value, word_value, first_value, plain, with_length, with_first, sized, initialized, declarator, declarator_from}
use Rattle.lz_grammar.proofs.ValuesLemmas.{row_expr, InValues, row_values}

-- a token opens an expression
opens_same : (o : Opening) → is_opening o ≡ true → opens_any o ≡ true
opens_same opening.Nothing h = absurd cc
opens_same _ h = refl

pub expression_begins : (e : Expression) (c : Token) (u : List Token) → SpellsExpression e (c ∷ u) → begins_expression c ≡ true
unfolding begins_expression
expression_begins e c u m = opens_same (opening_of c.kind) (heads e c u m)

-- a token of a kind that opens none does not
pub not_begins : (c : Token) (k : TokenKind) → c.kind ≡ k → opens_any (opening_of k) ≡ false → begins_expression c ≡ false
unfolding begins_expression
not_begins c k e h = ap (λ (x : TokenKind). opens_any (opening_of x)) e ∙ h

abbrev is_listed : Initializer → Bool
is_listed (listed v c) = true
is_listed i = false

abbrev is_single : Initializer → Bool
is_single (single e) = true
is_single i = false

abbrev is_word : Initializer → Bool
is_word mutex = true
is_word cond = true
is_word i = false

-- what stands behind `=`
abbrev pub behind_equal : Initializer → Text
behind_equal nothing u = ⊥
behind_equal (single e) u = SpellsExpression e u
behind_equal (listed v c) u = (Any (Mark marks.OpenBrace) ⊙ SpellsList (CloseList c) v) u
behind_equal mutex u = Any (Key keys.MutexInitializer) u
behind_equal cond u = Any (Key keys.CondInitializer) u

key_no_brace : (k : Keyword) (c : Token) (x : ℕ) → key_shown k c ≡ Some x → is_mark marks.OpenBrace c ≡ false
unfolding is_mark
key_no_brace k c x h = rw (key_kind_is k c x h) refl

brace_no_expression : (c : Token) → is_mark marks.OpenBrace c ≡ true → begins_expression c ≡ false
brace_no_expression c h = not_begins c (kinds.Punct marks.OpenBrace) (is_mark_is marks.OpenBrace c h) refl

cond_no_mutex : (c : Token) (x : ℕ) → key_shown keys.CondInitializer c ≡ Some x → is_key keys.MutexInitializer c ≡ false
unfolding is_key same_key
cond_no_mutex c x h = rw (key_kind_is keys.CondInitializer c x h) refl

not_both : (a b : Bool) → (a ≡ true → b ≡ false) → b ≡ true → a ≡ false
not_both true b f h = let no = f refl in absurd cc
not_both false b f h = refl

begins_no_brace : (c : Token) → begins_expression c ≡ true → is_mark marks.OpenBrace c ≡ false
begins_no_brace c h = not_both (is_mark marks.OpenBrace c) (begins_expression c) (brace_no_expression c) h

module _ (h : ℕ) where
  -- ---- initializers

  pub record InFirst (i : Initializer) (u : List Token) : Type 0 where
    pub low : initializer_height i ≤ h
    pub fits : FitsInitializer i
    pub spells : behind_equal i u

  abbrev FirstOf : (Initializer → Bool) → Initializer → List Token → Type 0
  FirstOf f i u = (f i ≡ true) × InFirst i u

  -- with which tokens an initializer goes on
  abbrev pub first_goes : Initializer → Token → Bool
  first_goes (single e) c = class_goes (below h) 12 e c
  first_goes i c = false

  module _ (room : 1 < h) where
    abbrev list_text : Initializer → List Token → Type 0
    list_text = along (showing (mark_shown marks.OpenBrace)) (λ m. made (λ v. listed (expressions_of v.0) v.1) (InValues h room))

    list_in : (t : Initializer) (u : List Token) → list_text t u → FirstOf is_listed t u
    list_in t u (m, (a, b, same, s, (v, is, k))) =
        let made : FirstOf is_listed (listed (expressions_of v.0) v.1) u = (
          refl,
          record {
            low = (let x = k.low in omega arith);
            fits = (k.some, k.fits);
            spells = (a, b, same, (m, s), k.spells);
          },
        ) in
        subst (λ (x : Initializer). FirstOf is_listed x u) is made

    list_back_at : (es : Expressions) (c : Bool) (u : List Token) → InFirst (listed es c) u → list_text (listed es c) u
    list_back_at es c u k = by_spells k.spells
      where
        by_spells : behind_equal (listed es c) u → list_text (listed es c) u
        by_spells (a, b, same, (m, s), rest) =
            let back : expressions_of (expressions_list es) ≡ es = expressions_back es in
            let low = k.low in
            let most : highest es ≤ h - 1 = omega arith in (
              m,
              (
                a,
                b,
                same,
                s,
                (
                  (expressions_list es, c),
                  ap (λ (x : Expressions). listed x c) back,
                  record {
                    low = subst (λ (x : Expressions). highest x ≤ h - 1) (sym back) most;
                    some = subst (λ (x : Expressions). is_empty x ≡ false) (sym back) k.fits.0;
                    fits = subst FitsAll (sym back) k.fits.1;
                    spells = subst (λ (x : Expressions). SpellsList (CloseList c) x b) (sym back) rest;
                  },
                ),
              ),
            )

    list_back : (t : Initializer) (u : List Token) → FirstOf is_listed t u → list_text t u
    list_back (listed es c) u m = list_back_at es c u m.1
    list_back _ u m = let no = m.0 in absurd cc

    list_row : Row (FirstOf is_listed) (listed_values expr h) first_goes
    unfolding listed_values
    list_row = row_of list_text (mark marks.OpenBrace >>= (λ m. all_values expr h >>= (λ v. pure (listed (expressions_of v.0) v.1)))) first_goes first_goes
        (row_token (mark_shown marks.OpenBrace) (λ m. made (λ v. listed (expressions_of v.0) v.1) (InValues h room)) _ first_goes (the_mark marks.OpenBrace) _ (the_mark_shows marks.OpenBrace)
        (λ m. row_last (InValues h room) (all_values expr h) (λ _ _. false) (λ v. listed (expressions_of v.0) v.1) first_goes (row_values h room) (λ x u c m. refl)))
        (FirstOf is_listed) list_in list_back (λ t u c m. refl)

  single_in : (t : Initializer) (u : List Token) → made single (InExpression h 12) t u → FirstOf is_single t u
  single_in t u (e, is, k) = subst (λ (x : Initializer). FirstOf is_single x u) is (refl, record { low = k.low; fits = k.fits; spells = k.spells })

  single_back : (t : Initializer) (u : List Token) → FirstOf is_single t u → made single (InExpression h 12) t u
  single_back (single e) u m = (e, refl, record { low = m.1.low; tight = level_small e; fits = m.1.fits; spells = m.1.spells })
  single_back _ u m = let no = m.0 in absurd cc

  single_row : 0 < h → Row (FirstOf is_single) (single_value expr h) first_goes
  unfolding single_value
  single_row some = row_of (made single (InExpression h 12)) (expr h 12 >>= (λ v. pure (single v))) first_goes first_goes
      (row_last (InExpression h 12) (expr h 12) (class_goes (below h) 12) single first_goes (row_expr h 12 some (omega arith)) (λ e u c m. refl))
      (FirstOf is_single) single_in single_back (λ t u c m. refl)

  abbrev mutex_text : Initializer → List Token → Type 0
  mutex_text = made (λ m. mutex) (showing (key_shown keys.MutexInitializer))

  abbrev cond_text : Initializer → List Token → Type 0
  cond_text = made (λ m. cond) (showing (key_shown keys.CondInitializer))

  mutex_row : Row mutex_text (key keys.MutexInitializer >>= (λ m. pure mutex)) first_goes
  mutex_row = row_last (showing (key_shown keys.MutexInitializer)) (key keys.MutexInitializer) (λ _ _. false) (λ m. mutex) first_goes (row_one (key_shown keys.MutexInitializer) (the_key keys.MutexInitializer) _ (the_key_shows keys.MutexInitializer))
      (λ x u c m. refl)

  cond_row : Row cond_text (key keys.CondInitializer >>= (λ m. pure cond)) first_goes
  cond_row = row_last (showing (key_shown keys.CondInitializer)) (key keys.CondInitializer) (λ _ _. false) (λ m. cond) first_goes (row_one (key_shown keys.CondInitializer) (the_key keys.CondInitializer) _ (the_key_shows keys.CondInitializer))
      (λ x u c m. refl)

  mutex_in : (t : Initializer) (u : List Token) → mutex_text t u → FirstOf is_word t u
  mutex_in t u (m, is, s) = subst (λ (x : Initializer). FirstOf is_word x u) is (refl, record { low = omega arith; fits = tt; spells = (m, s) })

  cond_in : (t : Initializer) (u : List Token) → cond_text t u → FirstOf is_word t u
  cond_in t u (m, is, s) = subst (λ (x : Initializer). FirstOf is_word x u) is (refl, record { low = omega arith; fits = tt; spells = (m, s) })

  word_back : (t : Initializer) (u : List Token) → FirstOf is_word t u → mutex_text t u ⊎ cond_text t u
  word_back mutex u m = let s = m.1.spells in inl (s.0, refl, s.1)
  word_back cond u m = let s = m.1.spells in inr (s.0, refl, s.1)
  word_back _ u m = let no = m.0 in absurd cc

  word_row : Row (FirstOf is_word) (word_value expr h) first_goes
  unfolding word_value choice
  word_row = row_choice (is_key keys.MutexInitializer) mutex_text cond_text (key keys.MutexInitializer >>= (λ m. pure mutex)) (key keys.CondInitializer >>= (λ m. pure cond)) first_goes (λ c p. mutex_row) cond_row
      (FirstOf is_word) mutex_in cond_in word_back mutex_row.full
      (λ t c u m. key_is keys.MutexInitializer c m.0 (heads_one (key_shown keys.MutexInitializer) m.0 c u m.2))
      (λ t c u m. cond_no_mutex c m.0 (heads_one (key_shown keys.CondInitializer) m.0 c u m.2))

  listed_full : (t : Initializer) → FirstOf is_listed t [] → ⊥
  listed_full (listed es c) m = by_spells m.1.spells
    where
      by_spells : behind_equal (listed es c) [] → ⊥
      by_spells (a, b, same, (k, s), rest) = no_text a b same (some_shown (mark_shown marks.OpenBrace) k a s)
  listed_full _ m = let no = m.0 in absurd cc

  listed_heads : (t : Initializer) (c : Token) (u : List Token) → FirstOf is_listed t (c ∷ u) → is_mark marks.OpenBrace c ≡ true
  listed_heads (listed es k) c u m =
      first_part (λ d. is_mark marks.OpenBrace d ≡ true) c u m.1.spells (λ v s. some_shown (mark_shown marks.OpenBrace) s.0 v s.1) (λ v s. mark_is marks.OpenBrace c s.0 (heads_one (mark_shown marks.OpenBrace) s.0 c v s.1))
  listed_heads _ c u m = let no = m.0 in absurd cc

  single_full : (t : Initializer) → FirstOf is_single t [] → ⊥
  single_full (single e) m = some_text e [] m.1.spells refl
  single_full _ m = let no = m.0 in absurd cc

  single_heads : (t : Initializer) (c : Token) (u : List Token) → FirstOf is_single t (c ∷ u) → begins_expression c ≡ true
  single_heads (single e) c u m = expression_begins e c u m.1.spells
  single_heads _ c u m = let no = m.0 in absurd cc

  word_heads : (t : Initializer) (c : Token) (u : List Token) → FirstOf is_word t (c ∷ u) → (is_mark marks.OpenBrace c ≡ false) × (begins_expression c ≡ false)
  word_heads t c u m = by_form (word_back t (c ∷ u) m)
    where
      by_form : mutex_text t (c ∷ u) ⊎ cond_text t (c ∷ u) → (is_mark marks.OpenBrace c ≡ false) × (begins_expression c ≡ false)
      by_form (inl (k, is, s)) =
          let e = heads_one (key_shown keys.MutexInitializer) k c u s in (key_no_brace keys.MutexInitializer c k e, not_begins c (kinds.Keyword keys.MutexInitializer) (key_kind_is keys.MutexInitializer c k e) refl)
      by_form (inr (k, is, s)) =
          let e = heads_one (key_shown keys.CondInitializer) k c u s in (key_no_brace keys.CondInitializer c k e, not_begins c (kinds.Keyword keys.CondInitializer) (key_kind_is keys.CondInitializer c k e) refl)

  abbrev single_or : Initializer → List Token → Type 0
  single_or t u = FirstOf is_single t u ⊎ FirstOf is_word t u

  single_room : (t : Initializer) (u : List Token) → FirstOf is_single t u → 0 < h
  single_room (single e) u m = let high = tall e in let low = m.1.low in omega arith
  single_room _ u m = let no = m.0 in absurd cc

  listed_room : (t : Initializer) (u : List Token) → FirstOf is_listed t u → 1 < h
  listed_room (listed es k) u m = by_list es m.1.low m.1.fits.0
    where
      by_list : (es : Expressions) → suc (highest es) ≤ h → is_empty es ≡ false → 1 < h
      by_list (and e rest) low some = let high = tall e in omega arith
      by_list none low some = absurd cc
  listed_room _ u m = let no = m.0 in absurd cc

  row_single_or : Row single_or (choice (λ c. begins_expression c && nat_lt 0 h) (single_value expr h) (word_value expr h)) first_goes
  row_single_or = row_choice (λ c. begins_expression c && nat_lt 0 h) (FirstOf is_single) (FirstOf is_word) (single_value expr h) (word_value expr h) first_goes (λ c p. single_row (ltb-true 0 h (and_parts (begins_expression c) (nat_lt 0 h) p).1)) word_row
      single_or (λ t u m. inl m) (λ t u m. inr m) (λ t u m. m) single_full
      (λ t c u m. rw (single_heads t c u m, lt-ltb 0 h (single_room t (c ∷ u) m)) refl)
      (λ t c u m. rw (word_heads t c u m).1 refl)

  first_into : (t : Initializer) (u : List Token) → single_or t u → InFirst t u
  first_into t u (inl m) = m.1
  first_into t u (inr m) = m.1

  first_back : (t : Initializer) (u : List Token) → InFirst t u → FirstOf is_listed t u ⊎ single_or t u
  first_back (listed es c) u m = inl (refl, m)
  first_back (single e) u m = inr (inl (refl, m))
  first_back mutex u m = inr (inr (refl, m))
  first_back cond u m = inr (inr (refl, m))
  first_back nothing u m = absurd m.spells

  or_no_brace : (t : Initializer) (c : Token) (u : List Token) → single_or t (c ∷ u) → is_mark marks.OpenBrace c ≡ false
  or_no_brace t c u (inl m) = begins_no_brace c (single_heads t c u m)
  or_no_brace t c u (inr m) = (word_heads t c u m).0

  pub row_first : Row InFirst (first_value expr h) first_goes
  unfolding first_value choice
  row_first = row_choice (λ c. is_mark marks.OpenBrace c && nat_lt 1 h) (FirstOf is_listed) single_or (listed_values expr h) (choice (λ c. begins_expression c && nat_lt 0 h) (single_value expr h) (word_value expr h)) first_goes
      (λ c p. list_row (ltb-true 1 h (and_parts (is_mark marks.OpenBrace c) (nat_lt 1 h) p).1)) row_single_or InFirst (λ t u m. m.1) first_into first_back listed_full
      (λ t c u m. rw (listed_heads t c u m, lt-ltb 1 h (listed_room t (c ∷ u) m)) refl)
      (λ t c u m. rw (or_no_brace t c u m) refl)

  -- ---- lengths

  abbrev length_behind : ℕ → Expression → List Token → Type 0
  length_behind m = along (InExpression h 11) (λ i. made (λ k. i) (showing (mark_shown marks.CloseBracket)))

  abbrev length_text : Expression → List Token → Type 0
  length_text = along (showing (mark_shown marks.OpenBracket)) length_behind

  length_behind_row : 0 < h → (m : ℕ) → Row (length_behind m) (expr h 11 >>= (λ i. mark marks.CloseBracket >>= (λ k. pure i))) (λ _ _. false)
  length_behind_row some m = row_close (InExpression h 11) (expr h 11) (class_goes (below h) 11) (mark_shown marks.CloseBracket) (λ i k. i) (λ _ _. false) (row_expr h 11 some (omega arith)) (the_mark marks.CloseBracket) _ (the_mark_shows marks.CloseBracket)
      (close_bracket_stops (below h) 11) (λ i k c. refl)

  length_row : 0 < h → Row length_text (array_length expr h) (λ _ _. false)
  unfolding array_length
  length_row some = row_token (mark_shown marks.OpenBracket) length_behind _ (λ _ _. false) (the_mark marks.OpenBracket) _ (the_mark_shows marks.OpenBracket) (length_behind_row some)

  -- nothing, or a length
  abbrev length_of : Option Expression → List Token → Type 0
  length_of None u = u ≡ []
  length_of (Some i) u = length_text i u

  length_into : (i : Option Expression) (u : List Token) → length_of i u → (optional_height i ≤ h) × FitsLength i × SpellsLength i u
  length_into None u m = (omega arith, tt, m)
  length_into (Some i) u (m, (a, b, same, s, (j, (a₂, b₂, same₂, j_in, (k, is, close))))) =
      subst (λ (x : Expression). (expression_height x ≤ h) × FitsLength (Some x) × SpellsLength (Some x) u) is
      (j_in.low, (j_in.tight, j_in.fits), (a, b, same, (m, s), (a₂, b₂, same₂, j_in.spells, (k, close))))

  length_back : (i : Option Expression) (u : List Token) → optional_height i ≤ h → FitsLength i → SpellsLength i u → length_of i u
  length_back None u low fits m = m
  length_back (Some i) u low fits (a, b, same, (m, s), (a₂, b₂, same₂, i_spells, (k, close))) =
      (m, (a, b, same, s, (i, (a₂, b₂, same₂, record { low = low; tight = fits.0; fits = fits.1; spells = i_spells }, (k, refl, close)))))

  length_room : (i : Expression) (u : List Token) → length_text i u → 0 < h
  length_room i u (m, (a, b, same, s, (j, (a₂, b₂, same₂, j_in, k)))) = let high = tall j in let low = j_in.low in omega arith

  -- ---- a declarator, whose name is read or was read

  abbrev pub length_goes : Option Expression → Token → Bool
  length_goes None c = nat_lt 0 h && is_mark marks.OpenBracket c
  length_goes (Some i) c = false

  -- a declarator goes on with a length or an initializer where it has none
  abbrev pub sized_goes : InitDeclarator → Token → Bool
  sized_goes d c = length_goes d.length c

  abbrev pub init_goes : Initializer → Bool → Token → Bool
  init_goes nothing b c = b
  init_goes i b c = first_goes i c

  abbrev pub declarator_goes : InitDeclarator → Token → Bool
  declarator_goes d c = init_goes d.first (sized_goes d c || is_mark marks.Assign c) c

  -- nothing, or `=` and an initializer
  abbrev init_of : Initializer → List Token → Type 0
  init_of nothing u = u ≡ []
  init_of i u = (m : ℕ) × (showing (mark_shown marks.Assign) m ⊙ InFirst i) u

  init_some : (i : Initializer) (u : List Token) → ((m : ℕ) × (showing (mark_shown marks.Assign) m ⊙ InFirst i) u) → init_of i u
  init_some nothing u (m, (a, b, same, s, k)) = absurd k.spells
  init_some (single e) u k = k
  init_some (listed es c) u k = k
  init_some mutex u k = k
  init_some cond u k = k

  init_into : (i : Initializer) (u : List Token) → init_of i u → (initializer_height i ≤ h) × FitsInitializer i × SpellsInitializer i u
  init_into nothing u m = (omega arith, tt, m)
  init_into (single e) u (m, (a, b, same, s, k)) = (k.low, k.fits, (a, b, same, (m, s), k.spells))
  init_into (listed es c) u (m, (a, b, same, s, k)) = (k.low, k.fits, (a, b, same, (m, s), k.spells))
  init_into mutex u (m, (a, b, same, s, k)) = (k.low, k.fits, (a, b, same, (m, s), k.spells))
  init_into cond u (m, (a, b, same, s, k)) = (k.low, k.fits, (a, b, same, (m, s), k.spells))

  init_back : (i : Initializer) (u : List Token) → initializer_height i ≤ h → FitsInitializer i → SpellsInitializer i u → init_of i u
  init_back nothing u low fits m = m
  init_back (single e) u low fits (a, b, same, (m, s), k) = (m, (a, b, same, s, record { low = low; fits = fits; spells = k }))
  init_back (listed es c) u low fits (a, b, same, (m, s), k) = (m, (a, b, same, s, record { low = low; fits = fits; spells = k }))
  init_back mutex u low fits (a, b, same, (m, s), k) = (m, (a, b, same, s, record { low = low; fits = fits; spells = k }))
  init_back cond u low fits (a, b, same, (m, s), k) = (m, (a, b, same, s, record { low = low; fits = fits; spells = k }))

  assign_no_bracket : (c : Token) → is_mark marks.Assign c ≡ true → is_mark marks.OpenBracket c ≡ false
  unfolding is_mark same_mark
  assign_no_bracket c e = rw (is_mark_is marks.Assign c e) refl

  module _ (la : ℕ × ℕ → List Token → Type 0) (ra : Reader Token (ℕ × ℕ)) (a : Exact la ra (λ _ _. false)) where
    -- a name with a length or without, and no initializer
    abbrev Sized : InitDeclarator → List Token → Type 0
    Sized d u = (d.first ≡ nothing) × (la (d.line, d.name) ⊙ length_of d.length) u

    abbrev size_text : ℕ × ℕ → InitDeclarator → List Token → Type 0
    size_text n = made (with_length expr h n) length_text

    size_row : 0 < h → (n : ℕ × ℕ) → Row (size_text n) (array_length expr h >>= (λ i. pure (with_length expr h n i))) (λ _ _. false)
    size_row some n = row_last length_text (array_length expr h) (λ _ _. false) (with_length expr h n) (λ _ _. false) (length_row some) (λ x u c m. refl)

    size_more : (n : ℕ × ℕ) (t : InitDeclarator) (u v : List Token) → la n u → nat_lt 0 h ≡ true → size_text n t v → Sized t (u ++ v)
    size_more n t u v m q (i, is, k) =
        let made : Sized (with_length expr h n i) (u ++ v) = (refl, (u, v, refl, m, k)) in
        subst (λ (x : InitDeclarator). Sized x (u ++ v)) is made

    size_split_by : (line n : ℕ) (len : Option Expression) (i : Initializer) (u : List Token) → i ≡ nothing → (la (line, n) ⊙ length_of len) u
        → ((x : ℕ × ℕ) × (plain expr h x ≡ record { line = line; name = n; length = len; first = i }) × la x u) ⊎ Extended la (λ x. nat_lt 0 h) size_text (record { line = line; name = n; length = len; first = i }) u
    size_split_by line n None i u is (x, y, same, m, nil) =
        let whole : u ≡ x = same ∙ ap (λ (w : List Token). x ++ w) nil ∙ append-nil x in
        inl ((line, n), ap (λ (j : Initializer). record { line = line; name = n; length = None; first = j }) (sym is), subst (λ (w : List Token). la (line, n) w) (sym whole) m)
    size_split_by line n (Some j) i u is (x, y, same, m, k) = inr (record {
      start = (line, n);
      before = x;
      behind = y;
      same = same;
      start_in = m;
      may = lt-ltb 0 h (length_room j y k);
      rest_in = (j, ap (λ (f : Initializer). record { line = line; name = n; length = Some j; first = f }) (sym is), k);
    })

    sized_exact : Exact Sized (ra >>= (λ n ts. if nat_lt 0 h && starts (is_mark marks.OpenBracket) ts then (array_length expr h >>= (λ i. pure (with_length expr h n i))) ts else gives (plain expr h n) ts)) sized_goes
    sized_exact = exact_tail la ra (λ _ _. false) a (plain expr h) (λ n. nat_lt 0 h) (is_mark marks.OpenBracket) size_text (λ n. array_length expr h >>= (λ i. pure (with_length expr h n i))) (λ n d c. false)
        (λ n q. (size_row (ltb-true 0 h q) n).exact) Sized sized_goes
        (λ n u m. (refl, (u, [], sym (append-nil u), m, refl)))
        size_more
        (λ t u m. size_split_by t.line t.name t.length t.first u m.0 m.1)
        (λ n t c v q m. let s = heads_token (mark_shown marks.OpenBracket) length_behind m.0 c v m.2 in mark_is marks.OpenBracket c s.0 s.1)
        (λ n t q m. (size_row (ltb-true 0 h q) n).full t m)
        (λ n c q p. let v = begins_token (mark_shown marks.OpenBracket) length_behind c c.line (mark_shows marks.OpenBracket c p) (length_behind_row (ltb-true 0 h q) c.line).some in (with_length expr h n v.0, v.1, (v.0, refl, v.2)))
        (λ n u c m q p. refl)
        (λ n u c m. refl)
        (λ n t v c q m. size_goes n t v c m)
      where
        size_goes : (n : ℕ × ℕ) (t : InitDeclarator) (v : List Token) (c : Token) → size_text n t v → sized_goes t c ≡ false
        size_goes n t v c (i, is, k) = ap (λ (x : InitDeclarator). sized_goes x c) (sym is)

    -- ---- and its initializer

    abbrev Full : InitDeclarator → List Token → Type 0
    Full d u = (la (d.line, d.name) ⊙ (length_of d.length ⊙ init_of d.first)) u

    abbrev first_text : InitDeclarator → InitDeclarator → List Token → Type 0
    first_text d = along (showing (mark_shown marks.Assign)) (λ m. made (with_first expr h d) InFirst)

    made_goes : (d : InitDeclarator) (v : Initializer) (u : List Token) (c : Token) → InFirst v u → declarator_goes (with_first expr h d v) c ≡ first_goes v c
    made_goes d nothing u c m = absurd m.spells
    made_goes d (single e) u c m = refl
    made_goes d (listed es k) u c m = refl
    made_goes d mutex u c m = refl
    made_goes d cond u c m = refl

    behind_row : (d : InitDeclarator) → Row (made (with_first expr h d) InFirst) (first_value expr h >>= (λ v. pure (with_first expr h d v))) declarator_goes
    behind_row d = row_last InFirst (first_value expr h) first_goes (with_first expr h d) declarator_goes row_first (made_goes d)

    first_row : (d : InitDeclarator) → Row (first_text d) (mark marks.Assign >>= (λ m. first_value expr h >>= (λ v. pure (with_first expr h d v)))) declarator_goes
    first_row d = row_token (mark_shown marks.Assign) (λ m. made (with_first expr h d) InFirst) _ declarator_goes (the_mark marks.Assign) _ (the_mark_shows marks.Assign) (λ m. behind_row d)

    none_init : (i : Initializer) → i ≡ nothing → init_of i []
    none_init i is = let P : Initializer → Type 0 = λ j. init_of j [] in subst P (sym is) refl

    full_into : (d : InitDeclarator) (u : List Token) → Sized d u → Full d u
    full_into d u (is, (x, y, same, m, k)) = (x, y, same, m, (y, [], sym (append-nil y), k, none_init d.first is))

    full_more : (d t : InitDeclarator) (u v : List Token) → Sized d u → true ≡ true → first_text d t v → Full t (u ++ v)
    full_more d t u v (is, (x, y, same, m, k)) q (n, (a, b, same₂, s, (i, made_is, i_in))) =
        let made : Full (with_first expr h d i) (u ++ v) =
        (x, y ++ v, ap (λ (w : List Token). w ++ v) same ∙ append_assoc x y v, m, (y, v, refl, k, init_some i v (n, (a, b, same₂, s, i_in)))) in
        subst (λ (e : InitDeclarator). Full e (u ++ v)) made_is made

    abbrev with_init : ℕ → ℕ → Option Expression → Initializer → InitDeclarator
    with_init line n len i = record { line = line; name = n; length = len; first = i }

    init_split : (line n : ℕ) (len : Option Expression) (i : Initializer) (u x y y₁ y₂ : List Token) → u ≡ x ++ y → la (line, n) x → y ≡ y₁ ++ y₂ → length_of len y₁ → ((m : ℕ) × (showing (mark_shown marks.Assign) m ⊙ InFirst i) y₂)
        → Extended Sized (λ d. true) first_text (with_init line n len i) u
    init_split line n len i u x y y₁ y₂ same m same₂ k (j, (a, b, same₃, s, i_in)) = record {
      start = with_init line n len nothing;
      before = x ++ y₁;
      behind = y₂;
      same = same ∙ ap (λ (w : List Token). x ++ w) same₂ ∙ sym (append_assoc x y₁ y₂);
      start_in = (refl, (x, y₁, refl, m, k));
      may = refl;
      rest_in = (j, (a, b, same₃, s, (i, refl, i_in)));
    }

    full_split : (line n : ℕ) (len : Option Expression) (i : Initializer) (u : List Token) → Full (with_init line n len i) u
        → ((d : InitDeclarator) × (d ≡ with_init line n len i) × Sized d u) ⊎ Extended Sized (λ d. true) first_text (with_init line n len i) u
    full_split line n len nothing u (x, y, same, m, (y₁, y₂, same₂, k, nil)) =
        let whole : y ≡ y₁ = same₂ ∙ ap (λ (w : List Token). y₁ ++ w) nil ∙ append-nil y₁ in
        inl (with_init line n len nothing, refl, (refl, (x, y, same, m, subst (λ (w : List Token). length_of len w) (sym whole) k)))
    full_split line n len (single e) u (x, y, same, m, (y₁, y₂, same₂, k, j)) = inr (init_split line n len (single e) u x y y₁ y₂ same m same₂ k j)
    full_split line n len (listed es c) u (x, y, same, m, (y₁, y₂, same₂, k, j)) = inr (init_split line n len (listed es c) u x y y₁ y₂ same m same₂ k j)
    full_split line n len mutex u (x, y, same, m, (y₁, y₂, same₂, k, j)) = inr (init_split line n len mutex u x y y₁ y₂ same m same₂ k j)
    full_split line n len cond u (x, y, same, m, (y₁, y₂, same₂, k, j)) = inr (init_split line n len cond u x y y₁ y₂ same m same₂ k j)

    length_apart : (len : Option Expression) (c : Token) → is_mark marks.Assign c ≡ true → length_goes len c ≡ false
    length_apart None c p = rw (assign_no_bracket c p) (and-false (nat_lt 0 h))
    length_apart (Some i) c p = refl

    alone_goes : (i : Initializer) (b : Bool) (c : Token) → i ≡ nothing → init_goes i b c ≡ b
    alone_goes i b c is = ap (λ (j : Initializer). init_goes j b c) is

    pub full_exact : Exact Full ((ra >>= sized expr h) >>= initialized expr h) declarator_goes
    unfolding sized initialized
    full_exact = exact_tail Sized (ra >>= (λ n ts. if nat_lt 0 h && starts (is_mark marks.OpenBracket) ts then (array_length expr h >>= (λ i. pure (with_length expr h n i))) ts else gives (plain expr h n) ts)) sized_goes sized_exact
        (λ d. d) (λ d. true) (is_mark marks.Assign) first_text (λ d. mark marks.Assign >>= (λ m. first_value expr h >>= (λ v. pure (with_first expr h d v)))) (λ d. declarator_goes) (λ d q. (first_row d).exact) Full declarator_goes
        full_into full_more
        (λ t u m. full_split t.line t.name t.length t.first u m)
        (λ d t c v q m. let s = heads_token (mark_shown marks.Assign) (λ m. made (with_first expr h d) InFirst) t c v m in mark_is marks.Assign c s.0 s.1)
        (λ d t q m. (first_row d).full t m)
        (λ d c q p. begins_token (mark_shown marks.Assign) (λ m. made (with_first expr h d) InFirst) c c.line (mark_shows marks.Assign c p) (behind_row d).some)
        (λ d u c m q p. length_apart d.length c p)
        (λ d u c m. alone_goes d.first (sized_goes d c || is_mark marks.Assign c) c m.0)
        (λ d t v c q m. refl)

  -- ---- a whole declarator

  pub record InDeclarator (d : InitDeclarator) (u : List Token) : Type 0 where
    pub low : declarator_height d ≤ h
    pub fits : FitsDeclarator d
    pub spells : SpellsDeclarator d u

  abbrev name_text : ℕ × ℕ → List Token → Type 0
  name_text = showing (lined_shown name_shown)

  name_row : Row name_text name (λ _ _. false)
  name_row = row_one (lined_shown name_shown) the_name _ name_shows

  -- what stands behind the name
  abbrev pub Rest : InitDeclarator → List Token → Type 0
  Rest d u = (length_of d.length ⊙ init_of d.first) u

  pub rest_into : (d : InitDeclarator) (u : List Token) → Rest d u → (declarator_height d ≤ h) × FitsDeclarator d × (SpellsLength d.length ⊙ SpellsInitializer d.first) u
  rest_into d u (a, b, same, k, i) =
      let l = length_into d.length a k in
      let f = init_into d.first b i in
      (omega (arith, l.0, f.0), (l.1, f.1), (a, b, same, l.2, f.2))

  pub rest_back : (d : InitDeclarator) (u : List Token) → declarator_height d ≤ h → FitsDeclarator d → (SpellsLength d.length ⊙ SpellsInitializer d.first) u → Rest d u
  rest_back d u low fits (a, b, same, k, i) = (a, b, same, length_back d.length a (omega arith) fits.0 k, init_back d.first b (omega arith) fits.1 i)

  declarator_into : (d : InitDeclarator) (u : List Token) → Full name_text name name_row.exact d u → InDeclarator d u
  declarator_into d u (x, y, same, m, k) =
      let n = lined_to name_shown d.line d.name x m in
      let r = rest_into d y k in
      record { low = r.0; fits = r.1; spells = (ap line_at same ∙ line_leads x y (some_shown (lined_shown name_shown) (d.line, d.name) x m) ∙ n.0, (x, y, same, n.1, r.2)) }

  declarator_back : (d : InitDeclarator) (u : List Token) → InDeclarator d u → Full name_text name name_row.exact d u
  declarator_back d u k = by_spells k.spells
    where
      by_spells : SpellsDeclarator d u → Full name_text name name_row.exact d u
      by_spells (at, (x, y, same, n, r)) =
          (x, y, same, lined_from name_shown d.line d.name x (sym (line_leads x y (some_shown name_shown d.name x n)) ∙ ap line_at (sym same) ∙ at) n, rest_back d y k.low k.fits r)

  declarator_some : (d : InitDeclarator) (u : List Token) → InDeclarator d u → u ≡ [] → ⊥
  declarator_some d u k e = by_spells k.spells
    where
      by_spells : SpellsDeclarator d u → ⊥
      by_spells (at, (x, y, same, n, r)) = no_text x y (sym e ∙ same) (some_shown name_shown d.name x n)

  pub row_declarator : Row InDeclarator (declarator expr h) declarator_goes
  unfolding declarator
  row_declarator = record {
    exact = row_exact;
    some = (
      record { line = the_name.line; name = 0; length = None; first = nothing },
      the_name ∷ [],
      declarator_into (record { line = the_name.line; name = 0; length = None; first = nothing }) (the_name ∷ [])
          (the_name ∷ [], [], refl, (the_name, refl, name_shows), ([], [], refl, refl, refl)),
    );
    full = λ d k. declarator_some d [] k refl;
  }
    where
      row_exact : Exact InDeclarator ((name >>= sized expr h) >>= initialized expr h) declarator_goes
      row_exact =
          let a = full_exact name_text name name_row.exact in
          record {
            sound = λ ts t left e. let f = a.sound ts t left e in record { read = f.read; same = f.same; spells = declarator_into t f.read f.spells; ends = f.ends };
            complete = λ t u rest m e. a.complete t u rest (declarator_back t u m) e;
            refuses = λ ts n e. let f = a.refuses ts n e in
                record { read = f.read; left = f.left; same = f.same; count = f.count; viable = (f.viable.0, f.viable.1, declarator_into f.viable.0 (f.read ++ f.viable.1) f.viable.2); local = f.local };
            on = λ t u c m e. let v = a.on t u c (declarator_back t u m) e in (v.0, v.1, declarator_into v.0 ((u ++ c ∷ []) ++ v.1) v.2);
          }

  -- ---- the rest of a declarator whose name was read

  module _ (n : ℕ × ℕ) where
    abbrev read_text : ℕ × ℕ → List Token → Type 0
    read_text x u = (x ≡ n) × (u ≡ [])

    read_exact : Exact {K = Token} read_text (pure n) (λ _ _. false)
    read_exact = record {
      sound = λ ts t left e.
          let is : n ≡ t = cc in
          let left_is : ts ≡ left = cc in
          record { read = []; same = left_is; spells = (sym is, refl); ends = none_ends left };
      complete = λ t u rest m e. gives_same t u rest m.0 m.1;
      refuses = λ ts i e. absurd cc;
      on = λ t u c m e. absurd cc;
    }
      where
        none_ends : (ts : List Token) → Ends (λ (c : Token). false) ts
        none_ends [] = tt
        none_ends (c ∷ ts) = refl

        gives_same : (t : ℕ × ℕ) (u rest : List Token) → t ≡ n → u ≡ [] → gives n (u ++ rest) ≡ gives t rest
        gives_same t u rest is nil = rw nil (ap (λ (x : ℕ × ℕ). gives x rest) (sym is))

    -- the rest of a declarator of this name
    abbrev pub FromName : InitDeclarator → List Token → Type 0
    FromName d u = ((d.line, d.name) ≡ n) × Rest d u

    from_into : (d : InitDeclarator) (u : List Token) → Full read_text (pure n) read_exact d u → FromName d u
    from_into d u (x, y, same, (is, nil), k) =
        let whole : u ≡ y = same ∙ ap (λ (w : List Token). w ++ y) nil in (is, subst (λ (w : List Token). Rest d w) (sym whole) k)

    from_back : (d : InitDeclarator) (u : List Token) → FromName d u → Full read_text (pure n) read_exact d u
    from_back d u (is, k) = ([], u, refl, (is, refl), k)

    pub exact_from : Exact FromName (declarator_from expr h n) declarator_goes
    unfolding declarator_from
    exact_from =
        let a = full_exact read_text (pure n) read_exact in
        record {
          sound = λ ts t left e. let f = a.sound ts t left e in record { read = f.read; same = f.same; spells = from_into t f.read f.spells; ends = f.ends };
          complete = λ t u rest m e. a.complete t u rest (from_back t u m) e;
          refuses = λ ts i e. let f = a.refuses ts i e in
              record { read = f.read; left = f.left; same = f.same; count = f.count; viable = (f.viable.0, f.viable.1, from_into f.viable.0 (f.read ++ f.viable.1) f.viable.2); local = f.local };
          on = λ t u c m e. let v = a.on t u c (from_back t u m) e in (v.0, v.1, from_into v.0 ((u ++ c ∷ []) ++ v.1) v.2);
        }

    pub from_some : Viable FromName []
    from_some = (record { line = n.0; name = n.1; length = None; first = nothing }, [], (refl, ([], [], refl, refl, refl)))
