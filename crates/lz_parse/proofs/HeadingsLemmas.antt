-- What stands before the parameters or the rest of the first declarator is read exactly.
use Rattle.std.proofs.Common.{◌≡◌, ℕ, Bool, true, false, List, [], ◌∷◌, ◌++◌, Option, Some, None, refl, sym, ap, subst, ◌∙◌, inl, inr}
use Rattle.std.specs.Prelude.{◌⊎◌, ◌||◌}
use Rattle.std.proofs.lemmas.Bool.{or_right}
use Rattle.lz_tree.specs.declared.token.Token.{Token}
use Rattle.lz_tree.specs.declared.token.TokenKind.{TokenKind}
use Rattle.lz_tree.specs.declared.token.TokenKind.TheVariants as kinds
use Rattle.lz_tree.specs.declared.token.Keyword.{Keyword}
use Rattle.lz_tree.specs.declared.token.Keyword.TheVariants as keys
use Rattle.lz_tree.specs.declared.program.Lead.{Lead}
use Rattle.lz_tree.specs.declared.program.Lead.TheVariants as leads
use Rattle.lz_tree.specs.Languages.{showing, key_shown, name_shown, line_at}
use Rattle.lz_tree.specs.Spelling.{SpellsLead}
use Rattle.lz_expr.specs.Fronts.{Viable}
use Rattle.lz_expr.specs.Reading.{◌>>=◌, pure, token, shows, optional}
use Rattle.lz_expr.specs.Grammar.{name, lined_shown, key_in, key_meant}
use Rattle.lz_expr.proofs.ExactLemmas.{Exact, maybe, maybe_goes, exact_token, exact_map, exact_optional}
use Rattle.lz_expr.proofs.RowsLemmas.{Row, made, along, lined_text, row_one, row_last, row_then, row_behind, row_lined, heads_one, heads_made}
use Rattle.lz_expr.proofs.TokensLemmas.{the_key, the_kind, is_key_of, key_shows, key_kind_is, lined_is, some_shown, line_leads}
use Rattle.lz_expr.proofs.ExpressionsLemmas.{first_part}
use Rattle.lz_expr.proofs.TypesLemmas.{type_goes}
use Rattle.lz_expr.proofs.TargetsLemmas.{the_name, name_shows}
use Rattle.lz_grammar.specs.Grammar.{type_key, begins_type, lined_type}
use Rattle.lz_grammar.proofs.AnyTypesLemmas.{TypeText, row_lined_type, type_heads, type_begins, type_some}
use Rattle.lz_grammar.proofs.DeclarationsLemmas.{type_name_apart}
use Rattle.lz_parse.specs.Grammar.{lead_key, begins_lead, lead_of, lead_word, Heading, heading_of, heading, lined_heading}

-- ---- `static` and `extern`

word_lead : (w : Keyword) (x : Lead) → lead_key w ≡ Some x → ((w ≡ keys.Static) × (x ≡ leads.Hidden)) ⊎ ((w ≡ keys.Extern) × (x ≡ leads.Outside))
word_lead keys.Static x h = let is : leads.Hidden ≡ x = cc in inl (refl, sym is)
word_lead keys.Extern x h = let is : leads.Outside ≡ x = cc in inr (refl, sym is)
word_lead _ x h = absurd cc

kind_lead : (k : TokenKind) (x : Lead) → key_in lead_key k ≡ Some x → ((k ≡ kinds.Keyword keys.Static) × (x ≡ leads.Hidden)) ⊎ ((k ≡ kinds.Keyword keys.Extern) × (x ≡ leads.Outside))
kind_lead (kinds.Keyword w) x h = by_word (word_lead w x h)
  where
    by_word : ((w ≡ keys.Static) × (x ≡ leads.Hidden)) ⊎ ((w ≡ keys.Extern) × (x ≡ leads.Outside)) → ((kinds.Keyword w ≡ kinds.Keyword keys.Static) × (x ≡ leads.Hidden)) ⊎ ((kinds.Keyword w ≡ kinds.Keyword keys.Extern) × (x ≡ leads.Outside))
    by_word (inl (e, f)) = inl (ap kinds.Keyword e, f)
    by_word (inr (e, f)) = inr (ap kinds.Keyword e, f)
kind_lead (kinds.Name n) x h = absurd cc
kind_lead (kinds.Constant v f) x h = absurd cc
kind_lead kinds.Text x h = absurd cc
kind_lead (kinds.Punct p) x h = absurd cc

shown_lead : (c : Token) (x : Lead) → key_meant lead_key c ≡ Some x → ((c.kind ≡ kinds.Keyword keys.Static) × (x ≡ leads.Hidden)) ⊎ ((c.kind ≡ kinds.Keyword keys.Extern) × (x ≡ leads.Outside))
unfolding key_meant
shown_lead c x h = kind_lead c.kind x h

abbrev word_text : Lead → List Token → Type 0
word_text = showing (key_meant lead_key)

key_word : (k : Keyword) (x : Lead) (u : List Token) → lead_key k ≡ Some x → (line : ℕ) → showing (key_shown k) line u → word_text x u
unfolding key_meant
key_word k x u means line (c, one, s) = (c, one, ap (key_in lead_key) (key_kind_is k c line s) ∙ means)

word_key : (x : Lead) (u : List Token) → word_text x u → SpellsLead x u
word_key x u (c, one, s) = by_kind (shown_lead c x s)
  where
    by_kind : ((c.kind ≡ kinds.Keyword keys.Static) × (x ≡ leads.Hidden)) ⊎ ((c.kind ≡ kinds.Keyword keys.Extern) × (x ≡ leads.Outside)) → SpellsLead x u
    by_kind (inl (e, is)) = subst (λ (y : Lead). SpellsLead y u) (sym is) (c.line, (c, one, key_shows keys.Static c (is_key_of keys.Static c e)))
    by_kind (inr (e, is)) = subst (λ (y : Lead). SpellsLead y u) (sym is) (c.line, (c, one, key_shows keys.Extern c (is_key_of keys.Extern c e)))

-- only where none was read one may come
abbrev pub lead_goes : Lead → Token → Bool
lead_goes leads.Nothing c = begins_lead c
lead_goes _ c = false

static_shows : key_meant lead_key (the_key keys.Static) ≡ Some leads.Hidden
unfolding key_meant
static_shows = ap (key_in lead_key) (the_kind (kinds.Keyword keys.Static))

pub lead_shows : (c : Token) → begins_lead c ≡ true → (x : Lead) × (key_meant lead_key c ≡ Some x)
unfolding begins_lead
lead_shows c h = by_shown (key_meant lead_key c) refl h
  where
    by_shown : (o : Option Lead) → key_meant lead_key c ≡ o → shows o ≡ true → (x : Lead) × (key_meant lead_key c ≡ Some x)
    by_shown None e h = absurd cc
    by_shown (Some x) e h = (x, e)

shows_lead : (c : Token) (x : Lead) → key_meant lead_key c ≡ Some x → begins_lead c ≡ true
unfolding begins_lead
shows_lead c x h = ap shows h

lead_into : (o : Option Lead) (u : List Token) → maybe word_text o u → SpellsLead (lead_of o) u
lead_into None u m = m
lead_into (Some x) u m = word_key x u m

lead_back : (w : Lead) (u : List Token) → SpellsLead w u → (o : Option Lead) × (lead_of o ≡ w) × maybe word_text o u
lead_back leads.Nothing u m = (None, refl, m)
lead_back leads.Hidden u (line, m) = (Some leads.Hidden, refl, key_word keys.Static leads.Hidden u refl line m)
lead_back leads.Outside u (line, m) = (Some leads.Outside, refl, key_word keys.Extern leads.Outside u refl line m)

some_goes : (x : Lead) (c d : Token) → key_meant lead_key d ≡ Some x → lead_goes x c ≡ false
some_goes x c d h = by_kind (shown_lead d x h)
  where
    by_kind : ((d.kind ≡ kinds.Keyword keys.Static) × (x ≡ leads.Hidden)) ⊎ ((d.kind ≡ kinds.Keyword keys.Extern) × (x ≡ leads.Outside)) → lead_goes x c ≡ false
    by_kind (inl (e, is)) = ap (λ (y : Lead). lead_goes y c) is
    by_kind (inr (e, is)) = ap (λ (y : Lead). lead_goes y c) is

lead_same : (o : Option Lead) (u : List Token) (c : Token) → maybe word_text o u → lead_goes (lead_of o) c ≡ maybe_goes begins_lead (λ _ _. false) o c
lead_same None u c m = refl
lead_same (Some x) u c (d, one, s) = some_goes x c d s

exact_lead : Exact SpellsLead lead_word lead_goes
unfolding lead_word
exact_lead = exact_map (maybe word_text) (optional begins_lead (token (key_meant lead_key))) (maybe_goes begins_lead (λ _ _. false))
    (exact_optional begins_lead word_text (token (key_meant lead_key)) (λ _ _. false) (λ c p. exact_token (key_meant lead_key) (the_key keys.Static) leads.Hidden static_shows)
    (λ x m. some_shown (key_meant lead_key) x [] m refl)
    (λ x c u m. shows_lead c x (heads_one (key_meant lead_key) x c u m))
    (λ c p. let s = lead_shows c p in (s.0, [], (c, refl, s.1))))
    lead_of SpellsLead lead_goes lead_into lead_back lead_same

-- ---- headings

abbrev pub NameText : ℕ × ℕ → List Token → Type 0
NameText = showing (lined_shown name_shown)

name_row : Row NameText name (λ _ _. false)
name_row = row_one (lined_shown name_shown) the_name _ name_shows

abbrev typed : Lead → Heading → List Token → Type 0
typed w = along TypeText (λ t. made (heading_of w t) NameText)

-- a word or none, a type and a name
abbrev pub HeadingText : Heading → List Token → Type 0
HeadingText = along SpellsLead typed

abbrev none_goes : Heading → Token → Bool
none_goes d c = false

typed_row : (w : Lead) → Row (typed w) (lined_type >>= (λ t. name >>= (λ n. pure (heading_of w t n)))) none_goes
typed_row w = row_then TypeText lined_type (λ t. type_goes t.1) (λ t. made (heading_of w t) NameText) (λ t. name >>= (λ n. pure (heading_of w t n))) none_goes row_lined_type
    (λ t. row_last NameText name (λ _ _. false) (heading_of w t) none_goes name_row (λ n u c m. refl))
    (λ t d c s m. let n = heads_made (heading_of w t) (lined_shown name_shown) d c s m in type_name_apart t.1 c n.0.1 (lined_name c n.0 n.1))
  where
    lined_name : (c : Token) (n : ℕ × ℕ) → lined_shown name_shown c ≡ Some n → name_shown c ≡ Some n.1
    lined_name c n e = (lined_is name_shown c n.0 n.1 e).1

pub typed_heads : (w : Lead) (d : Heading) (c : Token) (u : List Token) → typed w d (c ∷ u) → begins_type c ≡ true
typed_heads w d c u (t, m) = first_part (λ x. begins_type x ≡ true) c u m (λ v s. type_some t.1 v s.1) (λ v s. type_heads t.1 c v s.1)

word_no_lead : (w : Keyword) → shows (type_key w) ≡ true → shows (lead_key w) ≡ false
word_no_lead keys.Static h = absurd cc
word_no_lead keys.Extern h = absurd cc
word_no_lead _ h = refl

kind_no_lead : (k : TokenKind) → shows (key_in type_key k) ≡ true → shows (key_in lead_key k) ≡ false
kind_no_lead (kinds.Keyword w) h = word_no_lead w h
kind_no_lead (kinds.Name n) h = refl
kind_no_lead (kinds.Constant v f) h = refl
kind_no_lead kinds.Text h = refl
kind_no_lead (kinds.Punct p) h = refl

type_no_lead : (c : Token) → begins_type c ≡ true → begins_lead c ≡ false
unfolding begins_lead begins_type key_meant
type_no_lead c h = kind_no_lead c.kind h

lead_apart : (w : Lead) (d : Heading) (c : Token) (s : List Token) → typed w d (c ∷ s) → lead_goes w c ≡ false
lead_apart leads.Nothing d c s m = type_no_lead c (typed_heads leads.Nothing d c s m)
lead_apart _ d c s m = refl

pub row_heading : Row HeadingText heading none_goes
unfolding heading
row_heading = row_behind SpellsLead lead_word lead_goes typed (λ w. lined_type >>= (λ t. name >>= (λ n. pure (heading_of w t n)))) none_goes exact_lead (leads.Nothing, [], refl) typed_row lead_apart

-- no heading is spelled by nothing
pub heading_some : (d : Heading) (u : List Token) → HeadingText d u → u ≡ [] → ⊥
heading_some d u m e = let P : List Token → Type 0 = λ w. HeadingText d w in row_heading.full d (subst P e m)

-- a heading, with the line of its first token
abbrev pub LinedHeading : ℕ × Heading → List Token → Type 0
LinedHeading = lined_text line_at HeadingText

pub row_lined_heading : Row LinedHeading lined_heading (λ _ _. false)
unfolding lined_heading
row_lined_heading = row_lined line_at HeadingText heading none_goes row_heading (λ d u v m. line_leads u v (heading_some d u m))

-- ---- the first token of a heading

lead_some : (w : Lead) (u : List Token) → SpellsLead w u → (u ≡ []) ⊎ ((x : Lead) × word_text x u)
lead_some leads.Nothing u m = inl m
lead_some leads.Hidden u (line, m) = inr (leads.Hidden, key_word keys.Static leads.Hidden u refl line m)
lead_some leads.Outside u (line, m) = inr (leads.Outside, key_word keys.Extern leads.Outside u refl line m)

-- a heading begins with a word of it or of a type
pub heading_heads : (d : Heading) (c : Token) (u : List Token) → HeadingText d (c ∷ u) → (begins_lead c || begins_type c) ≡ true
heading_heads d c u (w, (a, b, same, l, m)) = by_lead a b same (lead_some w a l) m
  where
    by_lead : (a b : List Token) → c ∷ u ≡ a ++ b → (a ≡ []) ⊎ ((x : Lead) × word_text x a) → typed w d b → (begins_lead c || begins_type c) ≡ true
    by_lead a [] same (inl nil) m = absurd (row_full m)
      where
        row_full : typed w d [] → ⊥
        row_full m = (typed_row w).full d m
    by_lead a (e ∷ b) same (inl nil) m =
        let all : c ∷ u ≡ e ∷ b = same ∙ ap (λ (z : List Token). z ++ e ∷ b) nil in
        let is : e ≡ c = cc in
        let begun = typed_heads w d e b m in
        or_right (begins_lead c) (begins_type c) (subst (λ (x : Token). begins_type x ≡ true) is begun)
    by_lead a b same (inr (x, (e, one, s))) m =
        let all : c ∷ u ≡ e ∷ b = same ∙ ap (λ (z : List Token). z ++ b) one in
        let is : e ≡ c = cc in
        rw (subst (λ (y : Token). begins_lead y ≡ true) is (shows_lead e x s)) refl

-- each such token begins one
pub heading_begins : (c : Token) → (begins_lead c || begins_type c) ≡ true → Viable HeadingText (c ∷ [])
heading_begins c h = by_lead (begins_lead c) refl h
  where
    by_lead : (q : Bool) → begins_lead c ≡ q → (q || begins_type c) ≡ true → Viable HeadingText (c ∷ [])
    by_lead true e h =
        let x = lead_shows c e in
        let more = (typed_row x.0).some in
        (more.0, more.1, (x.0, (c ∷ [], more.1, refl, word_key x.0 (c ∷ []) (c, refl, x.1), more.2)))
    by_lead false e h =
        let t = type_begins c h in
        (heading_of leads.Nothing (line_at (c ∷ []), t.0) (the_name.line, 0), the_name ∷ [], (leads.Nothing, ([], c ∷ the_name ∷ [], refl, refl, ((line_at (c ∷ []), t.0), (c ∷ [], the_name ∷ [], refl, (refl, t.1), ((the_name.line, 0), refl, (the_name, refl, name_shows)))))))
