-- What it says of a token that it shows a value.
use Rattle.std.proofs.Common.{◌≡◌, ℕ, Bool, true, false, List, [], ◌∷◌, ◌++◌, Option, Some, None, refl, sym, ap, ◌∙◌}
use Rattle.std.specs.Prelude.{if◌then◌else◌}
use denote.Enum.Bare.{same_true, true_same}
use Rattle.lz_tree.specs.contracts.token.Punct as punct
use Rattle.lz_tree.specs.contracts.token.Keyword as keyword
use Rattle.lz_tree.specs.declared.token.Token.{Token}
use Rattle.lz_tree.specs.declared.token.TokenKind.{TokenKind}
use Rattle.lz_tree.specs.declared.token.TokenKind.TheVariants as kinds
use Rattle.lz_tree.specs.declared.token.Keyword.{Keyword}
use Rattle.lz_tree.specs.declared.token.Punct.{Punct}
use Rattle.lz_tree.specs.Languages.{showing, is_mark, is_key, is_mark_kind, is_key_kind, same_mark, same_key, mark_shown, key_shown, line_at}
use Rattle.lz_expr.specs.Reading.{shows}
use Rattle.lz_expr.specs.Grammar.{with_line, lined_shown}

-- ---- punctuators and keywords

-- a token that is the punctuator is of its kind
mark_kind : (p : Punct) (k : TokenKind) → is_mark_kind p k ≡ true → k ≡ kinds.Punct p
unfolding same_mark
mark_kind p (kinds.Punct m) h = ap kinds.Punct (same_true punct.the_type tt m p h)
mark_kind p (kinds.Name number) h = absurd cc
mark_kind p (kinds.Constant value form) h = absurd cc
mark_kind p kinds.Text h = absurd cc
mark_kind p (kinds.Keyword word) h = absurd cc

pub is_mark_is : (p : Punct) (c : Token) → is_mark p c ≡ true → c.kind ≡ kinds.Punct p
unfolding is_mark
is_mark_is p c h = mark_kind p c.kind h

pub is_mark_of : (p : Punct) (c : Token) → c.kind ≡ kinds.Punct p → is_mark p c ≡ true
unfolding is_mark same_mark
is_mark_of p c h = rw h (true_same punct.the_type p p refl)

pub mark_shows : (p : Punct) (c : Token) → is_mark p c ≡ true → mark_shown p c ≡ Some c.line
unfolding mark_shown
mark_shows p c h = rw h refl

shown_by : (c : Token) (x : ℕ) (q : Bool) → (if q then Some c.line else None) ≡ Some x → q ≡ true
shown_by c x true h = refl
shown_by c x false h = absurd cc

pub mark_is : (p : Punct) (c : Token) (x : ℕ) → mark_shown p c ≡ Some x → is_mark p c ≡ true
unfolding mark_shown
mark_is p c x h = shown_by c x (is_mark p c) h

pub mark_kind_is : (p : Punct) (c : Token) (x : ℕ) → mark_shown p c ≡ Some x → c.kind ≡ kinds.Punct p
mark_kind_is p c x h = is_mark_is p c (mark_is p c x h)

key_kind : (p : Keyword) (k : TokenKind) → is_key_kind p k ≡ true → k ≡ kinds.Keyword p
unfolding same_key
key_kind p (kinds.Keyword m) h = ap kinds.Keyword (same_true keyword.the_type tt m p h)
key_kind p (kinds.Name number) h = absurd cc
key_kind p (kinds.Constant value form) h = absurd cc
key_kind p kinds.Text h = absurd cc
key_kind p (kinds.Punct mark) h = absurd cc

pub is_key_is : (p : Keyword) (c : Token) → is_key p c ≡ true → c.kind ≡ kinds.Keyword p
unfolding is_key
is_key_is p c h = key_kind p c.kind h

pub is_key_of : (p : Keyword) (c : Token) → c.kind ≡ kinds.Keyword p → is_key p c ≡ true
unfolding is_key same_key
is_key_of p c h = rw h (true_same keyword.the_type p p refl)

pub key_shows : (p : Keyword) (c : Token) → is_key p c ≡ true → key_shown p c ≡ Some c.line
unfolding key_shown
key_shows p c h = rw h refl

pub key_is : (p : Keyword) (c : Token) (x : ℕ) → key_shown p c ≡ Some x → is_key p c ≡ true
unfolding key_shown
key_is p c x h = shown_by c x (is_key p c) h

pub key_kind_is : (p : Keyword) (c : Token) (x : ℕ) → key_shown p c ≡ Some x → c.kind ≡ kinds.Keyword p
key_kind_is p c x h = is_key_is p c (key_is p c x h)

-- a token of a kind
unfoldable pub token_of : TokenKind → Token
token_of k = record { kind = k; line = 0; place = 0 }

pub the_kind : (k : TokenKind) → (token_of k).kind ≡ k
unfolding token_of
the_kind k = refl

abbrev pub the_mark : Punct → Token
the_mark p = token_of (kinds.Punct p)

pub the_mark_shows : (p : Punct) → mark_shown p (the_mark p) ≡ Some (the_mark p).line
the_mark_shows p = mark_shows p (the_mark p) (is_mark_of p (the_mark p) (the_kind (kinds.Punct p)))

abbrev pub the_key : Keyword → Token
the_key k = token_of (kinds.Keyword k)

pub the_key_shows : (k : Keyword) → key_shown k (the_key k) ≡ Some (the_key k).line
the_key_shows k = key_shows k (the_key k) (is_key_of k (the_key k) (the_kind (kinds.Keyword k)))

-- ---- a value with its line

lined_by : {A : Type 0} (l line : ℕ) (x : A) (o : Option A) → with_line l o ≡ Some (line, x) → (l ≡ line) × (o ≡ Some x)
lined_by l line x None h = absurd cc
lined_by {A = A} l line x (Some y) h = let p : (l, y) ≡ (line, x) = cc in (ap (λ (q : ℕ × A). q.0) p, ap (λ (q : ℕ × A). Some q.1) p)

pub lined_is : {A : Type 0} (show : Token → Option A) (c : Token) (line : ℕ) (x : A) → lined_shown show c ≡ Some (line, x) → (c.line ≡ line) × (show c ≡ Some x)
unfolding lined_shown
lined_is show c line x h = lined_by c.line line x (show c) h

pub lined_shows : {A : Type 0} (show : Token → Option A) (c : Token) (x : A) → show c ≡ Some x → lined_shown show c ≡ Some (c.line, x)
unfolding lined_shown
lined_shows show c x h = rw h refl

-- a token that shows a value with its line stands on that line and shows the value
pub lined_to : {A : Type 0} (show : Token → Option A) (line : ℕ) (x : A) (u : List Token) → showing (lined_shown show) (line, x) u → (line_at u ≡ line) × showing show x u
unfolding line_at
lined_to show line x u (c, one, s) = let p = lined_is show c line x s in (ap line_at one ∙ p.0, (c, one, p.1))

pub lined_from : {A : Type 0} (show : Token → Option A) (line : ℕ) (x : A) (u : List Token) → line_at u ≡ line → showing show x u → showing (lined_shown show) (line, x) u
unfolding line_at
lined_from show line x u at (c, one, s) =
    let l : c.line ≡ line = sym (ap line_at one) ∙ at in
    (c, one, lined_shows show c x s ∙ ap (λ (i : ℕ). Some (i, x)) l)

-- whether a token shows a value
pub shows_some : {A : Type 0} (o : Option A) → shows o ≡ true → (x : A) × (o ≡ Some x)
shows_some None h = absurd cc
shows_some (Some x) h = (x, refl)

pub some_shows : {A : Type 0} (o : Option A) (x : A) → o ≡ Some x → shows o ≡ true
some_shows o x h = rw h refl

shows_line : {A : Type 0} (l : ℕ) (o : Option A) → shows (with_line l o) ≡ shows o
shows_line l None = refl
shows_line l (Some x) = refl

pub shows_lined : {A : Type 0} (show : Token → Option A) (c : Token) → shows (lined_shown show c) ≡ shows (show c)
unfolding lined_shown
shows_lined show c = shows_line c.line (show c)

-- ---- texts and their lines

pub line_leads : (u v : List Token) → (u ≡ [] → ⊥) → line_at (u ++ v) ≡ line_at u
unfolding line_at
line_leads [] v h = absurd (h refl)
line_leads (c ∷ u) v h = refl

pub some_shown : {A : Type 0} (show : Token → Option A) (x : A) (u : List Token) → showing show x u → u ≡ [] → ⊥
some_shown show x u (c, one, s) e = let both : c ∷ [] ≡ [] = sym one ∙ e in cc

pub no_text : (u v : List Token) → [] ≡ u ++ v → (u ≡ [] → ⊥) → ⊥
no_text [] v same h = h refl
no_text (c ∷ u) v same h = cc
