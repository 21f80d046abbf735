-- Types are read exactly, and which tokens begin them.
use Rattle.std.proofs.Common.{◌≡◌, ℕ, Bool, true, false, List, [], ◌∷◌, ◌++◌, Option, Some, None, refl, ap, subst, ◌∙◌, inl, inr}
use Rattle.std.specs.Prelude.{◌⊎◌}
use Rattle.lz_tree.specs.declared.token.Token.{Token}
use Rattle.lz_tree.specs.declared.token.TokenKind.{TokenKind}
use Rattle.lz_tree.specs.declared.token.TokenKind.TheVariants as kinds
use Rattle.lz_tree.specs.declared.token.Keyword.{Keyword}
use Rattle.lz_tree.specs.declared.token.Keyword.TheVariants as keys
use Rattle.lz_tree.specs.declared.token.Punct.TheVariants as marks
use Rattle.lz_tree.specs.declared.expression.TypeName.{TypeName}
use Rattle.lz_tree.specs.declared.expression.TypeName.TheVariants as types
use Rattle.lz_tree.specs.Languages.{line_at}
use Rattle.lz_tree.specs.Spelling.{type_kinds, kinds_of, SpellsType}
use Rattle.lz_expr.specs.Reading.{◌>>=◌, token, shows, grown}
use Rattle.lz_expr.specs.Grammar.{key_in, key_meant, grow_by, grow}
use Rattle.lz_expr.proofs.RowsLemmas.{Row, row_of, lined_text, row_lined}
use Rattle.lz_expr.proofs.GrowLemmas.{Started, Larger}
use Rattle.lz_expr.proofs.TypesLemmas.{type_goes, row_type, last_of, one_kind}
use Rattle.lz_expr.proofs.TokensLemmas.{the_key, the_kind, line_leads}
use Rattle.lz_grammar.specs.Grammar.{type_key, begins_type, type_name, lined_type}

abbrev any : TypeName → Bool
any t = true

abbrev any_text : TypeName → List Token → Type 0
any_text t u = (any t ≡ true) × SpellsType t u

any_larger : (t s : TypeName) (k : TokenKind) (u : List Token) → type_kinds t ≡ type_kinds s ++ k ∷ [] → grow_by s k ≡ Some t → SpellsType t u → Larger grow any_text t u
unfolding grow
any_larger t s k u words grows h =
    let l = last_of u (type_kinds s) k (h ∙ words) in record { smaller = s; before = l.0; at = l.1; same = l.2; in_smaller = (refl, l.3); shows = ap (grow_by s) l.4 ∙ grows }

any_first : (t : TypeName) (k : TokenKind) (u : List Token) → type_kinds t ≡ k ∷ [] → key_in type_key k ≡ Some t → SpellsType t u → Started (key_meant type_key) t u
unfolding key_meant
any_first t k u words shown h = let l = one_kind u k (h ∙ words) in record { at = l.0; same = l.1; shows = ap (key_in type_key) l.2 ∙ shown }

any_started : (t : TypeName) → any t ≡ true → (u : List Token) → SpellsType t u → Started (key_meant type_key) t u ⊎ Larger grow any_text t u
any_started types.Int i u h = inl (any_first types.Int (kinds.Keyword keys.Int) u refl refl h)
any_started types.Signed i u h = inl (any_first types.Signed (kinds.Keyword keys.Signed) u refl refl h)
any_started types.SignedInt i u h = inr (any_larger types.SignedInt types.Signed (kinds.Keyword keys.Int) u refl refl h)
any_started types.Unsigned i u h = inl (any_first types.Unsigned (kinds.Keyword keys.Unsigned) u refl refl h)
any_started types.UnsignedInt i u h = inr (any_larger types.UnsignedInt types.Unsigned (kinds.Keyword keys.Int) u refl refl h)
any_started types.Bool i u h = inl (any_first types.Bool (kinds.Keyword keys.Bool) u refl refl h)
any_started types.Char i u h = inl (any_first types.Char (kinds.Keyword keys.Char) u refl refl h)
any_started types.SignedChar i u h = inr (any_larger types.SignedChar types.Signed (kinds.Keyword keys.Char) u refl refl h)
any_started types.UnsignedChar i u h = inr (any_larger types.UnsignedChar types.Unsigned (kinds.Keyword keys.Char) u refl refl h)
any_started types.Short i u h = inl (any_first types.Short (kinds.Keyword keys.Short) u refl refl h)
any_started types.ShortInt i u h = inr (any_larger types.ShortInt types.Short (kinds.Keyword keys.Int) u refl refl h)
any_started types.UnsignedShort i u h = inr (any_larger types.UnsignedShort types.Unsigned (kinds.Keyword keys.Short) u refl refl h)
any_started types.UnsignedShortInt i u h = inr (any_larger types.UnsignedShortInt types.UnsignedShort (kinds.Keyword keys.Int) u refl refl h)
any_started types.Long i u h = inl (any_first types.Long (kinds.Keyword keys.Long) u refl refl h)
any_started types.LongInt i u h = inr (any_larger types.LongInt types.Long (kinds.Keyword keys.Int) u refl refl h)
any_started types.UnsignedLong i u h = inr (any_larger types.UnsignedLong types.Unsigned (kinds.Keyword keys.Long) u refl refl h)
any_started types.UnsignedLongInt i u h = inr (any_larger types.UnsignedLongInt types.UnsignedLong (kinds.Keyword keys.Int) u refl refl h)
any_started types.LongLong i u h = inr (any_larger types.LongLong types.Long (kinds.Keyword keys.Long) u refl refl h)
any_started types.LongLongInt i u h = inr (any_larger types.LongLongInt types.LongLong (kinds.Keyword keys.Int) u refl refl h)
any_started types.UnsignedLongLong i u h = inr (any_larger types.UnsignedLongLong types.UnsignedLong (kinds.Keyword keys.Long) u refl refl h)
any_started types.UnsignedLongLongInt i u h = inr (any_larger types.UnsignedLongLongInt types.UnsignedLongLong (kinds.Keyword keys.Int) u refl refl h)
any_started types.Void i u h = inl (any_first types.Void (kinds.Keyword keys.Void) u refl refl h)
any_started types.VoidPointer i u h = inr (any_larger types.VoidPointer types.Void (kinds.Punct marks.Star) u refl refl h)
any_started types.Thread i u h = inl (any_first types.Thread (kinds.Keyword keys.Thread) u refl refl h)
any_started types.Mutex i u h = inl (any_first types.Mutex (kinds.Keyword keys.Mutex) u refl refl h)
any_started types.Cond i u h = inl (any_first types.Cond (kinds.Keyword keys.Cond) u refl refl h)

given : (s t : TypeName) (k : TokenKind) → k ∷ [] ≡ type_kinds s → Some s ≡ Some t → (any t ≡ true) × (k ∷ [] ≡ type_kinds t)
given s t k words h = let is : s ≡ t = cc in subst (λ (x : TypeName). (any x ≡ true) × (k ∷ [] ≡ type_kinds x)) is (refl, words)

key_words : (w : Keyword) (t : TypeName) → type_key w ≡ Some t → (any t ≡ true) × (kinds.Keyword w ∷ [] ≡ type_kinds t)
key_words keys.Int t h = given types.Int t (kinds.Keyword keys.Int) refl h
key_words keys.Signed t h = given types.Signed t (kinds.Keyword keys.Signed) refl h
key_words keys.Unsigned t h = given types.Unsigned t (kinds.Keyword keys.Unsigned) refl h
key_words keys.Bool t h = given types.Bool t (kinds.Keyword keys.Bool) refl h
key_words keys.Char t h = given types.Char t (kinds.Keyword keys.Char) refl h
key_words keys.Short t h = given types.Short t (kinds.Keyword keys.Short) refl h
key_words keys.Long t h = given types.Long t (kinds.Keyword keys.Long) refl h
key_words keys.Void t h = given types.Void t (kinds.Keyword keys.Void) refl h
key_words keys.Thread t h = given types.Thread t (kinds.Keyword keys.Thread) refl h
key_words keys.Mutex t h = given types.Mutex t (kinds.Keyword keys.Mutex) refl h
key_words keys.Cond t h = given types.Cond t (kinds.Keyword keys.Cond) refl h
key_words _ t h = absurd cc

kind_words : (k : TokenKind) (t : TypeName) → key_in type_key k ≡ Some t → (any t ≡ true) × (k ∷ [] ≡ type_kinds t)
kind_words (kinds.Keyword w) t h = key_words w t h
kind_words (kinds.Name n) t h = absurd cc
kind_words (kinds.Constant v f) t h = absurd cc
kind_words kinds.Text t h = absurd cc
kind_words (kinds.Punct p) t h = absurd cc

starts_with : (t : TypeName) (c : Token) → key_meant type_key c ≡ Some t → (any t ≡ true) × (c.kind ∷ [] ≡ type_kinds t)
unfolding key_meant
starts_with t c h = kind_words c.kind t h

int_shows : key_meant type_key (the_key keys.Int) ≡ Some types.Int
unfolding key_meant
int_shows = ap (key_in type_key) (the_kind (kinds.Keyword keys.Int))

pub row_type_name : Row SpellsType type_name type_goes
unfolding type_name
row_type_name = row_of any_text (token (key_meant type_key) >>= grown grow 3) type_goes type_goes (row_type (key_meant type_key) any starts_with any_started (λ t s e h. refl) (the_key keys.Int) types.Int int_shows) SpellsType (λ t u m. m.1)
    (λ t u m. (refl, m)) (λ t u c m. refl)

pub type_some : (t : TypeName) (u : List Token) → SpellsType t u → u ≡ [] → ⊥
type_some t u m e = row_type_name.full t (let P : List Token → Type 0 = λ w. SpellsType t w in subst P e m)

pub type_leads : (t : TypeName) (u v : List Token) → SpellsType t u → line_at (u ++ v) ≡ line_at u
type_leads t u v m = line_leads u v (λ e. type_some t u m e)

-- a type, with the line of its first token
abbrev pub TypeText : ℕ × TypeName → List Token → Type 0
TypeText = lined_text line_at SpellsType

pub row_lined_type : Row TypeText lined_type (λ p. type_goes p.1)
unfolding lined_type
row_lined_type = row_lined line_at SpellsType type_name type_goes row_type_name type_leads

-- ---- the first word of a type

word_key : (t : TypeName) (k : TokenKind) (ks : List TokenKind) → k ∷ ks ≡ type_kinds t → shows (key_in type_key k) ≡ true
word_key types.Int k ks e = let is : k ≡ kinds.Keyword keys.Int = cc in ap (λ (x : TokenKind). shows (key_in type_key x)) is
word_key types.Signed k ks e = let is : k ≡ kinds.Keyword keys.Signed = cc in ap (λ (x : TokenKind). shows (key_in type_key x)) is
word_key types.SignedInt k ks e = let is : k ≡ kinds.Keyword keys.Signed = cc in ap (λ (x : TokenKind). shows (key_in type_key x)) is
word_key types.Unsigned k ks e = let is : k ≡ kinds.Keyword keys.Unsigned = cc in ap (λ (x : TokenKind). shows (key_in type_key x)) is
word_key types.UnsignedInt k ks e = let is : k ≡ kinds.Keyword keys.Unsigned = cc in ap (λ (x : TokenKind). shows (key_in type_key x)) is
word_key types.Bool k ks e = let is : k ≡ kinds.Keyword keys.Bool = cc in ap (λ (x : TokenKind). shows (key_in type_key x)) is
word_key types.Char k ks e = let is : k ≡ kinds.Keyword keys.Char = cc in ap (λ (x : TokenKind). shows (key_in type_key x)) is
word_key types.SignedChar k ks e = let is : k ≡ kinds.Keyword keys.Signed = cc in ap (λ (x : TokenKind). shows (key_in type_key x)) is
word_key types.UnsignedChar k ks e = let is : k ≡ kinds.Keyword keys.Unsigned = cc in ap (λ (x : TokenKind). shows (key_in type_key x)) is
word_key types.Short k ks e = let is : k ≡ kinds.Keyword keys.Short = cc in ap (λ (x : TokenKind). shows (key_in type_key x)) is
word_key types.ShortInt k ks e = let is : k ≡ kinds.Keyword keys.Short = cc in ap (λ (x : TokenKind). shows (key_in type_key x)) is
word_key types.UnsignedShort k ks e = let is : k ≡ kinds.Keyword keys.Unsigned = cc in ap (λ (x : TokenKind). shows (key_in type_key x)) is
word_key types.UnsignedShortInt k ks e = let is : k ≡ kinds.Keyword keys.Unsigned = cc in ap (λ (x : TokenKind). shows (key_in type_key x)) is
word_key types.Long k ks e = let is : k ≡ kinds.Keyword keys.Long = cc in ap (λ (x : TokenKind). shows (key_in type_key x)) is
word_key types.LongInt k ks e = let is : k ≡ kinds.Keyword keys.Long = cc in ap (λ (x : TokenKind). shows (key_in type_key x)) is
word_key types.UnsignedLong k ks e = let is : k ≡ kinds.Keyword keys.Unsigned = cc in ap (λ (x : TokenKind). shows (key_in type_key x)) is
word_key types.UnsignedLongInt k ks e = let is : k ≡ kinds.Keyword keys.Unsigned = cc in ap (λ (x : TokenKind). shows (key_in type_key x)) is
word_key types.LongLong k ks e = let is : k ≡ kinds.Keyword keys.Long = cc in ap (λ (x : TokenKind). shows (key_in type_key x)) is
word_key types.LongLongInt k ks e = let is : k ≡ kinds.Keyword keys.Long = cc in ap (λ (x : TokenKind). shows (key_in type_key x)) is
word_key types.UnsignedLongLong k ks e = let is : k ≡ kinds.Keyword keys.Unsigned = cc in ap (λ (x : TokenKind). shows (key_in type_key x)) is
word_key types.UnsignedLongLongInt k ks e = let is : k ≡ kinds.Keyword keys.Unsigned = cc in ap (λ (x : TokenKind). shows (key_in type_key x)) is
word_key types.Void k ks e = let is : k ≡ kinds.Keyword keys.Void = cc in ap (λ (x : TokenKind). shows (key_in type_key x)) is
word_key types.VoidPointer k ks e = let is : k ≡ kinds.Keyword keys.Void = cc in ap (λ (x : TokenKind). shows (key_in type_key x)) is
word_key types.Thread k ks e = let is : k ≡ kinds.Keyword keys.Thread = cc in ap (λ (x : TokenKind). shows (key_in type_key x)) is
word_key types.Mutex k ks e = let is : k ≡ kinds.Keyword keys.Mutex = cc in ap (λ (x : TokenKind). shows (key_in type_key x)) is
word_key types.Cond k ks e = let is : k ≡ kinds.Keyword keys.Cond = cc in ap (λ (x : TokenKind). shows (key_in type_key x)) is

-- a type begins with a token that begins one
pub type_heads : (t : TypeName) (c : Token) (u : List Token) → SpellsType t (c ∷ u) → begins_type c ≡ true
unfolding begins_type key_meant
type_heads t c u m = word_key t c.kind (kinds_of u) m

-- each token that begins a type is one
pub type_begins : (c : Token) → begins_type c ≡ true → (t : TypeName) × SpellsType t (c ∷ [])
unfolding begins_type
type_begins c h = by_shown (key_meant type_key c) refl h
  where
    by_shown : (o : Option TypeName) → key_meant type_key c ≡ o → shows (key_meant type_key c) ≡ true → (t : TypeName) × SpellsType t (c ∷ [])
    by_shown None e h = let k : false ≡ true = rw e at h in absurd cc
    by_shown (Some t) e h = (t, (starts_with t c e).1)
