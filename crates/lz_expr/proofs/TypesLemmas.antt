-- A type is read word by word: each front of the words of a type is itself a type.
use Rattle.std.proofs.Common.{◌≡◌, ℕ, ◌<◌, ◌≤◌, Bool, true, false, List, [], ◌∷◌, ◌++◌, Option, Some, refl, ap, subst, ◌∙◌, inl, inr, arith}
use Rattle.std.specs.Prelude.{◌⊎◌}
use Rattle.lz_tree.specs.declared.token.Token.{Token}
use Rattle.lz_tree.specs.declared.token.TokenKind.{TokenKind}
use Rattle.lz_tree.specs.declared.token.TokenKind.TheVariants as kinds
use Rattle.lz_tree.specs.declared.token.Keyword.{Keyword}
use Rattle.lz_tree.specs.declared.token.Keyword.TheVariants as keys
use Rattle.lz_tree.specs.declared.token.Punct.{Punct}
use Rattle.lz_tree.specs.declared.token.Punct.TheVariants as marks
use Rattle.lz_tree.specs.declared.expression.TypeName.{TypeName}
use Rattle.lz_tree.specs.declared.expression.TypeName.TheVariants as types
use Rattle.lz_tree.specs.Spelling.{type_kinds, kinds_of, SpellsType}
use Rattle.lz_expr.specs.Reading.{shows, ◌>>=◌, token, grown}
use Rattle.lz_expr.specs.Grammar.{integer_key, key_in, key_meant, signed_by, unsigned_by, with_int, with_long, starred, grow_integer, grow_pointer, grow_by, grow, integer_type}
use Rattle.lz_expr.proofs.RowsLemmas.{Row}
use Rattle.lz_expr.proofs.GrowLemmas.{Started, Larger, row_grown}
use Rattle.lz_expr.proofs.TokensLemmas.{the_key, the_kind}

-- an integer type
abbrev pub is_integer : TypeName → Bool
is_integer types.Void = false
is_integer types.VoidPointer = false
is_integer types.Thread = false
is_integer types.Mutex = false
is_integer types.Cond = false
is_integer _ = true

-- how many words the type may still grow by
abbrev pub rank : TypeName → ℕ
rank types.Unsigned = 3
rank types.UnsignedLong = 2
rank types.Long = 2
rank types.Signed = 1
rank types.Short = 1
rank types.UnsignedShort = 1
rank types.LongLong = 1
rank types.UnsignedLongLong = 1
rank types.Void = 1
rank _ = 0

small : (t : TypeName) → rank t ≤ 3
small types.Unsigned = omega arith
small types.UnsignedLong = omega arith
small types.Long = omega arith
small types.Signed = omega arith
small types.Short = omega arith
small types.UnsignedShort = omega arith
small types.LongLong = omega arith
small types.UnsignedLongLong = omega arith
small types.Void = omega arith
small _ = omega arith

-- What it means that a type grows to another by a token of the kind.
pub record GrowsTo (t : TypeName) (k : TokenKind) (s : TypeName) : Type 0 where
  pub words : type_kinds t ++ k ∷ [] ≡ type_kinds s
  pub integer : is_integer s ≡ is_integer t
  pub falls : rank s < rank t

to : (t : TypeName) (k : TokenKind) (s r : TypeName) → GrowsTo t k s → Some s ≡ Some r → GrowsTo t k r
to t k s r g h = let is : s ≡ r = cc in subst (λ (x : TypeName). GrowsTo t k x) is g

signed_table : (w : Keyword) (r : TypeName) → signed_by w ≡ Some r → GrowsTo types.Signed (kinds.Keyword w) r
signed_table keys.Int r h = to types.Signed (kinds.Keyword keys.Int) types.SignedInt r (record { words = refl; integer = refl; falls = omega arith }) h
signed_table keys.Char r h = to types.Signed (kinds.Keyword keys.Char) types.SignedChar r (record { words = refl; integer = refl; falls = omega arith }) h
signed_table _ r h = absurd cc

unsigned_table : (w : Keyword) (r : TypeName) → unsigned_by w ≡ Some r → GrowsTo types.Unsigned (kinds.Keyword w) r
unsigned_table keys.Int r h = to types.Unsigned (kinds.Keyword keys.Int) types.UnsignedInt r (record { words = refl; integer = refl; falls = omega arith }) h
unsigned_table keys.Char r h = to types.Unsigned (kinds.Keyword keys.Char) types.UnsignedChar r (record { words = refl; integer = refl; falls = omega arith }) h
unsigned_table keys.Short r h = to types.Unsigned (kinds.Keyword keys.Short) types.UnsignedShort r (record { words = refl; integer = refl; falls = omega arith }) h
unsigned_table keys.Long r h = to types.Unsigned (kinds.Keyword keys.Long) types.UnsignedLong r (record { words = refl; integer = refl; falls = omega arith }) h
unsigned_table _ r h = absurd cc

int_table : (t s : TypeName) → GrowsTo t (kinds.Keyword keys.Int) s → (w : Keyword) (r : TypeName) → with_int s w ≡ Some r → GrowsTo t (kinds.Keyword w) r
int_table t s g keys.Int r h = to t (kinds.Keyword keys.Int) s r g h
int_table t s g _ r h = absurd cc

long_table : (t s u : TypeName) → GrowsTo t (kinds.Keyword keys.Long) s → GrowsTo t (kinds.Keyword keys.Int) u → (w : Keyword) (r : TypeName) → with_long s u w ≡ Some r → GrowsTo t (kinds.Keyword w) r
long_table t s u g f keys.Long r h = to t (kinds.Keyword keys.Long) s r g h
long_table t s u g f keys.Int r h = to t (kinds.Keyword keys.Int) u r f h
long_table t s u g f _ r h = absurd cc

star_table : (w : Punct) (r : TypeName) → starred w ≡ Some r → GrowsTo types.Void (kinds.Punct w) r
star_table marks.Star r h = to types.Void (kinds.Punct marks.Star) types.VoidPointer r (record { words = refl; integer = refl; falls = omega arith }) h
star_table _ r h = absurd cc

-- the tables of types that grow
integer_table : (t : TypeName) (w : Keyword) (r : TypeName) → grow_integer t w ≡ Some r → GrowsTo t (kinds.Keyword w) r
integer_table types.Signed w r h = signed_table w r h
integer_table types.Unsigned w r h = unsigned_table w r h
integer_table types.Short w r h = int_table types.Short types.ShortInt (record { words = refl; integer = refl; falls = omega arith }) w r h
integer_table types.UnsignedShort w r h = int_table types.UnsignedShort types.UnsignedShortInt (record { words = refl; integer = refl; falls = omega arith }) w r h
integer_table types.LongLong w r h = int_table types.LongLong types.LongLongInt (record { words = refl; integer = refl; falls = omega arith }) w r h
integer_table types.UnsignedLongLong w r h = int_table types.UnsignedLongLong types.UnsignedLongLongInt (record { words = refl; integer = refl; falls = omega arith }) w r h
integer_table types.Long w r h =
    long_table types.Long types.LongLong types.LongInt (record { words = refl; integer = refl; falls = omega arith }) (record { words = refl; integer = refl; falls = omega arith }) w r h
integer_table types.UnsignedLong w r h =
    long_table types.UnsignedLong types.UnsignedLongLong types.UnsignedLongInt (record { words = refl; integer = refl; falls = omega arith }) (record { words = refl; integer = refl; falls = omega arith }) w r h
integer_table _ w r h = absurd cc

pointer_table : (t : TypeName) (m : Punct) (r : TypeName) → grow_pointer t m ≡ Some r → GrowsTo t (kinds.Punct m) r
pointer_table types.Void m r h = star_table m r h
pointer_table _ m r h = absurd cc

grow_table : (t : TypeName) (k : TokenKind) (r : TypeName) → grow_by t k ≡ Some r → GrowsTo t k r
grow_table t (kinds.Keyword w) r h = integer_table t w r h
grow_table t (kinds.Punct m) r h = pointer_table t m r h
grow_table t (kinds.Name number) r h = absurd cc
grow_table t (kinds.Constant value form) r h = absurd cc
grow_table t kinds.Text r h = absurd cc

-- ---- the words of a type, but for the last

-- tokens whose last kind is known
pub last_of : (u : List Token) (ks : List TokenKind) (k : TokenKind) → kinds_of u ≡ ks ++ k ∷ [] → (v : List Token) × (c : Token) × (u ≡ v ++ c ∷ []) × (kinds_of v ≡ ks) × (c.kind ≡ k)
last_of [] [] k h = absurd cc
last_of [] (x ∷ ks) k h = absurd cc
last_of (c ∷ []) [] k h = let is : c.kind ≡ k = cc in ([], c, refl, refl, is)
last_of (c ∷ d ∷ u) [] k h = absurd cc
last_of (c ∷ u) (x ∷ ks) k h =
    let more : kinds_of u ≡ ks ++ k ∷ [] = cc in
    let first : c.kind ≡ x = cc in
    let l = last_of u ks k more in
    (c ∷ l.0, l.1, ap (λ (w : List Token). c ∷ w) l.2, cons_same first l.3, l.4)
  where
    cons_same : {a b : TokenKind} {xs ys : List TokenKind} → a ≡ b → xs ≡ ys → a ∷ xs ≡ b ∷ ys
    cons_same e f = cc

kinds_more : (u : List Token) (c : Token) → kinds_of (u ++ c ∷ []) ≡ kinds_of u ++ c.kind ∷ []
kinds_more [] c = refl
kinds_more (d ∷ u) c = ap (λ (w : List TokenKind). d.kind ∷ w) (kinds_more u c)

-- one token of a known kind
pub one_kind : (u : List Token) (k : TokenKind) → kinds_of u ≡ k ∷ [] → (c : Token) × (u ≡ c ∷ []) × (c.kind ≡ k)
one_kind [] k h = absurd cc
one_kind (c ∷ []) k h = let is : c.kind ≡ k = cc in (c, refl, is)
one_kind (c ∷ d ∷ u) k h = absurd cc

-- ---- types that a first token begins, of those that are allowed

module _ (first : Token → Option TypeName) (allowed : TypeName → Bool)
    (starts_with : (t : TypeName) (c : Token) → first c ≡ Some t → (allowed t ≡ true) × (c.kind ∷ [] ≡ type_kinds t))
    (started : (t : TypeName) → allowed t ≡ true → (u : List Token) → SpellsType t u → Started first t u ⊎ Larger grow (λ s v. (allowed s ≡ true) × SpellsType s v) t u)
    (keeps : (t s : TypeName) → is_integer s ≡ is_integer t → allowed t ≡ true → allowed s ≡ true)
    (c₀ : Token) (t₀ : TypeName) (shows₀ : first c₀ ≡ Some t₀) where
  abbrev pub type_text : TypeName → List Token → Type 0
  type_text t u = (allowed t ≡ true) × SpellsType t u

  into_first : (t : TypeName) (c : Token) → first c ≡ Some t → type_text t (c ∷ [])
  into_first t c h = starts_with t c h

  into_grow : (t s : TypeName) (u : List Token) (c : Token) → type_text t u → grow t c ≡ Some s → type_text s (u ++ c ∷ [])
  unfolding grow
  into_grow t s u c m h =
      let g = grow_table t c.kind s h in
      (keeps t s g.integer m.0, kinds_more u c ∙ ap (λ (w : List TokenKind). w ++ c.kind ∷ []) m.1 ∙ g.words)

  less : (t s : TypeName) (c : Token) → grow t c ≡ Some s → rank s < rank t
  unfolding grow
  less t s c h = let g = grow_table t c.kind s h in g.falls

  low : (t : TypeName) (c : Token) → first c ≡ Some t → rank t ≤ 3
  low t c h = small t

  pub row_type : Row type_text (token first >>= grown grow 3) (λ t c. shows (grow t c))
  row_type = row_grown first grow rank 3 type_text into_first into_grow (λ t u m. started t m.0 u m.1) less low c₀ t₀ shows₀

larger : (t s : TypeName) (k : TokenKind) (u : List Token) → type_kinds t ≡ type_kinds s ++ k ∷ [] → grow_by s k ≡ Some t → SpellsType t u
    → (v : List Token) × (c : Token) × (u ≡ v ++ c ∷ []) × SpellsType s v × (grow s c ≡ Some t)
unfolding grow
larger t s k u words grows h = let l = last_of u (type_kinds s) k (h ∙ words) in (l.0, l.1, l.2, l.3, ap (grow_by s) l.4 ∙ grows)

-- ---- the integer types, which a cast may name

abbrev pub integer_text : TypeName → List Token → Type 0
integer_text t u = (is_integer t ≡ true) × SpellsType t u

integer_larger : (t s : TypeName) (k : TokenKind) (u : List Token) → is_integer s ≡ true → type_kinds t ≡ type_kinds s ++ k ∷ [] → grow_by s k ≡ Some t → SpellsType t u → Larger grow integer_text t u
integer_larger t s k u integer words grows h =
    let l = larger t s k u words grows h in record { smaller = s; before = l.0; at = l.1; same = l.2; in_smaller = (integer, l.3); shows = l.4 }

integer_first : (t : TypeName) (k : TokenKind) (u : List Token) → type_kinds t ≡ k ∷ [] → key_in integer_key k ≡ Some t → SpellsType t u → Started (key_meant integer_key) t u
unfolding key_meant
integer_first t k u words shown h = let l = one_kind u k (h ∙ words) in record { at = l.0; same = l.1; shows = ap (key_in integer_key) l.2 ∙ shown }

integer_started : (t : TypeName) → is_integer t ≡ true → (u : List Token) → SpellsType t u → Started (key_meant integer_key) t u ⊎ Larger grow integer_text t u
integer_started types.Int i u h = inl (integer_first types.Int (kinds.Keyword keys.Int) u refl refl h)
integer_started types.Signed i u h = inl (integer_first types.Signed (kinds.Keyword keys.Signed) u refl refl h)
integer_started types.SignedInt i u h = inr (integer_larger types.SignedInt types.Signed (kinds.Keyword keys.Int) u refl refl refl h)
integer_started types.Unsigned i u h = inl (integer_first types.Unsigned (kinds.Keyword keys.Unsigned) u refl refl h)
integer_started types.UnsignedInt i u h = inr (integer_larger types.UnsignedInt types.Unsigned (kinds.Keyword keys.Int) u refl refl refl h)
integer_started types.Bool i u h = inl (integer_first types.Bool (kinds.Keyword keys.Bool) u refl refl h)
integer_started types.Char i u h = inl (integer_first types.Char (kinds.Keyword keys.Char) u refl refl h)
integer_started types.SignedChar i u h = inr (integer_larger types.SignedChar types.Signed (kinds.Keyword keys.Char) u refl refl refl h)
integer_started types.UnsignedChar i u h = inr (integer_larger types.UnsignedChar types.Unsigned (kinds.Keyword keys.Char) u refl refl refl h)
integer_started types.Short i u h = inl (integer_first types.Short (kinds.Keyword keys.Short) u refl refl h)
integer_started types.ShortInt i u h = inr (integer_larger types.ShortInt types.Short (kinds.Keyword keys.Int) u refl refl refl h)
integer_started types.UnsignedShort i u h = inr (integer_larger types.UnsignedShort types.Unsigned (kinds.Keyword keys.Short) u refl refl refl h)
integer_started types.UnsignedShortInt i u h = inr (integer_larger types.UnsignedShortInt types.UnsignedShort (kinds.Keyword keys.Int) u refl refl refl h)
integer_started types.Long i u h = inl (integer_first types.Long (kinds.Keyword keys.Long) u refl refl h)
integer_started types.LongInt i u h = inr (integer_larger types.LongInt types.Long (kinds.Keyword keys.Int) u refl refl refl h)
integer_started types.UnsignedLong i u h = inr (integer_larger types.UnsignedLong types.Unsigned (kinds.Keyword keys.Long) u refl refl refl h)
integer_started types.UnsignedLongInt i u h = inr (integer_larger types.UnsignedLongInt types.UnsignedLong (kinds.Keyword keys.Int) u refl refl refl h)
integer_started types.LongLong i u h = inr (integer_larger types.LongLong types.Long (kinds.Keyword keys.Long) u refl refl refl h)
integer_started types.LongLongInt i u h = inr (integer_larger types.LongLongInt types.LongLong (kinds.Keyword keys.Int) u refl refl refl h)
integer_started types.UnsignedLongLong i u h = inr (integer_larger types.UnsignedLongLong types.UnsignedLong (kinds.Keyword keys.Long) u refl refl refl h)
integer_started types.UnsignedLongLongInt i u h = inr (integer_larger types.UnsignedLongLongInt types.UnsignedLongLong (kinds.Keyword keys.Int) u refl refl refl h)
integer_started _ i u h = absurd cc

integer_given : (s t : TypeName) (k : TokenKind) → is_integer s ≡ true → k ∷ [] ≡ type_kinds s → Some s ≡ Some t → (is_integer t ≡ true) × (k ∷ [] ≡ type_kinds t)
integer_given s t k i words h = let is : s ≡ t = cc in subst (λ (x : TypeName). (is_integer x ≡ true) × (k ∷ [] ≡ type_kinds x)) is (i, words)

integer_words : (w : Keyword) (t : TypeName) → integer_key w ≡ Some t → (is_integer t ≡ true) × (kinds.Keyword w ∷ [] ≡ type_kinds t)
integer_words keys.Int t h = integer_given types.Int t (kinds.Keyword keys.Int) refl refl h
integer_words keys.Signed t h = integer_given types.Signed t (kinds.Keyword keys.Signed) refl refl h
integer_words keys.Unsigned t h = integer_given types.Unsigned t (kinds.Keyword keys.Unsigned) refl refl h
integer_words keys.Bool t h = integer_given types.Bool t (kinds.Keyword keys.Bool) refl refl h
integer_words keys.Char t h = integer_given types.Char t (kinds.Keyword keys.Char) refl refl h
integer_words keys.Short t h = integer_given types.Short t (kinds.Keyword keys.Short) refl refl h
integer_words keys.Long t h = integer_given types.Long t (kinds.Keyword keys.Long) refl refl h
integer_words _ t h = absurd cc

integer_by : (k : TokenKind) (t : TypeName) → key_in integer_key k ≡ Some t → (is_integer t ≡ true) × (k ∷ [] ≡ type_kinds t)
integer_by (kinds.Keyword w) t h = integer_words w t h
integer_by (kinds.Name number) t h = absurd cc
integer_by (kinds.Constant value form) t h = absurd cc
integer_by kinds.Text t h = absurd cc
integer_by (kinds.Punct mark) t h = absurd cc

integer_starts : (t : TypeName) (c : Token) → key_meant integer_key c ≡ Some t → (is_integer t ≡ true) × (c.kind ∷ [] ≡ type_kinds t)
unfolding key_meant
integer_starts t c h = integer_by c.kind t h

int_shows : key_meant integer_key (the_key keys.Int) ≡ Some types.Int
unfolding key_meant
int_shows = ap (key_in integer_key) (the_kind (kinds.Keyword keys.Int))

-- with which tokens a type goes on
abbrev pub type_goes : TypeName → Token → Bool
type_goes t c = shows (grow t c)

pub row_integer : Row integer_text integer_type type_goes
unfolding integer_type
row_integer = row_type (key_meant integer_key) is_integer integer_starts integer_started (λ t s e h. e ∙ h) (the_key keys.Int) types.Int int_shows
