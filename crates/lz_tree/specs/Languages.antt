-- Trusted: which tokens a text of the language consists of: one token, a text behind another, and the line of the first token.
use Rattle.std.specs.Prelude.{◌≡◌, ℕ, Bool, false, List, [], ◌∷◌, ◌++◌, Option, Some, None, if◌then◌else◌}
use denote.Enum.Bare.{sameb}
use Rattle.lz_tree.specs.declared.token.Token.{Token}
use Rattle.lz_tree.specs.declared.token.TokenKind.{TokenKind}
use Rattle.lz_tree.specs.declared.token.TokenKind.TheVariants as kinds
use Rattle.lz_tree.specs.declared.token.Form.{Form}
use Rattle.lz_tree.specs.declared.token.Keyword.{Keyword}
use Rattle.lz_tree.specs.declared.token.Punct.{Punct}
use Rattle.lz_tree.specs.contracts.token.Punct as punct
use Rattle.lz_tree.specs.contracts.token.Keyword as keyword

-- a property of a row of tokens: that they are a text of some kind
abbrev pub Text : Type 1
Text = List Token → Type 0

infixr 11 ◌⊙◌
-- a text of the first kind, and then one of the second
abbrev pub ◌⊙◌ : {K : Type 0} → (List K → Type 0) → (List K → Type 0) → List K → Type 0
◌⊙◌ {K = K} a b ts = (u v : List K) × (ts ≡ u ++ v) × a u × b v

-- one token that shows this value
abbrev pub showing : {K A : Type 0} → (K → Option A) → A → List K → Type 0
showing {K = K} show x ts = (c : K) × (ts ≡ c ∷ []) × (show c ≡ Some x)

-- no token
abbrev pub Nothing : Text
Nothing ts = ts ≡ []

-- a text with a line, whatever that line is
abbrev pub Any : (ℕ → Text) → Text
Any text ts = (line : ℕ) × text line ts

-- the line of the first token
unfoldable pub line_at : List Token → ℕ
line_at [] = 0
line_at (c ∷ rest) = c.line

-- a text whose first token stands on this line
abbrev pub From : ℕ → Text → Text
From line text ts = (line_at ts ≡ line) × text ts

-- ---- what a token shows

-- `==` on punctuators
unfoldable pub same_mark : Punct → Punct → Bool
same_mark = sameb punct.the_type

-- `==` on keywords
unfoldable pub same_key : Keyword → Keyword → Bool
same_key = sameb keyword.the_type

abbrev pub is_mark_kind : Punct → TokenKind → Bool
is_mark_kind p (kinds.Punct mark) = same_mark mark p
is_mark_kind p _ = false

abbrev pub is_key_kind : Keyword → TokenKind → Bool
is_key_kind k (kinds.Keyword word) = same_key word k
is_key_kind k _ = false

-- the token is this punctuator
unfoldable pub is_mark : Punct → Token → Bool
is_mark p c = is_mark_kind p c.kind

-- the token is this keyword
unfoldable pub is_key : Keyword → Token → Bool
is_key k c = is_key_kind k c.kind

-- the line of a token that is this punctuator
unfoldable pub mark_shown : Punct → Token → Option ℕ
mark_shown p c = if is_mark p c then Some c.line else None

-- the line of a token that is this keyword
unfoldable pub key_shown : Keyword → Token → Option ℕ
key_shown k c = if is_key k c then Some c.line else None

abbrev pub name_in : TokenKind → Option ℕ
name_in (kinds.Name number) = Some number
name_in _ = None

-- the number of a name
unfoldable pub name_shown : Token → Option ℕ
name_shown c = name_in c.kind

-- A constant as it stands in a token and in a tree.
pub record ConstantToken : Type 0 where
  pub value : ℕ
  pub form : Form

abbrev pub constant_in : TokenKind → Option ConstantToken
constant_in (kinds.Constant value form) = Some (record { value = value; form = form })
constant_in _ = None

-- the value and the form of a constant
unfoldable pub constant_shown : Token → Option ConstantToken
constant_shown c = constant_in c.kind

abbrev pub text_in : TokenKind → ℕ → Option ℕ
text_in kinds.Text line = Some line
text_in _ line = None

-- the line of a text
unfoldable pub text_shown : Token → Option ℕ
text_shown c = text_in c.kind c.line

abbrev pub mark_in : {A : Type 0} → (Punct → Option A) → TokenKind → Option A
mark_in f (kinds.Punct mark) = f mark
mark_in f _ = None

-- what a punctuator stands for
unfoldable pub meant_by : {A : Type 0} → (Punct → Option A) → Token → Option A
meant_by f c = mark_in f c.kind

-- ---- one token

-- this punctuator, on this line
abbrev pub Mark : Punct → ℕ → Text
Mark p line = showing (mark_shown p) line

-- this keyword, on this line
abbrev pub Key : Keyword → ℕ → Text
Key k line = showing (key_shown k) line

-- the name of this number
abbrev pub NameToken : ℕ → Text
NameToken name = showing name_shown name

-- ---- lists

-- further items, each behind a comma, and what ends the list
abbrev pub Further : {A : Type 0} → Text → Text → (A → Text) → List A → Text
Further comma stop item [] = stop
Further comma stop item (x ∷ rest) = comma ⊙ (item x ⊙ Further comma stop item rest)

-- items with a comma between each two, and what ends the list
abbrev pub Listed : {A : Type 0} → Text → Text → (A → Text) → List A → Text
Listed comma stop item [] = stop
Listed comma stop item (x ∷ rest) = item x ⊙ Further comma stop item rest
