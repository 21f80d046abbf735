-- Inner: reading declarations, statements and external declarations from the left, up to a height (C99 6.7 to 6.9).
use Rattle.std.specs.Prelude.{ℕ, zero, suc, ◌-◌, Bool, true, false, ◌&&◌, not, nat_lt, List, [], ◌∷◌, length, Option, Some, None, if◌then◌else◌}
use Rattle.lz_expr.specs.Reading.{gives, Reader, and_then, ◌>>=◌, pure, refuse, token, starts, shows, until, grown}
use Rattle.lz_expr.specs.declared.opening.Opening.{Opening}
use Rattle.lz_expr.specs.declared.opening.Opening.TheVariants as opening
use Rattle.lz_expr.specs.Grammar.{mark, key, name, begins, begins_key, key_meant, grow, is_whole, expr, opening_of}
use Rattle.lz_tree.specs.declared.token.Token.{Token}
use Rattle.lz_tree.specs.declared.token.Keyword.{Keyword}
use Rattle.lz_tree.specs.declared.token.Keyword.TheVariants as keys
use Rattle.lz_tree.specs.declared.token.Punct.{Punct}
use Rattle.lz_tree.specs.declared.token.Punct.TheVariants as marks
use Rattle.lz_tree.specs.declared.expression.TypeName.{TypeName}
use Rattle.lz_tree.specs.declared.expression.TypeName.TheVariants as types
use Rattle.lz_tree.specs.declared.program.Param.{Param}
use Rattle.lz_tree.specs.Languages.{is_mark, is_key, line_at}
use Rattle.lz_tree.specs.Trees.{Expression, object, expressions_of, Initializer, nothing, single, listed, mutex, cond, InitDeclarator, Declaration, Statement, empty, eval, block, declare, when, while, do_while, for, break, continue, return, label, absent, branch, statements_of}

-- ---- what begins an expression or a type

abbrev pub opens_any : Opening → Bool
opens_any opening.Nothing = false
opens_any o = true

-- the token begins an expression
unfoldable pub begins_expression : Token → Bool
begins_expression c = opens_any (opening_of c.kind)

-- a type of one word (C99 6.7.2, and the types of threads)
abbrev pub type_key : Keyword → Option TypeName
type_key keys.Int = Some types.Int
type_key keys.Signed = Some types.Signed
type_key keys.Unsigned = Some types.Unsigned
type_key keys.Bool = Some types.Bool
type_key keys.Char = Some types.Char
type_key keys.Short = Some types.Short
type_key keys.Long = Some types.Long
type_key keys.Void = Some types.Void
type_key keys.Thread = Some types.Thread
type_key keys.Mutex = Some types.Mutex
type_key keys.Cond = Some types.Cond
type_key _ = None

-- the token begins a type
unfoldable pub begins_type : Token → Bool
begins_type c = shows (key_meant type_key c)

unfoldable pub type_name : Reader Token TypeName
type_name = token (key_meant type_key) >>= grown grow 3

-- a type with the line of its first token
unfoldable pub lined_type : Reader Token (ℕ × TypeName)
lined_type ts = and_then (type_name ts) (λ t. pure {A = ℕ × TypeName} (line_at ts, t))

-- ---- declarations, whose expressions have at most the height

module _ (e : ℕ → ℕ → Reader Token Expression) (h : ℕ) where
  -- `[ choose ]`
  unfoldable pub array_length : Reader Token Expression
  array_length = do
    m ← mark marks.OpenBracket
    i ← e h 11
    k ← mark marks.CloseBracket
    pure i

  -- values up to `}`, with a comma behind the last or without, at most so many
  unfoldable pub values : ℕ → Reader Token (List Expression × Bool)
  values zero = refuse
  values (suc n) = do
    v ← e (h - 1) 12
    λ ts. if begins marks.Comma ts
        then (do
          m ← mark marks.Comma
          λ us. if starts (λ c. nat_lt 0 n && not (is_mark marks.CloseBrace c)) us
              then (do more ← values n; pure (v ∷ more.0, more.1)) us
              else (do k ← mark marks.CloseBrace; pure (v ∷ [], true)) us) ts
        else (do k ← mark marks.CloseBrace; pure (v ∷ [], false)) ts

  unfoldable pub all_values : Reader Token (List Expression × Bool)
  all_values ts = values (suc (length ts)) ts

  unfoldable pub listed_values : Reader Token Initializer
  listed_values = do
    m ← mark marks.OpenBrace
    v ← all_values
    pure (listed (expressions_of v.0) v.1)

  unfoldable pub single_value : Reader Token Initializer
  single_value = do
    v ← e h 12
    pure (single v)

  unfoldable pub word_value : Reader Token Initializer
  word_value = λ ts.
      if begins_key keys.MutexInitializer ts then (do m ← key keys.MutexInitializer; pure mutex) ts
      else (do m ← key keys.CondInitializer; pure cond) ts

  -- behind `=`
  unfoldable pub first_value : Reader Token Initializer
  first_value = λ ts.
      if starts (λ c. is_mark marks.OpenBrace c && nat_lt 1 h) ts then listed_values ts
      else if starts (λ c. begins_expression c && nat_lt 0 h) ts then single_value ts
      else word_value ts

  -- a name that was read, with no length and no initializer
  abbrev pub plain : ℕ × ℕ → InitDeclarator
  plain n = record { line = n.0; name = n.1; length = None; first = nothing }

  abbrev pub with_length : ℕ × ℕ → Expression → InitDeclarator
  with_length n i = record { line = n.0; name = n.1; length = Some i; first = nothing }

  abbrev pub with_first : InitDeclarator → Initializer → InitDeclarator
  with_first d v = record d { first = v }

  -- behind a name, its length where it stands there
  unfoldable pub sized : ℕ × ℕ → Reader Token InitDeclarator
  sized n = λ ts.
      if nat_lt 0 h && begins marks.OpenBracket ts then (do i ← array_length; pure (with_length n i)) ts
      else gives (plain n) ts

  -- and its initializer
  unfoldable pub initialized : InitDeclarator → Reader Token InitDeclarator
  initialized d = λ ts.
      if begins marks.Assign ts then (do m ← mark marks.Assign; v ← first_value; pure (with_first d v)) ts
      else gives d ts

  unfoldable pub declarator : Reader Token InitDeclarator
  declarator = (name >>= sized) >>= initialized

  -- the rest of a declarator whose name was read
  unfoldable pub declarator_from : ℕ × ℕ → Reader Token InitDeclarator
  declarator_from n = (pure n >>= sized) >>= initialized

  unfoldable pub next_declarator : Reader Token InitDeclarator
  next_declarator = do
    m ← mark marks.Comma
    declarator

  unfoldable pub more_declarators : Reader Token (List InitDeclarator)
  more_declarators = λ ts. until (is_mark marks.Semicolon) (mark marks.Semicolon) next_declarator (length ts) ts

  unfoldable pub declaration : Reader Token Declaration
  declaration = do
    t ← lined_type
    d ← declarator
    more ← more_declarators
    pure (record { line = t.0; base = t.1; declarators = d ∷ more })

-- ---- statements, whose parts have at most the height

-- `;`
unfoldable pub semicolon : Reader Token Statement
semicolon = do
  m ← mark marks.Semicolon
  pure empty

-- `assign ;`
unfoldable pub evaluated : ℕ → Reader Token Statement
evaluated h = do
  v ← expr h 12
  m ← mark marks.Semicolon
  pure (eval v)

unfoldable pub declared : ℕ → Reader Token Statement
declared h = do
  d ← declaration expr h
  pure (declare d)

-- the first part of a `for`
unfoldable pub start : ℕ → Reader Token Statement
start h = λ ts.
    if starts (λ c. begins_expression c && nat_lt 0 h) ts then evaluated h ts
    else if starts begins_type ts then declared h ts
    else semicolon ts

abbrev pub one_less : ℕ → ℕ
one_less zero = zero
one_less (suc h) = h

module _ (inner : Reader Token Statement) (h : ℕ) where
  unfoldable pub parts : Reader Token (List Statement)
  parts = λ ts.
      if nat_lt 0 h then until (is_mark marks.CloseBrace) (mark marks.CloseBrace) inner (length ts) ts
      else (do m ← mark marks.CloseBrace; pure []) ts

  unfoldable pub blocked : Reader Token Statement
  blocked = do
    m ← mark marks.OpenBrace
    found ← parts
    pure (block (statements_of found))

  -- behind the statement that follows a test
  unfoldable pub otherwise : ℕ → Expression → Statement → Reader Token Statement
  otherwise line test met = λ ts.
      if begins_key keys.Else ts then (do k ← key keys.Else; s ← inner; pure (when line test met (branch s))) ts
      else gives (when line test met absent) ts

  unfoldable pub tested : Reader Token Statement
  tested = do
    line ← key keys.If
    m ← mark marks.OpenParen
    test ← expr h 12
    n ← mark marks.CloseParen
    met ← inner
    otherwise line test met

  unfoldable pub repeated : Reader Token Statement
  repeated = do
    line ← key keys.While
    m ← mark marks.OpenParen
    test ← expr h 12
    n ← mark marks.CloseParen
    body ← inner
    pure (while line test body)

  unfoldable pub repeated_behind : Reader Token Statement
  repeated_behind = do
    line ← key keys.Do
    body ← inner
    k ← key keys.While
    m ← mark marks.OpenParen
    test ← expr h 12
    n ← mark marks.CloseParen
    s ← mark marks.Semicolon
    pure (do_while line body test)

  -- an expression, or nothing, up to a punctuator
  unfoldable pub maybe_then : Punct → Reader Token (Option Expression)
  maybe_then p = λ ts.
      if starts (λ c. nat_lt 0 h && not (is_mark p c)) ts then (do v ← expr h 12; m ← mark p; pure (Some v)) ts
      else (do m ← mark p; pure None) ts

  unfoldable pub counted : Reader Token Statement
  counted = do
    line ← key keys.For
    m ← mark marks.OpenParen
    first ← start (one_less h)
    test ← maybe_then marks.Semicolon
    change ← maybe_then marks.CloseParen
    body ← inner
    pure (for line first test change body)

  unfoldable pub broken : Reader Token Statement
  broken = do
    line ← key keys.Break
    m ← mark marks.Semicolon
    pure (break line)

  unfoldable pub continued : Reader Token Statement
  continued = do
    line ← key keys.Continue
    m ← mark marks.Semicolon
    pure (continue line)

  unfoldable pub returned : Reader Token Statement
  returned = do
    line ← key keys.Return
    v ← maybe_then marks.Semicolon
    pure (return line v)

  abbrev pub labelled : Expression → Statement → Statement
  labelled (object line n i) of = label n of
  labelled e of = of

  -- behind an expression: `:` and a statement where it is a name, otherwise `;`
  unfoldable pub label_or_end : Expression → Reader Token Statement
  label_or_end v = λ ts.
      if starts (λ c. is_mark marks.Colon c && is_whole v) ts then (do m ← mark marks.Colon; of ← inner; pure (labelled v of)) ts
      else (do m ← mark marks.Semicolon; pure (eval v)) ts

  unfoldable pub expression_first : Reader Token Statement
  expression_first = do
    v ← expr h 12
    label_or_end v

  unfoldable pub by_first : Reader Token Statement
  by_first = λ ts.
      if starts (λ c. begins_expression c && nat_lt 0 h) ts then expression_first ts
      else if starts begins_type ts then declared h ts
      else if begins marks.OpenBrace ts then blocked ts
      else if starts (λ c. is_key keys.If c && nat_lt 0 h) ts then tested ts
      else if starts (λ c. is_key keys.While c && nat_lt 0 h) ts then repeated ts
      else if starts (λ c. is_key keys.Do c && nat_lt 0 h) ts then repeated_behind ts
      else if starts (λ c. is_key keys.For c && nat_lt 0 h) ts then counted ts
      else if begins_key keys.Break ts then broken ts
      else if begins_key keys.Continue ts then continued ts
      else if begins_key keys.Return ts then returned ts
      else semicolon ts

unfoldable pub stmt : ℕ → Reader Token Statement
stmt zero = refuse
stmt (suc h) = by_first (stmt h) h

-- ---- external declarations

-- a name that may be left out
abbrev pub is_name : Opening → Bool
is_name opening.Name = true
is_name o = false

unfoldable pub begins_name : Token → Bool
begins_name c = is_name (opening_of c.kind)

abbrev pub nameless : ℕ × TypeName → Param
nameless t = record { line = t.0; base = t.1; name = None }

abbrev pub named_param : ℕ × TypeName → ℕ × ℕ → Param
named_param t n = record { line = t.0; base = t.1; name = Some n.1 }

unfoldable pub param : Reader Token Param
param = do
  t ← lined_type
  λ ts. if starts begins_name ts then (do n ← name; pure (named_param t n)) ts else gives (nameless t) ts

unfoldable pub next_param : Reader Token Param
next_param = do
  m ← mark marks.Comma
  param

unfoldable pub more_params : Reader Token (List Param)
more_params = λ ts. until (is_mark marks.CloseParen) (mark marks.CloseParen) next_param (length ts) ts

unfoldable pub some_params : Reader Token (List Param)
some_params = do
  p ← param
  more ← more_params
  pure (p ∷ more)

unfoldable pub all_params : Reader Token (List Param)
all_params = λ ts. if starts begins_type ts then some_params ts else (do m ← mark marks.CloseParen; pure []) ts

abbrev pub is_void : TypeName → Option ℕ → Bool
is_void types.Void None = true
is_void t n = false

-- a nameless parameter `void` alone says that there is none
abbrev pub void_word : List Param → List Param × Bool
void_word [] = ([], false)
void_word (p ∷ []) = if is_void p.base p.name then ([], true) else (p ∷ [], false)
void_word (p ∷ q ∷ rest) = (p ∷ q ∷ rest, false)

unfoldable pub params : Reader Token (List Param × Bool)
params = do
  ps ← all_params
  pure (void_word ps)
