-- Inner: reading external declarations and whole programs from the left (C99 6.9).
use Rattle.std.specs.Prelude.{◌≢◌, ℕ, zero, suc, ◌≤◌, Bool, true, false, ◌&&◌, ◌||◌, not, List, [], ◌∷◌, length, Option, Some, None, is_some, if◌then◌else◌}
use Rattle.std.specs.List.{AllByRecursion, list_all}
use Rattle.lz_expr.specs.Reading.{gives, refused, Reader, and_then, ◌>>=◌, pure, refuse, token, starts, shows, optional, many}
use Rattle.lz_expr.specs.Grammar.{mark, name, key_meant, expr}
use Rattle.lz_grammar.specs.Grammar.{begins_type, lined_type, declarator_from, more_declarators, blocked, stmt, params}
use Rattle.lz_tree.specs.declared.token.Token.{Token}
use Rattle.lz_tree.specs.declared.token.Keyword.{Keyword}
use Rattle.lz_tree.specs.declared.token.Keyword.TheVariants as keys
use Rattle.lz_tree.specs.declared.token.Punct.TheVariants as marks
use Rattle.lz_tree.specs.declared.expression.TypeName.{TypeName}
use Rattle.lz_tree.specs.declared.program.Param.{Param}
use Rattle.lz_tree.specs.declared.program.Lead.{Lead}
use Rattle.lz_tree.specs.declared.program.Lead.TheVariants as leads
use Rattle.lz_tree.specs.Languages.{is_mark, line_at}
use Rattle.lz_tree.specs.Height.{greatest, external_height}
use Rattle.lz_tree.specs.Spelling.{SpellsExternal, SpellsExternals}
use Rattle.lz_tree.specs.WellFormed.{FitsExternal}
use Rattle.lz_tree.specs.Trees.{InitDeclarator, Statement, ExternalDeclaration, objects, prototype, function}

-- ---- what stands before the parameters or the rest of the first declarator

-- the word that a declaration may begin with
abbrev pub lead_key : Keyword → Option Lead
lead_key keys.Static = Some leads.Hidden
lead_key keys.Extern = Some leads.Outside
lead_key _ = None

unfoldable pub begins_lead : Token → Bool
begins_lead c = shows (key_meant lead_key c)

abbrev pub lead_of : Option Lead → Lead
lead_of None = leads.Nothing
lead_of (Some w) = w

-- `static` or `extern`, where one of them stands there
unfoldable pub lead_word : Reader Token Lead
lead_word = do
  found ← optional begins_lead (token (key_meant lead_key))
  pure (lead_of found)

-- The word before a type, the type with its line, and the name behind it with its own.
pub record Heading : Type 0 where
  pub word : Lead
  pub base : ℕ × TypeName
  pub name : ℕ × ℕ

abbrev pub heading_of : Lead → ℕ × TypeName → ℕ × ℕ → Heading
heading_of w t n = record { word = w; base = t; name = n }

unfoldable pub heading : Reader Token Heading
heading = do
  w ← lead_word
  t ← lined_type
  n ← name
  pure (heading_of w t n)

-- with the line of its first token
unfoldable pub lined_heading : Reader Token (ℕ × Heading)
lined_heading ts = and_then (heading ts) (λ d. pure {A = ℕ × Heading} (line_at ts, d))

-- ---- what may stand behind it

abbrev pub is_hidden : Lead → Bool
is_hidden leads.Hidden = true
is_hidden _ = false

abbrev pub is_outside : Lead → Bool
is_outside leads.Outside = true
is_outside _ = false

-- each parameter has a name
abbrev pub all_named : List Param → Bool
all_named ps = list_all (λ p. is_some p.name) ps

-- a body may stand behind the parameters: not behind `extern`, nor where a parameter has no name
abbrev pub may_define : Heading → List Param × Bool → Bool
may_define d ps = not (is_outside d.word) && all_named ps.0

abbrev pub objects_of : Heading → InitDeclarator → List InitDeclarator → ExternalDeclaration
objects_of d first more = objects (is_hidden d.word) (record { line = d.base.0; base = d.base.1; declarators = first ∷ more })

abbrev pub prototype_of : ℕ × Heading → List Param × Bool → ExternalDeclaration
prototype_of p ps = prototype p.0 p.1.word p.1.base.1 p.1.name.1 ps.0 ps.1

abbrev pub function_of : ℕ × Heading → List Param × Bool → Statement → ExternalDeclaration
function_of p ps s = function p.0 (is_hidden p.1.word) p.1.base.1 p.1.name.1 ps.0 ps.1 s

-- ---- external declarations, whose declarators and bodies have at most the height

-- objects whose first name was read
unfoldable pub objects_from : ℕ → Heading → Reader Token ExternalDeclaration
objects_from h d = do
  first ← declarator_from expr h d.name
  more ← more_declarators expr h
  pure (objects_of d first more)

-- the body of a function
unfoldable pub body : ℕ → Reader Token Statement
body zero = refuse
body (suc h) = blocked (stmt h) h

unfoldable pub function_from : ℕ → ℕ × Heading → List Param × Bool → Reader Token ExternalDeclaration
function_from h p ps = do
  s ← body h
  pure (function_of p ps s)

unfoldable pub prototype_from : ℕ × Heading → List Param × Bool → Reader Token ExternalDeclaration
prototype_from p ps = do
  m ← mark marks.Semicolon
  pure (prototype_of p ps)

-- behind the parameters: a body where one may stand, otherwise `;`
unfoldable pub body_or_end : ℕ → ℕ × Heading → List Param × Bool → Reader Token ExternalDeclaration
body_or_end h p ps = λ ts.
    if starts (λ c. is_mark marks.OpenBrace c && may_define p.1 ps) ts then function_from h p ps ts else prototype_from p ps ts

-- a function whose name was read
unfoldable pub called_from : ℕ → ℕ × Heading → Reader Token ExternalDeclaration
called_from h p = do
  m ← mark marks.OpenParen
  ps ← params
  body_or_end h p ps

-- behind the name: a function where `(` stands there, otherwise objects, but behind `extern` a function alone
unfoldable pub behind_heading : ℕ → ℕ × Heading → Reader Token ExternalDeclaration
behind_heading h p = λ ts.
    if starts (λ c. not (is_mark marks.OpenParen c) && not (is_outside p.1.word)) ts then objects_from h p.1 ts else called_from h p ts

unfoldable pub external : ℕ → Reader Token ExternalDeclaration
external h = do
  p ← lined_heading
  behind_heading h p

-- ---- programs

-- the token begins an external declaration
unfoldable pub begins_external : Token → Bool
begins_external c = begins_lead c || begins_type c

unfoldable pub more_externals : ℕ → Reader Token (List ExternalDeclaration)
more_externals h = λ ts. many begins_external (external h) (length ts) ts

-- external declarations as long as there are more, at least one
unfoldable pub externals : ℕ → Reader Token (List ExternalDeclaration)
externals h = do
  first ← external h
  more ← more_externals h
  pure (first ∷ more)

-- nothing else may stand behind them
abbrev pub closed : List ExternalDeclaration → Reader Token (List ExternalDeclaration)
closed es [] = gives es []
closed es (c ∷ rest) = refused (suc (length rest))

unfoldable pub program : ℕ → Reader Token (List ExternalDeclaration)
program h ts = and_then (externals h ts) closed

-- ---- what spells external declarations of at most some height

-- an external declaration
pub record InExternal (h : ℕ) (e : ExternalDeclaration) (ts : List Token) : Type 0 where
  pub low : external_height e ≤ h
  pub fits : FitsExternal e
  pub spells : SpellsExternal e ts

-- those of a program
pub record InProgram (h : ℕ) (es : List ExternalDeclaration) (ts : List Token) : Type 0 where
  pub some : es ≢ []
  pub low : greatest external_height es ≤ h
  pub fits : AllByRecursion FitsExternal es
  pub spells : SpellsExternals es ts
