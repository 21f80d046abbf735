-- Trusted: which tokens spell a tree, production by production (C99 6.5 to 6.9), with the line of the first token of each node and part that has a line.
use Rattle.std.specs.Prelude.{◌≡◌, ℕ, Bool, true, false, List, [], ◌∷◌, Option, Some, None, map}
use Rattle.lz_base.specs.declared.operator.Unary.{Unary}
use Rattle.lz_base.specs.declared.operator.Unary.TheVariants as signs
use Rattle.lz_base.specs.declared.operator.Binary.{Binary}
use Rattle.lz_base.specs.declared.operator.Binary.TheVariants as ops
use Rattle.lz_tree.specs.declared.token.Token.{Token}
use Rattle.lz_tree.specs.declared.token.TokenKind.{TokenKind}
use Rattle.lz_tree.specs.declared.token.TokenKind.TheVariants as kinds
use Rattle.lz_tree.specs.declared.token.Keyword.TheVariants as keys
use Rattle.lz_tree.specs.declared.token.Punct.{Punct}
use Rattle.lz_tree.specs.declared.token.Punct.TheVariants as marks
use Rattle.lz_tree.specs.declared.token.Tokens.{Tokens}
use Rattle.lz_tree.specs.declared.expression.TypeName.{TypeName}
use Rattle.lz_tree.specs.declared.expression.TypeName.TheVariants as types
use Rattle.lz_tree.specs.declared.program.Param.{Param}
use Rattle.lz_tree.specs.declared.program.Lead.{Lead}
use Rattle.lz_tree.specs.declared.program.Lead.TheVariants as lead
use Rattle.lz_tree.specs.Languages.{Text, ◌⊙◌, showing, Nothing, Any, From, meant_by, constant_shown, text_shown, Mark, Key, NameToken, Listed}
use Rattle.lz_tree.specs.Trees.{Expression, constant, null, text, object, address, paren, unary, cast, binary, choose, assign, step, call, Index, whole, element, Expressions, none, and, Initializer, nothing, single, listed, mutex, cond, InitDeclarator, Declaration, Statement, empty, eval, block, declare, when, while, do_while, for, break, continue, return, label, Branch, absent, branch, Statements, nil, cons, ExternalDeclaration, objects, prototype, function, TranslationUnit}

-- ---- operators

-- the unary operators (C99 6.5.3.3)
abbrev pub sign_of : Punct → Option Unary
sign_of marks.Plus = Some signs.Plus
sign_of marks.Minus = Some signs.Minus
sign_of marks.Tilde = Some signs.Invert
sign_of marks.Not = Some signs.Not
sign_of _ = None

-- the binary operators (C99 6.5.5 to 6.5.14)
abbrev pub operator_of : Punct → Option Binary
operator_of marks.Star = Some ops.Mul
operator_of marks.Slash = Some ops.Div
operator_of marks.Percent = Some ops.Rem
operator_of marks.Plus = Some ops.Add
operator_of marks.Minus = Some ops.Sub
operator_of marks.ShiftLeft = Some ops.Shl
operator_of marks.ShiftRight = Some ops.Shr
operator_of marks.Less = Some ops.Lt
operator_of marks.Greater = Some ops.Gt
operator_of marks.LessEqual = Some ops.Le
operator_of marks.GreaterEqual = Some ops.Ge
operator_of marks.Equal = Some ops.Eq
operator_of marks.NotEqual = Some ops.Ne
operator_of marks.And = Some ops.BitAnd
operator_of marks.Xor = Some ops.BitXor
operator_of marks.Or = Some ops.BitOr
operator_of marks.AndAnd = Some ops.Both
operator_of marks.OrOr = Some ops.Either
operator_of _ = None

-- the assignment operators (C99 6.5.16): which operator comes before the assignment, if any
abbrev pub assigning_of : Punct → Option (Option Binary)
assigning_of marks.Assign = Some None
assigning_of marks.AddAssign = Some (Some ops.Add)
assigning_of marks.SubAssign = Some (Some ops.Sub)
assigning_of marks.MulAssign = Some (Some ops.Mul)
assigning_of marks.DivAssign = Some (Some ops.Div)
assigning_of marks.RemAssign = Some (Some ops.Rem)
assigning_of marks.AndAssign = Some (Some ops.BitAnd)
assigning_of marks.OrAssign = Some (Some ops.BitOr)
assigning_of marks.XorAssign = Some (Some ops.BitXor)
assigning_of marks.ShlAssign = Some (Some ops.Shl)
assigning_of marks.ShrAssign = Some (Some ops.Shr)
assigning_of _ = None

-- `++` and `--` (C99 6.5.2.4, 6.5.3.1): whether it goes up
abbrev pub step_of : Punct → Option Bool
step_of marks.Increment = Some true
step_of marks.Decrement = Some false
step_of _ = None

-- ---- types

-- the tokens of a type (C99 6.7.2)
abbrev pub type_kinds : TypeName → List TokenKind
type_kinds types.Int = kinds.Keyword keys.Int ∷ []
type_kinds types.Signed = kinds.Keyword keys.Signed ∷ []
type_kinds types.SignedInt = kinds.Keyword keys.Signed ∷ kinds.Keyword keys.Int ∷ []
type_kinds types.Unsigned = kinds.Keyword keys.Unsigned ∷ []
type_kinds types.UnsignedInt = kinds.Keyword keys.Unsigned ∷ kinds.Keyword keys.Int ∷ []
type_kinds types.Bool = kinds.Keyword keys.Bool ∷ []
type_kinds types.Char = kinds.Keyword keys.Char ∷ []
type_kinds types.SignedChar = kinds.Keyword keys.Signed ∷ kinds.Keyword keys.Char ∷ []
type_kinds types.UnsignedChar = kinds.Keyword keys.Unsigned ∷ kinds.Keyword keys.Char ∷ []
type_kinds types.Short = kinds.Keyword keys.Short ∷ []
type_kinds types.ShortInt = kinds.Keyword keys.Short ∷ kinds.Keyword keys.Int ∷ []
type_kinds types.UnsignedShort = kinds.Keyword keys.Unsigned ∷ kinds.Keyword keys.Short ∷ []
type_kinds types.UnsignedShortInt = kinds.Keyword keys.Unsigned ∷ kinds.Keyword keys.Short ∷ kinds.Keyword keys.Int ∷ []
type_kinds types.Long = kinds.Keyword keys.Long ∷ []
type_kinds types.LongInt = kinds.Keyword keys.Long ∷ kinds.Keyword keys.Int ∷ []
type_kinds types.UnsignedLong = kinds.Keyword keys.Unsigned ∷ kinds.Keyword keys.Long ∷ []
type_kinds types.UnsignedLongInt = kinds.Keyword keys.Unsigned ∷ kinds.Keyword keys.Long ∷ kinds.Keyword keys.Int ∷ []
type_kinds types.LongLong = kinds.Keyword keys.Long ∷ kinds.Keyword keys.Long ∷ []
type_kinds types.LongLongInt = kinds.Keyword keys.Long ∷ kinds.Keyword keys.Long ∷ kinds.Keyword keys.Int ∷ []
type_kinds types.UnsignedLongLong = kinds.Keyword keys.Unsigned ∷ kinds.Keyword keys.Long ∷ kinds.Keyword keys.Long ∷ []
type_kinds types.UnsignedLongLongInt =
    kinds.Keyword keys.Unsigned ∷ kinds.Keyword keys.Long ∷ kinds.Keyword keys.Long ∷ kinds.Keyword keys.Int ∷ []
type_kinds types.Void = kinds.Keyword keys.Void ∷ []
type_kinds types.VoidPointer = kinds.Keyword keys.Void ∷ kinds.Punct marks.Star ∷ []
type_kinds types.Thread = kinds.Keyword keys.Thread ∷ []
type_kinds types.Mutex = kinds.Keyword keys.Mutex ∷ []
type_kinds types.Cond = kinds.Keyword keys.Cond ∷ []

-- the kinds of tokens in a row
abbrev pub kinds_of : List Token → List TokenKind
kinds_of ts = map (λ c. c.kind) ts

abbrev pub SpellsType : TypeName → Text
SpellsType base ts = kinds_of ts ≡ type_kinds base

-- ---- expressions (C99 6.5)

-- `,` and `)`
abbrev pub Comma : Text
Comma = Any (Mark marks.Comma)

abbrev pub CloseParen : Text
CloseParen = Any (Mark marks.CloseParen)

-- the sign before or behind the object
abbrev pub SpellsStep : Bool → Text → Text → Text
SpellsStep true sign target = sign ⊙ target
SpellsStep false sign target = target ⊙ sign

abbrev mutual
  pub SpellsExpression : Expression → Text
  SpellsExpression (constant line value form) = From line (showing constant_shown (record { value = value; form = form }))
  SpellsExpression (null line) = Key keys.Null line
  SpellsExpression (text line) = showing text_shown line
  SpellsExpression (object line name index) = From line (NameToken name ⊙ SpellsIndex index)
  SpellsExpression (address line at name index) = Mark marks.And line ⊙ From at (NameToken name ⊙ SpellsIndex index)
  SpellsExpression (paren line e) = Mark marks.OpenParen line ⊙ (SpellsExpression e ⊙ CloseParen)
  SpellsExpression (unary line op e) = From line (showing (meant_by sign_of) op ⊙ SpellsExpression e)
  SpellsExpression (cast line to e) = Mark marks.OpenParen line ⊙ (SpellsType to ⊙ (CloseParen ⊙ SpellsExpression e))
  SpellsExpression (binary line op l r) = From line (SpellsExpression l ⊙ (showing (meant_by operator_of) op ⊙ SpellsExpression r))
  SpellsExpression (choose line a b c) =
      From line (SpellsExpression a ⊙ (Any (Mark marks.Question) ⊙ (SpellsExpression b ⊙ (Any (Mark marks.Colon) ⊙ SpellsExpression c))))
  SpellsExpression (assign line op at name index e) =
      From line (From at (NameToken name ⊙ SpellsIndex index) ⊙ (showing (meant_by assigning_of) op ⊙ SpellsExpression e))
  SpellsExpression (step line at name index up before) =
      From line (SpellsStep before (showing (meant_by step_of) up) (From at (NameToken name ⊙ SpellsIndex index)))
  SpellsExpression (call line name args) = From line (NameToken name ⊙ (Any (Mark marks.OpenParen) ⊙ SpellsList CloseParen args))

  -- nothing, or `[ index ]`
  pub SpellsIndex : Index → Text
  SpellsIndex whole ts = Nothing ts
  SpellsIndex (element e) ts = (Any (Mark marks.OpenBracket) ⊙ (SpellsExpression e ⊙ Any (Mark marks.CloseBracket))) ts

  -- expressions with a comma between each two, and what ends the list
  pub SpellsList : Text → Expressions → Text
  SpellsList stop none = stop
  SpellsList stop (and e rest) = SpellsExpression e ⊙ SpellsFurther stop rest

  -- further expressions, each behind a comma, and what ends the list
  pub SpellsFurther : Text → Expressions → Text
  SpellsFurther stop none = stop
  SpellsFurther stop (and e rest) = Comma ⊙ (SpellsExpression e ⊙ SpellsFurther stop rest)

-- an expression that may be left out
abbrev pub SpellsOptional : Option Expression → Text
SpellsOptional None = Nothing
SpellsOptional (Some e) = SpellsExpression e

-- ---- declarations (C99 6.7)

abbrev pub Semicolon : Text
Semicolon = Any (Mark marks.Semicolon)

-- nothing, or `[ length ]`
abbrev pub SpellsLength : Option Expression → Text
SpellsLength None = Nothing
SpellsLength (Some e) = Any (Mark marks.OpenBracket) ⊙ (SpellsExpression e ⊙ Any (Mark marks.CloseBracket))

-- the end of a list of initializers: `}`, with a comma before it or without
abbrev pub CloseList : Bool → Text
CloseList true = Comma ⊙ Any (Mark marks.CloseBrace)
CloseList false = Any (Mark marks.CloseBrace)

abbrev pub SpellsInitializer : Initializer → Text
SpellsInitializer nothing = Nothing
SpellsInitializer (single e) = Any (Mark marks.Assign) ⊙ SpellsExpression e
SpellsInitializer (listed values comma) = Any (Mark marks.Assign) ⊙ (Any (Mark marks.OpenBrace) ⊙ SpellsList (CloseList comma) values)
SpellsInitializer mutex = Any (Mark marks.Assign) ⊙ Any (Key keys.MutexInitializer)
SpellsInitializer cond = Any (Mark marks.Assign) ⊙ Any (Key keys.CondInitializer)

abbrev pub SpellsDeclarator : InitDeclarator → Text
SpellsDeclarator d = From d.line (NameToken d.name ⊙ (SpellsLength d.length ⊙ SpellsInitializer d.first))

abbrev pub SpellsDeclaration : Declaration → Text
SpellsDeclaration d = From d.line (SpellsType d.base ⊙ Listed Comma Semicolon SpellsDeclarator d.declarators)

-- ---- statements (C99 6.8)

abbrev mutual
  pub SpellsStatement : Statement → Text
  SpellsStatement empty = Semicolon
  SpellsStatement (eval e) = SpellsExpression e ⊙ Semicolon
  SpellsStatement (block parts) = Any (Mark marks.OpenBrace) ⊙ SpellsParts parts
  SpellsStatement (declare of) = SpellsDeclaration of
  SpellsStatement (when line test first second) =
      Key keys.If line ⊙ (Any (Mark marks.OpenParen) ⊙ (SpellsExpression test ⊙ (CloseParen ⊙ (SpellsStatement first ⊙ SpellsBranch second))))
  SpellsStatement (while line test body) =
      Key keys.While line ⊙ (Any (Mark marks.OpenParen) ⊙ (SpellsExpression test ⊙ (CloseParen ⊙ SpellsStatement body)))
  SpellsStatement (do_while line body test) =
      Key keys.Do line ⊙ (SpellsStatement body ⊙ (Any (Key keys.While) ⊙ (Any (Mark marks.OpenParen) ⊙ (SpellsExpression test ⊙ (CloseParen ⊙ Semicolon)))))
  SpellsStatement (for line first test change body) =
      Key keys.For line ⊙ (Any (Mark marks.OpenParen) ⊙ (SpellsStatement first ⊙ (SpellsOptional test ⊙ (Semicolon
      ⊙ (SpellsOptional change ⊙ (CloseParen ⊙ SpellsStatement body))))))
  SpellsStatement (break line) = Key keys.Break line ⊙ Semicolon
  SpellsStatement (continue line) = Key keys.Continue line ⊙ Semicolon
  SpellsStatement (return line e) = Key keys.Return line ⊙ (SpellsOptional e ⊙ Semicolon)
  SpellsStatement (label name of) = NameToken name ⊙ (Any (Mark marks.Colon) ⊙ SpellsStatement of)

  -- nothing, or `else` and a statement
  pub SpellsBranch : Branch → Text
  SpellsBranch absent ts = Nothing ts
  SpellsBranch (branch s) ts = (Any (Key keys.Else) ⊙ SpellsStatement s) ts

  -- statements up to `}`
  pub SpellsParts : Statements → Text
  SpellsParts nil = Any (Mark marks.CloseBrace)
  SpellsParts (cons s rest) = SpellsStatement s ⊙ SpellsParts rest

-- ---- external declarations (C99 6.9)

abbrev pub SpellsParamName : Option ℕ → Text
SpellsParamName None = Nothing
SpellsParamName (Some name) = NameToken name

abbrev pub SpellsParam : Param → Text
SpellsParam p = From p.line (SpellsType p.base ⊙ SpellsParamName p.name)

-- nothing, or the word `void`
abbrev pub SpellsVoid : Bool → Text
SpellsVoid false = Nothing
SpellsVoid true = Any (Key keys.Void)

-- parameters up to `)`
abbrev pub SpellsParams : Bool → List Param → Text
SpellsParams void_word params = SpellsVoid void_word ⊙ Listed Comma CloseParen SpellsParam params

-- nothing, or the word `static`
abbrev pub SpellsHidden : Bool → Text
SpellsHidden false = Nothing
SpellsHidden true = Any (Key keys.Static)

abbrev pub SpellsLead : Lead → Text
SpellsLead lead.Nothing = Nothing
SpellsLead lead.Hidden = Any (Key keys.Static)
SpellsLead lead.Outside = Any (Key keys.Extern)

abbrev pub SpellsExternal : ExternalDeclaration → Text
SpellsExternal (objects hidden of) = SpellsHidden hidden ⊙ SpellsDeclaration of
SpellsExternal (prototype line lead gives name params void_word) =
    From line (SpellsLead lead ⊙ (SpellsType gives ⊙ (NameToken name ⊙ (Any (Mark marks.OpenParen) ⊙ (SpellsParams void_word params ⊙ Semicolon)))))
SpellsExternal (function line hidden gives name params void_word body) =
    From line (SpellsHidden hidden ⊙ (SpellsType gives ⊙ (NameToken name ⊙ (Any (Mark marks.OpenParen) ⊙ (SpellsParams void_word params ⊙ SpellsStatement body)))))

-- external declarations one behind the other
abbrev pub SpellsExternals : List ExternalDeclaration → Text
SpellsExternals [] = Nothing
SpellsExternals (e ∷ rest) = SpellsExternal e ⊙ SpellsExternals rest

-- the program spells the tokens, and has their names
pub record Spells (u : TranslationUnit) (tokens : Tokens) : Type 0 where
  pub externals : SpellsExternals u.externals tokens.list
  pub names : u.names ≡ tokens.names
