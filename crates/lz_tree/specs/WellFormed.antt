-- Trusted: which trees are well formed: levels of operands, `else` at the nearest `if`, heights, and lists that are not empty.
use Rattle.std.specs.Prelude.{◌≡◌, ◌≢◌, ℕ, ◌≤◌, ◌<◌, Bool, true, false, List, [], ◌∷◌, Option, Some, None, IsSome}
use Rattle.std.specs.List.{AllByRecursion}
use Rattle.lz_base.specs.declared.operator.Binary.{Binary}
use Rattle.lz_base.specs.declared.operator.Binary.TheVariants as ops
use Rattle.lz_tree.specs.declared.token.Token.{Token}
use Rattle.lz_tree.specs.declared.expression.TypeName.{TypeName}
use Rattle.lz_tree.specs.declared.expression.TypeName.TheVariants as types
use Rattle.lz_tree.specs.declared.program.Param.{Param}
use Rattle.lz_tree.specs.Trees.{Expression, constant, null, text, object, address, paren, unary, cast, binary, choose, assign, step, call, Index, whole, element, Expressions, none, and, Initializer, nothing, single, listed, mutex, cond, InitDeclarator, Declaration, Statement, empty, eval, block, declare, when, while, do_while, for, break, continue, return, label, Branch, absent, branch, Statements, nil, cons, ExternalDeclaration, objects, prototype, function, TranslationUnit}
use Rattle.lz_tree.specs.Height.{expression_height, statement_height, declaration_height, height}
use Rattle.lz_tree.specs.Spelling.{SpellsExpression, SpellsDeclaration, SpellsStatement}

-- ---- levels of the grammar, from tight to loose: 0 unary, 1 to 10 binary, 11 choice, 12 assignment

-- the level of a binary operator (C99 6.5.5 to 6.5.14)
abbrev pub looseness : Binary → ℕ
looseness ops.Mul = 1
looseness ops.Div = 1
looseness ops.Rem = 1
looseness ops.Add = 2
looseness ops.Sub = 2
looseness ops.Shl = 3
looseness ops.Shr = 3
looseness ops.Lt = 4
looseness ops.Gt = 4
looseness ops.Le = 4
looseness ops.Ge = 4
looseness ops.Eq = 5
looseness ops.Ne = 5
looseness ops.BitAnd = 6
looseness ops.BitXor = 7
looseness ops.BitOr = 8
looseness ops.Both = 9
looseness ops.Either = 10

-- the level of an expression
abbrev pub level : Expression → ℕ
level (binary line op l r) = looseness op
level (choose line a b c) = 11
level (assign line op at name index e) = 12
level _ = 0

-- a cast is to an integer type or to `void *`
abbrev pub may_cast_to : TypeName → Bool
may_cast_to types.Void = false
may_cast_to types.Thread = false
may_cast_to types.Mutex = false
may_cast_to types.Cond = false
may_cast_to _ = true

-- whether an operator looks at its right operand only where it needs it
abbrev pub is_logical : Binary → Bool
is_logical ops.Both = true
is_logical ops.Either = true
is_logical _ = false

-- an operator that comes before an assignment looks at both operands (C99 6.5.16)
abbrev pub MayAssign : Option Binary → Type 0
MayAssign None = Unit {0}
MayAssign (Some op) = is_logical op ≡ false

abbrev mutual
  -- each operand has its level or a tighter one, and assignments have their operators
  pub FitsExpression : Expression → Type 0
  FitsExpression (constant line value form) = Unit {0}
  FitsExpression (null line) = Unit {0}
  FitsExpression (text line) = Unit {0}
  FitsExpression (object line name index) = FitsIndex index
  FitsExpression (address line at name index) = FitsIndex index
  FitsExpression (paren line e) = FitsExpression e
  FitsExpression (unary line op e) = (level e ≡ 0) × FitsExpression e
  FitsExpression (cast line to e) = (may_cast_to to ≡ true) × (level e ≡ 0) × FitsExpression e
  FitsExpression (binary line op l r) = (level l ≤ looseness op) × (level r < looseness op) × FitsExpression l × FitsExpression r
  FitsExpression (choose line a b c) = (level a < 11) × (level c ≤ 11) × FitsExpression a × FitsExpression b × FitsExpression c
  FitsExpression (assign line op at name index e) = MayAssign op × FitsIndex index × FitsExpression e
  FitsExpression (step line at name index up before) = FitsIndex index
  FitsExpression (call line name args) = FitsAll args

  pub FitsIndex : Index → Type 0
  FitsIndex whole = Unit {0}
  FitsIndex (element e) = FitsExpression e

  pub FitsAll : Expressions → Type 0
  FitsAll none = Unit {0}
  FitsAll (and e rest) = FitsExpression e × FitsAll rest

abbrev pub FitsOptional : Option Expression → Type 0
FitsOptional None = Unit {0}
FitsOptional (Some e) = FitsExpression e

-- ---- declarations

-- the length of an array is no assignment
abbrev pub FitsLength : Option Expression → Type 0
FitsLength None = Unit {0}
FitsLength (Some e) = (level e ≤ 11) × FitsExpression e

abbrev pub is_empty : Expressions → Bool
is_empty none = true
is_empty (and e rest) = false

-- a list of initializers has at least one value
abbrev pub FitsInitializer : Initializer → Type 0
FitsInitializer nothing = Unit {0}
FitsInitializer (single e) = FitsExpression e
FitsInitializer (listed values comma) = (is_empty values ≡ false) × FitsAll values
FitsInitializer mutex = Unit {0}
FitsInitializer cond = Unit {0}

abbrev pub FitsDeclarator : InitDeclarator → Type 0
FitsDeclarator d = FitsLength d.length × FitsInitializer d.first

-- at least one declarator
abbrev pub FitsDeclaration : Declaration → Type 0
FitsDeclaration d = (d.declarators ≢ []) × AllByRecursion FitsDeclarator d.declarators

-- ---- statements

abbrev mutual
  -- the statement ends in an `if` without `else`
  pub is_open : Statement → Bool
  is_open (when line test first second) = is_open_branch second
  is_open (while line test body) = is_open body
  is_open (for line first test change body) = is_open body
  is_open (label name of) = is_open of
  is_open _ = false

  pub is_open_branch : Branch → Bool
  is_open_branch absent = true
  is_open_branch (branch s) = is_open s

-- the first part of a `for` is empty, an expression or a declaration
abbrev pub is_start : Statement → Bool
is_start empty = true
is_start (eval e) = true
is_start (declare of) = true
is_start _ = false

abbrev pub is_block : Statement → Bool
is_block (block parts) = true
is_block _ = false

abbrev mutual
  pub FitsStatement : Statement → Type 0
  FitsStatement empty = Unit {0}
  FitsStatement (eval e) = FitsExpression e
  FitsStatement (block parts) = FitsParts parts
  FitsStatement (declare of) = FitsDeclaration of
  FitsStatement (when line test first second) = FitsExpression test × FitsStatement first × FitsBranch first second
  FitsStatement (while line test body) = FitsExpression test × FitsStatement body
  FitsStatement (do_while line body test) = FitsStatement body × FitsExpression test
  FitsStatement (for line first test change body) =
      (is_start first ≡ true) × FitsStatement first × FitsOptional test × FitsOptional change × FitsStatement body
  FitsStatement (break line) = Unit {0}
  FitsStatement (continue line) = Unit {0}
  FitsStatement (return line e) = FitsOptional e
  FitsStatement (label name of) = FitsStatement of

  -- what stands before an `else` does not end in an `if` without one
  pub FitsBranch : Statement → Branch → Type 0
  FitsBranch first absent = Unit {0}
  FitsBranch first (branch s) = (is_open first ≡ false) × FitsStatement s

  pub FitsParts : Statements → Type 0
  FitsParts nil = Unit {0}
  FitsParts (cons s rest) = FitsStatement s × FitsParts rest

-- ---- external declarations

-- `void` stands with an empty list alone, and no list is one nameless parameter of type `void`
abbrev pub fits_params : Bool → List Param → Bool
fits_params void_word [] = true
fits_params true (p ∷ rest) = false
fits_params false (p ∷ q ∷ rest) = true
fits_params false (p ∷ []) = fits_alone p.base p.name
  where
    fits_alone : TypeName → Option ℕ → Bool
    fits_alone types.Void None = false
    fits_alone _ _ = true

abbrev pub FitsExternal : ExternalDeclaration → Type 0
FitsExternal (objects hidden of) = FitsDeclaration of
FitsExternal (prototype line lead gives name params void_word) = fits_params void_word params ≡ true
FitsExternal (function line hidden gives name params void_word body) =
    (fits_params void_word params ≡ true) × AllByRecursion (λ p. IsSome p.name) params × (is_block body ≡ true) × FitsStatement body

-- the height that a program may have
unfoldable pub height_limit : ℕ
height_limit = 200

-- a program: at least one external declaration, each as the grammar writes it, of no greater height
pub record IsWellFormed (u : TranslationUnit) : Type 0 where
  pub some : u.externals ≢ []
  pub fits : AllByRecursion FitsExternal u.externals
  pub low : height u ≤ height_limit

-- ---- what spells a tree of at most some height

-- an expression of this level or a tighter one
pub record InExpression (h class : ℕ) (e : Expression) (ts : List Token) : Type 0 where
  pub low : expression_height e ≤ h
  pub tight : level e ≤ class
  pub fits : FitsExpression e
  pub spells : SpellsExpression e ts

pub record InDeclaration (h : ℕ) (d : Declaration) (ts : List Token) : Type 0 where
  pub low : declaration_height d ≤ h
  pub fits : FitsDeclaration d
  pub spells : SpellsDeclaration d ts

pub record InStatement (h : ℕ) (s : Statement) (ts : List Token) : Type 0 where
  pub low : statement_height s ≤ h
  pub fits : FitsStatement s
  pub spells : SpellsStatement s ts
