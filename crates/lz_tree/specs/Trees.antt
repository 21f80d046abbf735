-- Trusted: the trees of a program as definitions read them, without pointers and capacities.
use Rattle.std.specs.Prelude.{ℕ, Bool, List, [], ◌∷◌, map, Option, Some, None, option_map, Box}
use Rattle.std.specs.declared.alloc.Global.{Global}
use Rattle.lz_base.specs.declared.operator.Unary.{Unary}
use Rattle.lz_base.specs.declared.operator.Binary.{Binary}
use Rattle.lz_tree.specs.declared.token.Form.{Form}
use Rattle.lz_tree.specs.declared.expression.TypeName.{TypeName}
use Rattle.lz_tree.specs.declared.expression.Expr.{Expr, Constant, Null, Text, Object', Address', Paren', Unary', Cast', Binary', Choose', Assign', Step', Call', Row_of-Expr, end_of-Expr, more_of-Expr, Held-Target-index, None', Some'}
use Rattle.lz_tree.specs.declared.statement.Stmt.{Stmt, Empty, Eval, Block', Declare, If', While', Do', For', Break, Continue, Return, Label', Held-Stmt-If-3, None' as NoElse, Some' as Else, Row_of-Stmt, end_of-Stmt, more_of-Stmt}
use Rattle.lz_tree.specs.declared.statement.Objects.{Objects}
use Rattle.lz_tree.specs.declared.statement.Declarator.{Declarator}
use Rattle.lz_tree.specs.declared.statement.First.{First}
use Rattle.lz_tree.specs.declared.statement.First.TheVariants as first
use Rattle.lz_tree.specs.declared.program.Param.{Param}
use Rattle.lz_tree.specs.declared.program.Lead.{Lead}
use Rattle.lz_tree.specs.declared.program.External.{External}
use Rattle.lz_tree.specs.declared.program.External.TheVariants as external
use Rattle.lz_tree.specs.declared.program.Program.{Program}

-- ---- expressions (C99 6.5)

mutual
  -- An expression. An object stands with the line and the number of its name and with its index; `at` is the
  -- line of the object where the node has a line of its own.
  pub data Expression : Type 0 where
    constant : (line value : ℕ) (form : Form) → Expression
    null : (line : ℕ) → Expression
    text : (line : ℕ) → Expression
    object : (line name : ℕ) (index : Index) → Expression
    address : (line at name : ℕ) (index : Index) → Expression
    paren : (line : ℕ) (inner : Expression) → Expression
    unary : (line : ℕ) (op : Unary) (of : Expression) → Expression
    cast : (line : ℕ) (to : TypeName) (of : Expression) → Expression
    binary : (line : ℕ) (op : Binary) (left right : Expression) → Expression
    choose : (line : ℕ) (test first second : Expression) → Expression
    assign : (line : ℕ) (op : Option Binary) (at name : ℕ) (index : Index) (value : Expression) → Expression
    step : (line at name : ℕ) (index : Index) (up before : Bool) → Expression
    call : (line name : ℕ) (args : Expressions) → Expression

  -- The index of an object: none, or that of an element.
  pub data Index : Type 0 where
    whole : Index
    element : (index : Expression) → Index

  -- Expressions in the order of the text.
  pub data Expressions : Type 0 where
    none : Expressions
    and : (first : Expression) (rest : Expressions) → Expressions

abbrev mutual
  -- what an expression is without its pointers
  pub expression : Expr → Expression
  expression (Constant line value form) = constant line value form
  expression (Null line) = null line
  expression (Text line) = text line
  expression (Object' line name i) = object line name (index i)
  expression (Address' line at name i) = address line at name (index i)
  expression (Paren' line p inner) = paren line (expression inner)
  expression (Unary' line op p of) = unary line op (expression of)
  expression (Cast' line to p of) = cast line to (expression of)
  expression (Binary' line op p left q right) = binary line op (expression left) (expression right)
  expression (Choose' line p test q first r second) = choose line (expression test) (expression first) (expression second)
  expression (Assign' line op at name i p value) = assign line op at name (index i) (expression value)
  expression (Step' line at name i up before) = step line at name (index i) up before
  expression (Call' line name shape args) = call line name (expressions args)

  -- what an index is
  pub index : Held-Target-index → Index
  index None' = whole
  index (Some' p i) = element (expression i)

  -- what the expressions of a row are
  pub expressions : {m : _} → Row_of-Expr m → Expressions
  expressions end_of-Expr = none
  expressions (more_of-Expr e rest) = and (expression e) (expressions rest)

-- what the index of an object that stands by itself is
abbrev pub index_of : Option (Box Expr Global) → Index
index_of None = whole
index_of (Some e) = element (expression e.value)

-- expressions in a list
abbrev pub expressions_of : List Expression → Expressions
expressions_of [] = none
expressions_of (e ∷ rest) = and e (expressions_of rest)

-- ---- declarations (C99 6.7)

-- The initializer of an object (C99 6.7.8): none, a value, a list of values with or without a comma behind the
-- last, or that of a mutex or of a condition.
pub data Initializer : Type 0 where
  nothing : Initializer
  single : (of : Expression) → Initializer
  listed : (values : Expressions) (comma : Bool) → Initializer
  mutex : Initializer
  cond : Initializer

-- One declared object, with its length where it is an array (C99 6.7.5).
pub record InitDeclarator : Type 0 where
  pub line : ℕ
  pub name : ℕ
  pub length : Option Expression
  pub first : Initializer

-- A declaration of objects of one type.
pub record Declaration : Type 0 where
  pub line : ℕ
  pub base : TypeName
  pub declarators : List InitDeclarator

-- what an initializer is without its pointers
abbrev pub initializer : First → Initializer
initializer first.Nothing = nothing
initializer (first.Value e) = single (expression e)
initializer (first.Listed values comma) = listed (expressions_of (map expression values.items)) comma
initializer first.Mutex = mutex
initializer first.Cond = cond

-- what a declarator is
abbrev pub init_declarator : Declarator → InitDeclarator
init_declarator d = record {
  line = d.line;
  name = d.name;
  length = option_map expression d.length;
  first = initializer d.first;
}

-- what a declaration is
abbrev pub declaration : Objects → Declaration
declaration o = record {
  line = o.line;
  base = o.base;
  declarators = map init_declarator o.declarators;
}

-- ---- statements (C99 6.8)

mutual
  -- A statement, or a declaration in its place.
  pub data Statement : Type 0 where
    empty : Statement
    eval : (value : Expression) → Statement
    block : (parts : Statements) → Statement
    declare : (of : Declaration) → Statement
    when : (line : ℕ) (test : Expression) (first : Statement) (second : Branch) → Statement
    while : (line : ℕ) (test : Expression) (body : Statement) → Statement
    do_while : (line : ℕ) (body : Statement) (test : Expression) → Statement
    for : (line : ℕ) (first : Statement) (test change : Option Expression) (body : Statement) → Statement
    break : (line : ℕ) → Statement
    continue : (line : ℕ) → Statement
    return : (line : ℕ) (value : Option Expression) → Statement
    label : (name : ℕ) (of : Statement) → Statement

  -- What stands behind `else`, if anything.
  pub data Branch : Type 0 where
    absent : Branch
    branch : (of : Statement) → Branch

  -- Statements in the order of the text.
  pub data Statements : Type 0 where
    nil : Statements
    cons : (first : Statement) (rest : Statements) → Statements

abbrev mutual
  -- what a statement is without its pointers
  pub statement : Stmt → Statement
  statement Empty = empty
  statement (Eval e) = eval (expression e)
  statement (Block' shape parts) = block (statements parts)
  statement (Declare of) = declare (declaration of)
  statement (If' line test p first second) = when line (expression test) (statement first) (else_branch second)
  statement (While' line test p body) = while line (expression test) (statement body)
  statement (Do' line p body test) = do_while line (statement body) (expression test)
  statement (For' line p first test change q body) =
      for line (statement first) (option_map expression test) (option_map expression change) (statement body)
  statement (Break line) = break line
  statement (Continue line) = continue line
  statement (Return line e) = return line (option_map expression e)
  statement (Label' name p of) = label name (statement of)

  -- what a branch is
  pub else_branch : Held-Stmt-If-3 → Branch
  else_branch NoElse = absent
  else_branch (Else p s) = branch (statement s)

  -- what the statements of a row are
  pub statements : {m : _} → Row_of-Stmt m → Statements
  statements end_of-Stmt = nil
  statements (more_of-Stmt s rest) = cons (statement s) (statements rest)

-- what a branch that stands by itself is
abbrev pub branch_of : Option (Box Stmt Global) → Branch
branch_of None = absent
branch_of (Some s) = branch (statement s.value)

-- statements in a list
abbrev pub statements_of : List Statement → Statements
statements_of [] = nil
statements_of (s ∷ rest) = cons s (statements_of rest)

-- ---- external declarations (C99 6.9)

-- A declaration of objects at file scope, a function without its body, or one with it.
pub data ExternalDeclaration : Type 0 where
  objects : (hidden : Bool) (of : Declaration) → ExternalDeclaration
  prototype : (line : ℕ) (lead : Lead) (gives : TypeName) (name : ℕ) (params : List Param) (void_word : Bool) → ExternalDeclaration
  function : (line : ℕ) (hidden : Bool) (gives : TypeName) (name : ℕ) (params : List Param) (void_word : Bool) (body : Statement) → ExternalDeclaration

-- A whole file, with the bytes of its names by their numbers.
pub record TranslationUnit : Type 0 where
  pub externals : List ExternalDeclaration
  pub names : List (List ℕ)

-- what an external declaration is without its pointers
abbrev pub external_declaration : External → ExternalDeclaration
external_declaration (external.Objects hidden of) = objects hidden (declaration of)
external_declaration (external.Prototype line lead gives name params void_word) = prototype line lead gives name params void_word
external_declaration (external.Function line hidden gives name params void_word body) =
    function line hidden gives name params void_word (statement body)

-- what a program is
abbrev pub translation_unit : Program → TranslationUnit
translation_unit p = record { externals = map external_declaration p.externals; names = p.names }
