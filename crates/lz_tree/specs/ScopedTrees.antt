-- Trusted: the trees of a program whose names are what they mean, as definitions read them, without pointers and capacities.
use Rattle.std.specs.Prelude.{ℕ, Bool, false, List, [], ◌∷◌, map, Option, Some, None, option_map, slice_index_or, Box}
use Rattle.std.specs.declared.alloc.Global.{Global}
use Rattle.lz_base.specs.declared.operator.Unary.{Unary}
use Rattle.lz_base.specs.declared.operator.Binary.{Binary}
use Rattle.lz_base.specs.declared.word.IntType.{IntType}
use Rattle.lz_tree.specs.declared.token.Form.{Form}
use Rattle.lz_tree.specs.declared.expression.TypeName.{TypeName}
use Rattle.lz_tree.specs.declared.scoped.Object.{Object}
use Rattle.lz_tree.specs.declared.scoped.ScopedTarget.{ScopedTarget}
use Rattle.lz_tree.specs.declared.scoped.ScopedExpr.{ScopedExpr, Constant, Null, Text, Object', Address', Paren', Unary', Cast', Binary', Choose', Assign', Step', Call', Row_of-ScopedExpr, end_of-ScopedExpr, more_of-ScopedExpr, Held-ScopedTarget-index, None', Some'}
use Rattle.lz_tree.specs.declared.scoped.ScopedStmt.{ScopedStmt, Empty, Eval, Block', Declare, If', While', Do', For', Break, Continue, Return, Label', Held-ScopedStmt-If-3, None' as NoElse, Some' as Else, Row_of-ScopedStmt, end_of-ScopedStmt, more_of-ScopedStmt}
use Rattle.lz_tree.specs.declared.scoped.ScopedObjects.{ScopedObjects}
use Rattle.lz_tree.specs.declared.scoped.ScopedDeclarator.{ScopedDeclarator}
use Rattle.lz_tree.specs.declared.scoped.ScopedFirst.{ScopedFirst}
use Rattle.lz_tree.specs.declared.scoped.ScopedFirst.TheVariants as first
use Rattle.lz_tree.specs.declared.scoped.ScopedFunction.{ScopedFunction}
use Rattle.lz_tree.specs.declared.scoped.Scoped.{Scoped}

-- ---- expressions (C99 6.5)

mutual
  -- An expression, with the kind of its value, which is none where it has no value.
  pub data ScopedExpression : Type 0 where
    constant : (line value : ℕ) (form : Form) (kind : Option IntType) → ScopedExpression
    null : (line : ℕ) (kind : Option IntType) → ScopedExpression
    text : (line : ℕ) (kind : Option IntType) → ScopedExpression
    object : (of : Lvalue) (kind : Option IntType) → ScopedExpression
    address : (line : ℕ) (of : Lvalue) (kind : Option IntType) → ScopedExpression
    paren : (line : ℕ) (inner : ScopedExpression) (kind : Option IntType) → ScopedExpression
    unary : (line : ℕ) (op : Unary) (of : ScopedExpression) (kind : Option IntType) → ScopedExpression
    cast : (line : ℕ) (to : TypeName) (of : ScopedExpression) (kind : Option IntType) → ScopedExpression
    binary : (line : ℕ) (op : Binary) (left right : ScopedExpression) (kind : Option IntType) → ScopedExpression
    choose : (line : ℕ) (test first second : ScopedExpression) (kind : Option IntType) → ScopedExpression
    assign : (line : ℕ) (op : Option Binary) (to : Lvalue) (value : ScopedExpression) (kind : Option IntType) → ScopedExpression
    step : (line : ℕ) (of : Lvalue) (up before : Bool) (kind : Option IntType) → ScopedExpression
    call : (line : ℕ) (callee : Object) (args : ScopedExpressions) (kind : Option IntType) → ScopedExpression

  -- What is read or written (C99 6.3.2.1): an object as a whole, or an element of it. Where `checked` is true its
  -- index was tested before, and nothing checks it here.
  pub data Lvalue : Type 0 where
    lvalue : (line : ℕ) (meant : Object) (index : ScopedIndex) (checked : Bool) → Lvalue

  -- The index of an object: none, or that of an element.
  pub data ScopedIndex : Type 0 where
    whole : ScopedIndex
    element : (index : ScopedExpression) → ScopedIndex

  -- Expressions in the order of the text.
  pub data ScopedExpressions : Type 0 where
    none : ScopedExpressions
    and : (first : ScopedExpression) (rest : ScopedExpressions) → ScopedExpressions

abbrev mutual
  -- what an expression is without its pointers
  pub scoped_expression : ScopedExpr → ScopedExpression
  scoped_expression (Constant line value form kind) = constant line value form kind
  scoped_expression (Null line kind) = null line kind
  scoped_expression (Text line kind) = text line kind
  scoped_expression (Object' at meant i checked kind) = object (lvalue at meant (scoped_index i) checked) kind
  scoped_expression (Address' line at meant i checked kind) = address line (lvalue at meant (scoped_index i) checked) kind
  scoped_expression (Paren' line p inner kind) = paren line (scoped_expression inner) kind
  scoped_expression (Unary' line op p of kind) = unary line op (scoped_expression of) kind
  scoped_expression (Cast' line to p of kind) = cast line to (scoped_expression of) kind
  scoped_expression (Binary' line op p left q right kind) = binary line op (scoped_expression left) (scoped_expression right) kind
  scoped_expression (Choose' line p test q first r second kind) =
      choose line (scoped_expression test) (scoped_expression first) (scoped_expression second) kind
  scoped_expression (Assign' line op at meant i checked p value kind) =
      assign line op (lvalue at meant (scoped_index i) checked) (scoped_expression value) kind
  scoped_expression (Step' line at meant i checked up before kind) = step line (lvalue at meant (scoped_index i) checked) up before kind
  scoped_expression (Call' line callee shape args kind) = call line callee (scoped_expressions args) kind

  -- what an index is
  pub scoped_index : Held-ScopedTarget-index → ScopedIndex
  scoped_index None' = whole
  scoped_index (Some' p i) = element (scoped_expression i)

  -- what the expressions of a row are
  pub scoped_expressions : {m : _} → Row_of-ScopedExpr m → ScopedExpressions
  scoped_expressions end_of-ScopedExpr = none
  scoped_expressions (more_of-ScopedExpr e rest) = and (scoped_expression e) (scoped_expressions rest)

-- what the index of an object that stands by itself is
abbrev pub scoped_index_of : Option (Box ScopedExpr Global) → ScopedIndex
scoped_index_of None = whole
scoped_index_of (Some e) = element (scoped_expression e.value)

-- what a target is
abbrev pub scoped_target : ScopedTarget → Lvalue
scoped_target t = lvalue t.line t.object (scoped_index_of t.index) t.checked

-- expressions in a list
abbrev pub scoped_expressions_of : List ScopedExpression → ScopedExpressions
scoped_expressions_of [] = none
scoped_expressions_of (e ∷ rest) = and e (scoped_expressions_of rest)

-- ---- declarations (C99 6.7)

-- The initializer of an object (C99 6.7.8): none, a value, or a list of values.
pub data ScopedInitializer : Type 0 where
  nothing : ScopedInitializer
  single : (of : ScopedExpression) → ScopedInitializer
  listed : (values : ScopedExpressions) → ScopedInitializer

-- One declared object, with the expression of its length where it is an array (C99 6.7.5).
pub record ScopedInitDeclarator : Type 0 where
  pub line : ℕ
  pub object : Object
  pub length : Option ScopedExpression
  pub first : ScopedInitializer

-- A declaration of objects of one type.
pub record ScopedDeclaration : Type 0 where
  pub line : ℕ
  pub declarators : List ScopedInitDeclarator

-- what an initializer is without its pointers
abbrev pub scoped_initializer : ScopedFirst → ScopedInitializer
scoped_initializer first.Nothing = nothing
scoped_initializer (first.Value e) = single (scoped_expression e)
scoped_initializer (first.Listed values) = listed (scoped_expressions_of (map scoped_expression values.items))

-- what a declarator is
abbrev pub scoped_declarator : ScopedDeclarator → ScopedInitDeclarator
scoped_declarator d = record {
  line = d.line;
  object = d.object;
  length = option_map scoped_expression d.length;
  first = scoped_initializer d.first;
}

-- what a declaration is
abbrev pub scoped_declaration : ScopedObjects → ScopedDeclaration
scoped_declaration o = record { line = o.line; declarators = map scoped_declarator o.declarators }

-- ---- statements (C99 6.8)

mutual
  -- A statement, or a declaration in its place.
  pub data ScopedStatement : Type 0 where
    empty : ScopedStatement
    eval : (value : ScopedExpression) → ScopedStatement
    block : (parts : ScopedStatements) → ScopedStatement
    declare : (of : ScopedDeclaration) → ScopedStatement
    when : (line : ℕ) (test : ScopedExpression) (first : ScopedStatement) (second : ScopedBranch) → ScopedStatement
    while : (line : ℕ) (test : ScopedExpression) (body : ScopedStatement) → ScopedStatement
    do_while : (line : ℕ) (body : ScopedStatement) (test : ScopedExpression) → ScopedStatement
    for : (line : ℕ) (first : ScopedStatement) (test change : Option ScopedExpression) (body : ScopedStatement) → ScopedStatement
    break : (line : ℕ) → ScopedStatement
    continue : (line : ℕ) → ScopedStatement
    return : (line : ℕ) (value : Option ScopedExpression) → ScopedStatement
    label : (name : ℕ) (of : ScopedStatement) → ScopedStatement

  -- What stands behind `else`, if anything.
  pub data ScopedBranch : Type 0 where
    absent : ScopedBranch
    branch : (of : ScopedStatement) → ScopedBranch

  -- Statements in the order of the text.
  pub data ScopedStatements : Type 0 where
    nil : ScopedStatements
    cons : (first : ScopedStatement) (rest : ScopedStatements) → ScopedStatements

abbrev mutual
  -- what a statement is without its pointers
  pub scoped_statement : ScopedStmt → ScopedStatement
  scoped_statement Empty = empty
  scoped_statement (Eval e) = eval (scoped_expression e)
  scoped_statement (Block' shape parts) = block (scoped_statements parts)
  scoped_statement (Declare of) = declare (scoped_declaration of)
  scoped_statement (If' line test p first second) =
      when line (scoped_expression test) (scoped_statement first) (scoped_else_branch second)
  scoped_statement (While' line test p body) = while line (scoped_expression test) (scoped_statement body)
  scoped_statement (Do' line p body test) = do_while line (scoped_statement body) (scoped_expression test)
  scoped_statement (For' line p first test change q body) =
      for line (scoped_statement first) (option_map scoped_expression test) (option_map scoped_expression change) (scoped_statement body)
  scoped_statement (Break line) = break line
  scoped_statement (Continue line) = continue line
  scoped_statement (Return line e) = return line (option_map scoped_expression e)
  scoped_statement (Label' name p of) = label name (scoped_statement of)

  -- what a branch is
  pub scoped_else_branch : Held-ScopedStmt-If-3 → ScopedBranch
  scoped_else_branch NoElse = absent
  scoped_else_branch (Else p s) = branch (scoped_statement s)

  -- what the statements of a row are
  pub scoped_statements : {m : _} → Row_of-ScopedStmt m → ScopedStatements
  scoped_statements end_of-ScopedStmt = nil
  scoped_statements (more_of-ScopedStmt s rest) = cons (scoped_statement s) (scoped_statements rest)

-- what a branch that stands by itself is
abbrev pub scoped_branch_of : Option (Box ScopedStmt Global) → ScopedBranch
scoped_branch_of None = absent
scoped_branch_of (Some s) = branch (scoped_statement s.value)

-- statements in a list
abbrev pub scoped_statements_of : List ScopedStatement → ScopedStatements
scoped_statements_of [] = nil
scoped_statements_of (s ∷ rest) = cons s (scoped_statements_of rest)

-- ---- functions and the program (C99 6.9)

-- A function: whether it is of the form `void *f(void *a)`, the number of its locals, the kinds of its
-- parameters, that of its result, which is none where it gives no value, and its body.
pub record ScopedDefinition : Type 0 where
  pub start : Bool
  pub locals : ℕ
  pub params : List IntType
  pub gives : Option IntType
  pub body : ScopedStatement

-- A program: the first value of each cell, the numbers of mutexes, conditions and thread objects, the functions,
-- and the number of `main`.
pub record ScopedProgram : Type 0 where
  pub cells : List ℕ
  pub mutexes : ℕ
  pub conds : ℕ
  pub handles : ℕ
  pub functions : List ScopedDefinition
  pub main : ℕ

-- the function of this number
abbrev pub function_at : ScopedProgram → ℕ → ScopedDefinition
function_at p function =
    slice_index_or p.functions function (record { start = false; locals = 0; params = []; gives = None; body = empty })

-- what a function is without its pointers
abbrev pub scoped_definition : ScopedFunction → ScopedDefinition
scoped_definition f = record {
  start = f.start;
  locals = f.locals;
  params = f.params;
  gives = f.gives;
  body = scoped_statement f.body;
}

-- what a program is
abbrev pub scoped_program : Scoped → ScopedProgram
scoped_program p = record {
  cells = p.cells;
  mutexes = p.mutexes;
  conds = p.conds;
  handles = p.handles;
  functions = map scoped_definition p.functions;
  main = p.main;
}
