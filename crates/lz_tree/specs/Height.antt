-- Trusted: how high a tree is: 1 for a node without subnodes, and otherwise 1 more than its highest subnode.
use Rattle.std.specs.Prelude.{ℕ, suc, max, List, [], ◌∷◌, Option, Some, None}
use Rattle.lz_tree.specs.Trees.{Expression, constant, null, text, object, address, paren, unary, cast, binary, choose, assign, step, call, Index, whole, element, Expressions, none, and, Initializer, nothing, single, listed, mutex, cond, InitDeclarator, Declaration, Statement, empty, eval, block, declare, when, while, do_while, for, break, continue, return, label, Branch, absent, branch, Statements, nil, cons, ExternalDeclaration, objects, prototype, function, TranslationUnit}

-- the greatest number of a list of things that have one, or 0
abbrev pub greatest : {A : Type 0} → (A → ℕ) → List A → ℕ
greatest f [] = 0
greatest f (x ∷ rest) = max (f x) (greatest f rest)

abbrev mutual
  pub expression_height : Expression → ℕ
  expression_height (constant line value form) = 1
  expression_height (null line) = 1
  expression_height (text line) = 1
  expression_height (object line name index) = suc (index_height index)
  expression_height (address line at name index) = suc (index_height index)
  expression_height (paren line e) = suc (expression_height e)
  expression_height (unary line op e) = suc (expression_height e)
  expression_height (cast line to e) = suc (expression_height e)
  expression_height (binary line op l r) = suc (max (expression_height l) (expression_height r))
  expression_height (choose line a b c) = suc (max (expression_height a) (max (expression_height b) (expression_height c)))
  expression_height (assign line op at name index e) = suc (max (index_height index) (expression_height e))
  expression_height (step line at name index up before) = suc (index_height index)
  expression_height (call line name args) = suc (highest args)

  -- an index counts as part of the node that has it
  pub index_height : Index → ℕ
  index_height whole = 0
  index_height (element e) = expression_height e

  -- the height of the highest expression, or 0
  pub highest : Expressions → ℕ
  highest none = 0
  highest (and e rest) = max (expression_height e) (highest rest)

abbrev pub optional_height : Option Expression → ℕ
optional_height None = 0
optional_height (Some e) = expression_height e

-- a list of initializers is a node over its values
abbrev pub initializer_height : Initializer → ℕ
initializer_height nothing = 0
initializer_height (single e) = expression_height e
initializer_height (listed values comma) = suc (highest values)
initializer_height mutex = 0
initializer_height cond = 0

abbrev pub declarator_height : InitDeclarator → ℕ
declarator_height d = max (optional_height d.length) (initializer_height d.first)

-- a declaration is no node: what its declarators hold
abbrev pub declaration_height : Declaration → ℕ
declaration_height d = greatest declarator_height d.declarators

abbrev mutual
  pub statement_height : Statement → ℕ
  statement_height empty = 1
  statement_height (eval e) = suc (expression_height e)
  statement_height (block parts) = suc (parts_height parts)
  statement_height (declare of) = suc (declaration_height of)
  statement_height (when line test first second) = suc (max (expression_height test) (max (statement_height first) (branch_height second)))
  statement_height (while line test body) = suc (max (expression_height test) (statement_height body))
  statement_height (do_while line body test) = suc (max (statement_height body) (expression_height test))
  statement_height (for line first test change body) =
      suc (max (statement_height first) (max (optional_height test) (max (optional_height change) (statement_height body))))
  statement_height (break line) = 1
  statement_height (continue line) = 1
  statement_height (return line e) = suc (optional_height e)
  statement_height (label name of) = suc (statement_height of)

  pub branch_height : Branch → ℕ
  branch_height absent = 0
  branch_height (branch s) = statement_height s

  -- the height of the highest statement, or 0
  pub parts_height : Statements → ℕ
  parts_height nil = 0
  parts_height (cons s rest) = max (statement_height s) (parts_height rest)

-- an external declaration is no node; the body of a function is one
abbrev pub external_height : ExternalDeclaration → ℕ
external_height (objects hidden of) = declaration_height of
external_height (prototype line lead gives name params void_word) = 0
external_height (function line hidden gives name params void_word body) = statement_height body

-- the height of the highest node, or 0 where there is none
abbrev pub height : TranslationUnit → ℕ
height u = greatest external_height u.externals
