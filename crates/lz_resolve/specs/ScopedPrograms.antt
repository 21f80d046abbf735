-- Trusted: the program in which each name but a label's is replaced by what it means, with the kind of each expression, the numbers of all objects and the first words of the cells (C99 6.2.1, 6.7.8 and 6.9).
use Rattle.std.specs.Prelude.{ℕ, ◌-◌, false, List, [], ◌∷◌, ◌++◌, map, length, replicate, Option, Some, None, option_map, if◌then◌else◌}
use Rattle.lz_base.specs.declared.word.IntType.{IntType}
use Rattle.lz_base.specs.declared.word.IntType.TheVariants as kinds
use Rattle.lz_tree.specs.declared.expression.TypeName.{TypeName}
use Rattle.lz_tree.specs.declared.program.Param.{Param}
use Rattle.lz_tree.specs.declared.scoped.KnownName.TheVariants.{Abort}
use Rattle.lz_tree.specs.declared.scoped.Object.{Object}
use Rattle.lz_tree.specs.declared.scoped.Object.TheVariants.{Known}
use Rattle.lz_tree.specs.Trees.{Expression, constant, null, text, object, address, paren, unary, cast, binary, choose, assign, step, call, Index, whole, element, Expressions, none, and, Initializer, nothing, single, listed, mutex, cond, InitDeclarator, Declaration, Statement, empty, eval, block, declare, when, while, do_while, for, break, continue, return, label, Branch, absent, branch, Statements, nil, cons, ExternalDeclaration, objects, prototype, function, TranslationUnit}
use Rattle.lz_tree.specs.ScopedTrees as scoped
use Rattle.lz_tree.specs.ScopedTrees.{ScopedExpression, ScopedExpressions, ScopedIndex, Lvalue, ScopedInitializer, ScopedInitDeclarator, ScopedDeclaration, ScopedStatement, ScopedBranch, ScopedStatements, ScopedDefinition, ScopedProgram}
use Rattle.lz_scopes.specs.declared.constant.Word.{Word}
use Rattle.lz_scopes.specs.declared.names.Entry.{Entry}
use Rattle.lz_scopes.specs.declared.value_types.ValueType.{ValueType}
use Rattle.lz_scopes.specs.declared.value_types.ValueType.TheVariants.{Integer, Pointer}
use Rattle.lz_scopes.specs.ValueTypes.{value_type, kind_of, is_integer}
use Rattle.lz_scopes.specs.Constants.{elements, constant_value, word}
use Rattle.lz_scopes.specs.declared.place.Place.{Place}
use Rattle.lz_scopes.specs.Names.{nearest}
use Rattle.lz_scopes.specs.Scopes.{signatures, is_start_form, inside, inside_loop, behind, after, after_body, with_declarator, into_body, opening, after_external, object_from}
use Rattle.lz_scopes.specs.Files.{File, main_from, bare}
use Rattle.lz_scopes.specs.ExpressionTypes.{callee, type_of}

-- ---- expressions

-- the kind of a value, where it is one: a `void *` has the widest unsigned kind
abbrev pub value_kind : ValueType → Option IntType
value_kind (Integer kind) = Some kind
value_kind Pointer = Some kinds.Unsigned
value_kind _ = None

-- what stands for a name that means nothing, in a program that is refused
abbrev pub or_nothing : Option Object → Object
or_nothing None = Known Abort
or_nothing (Some o) = o

abbrev pub object_or : Option Entry → Option Object → Object
object_or None meant = or_nothing meant
object_or (Some e) meant = e.object

-- the kind of what a name names that is used as an object: a function has none
abbrev pub kind_if : Option Entry → Option IntType → Option IntType
kind_if None kind = None
kind_if (Some e) kind = kind

module _ (file : File) (place : Place) where
  -- what a name means: the nearest object, or the function or known name
  abbrev pub meant : ℕ → Object
  meant name = object_or (nearest place.names name) (callee file place name)

  abbrev pub kind_at : Expression → Option IntType
  kind_at e = value_kind (type_of file place e)

  unfoldable mutual
    -- the expression in which each name is what it means
    pub scope : Expression → ScopedExpression
    scope (constant line value form) = scoped.constant line value form (kind_at (constant line value form))
    scope (null line) = scoped.null line (kind_at (null line))
    scope (text line) = scoped.text line None
    scope (object line name index) =
        scoped.object (scoped.lvalue line (meant name) (scope_index index) false)
        (kind_if (nearest place.names name) (kind_at (object line name index)))
    scope (address line at name index) = scoped.address line (scoped.lvalue at (meant name) (scope_index index) false) None
    scope (paren line inner) = scoped.paren line (scope inner) (kind_at (paren line inner))
    scope (unary line op of) = scoped.unary line op (scope of) (kind_at (unary line op of))
    scope (cast line to of) = scoped.cast line to (scope of) (kind_at (cast line to of))
    scope (binary line op left right) = scoped.binary line op (scope left) (scope right) (kind_at (binary line op left right))
    scope (choose line test first second) =
        scoped.choose line (scope test) (scope first) (scope second) (kind_at (choose line test first second))
    scope (assign line op at name index value) =
        scoped.assign line op (scoped.lvalue at (meant name) (scope_index index) false) (scope value)
        (kind_at (assign line op at name index value))
    scope (step line at name index up before) =
        scoped.step line (scoped.lvalue at (meant name) (scope_index index) false) up before
        (kind_at (step line at name index up before))
    scope (call line name args) =
        scoped.call line (or_nothing (callee file place name)) (scope_all args) (kind_at (call line name args))

    pub scope_index : Index → ScopedIndex
    scope_index whole = scoped.whole
    scope_index (element e) = scoped.element (scope e)

    pub scope_all : Expressions → ScopedExpressions
    scope_all none = scoped.none
    scope_all (and e rest) = scoped.and (scope e) (scope_all rest)

  -- an initializer; that of a mutex or a condition stands at file scope alone
  abbrev pub scope_initializer : Initializer → ScopedInitializer
  scope_initializer nothing = scoped.nothing
  scope_initializer (single e) = scoped.single (scope e)
  scope_initializer (listed values comma) = scoped.listed (scope_all values)
  scope_initializer mutex = scoped.nothing
  scope_initializer cond = scoped.nothing

  -- an expression that may be left out
  abbrev pub scope_optional : Option Expression → Option ScopedExpression
  scope_optional e = option_map scope e

-- ---- declarations and statements

-- a declarator, with its length before it is declared and its initializer behind that
abbrev pub scope_declarator : File → Place → TypeName → InitDeclarator → ScopedInitDeclarator
scope_declarator file place base d = record {
  line = d.line;
  object = object_from place (value_type base) (elements d.length);
  length = scope_optional file place d.length;
  first = scope_initializer file (with_declarator place base d) d.first;
}

unfoldable pub scope_declarators : File → Place → TypeName → List InitDeclarator → List ScopedInitDeclarator
scope_declarators file place base [] = []
scope_declarators file place base (d ∷ rest) =
    scope_declarator file place base d ∷ scope_declarators file (with_declarator place base d) base rest

abbrev pub scope_declaration : File → Place → Declaration → ScopedDeclaration
scope_declaration file place d = record { line = d.line; declarators = scope_declarators file place d.base d.declarators }

module _ (file : File) where
  unfoldable mutual
    -- the statement in which each name but a label's is what it means
    pub scope_statement : Place → Statement → ScopedStatement
    scope_statement place empty = scoped.empty
    scope_statement place (eval value) = scoped.eval (scope file place value)
    scope_statement place (block parts) = scoped.block (scope_statements (inside place) parts)
    scope_statement place (declare of) = scoped.declare (scope_declaration file place of)
    scope_statement place (when line test first second) =
        scoped.when line (scope file place test) (scope_statement (inside place) first)
        (scope_branch (behind place (after (inside place) first)) second)
    scope_statement place (while line test body) =
        scoped.while line (scope file place test) (scope_statement (inside_loop place) body)
    scope_statement place (do_while line body test) =
        scoped.do_while line (scope_statement (inside_loop place) body)
        (scope file (behind place (after (inside_loop place) body)) test)
    scope_statement place (for line first test change body) =
        scoped.for line (scope_statement (inside place) first)
        (scope_optional file (after (inside place) first) test)
        (scope_optional file (after (inside place) first) change)
        (scope_statement (inside_loop (after (inside place) first)) body)
    scope_statement place (break line) = scoped.break line
    scope_statement place (continue line) = scoped.continue line
    scope_statement place (return line value) = scoped.return line (scope_optional file place value)
    scope_statement place (label name of) = scoped.label name (scope_statement place of)

    pub scope_branch : Place → Branch → ScopedBranch
    scope_branch place absent = scoped.absent
    scope_branch place (branch of) = scoped.branch (scope_statement (inside place) of)

    pub scope_statements : Place → Statements → ScopedStatements
    scope_statements place nil = scoped.nil
    scope_statements place (cons s rest) = scoped.cons (scope_statement place s) (scope_statements (after place s) rest)

  -- the body of a function, whose outermost block is in one scope with the parameters
  abbrev pub scope_body : Place → Statement → ScopedStatement
  scope_body place (block parts) = scoped.block (scope_statements place parts)
  scope_body place other = scope_statement place other

-- ---- functions

abbrev pub param_kinds : List Param → List IntType
param_kinds params = map (λ p. kind_of (value_type p.base)) params

-- a function with its body; it gives no value where its result is `void`
abbrev pub scope_function : File → Place → TypeName → ℕ → List Param → Statement → ScopedDefinition
scope_function file place gives name params body = record {
  start = is_start_form name gives params;
  locals = (after_body (into_body place gives name params) body).counts.locals;
  params = param_kinds params;
  gives = value_kind (value_type gives);
  body = scope_body file (into_body place gives name params) body;
}

abbrev pub scope_external : File → Place → ExternalDeclaration → List ScopedDefinition
scope_external file place (objects hidden of) = []
scope_external file place (prototype line lead gives name params void_word) = []
scope_external file place (function line hidden gives name params void_word body) =
    scope_function file place gives name params body ∷ []

-- the functions of external declarations in the order of the text
unfoldable pub scope_externals : File → Place → List ExternalDeclaration → List ScopedDefinition
scope_externals file place [] = []
scope_externals file place (e ∷ rest) = scope_external file place e ++ scope_externals file (after_external place e) rest

-- the place behind external declarations
unfoldable pub after_externals : Place → List ExternalDeclaration → Place
after_externals place [] = place
after_externals place (e ∷ rest) = after_externals (after_external place e) rest

-- ---- first words of cells

abbrev pub word_in : Option Word → ℕ
word_in None = 0
word_in (Some a) = word a.value

abbrev pub words_in : Expressions → List ℕ
words_in none = []
words_in (and e rest) = word_in (constant_value e) ∷ words_in rest

-- the first words of so many elements: those of the initializer, and 0 for each that it leaves out
abbrev pub first_words : ℕ → Initializer → List ℕ
first_words n (single e) = word_in (constant_value e) ∷ replicate (n - 1) 0
first_words n (listed values comma) = words_in values ++ replicate (n - length (words_in values)) 0
first_words n _ = replicate n 0

abbrev pub declarators_words : List InitDeclarator → List ℕ
declarators_words [] = []
declarators_words (d ∷ rest) = first_words (elements d.length) d.first ++ declarators_words rest

-- a declaration at file scope has cells where its objects are integers
abbrev pub declaration_words : Declaration → List ℕ
declaration_words d = if is_integer (value_type d.base) then declarators_words d.declarators else []

unfoldable pub cells_of : List ExternalDeclaration → List ℕ
cells_of [] = []
cells_of (objects hidden of ∷ rest) = declaration_words of ++ cells_of rest
cells_of (prototype line lead gives name params void_word ∷ rest) = cells_of rest
cells_of (function line hidden gives name params void_word body ∷ rest) = cells_of rest

-- ---- the program

abbrev pub or_zero : Option ℕ → ℕ
or_zero None = 0
or_zero (Some n) = n

-- the scoped program of a file
unfoldable pub scoped_of : TranslationUnit → ScopedProgram
scoped_of unit = record {
  cells = cells_of unit.externals;
  mutexes = (after_externals opening unit.externals).counts.mutexes;
  conds = (after_externals opening unit.externals).counts.conds;
  handles = (after_externals opening unit.externals).counts.handles;
  functions = scope_externals (bare unit) opening unit.externals;
  main = or_zero (main_from (bare unit) 0 (signatures unit.externals));
}
