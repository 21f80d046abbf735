-- Trusted: the list of all rules that a program breaks, in the order of the text: at each node its own ones by number, and then those of its parts from left to right.
-- It is read with what is known of the whole file.
use Rattle.std.specs.Prelude.{ℕ, nat_lt, Bool, true, false, not, ◌&&◌, ◌||◌, List, [], ◌∷◌, ◌++◌, map, length, Option, Some, None, is_some, if◌then◌else◌, slice_get}
use Rattle.lz_base.specs.Limits.{element_limit}
use Rattle.lz_tree.specs.declared.expression.TypeName.{TypeName}
use Rattle.lz_tree.specs.declared.expression.TypeName.TheVariants as types
use Rattle.lz_tree.specs.declared.program.Param.{Param}
use Rattle.lz_tree.specs.Trees.{Expression, constant, null, text, object, address, paren, unary, cast, binary, choose, assign, step, call, Index, whole, element, Expressions, none, and, Initializer, nothing, single, listed, mutex, cond, InitDeclarator, Declaration, Statement, empty, eval, block, declare, when, while, do_while, for, break, continue, return, label, Branch, absent, branch, Statements, nil, cons, ExternalDeclaration, objects, prototype, function}
use Rattle.lz_scopes.specs.declared.value_types.ValueType.{ValueType}
use Rattle.lz_scopes.specs.declared.value_types.Want.{Want}
use Rattle.lz_scopes.specs.declared.value_types.Want.TheVariants as wants
use Rattle.lz_scopes.specs.declared.fault.Fault.{Fault}
use Rattle.lz_scopes.specs.declared.fault.Rule.{Rule}
use Rattle.lz_scopes.specs.declared.fault.Rule.TheVariants.{DeclaredTwice, KnownNameTaken, TypeMisfit, BadLength, NotConstant, BadInitializer, OutsideLoop, BadReturn, NoMain, ThreadInThread, PointerOutsideStart, LocalMutex, ManyElements, RefusedType, OtherPrototype, TooHigh}
use Rattle.lz_scopes.specs.ValueTypes.{is_refused, value_type, are_one_type, are_one_list, is_pointer, is_nothing, is_thread, is_mutex, is_cond, is_lock, is_no_operand, want_of}
use Rattle.lz_scopes.specs.ValueTypes as values
use Rattle.lz_scopes.specs.Constants.{is_bad_length, is_constant_initializer, constant_value, length_in}
use Rattle.lz_scopes.specs.KnownNames.{is_taken}
use Rattle.lz_scopes.specs.declared.place.Place.{Place}
use Rattle.lz_scopes.specs.declared.signature.Signature.{Signature}
use Rattle.lz_scopes.specs.Scopes.{bases, is_start_form, named, is_outside, around, has_object, has_function, with_declarator, with_param, inside, inside_loop, behind, after, opening, into_body, into, with_function, after_external}
use Rattle.lz_scopes.specs.Files.{File, function_named, known_at, is_high, main_from}
use Rattle.lz_scopes.specs.ExpressionTypes.{has_index, misuse, callee, wants_of, further_want, first_want, rest_of, count, is_function_name, is_start_place, is_in_thread, type_at, type_of, choice_want, own}

-- the rules that are broken at a line
abbrev pub at : ℕ → List Rule → List Fault
at line rules = map (λ rule. record { line = line; rule = rule }) rules

-- ---- expressions

-- the line of an expression: that of its first token
abbrev pub line_of : Expression → ℕ
line_of (constant line value form) = line
line_of (null line) = line
line_of (text line) = line
line_of (object line name index) = line
line_of (address line at name index) = line
line_of (paren line inner) = line
line_of (unary line op of) = line
line_of (cast line to of) = line
line_of (binary line op left right) = line
line_of (choose line test first second) = line
line_of (assign line op at name index value) = line
line_of (step line at name index up before) = line
line_of (call line name args) = line

-- what a target breaks by itself
abbrev pub target : Place → Bool → ℕ → ℕ → Index → List Fault
target place assigned line name index = at line (misuse assigned (named place name) (has_index index))

module _ (file : File) (place : Place) where
  -- what a node breaks by itself
  abbrev pub node : Want → Expression → List Fault
  node want e = at (line_of e) (own file place want e)

  -- the name of a function where it is wanted is no object
  abbrev pub object_target : Want → ℕ → ℕ → Index → List Fault
  object_target want line name index =
      if is_start_place want && is_function_name file place (object line name index) then [] else target place false line name index

  unfoldable mutual
    -- the faults of an expression at a place that wants something of it
    pub faults : Want → Expression → List Fault
    faults want (constant line value form) = node want (constant line value form)
    faults want (null line) = node want (null line)
    faults want (text line) = node want (text line)
    faults want (object line name index) =
        node want (object line name index) ++ (object_target want line name index ++ index_faults index)
    faults want (address line at name index) =
        node want (address line at name index) ++ (target place false at name index ++ index_faults index)
    faults want (paren line inner) = node want (paren line inner) ++ faults wants.Unneeded inner
    faults want (unary line op of) = node want (unary line op of) ++ faults wants.Integer of
    faults want (cast line to of) = node want (cast line to of) ++ faults wants.Any of
    faults want (binary line op left right) =
        node want (binary line op left right) ++ (faults wants.Integer left ++ faults wants.Integer right)
    faults want (choose line test first second) =
        node want (choose line test first second)
        ++ (faults wants.Integer test
        ++ (faults (choice_want (type_of file place first) (type_of file place second)) first
        ++ faults (choice_want (type_of file place first) (type_of file place second)) second))
    faults want (assign line op at name index value) =
        node want (assign line op at name index value)
        ++ (target place true at name index ++ (index_faults index ++ faults (want_of (type_at place true name index)) value))
    faults want (step line at name index up before) =
        node want (step line at name index up before) ++ (target place true at name index ++ index_faults index)
    faults want (call line name args) =
        node want (call line name args)
        ++ all_faults (wants_of file (callee file place name)) (further_want (callee file place name)) args

    pub index_faults : Index → List Fault
    index_faults whole = []
    index_faults (element e) = faults wants.Integer e

    -- those of expressions at places with a want each, and one for the further ones
    pub all_faults : List Want → Want → Expressions → List Fault
    all_faults ws further none = []
    all_faults ws further (and e rest) = faults (first_want ws further) e ++ all_faults (rest_of ws) further rest

  -- those of an expression that may be left out
  abbrev pub optional_faults : Want → Option Expression → List Fault
  optional_faults want None = []
  optional_faults want (Some e) = faults want e

-- ---- declarations

-- the name may not be taken for an object, a parameter or a function with a body
abbrev pub takes_known : File → ℕ → Bool
takes_known file name = is_taken (known_at file name)

-- a function of the name stands in the same scope, as at file scope it may
abbrev pub meets_function : Place → ℕ → Bool
meets_function place name = is_outside place && has_function place name

abbrev pub is_over : Option ℕ → ℕ → Bool
is_over None n = false
is_over (Some most) n = nat_lt most n

-- an initializer whose form does not fit an object: a list on what is no array, or a longer one; a value on an array;
-- any value on an object for threads; and that of a mutex or a condition on anything but one of them
abbrev pub is_bad_initializer : ValueType → Option Expression → Initializer → Bool
is_bad_initializer of length nothing = false
is_bad_initializer of length (single e) = is_some length || is_no_operand of
is_bad_initializer of None (listed values comma) = true
is_bad_initializer of (Some e) (listed values comma) = is_over (length_in (constant_value e)) (count values) || is_no_operand of
is_bad_initializer of length mutex = is_some length || not (is_mutex of)
is_bad_initializer of length cond = is_some length || not (is_cond of)

module _ (file : File) (place : Place) where
  -- the rules that the name, the type and the length of a declarator break
  abbrev pub declared_rules : TypeName → InitDeclarator → List Rule
  declared_rules base d =
      values.when (has_object place d.name || meets_function place d.name) DeclaredTwice
      ++ (values.when (takes_known file d.name) KnownNameTaken
      ++ (values.when (is_nothing (value_type base) || is_pointer (value_type base)) TypeMisfit
      ++ values.when (is_bad_length d.length) BadLength))

  -- those that its initializer and its place break
  abbrev pub placed_rules : TypeName → InitDeclarator → List Rule
  placed_rules base d =
      values.when (is_outside place && not (is_constant_initializer d.first)) NotConstant
      ++ (values.when (is_bad_initializer (value_type base) d.length d.first) BadInitializer
      ++ (values.when (is_thread (value_type base) && is_in_thread file (around place)) ThreadInThread
      ++ (values.when (not (is_outside place) && is_lock (value_type base)) LocalMutex
      ++ values.when (is_outside place && nat_lt element_limit ((with_declarator place base d).counts.elements)) ManyElements)))

  -- the rules that a declarator breaks by itself
  abbrev pub declarator_rules : TypeName → InitDeclarator → List Rule
  declarator_rules base d = declared_rules base d ++ placed_rules base d

  -- the faults of an initializer's values
  abbrev pub initializer_faults : TypeName → Initializer → List Fault
  initializer_faults base nothing = []
  initializer_faults base (single e) = faults file place (want_of (value_type base)) e
  initializer_faults base (listed vs comma) = all_faults file place [] (want_of (value_type base)) vs
  initializer_faults base mutex = []
  initializer_faults base cond = []

  -- The faults of a declarator, of its length before it is declared, and of its initializer behind that.
  abbrev pub declarator_faults : TypeName → InitDeclarator → List Fault
  declarator_faults base d =
      at d.line (declarator_rules base d) ++ optional_faults file place wants.Integer d.length

-- the faults of a declarator and its parts
abbrev pub whole_declarator_faults : File → Place → TypeName → InitDeclarator → List Fault
whole_declarator_faults file place base d =
    declarator_faults file place base d ++ initializer_faults file (with_declarator place base d) base d.first

unfoldable pub declarators_faults : File → Place → TypeName → List InitDeclarator → List Fault
declarators_faults file place base [] = []
declarators_faults file place base (d ∷ rest) =
    whole_declarator_faults file place base d ++ declarators_faults file (with_declarator place base d) base rest

-- those of a declaration, whose type may be refused
abbrev pub declaration_faults : File → Place → Declaration → List Fault
declaration_faults file place d =
    at d.line (values.when (is_refused d.base) RefusedType) ++ declarators_faults file place d.base d.declarators

-- ---- statements

-- a `return` has a value in a function whose result is `void`, or none in one whose result is another type
abbrev pub is_bad_return : TypeName → Option Expression → Bool
is_bad_return gives None = not (is_nothing (value_type gives))
is_bad_return gives (Some e) = is_nothing (value_type gives)

module _ (file : File) where
  unfoldable mutual
    pub statement_faults : Place → Statement → List Fault
    statement_faults place empty = []
    statement_faults place (eval value) = faults file place wants.Unneeded value
    statement_faults place (block parts) = statements_faults (inside place) parts
    statement_faults place (declare of) = declaration_faults file place of
    statement_faults place (when line test first second) =
        faults file place wants.Integer test
        ++ (statement_faults (inside place) first ++ branch_faults (behind place (after (inside place) first)) second)
    statement_faults place (while line test body) =
        faults file place wants.Integer test ++ statement_faults (inside_loop place) body
    statement_faults place (do_while line body test) =
        statement_faults (inside_loop place) body
        ++ faults file (behind place (after (inside_loop place) body)) wants.Integer test
    statement_faults place (for line first test change body) =
        statement_faults (inside place) first
        ++ (optional_faults file (after (inside place) first) wants.Integer test
        ++ (optional_faults file (after (inside place) first) wants.Unneeded change
        ++ statement_faults (inside_loop (after (inside place) first)) body))
    statement_faults place (break line) = at line (values.when (not place.in_loop) OutsideLoop)
    statement_faults place (continue line) = at line (values.when (not place.in_loop) OutsideLoop)
    statement_faults place (return line value) =
        at line (values.when (is_bad_return place.gives value) BadReturn)
        ++ optional_faults file place (want_of (value_type place.gives)) value
    statement_faults place (label name of) = statement_faults place of

    pub branch_faults : Place → Branch → List Fault
    branch_faults place absent = []
    branch_faults place (branch of) = statement_faults (inside place) of

    pub statements_faults : Place → Statements → List Fault
    statements_faults place nil = []
    statements_faults place (cons s rest) = statement_faults place s ++ statements_faults (after place s) rest

  -- the faults of a function's body, whose outermost block is in one scope with the parameters
  abbrev pub body_faults : Place → Statement → List Fault
  body_faults place (block parts) = statements_faults place parts
  body_faults place other = statement_faults place other

-- ---- parameters

-- an object of the parameter's name is declared before in the same scope
abbrev pub is_repeated : Place → Option ℕ → Bool
is_repeated place None = false
is_repeated place (Some name) = has_object place name

-- the parameter's name may not be taken
abbrev pub takes_known_if : File → Option ℕ → Bool
takes_known_if file None = false
takes_known_if file (Some name) = takes_known file name

-- the rules that a parameter breaks by itself, in a function that has the form of a start routine or not
abbrev pub param_rules : File → Place → Bool → Param → List Rule
param_rules file place start p =
    values.when (is_repeated place p.name) DeclaredTwice
    ++ (values.when (takes_known_if file p.name) KnownNameTaken
    ++ (values.when (is_nothing (value_type p.base) || is_thread (value_type p.base)) TypeMisfit
    ++ (values.when (is_pointer (value_type p.base) && not start) PointerOutsideStart
    ++ (values.when (is_lock (value_type p.base)) LocalMutex
    ++ values.when (is_refused p.base) RefusedType))))

unfoldable pub params_faults : File → Place → Bool → List Param → List Fault
params_faults file place start [] = []
params_faults file place start (p ∷ rest) =
    at p.line (param_rules file place start p) ++ params_faults file (with_param place p.base p.name) start rest

-- ---- external declarations

-- A prototype differs from the definition of its name, if there is one: in the type of its result, or in those of its
-- parameters, one by one; but where it has no parameter and its list does not say `void`, any parameters fit.
abbrev pub is_other : TypeName → List TypeName → Bool → Option Signature → Bool
is_other gives params void_word None = false
is_other gives params void_word (Some f) =
    not (are_one_type gives f.gives) || not (is_left_out params void_word || are_one_list params f.params)
  where
    is_left_out : List TypeName → Bool → Bool
    is_left_out [] said = not said
    is_left_out (p ∷ rest) said = false

abbrev pub signature_at : List Signature → Option ℕ → Option Signature
signature_at functions None = None
signature_at functions (Some n) = slice_get functions n

-- the definition of a name
abbrev pub definition : File → ℕ → Option Signature
definition file name = signature_at file.functions (function_named file.functions name)

-- a function of the name is defined before the one with this number
abbrev pub is_defined_before : Option ℕ → ℕ → Bool
is_defined_before None n = false
is_defined_before (Some m) n = nat_lt m n

-- the rules that a prototype breaks by itself; one of a known name fits always
abbrev pub prototype_rules : File → Place → TypeName → ℕ → List Param → Bool → List Rule
prototype_rules file place gives name params void_word =
    values.when (has_object place name) DeclaredTwice
    ++ (values.when (is_no_operand (value_type gives)) TypeMisfit
    ++ (values.when (is_pointer (value_type gives) && not (is_start_form name gives params)) PointerOutsideStart
    ++ (values.when (is_refused gives) RefusedType
    ++ values.when (not (is_some (known_at file name)) && is_other gives (bases params) void_word (definition file name)) OtherPrototype)))

-- the rules that a function with a body breaks by itself
abbrev pub function_rules : File → Place → TypeName → ℕ → List Param → List Rule
function_rules file place gives name params =
    values.when (has_object place name || is_defined_before (function_named file.functions name) place.function) DeclaredTwice
    ++ (values.when (takes_known file name) KnownNameTaken
    ++ (values.when (is_no_operand (value_type gives)) TypeMisfit
    ++ (values.when (is_pointer (value_type gives) && not (is_start_form name gives params)) PointerOutsideStart
    ++ (values.when (is_refused gives) RefusedType
    ++ values.when (is_high file place.function) TooHigh))))

-- the faults of an external declaration
unfoldable pub external_faults : File → Place → ExternalDeclaration → List Fault
external_faults file place (objects hidden of) = declaration_faults file place of
external_faults file place (prototype line lead gives name params void_word) =
    at line (prototype_rules file place gives name params void_word)
    ++ params_faults file (into (with_function place name) gives) (is_start_form name gives params) params
external_faults file place (function line hidden gives name params void_word body) =
    at line (function_rules file place gives name params)
    ++ (params_faults file (into (with_function place name) gives) (is_start_form name gives params) params
    ++ body_faults file (into_body place gives name params) body)

-- those of external declarations in the order of the text
unfoldable pub externals_faults : File → Place → List ExternalDeclaration → List Fault
externals_faults file place [] = []
externals_faults file place (e ∷ rest) = external_faults file place e ++ externals_faults file (after_external place e) rest

-- ---- the whole file

-- a function is `int main(void)`
abbrev pub is_right_main : File → Signature → Bool
is_right_main file f = are_one_type f.gives types_int && has_none f.params
  where
    has_none : List TypeName → Bool
    has_none [] = true
    has_none (p ∷ rest) = false

    types_int : TypeName
    types_int = types.Int

abbrev pub main_in : File → Option Signature → Bool
main_in file None = false
main_in file (Some f) = is_right_main file f

-- the file defines `int main(void)`
abbrev pub has_main : File → Bool
has_main file = main_in file (signature_at file.functions (main_from file 0 file.functions))

-- All faults of the external declarations of a file, in order.
unfoldable pub file_faults : File → List ExternalDeclaration → List Fault
file_faults file externals =
    externals_faults file opening externals ++ at 0 (values.when (not (has_main file)) NoMain)
