-- Small programs, each with the list of all rules that it breaks: lines and numbers in order.
use Rattle.std.proofs.Common.{◌≡◌, ℕ, List, [], ◌∷◌, map, codes, Bool, true, false, Option, Some, None, refl}
use Rattle.lz_base.specs.declared.operator.Binary.TheVariants as ops
use Rattle.lz_tree.specs.declared.token.Form.{Form}
use Rattle.lz_tree.specs.declared.expression.TypeName.{TypeName}
use Rattle.lz_tree.specs.declared.expression.TypeName.TheVariants as types
use Rattle.lz_tree.specs.declared.program.Param.{Param}
use Rattle.lz_tree.specs.declared.program.Lead.TheVariants as leads
use Rattle.lz_tree.specs.Trees.{Expression, constant, null, text, object, address, paren, cast, binary, choose, assign, step, call, whole, element, none, and, Initializer, nothing, single, listed, mutex, cond, InitDeclarator, Declaration, empty, eval, block, declare, when, while, do_while, for, break, continue, return, label, absent, branch, nil, cons, ExternalDeclaration, objects, prototype, function, TranslationUnit}
use Rattle.lz_scopes.specs.ValueTypes.{are_one_type}
use Rattle.lz_scopes.specs.Constants.{constant_value}
use Rattle.lz_scopes.specs.KnownNames.{known, known_names}
use Rattle.lz_scopes.specs.Scopes.{after, after_external}
use Rattle.lz_scopes.specs.ExpressionTypes.{type_of}
use Rattle.lz_types.specs.Faults.{faults, declarators_faults, statement_faults, params_faults, external_faults, externals_faults, file_faults}
use Rattle.lz_scopes.specs.Files.{Facts, file_with, no_facts}
use Rattle.lz_types.specs.Checking.{number_of}

abbrev form : Bool → Bool → ℕ → Form
form decimal unsigned longs = record { decimal = decimal; unsigned = unsigned; longs = longs }

abbrev declarator : ℕ → ℕ → Option Expression → Initializer → InitDeclarator
declarator line name len first = record { line = line; name = name; length = len; first = first }

abbrev declaration : ℕ → TypeName → List InitDeclarator → Declaration
declaration line base declarators = record { line = line; base = base; declarators = declarators }

abbrev param : ℕ → TypeName → Option ℕ → Param
param line base name = record { line = line; base = base; name = name }

-- A broken rule by its line and its number.
record Broken : Type 0 where
  line : ℕ
  number : ℕ

abbrev broken : ℕ → ℕ → Broken
broken line number = record { line = line; number = number }

-- the rules that a program breaks, with what is known of its functions
abbrev list_of : List ExternalDeclaration → List (List ℕ) → Facts → List Broken
list_of externals names facts =
    let unit : TranslationUnit = record { externals = externals; names = names } in
    map (λ f. broken f.line (number_of f.rule)) (file_faults (file_with unit facts) externals)

-- nothing is wrong
--     int main(void){}
pub accepted : list_of (function 1 false types.Int 0 ([]) true (block nil) ∷ []) (codes "main" ∷ []) (no_facts) ≡ []
unfolding are_one_type constant_value known known_names after after_external type_of faults declarators_faults statement_faults params_faults external_faults externals_faults file_faults file_with
accepted = refl

-- `main` is not there: the last fault, with line 0
--     int x;
pub no_main : list_of (objects false (declaration 1 types.Int (declarator 1 0 None nothing ∷ [])) ∷ []) (codes "x" ∷ []) (no_facts) ≡ broken 0 15 ∷ []
unfolding are_one_type constant_value known known_names after after_external type_of faults declarators_faults statement_faults params_faults external_faults externals_faults file_faults file_with
no_main = refl

-- an undeclared name, before a function that is none
--     int main(void) { return y + f(); }
pub undeclared : list_of (function 1 false types.Int 0 ([]) true (block (cons (return 1 (Some (binary 1 ops.Add (object 1 1 whole) (call 1 2 none)))) nil)) ∷ []) (codes "main" ∷ codes "y" ∷ codes "f" ∷ []) (no_facts) ≡ broken 1 1 ∷ broken 1 3 ∷ []
unfolding are_one_type constant_value known known_names after after_external type_of faults declarators_faults statement_faults params_faults external_faults externals_faults file_faults file_with
undeclared = refl

-- `break` outside a loop
--     int main(void) { break; }
pub outside_loop : list_of (function 1 false types.Int 0 ([]) true (block (cons (break 1) nil)) ∷ []) (codes "main" ∷ []) (no_facts) ≡ broken 1 12 ∷ []
unfolding are_one_type constant_value known known_names after after_external type_of faults declarators_faults statement_faults params_faults external_faults externals_faults file_faults file_with
outside_loop = refl

-- `long`
--     long x; int main(void){}
pub refused_long : list_of (objects false (declaration 1 types.Long (declarator 1 0 None nothing ∷ [])) ∷ function 1 false types.Int 1 ([]) true (block nil) ∷ []) (codes "x" ∷ codes "main" ∷ []) (no_facts) ≡ broken 1 24 ∷ []
unfolding are_one_type constant_value known known_names after after_external type_of faults declarators_faults statement_faults params_faults external_faults externals_faults file_faults file_with
refused_long = refl

-- a declarator stands before its own initializer, and not before its own length
--     int main(void) { int a = a; int b[b]; return a; }
pub own_initializer : list_of (function 1 false types.Int 0 ([]) true (block (cons (declare (declaration 1 types.Int (declarator 1 1 None (single (object 1 1 whole)) ∷ []))) (cons (declare (declaration 1 types.Int (declarator 1 2 (Some (object 1 2 whole)) nothing ∷ []))) (cons (return 1 (Some (object 1 1 whole))) nil)))) ∷ []) (codes "main" ∷ codes "a" ∷ codes "b" ∷ []) (no_facts) ≡ broken 1 8 ∷ broken 1 1 ∷ []
unfolding are_one_type constant_value known known_names after after_external type_of faults declarators_faults statement_faults params_faults external_faults externals_faults file_faults file_with
own_initializer = refl

-- an object is gone behind its scope
--     int main(void) { { int x = 0; } return x; }
pub scope_ended : list_of (function 1 false types.Int 0 ([]) true (block (cons (block (cons (declare (declaration 1 types.Int (declarator 1 1 None (single (constant 1 0 (form false false 0))) ∷ []))) nil)) (cons (return 1 (Some (object 1 1 whole))) nil))) ∷ []) (codes "main" ∷ codes "x" ∷ []) (no_facts) ≡ broken 1 1 ∷ []
unfolding are_one_type constant_value known known_names after after_external type_of faults declarators_faults statement_faults params_faults external_faults externals_faults file_faults file_with
scope_ended = refl

-- the head of a `for` is a scope around its body's, and both end with it
--     int main(void) { for (int i = 0; i < 3; i++) { int i = 1; i = i; } return i; }
pub loop_head : list_of (function 1 false types.Int 0 ([]) true (block (cons (for 1 (declare (declaration 1 types.Int (declarator 1 1 None (single (constant 1 0 (form false false 0))) ∷ []))) (Some (binary 1 ops.Lt (object 1 1 whole) (constant 1 3 (form true false 0)))) (Some (step 1 1 1 whole true false)) (block (cons (declare (declaration 1 types.Int (declarator 1 1 None (single (constant 1 1 (form true false 0))) ∷ []))) (cons (eval (assign 1 None 1 1 whole (object 1 1 whole))) nil)))) (cons (return 1 (Some (object 1 1 whole))) nil))) ∷ []) (codes "main" ∷ codes "i" ∷ []) (no_facts) ≡ broken 1 1 ∷ []
unfolding are_one_type constant_value known known_names after after_external type_of faults declarators_faults statement_faults params_faults external_faults externals_faults file_faults file_with
loop_head = refl

-- the body of an `if` is a scope of its own
--     int main(void) { if (1) int x = 0; return x; }
pub body_scope : list_of (function 1 false types.Int 0 ([]) true (block (cons (when 1 (constant 1 1 (form true false 0)) (declare (declaration 1 types.Int (declarator 1 1 None (single (constant 1 0 (form false false 0))) ∷ []))) absent) (cons (return 1 (Some (object 1 1 whole))) nil))) ∷ []) (codes "main" ∷ codes "x" ∷ []) (no_facts) ≡ broken 1 1 ∷ []
unfolding are_one_type constant_value known known_names after after_external type_of faults declarators_faults statement_faults params_faults external_faults externals_faults file_faults file_with
body_scope = refl

-- a labelled declaration belongs to the scope around it
--     int main(void) { here: int x = 0; return x; }
pub label_scope : list_of (function 1 false types.Int 0 ([]) true (block (cons (label 1 (declare (declaration 1 types.Int (declarator 1 2 None (single (constant 1 0 (form false false 0))) ∷ [])))) (cons (return 1 (Some (object 1 2 whole))) nil))) ∷ []) (codes "main" ∷ codes "here" ∷ codes "x" ∷ []) (no_facts) ≡ []
unfolding are_one_type constant_value known known_names after after_external type_of faults declarators_faults statement_faults params_faults external_faults externals_faults file_faults file_with
label_scope = refl

-- a function that is declared only later, as an object
--     int main(void) { return g; } int g(void) { return 0; }
pub later_function : list_of (function 1 false types.Int 0 ([]) true (block (cons (return 1 (Some (object 1 1 whole))) nil)) ∷ function 1 false types.Int 1 ([]) true (block (cons (return 1 (Some (constant 1 0 (form false false 0)))) nil)) ∷ []) (codes "main" ∷ codes "g" ∷ []) (no_facts) ≡ broken 1 1 ∷ []
unfolding are_one_type constant_value known known_names after after_external type_of faults declarators_faults statement_faults params_faults external_faults externals_faults file_faults file_with
later_function = refl

-- and one that is declared before
--     int g(void); int main(void) { return g; }
pub earlier_function : list_of (prototype 1 leads.Nothing types.Int 0 ([]) true ∷ function 1 false types.Int 1 ([]) true (block (cons (return 1 (Some (object 1 0 whole))) nil)) ∷ []) (codes "g" ∷ codes "main" ∷ []) (no_facts) ≡ broken 1 7 ∷ []
unfolding are_one_type constant_value known known_names after after_external type_of faults declarators_faults statement_faults params_faults external_faults externals_faults file_faults file_with
earlier_function = refl

-- a known name as an object
--     int main(void) { return abort; }
pub known_object : list_of (function 1 false types.Int 0 ([]) true (block (cons (return 1 (Some (object 1 1 whole))) nil)) ∷ []) (codes "main" ∷ codes "abort" ∷ []) (no_facts) ≡ broken 1 1 ∷ []
unfolding are_one_type constant_value known known_names after after_external type_of faults declarators_faults statement_faults params_faults external_faults externals_faults file_faults file_with
known_object = refl

-- a name twice in one scope, and once more in an inner one
--     int main(void) { int x; int x; { int x; } return 0; }
pub twice : list_of (function 1 false types.Int 0 ([]) true (block (cons (declare (declaration 1 types.Int (declarator 1 1 None nothing ∷ []))) (cons (declare (declaration 1 types.Int (declarator 1 1 None nothing ∷ []))) (cons (block (cons (declare (declaration 1 types.Int (declarator 1 1 None nothing ∷ []))) nil)) (cons (return 1 (Some (constant 1 0 (form false false 0)))) nil))))) ∷ []) (codes "main" ∷ codes "x" ∷ []) (no_facts) ≡ broken 1 2 ∷ []
unfolding are_one_type constant_value known known_names after after_external type_of faults declarators_faults statement_faults params_faults external_faults externals_faults file_faults file_with
twice = refl

-- parameters and the outermost block are one scope
--     int f(int a) {
--      int a;
--      { int a; }
--      return 0; }
--     int main(void){}
pub param_scope : list_of (function 1 false types.Int 0 (param 1 types.Int (Some 1) ∷ []) false (block (cons (declare (declaration 2 types.Int (declarator 2 1 None nothing ∷ []))) (cons (block (cons (declare (declaration 3 types.Int (declarator 3 1 None nothing ∷ []))) nil)) (cons (return 4 (Some (constant 4 0 (form false false 0)))) nil)))) ∷ function 5 false types.Int 2 ([]) true (block nil) ∷ []) (codes "f" ∷ codes "a" ∷ codes "main" ∷ []) (no_facts) ≡ broken 2 2 ∷ []
unfolding are_one_type constant_value known known_names after after_external type_of faults declarators_faults statement_faults params_faults external_faults externals_faults file_faults file_with
param_scope = refl

-- a parameter twice, in a prototype too
--     int f(int a, int a);
--     int main(void){}
pub param_twice : list_of (prototype 1 leads.Nothing types.Int 0 (param 1 types.Int (Some 1) ∷ param 1 types.Int (Some 1) ∷ []) false ∷ function 2 false types.Int 2 ([]) true (block nil) ∷ []) (codes "f" ∷ codes "a" ∷ codes "main" ∷ []) (no_facts) ≡ broken 1 2 ∷ []
unfolding are_one_type constant_value known known_names after after_external type_of faults declarators_faults statement_faults params_faults external_faults externals_faults file_faults file_with
param_twice = refl

-- prototypes may be repeated and stand beside one definition
--     int f(void);
--     int f(void);
--     int f(void) { return 0; }
--     int f(void);
--     int main(void){}
pub prototypes : list_of (prototype 1 leads.Nothing types.Int 0 ([]) true ∷ prototype 2 leads.Nothing types.Int 0 ([]) true ∷ function 3 false types.Int 0 ([]) true (block (cons (return 3 (Some (constant 3 0 (form false false 0)))) nil)) ∷ prototype 4 leads.Nothing types.Int 0 ([]) true ∷ function 5 false types.Int 1 ([]) true (block nil) ∷ []) (codes "f" ∷ codes "main" ∷ []) (no_facts) ≡ []
unfolding are_one_type constant_value known known_names after after_external type_of faults declarators_faults statement_faults params_faults external_faults externals_faults file_faults file_with
prototypes = refl

-- a second definition
--     int f(void) { return 0; }
--     int f(void) { return 1; }
--     int main(void){}
pub defined_twice : list_of (function 1 false types.Int 0 ([]) true (block (cons (return 1 (Some (constant 1 0 (form false false 0)))) nil)) ∷ function 2 false types.Int 0 ([]) true (block (cons (return 2 (Some (constant 2 1 (form true false 0)))) nil)) ∷ function 3 false types.Int 1 ([]) true (block nil) ∷ []) (codes "f" ∷ codes "main" ∷ []) (no_facts) ≡ broken 2 2 ∷ []
unfolding are_one_type constant_value known known_names after after_external type_of faults declarators_faults statement_faults params_faults external_faults externals_faults file_faults file_with
defined_twice = refl

-- an object and a function of one name
--     int f;
--     int f(void);
--     int g(void);
--     int g;
--     int main(void){}
pub object_and_function : list_of (objects false (declaration 1 types.Int (declarator 1 0 None nothing ∷ [])) ∷ prototype 2 leads.Nothing types.Int 0 ([]) true ∷ prototype 3 leads.Nothing types.Int 1 ([]) true ∷ objects false (declaration 4 types.Int (declarator 4 1 None nothing ∷ [])) ∷ function 5 false types.Int 2 ([]) true (block nil) ∷ []) (codes "f" ∷ codes "g" ∷ codes "main" ∷ []) (no_facts) ≡ broken 2 2 ∷ broken 4 2 ∷ []
unfolding are_one_type constant_value known known_names after after_external type_of faults declarators_faults statement_faults params_faults external_faults externals_faults file_faults file_with
object_and_function = refl

-- a call of an object, which hides the function
--     int f(void) { return 0; }
--     int main(void) { int f = 0;
--      return f(); }
pub object_called : list_of (function 1 false types.Int 0 ([]) true (block (cons (return 1 (Some (constant 1 0 (form false false 0)))) nil)) ∷ function 2 false types.Int 1 ([]) true (block (cons (declare (declaration 2 types.Int (declarator 2 0 None (single (constant 2 0 (form false false 0))) ∷ []))) (cons (return 3 (Some (call 3 0 none))) nil))) ∷ []) (codes "f" ∷ codes "main" ∷ []) (no_facts) ≡ broken 3 3 ∷ []
unfolding are_one_type constant_value known known_names after after_external type_of faults declarators_faults statement_faults params_faults external_faults externals_faults file_faults file_with
object_called = refl

-- a call of a function that is defined later
--     int main(void) { return g(1); } int g(int a) { return a; }
pub called_later : list_of (function 1 false types.Int 0 ([]) true (block (cons (return 1 (Some (call 1 1 (and (constant 1 1 (form true false 0)) none)))) nil)) ∷ function 1 false types.Int 1 (param 1 types.Int (Some 2) ∷ []) false (block (cons (return 1 (Some (object 1 2 whole))) nil)) ∷ []) (codes "main" ∷ codes "g" ∷ codes "a" ∷ []) (no_facts) ≡ []
unfolding are_one_type constant_value known known_names after after_external type_of faults declarators_faults statement_faults params_faults external_faults externals_faults file_faults file_with
called_later = refl

-- a function that is declared and not defined
--     int g(void);
--     int main(void) {
--      return g(); }
pub only_declared : list_of (prototype 1 leads.Nothing types.Int 0 ([]) true ∷ function 2 false types.Int 1 ([]) true (block (cons (return 3 (Some (call 3 0 none))) nil)) ∷ []) (codes "g" ∷ codes "main" ∷ []) (no_facts) ≡ broken 3 3 ∷ []
unfolding are_one_type constant_value known known_names after after_external type_of faults declarators_faults statement_faults params_faults external_faults externals_faults file_faults file_with
only_declared = refl

-- another number of arguments
--     int g(int a) { return a; }
--     int main(void) { assert(1);
--      g();
--      g(1, 2);
--      assert();
--      printf();
--      printf("a", 1, 2);
--      return 0; }
pub arguments : list_of (function 1 false types.Int 0 (param 1 types.Int (Some 1) ∷ []) false (block (cons (return 1 (Some (object 1 1 whole))) nil)) ∷ function 2 false types.Int 2 ([]) true (block (cons (eval (call 2 3 (and (constant 2 1 (form true false 0)) none))) (cons (eval (call 3 0 none)) (cons (eval (call 4 0 (and (constant 4 1 (form true false 0)) (and (constant 4 2 (form true false 0)) none)))) (cons (eval (call 5 3 none)) (cons (eval (call 6 4 none)) (cons (eval (call 7 4 (and (text 7) (and (constant 7 1 (form true false 0)) (and (constant 7 2 (form true false 0)) none))))) (cons (return 8 (Some (constant 8 0 (form false false 0)))) nil)))))))) ∷ []) (codes "g" ∷ codes "a" ∷ codes "main" ∷ codes "assert" ∷ codes "printf" ∷ []) (no_facts) ≡ broken 3 4 ∷ broken 4 4 ∷ broken 5 4 ∷ broken 6 4 ∷ []
unfolding are_one_type constant_value known known_names after after_external type_of faults declarators_faults statement_faults params_faults external_faults externals_faults file_faults file_with
arguments = refl

-- known names that a file takes
--     int printf;
--     int abort(void) { return 0; }
--     int f(int assert);
--     void abort(void);
--     int reach_error(void) { int reach_error = 0; return reach_error; }
--     int main(void) {
--      int pthread_join; return 0; }
pub known_taken : list_of (objects false (declaration 1 types.Int (declarator 1 0 None nothing ∷ [])) ∷ function 2 false types.Int 1 ([]) true (block (cons (return 2 (Some (constant 2 0 (form false false 0)))) nil)) ∷ prototype 3 leads.Nothing types.Int 2 (param 3 types.Int (Some 3) ∷ []) false ∷ prototype 4 leads.Nothing types.Void 1 ([]) true ∷ function 5 false types.Int 4 ([]) true (block (cons (declare (declaration 5 types.Int (declarator 5 4 None (single (constant 5 0 (form false false 0))) ∷ []))) (cons (return 5 (Some (object 5 4 whole))) nil))) ∷ function 6 false types.Int 5 ([]) true (block (cons (declare (declaration 7 types.Int (declarator 7 6 None nothing ∷ []))) (cons (return 7 (Some (constant 7 0 (form false false 0)))) nil))) ∷ []) (codes "printf" ∷ codes "abort" ∷ codes "f" ∷ codes "assert" ∷ codes "reach_error" ∷ codes "main" ∷ codes "pthread_join" ∷ []) (no_facts) ≡ broken 1 5 ∷ broken 2 5 ∷ broken 3 5 ∷ broken 7 5 ∷ []
unfolding are_one_type constant_value known known_names after after_external type_of faults declarators_faults statement_faults params_faults external_faults externals_faults file_faults file_with
known_taken = refl

-- a call without value where a value is needed, and where none is
--     void f(void) { }
--     int main(void) { f(); (f());
--      1 ? f() : f();
--      return f() + 1; }
pub no_value : list_of (function 1 false types.Void 0 ([]) true (block nil) ∷ function 2 false types.Int 1 ([]) true (block (cons (eval (call 2 0 none)) (cons (eval (paren 2 (call 2 0 none))) (cons (eval (choose 3 (constant 3 1 (form true false 0)) (call 3 0 none) (call 3 0 none))) (cons (return 4 (Some (binary 4 ops.Add (call 4 0 none) (constant 4 1 (form true false 0))))) nil))))) ∷ []) (codes "f" ∷ codes "main" ∷ []) (no_facts) ≡ broken 3 6 ∷ broken 3 6 ∷ broken 4 6 ∷ []
unfolding are_one_type constant_value known known_names after after_external type_of faults declarators_faults statement_faults params_faults external_faults externals_faults file_faults file_with
no_value = refl

-- an array without index, and an index on none
--     int a[2], b;
--     int main(void) {
--      a = 1;
--      b[0] = 1;
--      a[1] = b; return a; }
pub whole_array : list_of (objects false (declaration 1 types.Int (declarator 1 0 (Some (constant 1 2 (form true false 0))) nothing ∷ declarator 1 1 None nothing ∷ [])) ∷ function 2 false types.Int 2 ([]) true (block (cons (eval (assign 3 None 3 0 whole (constant 3 1 (form true false 0)))) (cons (eval (assign 4 None 4 1 (element (constant 4 0 (form false false 0))) (constant 4 1 (form true false 0)))) (cons (eval (assign 5 None 5 0 (element (constant 5 1 (form true false 0))) (object 5 1 whole))) (cons (return 5 (Some (object 5 0 whole))) nil))))) ∷ []) (codes "a" ∷ codes "b" ∷ codes "main" ∷ []) (no_facts) ≡ broken 3 7 ∷ broken 4 7 ∷ broken 5 7 ∷ []
unfolding are_one_type constant_value known known_names after after_external type_of faults declarators_faults statement_faults params_faults external_faults externals_faults file_faults file_with
whole_array = refl

-- objects for threads as operands and targets
--     pthread_t t; pthread_mutex_t m;
--     int main(void) {
--      t;
--      t = 1;
--      return m + t; }
pub thread_operand : list_of (objects false (declaration 1 types.Thread (declarator 1 0 None nothing ∷ [])) ∷ objects false (declaration 1 types.Mutex (declarator 1 1 None nothing ∷ [])) ∷ function 2 false types.Int 2 ([]) true (block (cons (eval (object 3 0 whole)) (cons (eval (assign 4 None 4 0 whole (constant 4 1 (form true false 0)))) (cons (return 5 (Some (binary 5 ops.Add (object 5 1 whole) (object 5 0 whole)))) nil)))) ∷ []) (codes "t" ∷ codes "m" ∷ codes "main" ∷ []) (no_facts) ≡ broken 3 7 ∷ broken 4 7 ∷ broken 5 7 ∷ broken 5 7 ∷ []
unfolding are_one_type constant_value known known_names after after_external type_of faults declarators_faults statement_faults params_faults external_faults externals_faults file_faults file_with
thread_operand = refl

-- a `void *` as an operand, and an integer in its place
--     void *f(void *p) {
--      p = 0;
--      if (p == NULL) return 1;
--      int x = p;
--      x = (int)p;
--      return (void *)x; }
--     int main(void){}
pub pointers : list_of (function 1 false types.VoidPointer 0 (param 1 types.VoidPointer (Some 1) ∷ []) false (block (cons (eval (assign 2 None 2 1 whole (constant 2 0 (form false false 0)))) (cons (when 3 (binary 3 ops.Eq (object 3 1 whole) (null 3)) (return 3 (Some (constant 3 1 (form true false 0)))) absent) (cons (declare (declaration 4 types.Int (declarator 4 2 None (single (object 4 1 whole)) ∷ []))) (cons (eval (assign 5 None 5 2 whole (cast 5 types.Int (object 5 1 whole)))) (cons (return 6 (Some (cast 6 types.VoidPointer (object 6 2 whole)))) nil)))))) ∷ function 7 false types.Int 3 ([]) true (block nil) ∷ []) (codes "f" ∷ codes "p" ∷ codes "x" ∷ codes "main" ∷ []) (no_facts) ≡ broken 2 7 ∷ broken 3 7 ∷ broken 3 7 ∷ broken 3 7 ∷ broken 4 7 ∷ []
unfolding are_one_type constant_value known known_names after after_external type_of faults declarators_faults statement_faults params_faults external_faults externals_faults file_faults file_with
pointers = refl

-- the constant 0 in any spelling, and not in parentheses
--     void *f(void *p) { if (1) return 0u; if (1) return '\0'; if (1) return NULL;
--      return (0); }
--     int main(void){}
pub null_pointers : list_of (function 1 false types.VoidPointer 0 (param 1 types.VoidPointer (Some 1) ∷ []) false (block (cons (when 1 (constant 1 1 (form true false 0)) (return 1 (Some (constant 1 0 (form false true 0)))) absent) (cons (when 1 (constant 1 1 (form true false 0)) (return 1 (Some (constant 1 0 (form true false 0)))) absent) (cons (when 1 (constant 1 1 (form true false 0)) (return 1 (Some (null 1))) absent) (cons (return 2 (Some (paren 2 (constant 2 0 (form false false 0))))) nil))))) ∷ function 3 false types.Int 2 ([]) true (block nil) ∷ []) (codes "f" ∷ codes "p" ∷ codes "main" ∷ []) (no_facts) ≡ broken 2 7 ∷ []
unfolding are_one_type constant_value known known_names after after_external type_of faults declarators_faults statement_faults params_faults external_faults externals_faults file_faults file_with
null_pointers = refl

-- objects and parameters of type `void`, and a `void *` object
--     void x;
--     int f(int a, void b);
--     int main(void) {
--      void *p; return 0; }
pub void_objects : list_of (objects false (declaration 1 types.Void (declarator 1 0 None nothing ∷ [])) ∷ prototype 2 leads.Nothing types.Int 1 (param 2 types.Int (Some 2) ∷ param 2 types.Void (Some 3) ∷ []) false ∷ function 3 false types.Int 4 ([]) true (block (cons (declare (declaration 4 types.VoidPointer (declarator 4 5 None nothing ∷ []))) (cons (return 4 (Some (constant 4 0 (form false false 0)))) nil))) ∷ []) (codes "x" ∷ codes "f" ∷ codes "a" ∷ codes "b" ∷ codes "main" ∷ codes "p" ∷ []) (no_facts) ≡ broken 1 7 ∷ broken 2 7 ∷ broken 4 7 ∷ []
unfolding are_one_type constant_value known known_names after after_external type_of faults declarators_faults statement_faults params_faults external_faults externals_faults file_faults file_with
void_objects = refl

-- one of two that are chosen is a `void *`
--     void *f(void *p) { return 1 ? p : 0; }
--     void *g(void *p) {
--      return 1 ? p : 1; }
--     int main(void){}
pub chosen_pointer : list_of (function 1 false types.VoidPointer 0 (param 1 types.VoidPointer (Some 1) ∷ []) false (block (cons (return 1 (Some (choose 1 (constant 1 1 (form true false 0)) (object 1 1 whole) (constant 1 0 (form false false 0))))) nil)) ∷ function 2 false types.VoidPointer 2 (param 2 types.VoidPointer (Some 1) ∷ []) false (block (cons (return 3 (Some (choose 3 (constant 3 1 (form true false 0)) (object 3 1 whole) (constant 3 1 (form true false 0))))) nil)) ∷ function 4 false types.Int 3 ([]) true (block nil) ∷ []) (codes "f" ∷ codes "p" ∷ codes "g" ∷ codes "main" ∷ []) (no_facts) ≡ broken 3 7 ∷ []
unfolding are_one_type constant_value known known_names after after_external type_of faults declarators_faults statement_faults params_faults external_faults externals_faults file_faults file_with
chosen_pointer = refl

-- an expression with a fault counts as `int`: it clashes with a wanted `void *`
--     int main(void) {
--      pthread_exit(y); return 0; }
pub counted_as_int : list_of (function 1 false types.Int 0 ([]) true (block (cons (eval (call 2 1 (and (object 2 2 whole) none))) (cons (return 2 (Some (constant 2 0 (form false false 0)))) nil))) ∷ []) (codes "main" ∷ codes "pthread_exit" ∷ codes "y" ∷ []) (no_facts) ≡ broken 2 7 ∷ broken 2 1 ∷ []
unfolding are_one_type constant_value known known_names after after_external type_of faults declarators_faults statement_faults params_faults external_faults externals_faults file_faults file_with
counted_as_int = refl

-- a step on an element of a `void *`: the target alone
--     void *f(void *a) {
--      ++a[0]; return a; }
--     int main(void){}
pub step_on_element : list_of (function 1 false types.VoidPointer 0 (param 1 types.VoidPointer (Some 1) ∷ []) false (block (cons (eval (step 2 2 1 (element (constant 2 0 (form false false 0))) true true)) (cons (return 2 (Some (object 2 1 whole))) nil))) ∷ function 3 false types.Int 2 ([]) true (block nil) ∷ []) (codes "f" ∷ codes "a" ∷ codes "main" ∷ []) (no_facts) ≡ broken 2 7 ∷ []
unfolding are_one_type constant_value known known_names after after_external type_of faults declarators_faults statement_faults params_faults external_faults externals_faults file_faults file_with
step_on_element = refl

-- and on a `void *`
--     void *f(void *a) {
--      ++a; return a; }
--     int main(void){}
pub step_on_pointer : list_of (function 1 false types.VoidPointer 0 (param 1 types.VoidPointer (Some 1) ∷ []) false (block (cons (eval (step 2 2 1 whole true true)) (cons (return 2 (Some (object 2 1 whole))) nil))) ∷ function 3 false types.Int 2 ([]) true (block nil) ∷ []) (codes "f" ∷ codes "a" ∷ codes "main" ∷ []) (no_facts) ≡ broken 2 7 ∷ []
unfolding are_one_type constant_value known known_names after after_external type_of faults declarators_faults statement_faults params_faults external_faults externals_faults file_faults file_with
step_on_pointer = refl

-- lengths that are none
--     int n;
--     int a[n];
--     int b[0];
--     int c[4096];
--     int d[4097];
--     int e[1 / 0];
--     int f[1 - 2];
--     int g[2 * 3 > 5 ? 4 : 9];
--     int h[1 || 1 / 0];
--     int main(void){}
pub lengths : list_of (objects false (declaration 1 types.Int (declarator 1 0 None nothing ∷ [])) ∷ objects false (declaration 2 types.Int (declarator 2 1 (Some (object 2 0 whole)) nothing ∷ [])) ∷ objects false (declaration 3 types.Int (declarator 3 2 (Some (constant 3 0 (form false false 0))) nothing ∷ [])) ∷ objects false (declaration 4 types.Int (declarator 4 3 (Some (constant 4 4096 (form true false 0))) nothing ∷ [])) ∷ objects false (declaration 5 types.Int (declarator 5 4 (Some (constant 5 4097 (form true false 0))) nothing ∷ [])) ∷ objects false (declaration 6 types.Int (declarator 6 5 (Some (binary 6 ops.Div (constant 6 1 (form true false 0)) (constant 6 0 (form false false 0)))) nothing ∷ [])) ∷ objects false (declaration 7 types.Int (declarator 7 6 (Some (binary 7 ops.Sub (constant 7 1 (form true false 0)) (constant 7 2 (form true false 0)))) nothing ∷ [])) ∷ objects false (declaration 8 types.Int (declarator 8 7 (Some (choose 8 (binary 8 ops.Gt (binary 8 ops.Mul (constant 8 2 (form true false 0)) (constant 8 3 (form true false 0))) (constant 8 5 (form true false 0))) (constant 8 4 (form true false 0)) (constant 8 9 (form true false 0)))) nothing ∷ [])) ∷ objects false (declaration 9 types.Int (declarator 9 8 (Some (binary 9 ops.Either (constant 9 1 (form true false 0)) (binary 9 ops.Div (constant 9 1 (form true false 0)) (constant 9 0 (form false false 0))))) nothing ∷ [])) ∷ function 10 false types.Int 9 ([]) true (block nil) ∷ []) (codes "n" ∷ codes "a" ∷ codes "b" ∷ codes "c" ∷ codes "d" ∷ codes "e" ∷ codes "f" ∷ codes "g" ∷ codes "h" ∷ codes "main" ∷ []) (no_facts) ≡ broken 2 8 ∷ broken 3 8 ∷ broken 5 8 ∷ broken 6 8 ∷ broken 7 8 ∷ broken 9 8 ∷ []
unfolding are_one_type constant_value known known_names after after_external type_of faults declarators_faults statement_faults params_faults external_faults externals_faults file_faults file_with
lengths = refl

-- a constant that is no word: of the length first, and then of the constant
--     int a[4294967297u];
--     int main(void){}
pub large_length : list_of (objects false (declaration 1 types.Int (declarator 1 0 (Some (constant 1 4294967297 (form true true 0))) nothing ∷ [])) ∷ function 2 false types.Int 1 ([]) true (block nil) ∷ []) (codes "a" ∷ codes "main" ∷ []) (no_facts) ≡ broken 1 8 ∷ broken 1 11 ∷ []
unfolding are_one_type constant_value known known_names after after_external type_of faults declarators_faults statement_faults params_faults external_faults externals_faults file_faults file_with
large_length = refl

-- constants that are too large for their type
--     int main(void) { return 2147483647 + 0x80000000 + 2147483648u + 4294967295u
--      + 2147483648
--      + 0x100000000 + 1l; }
pub large_constants : list_of (function 1 false types.Int 0 ([]) true (block (cons (return 1 (Some (binary 1 ops.Add (binary 1 ops.Add (binary 1 ops.Add (binary 1 ops.Add (binary 1 ops.Add (binary 1 ops.Add (constant 1 2147483647 (form true false 0)) (constant 1 2147483648 (form false false 0))) (constant 1 2147483648 (form true true 0))) (constant 1 4294967295 (form true true 0))) (constant 2 2147483648 (form true false 0))) (constant 3 4294967296 (form false false 0))) (constant 3 1 (form true false 1))))) nil)) ∷ []) (codes "main" ∷ []) (no_facts) ≡ broken 2 11 ∷ broken 3 11 ∷ broken 3 24 ∷ []
unfolding are_one_type constant_value known known_names after after_external type_of faults declarators_faults statement_faults params_faults external_faults externals_faults file_faults file_with
large_constants = refl

-- initializers at file scope
--     int x = 1 + 2 * 3;
--     int y = x;
--     int z[2] = {1, x};
--     int w = NULL;
--     int main(void){}
pub not_constant : list_of (objects false (declaration 1 types.Int (declarator 1 0 None (single (binary 1 ops.Add (constant 1 1 (form true false 0)) (binary 1 ops.Mul (constant 1 2 (form true false 0)) (constant 1 3 (form true false 0))))) ∷ [])) ∷ objects false (declaration 2 types.Int (declarator 2 1 None (single (object 2 0 whole)) ∷ [])) ∷ objects false (declaration 3 types.Int (declarator 3 2 (Some (constant 3 2 (form true false 0))) (listed (and (constant 3 1 (form true false 0)) (and (object 3 0 whole) none)) false) ∷ [])) ∷ objects false (declaration 4 types.Int (declarator 4 3 None (single (null 4)) ∷ [])) ∷ function 5 false types.Int 4 ([]) true (block nil) ∷ []) (codes "x" ∷ codes "y" ∷ codes "z" ∷ codes "w" ∷ codes "main" ∷ []) (no_facts) ≡ broken 2 9 ∷ broken 3 9 ∷ broken 4 9 ∷ broken 4 7 ∷ []
unfolding are_one_type constant_value known known_names after after_external type_of faults declarators_faults statement_faults params_faults external_faults externals_faults file_faults file_with
not_constant = refl

-- forms of initializers
--     int a[2] = {1, 2, 3};
--     int b = {1};
--     int c[2] = 1;
--     pthread_mutex_t m = PTHREAD_MUTEX_INITIALIZER, k = 0;
--     pthread_cond_t d = PTHREAD_MUTEX_INITIALIZER;
--     int e = PTHREAD_COND_INITIALIZER;
--     pthread_mutex_t q[2] = PTHREAD_MUTEX_INITIALIZER;
--     int g[3] = {1, 2,};
--     int main(void){}
pub initializers : list_of (objects false (declaration 1 types.Int (declarator 1 0 (Some (constant 1 2 (form true false 0))) (listed (and (constant 1 1 (form true false 0)) (and (constant 1 2 (form true false 0)) (and (constant 1 3 (form true false 0)) none))) false) ∷ [])) ∷ objects false (declaration 2 types.Int (declarator 2 1 None (listed (and (constant 2 1 (form true false 0)) none) false) ∷ [])) ∷ objects false (declaration 3 types.Int (declarator 3 2 (Some (constant 3 2 (form true false 0))) (single (constant 3 1 (form true false 0))) ∷ [])) ∷ objects false (declaration 4 types.Mutex (declarator 4 3 None mutex ∷ declarator 4 4 None (single (constant 4 0 (form false false 0))) ∷ [])) ∷ objects false (declaration 5 types.Cond (declarator 5 5 None mutex ∷ [])) ∷ objects false (declaration 6 types.Int (declarator 6 6 None cond ∷ [])) ∷ objects false (declaration 7 types.Mutex (declarator 7 7 (Some (constant 7 2 (form true false 0))) mutex ∷ [])) ∷ objects false (declaration 8 types.Int (declarator 8 8 (Some (constant 8 3 (form true false 0))) (listed (and (constant 8 1 (form true false 0)) (and (constant 8 2 (form true false 0)) none)) true) ∷ [])) ∷ function 9 false types.Int 9 ([]) true (block nil) ∷ []) (codes "a" ∷ codes "b" ∷ codes "c" ∷ codes "m" ∷ codes "k" ∷ codes "d" ∷ codes "e" ∷ codes "q" ∷ codes "g" ∷ codes "main" ∷ []) (no_facts) ≡ broken 1 10 ∷ broken 2 10 ∷ broken 3 10 ∷ broken 4 10 ∷ broken 5 10 ∷ broken 6 10 ∷ broken 7 10 ∷ []
unfolding are_one_type constant_value known known_names after after_external type_of faults declarators_faults statement_faults params_faults external_faults externals_faults file_faults file_with
initializers = refl

-- the constants come before the form
--     int x;
--     pthread_mutex_t m = x;
--     int main(void){}
pub mutex_from_object : list_of (objects false (declaration 1 types.Int (declarator 1 0 None nothing ∷ [])) ∷ objects false (declaration 2 types.Mutex (declarator 2 1 None (single (object 2 0 whole)) ∷ [])) ∷ function 3 false types.Int 2 ([]) true (block nil) ∷ []) (codes "x" ∷ codes "m" ∷ codes "main" ∷ []) (no_facts) ≡ broken 2 9 ∷ broken 2 10 ∷ []
unfolding are_one_type constant_value known known_names after after_external type_of faults declarators_faults statement_faults params_faults external_faults externals_faults file_faults file_with
mutex_from_object = refl

-- `break` and `continue` in loops and behind them
--     int main(void) { while (1) { if (1) break; else continue; }
--      do continue; while (0);
--      for (;;) break;
--      continue; return 0; }
pub in_loops : list_of (function 1 false types.Int 0 ([]) true (block (cons (while 1 (constant 1 1 (form true false 0)) (block (cons (when 1 (constant 1 1 (form true false 0)) (break 1) (branch (continue 1))) nil))) (cons (do_while 2 (continue 2) (constant 2 0 (form false false 0))) (cons (for 3 empty None None (break 3)) (cons (continue 4) (cons (return 4 (Some (constant 4 0 (form false false 0)))) nil)))))) ∷ []) (codes "main" ∷ []) (no_facts) ≡ broken 4 12 ∷ []
unfolding are_one_type constant_value known known_names after after_external type_of faults declarators_faults statement_faults params_faults external_faults externals_faults file_faults file_with
in_loops = refl

-- results of `return`
--     int f(void) { return; }
--     void g(void) { return 1; }
--     void h(void) { return; }
--     void *s(void *a) { return; }
--     int main(void){}
pub returns : list_of (function 1 false types.Int 0 ([]) true (block (cons (return 1 None) nil)) ∷ function 2 false types.Void 1 ([]) true (block (cons (return 2 (Some (constant 2 1 (form true false 0)))) nil)) ∷ function 3 false types.Void 2 ([]) true (block (cons (return 3 None) nil)) ∷ function 4 false types.VoidPointer 3 (param 4 types.VoidPointer (Some 4) ∷ []) false (block (cons (return 4 None) nil)) ∷ function 5 false types.Int 5 ([]) true (block nil) ∷ []) (codes "f" ∷ codes "g" ∷ codes "h" ∷ codes "s" ∷ codes "a" ∷ codes "main" ∷ []) (no_facts) ≡ broken 1 13 ∷ broken 2 13 ∷ broken 4 13 ∷ []
unfolding are_one_type constant_value known known_names after after_external type_of faults declarators_faults statement_faults params_faults external_faults externals_faults file_faults file_with
returns = refl

-- a call of itself
--     int f(int n) { return f(n); }
--     int main(void) { return f(1); }
pub recursion : list_of (function 1 false types.Int 0 (param 1 types.Int (Some 1) ∷ []) false (block (cons (return 1 (Some (call 1 0 (and (object 1 1 whole) none)))) nil)) ∷ function 2 false types.Int 2 ([]) true (block (cons (return 2 (Some (call 2 0 (and (constant 2 1 (form true false 0)) none)))) nil)) ∷ []) (codes "f" ∷ codes "n" ∷ codes "main" ∷ []) (record { returning = (0 ∷ []) ∷ [] ∷ []; reached = []; high = [] }) ≡ broken 1 14 ∷ []
unfolding are_one_type constant_value known known_names after after_external type_of faults declarators_faults statement_faults params_faults external_faults externals_faults file_faults file_with
recursion = refl

-- it counts as `int` then
--     void f(void) {
--      return f() + 1; }
--     int main(void) { return f(); }
pub recursion_counts_as_int : list_of (function 1 false types.Void 0 ([]) true (block (cons (return 2 (Some (binary 2 ops.Add (call 2 0 none) (constant 2 1 (form true false 0))))) nil)) ∷ function 3 false types.Int 1 ([]) true (block (cons (return 3 (Some (call 3 0 none))) nil)) ∷ []) (codes "f" ∷ codes "main" ∷ []) (record { returning = (0 ∷ []) ∷ [] ∷ []; reached = []; high = [] }) ≡ broken 2 13 ∷ broken 2 14 ∷ broken 3 6 ∷ []
unfolding are_one_type constant_value known known_names after after_external type_of faults declarators_faults statement_faults params_faults external_faults externals_faults file_faults file_with
recursion_counts_as_int = refl

-- `main` with a parameter
--     int main(int a) { return a; }
pub main_with_parameter : list_of (function 1 false types.Int 0 (param 1 types.Int (Some 1) ∷ []) false (block (cons (return 1 (Some (object 1 1 whole))) nil)) ∷ []) (codes "main" ∷ codes "a" ∷ []) (no_facts) ≡ broken 0 15 ∷ []
unfolding are_one_type constant_value known known_names after after_external type_of faults declarators_faults statement_faults params_faults external_faults externals_faults file_faults file_with
main_with_parameter = refl

-- `signed` is `int`, and an empty list has no parameters
--     signed main() { return 0; }
pub main_of_one_type : list_of (function 1 false types.Signed 0 ([]) false (block (cons (return 1 (Some (constant 1 0 (form false false 0)))) nil)) ∷ []) (codes "main" ∷ []) (no_facts) ≡ []
unfolding are_one_type constant_value known known_names after after_external type_of faults declarators_faults statement_faults params_faults external_faults externals_faults file_faults file_with
main_of_one_type = refl

-- another type
--     unsigned main(void) { return 0; }
pub unsigned_main : list_of (function 1 false types.Unsigned 0 ([]) true (block (cons (return 1 (Some (constant 1 0 (form false false 0)))) nil)) ∷ []) (codes "main" ∷ []) (no_facts) ≡ broken 0 15 ∷ []
unfolding are_one_type constant_value known known_names after after_external type_of faults declarators_faults statement_faults params_faults external_faults externals_faults file_faults file_with
unsigned_main = refl

-- what a create starts
--     void *f(void *a) { return a; }
--     int g(int a) { return a; }
--     int main(void) { pthread_t t;
--      pthread_create(&t, NULL, f, NULL);
--      pthread_create(&t, NULL, g, NULL);
--      pthread_create(&t, NULL, (f), NULL);
--      pthread_create(&t, NULL, later, NULL); pthread_create(&t, NULL, t, NULL); return 0; }
--     void *later(void *a) { return a; }
pub start_routines : list_of (function 1 false types.VoidPointer 0 (param 1 types.VoidPointer (Some 1) ∷ []) false (block (cons (return 1 (Some (object 1 1 whole))) nil)) ∷ function 2 false types.Int 2 (param 2 types.Int (Some 1) ∷ []) false (block (cons (return 2 (Some (object 2 1 whole))) nil)) ∷ function 3 false types.Int 3 ([]) true (block (cons (declare (declaration 3 types.Thread (declarator 3 4 None nothing ∷ []))) (cons (eval (call 4 5 (and (address 4 4 4 whole) (and (null 4) (and (object 4 0 whole) (and (null 4) none)))))) (cons (eval (call 5 5 (and (address 5 5 4 whole) (and (null 5) (and (object 5 2 whole) (and (null 5) none)))))) (cons (eval (call 6 5 (and (address 6 6 4 whole) (and (null 6) (and (paren 6 (object 6 0 whole)) (and (null 6) none)))))) (cons (eval (call 7 5 (and (address 7 7 4 whole) (and (null 7) (and (object 7 6 whole) (and (null 7) none)))))) (cons (eval (call 7 5 (and (address 7 7 4 whole) (and (null 7) (and (object 7 4 whole) (and (null 7) none)))))) (cons (return 7 (Some (constant 7 0 (form false false 0)))) nil)))))))) ∷ function 8 false types.VoidPointer 6 (param 8 types.VoidPointer (Some 1) ∷ []) false (block (cons (return 8 (Some (object 8 1 whole))) nil)) ∷ []) (codes "f" ∷ codes "a" ∷ codes "g" ∷ codes "main" ∷ codes "t" ∷ codes "pthread_create" ∷ codes "later" ∷ []) (no_facts) ≡ broken 5 16 ∷ broken 6 16 ∷ broken 6 7 ∷ broken 7 16 ∷ broken 7 7 ∷ []
unfolding are_one_type constant_value known known_names after after_external type_of faults declarators_faults statement_faults params_faults external_faults externals_faults file_faults file_with
start_routines = refl

-- threads where a start routine can come
--     void h(void) { pthread_t t;
--      pthread_join(t, 0); }
--     void *f(void *a) { h();
--      pthread_t u; return a; }
--     int main(void) { pthread_t t; pthread_create(&t, NULL, f, NULL); h(); return 0; }
pub threads_in_threads : list_of (function 1 false types.Void 0 ([]) true (block (cons (declare (declaration 1 types.Thread (declarator 1 1 None nothing ∷ []))) (cons (eval (call 2 2 (and (object 2 1 whole) (and (constant 2 0 (form false false 0)) none)))) nil))) ∷ function 3 false types.VoidPointer 3 (param 3 types.VoidPointer (Some 4) ∷ []) false (block (cons (eval (call 3 0 none)) (cons (declare (declaration 4 types.Thread (declarator 4 5 None nothing ∷ []))) (cons (return 4 (Some (object 4 4 whole))) nil)))) ∷ function 5 false types.Int 6 ([]) true (block (cons (declare (declaration 5 types.Thread (declarator 5 1 None nothing ∷ []))) (cons (eval (call 5 7 (and (address 5 5 1 whole) (and (null 5) (and (object 5 3 whole) (and (null 5) none)))))) (cons (eval (call 5 0 none)) (cons (return 5 (Some (constant 5 0 (form false false 0)))) nil))))) ∷ []) (codes "h" ∷ codes "t" ∷ codes "pthread_join" ∷ codes "f" ∷ codes "a" ∷ codes "u" ∷ codes "main" ∷ codes "pthread_create" ∷ []) (record { returning = []; reached = true ∷ true ∷ false ∷ []; high = [] }) ≡ broken 1 17 ∷ broken 2 17 ∷ broken 4 17 ∷ []
unfolding are_one_type constant_value known known_names after after_external type_of faults declarators_faults statement_faults params_faults external_faults externals_faults file_faults file_with
threads_in_threads = refl

-- a `void *` outside a start routine
--     void *f(void);
--     int g(void *a) { return 0; }
--     void pthread_exit(void *);
--     void *h(void *a, void *b);
--     void *k();
--     void *s(void *a);
--     int main(void){}
pub pointer_functions : list_of (prototype 1 leads.Nothing types.VoidPointer 0 ([]) true ∷ function 2 false types.Int 1 (param 2 types.VoidPointer (Some 2) ∷ []) false (block (cons (return 2 (Some (constant 2 0 (form false false 0)))) nil)) ∷ prototype 3 leads.Nothing types.Void 3 (param 3 types.VoidPointer None ∷ []) false ∷ prototype 4 leads.Nothing types.VoidPointer 4 (param 4 types.VoidPointer (Some 2) ∷ param 4 types.VoidPointer (Some 5) ∷ []) false ∷ prototype 5 leads.Nothing types.VoidPointer 6 ([]) false ∷ prototype 6 leads.Nothing types.VoidPointer 7 (param 6 types.VoidPointer (Some 2) ∷ []) false ∷ function 7 false types.Int 8 ([]) true (block nil) ∷ []) (codes "f" ∷ codes "g" ∷ codes "a" ∷ codes "pthread_exit" ∷ codes "h" ∷ codes "b" ∷ codes "k" ∷ codes "s" ∷ codes "main" ∷ []) (no_facts) ≡ broken 1 18 ∷ broken 2 18 ∷ broken 3 18 ∷ broken 4 18 ∷ broken 4 18 ∷ broken 4 18 ∷ broken 5 18 ∷ []
unfolding are_one_type constant_value known known_names after after_external type_of faults declarators_faults statement_faults params_faults external_faults externals_faults file_faults file_with
pointer_functions = refl

-- a start routine and `main` are called
--     void *f(void *a) { return a; }
--     int g(void) {
--      f(NULL);
--      return f(0) + main(); }
--     int main(void) { return 0; }
pub started_called : list_of (function 1 false types.VoidPointer 0 (param 1 types.VoidPointer (Some 1) ∷ []) false (block (cons (return 1 (Some (object 1 1 whole))) nil)) ∷ function 2 false types.Int 2 ([]) true (block (cons (eval (call 3 0 (and (null 3) none))) (cons (return 4 (Some (binary 4 ops.Add (call 4 0 (and (constant 4 0 (form false false 0)) none)) (call 4 3 none)))) nil))) ∷ function 5 false types.Int 3 ([]) true (block (cons (return 5 (Some (constant 5 0 (form false false 0)))) nil)) ∷ []) (codes "f" ∷ codes "a" ∷ codes "g" ∷ codes "main" ∷ []) (no_facts) ≡ broken 3 18 ∷ broken 4 18 ∷ broken 4 18 ∷ []
unfolding are_one_type constant_value known known_names after after_external type_of faults declarators_faults statement_faults params_faults external_faults externals_faults file_faults file_with
started_called = refl

-- mutexes and conditions in a block and as parameters
--     int main(void) { pthread_mutex_t m; return 0; }
--     int f(pthread_cond_t c);
--     pthread_mutex_t g(void);
--     int k(pthread_t t);
pub local_mutexes : list_of (function 1 false types.Int 0 ([]) true (block (cons (declare (declaration 1 types.Mutex (declarator 1 1 None nothing ∷ []))) (cons (return 1 (Some (constant 1 0 (form false false 0)))) nil))) ∷ prototype 2 leads.Nothing types.Int 2 (param 2 types.Cond (Some 3) ∷ []) false ∷ prototype 3 leads.Nothing types.Mutex 4 ([]) true ∷ prototype 4 leads.Nothing types.Int 5 (param 4 types.Thread (Some 6) ∷ []) false ∷ []) (codes "main" ∷ codes "m" ∷ codes "f" ∷ codes "c" ∷ codes "g" ∷ codes "k" ∷ codes "t" ∷ []) (no_facts) ≡ broken 1 19 ∷ broken 2 19 ∷ broken 3 7 ∷ broken 4 7 ∷ []
unfolding are_one_type constant_value known known_names after after_external type_of faults declarators_faults statement_faults params_faults external_faults externals_faults file_faults file_with
local_mutexes = refl

-- object arguments of calls on threads
--     pthread_mutex_t m, n[2]; pthread_cond_t c; int x;
--     int main(void) { pthread_t t;
--      pthread_mutex_lock(&m); pthread_mutex_lock(&n[1]); pthread_cond_wait(&c, &m);
--      pthread_mutex_lock(m);
--      pthread_mutex_lock(&c);
--      pthread_mutex_lock((&m));
--      pthread_cond_wait(&m, &c);
--      pthread_mutex_lock(&nope);
--      pthread_mutex_lock(&n);
--      pthread_mutex_lock(&m[0]);
--      pthread_join(t, NULL);
--      pthread_join((t), NULL);
--      pthread_join(x, 0);
--      return &x; }
pub object_arguments : list_of (objects false (declaration 1 types.Mutex (declarator 1 0 None nothing ∷ declarator 1 1 (Some (constant 1 2 (form true false 0))) nothing ∷ [])) ∷ objects false (declaration 1 types.Cond (declarator 1 2 None nothing ∷ [])) ∷ objects false (declaration 1 types.Int (declarator 1 3 None nothing ∷ [])) ∷ function 2 false types.Int 4 ([]) true (block (cons (declare (declaration 2 types.Thread (declarator 2 5 None nothing ∷ []))) (cons (eval (call 3 6 (and (address 3 3 0 whole) none))) (cons (eval (call 3 6 (and (address 3 3 1 (element (constant 3 1 (form true false 0)))) none))) (cons (eval (call 3 7 (and (address 3 3 2 whole) (and (address 3 3 0 whole) none)))) (cons (eval (call 4 6 (and (object 4 0 whole) none))) (cons (eval (call 5 6 (and (address 5 5 2 whole) none))) (cons (eval (call 6 6 (and (paren 6 (address 6 6 0 whole)) none))) (cons (eval (call 7 7 (and (address 7 7 0 whole) (and (address 7 7 2 whole) none)))) (cons (eval (call 8 6 (and (address 8 8 8 whole) none))) (cons (eval (call 9 6 (and (address 9 9 1 whole) none))) (cons (eval (call 10 6 (and (address 10 10 0 (element (constant 10 0 (form false false 0)))) none))) (cons (eval (call 11 9 (and (object 11 5 whole) (and (null 11) none)))) (cons (eval (call 12 9 (and (paren 12 (object 12 5 whole)) (and (null 12) none)))) (cons (eval (call 13 9 (and (object 13 3 whole) (and (constant 13 0 (form false false 0)) none)))) (cons (return 14 (Some (address 14 14 3 whole))) nil)))))))))))))))) ∷ []) (codes "m" ∷ codes "n" ∷ codes "c" ∷ codes "x" ∷ codes "main" ∷ codes "t" ∷ codes "pthread_mutex_lock" ∷ codes "pthread_cond_wait" ∷ codes "nope" ∷ codes "pthread_join" ∷ []) (no_facts) ≡ broken 4 20 ∷ broken 4 7 ∷ broken 5 20 ∷ broken 6 20 ∷ broken 6 20 ∷ broken 7 20 ∷ broken 8 20 ∷ broken 8 1 ∷ broken 9 7 ∷ broken 10 7 ∷ broken 12 20 ∷ broken 12 7 ∷ broken 13 20 ∷ broken 14 20 ∷ []
unfolding are_one_type constant_value known known_names after after_external type_of faults declarators_faults statement_faults params_faults external_faults externals_faults file_faults file_with
object_arguments = refl

-- `&` where a `void *` is wanted
--     int main(void) { int x = 0;
--      pthread_exit(&x); return 0; }
pub address_for_pointer : list_of (function 1 false types.Int 0 ([]) true (block (cons (declare (declaration 1 types.Int (declarator 1 1 None (single (constant 1 0 (form false false 0))) ∷ []))) (cons (eval (call 2 2 (and (address 2 2 1 whole) none))) (cons (return 2 (Some (constant 2 0 (form false false 0)))) nil)))) ∷ []) (codes "main" ∷ codes "x" ∷ codes "pthread_exit" ∷ []) (no_facts) ≡ broken 2 7 ∷ broken 2 20 ∷ []
unfolding are_one_type constant_value known known_names after after_external type_of faults declarators_faults statement_faults params_faults external_faults externals_faults file_faults file_with
address_for_pointer = refl

-- attributes
--     pthread_mutex_t m;
--     int main(void) { pthread_t t;
--      pthread_mutex_init(&m, NULL); pthread_mutex_init(&m, 0u); pthread_join(t, 0);
--      pthread_mutex_init(&m, (0));
--      pthread_join(t, 1); return 0; }
pub attributes : list_of (objects false (declaration 1 types.Mutex (declarator 1 0 None nothing ∷ [])) ∷ function 2 false types.Int 1 ([]) true (block (cons (declare (declaration 2 types.Thread (declarator 2 2 None nothing ∷ []))) (cons (eval (call 3 3 (and (address 3 3 0 whole) (and (null 3) none)))) (cons (eval (call 3 3 (and (address 3 3 0 whole) (and (constant 3 0 (form false true 0)) none)))) (cons (eval (call 3 4 (and (object 3 2 whole) (and (constant 3 0 (form false false 0)) none)))) (cons (eval (call 4 3 (and (address 4 4 0 whole) (and (paren 4 (constant 4 0 (form false false 0))) none)))) (cons (eval (call 5 4 (and (object 5 2 whole) (and (constant 5 1 (form true false 0)) none)))) (cons (return 5 (Some (constant 5 0 (form false false 0)))) nil)))))))) ∷ []) (codes "m" ∷ codes "main" ∷ codes "t" ∷ codes "pthread_mutex_init" ∷ codes "pthread_join" ∷ []) (no_facts) ≡ broken 4 21 ∷ broken 5 21 ∷ []
unfolding are_one_type constant_value known known_names after after_external type_of faults declarators_faults statement_faults params_faults external_faults externals_faults file_faults file_with
attributes = refl

-- texts
--     int main(void) { printf("a");
--      printf(1);
--      printf("a", "b");
--      "c";
--      return "d"; }
pub texts : list_of (function 1 false types.Int 0 ([]) true (block (cons (eval (call 1 1 (and (text 1) none))) (cons (eval (call 2 1 (and (constant 2 1 (form true false 0)) none))) (cons (eval (call 3 1 (and (text 3) (and (text 3) none)))) (cons (eval (text 4)) (cons (return 5 (Some (text 5))) nil)))))) ∷ []) (codes "main" ∷ codes "printf" ∷ []) (no_facts) ≡ broken 2 22 ∷ broken 3 22 ∷ broken 4 22 ∷ broken 5 22 ∷ []
unfolding are_one_type constant_value known known_names after after_external type_of faults declarators_faults statement_faults params_faults external_faults externals_faults file_faults file_with
texts = refl

-- elements at file scope, up to and with a declarator
--     int a[4096], b[4096], c[4096], d[4096], e[4096], f[4096], g[4096], h[4096];
--     unsigned i[4096], j[4096], k[4096], l[4096], m[4096], n[4096], o[4096], p[4095];
--     pthread_mutex_t q;
--     pthread_t r, s;
--     int main(void) { int x; return x; }
pub elements : list_of (objects false (declaration 1 types.Int (declarator 1 0 (Some (constant 1 4096 (form true false 0))) nothing ∷ declarator 1 1 (Some (constant 1 4096 (form true false 0))) nothing ∷ declarator 1 2 (Some (constant 1 4096 (form true false 0))) nothing ∷ declarator 1 3 (Some (constant 1 4096 (form true false 0))) nothing ∷ declarator 1 4 (Some (constant 1 4096 (form true false 0))) nothing ∷ declarator 1 5 (Some (constant 1 4096 (form true false 0))) nothing ∷ declarator 1 6 (Some (constant 1 4096 (form true false 0))) nothing ∷ declarator 1 7 (Some (constant 1 4096 (form true false 0))) nothing ∷ [])) ∷ objects false (declaration 2 types.Unsigned (declarator 2 8 (Some (constant 2 4096 (form true false 0))) nothing ∷ declarator 2 9 (Some (constant 2 4096 (form true false 0))) nothing ∷ declarator 2 10 (Some (constant 2 4096 (form true false 0))) nothing ∷ declarator 2 11 (Some (constant 2 4096 (form true false 0))) nothing ∷ declarator 2 12 (Some (constant 2 4096 (form true false 0))) nothing ∷ declarator 2 13 (Some (constant 2 4096 (form true false 0))) nothing ∷ declarator 2 14 (Some (constant 2 4096 (form true false 0))) nothing ∷ declarator 2 15 (Some (constant 2 4095 (form true false 0))) nothing ∷ [])) ∷ objects false (declaration 3 types.Mutex (declarator 3 16 None nothing ∷ [])) ∷ objects false (declaration 4 types.Thread (declarator 4 17 None nothing ∷ declarator 4 18 None nothing ∷ [])) ∷ function 5 false types.Int 19 ([]) true (block (cons (declare (declaration 5 types.Int (declarator 5 20 None nothing ∷ []))) (cons (return 5 (Some (object 5 20 whole))) nil))) ∷ []) (codes "a" ∷ codes "b" ∷ codes "c" ∷ codes "d" ∷ codes "e" ∷ codes "f" ∷ codes "g" ∷ codes "h" ∷ codes "i" ∷ codes "j" ∷ codes "k" ∷ codes "l" ∷ codes "m" ∷ codes "n" ∷ codes "o" ∷ codes "p" ∷ codes "q" ∷ codes "r" ∷ codes "s" ∷ codes "main" ∷ codes "x" ∷ []) (no_facts) ≡ broken 4 23 ∷ broken 4 23 ∷ []
unfolding are_one_type constant_value known known_names after after_external type_of faults declarators_faults statement_faults params_faults external_faults externals_faults file_faults file_with
elements = refl

-- types and suffixes that are left out
--     short a;
--     int f(char c);
--     _Bool g(void);
--     int main(void) { long x, y;
--      return (unsigned long)1 + 1ul; }
pub refused_types : list_of (objects false (declaration 1 types.Short (declarator 1 0 None nothing ∷ [])) ∷ prototype 2 leads.Nothing types.Int 1 (param 2 types.Char (Some 2) ∷ []) false ∷ prototype 3 leads.Nothing types.Bool 3 ([]) true ∷ function 4 false types.Int 4 ([]) true (block (cons (declare (declaration 4 types.Long (declarator 4 5 None nothing ∷ declarator 4 6 None nothing ∷ []))) (cons (return 5 (Some (binary 5 ops.Add (cast 5 types.UnsignedLong (constant 5 1 (form true false 0))) (constant 5 1 (form true true 1))))) nil))) ∷ []) (codes "a" ∷ codes "f" ∷ codes "c" ∷ codes "g" ∷ codes "main" ∷ codes "x" ∷ codes "y" ∷ []) (no_facts) ≡ broken 1 24 ∷ broken 2 24 ∷ broken 3 24 ∷ broken 4 24 ∷ broken 5 24 ∷ broken 5 24 ∷ []
unfolding are_one_type constant_value known known_names after after_external type_of faults declarators_faults statement_faults params_faults external_faults externals_faults file_faults file_with
refused_types = refl

-- prototypes and definitions
--     int f();
--     unsigned f();
--     int f(int);
--     int f(void);
--     int f(int a, int b);
--     int f(unsigned a);
--     int f(signed b);
--     int f(int a) { return a; }
--     int assert(int a, int b);
--     int g(int);
--     void g(void);
--     void reach_error(int a);
--     void reach_error() { }
--     int main(void){}
pub other_prototypes : list_of (prototype 1 leads.Nothing types.Int 0 ([]) false ∷ prototype 2 leads.Nothing types.Unsigned 0 ([]) false ∷ prototype 3 leads.Nothing types.Int 0 (param 3 types.Int None ∷ []) false ∷ prototype 4 leads.Nothing types.Int 0 ([]) true ∷ prototype 5 leads.Nothing types.Int 0 (param 5 types.Int (Some 1) ∷ param 5 types.Int (Some 2) ∷ []) false ∷ prototype 6 leads.Nothing types.Int 0 (param 6 types.Unsigned (Some 1) ∷ []) false ∷ prototype 7 leads.Nothing types.Int 0 (param 7 types.Signed (Some 2) ∷ []) false ∷ function 8 false types.Int 0 (param 8 types.Int (Some 1) ∷ []) false (block (cons (return 8 (Some (object 8 1 whole))) nil)) ∷ prototype 9 leads.Nothing types.Int 3 (param 9 types.Int (Some 1) ∷ param 9 types.Int (Some 2) ∷ []) false ∷ prototype 10 leads.Nothing types.Int 4 (param 10 types.Int None ∷ []) false ∷ prototype 11 leads.Nothing types.Void 4 ([]) true ∷ prototype 12 leads.Nothing types.Void 5 (param 12 types.Int (Some 1) ∷ []) false ∷ function 13 false types.Void 5 ([]) false (block nil) ∷ function 14 false types.Int 6 ([]) true (block nil) ∷ []) (codes "f" ∷ codes "a" ∷ codes "b" ∷ codes "assert" ∷ codes "g" ∷ codes "reach_error" ∷ codes "main" ∷ []) (no_facts) ≡ broken 2 25 ∷ broken 4 25 ∷ broken 5 25 ∷ broken 6 25 ∷ []
unfolding are_one_type constant_value known known_names after after_external type_of faults declarators_faults statement_faults params_faults external_faults externals_faults file_faults file_with
other_prototypes = refl

-- spellings that are refused are types of their own, and `signed char` is `char`
--     int f(long a);
--     int f(short a);
--     int f(short int a) { return 0; }
--     int g(signed char a);
--     int g(char a) { return 0; }
--     int main(void){}
pub refused_and_other : list_of (prototype 1 leads.Nothing types.Int 0 (param 1 types.Long (Some 1) ∷ []) false ∷ prototype 2 leads.Nothing types.Int 0 (param 2 types.Short (Some 1) ∷ []) false ∷ function 3 false types.Int 0 (param 3 types.ShortInt (Some 1) ∷ []) false (block (cons (return 3 (Some (constant 3 0 (form false false 0)))) nil)) ∷ prototype 4 leads.Nothing types.Int 2 (param 4 types.SignedChar (Some 1) ∷ []) false ∷ function 5 false types.Int 2 (param 5 types.Char (Some 1) ∷ []) false (block (cons (return 5 (Some (constant 5 0 (form false false 0)))) nil)) ∷ function 6 false types.Int 3 ([]) true (block nil) ∷ []) (codes "f" ∷ codes "a" ∷ codes "g" ∷ codes "main" ∷ []) (no_facts) ≡ broken 1 25 ∷ broken 1 24 ∷ broken 2 24 ∷ broken 3 24 ∷ broken 4 24 ∷ broken 5 24 ∷ []
unfolding are_one_type constant_value known known_names after after_external type_of faults declarators_faults statement_faults params_faults external_faults externals_faults file_faults file_with
refused_and_other = refl

-- a body that is too high
--     void f(void) { }
--     void g(void) { f(); }
--     int main(void){}
pub too_high : list_of (function 1 false types.Void 0 ([]) true (block nil) ∷ function 2 false types.Void 1 ([]) true (block (cons (eval (call 2 0 none)) nil)) ∷ function 3 false types.Int 2 ([]) true (block nil) ∷ []) (codes "f" ∷ codes "g" ∷ codes "main" ∷ []) (record { returning = []; reached = []; high = false ∷ true ∷ false ∷ [] }) ≡ broken 2 26 ∷ []
unfolding are_one_type constant_value known known_names after after_external type_of faults declarators_faults statement_faults params_faults external_faults externals_faults file_faults file_with
too_high = refl
