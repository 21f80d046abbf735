-- A program and its scoped one; and a program without a fault, with what is known of its functions.
use Rattle.std.proofs.Common.{◌≡◌, ℕ, List, [], ◌∷◌, codes, Bool, true, false, Option, Some, None, refl}
use Rattle.lz_base.specs.declared.word.IntType.{IntType}
use Rattle.lz_base.specs.declared.word.IntType.TheVariants as kinds
use Rattle.lz_base.specs.declared.operator.Unary.TheVariants as uops
use Rattle.lz_base.specs.declared.operator.Binary.TheVariants as ops
use Rattle.lz_tree.specs.declared.token.Form.{Form}
use Rattle.lz_tree.specs.declared.expression.TypeName.{TypeName}
use Rattle.lz_tree.specs.declared.expression.TypeName.TheVariants as types
use Rattle.lz_tree.specs.declared.program.Param.{Param}
use Rattle.lz_tree.specs.declared.scoped.KnownName.TheVariants.{MutexLock, MutexUnlock, Create}
use Rattle.lz_tree.specs.declared.scoped.Object.{Object}
use Rattle.lz_tree.specs.declared.scoped.Object.TheVariants.{Local, Cell, Mutex, Handle, Routine, Known}
use Rattle.lz_tree.specs.Trees.{Expression, constant, null, object, address, unary, binary, assign, step, call, whole, element, none, and, Initializer, nothing, single, listed, InitDeclarator, Declaration, eval, block, declare, for, return, nil, cons, objects, function, TranslationUnit}
use Rattle.lz_tree.specs.ScopedTrees as scoped
use Rattle.lz_tree.specs.ScopedTrees.{ScopedExpression, ScopedIndex, ScopedInitDeclarator, ScopedInitializer, ScopedDeclaration, ScopedStatement, ScopedProgram, ScopedDefinition, Lvalue, lvalue}
use Rattle.lz_scopes.specs.ValueTypes.{are_one_type}
use Rattle.lz_scopes.specs.Constants.{constant_value}
use Rattle.lz_scopes.specs.KnownNames.{known, known_names}
use Rattle.lz_scopes.specs.Files.{file_with}
use Rattle.lz_scopes.specs.Scopes.{after, after_external}
use Rattle.lz_scopes.specs.ExpressionTypes.{type_of}
use Rattle.lz_resolve.specs.ScopedPrograms.{scope, scope_statement, scope_declarators, scope_externals, after_externals, cells_of, scoped_of}

abbrev form : Bool → Bool → ℕ → Form
form decimal unsigned longs = record { decimal = decimal; unsigned = unsigned; longs = longs }

abbrev declarator : ℕ → ℕ → Option Expression → Initializer → InitDeclarator
declarator line name len first = record { line = line; name = name; length = len; first = first }

abbrev declaration : ℕ → TypeName → List InitDeclarator → Declaration
declaration line base declarators = record { line = line; base = base; declarators = declarators }

abbrev param : ℕ → TypeName → Option ℕ → Param
param line base name = record { line = line; base = base; name = name }

abbrev whole_of : ℕ → Object → Lvalue
whole_of line of = lvalue line of scoped.whole false

abbrev element_of : ℕ → Object → ScopedExpression → Lvalue
element_of line of index = lvalue line of (scoped.element index) false

abbrev signed : Option IntType
signed = Some kinds.Int

abbrev unsigned : Option IntType
unsigned = Some kinds.Unsigned

abbrev declared : ℕ → Object → Option ScopedExpression → ScopedInitializer → ScopedInitDeclarator
declared line of len first = record { line = line; object = of; length = len; first = first }

abbrev declares : ℕ → List ScopedInitDeclarator → ScopedStatement
declares line ds = scoped.declare (record { line = line; declarators = ds })

-- the source:
--     int x = 5, a[3] = {1, 2}; unsigned u;
--     pthread_mutex_t m;
--     int g(int n, unsigned k) { int b[2]; { int c = n; } for (int i = 0; i < 1; i++) int d; return b[k]; }
--     void *f(void *p) { pthread_mutex_lock(&m); x = x + 1u; pthread_mutex_unlock(&m); return p; }
--     pthread_t late[2];
--     int main(void) { pthread_t t[2], s; int y; pthread_create(&t[1], 0, f, NULL); y = g(a[1], x); return -y; }
abbrev source : TranslationUnit
source = record {
  externals = objects false (declaration 1 types.Int (declarator 1 0 None (single (constant 1 5 (form true false 0))) ∷ declarator 1 1 (Some (constant 1 3 (form true false 0))) (listed (and (constant 1 1 (form true false 0)) (and (constant 1 2 (form true false 0)) none)) false) ∷ [])) ∷ objects false (declaration 1 types.Unsigned (declarator 1 2 None nothing ∷ [])) ∷ objects false (declaration 2 types.Mutex (declarator 2 3 None nothing ∷ [])) ∷ function 3 false types.Int 4 (param 3 types.Int (Some 5) ∷ param 3 types.Unsigned (Some 6) ∷ []) false (block (cons (declare (declaration 3 types.Int (declarator 3 7 (Some (constant 3 2 (form true false 0))) nothing ∷ []))) (cons (block (cons (declare (declaration 3 types.Int (declarator 3 8 None (single (object 3 5 whole)) ∷ []))) nil)) (cons (for 3 (declare (declaration 3 types.Int (declarator 3 9 None (single (constant 3 0 (form false false 0))) ∷ []))) (Some (binary 3 ops.Lt (object 3 9 whole) (constant 3 1 (form true false 0)))) (Some (step 3 3 9 whole true false)) (declare (declaration 3 types.Int (declarator 3 10 None nothing ∷ [])))) (cons (return 3 (Some (object 3 7 (element (object 3 6 whole))))) nil))))) ∷ function 4 false types.VoidPointer 11 (param 4 types.VoidPointer (Some 12) ∷ []) false (block (cons (eval (call 4 13 (and (address 4 4 3 whole) none))) (cons (eval (assign 4 None 4 0 whole (binary 4 ops.Add (object 4 0 whole) (constant 4 1 (form true true 0))))) (cons (eval (call 4 14 (and (address 4 4 3 whole) none))) (cons (return 4 (Some (object 4 12 whole))) nil))))) ∷ objects false (declaration 5 types.Thread (declarator 5 15 (Some (constant 5 2 (form true false 0))) nothing ∷ [])) ∷ function 6 false types.Int 16 ([]) true (block (cons (declare (declaration 6 types.Thread (declarator 6 17 (Some (constant 6 2 (form true false 0))) nothing ∷ declarator 6 18 None nothing ∷ []))) (cons (declare (declaration 6 types.Int (declarator 6 19 None nothing ∷ []))) (cons (eval (call 6 20 (and (address 6 6 17 (element (constant 6 1 (form true false 0)))) (and (constant 6 0 (form false false 0)) (and (object 6 11 whole) (and (null 6) none)))))) (cons (eval (assign 6 None 6 19 whole (call 6 4 (and (object 6 1 (element (constant 6 1 (form true false 0)))) (and (object 6 0 whole) none))))) (cons (return 6 (Some (unary 6 uops.Minus (object 6 19 whole)))) nil)))))) ∷ [];
  names = codes "x" ∷ codes "a" ∷ codes "u" ∷ codes "m" ∷ codes "g" ∷ codes "n" ∷ codes "k" ∷ codes "b" ∷ codes "c" ∷ codes "i" ∷ codes "d" ∷ codes "f" ∷ codes "p" ∷ codes "pthread_mutex_lock" ∷ codes "pthread_mutex_unlock" ∷ codes "late" ∷ codes "main" ∷ codes "t" ∷ codes "s" ∷ codes "y" ∷ codes "pthread_create" ∷ [];
}

abbrev x : Object
x = Cell 0 1 kinds.Int

abbrev a : Object
a = Cell 1 3 kinds.Int

abbrev u : Object
u = Cell 4 1 kinds.Unsigned

abbrev n0 : Object
n0 = Local 0 1 kinds.Int

abbrev k0 : Object
k0 = Local 1 1 kinds.Unsigned

abbrev b0 : Object
b0 = Local 2 2 kinds.Int

abbrev c0 : Object
c0 = Local 4 1 kinds.Int

abbrev i0 : Object
i0 = Local 5 1 kinds.Int

abbrev d0 : Object
d0 = Local 6 1 kinds.Int

abbrev p0 : Object
p0 = Local 0 1 kinds.Unsigned

abbrev y0 : Object
y0 = Local 0 1 kinds.Int

abbrev decimal : ℕ → ScopedExpression
decimal value = scoped.constant 6 value (form true false 0) signed

abbrev meant : ScopedProgram
meant = record {
  cells = 5 ∷ 1 ∷ 2 ∷ 0 ∷ 0 ∷ [];
  mutexes = 1;
  conds = 0;
  handles = 5;
  functions =
      record {
        start = false;
        locals = 7;
        params = kinds.Int ∷ kinds.Unsigned ∷ [];
        gives = signed;
        body = scoped.block (scoped.cons
            (declares 3 (declared 3 b0 (Some (scoped.constant 3 2 (form true false 0) signed)) scoped.nothing ∷ [])) (scoped.cons
            (scoped.block (scoped.cons (declares 3 (declared 3 c0 None (scoped.single (scoped.object (whole_of 3 n0) signed)) ∷ [])) scoped.nil)) (scoped.cons
            (scoped.for 3 (declares 3 (declared 3 i0 None (scoped.single (scoped.constant 3 0 (form false false 0) signed)) ∷ []))
            (Some (scoped.binary 3 ops.Lt (scoped.object (whole_of 3 i0) signed) (scoped.constant 3 1 (form true false 0) signed) signed))
            (Some (scoped.step 3 (whole_of 3 i0) true false signed))
            (declares 3 (declared 3 d0 None scoped.nothing ∷ []))) (scoped.cons
            (scoped.return 3 (Some (scoped.object (element_of 3 b0 (scoped.object (whole_of 3 k0) unsigned)) signed))) scoped.nil))));
      }
      ∷ record {
        start = true;
        locals = 1;
        params = kinds.Unsigned ∷ [];
        gives = unsigned;
        body = scoped.block (scoped.cons
            (scoped.eval (scoped.call 4 (Known MutexLock) (scoped.and (scoped.address 4 (whole_of 4 (Mutex 0 1)) None) scoped.none) signed)) (scoped.cons
            (scoped.eval (scoped.assign 4 None (whole_of 4 x) (scoped.binary 4 ops.Add (scoped.object (whole_of 4 x) signed) (scoped.constant 4 1 (form true true 0) unsigned) unsigned) signed)) (scoped.cons
            (scoped.eval (scoped.call 4 (Known MutexUnlock) (scoped.and (scoped.address 4 (whole_of 4 (Mutex 0 1)) None) scoped.none) signed)) (scoped.cons
            (scoped.return 4 (Some (scoped.object (whole_of 4 p0) unsigned))) scoped.nil))));
      }
      ∷ record {
        start = false;
        locals = 1;
        params = [];
        gives = signed;
        body = scoped.block (scoped.cons
            (declares 6 (declared 6 (Handle 2 2) (Some (decimal 2)) scoped.nothing ∷ declared 6 (Handle 4 1) None scoped.nothing ∷ [])) (scoped.cons
            (declares 6 (declared 6 y0 None scoped.nothing ∷ [])) (scoped.cons
            (scoped.eval (scoped.call 6 (Known Create) (scoped.and (scoped.address 6 (element_of 6 (Handle 2 2) (decimal 1)) None)
            (scoped.and (scoped.constant 6 0 (form false false 0) signed)
            (scoped.and (scoped.object (whole_of 6 (Routine 1)) None) (scoped.and (scoped.null 6 unsigned) scoped.none)))) signed)) (scoped.cons
            (scoped.eval (scoped.assign 6 None (whole_of 6 y0) (scoped.call 6 (Routine 0)
            (scoped.and (scoped.object (element_of 6 a (decimal 1)) signed) (scoped.and (scoped.object (whole_of 6 x) signed) scoped.none)) signed) signed)) (scoped.cons
            (scoped.return 6 (Some (scoped.unary 6 uops.Minus (scoped.object (whole_of 6 y0) signed) signed))) scoped.nil)))));
      }
      ∷ [];
  main = 2;
}

-- each name is what it means
pub replaced : scoped_of source ≡ meant
unfolding are_one_type constant_value known known_names after after_external type_of file_with scope scope_statement scope_declarators scope_externals after_externals cells_of scoped_of
replaced = refl
