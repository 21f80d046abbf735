-- A small program that is well scoped: `int x; void *f(void *a) { x = x + 1; return NULL; } int main(void) { pthread_t t; while (x) { pthread_create(&t, NULL, f, NULL); break; } return 0; }`.
use Rattle.std.proofs.Common.{◌≡◌, ℕ, zero, suc, ◌<◌, ◌≤◌, Bool, true, false, List, [], ◌∷◌, length, Option, Some, None, refl, arith}
use Rattle.lz_base.specs.declared.word.IntType.{IntType}
use Rattle.lz_base.specs.declared.word.IntType.TheVariants.{Int, Unsigned}
use Rattle.lz_base.specs.declared.operator.Binary.TheVariants as ops
use Rattle.lz_tree.specs.declared.scoped.KnownName.TheVariants as known
use Rattle.lz_tree.specs.declared.scoped.Object.{Object}
use Rattle.lz_tree.specs.declared.scoped.Object.TheVariants.{Local, Cell, Handle, Routine, Known}
use Rattle.lz_tree.specs.ScopedTrees.{ScopedExpression, constant, null, object, address, binary, assign, call, lvalue, whole, ScopedExpressions, none, and, nothing, ScopedStatement, eval, block, declare, while, break, return, nil, cons, ScopedDefinition, ScopedProgram}
use Rattle.lz_tree.specs.WellScoped.{Setting, Plan, AreWithin, AreOfKind, IsLength, IsCode, setting_of, IsFunction, IsWellScoped, MayStart}

x : Object
x = Cell 0 1 Int

read_x : ScopedExpression
read_x = object (lvalue 1 x whole false) (Some Int)

one : ScopedExpression
one = constant 1 1 (record { decimal = true; unsigned = false; longs = 0 }) (Some Int)

f_body : ScopedStatement
f_body = block (cons (eval (assign 1 None (lvalue 1 x whole false) (binary 1 ops.Add read_x one (Some Int)) (Some Int))) (cons (return 1 (Some (null 1 (Some Unsigned)))) nil))

create : ScopedExpression
create = call 1 (Known known.Create) (and (address 1 (lvalue 1 (Handle 0 1) whole false) None) (and (null 1 (Some Unsigned)) (and (object (lvalue 1 (Routine 0) whole false) None) (and (null 1 (Some Unsigned)) none)))) (Some Int)

main_body : ScopedStatement
main_body = block (cons (declare (record { line = 1; declarators = record { line = 1; object = Handle 0 1; length = None; first = nothing } ∷ [] }))
    (cons (while 1 read_x (block (cons (eval create) (cons (break 1) nil)))) (cons (return 1 (Some one)) nil)))

program : ScopedProgram
program = record {
  cells = 0 ∷ [];
  mutexes = 0;
  conds = 0;
  handles = 1;
  main = 1;
  functions = record { start = true; locals = 1; params = Unsigned ∷ []; gives = Some Unsigned; body = f_body } ∷ record { start = false; locals = 0; params = []; gives = Some Int; body = main_body } ∷ [];
}

alone : ℕ → Bool
alone zero = false
alone (suc f) = true

plan : Plan
plan = record { cell_kinds = λ i. Int; local_kinds = λ f i. Unsigned; alone = alone; depth = λ f. 0 }

within : AreWithin 0 1 1
within = record { length_ = record { least = omega arith; most = omega arith }; within = omega arith }

f_scoped : IsCode (setting_of program plan 0) (Some Unsigned) false f_body
unfolding x read_x one f_body program alone plan
f_scoped = (((within, record { each = λ i h. refl }), (refl, refl), (((within, record { each = λ i h. refl }), refl, (refl, refl)), refl, (omega arith, refl), refl, refl), refl, tt, refl), ((refl, refl), tt))

main_scoped : IsCode (setting_of program plan 1) (Some Int) false main_body
unfolding x read_x one f_body create main_body program alone plan
main_scoped = ((((within, refl), refl), tt), ((((within, record { each = λ i h. refl }), refl, (refl, refl)), refl, ((((refl, (within, refl), (refl, refl)), ((refl, tt), ((record { there = omega arith; start = refl }, refl), ((refl, refl), tt)))), refl), (refl, tt))), (((omega arith, refl), refl), tt)))
