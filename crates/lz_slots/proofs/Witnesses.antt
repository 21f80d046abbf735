-- Small facts that show what the definitions say.
use Rattle.std.proofs.Common.{◌≡◌, ℕ, zero, suc, List, [], ◌∷◌, Option, Some, None, true, false, refl}
use Rattle.lz_base.specs.declared.word.IntType.{IntType}
use Rattle.lz_base.specs.declared.word.IntType.TheVariants as kinds
use Rattle.lz_tree.specs.declared.scoped.Object.TheVariants as objects
use Rattle.lz_tree.specs.declared.scoped.KnownName.TheVariants as names
use Rattle.lz_tree.specs.ScopedTrees.{ScopedExpression, constant, null, object, address, call, lvalue, whole, none, and, ScopedStatement, empty, eval, block, while, return, nil, cons, ScopedDefinition, ScopedProgram}
use Rattle.lz_slots.specs.Nesting.{saturated}
use Rattle.lz_slots.specs.Slots.{slots}
use Rattle.lz_slots.specs.Costs.{Rates, statement_cost, cost}

abbrev int : Option IntType
int = Some kinds.Int

abbrev one : ScopedExpression
one = constant 1 1 (record { decimal = true; unsigned = false; longs = 0 }) int

-- `while (1)` so many times nested around an empty statement
abbrev nested_loops : ℕ → ScopedStatement
nested_loops zero = empty
nested_loops (suc n) = while 1 one (nested_loops n)

abbrev function : ScopedStatement → ScopedDefinition
function body = record { start = false; locals = 0; params = []; gives = int; body = body }

abbrev program : ScopedStatement → List ScopedDefinition → ScopedProgram
program body rest = record { cells = []; mutexes = 0; conds = 0; handles = 1; functions = function body ∷ rest; main = 0 }

abbrev hundred_turns : Rates
hundred_turns = record { turns = 100; threads = 1; bodies = λ f. 0 }

-- four nested loops of a hundred turns, from the innermost
pub one_loop : statement_cost hundred_turns (nested_loops 1) ≡ 206848
one_loop = refl

pub two_loops : statement_cost hundred_turns (nested_loops 2) ≡ 20891648
two_loops = refl

pub three_loops : statement_cost hundred_turns (nested_loops 3) ≡ 2089371648
three_loops = refl

pub four_loops : statement_cost hundred_turns (nested_loops 4) ≡ 208937371648
four_loops = refl

-- the whole program at two rounds
pub loops_cost : cost (program (nested_loops 4) []) 100 2 ≡ 417874751488
loops_cost = refl

-- ten loops pass the greatest number
pub many_loops_stop : saturated (cost (program (nested_loops 10) []) 100 2) ≡ 18446744073709551615
many_loops_stop = refl

-- a thread that a loop creates: `while (1) pthread_create(&t, NULL, f, NULL);`
abbrev create : ScopedExpression
create =
    call 1 (objects.Known names.Create)
    (and (address 1 (lvalue 1 (objects.Handle 0 1) whole false) None) (and (null 1 (Some kinds.Unsigned)) (and (object (lvalue 1 (objects.Routine 1) whole false) None) (and (null 1 (Some kinds.Unsigned)) none)))) int

abbrev routine : ScopedDefinition
routine = record {
  start = true;
  locals = 1;
  params = kinds.Unsigned ∷ [];
  gives = Some kinds.Unsigned;
  body = block (cons (return 1 (Some (null 1 (Some kinds.Unsigned)))) nil);
}

abbrev creating : ScopedProgram
creating = program (while 1 one (eval create)) (routine ∷ [])

pub seventeen_slots : slots creating 17 ≡ 17
seventeen_slots = refl

pub sixteen_slots : slots creating 16 ≡ 16
sixteen_slots = refl
