-- Where small programs have their first choice, worked out by hand.
use Rattle.std.proofs.Common.{◌≡◌, ℕ, false, List, [], ◌∷◌, Some, None, refl}
use Rattle.lz_base.specs.declared.word.IntType.TheVariants.{Int}
use Rattle.lz_tree.specs.declared.scoped.KnownName.{KnownName}
use Rattle.lz_tree.specs.declared.scoped.KnownName.TheVariants as known
use Rattle.lz_tree.specs.declared.scoped.Object.{Object}
use Rattle.lz_tree.specs.declared.scoped.Object.TheVariants.{Local, Cond, Handle, Routine, Known}
use Rattle.lz_tree.specs.ScopedTrees.{ScopedExpression, null, address, choose, assign, call, lvalue, whole, element, none, and, ScopedInitializer, nothing, single, listed, ScopedInitDeclarator, ScopedStatement, empty, eval, declare, when, do_while, for, absent, branch, ScopedDefinition}
use Rattle.lz_choices.specs.Choices.{in_expression, in_statement, in_functions, first_choice}

-- a call of a known name on a line, without arguments
abbrev calls : KnownName → ℕ → ScopedExpression
calls name line = call line (Known name) none None

-- a call on a line that chooses
abbrev input : ℕ → ScopedExpression
input line = calls known.NondetInt line

-- one that does not
abbrev plain : ℕ → ScopedExpression
plain line = null line None

-- an object of one declaration
abbrev declared : ℕ → Object → ScopedInitializer → ScopedInitDeclarator
declared line meant first = record { line = line; object = meant; length = None; first = first }

abbrev declares : List ScopedInitDeclarator → ScopedStatement
declares of = declare (record { line = 1; declarators = of })

abbrev function : ScopedStatement → ScopedDefinition
function body = record { start = false; locals = 0; params = []; gives = None; body = body }

-- f(0, pthread_create(..)): the call of f is none, its second argument is one
argument : in_expression (call 3 (Routine 0) (and (plain 4) (and (calls known.Create 5) none)) None) ≡ Some 5
argument = refl

-- pthread_create(nondet(), ..): the call comes before its argument
call_first : in_expression (call 3 (Known known.Create) (and (input 4) none) None) ≡ Some 3
call_first = refl

-- a[nondet()] = nondet()
index_first : in_expression (assign 2 None (lvalue 2 (Local 0 4 Int) (element (input 3)) false) (input 4) None) ≡ Some 3
index_first = refl

-- 0 ? 0 : nondet(), which is never reached
not_reached : in_expression (choose 2 (plain 2) (plain 3) (input 4) None) ≡ Some 4
not_reached = refl

-- pthread_cond_signal(&c), and a wait: nothing to choose where one thread runs
signal : in_expression (call 2 (Known known.CondSignal) (and (address 2 (lvalue 2 (Cond 0 1) whole false) None) none) None) ≡ None
signal = refl

wait : in_expression (calls known.CondWait 2) ≡ None
wait = refl

-- int x = 0, y;
later_object : in_statement (declares (declared 2 (Local 0 1 Int) (single (plain 2)) ∷ declared 3 (Local 1 1 Int) nothing ∷ [])) ≡ Some 3
later_object = refl

-- int a[2] = { 0, nondet() };
listed_value : in_statement (declares (declared 2 (Local 0 2 Int) (listed (and (plain 2) (and (input 4) none))) ∷ [])) ≡ Some 4
listed_value = refl

-- pthread_t t;
thread_object : in_statement (declares (declared 2 (Handle 0 1) nothing ∷ [])) ≡ None
thread_object = refl

-- if (0) ; else nondet();
else_branch : in_statement (when 2 (plain 2) empty (branch (eval (input 4)))) ≡ Some 4
else_branch = refl

-- do nondet(); while (nondet());
body_first : in_statement (do_while 2 (eval (input 3)) (input 4)) ≡ Some 3
body_first = refl

-- for (; ; nondet()) nondet();
step_before_body : in_statement (for 2 empty None (Some (input 2)) (eval (input 3))) ≡ Some 2
step_before_body = refl

-- a function that nothing calls counts
later_function : in_functions (function (eval (plain 2)) ∷ function (eval (input 7)) ∷ []) ≡ Some 7
later_function = refl

-- int main() { if (0) ; }
no_choice : first_choice (record { cells = 0 ∷ []; mutexes = 1; conds = 0; handles = 0; functions = function (when 2 (plain 2) empty absent) ∷ []; main = 0 }) ≡ None
no_choice = refl
