-- Traces of code that were worked out by hand.
use Rattle.std.proofs.Common.{ℕ, zero, suc, inl, inr, Bool, true, false, List, [], ◌∷◌, ◌++◌, Option, Some, None, refl, lit<}
use Rattle.lz_base.specs.declared.word.BreakKind.TheVariants as kinds
use Rattle.lz_base.specs.declared.word.IntType.{IntType}
use Rattle.lz_base.specs.declared.word.IntType.TheVariants.{Int}
use Rattle.lz_base.specs.declared.operator.Binary.TheVariants as ops
use Rattle.lz_tree.specs.declared.token.Form.{Form}
use Rattle.lz_tree.specs.declared.scoped.KnownName.TheVariants as known
use Rattle.lz_tree.specs.declared.scoped.Object.TheVariants.{Local, Cell, Routine, Known}
use Rattle.lz_tree.specs.ScopedTrees.{ScopedExpression, constant, null, object, binary, assign, step, call, lvalue, whole, element, none, and, nothing, ScopedStatement, empty, eval, block, declare, while, for, continue, nil, cons, ScopedProgram}
use Rattle.lz_model.specs.declared.actions.Action.TheVariants.{Loc, Input, Check, Rd, Wr}
use Rattle.lz_model.specs.Actions.{Act}
use Rattle.lz_model.specs.Behaviours.{done, exits, cut, Behaviour, ends_with, halts, updates, tells, ◌and_then◌, ◌gives◌}
use Rattle.lz_model.specs.CodeTraces.{Locals, at, no_calls, expression_trace, normal, continues, statement_trace}
use Rattle.lz_model.specs.Programs.{end_of, is_left, IsThreadTrace}

-- ---- the ways of putting code together, each with its parts

module _ {S A : Type 0} where
  value : {v : A} {s : S} → ends_with v s [] (done s v)
  value = record { is = (refl, refl, refl) }

  one : {act : Act} {f : S → S} {v : A} {s : S} → updates act f v s (act ∷ []) (done (f s) v)
  one = record { is = (refl, refl, refl) }

  told : {act : Act} {f : S → A} {s : S} → tells act f s (act ∷ []) (done s (f s))
  told = record { is = (refl, refl, refl) }

  no_more : {s : S} → halts {A = A} s [] cut
  no_more = record { is = refl }

module _ {S A B : Type 0} where
  both : {code : Behaviour S A} {next : A → Behaviour S B} {s : S} {t : S} {w : B} (m : S) (v : A) (front rest : List Act)
      → code s front (done m v) → next v m rest (done t w) → (code and_then next) s (front ++ rest) (done t w)
  both m v front rest p q = record { is = record { value = v; middle = m; front = front; rest = rest; joined = refl; starts = p; goes = q } }

  then_cut : {code : Behaviour S A} {next : A → Behaviour S B} {s : S} (m : S) (v : A) (front rest : List Act)
      → code s front (done m v) → next v m rest cut → (code and_then next) s (front ++ rest) cut
  then_cut m v front rest p q = record { is = inr (record { value = v; middle = m; front = front; rest = rest; joined = refl; starts = p; goes = q }) }

  then_left : {code : Behaviour S A} {next : A → Behaviour S B} {s : S} {b : Bool} (m : S) (v : A) (front rest : List Act)
      → code s front (done m v) → next v m rest (exits b) → (code and_then next) s (front ++ rest) (exits b)
  then_left m v front rest p q = record { is = inr (record { value = v; middle = m; front = front; rest = rest; joined = refl; starts = p; goes = q }) }

  first_cut : {code : Behaviour S A} {next : A → Behaviour S B} {s : S} {acts : List Act} → code s acts cut → (code and_then next) s acts cut
  first_cut p = record { is = inl p }

  first_left : {code : Behaviour S A} {next : A → Behaviour S B} {s : S} {b : Bool} {acts : List Act} → code s acts (exits b) → (code and_then next) s acts (exits b)
  first_left p = record { is = inl p }

  renamed : {code : Behaviour S A} {f : A → B} {s t : S} {acts : List Act} (v : A) → code s acts (done t v) → (code gives f) s acts (done t (f v))
  renamed v p = record { is = (v, p, refl) }

-- ---- expressions

abbrev form : Form
form = record { decimal = true; «unsigned» = false; longs = 0 }

abbrev word : Option IntType
word = Some Int

abbrev number : ℕ → ScopedExpression
number v = constant 3 v form word

-- `x = x + 1` reads x and then writes it: between the two another thread may come
abbrev increment : ScopedExpression
increment = assign 3 None (lvalue 3 (Cell 0 1 Int) whole false) (binary 3 ops.Add (object (lvalue 3 (Cell 0 1 Int) whole false) word) (number 1) word) word

pub increment_reads_and_writes : (s : Locals) → expression_trace no_calls increment s (at 3 (Rd 0 5) ∷ at 3 (Wr 0 6) ∷ []) (done s 6)
increment_reads_and_writes s =
    both _ _ [] (at 3 (Rd 0 5) ∷ at 3 (Wr 0 6) ∷ []) value
    (both _ _ (at 3 (Rd 0 5) ∷ []) (at 3 (Wr 0 6) ∷ [])
    (both _ _ (at 3 (Rd 0 5) ∷ []) []
    (both _ _ [] (at 3 (Rd 0 5) ∷ []) (both _ _ [] [] value (renamed _ value)) (record { value = 5; fits = lit< tt; is = one }))
    (both _ _ [] [] value (renamed _ value)))
    (both _ _ [] (at 3 (Wr 0 6) ∷ []) value one))

-- `a[5] += 1` of four elements checks its index before it reads, and nothing comes behind the check
abbrev past_the_end : ScopedExpression
past_the_end = assign 7 (Some ops.Add) (lvalue 7 (Cell 0 4 Int) (element (number 5)) false) (number 1) word

pub past_the_end_breaks : (s : Locals) → expression_trace no_calls past_the_end s (at 7 (Check 0 kinds.Bounds) ∷ []) cut
past_the_end_breaks s =
    first_cut (then_cut _ _ [] (at 7 (Check 0 kinds.Bounds) ∷ []) value (record { is = then_cut _ _ (at 7 (Check 0 kinds.Bounds) ∷ []) [] one no_more }))

-- ---- statements

-- in a loop a declaration without initializer takes an input in each turn; where the second turn would begin, nothing more comes
abbrev endless : ScopedStatement
endless = while 4 (number 1) (block (cons (declare (record { line = 4; declarators = record { line = 4; object = Local 0 1 Int; length = None; first = nothing } ∷ [] })) nil))

abbrev turn_of_endless : List Act
turn_of_endless = at 0 (Input 9) ∷ at 4 Loc ∷ []

pub endless_is_cut : (s : Locals) → statement_trace no_calls (suc zero) endless s (at 4 Loc ∷ at 0 (Input 9) ∷ at 4 Loc ∷ at 4 Loc ∷ []) cut
endless_is_cut s =
    then_cut _ _ [] (at 4 Loc ∷ at 0 (Input 9) ∷ at 4 Loc ∷ at 4 Loc ∷ []) value
    (then_cut _ _ (at 4 Loc ∷ []) (at 0 (Input 9) ∷ at 4 Loc ∷ at 4 Loc ∷ []) one
    (then_cut _ normal turn_of_endless (at 4 Loc ∷ [])
    (both _ normal turn_of_endless []
    (both _ normal turn_of_endless []
    (both _ _ (at 0 (Input 9) ∷ []) (at 4 Loc ∷ []) (record { value = 9; fits = lit< tt; is = one }) (both _ normal (at 4 Loc ∷ []) [] one value))
    value)
    value)
    (then_cut _ _ [] (at 4 Loc ∷ []) value (then_cut _ _ (at 4 Loc ∷ []) [] one no_more))))

-- a `for` without a test has no Loc of a test, and `continue` goes on with the step
abbrev no_test : ScopedStatement
no_test = for 5 empty None (Some (step 5 (lvalue 5 (Local 0 1 Int) whole false) true false word)) (continue 5)

pub no_test_steps : (s : Locals) → statement_trace no_calls (suc zero) no_test s (at 5 Loc ∷ at 5 Loc ∷ []) cut
no_test_steps s =
    then_cut _ normal [] (at 5 Loc ∷ at 5 Loc ∷ []) value
    (then_cut _ continues [] (at 5 Loc ∷ at 5 Loc ∷ []) value
    (then_cut _ _ (at 5 Loc ∷ at 5 Loc ∷ []) []
    (both _ _ [] (at 5 Loc ∷ at 5 Loc ∷ []) (both _ _ [] [] value (renamed _ value))
    (both _ _ (at 5 Loc ∷ []) (at 5 Loc ∷ []) told (renamed _ one)))
    no_more))

-- ---- threads

-- `pthread_exit` in a function that `main` calls ends the thread of `main`, and not the process
abbrev exits_deep : ScopedProgram
exits_deep = record {
  cells = [];
  mutexes = 0;
  conds = 0;
  handles = 0;
  functions = record { start = false; locals = 0; params = []; gives = Some Int; body = block (cons (eval (call 2 (Routine 1) none None)) nil) }
      ∷ record { start = false; locals = 0; params = []; gives = None; body = eval (call 1 (Known known.Exit) (and (null 1 None) none) None) } ∷ [];
  main = 0;
}

pub exits_deep_ends_alone : IsThreadTrace exits_deep 1 0 [] true (end_of false ∷ [])
exits_deep_ends_alone = record {
  depth = suc (suc zero);
  does = is_left [] false
      (record {
        is = first_left (record {
          is = then_left _ [] [] [] value (then_left _ zero [] [] value (record {
            is = record {
              is = record {
                is = then_left _ [] [] [] value (then_left _ (0 ∷ []) [] [] (both _ _ [] [] value (renamed _ value)) (record { is = (refl, refl) }));
              };
            };
          }));
        });
      })
      refl;
  numbered = tt;
}
