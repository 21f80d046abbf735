-- Calls that may go deeper may do what calls did that may not.
use Rattle.std.proofs.Common.{◌≡◌, ℕ, zero, suc, ◌≤◌, inl, inr, Bool, true, false, List, [], ◌∷◌, Option, Some, None, refl, sym, subst, arith}
use Rattle.lz_base.specs.declared.word.BreakKind.{BreakKind}
use Rattle.lz_base.specs.declared.word.BreakKind.TheVariants as kinds
use Rattle.lz_base.specs.declared.word.IntType.{IntType}
use Rattle.lz_base.specs.declared.word.IntType.TheVariants as kind_types
use Rattle.lz_base.specs.Words.{is_true, truth}
use Rattle.std.specs.Prelude.{slice_index, nat_lt}
use Rattle.lz_base.specs.declared.operator.Binary.{Binary}
use Rattle.lz_base.specs.declared.operator.Binary.TheVariants as ops
use Rattle.lz_tree.specs.declared.scoped.KnownName.{KnownName}
use Rattle.lz_tree.specs.declared.scoped.KnownName.TheVariants as known
use Rattle.lz_tree.specs.declared.scoped.Object.{Object}
use Rattle.lz_tree.specs.declared.scoped.Object.TheVariants.{Local, Cell, Mutex, Cond, Handle, Routine, Known}
use Rattle.lz_tree.specs.ScopedTrees.{ScopedExpression, constant, null, text, object, address, paren, unary, cast, binary, choose, assign, step, call, Lvalue, lvalue, ScopedIndex, whole, element, ScopedExpressions, none, and, ScopedInitializer, nothing, single, listed, ScopedInitDeclarator, ScopedStatement, empty, eval, block, declare, when, while, do_while, for, break, continue, return, label, ScopedBranch, absent, branch, ScopedStatements, nil, cons, ScopedProgram}
use Rattle.lz_model.specs.Actions.{Act}
use Rattle.lz_model.specs.Behaviours.{Outcome, done, exits, cut, Behaviour, ends_with, halts, leaves, updates, tells, chooses, GoesOn, ◌and_then◌, ◌gives◌, picks}
use Rattle.lz_model.specs.CodeTraces.{Locals, entered, in_frame, Calls, passed, kinds_of, checks, assumes, inputs, needs, bounds, checks_index, kind_of, decides, behind_first, known_trace, expression_trace, arguments_trace, objects_trace, values_trace, handed_trace, place_trace, index_trace, is_object_argument, len_of, Flow, normal, breaks, continues, returns, arbitrary_trace, zeros_trace, listed_trace, no_threads_trace, integer_trace, object_trace, declarators_trace, led_on, turned, turns, do_turns, test_trace, change_trace, return_trace, statement_trace, branch_trace, statements_trace}
use Rattle.lz_model.specs.Programs.{function_at, calls_within}

-- ---- code may be cut before its first action

pub record Opens {S A : Type 0} (code : Behaviour S A) : Type 0 where
  pub opens : (before : S) → code before [] cut

module _ {S A B : Type 0} where
  opens_then : {code : Behaviour S A} {next : A → Behaviour S B} → Opens code → Opens (code and_then next)
  opens_then p = record { opens = λ s. record { is = inl (p.opens s) } }

  opens_gives : {code : Behaviour S A} {f : A → B} → Opens code → Opens (code gives f)
  opens_gives p = record { opens = λ s. record { is = p.opens s } }

module _ {S A : Type 0} where
  opens_value : {v : A} → Opens {S = S} (ends_with v)
  opens_value = record { opens = λ s. record { is = refl } }

  opens_halts : Opens {S = S} {A = A} halts
  opens_halts = record { opens = λ s. record { is = refl } }

  opens_leaves : {w : Bool} → Opens {S = S} {A = A} (leaves w)
  opens_leaves = record { opens = λ s. record { is = refl } }

  opens_updates : {act : Act} {f : S → S} {v : A} → Opens (updates act f v)
  opens_updates = record { opens = λ s. record { is = inl refl } }

  opens_tells : {act : Act} {f : S → A} → Opens (tells act f)
  opens_tells = record { opens = λ s. record { is = inl refl } }

  opens_picks : (b : Bool) {yes other : Behaviour S A} → Opens yes → Opens other → Opens (picks b yes other)
  opens_picks true p q = p
  opens_picks false p q = q

module _ {S A B : Type 0} where
  opens_chooses : {may : B → Type 0} {next : B → Behaviour S A} → (v : B) → may v → Opens (next v) → Opens (chooses may next)
  opens_chooses v m p = record { opens = λ s. record { value = v; fits = m; is = p.opens s } }

opens_checks : (line value : ℕ) (kind : BreakKind) → Opens (checks line value kind)
opens_checks line zero kind = opens_then opens_updates
opens_checks line (suc value) kind = opens_updates

opens_assumes : (line value : ℕ) → Opens (assumes line value)
opens_assumes line zero = opens_then opens_updates
opens_assumes line (suc value) = opens_updates

opens_inputs : (line : ℕ) (kind : IntType) → Opens (inputs line kind)
opens_inputs line kind = opens_chooses 0 (omega arith) opens_updates

opens_needs : (fits : Bool) → Opens (needs fits)
opens_needs true = opens_value
opens_needs false = opens_halts

opens_bounds : (line : ℕ) (checked fits : Bool) → Opens (bounds line checked fits)
opens_bounds line true fits = opens_needs fits
opens_bounds line false fits = opens_checks line (truth fits) kinds.Bounds

opens_checks_index : (line : ℕ) (meant : Object) (index : ScopedIndex) (checked : Bool) (i : ℕ) → Opens (checks_index line meant index checked i)
opens_checks_index line meant whole checked i = opens_value
opens_checks_index line meant (element index) checked i = opens_bounds line checked (nat_lt i (len_of meant))

opens_known : (line : ℕ) (name : KnownName) (objects values : List ℕ) → Opens (known_trace line name objects values)
opens_known line known.Assert objects values = opens_checks line (slice_index values 0) kinds.Assert
opens_known line known.Assume objects values = opens_assumes line (slice_index values 0)
opens_known line known.NondetInt objects values = opens_inputs line kind_types.Int
opens_known line known.NondetUint objects values = opens_inputs line kind_types.Unsigned
opens_known line known.Error objects values = opens_checks line 0 kinds.Reached
opens_known line known.ReachError objects values = opens_checks line 0 kinds.Reached
opens_known line known.Abort objects values = opens_assumes line 0
opens_known line known.AtomicBegin objects values = opens_updates
opens_known line known.AtomicEnd objects values = opens_updates
opens_known line known.Create objects values = opens_chooses 0 tt (opens_then opens_updates)
opens_known line known.Join objects values = opens_then opens_tells
opens_known line known.Exit objects values = opens_leaves
opens_known line known.MutexInit objects values = opens_updates
opens_known line known.MutexDestroy objects values = opens_value
opens_known line known.MutexLock objects values = opens_updates
opens_known line known.MutexUnlock objects values = opens_updates
opens_known line known.CondInit objects values = opens_value
opens_known line known.CondDestroy objects values = opens_value
opens_known line known.CondWait objects values = opens_then opens_updates
opens_known line known.CondSignal objects values = opens_chooses None tt opens_updates
opens_known line known.CondBroadcast objects values = opens_updates
opens_known line known.Printf objects values = opens_value

module _ (calls : Calls) where
  mutual
    opens_expression : (e : ScopedExpression) → Opens (expression_trace calls e)
    opens_expression (constant line value form kind) = opens_value
    opens_expression (null line kind) = opens_value
    opens_expression (text line kind) = opens_value
    opens_expression (object (lvalue line meant index checked) kind) = opens_then (opens_place (lvalue line meant index checked))
    opens_expression (address line of kind) = opens_place of
    opens_expression (paren line inner kind) = opens_expression inner
    opens_expression (unary line op of kind) = opens_gives (opens_expression of)
    opens_expression (cast line to of kind) = opens_gives (opens_expression of)
    opens_expression (binary line op left right kind) = opens_then (opens_expression left)
    opens_expression (choose line test first second kind) = opens_then (opens_expression test)
    opens_expression (assign line None (lvalue place meant index checked) value kind) = opens_then (opens_index index)
    opens_expression (assign line (Some op) (lvalue place meant index checked) value kind) = opens_then (opens_place (lvalue place meant index checked))
    opens_expression (step line (lvalue place meant index checked) up before kind) = opens_then (opens_place (lvalue place meant index checked))
    opens_expression (call line (Routine function) args kind) = opens_then (opens_arguments args)
    opens_expression (call line (Known name) args kind) = opens_then (opens_objects args)
    opens_expression (call line (Local first len k) args kind) = opens_halts
    opens_expression (call line (Cell first len k) args kind) = opens_halts
    opens_expression (call line (Mutex first len) args kind) = opens_halts
    opens_expression (call line (Cond first len) args kind) = opens_halts
    opens_expression (call line (Handle first len) args kind) = opens_halts

    opens_arguments : (args : ScopedExpressions) → Opens (arguments_trace calls args)
    opens_arguments none = opens_value
    opens_arguments (and first rest) = opens_then (opens_expression first)

    opens_objects : (args : ScopedExpressions) → Opens (objects_trace calls args)
    opens_objects none = opens_value
    opens_objects (and first rest) = opens_picks (is_object_argument first) (opens_then (opens_handed first)) (opens_objects rest)

    opens_handed : (e : ScopedExpression) → Opens (handed_trace calls e)
    opens_handed (address line of kind) = opens_gives (opens_place of)
    opens_handed (object of kind) = opens_gives (opens_place of)
    opens_handed (constant line value form kind) = opens_halts
    opens_handed (null line kind) = opens_halts
    opens_handed (text line kind) = opens_halts
    opens_handed (paren line inner kind) = opens_halts
    opens_handed (unary line op of kind) = opens_halts
    opens_handed (cast line to of kind) = opens_halts
    opens_handed (binary line op left right kind) = opens_halts
    opens_handed (choose line test first second kind) = opens_halts
    opens_handed (assign line op to value kind) = opens_halts
    opens_handed (step line of up before kind) = opens_halts
    opens_handed (call line callee args kind) = opens_halts

    opens_place : (of : Lvalue) → Opens (place_trace calls of)
    opens_place (lvalue line meant index checked) = opens_then (opens_index index)

    opens_index : (index : ScopedIndex) → Opens (index_trace calls index)
    opens_index whole = opens_value
    opens_index (element index) = opens_expression index

  opens_arbitrary : (line : ℕ) (kind : IntType) (i more : ℕ) → Opens (arbitrary_trace line kind i more)
  opens_arbitrary line kind i zero = opens_value
  opens_arbitrary line kind i (suc more) = opens_then (opens_inputs 0 kind)

  opens_zeros : (line i more : ℕ) → Opens (zeros_trace line i more)
  opens_zeros line i zero = opens_value
  opens_zeros line i (suc more) = opens_then opens_updates

  opens_listed : (line : ℕ) (kind : IntType) (values : ScopedExpressions) (i more : ℕ) → Opens (listed_trace calls line kind values i more)
  opens_listed line kind none i more = opens_zeros line i more
  opens_listed line kind (and first rest) i zero = opens_value
  opens_listed line kind (and first rest) i (suc more) = opens_then (opens_expression first)

  opens_no_threads : (line i more : ℕ) → Opens (no_threads_trace line i more)
  opens_no_threads line i zero = opens_value
  opens_no_threads line i (suc more) = opens_then opens_updates

  opens_object : (line : ℕ) (meant : Object) (value : ScopedInitializer) → Opens (object_trace calls line meant value)
  opens_object line (Local first len kind) nothing = opens_arbitrary line kind first len
  opens_object line (Local first len kind) (single value) = opens_then (opens_expression value)
  opens_object line (Local first len kind) (listed values) = opens_listed line kind values first len
  opens_object line (Cell first len kind) value = opens_halts
  opens_object line (Mutex first len) value = opens_halts
  opens_object line (Cond first len) value = opens_halts
  opens_object line (Handle first len) value = opens_no_threads line first len
  opens_object line (Routine function) value = opens_halts
  opens_object line (Known name) value = opens_halts

  opens_declarators : (ds : List ScopedInitDeclarator) → Opens (declarators_trace calls ds)
  opens_declarators [] = opens_value
  opens_declarators (d ∷ ds) = opens_then (opens_object d.line d.object d.first)

  opens_test : (line : ℕ) (test : Option ScopedExpression) (next : Bool → Behaviour Locals Flow) → Opens (next true) → Opens (test_trace calls line test next)
  opens_test line None next q = q
  opens_test line (Some test) next q = opens_then (opens_expression test)

  opens_return : (value : Option ScopedExpression) → Opens (return_trace calls value)
  opens_return None = opens_value
  opens_return (Some value) = opens_gives (opens_expression value)

  opens_turns : (line : ℕ) (test change : Option ScopedExpression) (body : Behaviour Locals Flow) → Opens body → (left : ℕ) → Opens (turns (test_trace calls line test) body (change_trace calls change) left)
  opens_turns line test change body p zero = opens_test line test (λ again. picks again halts (ends_with normal)) opens_halts
  opens_turns line test change body p (suc left) =
      opens_test line test (λ again. picks again (body and_then λ flow. turned flow (change_trace calls change (turns (test_trace calls line test) body (change_trace calls change) left))) (ends_with normal)) (opens_then p)

  opens_do_turns : (line : ℕ) (test : Option ScopedExpression) (body : Behaviour Locals Flow) → Opens body → (left : ℕ) → Opens (do_turns (test_trace calls line test) body left)
  opens_do_turns line test body p zero = opens_halts
  opens_do_turns line test body p (suc left) = opens_then p

  mutual
    opens_statement : (n : ℕ) (s : ScopedStatement) → Opens (statement_trace calls n s)
    opens_statement n empty = opens_value
    opens_statement n (eval value) = opens_gives (opens_expression value)
    opens_statement n (block parts) = opens_statements n parts
    opens_statement n (declare of) = opens_declarators of.declarators
    opens_statement n (when line test first second) = opens_then (opens_expression test)
    opens_statement n (while line test body) = opens_turns line (Some test) None (statement_trace calls n body) (opens_statement n body) n
    opens_statement n (do_while line body test) = opens_do_turns line (Some test) (statement_trace calls n body) (opens_statement n body) n
    opens_statement n (for line first test change body) = opens_then (opens_statement n first)
    opens_statement n (break line) = opens_value
    opens_statement n (continue line) = opens_value
    opens_statement n (return line value) = opens_return value
    opens_statement n (label name of) = opens_statement n of

    opens_statements : (n : ℕ) (ss : ScopedStatements) → Opens (statements_trace calls n ss)
    opens_statements n nil = opens_value
    opens_statements n (cons first rest) = opens_then (opens_statement n first)

-- ---- what one code may do another may do

pub record Covers {S A : Type 0} (one two : Behaviour S A) : Type 0 where
  pub covers : (before : S) (acts : List Act) (outcome : Outcome S A) → one before acts outcome → two before acts outcome

module _ {S A : Type 0} where
  covers_same : {code : Behaviour S A} → Covers code code
  covers_same = record { covers = λ s acts o h. h }

  covers_picks : (b : Bool) {one two three four : Behaviour S A} → Covers one two → Covers three four → Covers (picks b one three) (picks b two four)
  covers_picks true p q = p
  covers_picks false p q = q

module _ {S A B : Type 0} where
  covers_then : {one two : Behaviour S A} {next last : A → Behaviour S B} → Covers one two → ((v : A) → Covers (next v) (last v)) → Covers (one and_then next) (two and_then last)
  covers_then {one} {two} {next} {last} p q = record { covers = of }
    where
      on : (s : S) (acts : List Act) (o : Outcome S B) → GoesOn one next s acts o → GoesOn two last s acts o
      on s acts o g = record { value = g.value; middle = g.middle; front = g.front; rest = g.rest; joined = g.joined; starts = p.covers s g.front (done g.middle g.value) g.starts; goes = (q g.value).covers g.middle g.rest o g.goes }

      of : (s : S) (acts : List Act) (o : Outcome S B) → (one and_then next) s acts o → (two and_then last) s acts o
      of s acts (done t v) h = record { is = on s acts (done t v) h.is }
      of s acts (exits w) h = elim h.is [ inl x ↦ record { is = inl (p.covers s acts (exits w) x) } | inr g ↦ record { is = inr (on s acts (exits w) g) } ]
      of s acts cut h = elim h.is [ inl x ↦ record { is = inl (p.covers s acts cut x) } | inr g ↦ record { is = inr (on s acts cut g) } ]

  covers_gives : {one two : Behaviour S A} {f : A → B} → Covers one two → Covers (one gives f) (two gives f)
  covers_gives {one} {two} {f} p = record { covers = of }
    where
      of : (s : S) (acts : List Act) (o : Outcome S B) → (one gives f) s acts o → (two gives f) s acts o
      of s acts (done t v) h = record { is = (h.is.0, p.covers s acts (done t h.is.0) h.is.1, h.is.2) }
      of s acts (exits w) h = record { is = p.covers s acts (exits w) h.is }
      of s acts cut h = record { is = p.covers s acts cut h.is }

module _ {A : Type 0} where
  covers_frame : {arguments : List ℕ} {one two : Behaviour Locals A} → Covers one two → Covers (in_frame arguments one) (in_frame arguments two)
  covers_frame {arguments} {one} {two} p = record { covers = of }
    where
      of : (s : Locals) (acts : List Act) (o : Outcome Locals A) → in_frame arguments one s acts o → in_frame arguments two s acts o
      of s acts (done t v) h = record { is = (h.is.0, p.covers (entered arguments s) acts (done h.is.0 v) h.is.1, h.is.2) }
      of s acts (exits w) h = record { is = p.covers (entered arguments s) acts (exits w) h.is }
      of s acts cut h = record { is = p.covers (entered arguments s) acts cut h.is }

covers_decides : {A : Type 0} {line : ℕ} {one two : Behaviour Locals ℕ} {next last : Bool → Behaviour Locals A} → Covers one two → ((b : Bool) → Covers (next b) (last b)) → Covers (decides line one next) (decides line two last)
covers_decides p q = covers_then p (λ v. covers_then covers_same q)

covers_behind : (line : ℕ) (op : Binary) (left right : IntType) (one two : Behaviour Locals ℕ) (a : ℕ) → Covers one two → Covers (behind_first line op left right one a) (behind_first line op left right two a)
covers_behind line ops.Both left right one two a q = covers_then covers_same (λ v. covers_picks (is_true a) (covers_gives q) covers_same)
covers_behind line ops.Either left right one two a q = covers_then covers_same (λ v. covers_picks (is_true a) covers_same (covers_gives q))
covers_behind line op left right one two a q = covers_then q (λ b. covers_same)

-- calls that do what others do, with the same parameters
pub record CoverCalls (one two : Calls) : Type 0 where
  pub covers : (function : ℕ) → Covers (one.does function) (two.does function)
  pub params : (function : ℕ) → one.params function ≡ two.params function

module _ (one two : Calls) (c : CoverCalls one two) where
  covers_called : (kinds : List IntType) (function : ℕ) (values : List ℕ)
      → Covers (in_frame (passed kinds (one.params function) values) (one.does function)) (in_frame (passed kinds (two.params function) values) (two.does function))
  covers_called kinds function values =
      subst (λ (x : List IntType). Covers (in_frame (passed kinds (one.params function) values) (one.does function)) (in_frame (passed kinds x values) (two.does function))) (c.params function) (covers_frame (c.covers function))

  mutual
    pub covers_expression : (e : ScopedExpression) → Covers (expression_trace one e) (expression_trace two e)
    covers_expression (constant line value form kind) = covers_same
    covers_expression (null line kind) = covers_same
    covers_expression (text line kind) = covers_same
    covers_expression (object (lvalue line meant index checked) kind) =
        covers_then (covers_place (lvalue line meant index checked)) (λ i. covers_same)
    covers_expression (address line of kind) = covers_place of
    covers_expression (paren line inner kind) = covers_expression inner
    covers_expression (unary line op of kind) = covers_gives (covers_expression of)
    covers_expression (cast line to of kind) = covers_gives (covers_expression of)
    covers_expression (binary line op left right kind) =
        covers_then (covers_expression left)
        (λ a. covers_behind line op (kind_of left) (kind_of right) (expression_trace one right) (expression_trace two right) a (covers_expression right))
    covers_expression (choose line test first second kind) =
        covers_decides (covers_expression test)
        (λ yes. covers_picks yes (covers_gives (covers_expression first)) (covers_gives (covers_expression second)))
    covers_expression (assign line None (lvalue place meant index checked) value kind) =
        covers_then (covers_index index) (λ i. covers_then (covers_expression value)
        (λ v. covers_same))
    covers_expression (assign line (Some op) (lvalue place meant index checked) value kind) =
        covers_then (covers_place (lvalue place meant index checked)) (λ i. covers_then covers_same
        (λ old. covers_then (covers_expression value) (λ b. covers_same)))
    covers_expression (step line (lvalue place meant index checked) up before kind) =
        covers_then (covers_place (lvalue place meant index checked)) (λ i. covers_same)
    covers_expression (call line (Routine function) args kind) =
        covers_then (covers_arguments args) (λ values. covers_then covers_same (λ w. covers_called (kinds_of args) function values))
    covers_expression (call line (Known name) args kind) =
        covers_then (covers_objects args) (λ objects. covers_then (covers_values args) (λ values. covers_same))
    covers_expression (call line (Local first len k) args kind) = covers_same
    covers_expression (call line (Cell first len k) args kind) = covers_same
    covers_expression (call line (Mutex first len) args kind) = covers_same
    covers_expression (call line (Cond first len) args kind) = covers_same
    covers_expression (call line (Handle first len) args kind) = covers_same

    covers_arguments : (args : ScopedExpressions) → Covers (arguments_trace one args) (arguments_trace two args)
    covers_arguments none = covers_same
    covers_arguments (and first rest) = covers_then (covers_expression first) (λ v. covers_gives (covers_arguments rest))

    covers_objects : (args : ScopedExpressions) → Covers (objects_trace one args) (objects_trace two args)
    covers_objects none = covers_same
    covers_objects (and first rest) =
        covers_picks (is_object_argument first) (covers_then (covers_handed first) (λ o. covers_gives (covers_objects rest))) (covers_objects rest)

    covers_values : (args : ScopedExpressions) → Covers (values_trace one args) (values_trace two args)
    covers_values none = covers_same
    covers_values (and first rest) =
        covers_picks (is_object_argument first) (covers_values rest) (covers_then (covers_expression first) (λ v. covers_gives (covers_values rest)))

    covers_handed : (e : ScopedExpression) → Covers (handed_trace one e) (handed_trace two e)
    covers_handed (address line of kind) = covers_gives (covers_place of)
    covers_handed (object of kind) = covers_gives (covers_place of)
    covers_handed (constant line value form kind) = covers_same
    covers_handed (null line kind) = covers_same
    covers_handed (text line kind) = covers_same
    covers_handed (paren line inner kind) = covers_same
    covers_handed (unary line op of kind) = covers_same
    covers_handed (cast line to of kind) = covers_same
    covers_handed (binary line op left right kind) = covers_same
    covers_handed (choose line test first second kind) = covers_same
    covers_handed (assign line op to value kind) = covers_same
    covers_handed (step line of up before kind) = covers_same
    covers_handed (call line callee args kind) = covers_same

    covers_place : (of : Lvalue) → Covers (place_trace one of) (place_trace two of)
    covers_place (lvalue line meant index checked) =
        covers_then (covers_index index) (λ i. covers_same)

    covers_index : (index : ScopedIndex) → Covers (index_trace one index) (index_trace two index)
    covers_index whole = covers_same
    covers_index (element index) = covers_expression index

  -- ---- declarations

  covers_listed : (line : ℕ) (kind : IntType) (values : ScopedExpressions) (i more : ℕ) → Covers (listed_trace one line kind values i more) (listed_trace two line kind values i more)
  covers_listed line kind none i more = covers_same
  covers_listed line kind (and first rest) i zero = covers_same
  covers_listed line kind (and first rest) i (suc more) =
      covers_then (covers_expression first) (λ v. covers_then covers_same (λ w. covers_listed line kind rest (suc i) more))

  covers_integer : (line first len : ℕ) (kind : IntType) (value : ScopedInitializer) → Covers (integer_trace one line first len kind value) (integer_trace two line first len kind value)
  covers_integer line first len kind nothing = covers_same
  covers_integer line first len kind (single value) = covers_then (covers_expression value) (λ v. covers_same)
  covers_integer line first len kind (listed values) = covers_listed line kind values first len

  covers_object : (line : ℕ) (meant : Object) (value : ScopedInitializer) → Covers (object_trace one line meant value) (object_trace two line meant value)
  covers_object line (Local first len kind) value = covers_integer line first len kind value
  covers_object line (Cell first len kind) value = covers_same
  covers_object line (Mutex first len) value = covers_same
  covers_object line (Cond first len) value = covers_same
  covers_object line (Handle first len) value = covers_same
  covers_object line (Routine function) value = covers_same
  covers_object line (Known name) value = covers_same

  covers_declarators : (ds : List ScopedInitDeclarator) → Covers (declarators_trace one ds) (declarators_trace two ds)
  covers_declarators [] = covers_same
  covers_declarators (d ∷ ds) = covers_then (covers_object d.line d.object d.first) (λ w. covers_declarators ds)

  -- ---- statements

  covers_led : (flow : Flow) {rest last : Behaviour Locals Flow} → Covers rest last → Covers (led_on flow rest) (led_on flow last)
  covers_led normal p = p
  covers_led breaks p = covers_same
  covers_led continues p = covers_same
  covers_led (returns kind value) p = covers_same

  covers_turned : (flow : Flow) {rest last : Behaviour Locals Flow} → Covers rest last → Covers (turned flow rest) (turned flow last)
  covers_turned normal p = p
  covers_turned breaks p = covers_same
  covers_turned continues p = p
  covers_turned (returns kind value) p = covers_same

  covers_test : (line : ℕ) (test : Option ScopedExpression) (next last : Bool → Behaviour Locals Flow) → ((b : Bool) → Covers (next b) (last b)) → Covers (test_trace one line test next) (test_trace two line test last)
  covers_test line None next last q = q true
  covers_test line (Some test) next last q = covers_decides (covers_expression test) q

  covers_change : (change : Option ScopedExpression) (rest last : Behaviour Locals Flow) → Covers rest last → Covers (change_trace one change rest) (change_trace two change last)
  covers_change None rest last p = p
  covers_change (Some change) rest last p = covers_then (covers_expression change) (λ v. p)

  covers_turns : (line : ℕ) (test change : Option ScopedExpression) (body last : Behaviour Locals Flow) → Covers body last → (left : ℕ)
      → Covers (turns (test_trace one line test) body (change_trace one change) left) (turns (test_trace two line test) last (change_trace two change) left)
  covers_turns line test change body last p zero =
      covers_test line test (λ again. picks again halts (ends_with normal)) (λ again. picks again halts (ends_with normal)) (λ again. covers_same)
  covers_turns line test change body last p (suc left) =
      covers_test line test
      (λ again. picks again (body and_then λ flow. turned flow (change_trace one change (turns (test_trace one line test) body (change_trace one change) left))) (ends_with normal))
      (λ again. picks again (last and_then λ flow. turned flow (change_trace two change (turns (test_trace two line test) last (change_trace two change) left))) (ends_with normal))
      (λ again. covers_picks again
      (covers_then p (λ flow. covers_turned flow (covers_change change (turns (test_trace one line test) body (change_trace one change) left) (turns (test_trace two line test) last (change_trace two change) left) (covers_turns line test change body last p left))))
      covers_same)

  covers_do_turns : (line : ℕ) (test : Option ScopedExpression) (body last : Behaviour Locals Flow) → Covers body last → (left : ℕ)
      → Covers (do_turns (test_trace one line test) body left) (do_turns (test_trace two line test) last left)
  covers_do_turns line test body last p zero = covers_same
  covers_do_turns line test body last p (suc left) =
      covers_then p (λ flow. covers_turned flow
      (covers_test line test (λ again. picks again (do_turns (test_trace one line test) body left) (ends_with normal)) (λ again. picks again (do_turns (test_trace two line test) last left) (ends_with normal))
      (λ again. covers_picks again (covers_do_turns line test body last p left) covers_same)))

  covers_return : (value : Option ScopedExpression) → Covers (return_trace one value) (return_trace two value)
  covers_return None = covers_same
  covers_return (Some value) = covers_gives (covers_expression value)

  mutual
    pub covers_statement : (n : ℕ) (s : ScopedStatement) → Covers (statement_trace one n s) (statement_trace two n s)
    covers_statement n empty = covers_same
    covers_statement n (eval value) = covers_gives (covers_expression value)
    covers_statement n (block parts) = covers_statements n parts
    covers_statement n (declare of) = covers_declarators of.declarators
    covers_statement n (when line test first second) =
        covers_decides (covers_expression test) (λ yes. covers_picks yes (covers_statement n first) (covers_branch n second))
    covers_statement n (while line test body) = covers_turns line (Some test) None (statement_trace one n body) (statement_trace two n body) (covers_statement n body) n
    covers_statement n (do_while line body test) = covers_do_turns line (Some test) (statement_trace one n body) (statement_trace two n body) (covers_statement n body) n
    covers_statement n (for line first test change body) =
        covers_then (covers_statement n first)
        (λ flow. covers_led flow (covers_turns line test change (statement_trace one n body) (statement_trace two n body) (covers_statement n body) n))
    covers_statement n (break line) = covers_same
    covers_statement n (continue line) = covers_same
    covers_statement n (return line value) = covers_return value
    covers_statement n (label name of) = covers_statement n of

    covers_branch : (n : ℕ) (b : ScopedBranch) → Covers (branch_trace one n b) (branch_trace two n b)
    covers_branch n absent = covers_same
    covers_branch n (branch of) = covers_statement n of

    covers_statements : (n : ℕ) (ss : ScopedStatements) → Covers (statements_trace one n ss) (statements_trace two n ss)
    covers_statements n nil = covers_same
    covers_statements n (cons first rest) = covers_then (covers_statement n first) (λ flow. covers_led flow (covers_statements n rest))

-- ---- calls of a program

pub opens_calls : (p : ScopedProgram) (n depth function : ℕ) → Opens ((calls_within p n depth).does function)
opens_calls p n zero function = opens_halts
opens_calls p n (suc depth) function = opens_gives (opens_statement (calls_within p n depth) n (function_at p function).body)

none_covers : {S A : Type 0} {code : Behaviour S A} → Opens code → Covers halts code
none_covers {S} {A} {code} p = record { covers = of }
  where
    of : (s : S) (acts : List Act) (o : Outcome S A) → halts s acts o → code s acts o
    of s acts (done t v) h = absurd h.is
    of s acts (exits w) h = absurd h.is
    of s acts cut h = subst (λ (x : List Act). code s x cut) (sym h.is) (p.opens s)

-- calls that may go deeper
covers_deeper : (p : ScopedProgram) (n depth deep : ℕ) → depth ≤ deep → CoverCalls (calls_within p n depth) (calls_within p n deep)
covers_deeper p n zero zero h = record { covers = λ function. covers_same; params = λ function. refl }
covers_deeper p n zero (suc deep) h = record { covers = λ function. none_covers (opens_calls p n (suc deep) function); params = λ function. refl }
covers_deeper p n (suc depth) zero h = absurd (omega (arith, h))
covers_deeper p n (suc depth) (suc deep) h = record {
  covers = λ function. covers_gives (covers_statement (calls_within p n depth) (calls_within p n deep) (covers_deeper p n depth deep (omega (arith, h))) n (function_at p function).body);
  params = λ function. refl;
}

-- What a function may do where its calls go so deep, it may do where they go deeper.
pub deeper_covers : (p : ScopedProgram) (n depth deep : ℕ) → depth ≤ deep → (function : ℕ) → Covers ((calls_within p n depth).does function) ((calls_within p n deep).does function)
deeper_covers p n depth deep h function = (covers_deeper p n depth deep h).covers function
