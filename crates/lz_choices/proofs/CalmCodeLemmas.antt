-- Code without a choice is calm: each way in which code may go, from expressions to calls at any depth.
use Rattle.std.proofs.Common.{◌≡◌, ℕ, zero, suc, Bool, true, false, List, [], ◌∷◌, Option, Some, None, slice_index, slice_index_or, nat_lt, refl}
use Rattle.lz_base.specs.declared.word.BreakKind.{BreakKind}
use Rattle.lz_base.specs.declared.word.BreakKind.TheVariants as kinds
use Rattle.lz_base.specs.declared.word.IntType.{IntType}
use Rattle.lz_base.specs.Words.{is_true, truth, converted}
use Rattle.lz_base.specs.declared.operator.Binary.{Binary}
use Rattle.lz_base.specs.declared.operator.Binary.TheVariants as ops
use Rattle.lz_tree.specs.declared.scoped.KnownName.{KnownName}
use Rattle.lz_tree.specs.declared.scoped.KnownName.TheVariants as known
use Rattle.lz_tree.specs.declared.scoped.Object.{Object}
use Rattle.lz_tree.specs.declared.scoped.Object.TheVariants.{Local, Cell, Mutex, Cond, Handle, Routine, Known}
use Rattle.lz_tree.specs.ScopedTrees.{ScopedExpression, constant, null, text, object, address, paren, unary, cast, binary, choose, assign, step, call, Lvalue, lvalue, ScopedIndex, whole, element, ScopedExpressions, none, and, ScopedInitializer, nothing, single, listed, ScopedInitDeclarator, ScopedStatement, empty, eval, block, declare, when, while, do_while, for, break, continue, return, label, ScopedBranch, absent, branch, ScopedStatements, nil, cons, ScopedDefinition, ScopedProgram}
use Rattle.lz_model.specs.Behaviours.{Behaviour, ends_with, halts, ◌and_then◌, picks}
use Rattle.lz_model.specs.CodeTraces.{Locals, Calls, checks, assumes, read_at, write_at, needs, bounds, checks_index, kind_of, is_division, checks_divisor, decides, behind_first, known_trace, locs, expression_trace, arguments_trace, objects_trace, values_trace, handed_trace, place_trace, index_trace, is_object_argument, len_of, kind_of_object, right_operand, assigned, stepped, Flow, normal, breaks, continues, returns, zeros_trace, listed_trace, no_threads_trace, integer_trace, object_trace, declarators_trace, led_on, turned, turns, do_turns, test_trace, change_trace, return_trace, statement_trace, branch_trace, statements_trace}
use Rattle.lz_model.specs.Programs.{function_at, calls_within}
use Rattle.lz_choices.specs.Choices.{first_of_two, in_known_name, in_expression, in_place, in_index, in_expressions, in_option, in_object, in_declarator, in_declarators, in_statement, in_branch, in_statements, in_functions, first_choice}
use Rattle.lz_choices.proofs.CalmLemmas.{Calm, calm_then, calm_gives, calm_value, calm_halts, calm_leaves, calm_updates, calm_tells, calm_picks, calm_chooses, calm_waits, calm_frame}

-- ---- neither of two parts has a choice

left : (a b : Option ℕ) → first_of_two a b ≡ None → a ≡ None
left None b e = refl
left (Some line) b e = e

right : (a b : Option ℕ) → first_of_two a b ≡ None → b ≡ None
right None b e = e
right (Some line) b e = absurd cc

-- ---- expressions

calm_checks : (line value : ℕ) (kind : BreakKind) → Calm (checks line value kind)
calm_checks line zero kind = calm_then (calm_updates refl) (λ v. calm_halts)
calm_checks line (suc value) kind = calm_updates refl

calm_assumes : (line value : ℕ) → Calm (assumes line value)
calm_assumes line zero = calm_then (calm_updates refl) (λ v. calm_halts)
calm_assumes line (suc value) = calm_updates refl

calm_read : (line : ℕ) (meant : Object) (i : ℕ) → Calm (read_at line meant i)
calm_read line (Local first len kind) i = calm_tells refl
calm_read line (Cell first len kind) i = calm_chooses (λ v. calm_updates refl)
calm_read line (Mutex first len) i = calm_halts
calm_read line (Cond first len) i = calm_halts
calm_read line (Handle first len) i = calm_tells refl
calm_read line (Routine function) i = calm_value
calm_read line (Known name) i = calm_halts

calm_write : (line : ℕ) (meant : Object) (i v : ℕ) → Calm (write_at line meant i v)
calm_write line (Local first len kind) i v = calm_updates refl
calm_write line (Cell first len kind) i v = calm_updates refl
calm_write line (Mutex first len) i v = calm_halts
calm_write line (Cond first len) i v = calm_halts
calm_write line (Handle first len) i v = calm_halts
calm_write line (Routine function) i v = calm_halts
calm_write line (Known name) i v = calm_halts

calm_needs : (fits : Bool) → Calm (needs fits)
calm_needs true = calm_value
calm_needs false = calm_halts

calm_bounds : (line : ℕ) (checked fits : Bool) → Calm (bounds line checked fits)
calm_bounds line true fits = calm_needs fits
calm_bounds line false fits = calm_checks line (truth fits) kinds.Bounds

calm_checks_index : (line : ℕ) (meant : Object) (index : ScopedIndex) (checked : Bool) (i : ℕ) → Calm (checks_index line meant index checked i)
calm_checks_index line meant whole checked i = calm_value
calm_checks_index line meant (element index) checked i = calm_bounds line checked (nat_lt i (len_of meant))

calm_divisor : (line : ℕ) (op : Binary) (divisor : ℕ) → Calm (checks_divisor line op divisor)
calm_divisor line op divisor = calm_picks (is_division op) (calm_checks line divisor kinds.DivZero) calm_value

calm_decides : {A : Type 0} {line : ℕ} {test : Behaviour Locals ℕ} {next : Bool → Behaviour Locals A} → Calm test → ((b : Bool) → Calm (next b)) → Calm (decides line test next)
calm_decides p q = calm_then p (λ v. calm_then (calm_updates refl) q)

calm_behind : (line : ℕ) (op : Binary) (one two : IntType) (second : Behaviour Locals ℕ) (a : ℕ) → Calm second → Calm (behind_first line op one two second a)
calm_behind line ops.Both one two second a q = calm_then (calm_updates refl) (λ v. calm_picks (is_true a) (calm_gives q) calm_value)
calm_behind line ops.Either one two second a q = calm_then (calm_updates refl) (λ v. calm_picks (is_true a) calm_value (calm_gives q))
calm_behind line op one two second a q = calm_then q (λ b. calm_gives (calm_divisor line op (right_operand op one two b)))

calm_known : (line : ℕ) (name : KnownName) (objects values : List ℕ) → in_known_name name line ≡ None → Calm (known_trace line name objects values)
calm_known line known.Assert objects values e = calm_checks line (slice_index values 0) kinds.Assert
calm_known line known.Assume objects values e = calm_assumes line (slice_index values 0)
calm_known line known.NondetInt objects values e = absurd cc
calm_known line known.NondetUint objects values e = absurd cc
calm_known line known.Error objects values e = calm_checks line 0 kinds.Reached
calm_known line known.ReachError objects values e = calm_checks line 0 kinds.Reached
calm_known line known.Abort objects values e = calm_assumes line 0
calm_known line known.AtomicBegin objects values e = calm_updates refl
calm_known line known.AtomicEnd objects values e = calm_updates refl
calm_known line known.Create objects values e = absurd cc
calm_known line known.Join objects values e = calm_then (calm_tells refl) (λ d. calm_updates refl)
calm_known line known.Exit objects values e = calm_leaves
calm_known line known.MutexInit objects values e = calm_updates refl
calm_known line known.MutexDestroy objects values e = calm_value
calm_known line known.MutexLock objects values e = calm_updates refl
calm_known line known.MutexUnlock objects values e = calm_updates refl
calm_known line known.CondInit objects values e = calm_value
calm_known line known.CondDestroy objects values e = calm_value
calm_known line known.CondWait objects values e = calm_waits refl refl
calm_known line known.CondSignal objects values e = calm_chooses (λ woken. calm_updates refl)
calm_known line known.CondBroadcast objects values e = calm_updates refl
calm_known line known.Printf objects values e = calm_value

calm_locs : (line : ℕ) (values : List ℕ) → Calm (locs line values)
calm_locs line [] = calm_value
calm_locs line (v ∷ vs) = calm_then (calm_updates refl) (λ w. calm_locs line vs)

-- calls that are calm
pub record CalmCalls (calls : Calls) : Type 0 where
  pub calm : (function : ℕ) → Calm (calls.does function)

mutual
  calm_expression : (calls : Calls) → CalmCalls calls → (e : ScopedExpression) → in_expression e ≡ None → Calm (expression_trace calls e)
  calm_expression calls c (constant line value form kind) h = calm_value
  calm_expression calls c (null line kind) h = calm_value
  calm_expression calls c (text line kind) h = calm_value
  calm_expression calls c (object (lvalue line meant index checked) kind) h =
      calm_then (calm_place calls c (lvalue line meant index checked) h) (λ i. calm_read line meant i)
  calm_expression calls c (address line of kind) h = calm_place calls c of h
  calm_expression calls c (paren line inner kind) h = calm_expression calls c inner h
  calm_expression calls c (unary line op of kind) h = calm_gives (calm_expression calls c of h)
  calm_expression calls c (cast line to of kind) h = calm_gives (calm_expression calls c of h)
  calm_expression calls c (binary line op one two kind) h =
      let second = calm_expression calls c two (right (in_expression one) (in_expression two) h) in
      calm_then (calm_expression calls c one (left (in_expression one) (in_expression two) h))
      (λ a. calm_behind line op (kind_of one) (kind_of two) (expression_trace calls two) a second)
  calm_expression calls c (choose line test one two kind) h =
      let rest = right (in_expression test) (first_of_two (in_expression one) (in_expression two)) h in
      let first = calm_expression calls c one (left (in_expression one) (in_expression two) rest) in
      let second = calm_expression calls c two (right (in_expression one) (in_expression two) rest) in
      calm_decides (calm_expression calls c test (left (in_expression test) (first_of_two (in_expression one) (in_expression two)) h))
      (λ yes. calm_picks yes (calm_gives first) (calm_gives second))
  calm_expression calls c (assign line None (lvalue place meant index checked) value kind) h =
      let worth = calm_expression calls c value (right (in_index index) (in_expression value) h) in
      calm_then (calm_index calls c index (left (in_index index) (in_expression value) h)) (λ i. calm_then worth
      (λ v. calm_then (calm_checks_index place meant index checked i) (λ w. calm_write line meant i (converted v (kind_of value) (kind_of_object meant)))))
  calm_expression calls c (assign line (Some op) (lvalue place meant index checked) value kind) h =
      let worth = calm_expression calls c value (right (in_index index) (in_expression value) h) in
      calm_then (calm_place calls c (lvalue place meant index checked) (left (in_index index) (in_expression value) h)) (λ i. calm_then (calm_read line meant i)
      (λ old. calm_then worth (λ b. calm_then (calm_divisor line op (right_operand op (kind_of_object meant) (kind_of value) b))
      (λ w. calm_write line meant i (assigned op (kind_of_object meant) (kind_of value) old b)))))
  calm_expression calls c (step line (lvalue place meant index checked) up before kind) h =
      calm_then (calm_place calls c (lvalue place meant index checked) h) (λ i. calm_then (calm_read line meant i)
      (λ old. calm_gives (calm_write line meant i (stepped up (kind_of_object meant) old))))
  calm_expression calls c (call line (Routine function) args kind) h =
      calm_then (calm_arguments calls c args h) (λ values. calm_then (calm_locs line values) (λ w. calm_frame (c.calm function)))
  calm_expression calls c (call line (Known name) args kind) h =
      let named = left (in_known_name name line) (in_expressions args) h in
      let rest = right (in_known_name name line) (in_expressions args) h in
      calm_then (calm_objects calls c args rest) (λ objects. calm_then (calm_values calls c args rest) (λ values. calm_known line name objects values named))
  calm_expression calls c (call line (Local first len k) args kind) h = calm_halts
  calm_expression calls c (call line (Cell first len k) args kind) h = calm_halts
  calm_expression calls c (call line (Mutex first len) args kind) h = calm_halts
  calm_expression calls c (call line (Cond first len) args kind) h = calm_halts
  calm_expression calls c (call line (Handle first len) args kind) h = calm_halts

  calm_arguments : (calls : Calls) → CalmCalls calls → (args : ScopedExpressions) → in_expressions args ≡ None → Calm (arguments_trace calls args)
  calm_arguments calls c none h = calm_value
  calm_arguments calls c (and first rest) h =
      let more = calm_arguments calls c rest (right (in_expression first) (in_expressions rest) h) in
      calm_then (calm_expression calls c first (left (in_expression first) (in_expressions rest) h)) (λ v. calm_gives more)

  calm_objects : (calls : Calls) → CalmCalls calls → (args : ScopedExpressions) → in_expressions args ≡ None → Calm (objects_trace calls args)
  calm_objects calls c none h = calm_value
  calm_objects calls c (and first rest) h =
      let more = calm_objects calls c rest (right (in_expression first) (in_expressions rest) h) in
      calm_picks (is_object_argument first)
      (calm_then (calm_handed calls c first (left (in_expression first) (in_expressions rest) h)) (λ o. calm_gives more)) more

  calm_values : (calls : Calls) → CalmCalls calls → (args : ScopedExpressions) → in_expressions args ≡ None → Calm (values_trace calls args)
  calm_values calls c none h = calm_value
  calm_values calls c (and first rest) h =
      let more = calm_values calls c rest (right (in_expression first) (in_expressions rest) h) in
      calm_picks (is_object_argument first) more
      (calm_then (calm_expression calls c first (left (in_expression first) (in_expressions rest) h)) (λ v. calm_gives more))

  calm_handed : (calls : Calls) → CalmCalls calls → (e : ScopedExpression) → in_expression e ≡ None → Calm (handed_trace calls e)
  calm_handed calls c (address line of kind) h = calm_gives (calm_place calls c of h)
  calm_handed calls c (object of kind) h = calm_gives (calm_place calls c of h)
  calm_handed calls c (constant line value form kind) h = calm_halts
  calm_handed calls c (null line kind) h = calm_halts
  calm_handed calls c (text line kind) h = calm_halts
  calm_handed calls c (paren line inner kind) h = calm_halts
  calm_handed calls c (unary line op of kind) h = calm_halts
  calm_handed calls c (cast line to of kind) h = calm_halts
  calm_handed calls c (binary line op one two kind) h = calm_halts
  calm_handed calls c (choose line test one two kind) h = calm_halts
  calm_handed calls c (assign line op to value kind) h = calm_halts
  calm_handed calls c (step line of up before kind) h = calm_halts
  calm_handed calls c (call line callee args kind) h = calm_halts

  calm_place : (calls : Calls) → CalmCalls calls → (of : Lvalue) → in_place of ≡ None → Calm (place_trace calls of)
  calm_place calls c (lvalue line meant index checked) h =
      calm_then (calm_index calls c index h) (λ i. calm_gives (calm_checks_index line meant index checked i))

  calm_index : (calls : Calls) → CalmCalls calls → (index : ScopedIndex) → in_index index ≡ None → Calm (index_trace calls index)
  calm_index calls c whole h = calm_value
  calm_index calls c (element index) h = calm_expression calls c index h

-- ---- declarations

calm_zeros : (line i more : ℕ) → Calm (zeros_trace line i more)
calm_zeros line i zero = calm_value
calm_zeros line i (suc more) = calm_then (calm_updates refl) (λ w. calm_zeros line (suc i) more)

calm_listed : (calls : Calls) → CalmCalls calls → (line : ℕ) (kind : IntType) (values : ScopedExpressions) → in_expressions values ≡ None → (i more : ℕ)
    → Calm (listed_trace calls line kind values i more)
calm_listed calls c line kind none h i more = calm_zeros line i more
calm_listed calls c line kind (and first rest) h i zero = calm_value
calm_listed calls c line kind (and first rest) h i (suc more) =
    let later = calm_listed calls c line kind rest (right (in_expression first) (in_expressions rest) h) (suc i) more in
    calm_then (calm_expression calls c first (left (in_expression first) (in_expressions rest) h)) (λ v. calm_then (calm_updates refl) (λ w. later))

calm_no_threads : (line i more : ℕ) → Calm (no_threads_trace line i more)
calm_no_threads line i zero = calm_value
calm_no_threads line i (suc more) = calm_then (calm_updates refl) (λ w. calm_no_threads line (suc i) more)

calm_integer : (calls : Calls) → CalmCalls calls → (line first len : ℕ) (kind : IntType) (value : ScopedInitializer) → in_object (Local first len kind) value line ≡ None
    → Calm (integer_trace calls line first len kind value)
calm_integer calls c line first len kind nothing h = absurd cc
calm_integer calls c line first len kind (single value) h = calm_then (calm_expression calls c value h) (λ v. calm_updates refl)
calm_integer calls c line first len kind (listed values) h = calm_listed calls c line kind values h first len

calm_object : (calls : Calls) → CalmCalls calls → (line : ℕ) (meant : Object) (value : ScopedInitializer) → in_object meant value line ≡ None → Calm (object_trace calls line meant value)
calm_object calls c line (Local first len kind) value h = calm_integer calls c line first len kind value h
calm_object calls c line (Cell first len kind) value h = calm_halts
calm_object calls c line (Mutex first len) value h = calm_halts
calm_object calls c line (Cond first len) value h = calm_halts
calm_object calls c line (Handle first len) value h = calm_no_threads line first len
calm_object calls c line (Routine function) value h = calm_halts
calm_object calls c line (Known name) value h = calm_halts

calm_declarators : (calls : Calls) → CalmCalls calls → (ds : List ScopedInitDeclarator) → in_declarators ds ≡ None → Calm (declarators_trace calls ds)
calm_declarators calls c [] h = calm_value
calm_declarators calls c (d ∷ ds) h =
    let later = calm_declarators calls c ds (right (in_declarator d) (in_declarators ds) h) in
    calm_then (calm_object calls c d.line d.object d.first (left (in_declarator d) (in_declarators ds) h)) (λ w. later)

-- ---- statements

calm_led : (flow : Flow) {rest : Behaviour Locals Flow} → Calm rest → Calm (led_on flow rest)
calm_led normal p = p
calm_led breaks p = calm_value
calm_led continues p = calm_value
calm_led (returns kind value) p = calm_value

calm_turned : (flow : Flow) {rest : Behaviour Locals Flow} → Calm rest → Calm (turned flow rest)
calm_turned normal p = p
calm_turned breaks p = calm_value
calm_turned continues p = p
calm_turned (returns kind value) p = calm_value

calm_test : (calls : Calls) → CalmCalls calls → (line : ℕ) (test : Option ScopedExpression) (next : Bool → Behaviour Locals Flow) → in_option test ≡ None → ((b : Bool) → Calm (next b)) → Calm (test_trace calls line test next)
calm_test calls c line None next h q = q true
calm_test calls c line (Some test) next h q = calm_decides (calm_expression calls c test h) q

calm_change : (calls : Calls) → CalmCalls calls → (change : Option ScopedExpression) (rest : Behaviour Locals Flow) → in_option change ≡ None → Calm rest → Calm (change_trace calls change rest)
calm_change calls c None rest h p = p
calm_change calls c (Some change) rest h p = calm_then (calm_expression calls c change h) (λ v. p)

calm_turns : (calls : Calls) → CalmCalls calls → (line : ℕ) (test change : Option ScopedExpression) (body : Behaviour Locals Flow) → in_option test ≡ None → in_option change ≡ None → Calm body → (left : ℕ)
    → Calm (turns (test_trace calls line test) body (change_trace calls change) left)
calm_turns calls c line test change body h k p zero =
    calm_test calls c line test (λ again. picks again halts (ends_with normal)) h (λ again. calm_picks again calm_halts calm_value)
calm_turns calls c line test change body h k p (suc left) =
    calm_test calls c line test
    (λ again. picks again (body and_then λ flow. turned flow (change_trace calls change (turns (test_trace calls line test) body (change_trace calls change) left))) (ends_with normal)) h
    (λ again. calm_picks again
    (calm_then p (λ flow. calm_turned flow (calm_change calls c change (turns (test_trace calls line test) body (change_trace calls change) left) k (calm_turns calls c line test change body h k p left))))
    calm_value)

calm_do_turns : (calls : Calls) → CalmCalls calls → (line : ℕ) (test : Option ScopedExpression) (body : Behaviour Locals Flow) → in_option test ≡ None → Calm body → (left : ℕ)
    → Calm (do_turns (test_trace calls line test) body left)
calm_do_turns calls c line test body h p zero = calm_halts
calm_do_turns calls c line test body h p (suc left) =
    calm_then p (λ flow. calm_turned flow
    (calm_test calls c line test (λ again. picks again (do_turns (test_trace calls line test) body left) (ends_with normal)) h
    (λ again. calm_picks again (calm_do_turns calls c line test body h p left) calm_value)))

calm_return : (calls : Calls) → CalmCalls calls → (value : Option ScopedExpression) → in_option value ≡ None → Calm (return_trace calls value)
calm_return calls c None h = calm_value
calm_return calls c (Some value) h = calm_gives (calm_expression calls c value h)

mutual
  calm_statement : (calls : Calls) → CalmCalls calls → (n : ℕ) (s : ScopedStatement) → in_statement s ≡ None → Calm (statement_trace calls n s)
  calm_statement calls c n empty h = calm_value
  calm_statement calls c n (eval value) h = calm_gives (calm_expression calls c value h)
  calm_statement calls c n (block parts) h = calm_statements calls c n parts h
  calm_statement calls c n (declare of) h = calm_declarators calls c of.declarators h
  calm_statement calls c n (when line test one two) h =
      let rest = right (in_expression test) (first_of_two (in_statement one) (in_branch two)) h in
      let first = calm_statement calls c n one (left (in_statement one) (in_branch two) rest) in
      let second = calm_branch calls c n two (right (in_statement one) (in_branch two) rest) in
      calm_decides (calm_expression calls c test (left (in_expression test) (first_of_two (in_statement one) (in_branch two)) h)) (λ yes. calm_picks yes first second)
  calm_statement calls c n (while line test body) h =
      calm_turns calls c line (Some test) None (statement_trace calls n body) (left (in_expression test) (in_statement body) h) refl
      (calm_statement calls c n body (right (in_expression test) (in_statement body) h)) n
  calm_statement calls c n (do_while line body test) h =
      calm_do_turns calls c line (Some test) (statement_trace calls n body) (right (in_statement body) (in_expression test) h)
      (calm_statement calls c n body (left (in_statement body) (in_expression test) h)) n
  calm_statement calls c n (for line first test change body) h =
      let rest = right (in_statement first) (first_of_two (in_option test) (first_of_two (in_option change) (in_statement body))) h in
      let tested = left (in_option test) (first_of_two (in_option change) (in_statement body)) rest in
      let more = right (in_option test) (first_of_two (in_option change) (in_statement body)) rest in
      let turn = calm_statement calls c n body (right (in_option change) (in_statement body) more) in
      calm_then (calm_statement calls c n first (left (in_statement first) (first_of_two (in_option test) (first_of_two (in_option change) (in_statement body))) h))
      (λ flow. calm_led flow (calm_turns calls c line test change (statement_trace calls n body) tested (left (in_option change) (in_statement body) more) turn n))
  calm_statement calls c n (break line) h = calm_value
  calm_statement calls c n (continue line) h = calm_value
  calm_statement calls c n (return line value) h = calm_return calls c value h
  calm_statement calls c n (label name of) h = calm_statement calls c n of h

  calm_branch : (calls : Calls) → CalmCalls calls → (n : ℕ) (b : ScopedBranch) → in_branch b ≡ None → Calm (branch_trace calls n b)
  calm_branch calls c n absent h = calm_value
  calm_branch calls c n (branch of) h = calm_statement calls c n of h

  calm_statements : (calls : Calls) → CalmCalls calls → (n : ℕ) (ss : ScopedStatements) → in_statements ss ≡ None → Calm (statements_trace calls n ss)
  calm_statements calls c n nil h = calm_value
  calm_statements calls c n (cons first rest) h =
      let later = calm_statements calls c n rest (right (in_statement first) (in_statements rest) h) in
      calm_then (calm_statement calls c n first (left (in_statement first) (in_statements rest) h)) (λ flow. calm_led flow later)

-- ---- calls

-- each body has no choice
body_at : (ds : List ScopedDefinition) (d : ScopedDefinition) (function : ℕ) → in_functions ds ≡ None → in_statement d.body ≡ None → in_statement (slice_index_or ds function d).body ≡ None
body_at [] d function h e = e
body_at (one ∷ rest) d zero h e = left (in_statement one.body) (in_functions rest) h
body_at (one ∷ rest) d (suc function) h e = body_at rest d function (right (in_statement one.body) (in_functions rest) h) e

-- calls of a program without a choice, of any depth
pub calm_calls : (p : ScopedProgram) → first_choice p ≡ None → (n depth : ℕ) → CalmCalls (calls_within p n depth)
calm_calls p h n zero = record { calm = λ function. calm_halts }
calm_calls p h n (suc depth) = record {
  calm = λ function. calm_gives
      (calm_statement (calls_within p n depth) (calm_calls p h n depth) n (function_at p function).body
      (body_at p.functions (record { start = false; locals = 0; params = []; gives = None; body = empty }) function h refl));
}
