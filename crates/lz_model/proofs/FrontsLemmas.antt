-- A front of what code may do is something that it may do: it was cut there.
use Rattle.std.proofs.Common.{◌≡◌, ℕ, zero, suc, ◌⊎◌, inl, inr, Bool, true, false, List, [], ◌∷◌, ◌++◌, Option, Some, None, refl, sym, ap, subst}
use Rattle.lz_base.specs.declared.word.BreakKind.{BreakKind}
use Rattle.lz_base.specs.declared.word.BreakKind.TheVariants as kinds
use Rattle.lz_base.specs.declared.word.IntType.{IntType}
use Rattle.lz_base.specs.declared.word.IntType.TheVariants as kind_types
use Rattle.lz_base.specs.Words.{is_true, truth, converted}
use Rattle.lz_base.proofs.ListLemmas.{nil_front}
use Rattle.std.specs.Prelude.{slice_index, nat_lt}
use Rattle.lz_base.specs.declared.operator.Binary.{Binary}
use Rattle.lz_base.specs.declared.operator.Binary.TheVariants as ops
use Rattle.lz_tree.specs.declared.scoped.KnownName.{KnownName}
use Rattle.lz_tree.specs.declared.scoped.KnownName.TheVariants as known
use Rattle.lz_tree.specs.declared.scoped.Object.{Object}
use Rattle.lz_tree.specs.declared.scoped.Object.TheVariants.{Local, Cell, Mutex, Cond, Handle, Routine, Known}
use Rattle.lz_tree.specs.ScopedTrees.{ScopedExpression, constant, null, text, object, address, paren, unary, cast, binary, choose, assign, step, call, Lvalue, lvalue, ScopedIndex, whole, element, ScopedExpressions, none, and, ScopedInitializer, nothing, single, listed, ScopedInitDeclarator, ScopedStatement, empty, eval, block, declare, when, while, do_while, for, break, continue, return, label, ScopedBranch, absent, branch, ScopedStatements, nil, cons, ScopedProgram}
use Rattle.lz_model.specs.Actions.{Act}
use Rattle.lz_model.specs.Behaviours.{Outcome, done, exits, cut, Behaviour, ends_with, halts, leaves, updates, tells, chooses, GoesOn, ◌and_then◌, ◌gives◌, picks}
use Rattle.lz_model.specs.CodeTraces.{Locals, entered, in_frame, Calls, checks, assumes, inputs, read_at, write_at, needs, bounds, checks_index, kind_of, is_division, checks_divisor, decides, behind_first, known_trace, locs, expression_trace, arguments_trace, objects_trace, values_trace, handed_trace, place_trace, index_trace, is_object_argument, len_of, kind_of_object, right_operand, assigned, stepped, Flow, normal, breaks, continues, returns, arbitrary_trace, zeros_trace, listed_trace, no_threads_trace, integer_trace, object_trace, declarators_trace, led_on, turned, turns, do_turns, test_trace, change_trace, return_trace, statement_trace, branch_trace, statements_trace}
use Rattle.lz_model.specs.Programs.{function_at, calls_within}

-- a front of what may be done may be done, and is cut there
pub record Fronts {S A : Type 0} (code : Behaviour S A) : Type 0 where
  pub front : (before : S) (acts more : List Act) (outcome : Outcome S A) → code before (acts ++ more) outcome → code before acts cut

tail_of : List Act → List Act
tail_of [] = []
tail_of (x ∷ xs) = xs

-- two ways to divide a list
pub splits : (a b c d : List Act) → a ++ b ≡ c ++ d → ((z : List Act) × (c ≡ a ++ z)) ⊎ ((z : List Act) × (a ≡ c ++ z) × (d ≡ z ++ b))
unfolding tail_of
splits [] b c d e = inl (c, refl)
splits (x ∷ a) b [] d e = inr (x ∷ a, refl, sym e)
splits (x ∷ a) b (y ∷ c) d e = elim (splits a b c d (ap tail_of e)) [ inl z ↦ inl (z.0, cc) | inr z ↦ inr (z.0, cc, z.2) ]

one_front : (act : Act) (a b : List Act) → a ++ b ≡ act ∷ [] → (a ≡ []) ⊎ (a ≡ act ∷ [])
unfolding tail_of
one_front act [] b e = inl refl
one_front act (x ∷ a) b e = let n : a ≡ [] = nil_front a b (ap tail_of e) in inr cc

-- ---- the ways in which code is put together

module _ {S A B : Type 0} where
  pub fronts_then : {code : Behaviour S A} {next : A → Behaviour S B} → Fronts code → ((v : A) → Fronts (next v)) → Fronts (code and_then next)
  fronts_then {code} {next} p q = record { front = λ s acts more o h. of s acts more o h }
    where
      go : (s : S) (acts more : List Act) (o : Outcome S B) → GoesOn code next s (acts ++ more) o → (code and_then next) s acts cut
      go s acts more o g = elim (splits acts more g.front g.rest g.joined) [
        | inl z ↦ record { is = inl (p.front s acts z.0 (done g.middle g.value) (subst (λ (x : List Act). code s x (done g.middle g.value)) z.1 g.starts)) }
        | inr z ↦ record {
          is = inr (record {
            value = g.value;
            middle = g.middle;
            front = g.front;
            rest = z.0;
            joined = z.1;
            starts = g.starts;
            goes = (q g.value).front g.middle z.0 more o (subst (λ (x : List Act). next g.value g.middle x o) z.2 g.goes);
          });
        }
      ]

      of : (s : S) (acts more : List Act) (o : Outcome S B) → (code and_then next) s (acts ++ more) o → (code and_then next) s acts cut
      of s acts more (done t v) h = go s acts more (done t v) h.is
      of s acts more (exits w) h = elim h.is [ inl c ↦ record { is = inl (p.front s acts more (exits w) c) } | inr g ↦ go s acts more (exits w) g ]
      of s acts more cut h = elim h.is [ inl c ↦ record { is = inl (p.front s acts more cut c) } | inr g ↦ go s acts more cut g ]

  pub fronts_gives : {code : Behaviour S A} {f : A → B} → Fronts code → Fronts (code gives f)
  fronts_gives {code} {f} p = record { front = λ s acts more o h. record { is = of s acts more o h } }
    where
      of : (s : S) (acts more : List Act) (o : Outcome S B) → (code gives f) s (acts ++ more) o → code s acts cut
      of s acts more (done t v) h = p.front s acts more (done t h.is.0) h.is.1
      of s acts more (exits w) h = p.front s acts more (exits w) h.is
      of s acts more cut h = p.front s acts more cut h.is

module _ {S A : Type 0} where
  pub fronts_value : {v : A} → Fronts {S = S} (ends_with v)
  fronts_value {v} = record { front = λ s acts more o h. record { is = of s acts more o h } }
    where
      of : (s : S) (acts more : List Act) (o : Outcome S A) → ends_with v s (acts ++ more) o → acts ≡ []
      of s acts more (done t w) h = nil_front acts more h.is.0
      of s acts more (exits w) h = absurd h.is
      of s acts more cut h = nil_front acts more h.is

  pub fronts_halts : Fronts {S = S} {A = A} halts
  fronts_halts = record { front = λ s acts more o h. record { is = of s acts more o h } }
    where
      of : (s : S) (acts more : List Act) (o : Outcome S A) → halts s (acts ++ more) o → acts ≡ []
      of s acts more (done t w) h = absurd h.is
      of s acts more (exits w) h = absurd h.is
      of s acts more cut h = nil_front acts more h.is

  pub fronts_leaves : {w : Bool} → Fronts {S = S} {A = A} (leaves w)
  fronts_leaves {w} = record { front = λ s acts more o h. record { is = of s acts more o h } }
    where
      of : (s : S) (acts more : List Act) (o : Outcome S A) → leaves w s (acts ++ more) o → acts ≡ []
      of s acts more (done t v) h = absurd h.is
      of s acts more (exits v) h = nil_front acts more h.is.0
      of s acts more cut h = nil_front acts more h.is

  pub fronts_updates : {act : Act} {f : S → S} {v : A} → Fronts (updates act f v)
  fronts_updates {act} {f} {v} = record { front = λ s acts more o h. record { is = of s acts more o h } }
    where
      of : (s : S) (acts more : List Act) (o : Outcome S A) → updates act f v s (acts ++ more) o → (acts ≡ []) ⊎ (acts ≡ act ∷ [])
      of s acts more (done t w) h = one_front act acts more h.is.0
      of s acts more (exits w) h = absurd h.is
      of s acts more cut h = elim h.is [ inl e ↦ inl (nil_front acts more e) | inr e ↦ one_front act acts more e ]

  pub fronts_tells : {act : Act} {f : S → A} → Fronts (tells act f)
  fronts_tells {act} {f} = record { front = λ s acts more o h. record { is = of s acts more o h } }
    where
      of : (s : S) (acts more : List Act) (o : Outcome S A) → tells act f s (acts ++ more) o → (acts ≡ []) ⊎ (acts ≡ act ∷ [])
      of s acts more (done t w) h = one_front act acts more h.is.0
      of s acts more (exits w) h = absurd h.is
      of s acts more cut h = elim h.is [ inl e ↦ inl (nil_front acts more e) | inr e ↦ one_front act acts more e ]

  pub fronts_picks : (b : Bool) {yes other : Behaviour S A} → Fronts yes → Fronts other → Fronts (picks b yes other)
  fronts_picks true p q = p
  fronts_picks false p q = q

module _ {S A B : Type 0} where
  pub fronts_chooses : {may : B → Type 0} {next : B → Behaviour S A} → ((v : B) → Fronts (next v)) → Fronts (chooses may next)
  fronts_chooses q = record { front = λ s acts more o h. record { value = h.value; fits = h.fits; is = (q h.value).front s acts more o h.is } }

module _ {A : Type 0} where
  pub fronts_frame : {arguments : List ℕ} {body : Behaviour Locals A} → Fronts body → Fronts (in_frame arguments body)
  fronts_frame {arguments} {body} p = record { front = λ s acts more o h. record { is = of s acts more o h } }
    where
      of : (s : Locals) (acts more : List Act) (o : Outcome Locals A) → in_frame arguments body s (acts ++ more) o → body (entered arguments s) acts cut
      of s acts more (done t v) h = p.front (entered arguments s) acts more (done h.is.0 v) h.is.1
      of s acts more (exits w) h = p.front (entered arguments s) acts more (exits w) h.is
      of s acts more cut h = p.front (entered arguments s) acts more cut h.is

-- ---- expressions

pub fronts_checks : (line value : ℕ) (kind : BreakKind) → Fronts (checks line value kind)
fronts_checks line zero kind = fronts_then fronts_updates (λ v. fronts_halts)
fronts_checks line (suc value) kind = fronts_updates

fronts_assumes : (line value : ℕ) → Fronts (assumes line value)
fronts_assumes line zero = fronts_then fronts_updates (λ v. fronts_halts)
fronts_assumes line (suc value) = fronts_updates

fronts_inputs : (line : ℕ) (kind : IntType) → Fronts (inputs line kind)
fronts_inputs line kind = fronts_chooses (λ v. fronts_updates)

fronts_read : (line : ℕ) (meant : Object) (i : ℕ) → Fronts (read_at line meant i)
fronts_read line (Local first len kind) i = fronts_tells
fronts_read line (Cell first len kind) i = fronts_chooses (λ v. fronts_updates)
fronts_read line (Mutex first len) i = fronts_halts
fronts_read line (Cond first len) i = fronts_halts
fronts_read line (Handle first len) i = fronts_tells
fronts_read line (Routine function) i = fronts_value
fronts_read line (Known name) i = fronts_halts

fronts_write : (line : ℕ) (meant : Object) (i v : ℕ) → Fronts (write_at line meant i v)
fronts_write line (Local first len kind) i v = fronts_updates
fronts_write line (Cell first len kind) i v = fronts_updates
fronts_write line (Mutex first len) i v = fronts_halts
fronts_write line (Cond first len) i v = fronts_halts
fronts_write line (Handle first len) i v = fronts_halts
fronts_write line (Routine function) i v = fronts_halts
fronts_write line (Known name) i v = fronts_halts

pub fronts_needs : (fits : Bool) → Fronts (needs fits)
fronts_needs true = fronts_value
fronts_needs false = fronts_halts

pub fronts_bounds : (line : ℕ) (checked fits : Bool) → Fronts (bounds line checked fits)
fronts_bounds line true fits = fronts_needs fits
fronts_bounds line false fits = fronts_checks line (truth fits) kinds.Bounds

pub fronts_checks_index : (line : ℕ) (meant : Object) (index : ScopedIndex) (checked : Bool) (i : ℕ) → Fronts (checks_index line meant index checked i)
fronts_checks_index line meant whole checked i = fronts_value
fronts_checks_index line meant (element index) checked i = fronts_bounds line checked (nat_lt i (len_of meant))

pub fronts_divisor : (line : ℕ) (op : Binary) (divisor : ℕ) → Fronts (checks_divisor line op divisor)
fronts_divisor line op divisor = fronts_picks (is_division op) (fronts_checks line divisor kinds.DivZero) fronts_value

fronts_decides : {A : Type 0} {line : ℕ} {test : Behaviour Locals ℕ} {next : Bool → Behaviour Locals A} → Fronts test → ((b : Bool) → Fronts (next b)) → Fronts (decides line test next)
fronts_decides p q = fronts_then p (λ v. fronts_then fronts_updates q)

fronts_behind : (line : ℕ) (op : Binary) (left right : IntType) (second : Behaviour Locals ℕ) (a : ℕ) → Fronts second → Fronts (behind_first line op left right second a)
fronts_behind line ops.Both left right second a q = fronts_then fronts_updates (λ v. fronts_picks (is_true a) (fronts_gives q) fronts_value)
fronts_behind line ops.Either left right second a q = fronts_then fronts_updates (λ v. fronts_picks (is_true a) fronts_value (fronts_gives q))
fronts_behind line op left right second a q = fronts_then q (λ b. fronts_gives (fronts_divisor line op (right_operand op left right b)))

fronts_known : (line : ℕ) (name : KnownName) (objects values : List ℕ) → Fronts (known_trace line name objects values)
fronts_known line known.Assert objects values = fronts_checks line (slice_index values 0) kinds.Assert
fronts_known line known.Assume objects values = fronts_assumes line (slice_index values 0)
fronts_known line known.NondetInt objects values = fronts_inputs line kind_types.Int
fronts_known line known.NondetUint objects values = fronts_inputs line kind_types.Unsigned
fronts_known line known.Error objects values = fronts_checks line 0 kinds.Reached
fronts_known line known.ReachError objects values = fronts_checks line 0 kinds.Reached
fronts_known line known.Abort objects values = fronts_assumes line 0
fronts_known line known.AtomicBegin objects values = fronts_updates
fronts_known line known.AtomicEnd objects values = fronts_updates
fronts_known line known.Create objects values = fronts_chooses (λ d. fronts_then fronts_updates (λ v. fronts_updates))
fronts_known line known.Join objects values = fronts_then fronts_tells (λ d. fronts_updates)
fronts_known line known.Exit objects values = fronts_leaves
fronts_known line known.MutexInit objects values = fronts_updates
fronts_known line known.MutexDestroy objects values = fronts_value
fronts_known line known.MutexLock objects values = fronts_updates
fronts_known line known.MutexUnlock objects values = fronts_updates
fronts_known line known.CondInit objects values = fronts_value
fronts_known line known.CondDestroy objects values = fronts_value
fronts_known line known.CondWait objects values = fronts_then fronts_updates (λ v. fronts_updates)
fronts_known line known.CondSignal objects values = fronts_chooses (λ woken. fronts_updates)
fronts_known line known.CondBroadcast objects values = fronts_updates
fronts_known line known.Printf objects values = fronts_value

fronts_locs : (line : ℕ) (values : List ℕ) → Fronts (locs line values)
fronts_locs line [] = fronts_value
fronts_locs line (v ∷ vs) = fronts_then fronts_updates (λ w. fronts_locs line vs)

-- calls of which each front may be done
pub record FrontCalls (calls : Calls) : Type 0 where
  pub fronts : (function : ℕ) → Fronts (calls.does function)

mutual
  pub fronts_expression : (calls : Calls) → FrontCalls calls → (e : ScopedExpression) → Fronts (expression_trace calls e)
  fronts_expression calls c (constant line value form kind) = fronts_value
  fronts_expression calls c (null line kind) = fronts_value
  fronts_expression calls c (text line kind) = fronts_value
  fronts_expression calls c (object (lvalue line meant index checked) kind) =
      fronts_then (fronts_place calls c (lvalue line meant index checked)) (λ i. fronts_read line meant i)
  fronts_expression calls c (address line of kind) = fronts_place calls c of
  fronts_expression calls c (paren line inner kind) = fronts_expression calls c inner
  fronts_expression calls c (unary line op of kind) = fronts_gives (fronts_expression calls c of)
  fronts_expression calls c (cast line to of kind) = fronts_gives (fronts_expression calls c of)
  fronts_expression calls c (binary line op left right kind) =
      fronts_then (fronts_expression calls c left)
      (λ a. fronts_behind line op (kind_of left) (kind_of right) (expression_trace calls right) a (fronts_expression calls c right))
  fronts_expression calls c (choose line test first second kind) =
      fronts_decides (fronts_expression calls c test)
      (λ yes. fronts_picks yes (fronts_gives (fronts_expression calls c first)) (fronts_gives (fronts_expression calls c second)))
  fronts_expression calls c (assign line None (lvalue place meant index checked) value kind) =
      fronts_then (fronts_index calls c index) (λ i. fronts_then (fronts_expression calls c value)
      (λ v. fronts_then (fronts_checks_index place meant index checked i) (λ w. fronts_write line meant i (converted v (kind_of value) (kind_of_object meant)))))
  fronts_expression calls c (assign line (Some op) (lvalue place meant index checked) value kind) =
      fronts_then (fronts_place calls c (lvalue place meant index checked)) (λ i. fronts_then (fronts_read line meant i)
      (λ old. fronts_then (fronts_expression calls c value) (λ b. fronts_then (fronts_divisor line op (right_operand op (kind_of_object meant) (kind_of value) b))
      (λ w. fronts_write line meant i (assigned op (kind_of_object meant) (kind_of value) old b)))))
  fronts_expression calls c (step line (lvalue place meant index checked) up before kind) =
      fronts_then (fronts_place calls c (lvalue place meant index checked)) (λ i. fronts_then (fronts_read line meant i)
      (λ old. fronts_gives (fronts_write line meant i (stepped up (kind_of_object meant) old))))
  fronts_expression calls c (call line (Routine function) args kind) =
      fronts_then (fronts_arguments calls c args) (λ values. fronts_then (fronts_locs line values) (λ w. fronts_frame (c.fronts function)))
  fronts_expression calls c (call line (Known name) args kind) =
      fronts_then (fronts_objects calls c args) (λ objects. fronts_then (fronts_values calls c args) (λ values. fronts_known line name objects values))
  fronts_expression calls c (call line (Local first len k) args kind) = fronts_halts
  fronts_expression calls c (call line (Cell first len k) args kind) = fronts_halts
  fronts_expression calls c (call line (Mutex first len) args kind) = fronts_halts
  fronts_expression calls c (call line (Cond first len) args kind) = fronts_halts
  fronts_expression calls c (call line (Handle first len) args kind) = fronts_halts

  fronts_arguments : (calls : Calls) → FrontCalls calls → (args : ScopedExpressions) → Fronts (arguments_trace calls args)
  fronts_arguments calls c none = fronts_value
  fronts_arguments calls c (and first rest) = fronts_then (fronts_expression calls c first) (λ v. fronts_gives (fronts_arguments calls c rest))

  fronts_objects : (calls : Calls) → FrontCalls calls → (args : ScopedExpressions) → Fronts (objects_trace calls args)
  fronts_objects calls c none = fronts_value
  fronts_objects calls c (and first rest) =
      fronts_picks (is_object_argument first) (fronts_then (fronts_handed calls c first) (λ o. fronts_gives (fronts_objects calls c rest))) (fronts_objects calls c rest)

  fronts_values : (calls : Calls) → FrontCalls calls → (args : ScopedExpressions) → Fronts (values_trace calls args)
  fronts_values calls c none = fronts_value
  fronts_values calls c (and first rest) =
      fronts_picks (is_object_argument first) (fronts_values calls c rest) (fronts_then (fronts_expression calls c first) (λ v. fronts_gives (fronts_values calls c rest)))

  fronts_handed : (calls : Calls) → FrontCalls calls → (e : ScopedExpression) → Fronts (handed_trace calls e)
  fronts_handed calls c (address line of kind) = fronts_gives (fronts_place calls c of)
  fronts_handed calls c (object of kind) = fronts_gives (fronts_place calls c of)
  fronts_handed calls c (constant line value form kind) = fronts_halts
  fronts_handed calls c (null line kind) = fronts_halts
  fronts_handed calls c (text line kind) = fronts_halts
  fronts_handed calls c (paren line inner kind) = fronts_halts
  fronts_handed calls c (unary line op of kind) = fronts_halts
  fronts_handed calls c (cast line to of kind) = fronts_halts
  fronts_handed calls c (binary line op left right kind) = fronts_halts
  fronts_handed calls c (choose line test first second kind) = fronts_halts
  fronts_handed calls c (assign line op to value kind) = fronts_halts
  fronts_handed calls c (step line of up before kind) = fronts_halts
  fronts_handed calls c (call line callee args kind) = fronts_halts

  fronts_place : (calls : Calls) → FrontCalls calls → (of : Lvalue) → Fronts (place_trace calls of)
  fronts_place calls c (lvalue line meant index checked) =
      fronts_then (fronts_index calls c index) (λ i. fronts_gives (fronts_checks_index line meant index checked i))

  fronts_index : (calls : Calls) → FrontCalls calls → (index : ScopedIndex) → Fronts (index_trace calls index)
  fronts_index calls c whole = fronts_value
  fronts_index calls c (element index) = fronts_expression calls c index

-- ---- declarations

fronts_arbitrary : (line : ℕ) (kind : IntType) (i more : ℕ) → Fronts (arbitrary_trace line kind i more)
fronts_arbitrary line kind i zero = fronts_value
fronts_arbitrary line kind i (suc more) = fronts_then (fronts_inputs 0 kind) (λ v. fronts_then fronts_updates (λ w. fronts_arbitrary line kind (suc i) more))

fronts_zeros : (line i more : ℕ) → Fronts (zeros_trace line i more)
fronts_zeros line i zero = fronts_value
fronts_zeros line i (suc more) = fronts_then fronts_updates (λ w. fronts_zeros line (suc i) more)

fronts_listed : (calls : Calls) → FrontCalls calls → (line : ℕ) (kind : IntType) (values : ScopedExpressions) (i more : ℕ) → Fronts (listed_trace calls line kind values i more)
fronts_listed calls c line kind none i more = fronts_zeros line i more
fronts_listed calls c line kind (and first rest) i zero = fronts_value
fronts_listed calls c line kind (and first rest) i (suc more) =
    fronts_then (fronts_expression calls c first) (λ v. fronts_then fronts_updates (λ w. fronts_listed calls c line kind rest (suc i) more))

fronts_no_threads : (line i more : ℕ) → Fronts (no_threads_trace line i more)
fronts_no_threads line i zero = fronts_value
fronts_no_threads line i (suc more) = fronts_then fronts_updates (λ w. fronts_no_threads line (suc i) more)

fronts_integer : (calls : Calls) → FrontCalls calls → (line first len : ℕ) (kind : IntType) (value : ScopedInitializer) → Fronts (integer_trace calls line first len kind value)
fronts_integer calls c line first len kind nothing = fronts_arbitrary line kind first len
fronts_integer calls c line first len kind (single value) = fronts_then (fronts_expression calls c value) (λ v. fronts_updates)
fronts_integer calls c line first len kind (listed values) = fronts_listed calls c line kind values first len

fronts_object : (calls : Calls) → FrontCalls calls → (line : ℕ) (meant : Object) (value : ScopedInitializer) → Fronts (object_trace calls line meant value)
fronts_object calls c line (Local first len kind) value = fronts_integer calls c line first len kind value
fronts_object calls c line (Cell first len kind) value = fronts_halts
fronts_object calls c line (Mutex first len) value = fronts_halts
fronts_object calls c line (Cond first len) value = fronts_halts
fronts_object calls c line (Handle first len) value = fronts_no_threads line first len
fronts_object calls c line (Routine function) value = fronts_halts
fronts_object calls c line (Known name) value = fronts_halts

fronts_declarators : (calls : Calls) → FrontCalls calls → (ds : List ScopedInitDeclarator) → Fronts (declarators_trace calls ds)
fronts_declarators calls c [] = fronts_value
fronts_declarators calls c (d ∷ ds) = fronts_then (fronts_object calls c d.line d.object d.first) (λ w. fronts_declarators calls c ds)

-- ---- statements

fronts_led : (flow : Flow) {rest : Behaviour Locals Flow} → Fronts rest → Fronts (led_on flow rest)
fronts_led normal p = p
fronts_led breaks p = fronts_value
fronts_led continues p = fronts_value
fronts_led (returns kind value) p = fronts_value

fronts_turned : (flow : Flow) {rest : Behaviour Locals Flow} → Fronts rest → Fronts (turned flow rest)
fronts_turned normal p = p
fronts_turned breaks p = fronts_value
fronts_turned continues p = p
fronts_turned (returns kind value) p = fronts_value

fronts_test : (calls : Calls) → FrontCalls calls → (line : ℕ) (test : Option ScopedExpression) (next : Bool → Behaviour Locals Flow) → ((b : Bool) → Fronts (next b)) → Fronts (test_trace calls line test next)
fronts_test calls c line None next q = q true
fronts_test calls c line (Some test) next q = fronts_decides (fronts_expression calls c test) q

fronts_change : (calls : Calls) → FrontCalls calls → (change : Option ScopedExpression) (rest : Behaviour Locals Flow) → Fronts rest → Fronts (change_trace calls change rest)
fronts_change calls c None rest p = p
fronts_change calls c (Some change) rest p = fronts_then (fronts_expression calls c change) (λ v. p)

fronts_turns : (calls : Calls) → FrontCalls calls → (line : ℕ) (test change : Option ScopedExpression) (body : Behaviour Locals Flow) → Fronts body → (left : ℕ)
    → Fronts (turns (test_trace calls line test) body (change_trace calls change) left)
fronts_turns calls c line test change body p zero =
    fronts_test calls c line test (λ again. picks again halts (ends_with normal)) (λ again. fronts_picks again fronts_halts fronts_value)
fronts_turns calls c line test change body p (suc left) =
    fronts_test calls c line test
    (λ again. picks again (body and_then λ flow. turned flow (change_trace calls change (turns (test_trace calls line test) body (change_trace calls change) left))) (ends_with normal))
    (λ again. fronts_picks again
    (fronts_then p (λ flow. fronts_turned flow (fronts_change calls c change (turns (test_trace calls line test) body (change_trace calls change) left) (fronts_turns calls c line test change body p left))))
    fronts_value)

fronts_do_turns : (calls : Calls) → FrontCalls calls → (line : ℕ) (test : Option ScopedExpression) (body : Behaviour Locals Flow) → Fronts body → (left : ℕ)
    → Fronts (do_turns (test_trace calls line test) body left)
fronts_do_turns calls c line test body p zero = fronts_halts
fronts_do_turns calls c line test body p (suc left) =
    fronts_then p (λ flow. fronts_turned flow
    (fronts_test calls c line test (λ again. picks again (do_turns (test_trace calls line test) body left) (ends_with normal))
    (λ again. fronts_picks again (fronts_do_turns calls c line test body p left) fronts_value)))

fronts_return : (calls : Calls) → FrontCalls calls → (value : Option ScopedExpression) → Fronts (return_trace calls value)
fronts_return calls c None = fronts_value
fronts_return calls c (Some value) = fronts_gives (fronts_expression calls c value)

mutual
  pub fronts_statement : (calls : Calls) → FrontCalls calls → (n : ℕ) (s : ScopedStatement) → Fronts (statement_trace calls n s)
  fronts_statement calls c n empty = fronts_value
  fronts_statement calls c n (eval value) = fronts_gives (fronts_expression calls c value)
  fronts_statement calls c n (block parts) = fronts_statements calls c n parts
  fronts_statement calls c n (declare of) = fronts_declarators calls c of.declarators
  fronts_statement calls c n (when line test first second) =
      fronts_decides (fronts_expression calls c test) (λ yes. fronts_picks yes (fronts_statement calls c n first) (fronts_branch calls c n second))
  fronts_statement calls c n (while line test body) = fronts_turns calls c line (Some test) None (statement_trace calls n body) (fronts_statement calls c n body) n
  fronts_statement calls c n (do_while line body test) = fronts_do_turns calls c line (Some test) (statement_trace calls n body) (fronts_statement calls c n body) n
  fronts_statement calls c n (for line first test change body) =
      fronts_then (fronts_statement calls c n first)
      (λ flow. fronts_led flow (fronts_turns calls c line test change (statement_trace calls n body) (fronts_statement calls c n body) n))
  fronts_statement calls c n (break line) = fronts_value
  fronts_statement calls c n (continue line) = fronts_value
  fronts_statement calls c n (return line value) = fronts_return calls c value
  fronts_statement calls c n (label name of) = fronts_statement calls c n of

  fronts_branch : (calls : Calls) → FrontCalls calls → (n : ℕ) (b : ScopedBranch) → Fronts (branch_trace calls n b)
  fronts_branch calls c n absent = fronts_value
  fronts_branch calls c n (branch of) = fronts_statement calls c n of

  fronts_statements : (calls : Calls) → FrontCalls calls → (n : ℕ) (ss : ScopedStatements) → Fronts (statements_trace calls n ss)
  fronts_statements calls c n nil = fronts_value
  fronts_statements calls c n (cons first rest) = fronts_then (fronts_statement calls c n first) (λ flow. fronts_led flow (fronts_statements calls c n rest))

-- calls of a program, of any depth
pub fronts_calls : (p : ScopedProgram) (n depth : ℕ) → FrontCalls (calls_within p n depth)
fronts_calls p n zero = record { fronts = λ function. fronts_halts }
fronts_calls p n (suc depth) = record {
  fronts = λ function. fronts_gives (fronts_statement (calls_within p n depth) (fronts_calls p n depth) n (function_at p function).body);
}
