-- An expression with no call keeps the rules on moved locals.
use Rattle.std.proofs.Common.{◌≡◌, ℕ, ◌+◌, ◌<◌, ◌≤◌, ◌||◌, not, Bool, true, false, List, [], ◌∷◌, Some, None, refl, sym, ap, ap₂, ◌∙◌, subst, arith, add_assoc}
use Rattle.std.proofs.lemmas.Bool.{true≢false}
use Rattle.lz_base.specs.declared.word.IntType.{IntType}
use Rattle.lz_tree.specs.declared.scoped.Object.{Object}
use Rattle.lz_tree.specs.declared.scoped.Object.TheVariants.{Local, Cell, Mutex, Cond, Handle, Routine, Known}
use Rattle.lz_tree.specs.Kinds.{value_kind, way_of}
use Rattle.lz_tree.specs.ScopedTrees.{ScopedExpression, constant, null, text, object, address, paren, unary, cast, binary, choose, assign, step, call, lvalue, ScopedIndex, whole, element, ScopedExpressions, none, and, ScopedProgram, function_at}
use Rattle.lz_tree.specs.WellScoped.{Setting, IsInteger, IsMutex, IsCond, IsThread, Form, some_value, no_attribute, format, start, new_thread, made_thread, mutex, cond, HasValue, unary_result, joint_kind, IsNoAttribute, IsFormat, IsStart, is_address, is_object, meant_by, IsArgument, IsScoped, IsIndex, AreValues, AreArguments, IsIndexed, takes_more, forms_of, IsWellScoped, MayStart, setting_of}
use Rattle.lz_bound.specs.WellFormed.{counts_of, local_limit, tree_setting}
use Rattle.lz_unwind.specs.Moved.{moved, shift, shift_index, shift_all, has_call, index_has_call, all_have_call}
use Rattle.lz_unwind.proofs.MovedLemmas.{or_left, or_right, kind_of-shift, kind_at-shift, len_of-moved, kind_of_object-moved}

has_value-shift : (o : ℕ) (e : ScopedExpression) → HasValue e → HasValue (shift o e)
has_value-shift o e h = kind_at-shift o e ∙ h ∙ sym (ap (λ (k : IntType). Some k) (kind_of-shift o e))

is_no_attribute-shift : (o : ℕ) (e : ScopedExpression) → IsNoAttribute e → IsNoAttribute (shift o e)
is_no_attribute-shift o (null line kind) f = f
is_no_attribute-shift o (constant line v form kind) f = f
is_no_attribute-shift o e f = absurd f

is_format-shift : (o : ℕ) (e : ScopedExpression) → IsFormat e → IsFormat (shift o e)
is_format-shift o (text line kind) f = f
is_format-shift o e f = absurd f

is_address-shift : (o : ℕ) (e : ScopedExpression) → is_address (shift o e) ≡ is_address e
is_address-shift o (constant line v form kind) = refl
is_address-shift o (null line kind) = refl
is_address-shift o (text line kind) = refl
is_address-shift o (object (lvalue line meant index checked) kind) = refl
is_address-shift o (address line (lvalue at meant index checked) kind) = refl
is_address-shift o (paren line e kind) = refl
is_address-shift o (unary line op e kind) = refl
is_address-shift o (cast line to e kind) = refl
is_address-shift o (binary line op a b kind) = refl
is_address-shift o (choose line a b c kind) = refl
is_address-shift o (assign line op (lvalue at meant index checked) e kind) = refl
is_address-shift o (step line (lvalue at meant index checked) going before kind) = refl
is_address-shift o (call line callee args kind) = refl

is_object-shift : (o : ℕ) (e : ScopedExpression) → is_object (shift o e) ≡ is_object e
is_object-shift o (constant line v form kind) = refl
is_object-shift o (null line kind) = refl
is_object-shift o (text line kind) = refl
is_object-shift o (object (lvalue line meant index checked) kind) = refl
is_object-shift o (address line (lvalue at meant index checked) kind) = refl
is_object-shift o (paren line e kind) = refl
is_object-shift o (unary line op e kind) = refl
is_object-shift o (cast line to e kind) = refl
is_object-shift o (binary line op a b kind) = refl
is_object-shift o (choose line a b c kind) = refl
is_object-shift o (assign line op (lvalue at meant index checked) e kind) = refl
is_object-shift o (step line (lvalue at meant index checked) going before kind) = refl
is_object-shift o (call line callee args kind) = refl

meant_by-shift : (o : ℕ) (e : ScopedExpression) → meant_by (shift o e) ≡ moved o (meant_by e)
meant_by-shift o (constant line v form kind) = refl
meant_by-shift o (null line kind) = refl
meant_by-shift o (text line kind) = refl
meant_by-shift o (object (lvalue line meant index checked) kind) = refl
meant_by-shift o (address line (lvalue at meant index checked) kind) = refl
meant_by-shift o (paren line e kind) = refl
meant_by-shift o (unary line op e kind) = refl
meant_by-shift o (cast line to e kind) = refl
meant_by-shift o (binary line op a b kind) = refl
meant_by-shift o (choose line a b c kind) = refl
meant_by-shift o (assign line op (lvalue at meant index checked) e kind) = refl
meant_by-shift o (step line (lvalue at meant index checked) going before kind) = refl
meant_by-shift o (call line callee args kind) = refl

may_be_tested : (b : Bool) → (not b || true) ≡ true
may_be_tested true = refl
may_be_tested false = refl

-- the setting of the tree of a thread of a program
abbrev pub target : (p : ScopedProgram) → IsWellScoped p → Bool → (ℕ → IntType) → Setting
target p W main kinds = tree_setting (counts_of p) W.plan.cell_kinds kinds (MayStart p) main

-- the locals of a function stand from a number on, in their kinds
pub record IsFramed (p : ScopedProgram) (W : IsWellScoped p) (f o : ℕ) (kinds : ℕ → IntType) : Type 0 where
  pub here : (i : ℕ) → i < (function_at p f).locals → kinds (o + i) ≡ W.plan.local_kinds f i
  pub room : o + (function_at p f).locals ≤ local_limit

module _ (p : ScopedProgram) (W : IsWellScoped p) (main : Bool) (f o : ℕ) (alone : W.plan.alone f ≡ true → main ≡ true) (K : ℕ → IntType) (F : IsFramed p W f o K) where
  pub integer_moved : (x : Object) → IsInteger (setting_of p W.plan f) x → IsInteger (target p W main K) (moved o x)
  integer_moved (Local first len kind) g = (
    record { length_ = g.0.length_; within = (let a = g.0.within in let b = F.room in omega (arith, a, b)) },
    record { each = λ i h. ap K (add_assoc o first i) ∙ F.here (first + i) (let a = g.0.within in omega (arith, a, h)) ∙ g.1.each i h },
  )
  integer_moved (Cell first len kind) g = g
  integer_moved (Mutex first len) g = absurd g
  integer_moved (Cond first len) g = absurd g
  integer_moved (Handle first len) g = absurd g
  integer_moved (Routine function) g = absurd g
  integer_moved (Known name) g = absurd g

  pub mutex_moved : (x : Object) → IsMutex (setting_of p W.plan f) x → IsMutex (target p W main K) (moved o x)
  mutex_moved (Mutex first len) g = g
  mutex_moved (Local first len kind) g = absurd g
  mutex_moved (Cell first len kind) g = absurd g
  mutex_moved (Cond first len) g = absurd g
  mutex_moved (Handle first len) g = absurd g
  mutex_moved (Routine function) g = absurd g
  mutex_moved (Known name) g = absurd g

  pub cond_moved : (x : Object) → IsCond (setting_of p W.plan f) x → IsCond (target p W main K) (moved o x)
  cond_moved (Cond first len) g = g
  cond_moved (Local first len kind) g = absurd g
  cond_moved (Cell first len kind) g = absurd g
  cond_moved (Mutex first len) g = absurd g
  cond_moved (Handle first len) g = absurd g
  cond_moved (Routine function) g = absurd g
  cond_moved (Known name) g = absurd g

  pub thread_moved : (x : Object) → IsThread (setting_of p W.plan f) x → IsThread (target p W main K) (moved o x)
  thread_moved (Handle first len) g = (g.0, alone g.1)
  thread_moved (Local first len kind) g = absurd g
  thread_moved (Cell first len kind) g = absurd g
  thread_moved (Mutex first len) g = absurd g
  thread_moved (Cond first len) g = absurd g
  thread_moved (Routine function) g = absurd g
  thread_moved (Known name) g = absurd g

  pub start_moved : (e : ScopedExpression) → IsStart (setting_of p W.plan f) e → IsStart (target p W main K) (shift o e)
  start_moved (object (lvalue line (Routine function) whole checked) kind) g = g
  start_moved e g = absurd g

  -- an argument of a form, moved
  pub argument_moved : (form : Form) (e : ScopedExpression) → IsArgument (setting_of p W.plan f) form e (IsScoped (setting_of p W.plan f) e) (IsIndexed (setting_of p W.plan f) e) →
      (IsScoped (setting_of p W.plan f) e → IsScoped (target p W main K) (shift o e)) → (IsIndexed (setting_of p W.plan f) e → IsIndexed (target p W main K) (shift o e)) →
      IsArgument (target p W main K) form (shift o e) (IsScoped (target p W main K) (shift o e)) (IsIndexed (target p W main K) (shift o e))
  argument_moved some_value e g s i = (s g.0, has_value-shift o e g.1)
  argument_moved no_attribute e g s i = (s g.0, is_no_attribute-shift o e g.1)
  argument_moved format e g s i = is_format-shift o e g
  argument_moved start e g s i = start_moved e g
  argument_moved new_thread e g s i = (is_address-shift o e ∙ g.0, subst (λ (x : Object). IsThread (target p W main K) x) (sym (meant_by-shift o e)) (thread_moved (meant_by e) g.1), i g.2)
  argument_moved made_thread e g s i = (is_object-shift o e ∙ g.0, subst (λ (x : Object). IsThread (target p W main K) x) (sym (meant_by-shift o e)) (thread_moved (meant_by e) g.1), i g.2)
  argument_moved mutex e g s i = (is_address-shift o e ∙ g.0, subst (λ (x : Object). IsMutex (target p W main K) x) (sym (meant_by-shift o e)) (mutex_moved (meant_by e) g.1), i g.2)
  argument_moved cond e g s i = (is_address-shift o e ∙ g.0, subst (λ (x : Object). IsCond (target p W main K) x) (sym (meant_by-shift o e)) (cond_moved (meant_by e) g.1), i g.2)

  mutual
    pub scoped_moved : (e : ScopedExpression) → has_call e ≡ false → IsScoped (setting_of p W.plan f) e → IsScoped (target p W main K) (shift o e)
    scoped_moved (constant line value form kind) c g = g
    scoped_moved (null line kind) c g = g
    scoped_moved (text line kind) c g = absurd g
    scoped_moved (object (lvalue line meant index checked) kind) c g =
        (integer_moved meant g.0, g.1 ∙ sym (ap (λ (k : IntType). Some k) (kind_of_object-moved o meant)), index_moved meant checked index c g.2)
    scoped_moved (address line of kind) c g = absurd g
    scoped_moved (paren line e kind) c g = (scoped_moved e c g.0, g.1 ∙ sym (kind_at-shift o e))
    scoped_moved (unary line op e kind) c g = (scoped_moved e c g.0, has_value-shift o e g.1, g.2 ∙ sym (ap (λ (k : IntType). Some (unary_result op k)) (kind_of-shift o e)))
    scoped_moved (cast line to e kind) c g = (scoped_moved e c g.0, has_value-shift o e g.1)
    scoped_moved (binary line op a b kind) c g = (
      scoped_moved a (or_left (has_call a) (has_call b) c) g.0,
      has_value-shift o a g.1,
      scoped_moved b (or_right (has_call a) (has_call b) c) g.2,
      has_value-shift o b g.3,
      g.4 ∙ sym (ap₂ (λ (j k : IntType). Some (value_kind (way_of op) j k)) (kind_of-shift o a) (kind_of-shift o b)),
    )
    scoped_moved (choose line a b d kind) c g =
        let r = or_right (has_call a) (has_call b || has_call d) c in (
          scoped_moved a (or_left (has_call a) (has_call b || has_call d) c) g.0,
          has_value-shift o a g.1,
          scoped_moved b (or_left (has_call b) (has_call d) r) g.2,
          scoped_moved d (or_right (has_call b) (has_call d) r) g.3,
          g.4 ∙ sym (ap₂ joint_kind (kind_at-shift o b) (kind_at-shift o d)),
        )
    scoped_moved (assign line None (lvalue at meant index checked) e kind) c g = (
      integer_moved meant g.0,
      index_moved meant checked index (or_left (index_has_call index) (has_call e) c) g.1,
      scoped_moved e (or_right (index_has_call index) (has_call e) c) g.2,
      has_value-shift o e g.3,
      g.4,
      g.5 ∙ sym (ap (λ (k : IntType). Some k) (kind_of_object-moved o meant)),
    )
    scoped_moved (assign line (Some op) (lvalue at meant index checked) e kind) c g = (
      integer_moved meant g.0,
      index_moved meant checked index (or_left (index_has_call index) (has_call e) c) g.1,
      scoped_moved e (or_right (index_has_call index) (has_call e) c) g.2,
      has_value-shift o e g.3,
      g.4,
      g.5 ∙ sym (ap (λ (k : IntType). Some k) (kind_of_object-moved o meant)),
    )
    scoped_moved (step line (lvalue at meant index checked) going before kind) c g =
        (integer_moved meant g.0, index_moved meant checked index c g.1, g.2 ∙ sym (ap (λ (k : IntType). Some k) (kind_of_object-moved o meant)))
    scoped_moved (call line (Routine function) args kind) c g = absurd (true≢false c)
    scoped_moved (call line (Known name) args kind) c g = (arguments_moved (takes_more name) (forms_of name) args c g.0, g.1)
    scoped_moved (call line (Local first len k) args kind) c g = absurd g
    scoped_moved (call line (Cell first len k) args kind) c g = absurd g
    scoped_moved (call line (Mutex first len) args kind) c g = absurd g
    scoped_moved (call line (Cond first len) args kind) c g = absurd g
    scoped_moved (call line (Handle first len) args kind) c g = absurd g

    pub index_moved : (meant : Object) (checked : Bool) (index : ScopedIndex) → index_has_call index ≡ false → IsIndex (setting_of p W.plan f) meant checked index → IsIndex (target p W main K) (moved o meant) checked (shift_index o index)
    index_moved meant checked whole c g = (len_of-moved o meant ∙ g.0, g.1)
    index_moved meant checked (element e) c g = (scoped_moved e c g.0, has_value-shift o e g.1, may_be_tested checked)

    values_moved : (es : ScopedExpressions) → all_have_call es ≡ false → AreValues (setting_of p W.plan f) es → AreValues (target p W main K) (shift_all o es)
    values_moved none c g = tt
    values_moved (and e rest) c g = (scoped_moved e (or_left (has_call e) (all_have_call rest) c) g.0, has_value-shift o e g.1, values_moved rest (or_right (has_call e) (all_have_call rest) c) g.2)

    pub arguments_moved : (more : Bool) (forms : List Form) (es : ScopedExpressions) → all_have_call es ≡ false → AreArguments (setting_of p W.plan f) more forms es → AreArguments (target p W main K) more forms (shift_all o es)
    arguments_moved more [] none c g = tt
    arguments_moved more [] (and e rest) c g =
        (g.0, scoped_moved e (or_left (has_call e) (all_have_call rest) c) g.1, has_value-shift o e g.2, values_moved rest (or_right (has_call e) (all_have_call rest) c) g.3)
    arguments_moved more (form ∷ forms) none c g = absurd g
    arguments_moved more (form ∷ forms) (and e rest) c g = (
      argument_moved form e g.0 (λ s. scoped_moved e (or_left (has_call e) (all_have_call rest) c) s) (λ i. indexed_moved e (or_left (has_call e) (all_have_call rest) c) i),
      arguments_moved more forms rest (or_right (has_call e) (all_have_call rest) c) g.1,
    )

    pub indexed_moved : (e : ScopedExpression) → has_call e ≡ false → IsIndexed (setting_of p W.plan f) e → IsIndexed (target p W main K) (shift o e)
    indexed_moved (address line (lvalue at meant index checked) kind) c g = index_moved meant checked index c g
    indexed_moved (object (lvalue at meant index checked) kind) c g = index_moved meant checked index c g
    indexed_moved (constant line v form kind) c g = absurd g
    indexed_moved (null line kind) c g = absurd g
    indexed_moved (text line kind) c g = absurd g
    indexed_moved (paren line e kind) c g = absurd g
    indexed_moved (unary line op e kind) c g = absurd g
    indexed_moved (cast line to e kind) c g = absurd g
    indexed_moved (binary line op a b kind) c g = absurd g
    indexed_moved (choose line a b d kind) c g = absurd g
    indexed_moved (assign line op to e kind) c g = absurd g
    indexed_moved (step line of going before kind) c g = absurd g
    indexed_moved (call line callee args kind) c g = absurd g
