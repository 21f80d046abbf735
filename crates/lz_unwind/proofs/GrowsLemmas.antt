-- The unused numbers only move up.
use Rattle.std.proofs.Common.{ℕ, zero, suc, ◌+◌, ◌≤◌, Bool, true, false, ◌||◌, List, [], ◌∷◌, Option, Some, None, arith, le_refl, le_trans}
use Rattle.lz_base.specs.declared.word.IntType.{IntType}
use Rattle.lz_base.specs.declared.operator.Binary.{Binary}
use Rattle.lz_base.specs.declared.operator.Binary.TheVariants as ops
use Rattle.lz_tree.specs.declared.scoped.KnownName.{KnownName}
use Rattle.lz_tree.specs.declared.scoped.Object.{Object}
use Rattle.lz_tree.specs.declared.scoped.Object.TheVariants.{Local, Cell, Mutex, Cond, Handle, Routine, Known}
use Rattle.lz_tree.specs.Kinds.{kind_of, kind_or}
use Rattle.lz_tree.specs.ScopedTrees.{ScopedExpression, constant, null, text, object, address, paren, unary, cast, binary, choose, assign, step, call, lvalue, ScopedIndex, whole, element, ScopedExpressions, none, and, ScopedInitializer, nothing, single, listed, ScopedInitDeclarator, ScopedStatement, empty, eval, block, declare, when, while, do_while, for, break, continue, return, label, ScopedBranch, absent, branch, ScopedStatements, nil, cons}
use Rattle.lz_unwind.specs.Moved.{has_call, index_has_call, all_have_call}
use Rattle.lz_unwind.specs.Pieces.{Made, Callees, unless_call, head_kind, tail_kinds, operands, Shape, one_value, an_end, one_object, two_objects, creation, printing, shape_of}
use Rattle.lz_unwind.specs.Translation.{into, index_into, arguments_into, known_into, handed_into, printed_into, discarded, set_made, test_made, unless_made, step_made, cleared, listed_made, integer_made, object_made, declarators_made, is_silent, eval_made, return_made, statement_made, branch_made, statements_made}
use Rattle.lz_unwind.proofs.TurnsLemmas.{turns_grow, do_turns_grow}

up : (m : ℕ) → m ≤ suc m
up m = omega arith

unless_grows : (b : Bool) (p q : Made) {m : ℕ} → m ≤ p.next → m ≤ q.next → m ≤ (unless_call b p q).next
unless_grows true p q x y = y
unless_grows false p q x y = x

operands_grow : (line : ℕ) (op : Binary) (ka kb : IntType) (kind : Option IntType) (x : ℕ) (k : IntType) (m : ℕ) (first : Made) (second : ℕ → Made) → m ≤ first.next → ((n : ℕ) → n ≤ (second n).next) →
    m ≤ (operands line op ka kb kind x k m first second).next
operands_grow line ops.Both ka kb kind x k m first second a b = le_trans a (b first.next)
operands_grow line ops.Either ka kb kind x k m first second a b = le_trans a (b first.next)
operands_grow line op ka kb kind x k m first second a b = le_trans a (b first.next)

module _ (env : Callees) (o : ℕ) (inline_grows : (f i m : ℕ) → m ≤ (env.inline f i m).next) where
  mutual
    -- of an expression
    pub into_grows : (e : ScopedExpression) (x : ℕ) (k : IntType) (m : ℕ) → m ≤ (into env o e x k m).next
    into_grows (constant line v form kind) x k m = le_refl m
    into_grows (null line kind) x k m = le_refl m
    into_grows (text line kind) x k m = le_refl m
    into_grows (address line of kind) x k m = le_refl m
    into_grows (object (lvalue line meant index checked) kind) x k m = unless_grows (index_has_call index) _ _ (le_refl m) (le_trans (up m) (index_grows index m (suc m)))
    into_grows (paren line e kind) x k m = into_grows e x k m
    into_grows (unary line op e kind) x k m = unless_grows (has_call e) _ _ (le_refl m) (le_trans (up m) (into_grows e m (kind_of e) (suc m)))
    into_grows (cast line to e kind) x k m = unless_grows (has_call e) _ _ (le_refl m) (into_grows e x k m)
    into_grows (binary line op a b kind) x k m = unless_grows (has_call a || has_call b) _ _ (le_refl m)
        (operands_grow line op (kind_of a) (kind_of b) kind x k m (into env o a m (kind_of a) (suc m)) (λ n. into env o b n (kind_of b) (suc n)) (le_trans (up m) (into_grows a m (kind_of a) (suc m))) (λ n. le_trans (up n) (into_grows b n (kind_of b) (suc n))))
    into_grows (choose line a b c kind) x k m =
        let m' = (into env o a m (kind_of a) (suc m)).next in
        unless_grows (has_call a || (has_call b || has_call c)) _ _ (le_refl m)
        (le_trans (le_trans (up m) (into_grows a m (kind_of a) (suc m))) (le_trans (le_trans (up m') (into_grows b m' (kind_or kind) (suc m'))) (into_grows c m' (kind_or kind) (into env o b m' (kind_or kind) (suc m')).next)))
    into_grows (assign line None (lvalue at meant index checked) e kind) x k m =
        let m' = (index_into env o index m (suc m)).next in
        unless_grows (index_has_call index || has_call e) _ _ (le_refl m) (le_trans (le_trans (up m) (index_grows index m (suc m))) (le_trans (up m') (into_grows e m' (kind_of e) (suc m'))))
    into_grows (assign line (Some op) (lvalue at meant index checked) e kind) x k m =
        let m' = (index_into env o index m (suc m)).next in
        unless_grows (index_has_call index || has_call e) _ _ (le_refl m) (le_trans (le_trans (up m) (index_grows index m (suc m))) (le_trans (le_trans (up m') (up (suc m'))) (into_grows e (suc m') (kind_of e) (suc (suc m')))))
    into_grows (step line (lvalue at meant index checked) going before kind) x k m = unless_grows (index_has_call index) _ _ (le_refl m) (le_trans (up m) (index_grows index m (suc m)))
    into_grows (call line (Routine g) args kind) x k m =
        let m' = (arguments_into env o args (env.params g) m (suc (m + env.size g))).next in
        le_trans (le_trans (omega arith) (arguments_grows args (env.params g) m (suc (m + env.size g)))) (inline_grows g m m')
    into_grows (call line (Known name) args kind) x k m = unless_grows (all_have_call args) _ _ (le_refl m) (known_grows (shape_of name) line name args kind x k m)
    into_grows (call line (Local first len j) args kind) x k m = le_refl m
    into_grows (call line (Cell first len j) args kind) x k m = le_refl m
    into_grows (call line (Mutex first len) args kind) x k m = le_refl m
    into_grows (call line (Cond first len) args kind) x k m = le_refl m
    into_grows (call line (Handle first len) args kind) x k m = le_refl m

    pub index_grows : (index : ScopedIndex) (x m : ℕ) → m ≤ (index_into env o index x m).next
    index_grows whole x m = le_refl m
    index_grows (element e) x m = into_grows e x (kind_of e) m

    pub arguments_grows : (es : ScopedExpressions) (ks : List IntType) (x m : ℕ) → m ≤ (arguments_into env o es ks x m).next
    arguments_grows none ks x m = le_refl m
    arguments_grows (and e es) ks x m = le_trans (into_grows e x (head_kind ks) m) (arguments_grows es (tail_kinds ks) (suc x) (into env o e x (head_kind ks) m).next)

    pub known_grows : (shape : Shape) (line : ℕ) (name : KnownName) (args : ScopedExpressions) (kind : Option IntType) (x : ℕ) (k : IntType) (m : ℕ) → m ≤ (known_into env o shape line name args kind x k m).next
    known_grows one_value line name (and e none) kind x k m = le_trans (up m) (into_grows e m (kind_of e) (suc m))
    known_grows an_end line name (and e none) kind x k m = le_trans (up m) (into_grows e m (kind_of e) (suc m))
    known_grows one_object line name (and thing rest) kind x k m = handed_grows thing m
    known_grows two_objects line name (and one (and two none)) kind x k m = le_trans (handed_grows one m) (handed_grows two (handed_into env o one m).next)
    known_grows creation line name (and thread (and attribute (and start (and e none)))) kind x k m =
        let m' = (handed_into env o thread m).next in
        le_trans (handed_grows thread m) (le_trans (up m') (into_grows e m' (kind_of e) (suc m')))
    known_grows printing line name (and format values) kind x k m = printed_grows values m
    known_grows shape line name args kind x k m = le_refl m

    pub handed_grows : (thing : ScopedExpression) (m : ℕ) → m ≤ (handed_into env o thing m).next
    handed_grows (address line (lvalue at meant index checked) kind) m = le_trans (up m) (index_grows index m (suc m))
    handed_grows (object (lvalue at meant index checked) kind) m = le_trans (up m) (index_grows index m (suc m))
    handed_grows e m = up m

    pub printed_grows : (es : ScopedExpressions) (m : ℕ) → m ≤ (printed_into env o es m).next
    printed_grows none m = le_refl m
    printed_grows (and e es) m = le_trans (unless_grows (has_call e) _ _ (le_refl m) (le_trans (up m) (into_grows e m (kind_of e) (suc m)))) (printed_grows es (discarded env o e m).next)

  -- of an expression whose value is not used
  pub discarded_grows : (e : ScopedExpression) (m : ℕ) → m ≤ (discarded env o e m).next
  discarded_grows e m = unless_grows (has_call e) _ _ (le_refl m) (le_trans (up m) (into_grows e m (kind_of e) (suc m)))

  -- of an expression that has a value
  pub set_grows : (e : ScopedExpression) (x : ℕ) (k : IntType) (m : ℕ) → m ≤ (set_made env o e x k m).next
  set_grows e x k m = unless_grows (has_call e) _ _ (le_refl m) (le_trans (up m) (into_grows e m (kind_of e) (suc m)))

  -- of a test
  pub test_grows : (e : ScopedExpression) (m : ℕ) → m ≤ (test_made env o e m).next
  test_grows e m = unless_grows (has_call e) _ _ (le_refl m) (le_trans (up m) (into_grows e m (kind_of e) (suc m)))

  pub unless_made_grows : (test : Option ScopedExpression) (m : ℕ) → m ≤ (unless_made env o test m).next
  unless_made_grows None m = le_refl m
  unless_made_grows (Some e) m = test_grows e m

  -- of a step
  pub step_grows : (change : Option ScopedExpression) (m : ℕ) → m ≤ (step_made env o change m).next
  step_grows None m = le_refl m
  step_grows (Some e) m = discarded_grows e m

  -- of declarations
  cleared_grows : (kind : IntType) (i more m : ℕ) → m ≤ (cleared env o kind i more m).next
  cleared_grows kind i zero m = le_refl m
  cleared_grows kind i (suc more) m = le_refl m

  pub listed_grows : (kind : IntType) (es : ScopedExpressions) (i more m : ℕ) → m ≤ (listed_made env o kind es i more m).next
  listed_grows kind none i more m = cleared_grows kind i more m
  listed_grows kind (and e rest) i zero m = le_refl m
  listed_grows kind (and e rest) i (suc more) m = le_trans (set_grows e (o + i) kind m) (listed_grows kind rest (suc i) more (set_made env o e (o + i) kind m).next)

  integer_grows : (first len : ℕ) (kind : IntType) (value : ScopedInitializer) (m : ℕ) → m ≤ (integer_made env o first len kind value m).next
  integer_grows first len kind nothing m = le_refl m
  integer_grows first len kind (single e) m = set_grows e (o + first) kind m
  integer_grows first len kind (listed values) m = listed_grows kind values first len m

  pub object_grows : (x : Object) (value : ScopedInitializer) (m : ℕ) → m ≤ (object_made env o x value m).next
  object_grows (Local first len kind) value m = integer_grows first len kind value m
  object_grows (Handle first len) value m = le_refl m
  object_grows (Cell first len kind) value m = le_refl m
  object_grows (Mutex first len) value m = le_refl m
  object_grows (Cond first len) value m = le_refl m
  object_grows (Routine function) value m = le_refl m
  object_grows (Known name) value m = le_refl m

  pub declarators_grow : (ds : List ScopedInitDeclarator) (m : ℕ) → m ≤ (declarators_made env o ds m).next
  declarators_grow [] m = le_refl m
  declarators_grow (d ∷ rest) m = le_trans (object_grows d.object d.first m) (declarators_grow rest (object_made env o d.object d.first m).next)

  module _ (l n : ℕ) (result : IntType) where
    eval_grows : (e : ScopedExpression) (b : Bool) (m : ℕ) → m ≤ (eval_made env o l n result e b m).next
    eval_grows e true m = le_refl m
    eval_grows e false m = discarded_grows e m

    return_grows : (value : Option ScopedExpression) (m : ℕ) → m ≤ (return_made env o l n result value m).next
    return_grows None m = le_refl m
    return_grows (Some e) m = set_grows e (o + l) result m

    mutual
      -- of a statement
      pub statement_grows : (s : ScopedStatement) (m : ℕ) → m ≤ (statement_made env o l n result s m).next
      statement_grows empty m = le_refl m
      statement_grows (eval e) m = eval_grows e (is_silent e) m
      statement_grows (block parts) m = statements_grow parts m
      statement_grows (declare of) m = declarators_grow of.declarators m
      statement_grows (when line test first second) m =
          let m' = (test_made env o test m).next in
          le_trans (test_grows test m) (le_trans (statement_grows first m') (branch_grows second (statement_made env o l n result first m').next))
      statement_grows (while line test body) m = turns_grow (unless_made env o (Some test)) (λ k. statement_made env o l n result body k) (step_made env o None) (unless_made_grows (Some test)) (λ k. statement_grows body k) (step_grows None) n m
      statement_grows (do_while line body test) m = do_turns_grow (unless_made env o (Some test)) (λ k. statement_made env o l n result body k) (unless_made_grows (Some test)) (λ k. statement_grows body k) n m
      statement_grows (for line first test change body) m =
          le_trans (statement_grows first m) (turns_grow (unless_made env o test) (λ k. statement_made env o l n result body k) (step_made env o change) (unless_made_grows test) (λ k. statement_grows body k) (step_grows change) n (statement_made env o l n result first m).next)
      statement_grows (break line) m = le_refl m
      statement_grows (continue line) m = le_refl m
      statement_grows (return line value) m = return_grows value m
      statement_grows (label name of) m = statement_grows of m

      pub branch_grows : (b : ScopedBranch) (m : ℕ) → m ≤ (branch_made env o l n result b m).next
      branch_grows absent m = le_refl m
      branch_grows (branch of) m = statement_grows of m

      pub statements_grow : (ss : ScopedStatements) (m : ℕ) → m ≤ (statements_made env o l n result ss m).next
      statements_grow nil m = le_refl m
      statements_grow (cons s rest) m = le_trans (statement_grows s m) (statements_grow rest (statement_made env o l n result s m).next)
