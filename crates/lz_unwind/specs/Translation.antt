-- Inner: statements and expressions, calls inlined and loops unwound.
use Rattle.std.specs.Prelude.{ℕ, zero, suc, ◌+◌, ◌||◌, ◌&&◌, not, Bool, true, false, List, [], ◌∷◌, Option, Some, None}
use Rattle.lz_base.specs.declared.word.IntType.{IntType}
use Rattle.lz_base.specs.declared.word.IntType.TheVariants.{Unsigned}
use Rattle.lz_tree.specs.declared.scoped.KnownName.{KnownName}
use Rattle.lz_tree.specs.declared.scoped.Object.{Object}
use Rattle.lz_tree.specs.declared.scoped.Object.TheVariants.{Local, Cell, Mutex, Cond, Handle, Routine, Known}
use Rattle.lz_tree.specs.Kinds.{kind_of, kind_or, kind_of_object, value_kind, way_of}
use Rattle.lz_tree.specs.ScopedTrees.{ScopedExpression, constant, null, text, object, address, paren, unary, cast, binary, choose, assign, step, call, lvalue, ScopedIndex, whole, element, ScopedExpressions, none, and, ScopedInitializer, nothing, single, listed, ScopedInitDeclarator, ScopedStatement, empty, eval, block, declare, when, while, do_while, for, break, continue, return, label, ScopedBranch, absent, branch, ScopedStatements, nil, cons}
use Rattle.lz_tree.specs.WellFormed.{is_logical}
use Rattle.lz_model.specs.CodeTraces.{is_division}
use Rattle.lz_bound.specs.BoundedTrees as tree
use Rattle.lz_bound.specs.BoundedTrees.{BoundedStatement, evals, fresh, clear, seq, frame, leave, stuck}
use Rattle.lz_unwind.specs.Moved.{moved, shift, shift_all, has_call, index_has_call, all_have_call}
use Rattle.lz_unwind.specs.Pieces.{Made, Callees, made, after_, framed, unless_call, local, temp, store, head_kind, tail_kinds, int_constant, at_temp, inside_of, tested, at_place, inside_place, operands, out_unless, Shape, one_value, an_end, one_object, two_objects, creation, printing, shape_of}

-- ---- expressions

module _ (env : Callees) (o : ℕ) where
  -- an expression with no call, in one piece
  abbrev pub plain : ScopedExpression → ℕ → IntType → ℕ → Made
  plain e x k m = made (store (shift o e) x k) m

  abbrev mutual
    -- The value of an expression, if it has one, into a local of a kind; the unused numbers begin at the last one. An
    -- operand or index next to a call is kept in a temporary.
    pub into : ScopedExpression → ℕ → IntType → ℕ → Made
    into (constant line v form kind) x k m = plain (constant line v form kind) x k m
    into (null line kind) x k m = plain (null line kind) x k m
    into (text line kind) x k m = plain (text line kind) x k m
    into (address line of kind) x k m = plain (address line of kind) x k m
    into (object (lvalue line meant index checked) kind) x k m =
        unless_call (index_has_call index) (plain (object (lvalue line meant index checked) kind) x k m)
        (after_ (index_into index m (suc m)) λ m'. made (store (object (lvalue line (moved o meant) (at_temp index m) false) kind) x k) m')
    into (paren line e kind) x k m = into e x k m
    into (unary line op e kind) x k m =
        unless_call (has_call e) (plain (unary line op e kind) x k m)
        (after_ (into e m (kind_of e) (suc m)) λ m'. made (store (unary line op (temp m (kind_of e)) kind) x k) m')
    into (cast line to e kind) x k m = unless_call (has_call e) (plain (cast line to e kind) x k m) (into e x k m)
    into (binary line op a b kind) x k m =
        unless_call (has_call a || has_call b) (plain (binary line op a b kind) x k m)
        (operands line op (kind_of a) (kind_of b) kind x k m (into a m (kind_of a) (suc m)) (λ m'. into b m' (kind_of b) (suc m')))
    into (choose line a b c kind) x k m =
        unless_call (has_call a || (has_call b || has_call c)) (plain (choose line a b c kind) x k m)
        (after_ (into a m (kind_of a) (suc m)) λ m'.
        after_ (made (tree.when (temp m (kind_of a)) (into b m' (kind_or kind) (suc m')).tree (into c m' (kind_or kind) (into b m' (kind_or kind) (suc m')).next).tree) (into c m' (kind_or kind) (into b m' (kind_or kind) (suc m')).next).next) λ m''.
        made (store (temp m' (kind_or kind)) x k) m'')
    into (assign line None (lvalue at meant index checked) e kind) x k m =
        unless_call (index_has_call index || has_call e) (plain (assign line None (lvalue at meant index checked) e kind) x k m)
        (after_ (index_into index m (suc m)) λ m'. after_ (into e m' (kind_of e) (suc m')) λ m''.
        made (store (assign line None (lvalue at (moved o meant) (at_temp index m) false) (temp m' (kind_of e)) kind) x k) m'')
    -- the read has the line of the assignment, the check that of its target
    into (assign line (Some op) (lvalue at meant index checked) e kind) x k m =
        unless_call (index_has_call index || has_call e) (plain (assign line (Some op) (lvalue at meant index checked) e kind) x k m)
        (after_ (index_into index m (suc m)) λ m'. after_ (made (inside_of at meant index m) m') λ m'.
        after_ (made (store (object (lvalue line (moved o meant) (at_temp index m) (tested index)) (Some (kind_of_object meant))) m' (kind_of_object meant)) (suc m')) λ m''.
        after_ (into e m'' (kind_of e) (suc m'')) λ m'''.
        made (store (assign line None (lvalue at (moved o meant) (at_temp index m) (tested index))
        (binary line op (temp m' (kind_of_object meant)) (temp m'' (kind_of e)) (Some (value_kind (way_of op) (kind_of_object meant) (kind_of e)))) kind) x k) m''')
    into (step line (lvalue at meant index checked) up before kind) x k m =
        unless_call (index_has_call index) (plain (step line (lvalue at meant index checked) up before kind) x k m)
        (after_ (index_into index m (suc m)) λ m'. made (store (step line (lvalue at (moved o meant) (at_temp index m) false) up before kind) x k) m')
    -- the arguments into the callee's own locals, its body, its result
    into (call line (Routine g) args kind) x k m =
        after_ (arguments_into args (env.params g) m (suc (m + env.size g))) λ m'.
        after_ (env.inline g m m') λ m''. made (store (temp (m + env.size g) (env.results g)) x k) m''
    into (call line (Known name) args kind) x k m =
        unless_call (all_have_call args) (plain (call line (Known name) args kind) x k m) (known_into (shape_of name) line name args kind x k m)
    into (call line (Local first len j) args kind) x k m = made stuck m
    into (call line (Cell first len j) args kind) x k m = made stuck m
    into (call line (Mutex first len) args kind) x k m = made stuck m
    into (call line (Cond first len) args kind) x k m = made stuck m
    into (call line (Handle first len) args kind) x k m = made stuck m

    -- an index into a local
    pub index_into : ScopedIndex → ℕ → ℕ → Made
    index_into whole x m = made tree.nothing m
    index_into (element e) x m = into e x (kind_of e) m

    -- arguments into locals, from this one on, each in the kind of its parameter
    pub arguments_into : ScopedExpressions → List IntType → ℕ → ℕ → Made
    arguments_into none kinds x m = made tree.nothing m
    arguments_into (and first rest) kinds x m =
        after_ (into first x (head_kind kinds) m) λ m'. arguments_into rest (tail_kinds kinds) (suc x) m'

    -- a known name, one of whose arguments calls a function of the file
    pub known_into : Shape → ℕ → KnownName → ScopedExpressions → Option IntType → ℕ → IntType → ℕ → Made
    known_into one_value line name (and e none) kind x k m =
        after_ (into e m (kind_of e) (suc m)) λ m'. made (store (call line (Known name) (and (temp m (kind_of e)) none) kind) x k) m'
    known_into an_end line name (and e none) kind x k m =
        after_ (into e m (kind_of e) (suc m)) λ m'. made (store (call line (Known name) (and (null line (Some Unsigned)) none) kind) x k) m'
    known_into one_object line name (and thing rest) kind x k m =
        after_ (handed_into thing m) λ m'. made (store (call line (Known name) (and (at_place o false thing m) (shift_all o rest)) kind) x k) m'
    known_into two_objects line name (and one (and two none)) kind x k m =
        after_ (handed_into one m) λ m'. after_ (made (inside_place one m) m') λ m'. after_ (handed_into two m') λ m''.
        made (store (call line (Known name) (and (at_place o true one m) (and (at_place o false two m') none)) kind) x k) m''
    known_into creation line name (and thread (and attribute (and start (and e none)))) kind x k m =
        after_ (handed_into thread m) λ m'. after_ (made (inside_place thread m) m') λ m'. after_ (into e m' (kind_of e) (suc m')) λ m''.
        made (store (call line (Known name) (and (at_place o true thread m) (and (shift o attribute) (and (shift o start) (and (temp m' (kind_of e)) none)))) kind) x k) m''
    known_into printing line name (and format values) kind x k m =
        after_ (printed_into values m) λ m'. made (store (int_constant 0) x k) m'
    known_into shape line name args kind x k m = made stuck m

    -- the index of an object that is handed to a known name, into a temporary
    pub handed_into : ScopedExpression → ℕ → Made
    handed_into (address line (lvalue at meant index checked) kind) m = index_into index m (suc m)
    handed_into (object (lvalue at meant index checked) kind) m = index_into index m (suc m)
    handed_into e m = made stuck (suc m)

    -- values that nothing is done with
    pub printed_into : ScopedExpressions → ℕ → Made
    printed_into none m = made tree.nothing m
    printed_into (and e rest) m =
        after_ (unless_call (has_call e) (made (evals (shift o e) None) m) (into e m (kind_of e) (suc m))) λ m'. printed_into rest m'

  -- an expression whose value is not used
  abbrev pub discarded : ScopedExpression → ℕ → Made
  discarded e m = unless_call (has_call e) (made (evals (shift o e) None) m) (into e m (kind_of e) (suc m))

  -- an expression that has a value, into a local of any number
  abbrev pub set_made : ScopedExpression → ℕ → IntType → ℕ → Made
  set_made e x k m =
      unless_call (has_call e) (made (evals (shift o e) (Some (local x k))) m)
      (after_ (into e m (kind_of e) (suc m)) λ m'. made (evals (temp m (kind_of e)) (Some (local x k))) m')

  -- ---- tests and steps

  -- a test with a call in it, in a temporary
  abbrev pub test_made : ScopedExpression → ℕ → Made
  test_made e m = unless_call (has_call e) (made tree.nothing m) (into e m (kind_of e) (suc m))

  abbrev pub test_of : ScopedExpression → Bool → ℕ → ScopedExpression
  test_of e false m = shift o e
  test_of e true m = temp m (kind_of e)

  -- the test of a loop, and out of it where it fails
  abbrev pub unless_made : Option ScopedExpression → ℕ → Made
  unless_made None m = made tree.nothing m
  unless_made (Some e) m = after_ (test_made e m) λ m'. made (out_unless (test_of e (has_call e) m)) m'

  -- the step of a loop
  abbrev pub step_made : Option ScopedExpression → ℕ → Made
  step_made None m = made tree.nothing m
  step_made (Some e) m = discarded e m

  -- ---- declarations

  -- so many elements that the list of an array leaves out
  abbrev pub cleared : IntType → ℕ → ℕ → ℕ → Made
  cleared kind i zero m = made tree.nothing m
  cleared kind i (suc more) m = made (clear (Local (o + i) (suc more) kind)) m

  abbrev pub listed_made : IntType → ScopedExpressions → ℕ → ℕ → ℕ → Made
  listed_made kind none i more m = cleared kind i more m
  listed_made kind (and e rest) i zero m = made tree.nothing m
  listed_made kind (and e rest) i (suc more) m = after_ (set_made e (o + i) kind m) λ m'. listed_made kind rest (suc i) more m'

  abbrev pub integer_made : ℕ → ℕ → IntType → ScopedInitializer → ℕ → Made
  integer_made first len kind nothing m = made (fresh (Local (o + first) len kind)) m
  integer_made first len kind (single e) m = set_made e (o + first) kind m
  integer_made first len kind (listed values) m = listed_made kind values first len m

  abbrev pub object_made : Object → ScopedInitializer → ℕ → Made
  object_made (Local first len kind) value m = integer_made first len kind value m
  object_made (Handle first len) value m = made (clear (Handle first len)) m
  object_made x value m = made stuck m

  abbrev pub declarators_made : List ScopedInitDeclarator → ℕ → Made
  declarators_made [] m = made tree.nothing m
  declarators_made (d ∷ rest) m = after_ (object_made d.object d.first m) λ m'. declarators_made rest m'

-- ---- loops

-- so many turns, and nothing more after them
abbrev pub turns_made : (test : ℕ → Made) (body change : ℕ → Made) → ℕ → ℕ → Made
turns_made test body change zero m = after_ (test m) λ m'. made stuck m'
turns_made test body change (suc n) m =
    after_ (test m) λ m'. after_ (framed 1 (body m')) λ m''. after_ (change m'') λ m'''. turns_made test body change n m'''

-- so many turns of `do`, and nothing more after them
abbrev pub do_turns_made : (test : ℕ → Made) (body : ℕ → Made) → ℕ → ℕ → Made
do_turns_made test body zero m = made stuck m
do_turns_made test body (suc n) m =
    after_ (framed 1 (body m)) λ m'. after_ (test m') λ m''. do_turns_made test body n m''

-- ---- statements

-- whether an expression has no action
abbrev mutual
  pub is_silent : ScopedExpression → Bool
  is_silent (constant line v form kind) = true
  is_silent (null line kind) = true
  is_silent (paren line e kind) = is_silent e
  is_silent (unary line op e kind) = is_silent e
  is_silent (cast line to e kind) = is_silent e
  is_silent (binary line op a b kind) = not (is_logical op || is_division op) && (is_silent a && is_silent b)
  is_silent (call line callee args kind) = false
  is_silent e = false

-- A frame of number 0 stands round each loop, one of number 1 round the body of each turn, and one of number 2 round the
-- body of the function. The result has the number after the locals.
module _ (env : Callees) (o l n : ℕ) (result : IntType) where
  abbrev pub eval_made : ScopedExpression → Bool → ℕ → Made
  eval_made e true m = made tree.nothing m
  eval_made e false m = discarded env o e m

  abbrev pub return_made : Option ScopedExpression → ℕ → Made
  return_made None m = made (leave 2) m
  return_made (Some e) m = after_ (set_made env o e (o + l) result m) λ m'. made (leave 2) m'

  abbrev mutual
    -- a statement, in which each loop has n turns
    pub statement_made : ScopedStatement → ℕ → Made
    statement_made empty m = made tree.nothing m
    statement_made (eval e) m = eval_made e (is_silent e) m
    statement_made (block parts) m = statements_made parts m
    statement_made (declare of) m = declarators_made env o of.declarators m
    statement_made (when line test first second) m =
        after_ (test_made env o test m) λ m'.
        made (tree.when (test_of env o test (has_call test) m) (statement_made first m').tree (branch_made second (statement_made first m').next).tree) (branch_made second (statement_made first m').next).next
    statement_made (while line test body) m =
        framed 0 (turns_made (unless_made env o (Some test)) (λ m'. statement_made body m') (step_made env o None) n m)
    statement_made (do_while line body test) m =
        framed 0 (do_turns_made (unless_made env o (Some test)) (λ m'. statement_made body m') n m)
    statement_made (for line first test change body) m =
        after_ (statement_made first m) λ m'.
        framed 0 (turns_made (unless_made env o test) (λ m''. statement_made body m'') (step_made env o change) n m')
    statement_made (break line) m = made (leave 0) m
    statement_made (continue line) m = made (leave 1) m
    statement_made (return line value) m = return_made value m
    statement_made (label name of) m = statement_made of m

    -- what follows `else`
    pub branch_made : ScopedBranch → ℕ → Made
    branch_made absent m = made tree.nothing m
    branch_made (branch of) m = statement_made of m

    -- statements one after the other
    pub statements_made : ScopedStatements → ℕ → Made
    statements_made nil m = made tree.nothing m
    statements_made (cons s rest) m = after_ (statement_made s m) λ m'. statements_made rest m'
