-- Each step of a statement brings it nearer to its last station.
use Rattle.std.proofs.Common.{◌≡◌, ℕ, zero, suc, ◌+◌, ◌*◌, ◌-◌, ◌<◌, Bool, true, false, nat_lt, List, [], ◌∷◌, Option, Some, None, refl, ap, arith}
use Rattle.std.proofs.lemmas.Bool.Decides.{nat_tests}
use Rattle.lz_base.specs.Words.{is_true}
use Rattle.lz_base.specs.declared.word.IntType.{IntType}
use Rattle.lz_tree.specs.declared.scoped.Object.{Object}
use Rattle.lz_tree.specs.declared.scoped.Object.TheVariants.{Local, Cell, Mutex, Cond, Handle, Routine, Known}
use Rattle.lz_tree.specs.ScopedTrees.{ScopedExpression, ScopedInitializer, nothing, single, listed, ScopedInitDeclarator, ScopedStatement, empty, eval, block, declare, when, while, do_while, for, break, continue, return, label, ScopedStatements, nil, cons}
use Rattle.lz_model.specs.CodeTraces.{Flow, normal, breaks, continues, returns, len_of}
use Rattle.lz_turns.specs.Moves.{argument_at}
use Rattle.lz_stations.specs.Stations as at
use Rattle.lz_stations.specs.Stations.{Station, start, led, evaluated, listing, declaring, filling, arbitrary, filled, initialized, tested, taken, other, opened, turning, turned, bodied, changed, doing, returned, labelled}
use Rattle.lz_stations.specs.StationMoves.{parts_of, statement_at, declared_by, declarator_at, Loop, no_loop, before_turns, behind_turns, loop_of, value_of, element_value, in_branch, begin_return, begin_statement, follow_move, list_move, listed_so, integer_move, object_move, declare_move, listed_move, fill_integer, fill_handle, fill_object, fill_move, filled_if, filled_object, valued_move, arbitrary_move, filled_move, single_value, single_object, single_move, initialized_move, other_move, test_move, tested_move, turn_move, ask_move, turning_move, do_again, turned_so, turned_move, step_move, behind_body, bodied_move, changed_move, do_move, doing_move, return_move, station_move}
use Rattle.lz_stations.specs.StationTraces.{declarators_from}
use Rattle.lz_stations.specs.StationRanks.{part_count, steps_of, elements_of, station_rank, FallsTo}
use Rattle.lz_stations.proofs.StationsLemmas.{declarators_some}

-- a part at a place is one of so many
part_below : (ps : ScopedStatements) (k : ℕ) (a : ScopedStatement) → statement_at ps k ≡ Some a → k < part_count ps
part_below nil k a e = absurd cc
part_below (cons x rest) zero a e = omega arith
part_below (cons x rest) (suc k) a e = let h : k < part_count rest = part_below rest k a e in omega (arith, h)

-- the steps of a declarator and of those behind it
steps_from : (ds : List ScopedInitDeclarator) (k : ℕ) (d : ScopedInitDeclarator) → declarator_at ds k ≡ Some d
    → steps_of (declarators_from ds k) ≡ 2 * len_of d.object + 4 + steps_of (declarators_from ds (suc k))
steps_from ds k d is = ap steps_of (declarators_some ds k d is)

module _ (n : ℕ) where
  return_begins : (s : ScopedStatement) (r : ℕ) (o : Option ScopedExpression) → 0 < r → FallsTo n s r (begin_return o)
  return_begins s r None low = tt
  return_begins s r (Some value) low = low

  start_falls : (s : ScopedStatement) → FallsTo n s (station_rank n s start) (begin_statement n s)
  start_falls empty = tt
  start_falls (eval value) = omega arith
  start_falls (block parts) = omega arith
  start_falls (declare of) = omega arith
  start_falls (when line test one two) = omega arith
  start_falls (while line test body) = omega arith
  start_falls (do_while line body test) = omega arith
  start_falls (for line opens test change body) = omega arith
  start_falls (break line) = tt
  start_falls (continue line) = tt
  start_falls (return line value) = return_begins (return line value) (station_rank n (return line value) start) value (omega arith)
  start_falls (label name of) = omega arith

  follow_falls : (s : ScopedStatement) (r : ℕ) (flow : Flow) (next : Station) → station_rank n s next < r → FallsTo n s r (follow_move flow next)
  follow_falls s r normal next low = low
  follow_falls s r breaks next low = tt
  follow_falls s r continues next low = tt
  follow_falls s r (returns kind value) next low = tt

  list_falls : (s : ScopedStatement) (k : ℕ) (o : Option ScopedStatement) → FallsTo n s (station_rank n s (listing k)) (list_move o k)
  list_falls s k None = tt
  list_falls s k (Some a) = omega arith

  listed_falls : (s : ScopedStatement) (k : ℕ) (flow : Flow) (o : Option ScopedStatement) → statement_at (parts_of s) k ≡ o → FallsTo n s (station_rank n s (at.listed k)) (listed_so o flow k)
  listed_falls s k flow None is = tt
  listed_falls s k flow (Some a) is =
      let h : k < part_count (parts_of s) = part_below (parts_of s) k a is in
      follow_falls s (station_rank n s (at.listed k)) flow (listing (suc k)) (omega (arith, h))

  -- ---- declarations

  integer_falls : (s : ScopedStatement) (k r : ℕ) (value : ScopedInitializer) → station_rank n s (filling k 0) < r → station_rank n s (initialized k) < r → FallsTo n s r (integer_move value k)
  integer_falls s k r nothing fill one = fill
  integer_falls s k r (single value) fill one = one
  integer_falls s k r (listed values) fill one = fill

  object_falls : (s : ScopedStatement) (k r : ℕ) (object : Object) (value : ScopedInitializer) → station_rank n s (filling k 0) < r → station_rank n s (initialized k) < r → FallsTo n s r (object_move object value k)
  object_falls s k r (Local first len kind) value fill one = integer_falls s k r value fill one
  object_falls s k r (Handle first len) value fill one = fill
  object_falls s k r (Cell first len kind) value fill one = tt
  object_falls s k r (Mutex first len) value fill one = tt
  object_falls s k r (Cond first len) value fill one = tt
  object_falls s k r (Routine function) value fill one = tt
  object_falls s k r (Known name) value fill one = tt

  declare_falls : (s : ScopedStatement) (k : ℕ) (o : Option ScopedInitDeclarator) → declarator_at (declared_by s) k ≡ o → FallsTo n s (station_rank n s (declaring k)) (declare_move o k)
  declare_falls s k None is = tt
  declare_falls s k (Some d) is =
      let steps = steps_from (declared_by s) k d is in
      let len : elements_of (declarator_at (declared_by s) k) ≡ len_of d.object = ap elements_of is in
      object_falls s k (station_rank n s (declaring k)) d.object d.first (omega (arith, steps, len)) (omega (arith, steps))

  -- an element in range, and the one behind it
  module _ (s : ScopedStatement) (k i : ℕ) (d : ScopedInitDeclarator) (is : declarator_at (declared_by s) k ≡ Some d) where
    len_is : elements_of (declarator_at (declared_by s) k) ≡ len_of d.object
    len_is = ap elements_of is

    next_falls : nat_lt i (len_of d.object) ≡ true → station_rank n s (filling k (suc i)) < station_rank n s (filled k i)
    next_falls fit = let h : i < len_of d.object = grind (arith, nat_tests, fit) in omega (arith, h, len_is)

    behind_falls : station_rank n s (declaring (suc k)) < station_rank n s (filling k i)
    behind_falls = omega arith

    value_falls : station_rank n s (filled k i) < station_rank n s (filling k i)
    value_falls = omega arith

    skip_falls : nat_lt i (len_of d.object) ≡ true → station_rank n s (filling k (suc i)) < station_rank n s (filling k i)
    skip_falls fit = let h = next_falls fit in let one = value_falls in omega (arith, h, one)

    element_falls : (o : Option ScopedExpression) → nat_lt i (len_of d.object) ≡ true → FallsTo n s (station_rank n s (filling k i)) (listed_move o k i)
    element_falls None fit = skip_falls fit
    element_falls (Some value) fit = value_falls

    fill_integer_falls : (b : Bool) (kind : IntType) (value : ScopedInitializer) → nat_lt i (len_of d.object) ≡ b → FallsTo n s (station_rank n s (filling k i)) (fill_integer b kind value k i)
    fill_integer_falls false kind value fit = behind_falls
    fill_integer_falls true kind nothing fit = tt
    fill_integer_falls true kind (single value) fit = behind_falls
    fill_integer_falls true kind (listed values) fit = element_falls (argument_at values i) fit

    fill_handle_falls : (b : Bool) → nat_lt i (len_of d.object) ≡ b → FallsTo n s (station_rank n s (filling k i)) (fill_handle b k i)
    fill_handle_falls false fit = behind_falls
    fill_handle_falls true fit = skip_falls fit

    fill_object_falls : (object : Object) (value : ScopedInitializer) → d.object ≡ object → FallsTo n s (station_rank n s (filling k i)) (fill_object object value k i)
    fill_object_falls (Local first len kind) value e = fill_integer_falls (nat_lt i len) kind value (ap (λ (o : Object). nat_lt i (len_of o)) e)
    fill_object_falls (Handle first len) value e = fill_handle_falls (nat_lt i len) (ap (λ (o : Object). nat_lt i (len_of o)) e)
    fill_object_falls (Cell first len kind) value e = tt
    fill_object_falls (Mutex first len) value e = tt
    fill_object_falls (Cond first len) value e = tt
    fill_object_falls (Routine function) value e = tt
    fill_object_falls (Known name) value e = tt

    filled_if_falls : (b : Bool) → nat_lt i (len_of d.object) ≡ b → FallsTo n s (station_rank n s (filled k i)) (filled_if b k i)
    filled_if_falls false fit = tt
    filled_if_falls true fit = next_falls fit

    filled_object_falls : (object : Object) → d.object ≡ object → FallsTo n s (station_rank n s (filled k i)) (filled_object object k i)
    filled_object_falls (Local first len kind) e = filled_if_falls (nat_lt i len) (ap (λ (o : Object). nat_lt i (len_of o)) e)
    filled_object_falls (Handle first len) e = tt
    filled_object_falls (Cell first len kind) e = tt
    filled_object_falls (Mutex first len) e = tt
    filled_object_falls (Cond first len) e = tt
    filled_object_falls (Routine function) e = tt
    filled_object_falls (Known name) e = tt

    valued_falls : (o : Option ScopedExpression) → FallsTo n s (station_rank n s (filled k i)) (valued_move d.object o k i)
    valued_falls None = tt
    valued_falls (Some value) = filled_object_falls d.object refl

  fill_falls : (s : ScopedStatement) (k i : ℕ) (o : Option ScopedInitDeclarator) → declarator_at (declared_by s) k ≡ o → FallsTo n s (station_rank n s (filling k i)) (fill_move o k i)
  fill_falls s k i None is = tt
  fill_falls s k i (Some d) is = fill_object_falls s k i d is d.object d.first refl

  arbitrary_falls : (s : ScopedStatement) (k i : ℕ) (o : Option ScopedInitDeclarator) → declarator_at (declared_by s) k ≡ o → FallsTo n s (station_rank n s (arbitrary k i)) (arbitrary_move o k i)
  arbitrary_falls s k i None is = tt
  arbitrary_falls s k i (Some d) is = filled_object_falls s k i d is d.object refl

  filled_falls : (s : ScopedStatement) (k i : ℕ) (o : Option ScopedInitDeclarator) → declarator_at (declared_by s) k ≡ o → FallsTo n s (station_rank n s (filled k i)) (filled_move o k i)
  filled_falls s k i None is = tt
  filled_falls s k i (Some d) is = valued_falls s k i d is (element_value d.first i)

  single_falls : (s : ScopedStatement) (k : ℕ) (object : Object) → FallsTo n s (station_rank n s (initialized k)) (single_object object k)
  single_falls s k (Local first len kind) = omega arith
  single_falls s k (Handle first len) = tt
  single_falls s k (Cell first len kind) = tt
  single_falls s k (Mutex first len) = tt
  single_falls s k (Cond first len) = tt
  single_falls s k (Routine function) = tt
  single_falls s k (Known name) = tt

  one_falls : (s : ScopedStatement) (k : ℕ) (object : Object) (o : Option ScopedExpression) → FallsTo n s (station_rank n s (initialized k)) (single_move object o k)
  one_falls s k object None = tt
  one_falls s k object (Some value) = single_falls s k object

  initialized_falls : (s : ScopedStatement) (k : ℕ) (o : Option ScopedInitDeclarator) → FallsTo n s (station_rank n s (initialized k)) (initialized_move o k)
  initialized_falls s k None = tt
  initialized_falls s k (Some d) = one_falls s k d.object (single_value d.first)

  -- ---- branches and loops

  other_falls : (s : ScopedStatement) (o : Option ScopedStatement) → FallsTo n s 1 (other_move o)
  other_falls s None = tt
  other_falls s (Some a) = omega arith

  test_falls : (s : ScopedStatement) (holds : Bool) (o : Option ScopedStatement) → FallsTo n s 1 (test_move holds o)
  test_falls s true o = omega arith
  test_falls s false o = other_falls s o

  tested_falls : (s : ScopedStatement) (v : ℕ) → FallsTo n s 1 (tested_move s v)
  tested_falls empty v = tt
  tested_falls (eval value) v = tt
  tested_falls (block parts) v = tt
  tested_falls (declare of) v = tt
  tested_falls (when line test one two) v = test_falls (when line test one two) (is_true v) (in_branch two)
  tested_falls (while line test body) v = tt
  tested_falls (do_while line body test) v = tt
  tested_falls (for line opens test change body) v = tt
  tested_falls (break line) v = tt
  tested_falls (continue line) v = tt
  tested_falls (return line value) v = tt
  tested_falls (label name of) v = tt

  turn_falls : (s : ScopedStatement) (again : Bool) (left r : ℕ) → 8 * left < r + 2 → FallsTo n s r (turn_move again left)
  turn_falls s false left r low = tt
  turn_falls s true zero r low = tt
  turn_falls s true (suc left) r low = omega (arith, low)

  ask_falls : (s : ScopedStatement) (test : Option ScopedExpression) (left : ℕ) → FallsTo n s (station_rank n s (turning left)) (ask_move test left)
  ask_falls s None left = turn_falls s true left (station_rank n s (turning left)) (omega arith)
  ask_falls s (Some test) left = omega arith

  turning_falls : (s : ScopedStatement) (loop : Loop) (left : ℕ) → FallsTo n s (station_rank n s (turning left)) (turning_move loop left)
  turning_falls s no_loop left = tt
  turning_falls s (before_turns line test change body) left = ask_falls s test left
  turning_falls s (behind_turns line test body) left = tt

  again_falls : (s : ScopedStatement) (again : Bool) (left : ℕ) → FallsTo n s (station_rank n s (turned left)) (do_again again left)
  again_falls s false left = tt
  again_falls s true left = omega arith

  turned_so_falls : (s : ScopedStatement) (test : Option ScopedExpression) (left v : ℕ) → FallsTo n s (station_rank n s (turned left)) (turned_so test left v)
  turned_so_falls s None left v = tt
  turned_so_falls s (Some test) left v = turn_falls s (is_true v) left (station_rank n s (turned left)) (omega arith)

  turned_falls : (s : ScopedStatement) (loop : Loop) (left v : ℕ) → FallsTo n s (station_rank n s (turned left)) (turned_move loop left v)
  turned_falls s no_loop left v = tt
  turned_falls s (before_turns line test change body) left v = turned_so_falls s test left v
  turned_falls s (behind_turns line test body) left v = again_falls s (is_true v) left

  step_falls : (s : ScopedStatement) (change : Option ScopedExpression) (left : ℕ) → FallsTo n s (station_rank n s (bodied left)) (step_move change left)
  step_falls s None left = omega arith
  step_falls s (Some change) left = omega arith

  before_falls : (s : ScopedStatement) (change : Option ScopedExpression) (left : ℕ) (flow : Flow) → FallsTo n s (station_rank n s (bodied left)) (behind_body flow (step_move change left))
  before_falls s change left normal = step_falls s change left
  before_falls s change left continues = step_falls s change left
  before_falls s change left breaks = tt
  before_falls s change left (returns kind value) = tt

  asked_falls : (s : ScopedStatement) (left : ℕ) (flow : Flow) → FallsTo n s (station_rank n s (bodied left)) (behind_body flow (at.enters_value (turned left)))
  asked_falls s left normal = omega arith
  asked_falls s left continues = omega arith
  asked_falls s left breaks = tt
  asked_falls s left (returns kind value) = tt

  bodied_falls : (s : ScopedStatement) (loop : Loop) (left : ℕ) (flow : Flow) → FallsTo n s (station_rank n s (bodied left)) (bodied_move loop left flow)
  bodied_falls s no_loop left flow = tt
  bodied_falls s (before_turns line test change body) left flow = before_falls s change left flow
  bodied_falls s (behind_turns line test body) left flow = asked_falls s left flow

  changed_falls : (s : ScopedStatement) (loop : Loop) (left : ℕ) → FallsTo n s (station_rank n s (changed left)) (changed_move loop left)
  changed_falls s no_loop left = tt
  changed_falls s (before_turns line test change body) left = omega arith
  changed_falls s (behind_turns line test body) left = tt

  do_falls : (s : ScopedStatement) (left : ℕ) → FallsTo n s (station_rank n s (doing left)) (do_move left)
  do_falls s zero = tt
  do_falls s (suc left) = omega arith

  doing_falls : (s : ScopedStatement) (loop : Loop) (left : ℕ) → FallsTo n s (station_rank n s (doing left)) (doing_move loop left)
  doing_falls s no_loop left = tt
  doing_falls s (before_turns line test change body) left = tt
  doing_falls s (behind_turns line test body) left = do_falls s left

  return_falls : (s : ScopedStatement) (r v : ℕ) (o : Option ScopedExpression) → FallsTo n s r (return_move o v)
  return_falls s r v None = tt
  return_falls s r v (Some value) = tt

  pub station_falls : (s : ScopedStatement) (station : Station) (v : ℕ) (flow : Flow) → FallsTo n s (station_rank n s station) (station_move n s station v flow)
  station_falls s start v flow = start_falls s
  station_falls s (led own) v flow = tt
  station_falls s evaluated v flow = tt
  station_falls s (listing k) v flow = list_falls s k (statement_at (parts_of s) k)
  station_falls s (at.listed k) v flow = listed_falls s k flow (statement_at (parts_of s) k) refl
  station_falls s (declaring k) v flow = declare_falls s k (declarator_at (declared_by s) k) refl
  station_falls s (filling k i) v flow = fill_falls s k i (declarator_at (declared_by s) k) refl
  station_falls s (arbitrary k i) v flow = arbitrary_falls s k i (declarator_at (declared_by s) k) refl
  station_falls s (filled k i) v flow = filled_falls s k i (declarator_at (declared_by s) k) refl
  station_falls s (initialized k) v flow = initialized_falls s k (declarator_at (declared_by s) k)
  station_falls s tested v flow = tested_falls s v
  station_falls s taken v flow = tt
  station_falls s other v flow = tt
  station_falls s opened v flow = follow_falls s (station_rank n s opened) flow (turning n) (omega arith)
  station_falls s (turning left) v flow = turning_falls s (loop_of s) left
  station_falls s (turned left) v flow = turned_falls s (loop_of s) left v
  station_falls s (bodied left) v flow = bodied_falls s (loop_of s) left flow
  station_falls s (changed left) v flow = changed_falls s (loop_of s) left
  station_falls s (doing left) v flow = doing_falls s (loop_of s) left
  station_falls s returned v flow = return_falls s 0 v (value_of s)
  station_falls s labelled v flow = tt
