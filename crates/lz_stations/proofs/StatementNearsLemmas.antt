-- Each call brings a statement nearer to its end: it makes so many at most, and its parts make fewer.
use Rattle.std.proofs.Common.{◌≡◌, ℕ, zero, suc, ◌+◌, ◌*◌, ◌<◌, ◌≤◌, List, [], ◌∷◌, ◌++◌, Option, Some, None, refl, sym, ap, subst, arith}
use Rattle.std.specs.Prelude.{⊤}
use Rattle.std.specs.List.{Contains}
use Rattle.std.proofs.lemmas.List.Elements.{Contains-append_left, Contains-append_right}
use Rattle.lz_tree.specs.Calls.{expression_calls, expressions_calls, optional_calls, initializer_calls, declarators_calls, statement_calls, branch_calls, statements_calls}
use Rattle.lz_tree.specs.ScopedTrees.{ScopedExpression, ScopedExpressions, none, and, ScopedInitializer, nothing, single, listed, ScopedInitDeclarator, ScopedStatement, empty, eval, block, declare, when, while, do_while, for, break, continue, return, label, ScopedBranch, absent, branch, ScopedStatements, nil, cons}
use Rattle.lz_turns.specs.Stages as stages
use Rattle.lz_turns.specs.Stages.{Came, settles}
use Rattle.lz_turns.specs.Moves.{argument_at}
use Rattle.lz_turns.specs.Nears.{left_in, calls_left, Nears}
use Rattle.lz_turns.proofs.NearsLemmas.{start_most}
use Rattle.lz_stations.specs.Stations as at
use Rattle.lz_stations.specs.Stations.{Station, start, led, evaluated, listing, declaring, filling, arbitrary, filled, initialized, tested, taken, other, opened, turning, turned, bodied, changed, doing, returned, labelled, Footing, at_station, in_value, in_part, Pause, acts, reads, asks, signals, creates, calls_on, Reached, leads, pauses, fails, refuses, quits, stops}
use Rattle.lz_stations.specs.StationMoves.{parts_of, statement_at, declared_by, declarator_at, loop_of, value_of, first_part, in_branch, second_part, test_of, change_of, body_of, element_value, single_value, initializer_of, value_at, part_at}
use Rattle.lz_stations.specs.StationRanks.{station_rank, IsStill}
use Rattle.lz_stations.specs.StatementNears.{expression_most, expressions_most, optional_most, initializer_most, declared_most, most_with, inner_most, branch_most, statements_most, statement_most, left_within, statement_left, PauseNears, StatementNears}
use Rattle.lz_stations.specs.Walks.{Stepped, again, stopped, StepNears, stepped_by_value, stepped_by_part}

-- ---- expressions

-- the functions that an expression calls, where there is one, are among these, and it makes at most so many calls
abbrev Own : List ℕ → ℕ → Option ScopedExpression → Type 0
Own fs m None = ⊤
Own fs m (Some e) = ((f : ℕ) → Contains (expression_calls e) f → Contains fs f) × (expression_most e ≤ m)

own_more : (fs gs : List ℕ) (m k : ℕ) (o : Option ScopedExpression) → Own fs m o → ((f : ℕ) → Contains fs f → Contains gs f) → m ≤ k → Own gs k o
own_more fs gs m k None h more le = tt
own_more fs gs m k (Some e) h more le = let low : expression_most e ≤ m = h.1 in (λ f c. more f (h.0 f c), omega (arith, low, le))

own_optional : (o : Option ScopedExpression) → Own (optional_calls o) (optional_most o) o
own_optional None = tt
own_optional (Some e) = (λ f h. h, omega arith)

own_argument : (args : ScopedExpressions) (i : ℕ) → Own (expressions_calls args) (expressions_most args) (argument_at args i)
own_argument none i = tt
own_argument (and x rest) zero = (λ f h. Contains-append_left (expression_calls x) (expressions_calls rest) f h, omega arith)
own_argument (and x rest) (suc i) =
    own_more (expressions_calls rest) (expression_calls x ++ expressions_calls rest) (expressions_most rest) (expression_most x + expressions_most rest) (argument_at rest i) (own_argument rest i)
    (λ f h. Contains-append_right (expression_calls x) (expressions_calls rest) f h) (omega arith)

own_element : (first : ScopedInitializer) (i : ℕ) → Own (initializer_calls first) (initializer_most first) (element_value first i)
own_element nothing i = tt
own_element (single value) i = tt
own_element (listed values) i = own_argument values i

own_single : (first : ScopedInitializer) → Own (initializer_calls first) (initializer_most first) (single_value first)
own_single nothing = tt
own_single (single value) = (λ f h. h, omega arith)
own_single (listed values) = tt

-- what is so of each initializer is so of a declarator's
own_declared : (value : ScopedInitializer → Option ScopedExpression) → value nothing ≡ None → ((first : ScopedInitializer) → Own (initializer_calls first) (initializer_most first) (value first)) → (ds : List ScopedInitDeclarator) (k : ℕ)
    → Own (declarators_calls ds) (declared_most ds) (value (initializer_of (declarator_at ds k)))
own_declared value empty_is each [] k = subst (λ (o : Option ScopedExpression). Own [] 0 o) (sym empty_is) tt
own_declared value empty_is each (d ∷ rest) zero =
    own_more (initializer_calls d.first) (declarators_calls (d ∷ rest)) (initializer_most d.first) (declared_most (d ∷ rest)) (value d.first) (each d.first)
    (λ f h. Contains-append_right (optional_calls d.length) (initializer_calls d.first ++ declarators_calls rest) f (Contains-append_left (initializer_calls d.first) (declarators_calls rest) f h)) (omega arith)
own_declared value empty_is each (d ∷ rest) (suc k) =
    own_more (declarators_calls rest) (declarators_calls (d ∷ rest)) (declared_most rest) (declared_most (d ∷ rest)) (value (initializer_of (declarator_at rest k))) (own_declared value empty_is each rest k)
    (λ f h. Contains-append_right (optional_calls d.length) (initializer_calls d.first ++ declarators_calls rest) f (Contains-append_right (initializer_calls d.first) (declarators_calls rest) f h)) (omega arith)

-- the functions that a statement calls, where there is one, are among these, and it makes at most so many calls
abbrev OwnPart : ℕ → List ℕ → ℕ → Option ScopedStatement → Type 0
OwnPart n fs m None = ⊤
OwnPart n fs m (Some a) = ((f : ℕ) → Contains (statement_calls a) f → Contains fs f) × (statement_most n a ≤ m)

module _ (n : ℕ) where
  own_part_more : (fs gs : List ℕ) (m k : ℕ) (o : Option ScopedStatement) → OwnPart n fs m o → ((f : ℕ) → Contains fs f → Contains gs f) → m ≤ k → OwnPart n gs k o
  own_part_more fs gs m k None h more le = tt
  own_part_more fs gs m k (Some a) h more le = let low : statement_most n a ≤ m = h.1 in (λ f c. more f (h.0 f c), omega (arith, low, le))

  own_value : (s : ScopedStatement) → Own (statement_calls s) (inner_most n s) (value_of s)
  own_value empty = tt
  own_value (eval value) = (λ f h. h, omega arith)
  own_value (block parts) = tt
  own_value (declare of) = tt
  own_value (when line test one two) = (λ f h. Contains-append_left (expression_calls test) (statement_calls one ++ branch_calls two) f h, omega arith)
  own_value (while line test body) = tt
  own_value (do_while line body test) = tt
  own_value (for line opens test change body) = tt
  own_value (break line) = tt
  own_value (continue line) = tt
  own_value (return line value) = own_optional value
  own_value (label name of) = tt

  own_test : (s : ScopedStatement) → Own (statement_calls s) (inner_most n s) (test_of (loop_of s))
  own_test empty = tt
  own_test (eval value) = tt
  own_test (block parts) = tt
  own_test (declare of) = tt
  own_test (when line test one two) = tt
  own_test (while line test body) = (λ f h. Contains-append_left (expression_calls test) (statement_calls body) f h, omega arith)
  own_test (do_while line body test) = (λ f h. Contains-append_right (statement_calls body) (expression_calls test) f h, omega arith)
  own_test (for line opens test change body) =
      own_more (optional_calls test) (statement_calls (for line opens test change body)) (optional_most test) (inner_most n (for line opens test change body)) test (own_optional test)
      (λ f h. Contains-append_right (statement_calls opens) (optional_calls test ++ (optional_calls change ++ statement_calls body)) f (Contains-append_left (optional_calls test) (optional_calls change ++ statement_calls body) f h)) (omega arith)
  own_test (break line) = tt
  own_test (continue line) = tt
  own_test (return line value) = tt
  own_test (label name of) = tt

  own_change : (s : ScopedStatement) → Own (statement_calls s) (inner_most n s) (change_of (loop_of s))
  own_change empty = tt
  own_change (eval value) = tt
  own_change (block parts) = tt
  own_change (declare of) = tt
  own_change (when line test one two) = tt
  own_change (while line test body) = tt
  own_change (do_while line body test) = tt
  own_change (for line opens test change body) =
      own_more (optional_calls change) (statement_calls (for line opens test change body)) (optional_most change) (inner_most n (for line opens test change body)) change (own_optional change)
      (λ f h. Contains-append_right (statement_calls opens) (optional_calls test ++ (optional_calls change ++ statement_calls body)) f (Contains-append_right (optional_calls test) (optional_calls change ++ statement_calls body) f (Contains-append_left (optional_calls change) (statement_calls body) f h))) (omega arith)
  own_change (break line) = tt
  own_change (continue line) = tt
  own_change (return line value) = tt
  own_change (label name of) = tt

  own_initializer : (s : ScopedStatement) (value : ScopedInitializer → Option ScopedExpression) → value nothing ≡ None → ((first : ScopedInitializer) → Own (initializer_calls first) (initializer_most first) (value first)) → (k : ℕ)
      → Own (statement_calls s) (inner_most n s) (value (initializer_of (declarator_at (declared_by s) k)))
  own_initializer empty value empty_is each k = subst (λ (o : Option ScopedExpression). Own (statement_calls empty) (inner_most n empty) o) (sym empty_is) tt
  own_initializer (eval v) value empty_is each k = subst (λ (o : Option ScopedExpression). Own (statement_calls (eval v)) (inner_most n (eval v)) o) (sym empty_is) tt
  own_initializer (block parts) value empty_is each k = subst (λ (o : Option ScopedExpression). Own (statement_calls (block parts)) (inner_most n (block parts)) o) (sym empty_is) tt
  own_initializer (declare of) value empty_is each k = own_declared value empty_is each of.declarators k
  own_initializer (when line test one two) value empty_is each k = subst (λ (o : Option ScopedExpression). Own (statement_calls (when line test one two)) (inner_most n (when line test one two)) o) (sym empty_is) tt
  own_initializer (while line test body) value empty_is each k = subst (λ (o : Option ScopedExpression). Own (statement_calls (while line test body)) (inner_most n (while line test body)) o) (sym empty_is) tt
  own_initializer (do_while line body test) value empty_is each k = subst (λ (o : Option ScopedExpression). Own (statement_calls (do_while line body test)) (inner_most n (do_while line body test)) o) (sym empty_is) tt
  own_initializer (for line opens test change body) value empty_is each k = subst (λ (o : Option ScopedExpression). Own (statement_calls (for line opens test change body)) (inner_most n (for line opens test change body)) o) (sym empty_is) tt
  own_initializer (break line) value empty_is each k = subst (λ (o : Option ScopedExpression). Own (statement_calls (break line)) (inner_most n (break line)) o) (sym empty_is) tt
  own_initializer (continue line) value empty_is each k = subst (λ (o : Option ScopedExpression). Own (statement_calls (continue line)) (inner_most n (continue line)) o) (sym empty_is) tt
  own_initializer (return line v) value empty_is each k = subst (λ (o : Option ScopedExpression). Own (statement_calls (return line v)) (inner_most n (return line v)) o) (sym empty_is) tt
  own_initializer (label name of) value empty_is each k = subst (λ (o : Option ScopedExpression). Own (statement_calls (label name of)) (inner_most n (label name of)) o) (sym empty_is) tt

  own_at : (s : ScopedStatement) (station : Station) → Own (statement_calls s) (inner_most n s) (value_at s station)
  own_at s start = tt
  own_at s (led flow) = tt
  own_at s evaluated = own_value s
  own_at s (listing k) = tt
  own_at s (at.listed k) = tt
  own_at s (declaring k) = tt
  own_at s (filling k i) = tt
  own_at s (arbitrary k i) = tt
  own_at s (filled k i) = own_initializer s (λ first. element_value first i) refl (λ first. own_element first i) k
  own_at s (initialized k) = own_initializer s single_value refl own_single k
  own_at s tested = own_value s
  own_at s taken = tt
  own_at s other = tt
  own_at s opened = tt
  own_at s (turning left) = tt
  own_at s (turned left) = own_test s
  own_at s (bodied left) = tt
  own_at s (changed left) = own_change s
  own_at s (doing left) = tt
  own_at s returned = own_value s
  own_at s labelled = tt

  -- ---- statements

  own_branch : (b : ScopedBranch) → OwnPart n (branch_calls b) (branch_most n b) (in_branch b)
  own_branch absent = tt
  own_branch (branch of) = (λ f h. h, omega arith)

  own_listed : (ps : ScopedStatements) (k : ℕ) → OwnPart n (statements_calls ps) (statements_most n ps) (statement_at ps k)
  own_listed nil k = tt
  own_listed (cons a rest) zero = (λ f h. Contains-append_left (statement_calls a) (statements_calls rest) f h, omega arith)
  own_listed (cons a rest) (suc k) =
      own_part_more (statements_calls rest) (statement_calls a ++ statements_calls rest) (statements_most n rest) (statement_most n a + statements_most n rest) (statement_at rest k) (own_listed rest k)
      (λ f h. Contains-append_right (statement_calls a) (statements_calls rest) f h) (omega arith)

  own_first : (s : ScopedStatement) → OwnPart n (statement_calls s) (inner_most n s) (first_part s)
  own_first empty = tt
  own_first (eval value) = tt
  own_first (block parts) = tt
  own_first (declare of) = tt
  own_first (when line test one two) = (λ f h. Contains-append_right (expression_calls test) (statement_calls one ++ branch_calls two) f (Contains-append_left (statement_calls one) (branch_calls two) f h), omega arith)
  own_first (while line test body) = tt
  own_first (do_while line body test) = tt
  own_first (for line opens test change body) = (λ f h. Contains-append_left (statement_calls opens) (optional_calls test ++ (optional_calls change ++ statement_calls body)) f h, omega arith)
  own_first (break line) = tt
  own_first (continue line) = tt
  own_first (return line value) = tt
  own_first (label name of) = (λ f h. h, omega arith)

  own_second : (s : ScopedStatement) → OwnPart n (statement_calls s) (inner_most n s) (second_part s)
  own_second empty = tt
  own_second (eval value) = tt
  own_second (block parts) = tt
  own_second (declare of) = tt
  own_second (when line test one two) =
      own_part_more (branch_calls two) (statement_calls (when line test one two)) (branch_most n two) (inner_most n (when line test one two)) (in_branch two) (own_branch two)
      (λ f h. Contains-append_right (expression_calls test) (statement_calls one ++ branch_calls two) f (Contains-append_right (statement_calls one) (branch_calls two) f h)) (omega arith)
  own_second (while line test body) = tt
  own_second (do_while line body test) = tt
  own_second (for line opens test change body) = tt
  own_second (break line) = tt
  own_second (continue line) = tt
  own_second (return line value) = tt
  own_second (label name of) = tt

  own_body : (s : ScopedStatement) → OwnPart n (statement_calls s) (inner_most n s) (body_of (loop_of s))
  own_body empty = tt
  own_body (eval value) = tt
  own_body (block parts) = tt
  own_body (declare of) = tt
  own_body (when line test one two) = tt
  own_body (while line test body) = (λ f h. Contains-append_right (expression_calls test) (statement_calls body) f h, omega arith)
  own_body (do_while line body test) = (λ f h. Contains-append_left (statement_calls body) (expression_calls test) f h, omega arith)
  own_body (for line opens test change body) =
      (λ f h. Contains-append_right (statement_calls opens) (optional_calls test ++ (optional_calls change ++ statement_calls body)) f (Contains-append_right (optional_calls test) (optional_calls change ++ statement_calls body) f (Contains-append_right (optional_calls change) (statement_calls body) f h)), omega arith)
  own_body (break line) = tt
  own_body (continue line) = tt
  own_body (return line value) = tt
  own_body (label name of) = tt

  own_parts : (s : ScopedStatement) (k : ℕ) → OwnPart n (statement_calls s) (inner_most n s) (statement_at (parts_of s) k)
  own_parts empty k = tt
  own_parts (eval value) k = tt
  own_parts (block parts) k = own_listed parts k
  own_parts (declare of) k = tt
  own_parts (when line test one two) k = tt
  own_parts (while line test body) k = tt
  own_parts (do_while line body test) k = tt
  own_parts (for line opens test change body) k = tt
  own_parts (break line) k = tt
  own_parts (continue line) k = tt
  own_parts (return line value) k = tt
  own_parts (label name of) k = tt

  own_part_at : (s : ScopedStatement) (station : Station) → OwnPart n (statement_calls s) (inner_most n s) (part_at s station)
  own_part_at s start = tt
  own_part_at s (led flow) = tt
  own_part_at s evaluated = tt
  own_part_at s (listing k) = tt
  own_part_at s (at.listed k) = own_parts s k
  own_part_at s (declaring k) = tt
  own_part_at s (filling k i) = tt
  own_part_at s (arbitrary k i) = tt
  own_part_at s (filled k i) = tt
  own_part_at s (initialized k) = tt
  own_part_at s tested = tt
  own_part_at s taken = own_first s
  own_part_at s other = own_second s
  own_part_at s opened = own_first s
  own_part_at s (turning left) = tt
  own_part_at s (turned left) = tt
  own_part_at s (bodied left) = own_body s
  own_part_at s (changed left) = tt
  own_part_at s (doing left) = tt
  own_part_at s returned = tt
  own_part_at s labelled = own_first s

  -- ---- nearer

  pause_more : (s : ScopedStatement) (l m : ℕ) (footing : Footing) (pause : Pause) → PauseNears n s l footing pause → l ≤ m → PauseNears n s m footing pause
  pause_more s l m footing (acts action line) h le = h
  pause_more s l m footing (reads cell line) h le = tt
  pause_more s l m footing (asks line kind) h le = tt
  pause_more s l m footing (signals cond line) h le = tt
  pause_more s l m footing (creates routine value line) h le = tt
  pause_more s l m footing (calls_on function kinds values) h le = let low : statement_left n footing s < l = h.1 in (h.0, omega (arith, low, le))

  pub reached_more : (s : ScopedStatement) (l m : ℕ) (reached : Reached) → StatementNears n s l reached → l ≤ m → StatementNears n s m reached
  reached_more s l m (leads flow) h le = tt
  reached_more s l m (pauses pause footing) h le = pause_more s l m footing pause h le
  reached_more s l m (fails kind line) h le = tt
  reached_more s l m (refuses line) h le = tt
  reached_more s l m quits h le = tt
  reached_more s l m stops h le = tt

  pub step_more : (s : ScopedStatement) (l m : ℕ) (stepped : Stepped) → StepNears n s l stepped → l ≤ m → StepNears n s m stepped
  step_more s l m (again station v flow) h le = let low : station_rank n s station * suc (inner_most n s) ≤ l = h in omega (arith, low, le)
  step_more s l m (stopped reached) h le = reached_more s l m reached h le

  -- without a pause but for an input
  still_pause : (s : ScopedStatement) (left : ℕ) (footing : Footing) (pause : Pause) → IsStill (pauses pause footing) → PauseNears n s left footing pause
  still_pause s left footing (acts action line) h = absurd h
  still_pause s left footing (reads cell line) h = tt
  still_pause s left footing (asks line kind) h = tt
  still_pause s left footing (signals cond line) h = tt
  still_pause s left footing (creates routine value line) h = tt
  still_pause s left footing (calls_on function kinds values) h = absurd h

  pub still_nears : (s : ScopedStatement) (left : ℕ) (reached : Reached) → IsStill reached → StatementNears n s left reached
  still_nears s left (leads flow) h = tt
  still_nears s left (pauses pause footing) h = still_pause s left footing pause h
  still_nears s left (fails kind line) h = tt
  still_nears s left (refuses line) h = tt
  still_nears s left quits h = tt
  still_nears s left stops h = tt

  left_value : (o : Option ScopedExpression) (e : ScopedExpression) (f : ScopedExpression → ℕ) → o ≡ Some e → left_in o f ≡ f e
  left_value o e f is = ap (λ (x : Option ScopedExpression). left_in x f) is

  left_part : (o : Option ScopedStatement) (a : ScopedStatement) (f : ScopedStatement → ℕ) → o ≡ Some a → left_within o f ≡ f a
  left_part o a f is = ap (λ (x : Option ScopedStatement). left_within x f) is

  -- a statement whose expression came so far, where the expression had so many calls left
  value_nears : (s : ScopedStatement) (e : ScopedExpression) (station : Station) (left : ℕ) (came : Came) → value_at s station ≡ Some e → Nears e left came
      → StepNears n s (left + station_rank n s station * suc (inner_most n s)) (stepped_by_value station came)
  value_nears s e station left (settles v) is h = omega arith
  value_nears s e station left (stages.acts action line point) is h = h
  value_nears s e station left (stages.reads cell line point) is h = tt
  value_nears s e station left (stages.asks line kind point) is h = tt
  value_nears s e station left (stages.signals cond line point) is h = tt
  value_nears s e station left (stages.creates routine value line point) is h = tt
  value_nears s e station left (stages.calls_on function kinds values point) is h =
      let own : Own (statement_calls s) (inner_most n s) (Some e) = subst (Own (statement_calls s) (inner_most n s)) is (own_at s station) in
      let low : calls_left point e < left = h.1 in
      let same = left_value (value_at s station) e (calls_left point) is in
      (own.0 function h.0, omega (arith, low, same))
  value_nears s e station left (stages.fails kind line) is h = tt
  value_nears s e station left (stages.refuses line) is h = tt
  value_nears s e station left stages.quits is h = tt
  value_nears s e station left stages.stops is h = tt

  pause_nears : (s a : ScopedStatement) (station : Station) (left : ℕ) (footing : Footing) (pause : Pause) → part_at s station ≡ Some a → PauseNears n a left footing pause
      → PauseNears n s (left + station_rank n s station * suc (inner_most n s)) (in_part station footing) pause
  pause_nears s a station left footing (acts action line) is h = h
  pause_nears s a station left footing (reads cell line) is h = tt
  pause_nears s a station left footing (asks line kind) is h = tt
  pause_nears s a station left footing (signals cond line) is h = tt
  pause_nears s a station left footing (creates routine value line) is h = tt
  pause_nears s a station left footing (calls_on function kinds values) is h =
      let own : OwnPart n (statement_calls s) (inner_most n s) (Some a) = subst (OwnPart n (statement_calls s) (inner_most n s)) is (own_part_at s station) in
      let low : statement_left n footing a < left = h.1 in
      let same = left_part (part_at s station) a (statement_left n footing) is in
      (own.0 function h.0, omega (arith, low, same))

  -- a statement a part of which came so far
  part_nears : (s a : ScopedStatement) (station : Station) (left : ℕ) (reached : Reached) → part_at s station ≡ Some a → StatementNears n a left reached
      → StepNears n s (left + station_rank n s station * suc (inner_most n s)) (stepped_by_part station reached)
  part_nears s a station left (leads flow) is h = omega arith
  part_nears s a station left (pauses pause footing) is h = pause_nears s a station left footing pause is h
  part_nears s a station left (fails kind line) is h = tt
  part_nears s a station left (refuses line) is h = tt
  part_nears s a station left quits is h = tt
  part_nears s a station left stops is h = tt

  -- from a place in the expression, and from its start
  pub within_value : (s : ScopedStatement) (e : ScopedExpression) (station : Station) (point : stages.Point) (came : Came) → value_at s station ≡ Some e → Nears e (calls_left point e) came
      → StepNears n s (statement_left n (in_value station point) s) (stepped_by_value station came)
  within_value s e station point came is h =
      let same = left_value (value_at s station) e (calls_left point) is in
      step_more s (calls_left point e + station_rank n s station * suc (inner_most n s)) (statement_left n (in_value station point) s) (stepped_by_value station came) (value_nears s e station (calls_left point e) came is h) (omega (arith, same))

  pub begun_value : (s : ScopedStatement) (e : ScopedExpression) (station : Station) (came : Came) → value_at s station ≡ Some e → Nears e (calls_left (stages.at_stage stages.start) e) came
      → StepNears n s (suc (station_rank n s station) * suc (inner_most n s)) (stepped_by_value station came)
  begun_value s e station came is h =
      let own : Own (statement_calls s) (inner_most n s) (Some e) = subst (Own (statement_calls s) (inner_most n s)) is (own_at s station) in
      let most : expression_most e ≤ inner_most n s = own.1 in
      let begins = start_most e in
      let one : suc (station_rank n s station) * suc (inner_most n s) ≡ suc (inner_most n s) + station_rank n s station * suc (inner_most n s) = omega arith in
      step_more s (calls_left (stages.at_stage stages.start) e + station_rank n s station * suc (inner_most n s)) (suc (station_rank n s station) * suc (inner_most n s)) (stepped_by_value station came)
      (value_nears s e station (calls_left (stages.at_stage stages.start) e) came is h) (omega (arith, most, begins, one))

  -- from a footing in the part, and from its start
  pub within_part : (s a : ScopedStatement) (station : Station) (footing : Footing) (reached : Reached) → part_at s station ≡ Some a → StatementNears n a (statement_left n footing a) reached
      → StepNears n s (statement_left n (in_part station footing) s) (stepped_by_part station reached)
  within_part s a station footing reached is h =
      let same = left_part (part_at s station) a (statement_left n footing) is in
      step_more s (statement_left n footing a + station_rank n s station * suc (inner_most n s)) (statement_left n (in_part station footing) s) (stepped_by_part station reached) (part_nears s a station (statement_left n footing a) reached is h)
      (omega (arith, same))

  pub begun_part : (s a : ScopedStatement) (station : Station) (reached : Reached) → part_at s station ≡ Some a → StatementNears n a (statement_left n (at_station start) a) reached
      → StepNears n s (suc (station_rank n s station) * suc (inner_most n s)) (stepped_by_part station reached)
  begun_part s a station reached is h =
      let own : OwnPart n (statement_calls s) (inner_most n s) (Some a) = subst (OwnPart n (statement_calls s) (inner_most n s)) is (own_part_at s station) in
      let most : statement_most n a ≤ inner_most n s = own.1 in
      let one : suc (station_rank n s station) * suc (inner_most n s) ≡ suc (inner_most n s) + station_rank n s station * suc (inner_most n s) = omega arith in
      step_more s (statement_left n (at_station start) a + station_rank n s station * suc (inner_most n s)) (suc (station_rank n s station) * suc (inner_most n s)) (stepped_by_part station reached)
      (part_nears s a station (statement_left n (at_station start) a) reached is h) (omega (arith, most, one))
