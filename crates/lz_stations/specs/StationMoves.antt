-- Inner: what one statement does at each station, one step at a time.
use Rattle.std.specs.Prelude.{ℕ, zero, suc, ◌+◌, Bool, true, false, nat_lt, List, [], ◌∷◌, Option, Some, None}
use Rattle.lz_base.specs.Words.{is_true, converted}
use Rattle.lz_base.specs.declared.word.IntType.{IntType}
use Rattle.lz_base.specs.declared.word.IntType.TheVariants.{Int}
use Rattle.lz_tree.specs.declared.scoped.Object.{Object}
use Rattle.lz_tree.specs.declared.scoped.Object.TheVariants.{Local, Cell, Mutex, Cond, Handle, Routine, Known}
use Rattle.lz_tree.specs.ScopedTrees.{ScopedExpression, ScopedInitializer, nothing, single, listed, ScopedInitDeclarator, ScopedStatement, empty, eval, block, declare, when, while, do_while, for, break, continue, return, label, ScopedBranch, absent, branch, ScopedStatements, nil, cons}
use Rattle.lz_model.specs.CodeTraces.{Locals, set_local, set_handle, kind_of, Flow, normal, breaks, continues, returns}
use Rattle.lz_turns.specs.Moves.{argument_at}
use Rattle.lz_stations.specs.Stations as at
use Rattle.lz_stations.specs.Stations.{Station, start, led, evaluated, listing, declaring, filling, arbitrary, filled, initialized, tested, taken, other, opened, turning, turned, bodied, changed, doing, returned, labelled, Footing, at_station, Pause, asks, Reached, leads, pauses, stops, StationMove, enters_value, enters_part, moves_on, reaches}

-- ---- what a statement is made of

-- the parts of a block
abbrev pub parts_of : ScopedStatement → ScopedStatements
parts_of empty = nil
parts_of (eval value) = nil
parts_of (block parts) = parts
parts_of (declare of) = nil
parts_of (when line test one two) = nil
parts_of (while line test body) = nil
parts_of (do_while line body test) = nil
parts_of (for line opens test change body) = nil
parts_of (break line) = nil
parts_of (continue line) = nil
parts_of (return line value) = nil
parts_of (label name of) = nil

abbrev pub statement_at : ScopedStatements → ℕ → Option ScopedStatement
statement_at nil k = None
statement_at (cons s rest) zero = Some s
statement_at (cons s rest) (suc k) = statement_at rest k

-- what a declaration declares
abbrev pub declared_by : ScopedStatement → List ScopedInitDeclarator
declared_by empty = []
declared_by (eval value) = []
declared_by (block parts) = []
declared_by (declare of) = of.declarators
declared_by (when line test one two) = []
declared_by (while line test body) = []
declared_by (do_while line body test) = []
declared_by (for line opens test change body) = []
declared_by (break line) = []
declared_by (continue line) = []
declared_by (return line value) = []
declared_by (label name of) = []

abbrev pub declarator_at : List ScopedInitDeclarator → ℕ → Option ScopedInitDeclarator
declarator_at [] k = None
declarator_at (d ∷ rest) zero = Some d
declarator_at (d ∷ rest) (suc k) = declarator_at rest k

-- A loop: with its test before each turn, or behind each.
pub data Loop : Type 0 where
  no_loop : Loop
  before_turns : (line : ℕ) (test change : Option ScopedExpression) (body : ScopedStatement) → Loop
  behind_turns : (line : ℕ) (test : ScopedExpression) (body : ScopedStatement) → Loop

abbrev pub loop_of : ScopedStatement → Loop
loop_of empty = no_loop
loop_of (eval value) = no_loop
loop_of (block parts) = no_loop
loop_of (declare of) = no_loop
loop_of (when line test one two) = no_loop
loop_of (while line test body) = before_turns line (Some test) None body
loop_of (do_while line body test) = behind_turns line test body
loop_of (for line opens test change body) = before_turns line test change body
loop_of (break line) = no_loop
loop_of (continue line) = no_loop
loop_of (return line value) = no_loop
loop_of (label name of) = no_loop

-- the expression of a statement by itself, of `if` and of `return`
abbrev pub value_of : ScopedStatement → Option ScopedExpression
value_of empty = None
value_of (eval value) = Some value
value_of (block parts) = None
value_of (declare of) = None
value_of (when line test one two) = Some test
value_of (while line test body) = None
value_of (do_while line body test) = None
value_of (for line opens test change body) = None
value_of (break line) = None
value_of (continue line) = None
value_of (return line value) = value
value_of (label name of) = None

-- the branch of a test that holds, the first part of `for`, or the statement of a label
abbrev pub first_part : ScopedStatement → Option ScopedStatement
first_part empty = None
first_part (eval value) = None
first_part (block parts) = None
first_part (declare of) = None
first_part (when line test one two) = Some one
first_part (while line test body) = None
first_part (do_while line body test) = None
first_part (for line opens test change body) = Some opens
first_part (break line) = None
first_part (continue line) = None
first_part (return line value) = None
first_part (label name of) = Some of

abbrev pub in_branch : ScopedBranch → Option ScopedStatement
in_branch absent = None
in_branch (branch of) = Some of

-- the branch of a test that does not hold
abbrev pub second_part : ScopedStatement → Option ScopedStatement
second_part empty = None
second_part (eval value) = None
second_part (block parts) = None
second_part (declare of) = None
second_part (when line test one two) = in_branch two
second_part (while line test body) = None
second_part (do_while line body test) = None
second_part (for line opens test change body) = None
second_part (break line) = None
second_part (continue line) = None
second_part (return line value) = None
second_part (label name of) = None

abbrev pub test_of : Loop → Option ScopedExpression
test_of no_loop = None
test_of (before_turns line test change body) = test
test_of (behind_turns line test body) = Some test

abbrev pub change_of : Loop → Option ScopedExpression
change_of no_loop = None
change_of (before_turns line test change body) = change
change_of (behind_turns line test body) = None

abbrev pub body_of : Loop → Option ScopedStatement
body_of no_loop = None
body_of (before_turns line test change body) = Some body
body_of (behind_turns line test body) = Some body

-- the value of an element of an object, in a list of values
abbrev pub element_value : ScopedInitializer → ℕ → Option ScopedExpression
element_value nothing i = None
element_value (single value) i = None
element_value (listed values) i = argument_at values i

-- the one value of an object
abbrev pub single_value : ScopedInitializer → Option ScopedExpression
single_value nothing = None
single_value (single value) = Some value
single_value (listed values) = None

abbrev pub initializer_of : Option ScopedInitDeclarator → ScopedInitializer
initializer_of None = nothing
initializer_of (Some d) = d.first

-- the expression behind which a station comes
abbrev pub value_at : ScopedStatement → Station → Option ScopedExpression
value_at s start = None
value_at s (led flow) = None
value_at s evaluated = value_of s
value_at s (listing k) = None
value_at s (at.listed k) = None
value_at s (declaring k) = None
value_at s (filling k i) = None
value_at s (arbitrary k i) = None
value_at s (filled k i) = element_value (initializer_of (declarator_at (declared_by s) k)) i
value_at s (initialized k) = single_value (initializer_of (declarator_at (declared_by s) k))
value_at s tested = value_of s
value_at s taken = None
value_at s other = None
value_at s opened = None
value_at s (turning left) = None
value_at s (turned left) = test_of (loop_of s)
value_at s (bodied left) = None
value_at s (changed left) = change_of (loop_of s)
value_at s (doing left) = None
value_at s returned = value_of s
value_at s labelled = None

-- the statement behind which a station comes
abbrev pub part_at : ScopedStatement → Station → Option ScopedStatement
part_at s start = None
part_at s (led flow) = None
part_at s evaluated = None
part_at s (listing k) = None
part_at s (at.listed k) = statement_at (parts_of s) k
part_at s (declaring k) = None
part_at s (filling k i) = None
part_at s (arbitrary k i) = None
part_at s (filled k i) = None
part_at s (initialized k) = None
part_at s tested = None
part_at s taken = first_part s
part_at s other = second_part s
part_at s opened = first_part s
part_at s (turning left) = None
part_at s (turned left) = None
part_at s (bodied left) = body_of (loop_of s)
part_at s (changed left) = None
part_at s (doing left) = None
part_at s returned = None
part_at s labelled = first_part s

-- ---- single steps

abbrev pub begin_return : Option ScopedExpression → StationMove
begin_return None = reaches (leads (returns Int 0))
begin_return (Some value) = enters_value returned

-- a statement before its first action, where a loop has at most n turns
abbrev pub begin_statement : ℕ → ScopedStatement → StationMove
begin_statement n empty = reaches (leads normal)
begin_statement n (eval value) = enters_value evaluated
begin_statement n (block parts) = moves_on (listing 0)
begin_statement n (declare of) = moves_on (declaring 0)
begin_statement n (when line test one two) = enters_value tested
begin_statement n (while line test body) = moves_on (turning n)
begin_statement n (do_while line body test) = moves_on (doing n)
begin_statement n (for line opens test change body) = enters_part opened
begin_statement n (break line) = reaches (leads breaks)
begin_statement n (continue line) = reaches (leads continues)
begin_statement n (return line value) = begin_return value
begin_statement n (label name of) = enters_part labelled

-- what follows is at this station, where a statement led on to it
abbrev pub follow_move : Flow → Station → StationMove
follow_move normal next = moves_on next
follow_move breaks next = reaches (leads breaks)
follow_move continues next = reaches (leads continues)
follow_move (returns kind value) next = reaches (leads (returns kind value))

-- a part of a block
abbrev pub list_move : Option ScopedStatement → ℕ → StationMove
list_move None k = reaches (leads normal)
list_move (Some s) k = enters_part (at.listed k)

-- behind a part of a block
abbrev pub listed_so : Option ScopedStatement → Flow → ℕ → StationMove
listed_so None flow k = reaches stops
listed_so (Some s) flow k = follow_move flow (listing (suc k))

-- a declarator
abbrev pub integer_move : ScopedInitializer → ℕ → StationMove
integer_move nothing k = moves_on (filling k 0)
integer_move (single value) k = enters_value (initialized k)
integer_move (listed values) k = moves_on (filling k 0)

abbrev pub object_move : Object → ScopedInitializer → ℕ → StationMove
object_move (Local first len kind) value k = integer_move value k
object_move (Handle first len) value k = moves_on (filling k 0)
object_move (Cell first len kind) value k = reaches stops
object_move (Mutex first len) value k = reaches stops
object_move (Cond first len) value k = reaches stops
object_move (Routine function) value k = reaches stops
object_move (Known name) value k = reaches stops

abbrev pub declare_move : Option ScopedInitDeclarator → ℕ → StationMove
declare_move None k = reaches (leads normal)
declare_move (Some d) k = object_move d.object d.first k

-- an element of a declared object: the next declarator comes behind the last
abbrev pub listed_move : Option ScopedExpression → ℕ → ℕ → StationMove
listed_move None k i = moves_on (filling k (suc i))
listed_move (Some value) k i = enters_value (filled k i)

abbrev pub fill_integer : Bool → IntType → ScopedInitializer → ℕ → ℕ → StationMove
fill_integer false kind value k i = moves_on (declaring (suc k))
fill_integer true kind nothing k i = reaches (pauses (asks 0 kind) (at_station (arbitrary k i)))
fill_integer true kind (single value) k i = moves_on (declaring (suc k))
fill_integer true kind (listed values) k i = listed_move (argument_at values i) k i

abbrev pub fill_handle : Bool → ℕ → ℕ → StationMove
fill_handle false k i = moves_on (declaring (suc k))
fill_handle true k i = moves_on (filling k (suc i))

abbrev pub fill_object : Object → ScopedInitializer → ℕ → ℕ → StationMove
fill_object (Local first len kind) value k i = fill_integer (nat_lt i len) kind value k i
fill_object (Handle first len) value k i = fill_handle (nat_lt i len) k i
fill_object (Cell first len kind) value k i = reaches stops
fill_object (Mutex first len) value k i = reaches stops
fill_object (Cond first len) value k i = reaches stops
fill_object (Routine function) value k i = reaches stops
fill_object (Known name) value k i = reaches stops

abbrev pub fill_move : Option ScopedInitDeclarator → ℕ → ℕ → StationMove
fill_move None k i = reaches stops
fill_move (Some d) k i = fill_object d.object d.first k i

-- an element whose value, or input, is there
abbrev pub filled_if : Bool → ℕ → ℕ → StationMove
filled_if false k i = reaches stops
filled_if true k i = moves_on (filling k (suc i))

abbrev pub filled_object : Object → ℕ → ℕ → StationMove
filled_object (Local first len kind) k i = filled_if (nat_lt i len) k i
filled_object (Handle first len) k i = reaches stops
filled_object (Cell first len kind) k i = reaches stops
filled_object (Mutex first len) k i = reaches stops
filled_object (Cond first len) k i = reaches stops
filled_object (Routine function) k i = reaches stops
filled_object (Known name) k i = reaches stops

abbrev pub arbitrary_move : Option ScopedInitDeclarator → ℕ → ℕ → StationMove
arbitrary_move None k i = reaches stops
arbitrary_move (Some d) k i = filled_object d.object k i

abbrev pub valued_move : Object → Option ScopedExpression → ℕ → ℕ → StationMove
valued_move object None k i = reaches stops
valued_move object (Some value) k i = filled_object object k i

abbrev pub filled_move : Option ScopedInitDeclarator → ℕ → ℕ → StationMove
filled_move None k i = reaches stops
filled_move (Some d) k i = valued_move d.object (element_value d.first i) k i

-- an object whose one value is there
abbrev pub single_object : Object → ℕ → StationMove
single_object (Local first len kind) k = moves_on (declaring (suc k))
single_object (Handle first len) k = reaches stops
single_object (Cell first len kind) k = reaches stops
single_object (Mutex first len) k = reaches stops
single_object (Cond first len) k = reaches stops
single_object (Routine function) k = reaches stops
single_object (Known name) k = reaches stops

abbrev pub single_move : Object → Option ScopedExpression → ℕ → StationMove
single_move object None k = reaches stops
single_move object (Some value) k = single_object object k

abbrev pub initialized_move : Option ScopedInitDeclarator → ℕ → StationMove
initialized_move None k = reaches stops
initialized_move (Some d) k = single_move d.object (single_value d.first) k

-- the branches of `if`
abbrev pub other_move : Option ScopedStatement → StationMove
other_move None = reaches (leads normal)
other_move (Some s) = enters_part other

abbrev pub test_move : Bool → Option ScopedStatement → StationMove
test_move true two = enters_part taken
test_move false two = other_move two

abbrev pub tested_move : ScopedStatement → ℕ → StationMove
tested_move empty v = reaches stops
tested_move (eval value) v = reaches stops
tested_move (block parts) v = reaches stops
tested_move (declare of) v = reaches stops
tested_move (when line test one two) v = test_move (is_true v) (in_branch two)
tested_move (while line test body) v = reaches stops
tested_move (do_while line body test) v = reaches stops
tested_move (for line opens test change body) v = reaches stops
tested_move (break line) v = reaches stops
tested_move (continue line) v = reaches stops
tested_move (return line value) v = reaches stops
tested_move (label name of) v = reaches stops

-- a turn that the test of its loop begins, where so many are left: where none is, nothing more comes
abbrev pub turn_move : Bool → ℕ → StationMove
turn_move false left = reaches (leads normal)
turn_move true zero = reaches stops
turn_move true (suc left) = enters_part (bodied left)

-- before the test of `while` and `for`
abbrev pub ask_move : Option ScopedExpression → ℕ → StationMove
ask_move None left = turn_move true left
ask_move (Some test) left = enters_value (turned left)

abbrev pub turning_move : Loop → ℕ → StationMove
turning_move no_loop left = reaches stops
turning_move (before_turns line test change body) left = ask_move test left
turning_move (behind_turns line test body) left = reaches stops

-- behind the test of a loop
abbrev pub do_again : Bool → ℕ → StationMove
do_again false left = reaches (leads normal)
do_again true left = moves_on (doing left)

abbrev pub turned_so : Option ScopedExpression → ℕ → ℕ → StationMove
turned_so None left v = reaches stops
turned_so (Some test) left v = turn_move (is_true v) left

abbrev pub turned_move : Loop → ℕ → ℕ → StationMove
turned_move no_loop left v = reaches stops
turned_move (before_turns line test change body) left v = turned_so test left v
turned_move (behind_turns line test body) left v = do_again (is_true v) left

-- behind the body of a turn: its step, or the test of `do`
abbrev pub step_move : Option ScopedExpression → ℕ → StationMove
step_move None left = moves_on (turning left)
step_move (Some change) left = enters_value (changed left)

abbrev pub behind_body : Flow → StationMove → StationMove
behind_body normal next = next
behind_body continues next = next
behind_body breaks next = reaches (leads normal)
behind_body (returns kind value) next = reaches (leads (returns kind value))

abbrev pub bodied_move : Loop → ℕ → Flow → StationMove
bodied_move no_loop left flow = reaches stops
bodied_move (before_turns line test change body) left flow = behind_body flow (step_move change left)
bodied_move (behind_turns line test body) left flow = behind_body flow (enters_value (turned left))

abbrev pub changed_move : Loop → ℕ → StationMove
changed_move no_loop left = reaches stops
changed_move (before_turns line test change body) left = moves_on (turning left)
changed_move (behind_turns line test body) left = reaches stops

abbrev pub do_move : ℕ → StationMove
do_move zero = reaches stops
do_move (suc left) = enters_part (bodied left)

abbrev pub doing_move : Loop → ℕ → StationMove
doing_move no_loop left = reaches stops
doing_move (before_turns line test change body) left = reaches stops
doing_move (behind_turns line test body) left = do_move left

abbrev pub return_move : Option ScopedExpression → ℕ → StationMove
return_move None v = reaches stops
return_move (Some value) v = reaches (leads (returns (kind_of value) v))

-- what a statement does at a station, behind an expression with this value, or a statement that led on so
abbrev pub station_move : ℕ → ScopedStatement → Station → ℕ → Flow → StationMove
station_move n s start v flow = begin_statement n s
station_move n s (led own) v flow = reaches (leads own)
station_move n s evaluated v flow = reaches (leads normal)
station_move n s (listing k) v flow = list_move (statement_at (parts_of s) k) k
station_move n s (at.listed k) v flow = listed_so (statement_at (parts_of s) k) flow k
station_move n s (declaring k) v flow = declare_move (declarator_at (declared_by s) k) k
station_move n s (filling k i) v flow = fill_move (declarator_at (declared_by s) k) k i
station_move n s (arbitrary k i) v flow = arbitrary_move (declarator_at (declared_by s) k) k i
station_move n s (filled k i) v flow = filled_move (declarator_at (declared_by s) k) k i
station_move n s (initialized k) v flow = initialized_move (declarator_at (declared_by s) k) k
station_move n s tested v flow = tested_move s v
station_move n s taken v flow = reaches (leads flow)
station_move n s other v flow = reaches (leads flow)
station_move n s opened v flow = follow_move flow (turning n)
station_move n s (turning left) v flow = turning_move (loop_of s) left
station_move n s (turned left) v flow = turned_move (loop_of s) left v
station_move n s (bodied left) v flow = bodied_move (loop_of s) left flow
station_move n s (changed left) v flow = changed_move (loop_of s) left
station_move n s (doing left) v flow = doing_move (loop_of s) left
station_move n s returned v flow = return_move (value_of s) v
station_move n s labelled v flow = reaches (leads flow)

-- ---- the local values that a step leaves

-- an element without a value of its own
abbrev pub cleared : Bool → Option ScopedExpression → ℕ → Locals → Locals
cleared false value e locals = locals
cleared true None e locals = set_local e 0 locals
cleared true (Some value) e locals = locals

abbrev pub emptied : Bool → ℕ → Locals → Locals
emptied false e locals = locals
emptied true e locals = set_handle e 0 locals

abbrev pub cleared_integer : Bool → ScopedInitializer → ℕ → ℕ → Locals → Locals
cleared_integer fits nothing e i locals = locals
cleared_integer fits (single value) e i locals = locals
cleared_integer fits (listed values) e i locals = cleared fits (argument_at values i) e locals

abbrev pub cleared_object : Object → ScopedInitializer → ℕ → Locals → Locals
cleared_object (Local first len kind) value i locals = cleared_integer (nat_lt i len) value (first + i) i locals
cleared_object (Handle first len) value i locals = emptied (nat_lt i len) (first + i) locals
cleared_object (Cell first len kind) value i locals = locals
cleared_object (Mutex first len) value i locals = locals
cleared_object (Cond first len) value i locals = locals
cleared_object (Routine function) value i locals = locals
cleared_object (Known name) value i locals = locals

abbrev pub cleared_by : Option ScopedInitDeclarator → ℕ → Locals → Locals
cleared_by None i locals = locals
cleared_by (Some d) i locals = cleared_object d.object d.first i locals

-- an element in range that gets this value
abbrev pub kept_if : Bool → ℕ → ℕ → Locals → Locals
kept_if false e v locals = locals
kept_if true e v locals = set_local e v locals

abbrev pub arbitrary_object : Object → ℕ → ℕ → Locals → Locals
arbitrary_object (Local first len kind) i v locals = kept_if (nat_lt i len) (first + i) v locals
arbitrary_object (Handle first len) i v locals = locals
arbitrary_object (Cell first len kind) i v locals = locals
arbitrary_object (Mutex first len) i v locals = locals
arbitrary_object (Cond first len) i v locals = locals
arbitrary_object (Routine function) i v locals = locals
arbitrary_object (Known name) i v locals = locals

abbrev pub arbitrary_by : Option ScopedInitDeclarator → ℕ → ℕ → Locals → Locals
arbitrary_by None i v locals = locals
arbitrary_by (Some d) i v locals = arbitrary_object d.object i v locals

abbrev pub filled_one : Object → Option ScopedExpression → ℕ → ℕ → Locals → Locals
filled_one object None i v locals = locals
filled_one (Local first len kind) (Some value) i v locals = kept_if (nat_lt i len) (first + i) (converted v (kind_of value) kind) locals
filled_one (Handle first len) (Some value) i v locals = locals
filled_one (Cell first len kind) (Some value) i v locals = locals
filled_one (Mutex first len) (Some value) i v locals = locals
filled_one (Cond first len) (Some value) i v locals = locals
filled_one (Routine function) (Some value) i v locals = locals
filled_one (Known name) (Some value) i v locals = locals

abbrev pub filled_by : Option ScopedInitDeclarator → ℕ → ℕ → Locals → Locals
filled_by None i v locals = locals
filled_by (Some d) i v locals = filled_one d.object (element_value d.first i) i v locals

abbrev pub single_one : Object → Option ScopedExpression → ℕ → Locals → Locals
single_one object None v locals = locals
single_one (Local first len kind) (Some value) v locals = set_local first (converted v (kind_of value) kind) locals
single_one (Handle first len) (Some value) v locals = locals
single_one (Cell first len kind) (Some value) v locals = locals
single_one (Mutex first len) (Some value) v locals = locals
single_one (Cond first len) (Some value) v locals = locals
single_one (Routine function) (Some value) v locals = locals
single_one (Known name) (Some value) v locals = locals

abbrev pub initialized_by : Option ScopedInitDeclarator → ℕ → Locals → Locals
initialized_by None v locals = locals
initialized_by (Some d) v locals = single_one d.object (single_value d.first) v locals

abbrev pub station_leaves : ScopedStatement → Station → ℕ → Locals → Locals
station_leaves s start v locals = locals
station_leaves s (led own) v locals = locals
station_leaves s evaluated v locals = locals
station_leaves s (listing k) v locals = locals
station_leaves s (at.listed k) v locals = locals
station_leaves s (declaring k) v locals = locals
station_leaves s (filling k i) v locals = cleared_by (declarator_at (declared_by s) k) i locals
station_leaves s (arbitrary k i) v locals = arbitrary_by (declarator_at (declared_by s) k) i v locals
station_leaves s (filled k i) v locals = filled_by (declarator_at (declared_by s) k) i v locals
station_leaves s (initialized k) v locals = initialized_by (declarator_at (declared_by s) k) v locals
station_leaves s tested v locals = locals
station_leaves s taken v locals = locals
station_leaves s other v locals = locals
station_leaves s opened v locals = locals
station_leaves s (turning left) v locals = locals
station_leaves s (turned left) v locals = locals
station_leaves s (bodied left) v locals = locals
station_leaves s (changed left) v locals = locals
station_leaves s (doing left) v locals = locals
station_leaves s returned v locals = locals
station_leaves s labelled v locals = locals
