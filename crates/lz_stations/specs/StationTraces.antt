-- Inner: what a statement may do from a place in it, in the terms of the traces of code.
use Rattle.std.specs.Prelude.{ℕ, zero, suc, ◌+◌, ◌-◌, Bool, true, false, nat_lt, List, [], ◌∷◌, Option, Some, None}
use Rattle.lz_base.specs.Words.{is_true, converted}
use Rattle.lz_base.specs.declared.word.IntType.{IntType}
use Rattle.lz_tree.specs.declared.scoped.Object.{Object}
use Rattle.lz_tree.specs.declared.scoped.Object.TheVariants.{Local, Cell, Mutex, Cond, Handle, Routine, Known}
use Rattle.lz_tree.specs.ScopedTrees.{ScopedExpression, ScopedInitializer, nothing, single, listed, ScopedInitDeclarator, ScopedStatement, empty, eval, block, declare, when, while, do_while, for, break, continue, return, label, ScopedStatements, nil, cons}
use Rattle.lz_model.specs.declared.actions.Action.TheVariants.{Check, Assume, Rd, Signal, Create}
use Rattle.lz_model.specs.Behaviours.{Behaviour, ends_with, halts, leaves, stays, chooses, ◌and_then◌, picks}
use Rattle.lz_model.specs.CodeTraces.{Locals, set_local, Calls, does, loc, IsWord, IsAny, inputs, passed, in_frame, kind_of, Flow, normal, returns, arbitrary_trace, listed_trace, no_threads_trace, declarators_trace, led_on, turned, turns, do_turns, test_trace, change_trace, statement_trace, branch_trace, statements_trace}
use Rattle.lz_turns.specs.Stages as stages
use Rattle.lz_turns.specs.Resumed.{rest_from, resumed}
use Rattle.lz_stations.specs.Stations as at
use Rattle.lz_stations.specs.Stations.{Station, start, led, evaluated, listing, declaring, filling, arbitrary, filled, initialized, tested, taken, other, opened, turning, bodied, changed, doing, returned, labelled, Footing, at_station, in_value, in_part, Pause, acts, reads, asks, signals, creates, calls_on, Reached, leads, pauses, fails, refuses, quits, stops, StationMove, enters_value, enters_part, moves_on, reaches}
use Rattle.lz_stations.specs.StationMoves.{parts_of, statement_at, declared_by, declarator_at, Loop, no_loop, before_turns, behind_turns, loop_of, value_of, element_value, single_value, value_at, part_at}

-- ---- what is left of a statement

-- the parts from this one on
abbrev pub parts_from : ScopedStatements → ℕ → ScopedStatements
parts_from parts zero = parts
parts_from nil (suc k) = nil
parts_from (cons s rest) (suc k) = parts_from rest k

-- the declarators from this one on
abbrev pub declarators_from : List ScopedInitDeclarator → ℕ → List ScopedInitDeclarator
declarators_from ds zero = ds
declarators_from [] (suc k) = []
declarators_from (d ∷ rest) (suc k) = declarators_from rest k

-- the elements of an object from this one on
abbrev pub integers_from : Calls → ℕ → ℕ → ℕ → IntType → ScopedInitializer → ℕ → Behaviour Locals Flow
integers_from calls line first len kind nothing i = arbitrary_trace line kind (first + i) (len - i)
integers_from calls line first len kind (single value) i = ends_with normal
integers_from calls line first len kind (listed values) i = listed_trace calls line kind (rest_from values i) (first + i) (len - i)

abbrev pub elements_from : Calls → ℕ → Object → ScopedInitializer → ℕ → Behaviour Locals Flow
elements_from calls line (Local first len kind) value i = integers_from calls line first len kind value i
elements_from calls line (Handle first len) value i = no_threads_trace line (first + i) (len - i)
elements_from calls line (Cell first len kind) value i = halts
elements_from calls line (Mutex first len) value i = halts
elements_from calls line (Cond first len) value i = halts
elements_from calls line (Routine function) value i = halts
elements_from calls line (Known name) value i = halts

-- an element in range that gets this value, and what follows
abbrev pub gets_if : Bool → ℕ → ℕ → ℕ → Behaviour Locals Flow → Behaviour Locals Flow
gets_if false line e v rest = halts
gets_if true line e v rest = loc line (set_local e v) normal and_then λ _. rest

abbrev pub gets : ℕ → Object → ℕ → ℕ → Behaviour Locals Flow → Behaviour Locals Flow
gets line (Local first len kind) i v rest = gets_if (nat_lt i len) line (first + i) v rest
gets line (Handle first len) i v rest = halts
gets line (Cell first len kind) i v rest = halts
gets line (Mutex first len) i v rest = halts
gets line (Cond first len) i v rest = halts
gets line (Routine function) i v rest = halts
gets line (Known name) i v rest = halts

abbrev pub converted_to : Object → ScopedExpression → ℕ → ℕ
converted_to (Local first len kind) value v = converted v (kind_of value) kind
converted_to (Handle first len) value v = v
converted_to (Cell first len kind) value v = v
converted_to (Mutex first len) value v = v
converted_to (Cond first len) value v = v
converted_to (Routine function) value v = v
converted_to (Known name) value v = v

abbrev pub gets_value : ℕ → Object → Option ScopedExpression → ℕ → ℕ → Behaviour Locals Flow → Behaviour Locals Flow
gets_value line object None i v rest = halts
gets_value line object (Some value) i v rest = gets line object i (converted_to object value v) rest

-- the rest of a declaration, from this element of this declarator on
abbrev pub filling_trace : Calls → List ScopedInitDeclarator → Option ScopedInitDeclarator → ℕ → ℕ → Behaviour Locals Flow
filling_trace calls ds None k i = halts
filling_trace calls ds (Some d) k i = elements_from calls d.line d.object d.first i and_then λ _. declarators_trace calls (declarators_from ds (suc k))

abbrev pub arbitrary_filled : Calls → List ScopedInitDeclarator → Option ScopedInitDeclarator → ℕ → ℕ → ℕ → Behaviour Locals Flow
arbitrary_filled calls ds None k i v = halts
arbitrary_filled calls ds (Some d) k i v = gets d.line d.object i v (filling_trace calls ds (Some d) k (suc i))

abbrev pub filled_trace : Calls → List ScopedInitDeclarator → Option ScopedInitDeclarator → ℕ → ℕ → ℕ → Behaviour Locals Flow
filled_trace calls ds None k i v = halts
filled_trace calls ds (Some d) k i v = gets_value d.line d.object (element_value d.first i) i v (filling_trace calls ds (Some d) k (suc i))

-- an object that gets its one value, and what follows
abbrev pub gets_single : ℕ → Object → Option ScopedExpression → ℕ → Behaviour Locals Flow → Behaviour Locals Flow
gets_single line object None v rest = halts
gets_single line (Local first len kind) (Some value) v rest = loc line (set_local first (converted v (kind_of value) kind)) normal and_then λ _. rest
gets_single line (Handle first len) (Some value) v rest = halts
gets_single line (Cell first len kind) (Some value) v rest = halts
gets_single line (Mutex first len) (Some value) v rest = halts
gets_single line (Cond first len) (Some value) v rest = halts
gets_single line (Routine function) (Some value) v rest = halts
gets_single line (Known name) (Some value) v rest = halts

abbrev pub initialized_trace : Calls → List ScopedInitDeclarator → Option ScopedInitDeclarator → ℕ → ℕ → Behaviour Locals Flow
initialized_trace calls ds None k v = halts
initialized_trace calls ds (Some d) k v = gets_single d.line d.object (single_value d.first) v (declarators_trace calls (declarators_from ds (suc k)))

-- behind a part of a block
abbrev pub listed_part : Calls → ℕ → ScopedStatements → Option ScopedStatement → ℕ → Flow → Behaviour Locals Flow
listed_part calls n parts None k flow = halts
listed_part calls n parts (Some s) k flow = led_on flow (statements_trace calls n (parts_from parts (suc k)))

-- behind the test of `if`
abbrev pub tested_trace : Calls → ℕ → ScopedStatement → ℕ → Behaviour Locals Flow
tested_trace calls n empty v = halts
tested_trace calls n (eval value) v = halts
tested_trace calls n (block parts) v = halts
tested_trace calls n (declare of) v = halts
tested_trace calls n (when line test one two) v = loc line stays (is_true v) and_then λ yes. picks yes (statement_trace calls n one) (branch_trace calls n two)
tested_trace calls n (while line test body) v = halts
tested_trace calls n (do_while line body test) v = halts
tested_trace calls n (for line opens test change body) v = halts
tested_trace calls n (break line) v = halts
tested_trace calls n (continue line) v = halts
tested_trace calls n (return line value) v = halts
tested_trace calls n (label name of) v = halts

-- the turns of `while` and `for` that are left, and of `do`
abbrev pub turns_left : Calls → ℕ → ℕ → Option ScopedExpression → Option ScopedExpression → ScopedStatement → ℕ → Behaviour Locals Flow
turns_left calls n line test change body left = turns (test_trace calls line test) (statement_trace calls n body) (change_trace calls change) left

abbrev pub do_turns_left : Calls → ℕ → ℕ → ScopedExpression → ScopedStatement → ℕ → Behaviour Locals Flow
do_turns_left calls n line test body left = do_turns (test_trace calls line (Some test)) (statement_trace calls n body) left

-- a turn that a test begins, where so many are left
abbrev pub next_turn : Calls → ℕ → ℕ → Option ScopedExpression → Option ScopedExpression → ScopedStatement → ℕ → Bool → Behaviour Locals Flow
next_turn calls n line test change body zero again = picks again halts (ends_with normal)
next_turn calls n line test change body (suc left) again =
    picks again (statement_trace calls n body and_then λ flow. turned flow (change_trace calls change (turns_left calls n line test change body left))) (ends_with normal)

abbrev pub turning_trace : Calls → ℕ → Loop → ℕ → Behaviour Locals Flow
turning_trace calls n no_loop left = halts
turning_trace calls n (before_turns line test change body) left = turns_left calls n line test change body left
turning_trace calls n (behind_turns line test body) left = halts

abbrev pub tested_turn : Calls → ℕ → ℕ → Option ScopedExpression → Option ScopedExpression → ScopedStatement → ℕ → ℕ → Behaviour Locals Flow
tested_turn calls n line None change body left v = halts
tested_turn calls n line (Some test) change body left v = loc line stays (is_true v) and_then λ again. next_turn calls n line (Some test) change body left again

abbrev pub turned_trace : Calls → ℕ → Loop → ℕ → ℕ → Behaviour Locals Flow
turned_trace calls n no_loop left v = halts
turned_trace calls n (before_turns line test change body) left v = tested_turn calls n line test change body left v
turned_trace calls n (behind_turns line test body) left v =
    loc line stays (is_true v) and_then λ again. picks again (do_turns_left calls n line test body left) (ends_with normal)

abbrev pub bodied_trace : Calls → ℕ → Loop → ℕ → Flow → Behaviour Locals Flow
bodied_trace calls n no_loop left flow = halts
bodied_trace calls n (before_turns line test change body) left flow = turned flow (change_trace calls change (turns_left calls n line test change body left))
bodied_trace calls n (behind_turns line test body) left flow =
    turned flow (test_trace calls line (Some test) λ again. picks again (do_turns_left calls n line test body left) (ends_with normal))

abbrev pub changed_trace : Calls → ℕ → Loop → ℕ → Behaviour Locals Flow
changed_trace calls n no_loop left = halts
changed_trace calls n (before_turns line test change body) left = turns_left calls n line test change body left
changed_trace calls n (behind_turns line test body) left = halts

abbrev pub doing_trace : Calls → ℕ → Loop → ℕ → Behaviour Locals Flow
doing_trace calls n no_loop left = halts
doing_trace calls n (before_turns line test change body) left = halts
doing_trace calls n (behind_turns line test body) left = do_turns_left calls n line test body left

abbrev pub returned_trace : Option ScopedExpression → ℕ → Behaviour Locals Flow
returned_trace None v = halts
returned_trace (Some value) v = ends_with (returns (kind_of value) v)

-- what is left of a statement at a station, behind an expression with this value, or a statement that led on so
abbrev pub station_trace : Calls → ℕ → ScopedStatement → Station → ℕ → Flow → Behaviour Locals Flow
station_trace calls n s start v flow = statement_trace calls n s
station_trace calls n s (led own) v flow = ends_with own
station_trace calls n s evaluated v flow = ends_with normal
station_trace calls n s (listing k) v flow = statements_trace calls n (parts_from (parts_of s) k)
station_trace calls n s (at.listed k) v flow = listed_part calls n (parts_of s) (statement_at (parts_of s) k) k flow
station_trace calls n s (declaring k) v flow = declarators_trace calls (declarators_from (declared_by s) k)
station_trace calls n s (filling k i) v flow = filling_trace calls (declared_by s) (declarator_at (declared_by s) k) k i
station_trace calls n s (arbitrary k i) v flow = arbitrary_filled calls (declared_by s) (declarator_at (declared_by s) k) k i v
station_trace calls n s (filled k i) v flow = filled_trace calls (declared_by s) (declarator_at (declared_by s) k) k i v
station_trace calls n s (initialized k) v flow = initialized_trace calls (declared_by s) (declarator_at (declared_by s) k) k v
station_trace calls n s tested v flow = tested_trace calls n s v
station_trace calls n s taken v flow = ends_with flow
station_trace calls n s other v flow = ends_with flow
station_trace calls n s opened v flow = led_on flow (turning_trace calls n (loop_of s) n)
station_trace calls n s (turning left) v flow = turning_trace calls n (loop_of s) left
station_trace calls n s (at.turned left) v flow = turned_trace calls n (loop_of s) left v
station_trace calls n s (bodied left) v flow = bodied_trace calls n (loop_of s) left flow
station_trace calls n s (changed left) v flow = changed_trace calls n (loop_of s) left
station_trace calls n s (doing left) v flow = doing_trace calls n (loop_of s) left
station_trace calls n s returned v flow = returned_trace (value_of s) v
station_trace calls n s labelled v flow = ends_with flow

-- what an expression, or a statement, does where there is one
abbrev pub with_value : {A : Type 0} → Option ScopedExpression → (ScopedExpression → Behaviour Locals A) → Behaviour Locals A
with_value None code = halts
with_value (Some e) code = code e

abbrev pub with_statement : {A : Type 0} → Option ScopedStatement → (ScopedStatement → Behaviour Locals A) → Behaviour Locals A
with_statement None code = halts
with_statement (Some s) code = code s

-- what a statement may do from where it stands, where this value is given
abbrev pub statement_resumed : Calls → ℕ → ScopedStatement → Footing → ℕ → Behaviour Locals Flow
statement_resumed calls n s (at_station station) v = station_trace calls n s station v normal
statement_resumed calls n s (in_value station inner) v = with_value (value_at s station) λ e. resumed calls e inner v and_then λ w. station_trace calls n s station w normal
statement_resumed calls n s (in_part station inner) v = with_statement (part_at s station) λ t. statement_resumed calls n t inner v and_then λ flow. station_trace calls n s station 0 flow

-- a pause, with the value that is given behind it
abbrev pub paused : Calls → Pause → Behaviour Locals ℕ
paused calls (acts action line) = does line action zero
paused calls (reads cell line) = chooses IsWord λ v. does line (Rd cell v) v
paused calls (asks line kind) = inputs line kind
paused calls (signals cond line) = chooses IsAny λ woken. does line (Signal cond woken) 0
paused calls (creates routine value line) = chooses IsAny λ d. does line (Create d routine value) d
paused calls (calls_on function kinds values) = in_frame (passed kinds (calls.params function) values) (calls.does function)

-- what may be done where a statement came so far
abbrev pub behind_reached : Calls → ℕ → ScopedStatement → Reached → Behaviour Locals Flow
behind_reached calls n s (leads flow) = ends_with flow
behind_reached calls n s (pauses pause footing) = paused calls pause and_then λ v. statement_resumed calls n s footing v
behind_reached calls n s (fails kind line) = does line (Check 0 kind) zero and_then λ _. halts
behind_reached calls n s (refuses line) = does line (Assume 0) zero and_then λ _. halts
behind_reached calls n s quits = leaves false
behind_reached calls n s stops = halts

-- what may be done where a statement makes this move
abbrev pub station_moved : Calls → ℕ → ScopedStatement → StationMove → Behaviour Locals Flow
station_moved calls n s (enters_value station) = statement_resumed calls n s (in_value station (stages.at_stage stages.start)) 0
station_moved calls n s (enters_part station) = statement_resumed calls n s (in_part station (at_station start)) 0
station_moved calls n s (moves_on station) = station_trace calls n s station 0 normal
station_moved calls n s (reaches reached) = behind_reached calls n s reached
