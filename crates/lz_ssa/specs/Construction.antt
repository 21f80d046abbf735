-- Inner: the construction of nodes as the code makes it, statement by statement.
-- No public clause speaks of it.
use Rattle.std.specs.Prelude.{ℕ, zero, suc, ◌+◌, ◌/◌, ◌%◌, nat_le, nat_lt, List, [], ◌∷◌, ◌++◌, length, map, slice_index, slice_index_or, slice_set, if◌then◌else◌}
use Rattle.lz_base.specs.declared.operator.Unary.{Unary}
use Rattle.lz_base.specs.declared.operator.Unary.TheVariants as unaries
use Rattle.lz_base.specs.declared.operator.Binary.{Binary}
use Rattle.lz_base.specs.declared.operator.Binary.TheVariants as binaries
use Rattle.lz_base.specs.declared.word.IntType.{IntType}
use Rattle.lz_base.specs.declared.word.IntType.TheVariants.{Unsigned}
use Rattle.lz_flat.specs.Programs.{Expression, constant, word, element, unary, binary, convert, choose, Location, Instruction, sets, takes, assumes, checks, skips, Statement, StraightProgram}
use Rattle.lz_ssa.specs.declared.node.Node.{Node}
use Rattle.lz_ssa.specs.declared.node.Node.TheVariants as nodes
use Rattle.lz_ssa.specs.declared.draft.Held.{Held}
use Rattle.lz_ssa.specs.declared.draft.Held.TheVariants.{First, Made}
use Rattle.lz_ssa.specs.declared.decode.Decoder.{Decoder}
use Rattle.lz_ssa.specs.declared.decode.Decoder.TheVariants.{Direct, Split}

-- What was made so far: the nodes, and for each word of the memory its first value or the node that has its
-- word.
pub record Drawn : Type 0 where
  pub list : List Node
  pub words : List Held

-- a node that was made, and what was made so far
pub record With : Type 0 where
  pub drawn : Drawn
  pub node : ℕ

-- one more node
abbrev pub add : Node → Drawn → With
add node drawn = record { drawn = record { list = drawn.list ++ node ∷ []; words = drawn.words }; node = length drawn.list }

-- a binary operator at words without a sign
abbrev pub join : Binary → ℕ → ℕ → Drawn → With
join op left right drawn = add (nodes.Binary op Unsigned left right) drawn

-- ---- words of the memory

-- the node of a word; a first value becomes a constant where it is first read
abbrev pub held_node : Held → ℕ → Drawn → With
held_node (Made node) place drawn = record { drawn = drawn; node = node }
held_node (First value) place drawn =
    record { drawn = record { list = drawn.list ++ nodes.Constant value ∷ []; words = slice_set drawn.words place (Made (length drawn.list)) }; node = length drawn.list }

-- the node of the word at a place
unfoldable pub word_node : ℕ → Drawn → With
word_node place drawn = held_node (slice_index_or drawn.words place (First 0)) place drawn

-- the memory after a word became that of a node
abbrev pub with_word : ℕ → With → Drawn
with_word place made = record { list = made.drawn.list; words = slice_set made.drawn.words place (Made made.node) }

-- ---- an index, decoded

-- a comparison of a node with a number
abbrev pub equals_made : ℕ → With → With
equals_made node number = join binaries.Eq node number.node number.drawn

-- the test that a node has this number
unfoldable pub equals : ℕ → ℕ → Drawn → With
equals node number drawn = equals_made node (add (nodes.Constant number) drawn)

-- the bits of a node under a mask
abbrev pub masked_made : ℕ → With → With
masked_made node mask = join binaries.BitAnd node mask.node mask.drawn

-- the bits of a node under this mask
unfoldable pub masked : ℕ → ℕ → Drawn → With
masked node mask drawn = masked_made node (add (nodes.Constant mask) drawn)

-- the comparisons with so many numbers, from one on, in steps of one size
pub record Compared : Type 0 where
  pub drawn : Drawn
  pub tests : List ℕ

-- one comparison more
abbrev pub compared_with : List ℕ → With → Compared
compared_with tests test = record { drawn = test.drawn; tests = tests ++ test.node ∷ [] }

-- the comparisons with so many numbers, from one on
unfoldable pub compare_from : ℕ → ℕ → ℕ → ℕ → Compared → Compared
compare_from node number step zero compared = compared
compare_from node number step (suc more) compared =
    compare_from node (number + step) step more (compared_with compared.tests (equals node number compared.drawn))

-- none so far
abbrev pub compared_none : Drawn → Compared
compared_none drawn = record { drawn = drawn; tests = [] }

-- a decoded index, and what was made so far
pub record Decoded : Type 0 where
  pub drawn : Drawn
  pub decoder : Decoder

-- all bits of a word but the low five, and those
abbrev pub group_mask : ℕ
group_mask = 4294967264

-- the low five bits of a word
abbrev pub place_mask : ℕ
place_mask = 31

-- how many places a group has
unfoldable pub group_size : ℕ
group_size = 32

-- how many groups so many places have
abbrev pub groups_of : ℕ → ℕ
groups_of len = (len + 31) / 32

-- both lists of comparisons make the decoder
abbrev pub split_done : List ℕ → Compared → Decoded
split_done groups places = record { drawn = places.drawn; decoder = Split groups places.tests }

-- then the comparisons with the places of a group
abbrev pub split_places : List ℕ → With → Decoded
split_places groups place = split_done groups (compare_from place.node 0 1 group_size (compared_none place.drawn))

-- then the place in the group
abbrev pub split_index : ℕ → Compared → Decoded
split_index index groups = split_places groups.tests (masked index place_mask groups.drawn)

-- the comparisons with the groups first
abbrev pub split_groups : ℕ → ℕ → With → Decoded
split_groups index len group = split_index index (compare_from group.node 0 32 (groups_of len) (compared_none group.drawn))

-- the index of a list of so many places
unfoldable pub decode : ℕ → ℕ → Drawn → Decoded
decode index len drawn =
    if nat_le len 32 then record { drawn = drawn; decoder = Direct index } else split_groups index len (masked index group_mask drawn)

-- the test that the index is this place
unfoldable pub at_place : Decoder → ℕ → Drawn → With
at_place (Direct index) place drawn = equals index place drawn
at_place (Split groups places) place drawn =
    join binaries.Both (slice_index groups (place / 32)) (slice_index places (place % 32)) drawn

-- ---- a read by an index: a chain of choices

-- the word here where the test is true, and else what there was so far
abbrev pub chosen : ℕ → ℕ → With → With
chosen test so_far here = add (nodes.Choose test here.node so_far) here.drawn

-- with the word at this place
abbrev pub read_here : ℕ → ℕ → With → With
read_here place so_far test = chosen test.node so_far (word_node place test.drawn)

-- the word at this place where the index is this place, and else what there was so far
unfoldable pub read_turn : Decoder → ℕ → ℕ → With → With
read_turn decoder first place so_far = read_here (first + place) so_far.node (at_place decoder place so_far.drawn)

-- so with so many places from one on
unfoldable pub read_from : Decoder → ℕ → ℕ → ℕ → With → With
read_from decoder first place zero so_far = so_far
read_from decoder first place (suc more) so_far = read_from decoder first (suc place) more (read_turn decoder first place so_far)

-- from 0 on, all places of the list
abbrev pub read_decoded : ℕ → ℕ → Decoded → With
read_decoded first len index = read_from index.decoder first 0 len (add (nodes.Constant 0) index.drawn)

-- the word that the index chooses, or 0
unfoldable pub read_element : ℕ → ℕ → With → With
read_element first len index = read_decoded first len (decode index.node len index.drawn)

-- ---- expressions

-- a unary operator at a node
abbrev pub unary_made : Unary → IntType → With → With
unary_made op kind of = add (nodes.Unary op kind of.node) of.drawn

-- a conversion of a node
abbrev pub convert_made : IntType → IntType → With → With
convert_made from to of = add (nodes.Convert from to of.node) of.drawn

-- a binary operator at two nodes
abbrev pub binary_made : Binary → IntType → ℕ → With → With
binary_made op kind left right = add (nodes.Binary op kind left right.node) right.drawn

-- a choice between two nodes
abbrev pub choose_made : ℕ → ℕ → With → With
choose_made test chosen other = add (nodes.Choose test chosen other.node) other.drawn

-- the node of an expression's value
unfoldable pub expression_node : Expression → Drawn → With
expression_node (constant value) drawn = add (nodes.Constant value) drawn
expression_node (word place) drawn = word_node place drawn
expression_node (element first len index) drawn = read_element first len (expression_node index drawn)
expression_node (unary op kind of) drawn = unary_made op kind (expression_node of drawn)
expression_node (binary op kind left right) drawn =
    binary_made op kind (expression_node left drawn).node (expression_node right (expression_node left drawn).drawn)
expression_node (convert from to of) drawn = convert_made from to (expression_node of drawn)
expression_node (choose test chosen other) drawn =
    choose_made (expression_node test drawn).node (expression_node chosen (expression_node test drawn).drawn).node
    (expression_node other (expression_node chosen (expression_node test drawn).drawn).drawn)

-- ---- writes under a guard

-- the word at this place becomes a choice between the value and itself
abbrev pub written : ℕ → ℕ → ℕ → With → Drawn
written place guard value here = with_word place (add (nodes.Choose guard value here.node) here.drawn)

-- a write of a fixed word
unfoldable pub write_word : ℕ → ℕ → ℕ → Drawn → Drawn
write_word place guard value drawn = written place guard value (word_node place drawn)

-- so by a guard that was made
abbrev pub write_guarded : ℕ → ℕ → With → Drawn
write_guarded place value guard = write_word place guard.node value guard.drawn

-- so where the guard and the test of the place are true
abbrev pub write_here : ℕ → ℕ → ℕ → With → Drawn
write_here place guard value test = write_guarded place value (join binaries.Both guard test.node test.drawn)

-- the word at this place becomes the value where the guard is not 0 and the index is this place
unfoldable pub write_turn : Decoder → ℕ → ℕ → ℕ → ℕ → Drawn → Drawn
write_turn decoder first guard value place drawn = write_here (first + place) guard value (at_place decoder place drawn)

-- so with so many places from one on
unfoldable pub write_from : Decoder → ℕ → ℕ → ℕ → ℕ → ℕ → Drawn → Drawn
write_from decoder first guard value place zero drawn = drawn
write_from decoder first guard value place (suc more) drawn =
    write_from decoder first guard value (suc place) more (write_turn decoder first guard value place drawn)

-- from 0 on, all places of the list
abbrev pub write_decoded : ℕ → ℕ → ℕ → ℕ → Decoded → Drawn
write_decoded first len guard value index = write_from index.decoder first guard value 0 len index.drawn

-- so by the node of an index
abbrev pub write_element : ℕ → ℕ → ℕ → ℕ → With → Drawn
write_element first len guard value index = write_decoded first len guard value (decode index.node len index.drawn)

-- a write by an index; one past the length does nothing
unfoldable pub write_by : Expression → ℕ → ℕ → ℕ → ℕ → Drawn → Drawn
write_by (constant index) first len guard value drawn =
    if nat_lt index len then write_word (first + index) guard value drawn else drawn
write_by (word place) first len guard value drawn =
    write_element first len guard value (expression_node (word place) drawn)
write_by (element start size index) first len guard value drawn =
    write_element first len guard value (expression_node (element start size index) drawn)
write_by (unary op kind of) first len guard value drawn =
    write_element first len guard value (expression_node (unary op kind of) drawn)
write_by (binary op kind left right) first len guard value drawn =
    write_element first len guard value (expression_node (binary op kind left right) drawn)
write_by (convert from to of) first len guard value drawn =
    write_element first len guard value (expression_node (convert from to of) drawn)
write_by (choose test chosen other) first len guard value drawn =
    write_element first len guard value (expression_node (choose test chosen other) drawn)

-- a write to a location
abbrev pub write : Location → ℕ → With → Drawn
write to guard value = write_by to.index to.first to.len guard value.node value.drawn

-- ---- statements

-- What was made so far, the node that is 0 where an assumption of 0 was met, and the node that is not 0 where
-- a check of 0 was met before any.
pub record Progress : Type 0 where
  pub drawn : Drawn
  pub alive : ℕ
  pub failed : ℕ

-- the node that says whether the program is alive
abbrev pub with_alive : ℕ → With → Progress
with_alive failed alive = record { drawn = alive.drawn; alive = alive.node; failed = failed }

-- the node that says whether it has failed
abbrev pub with_failed : ℕ → With → Progress
with_failed alive failed = record { drawn = failed.drawn; alive = alive; failed = failed.node }

-- an assumption: still alive where the guard is 0 or the test is not
abbrev pub assume_either : ℕ → ℕ → With → Progress
assume_either alive failed passes = with_alive failed (join binaries.Both alive passes.node passes.drawn)

-- where the guard is 0 the assumption passes
abbrev pub assume_not : ℕ → ℕ → ℕ → With → Progress
assume_not alive failed test not_guard = assume_either alive failed (join binaries.Either not_guard.node test not_guard.drawn)

-- an assumption under a guard
unfoldable pub assume_made : ℕ → ℕ → ℕ → With → Progress
assume_made alive failed guard test = assume_not alive failed test.node (add (nodes.Unary unaries.Not Unsigned guard) test.drawn)

-- a check: it fails where it is alive, the guard is not 0 and the test is
abbrev pub check_both : ℕ → ℕ → With → Progress
check_both alive failed broken = with_failed alive (join binaries.Either failed broken.node broken.drawn)

-- where the test is 0 the check breaks
abbrev pub check_not : ℕ → ℕ → ℕ → With → Progress
check_not alive failed runs not_test = check_both alive failed (join binaries.Both runs not_test.node not_test.drawn)

-- a check that runs
abbrev pub check_runs : ℕ → ℕ → ℕ → With → Progress
check_runs alive failed test runs = check_not alive failed runs.node (add (nodes.Unary unaries.Not Unsigned test) runs.drawn)

-- a check under a guard
unfoldable pub check_made : ℕ → ℕ → ℕ → With → Progress
check_made alive failed guard test = check_runs alive failed test.node (join binaries.Both alive guard test.drawn)

-- the same nodes of being alive and of having failed
abbrev pub with_drawn : ℕ → ℕ → Drawn → Progress
with_drawn alive failed drawn = record { drawn = drawn; alive = alive; failed = failed }

-- an instruction of statement i under the node of its guard
unfoldable pub instruction_made : ℕ → Instruction → ℕ → ℕ → With → Progress
instruction_made i (sets to of) alive failed guard = with_drawn alive failed (write to guard.node (expression_node of guard.drawn))
instruction_made i (takes to) alive failed guard = with_drawn alive failed (write to guard.node (add (nodes.Input i Unsigned) guard.drawn))
instruction_made i (assumes test) alive failed guard = assume_made alive failed guard.node (expression_node test guard.drawn)
instruction_made i (checks test kind line) alive failed guard = check_made alive failed guard.node (expression_node test guard.drawn)
instruction_made i (skips test by) alive failed guard = with_drawn alive failed guard.drawn

-- a statement with its guard
unfoldable pub statement_made : ℕ → Statement → Progress → Progress
statement_made i statement so_far =
    instruction_made i statement.instr so_far.alive so_far.failed (expression_node statement.guard so_far.drawn)

-- the statements, the first of which is statement i
unfoldable pub statements_made : ℕ → List Statement → Progress → Progress
statements_made i [] so_far = so_far
statements_made i (first ∷ rest) so_far = statements_made (suc i) rest (statement_made i first so_far)

-- before the first statement: alive is 1, and failed is 0
abbrev pub begin_failed : With → Progress
begin_failed alive = with_failed alive.node (add (nodes.Constant 0) alive.drawn)

-- before the first statement
unfoldable pub begin : List ℕ → Progress
begin first = begin_failed (add (nodes.Constant 1) (record { list = []; words = map (λ value. First value) first }))

-- the whole program
abbrev pub constructed : StraightProgram → Progress
constructed straight = statements_made 0 straight.list (begin straight.first)
