-- Inner: what the instructions of an operation weigh, by the table of flat programs.
use Rattle.std.specs.Prelude.{ℕ, zero, suc, ◌+◌, ◌*◌, ◌==◌, Bool, true, false, List, [], ◌∷◌, if◌then◌else◌}
use Rattle.lz_base.specs.declared.operator.Unary.TheVariants as unaries
use Rattle.lz_base.specs.declared.operator.Binary.TheVariants.{Add, Eq, Ne, Both, Either}
use Rattle.lz_flat.specs.Programs.{Expression, Location, Instruction}
use Rattle.lz_flat.specs.Weight.{constant_number, word_number, element_number, unary_number, binary_number, choose_number, fixed_number, set_instruction, assume_instruction, check_instruction, instruction_number, expression_weight, location_number, location_weight, parts_weight}
use Rattle.lz_sync.specs.declared.layout.Layout.{Layout}
use Rattle.lz_sync.specs.Operations.{Operation, reads, writes, resets, locks, unlocks, parks, wakes, signals, broadcasts, creates, joins, holds_on, holds_off, ends}

-- the weight of instructions, none of them visible
abbrev pub instructions_weight : List Instruction → ℕ
instructions_weight [] = 0
instructions_weight (first ∷ rest) = instruction_number first + parts_weight first + instructions_weight rest

-- ---- the parts of a group

-- two tests together
abbrev pub both_weight : ℕ → ℕ → ℕ
both_weight a b = binary_number Both + a + b

-- a comparison with a constant or a word
abbrev pub equal_weight : ℕ → ℕ
equal_weight a = binary_number Eq + a + constant_number

-- that a number is 0
abbrev pub no_weight : ℕ → ℕ
no_weight a = unary_number unaries.Not + a

-- that a thread is not halted
abbrev pub live_weight : ℕ
live_weight = both_weight (equal_weight word_number) (no_weight word_number)

-- and that no other is the holder
abbrev pub free_weight : ℕ
free_weight = both_weight live_weight (binary_number Either + no_weight word_number + equal_weight word_number)

-- the word that a spot names
abbrev pub spot_weight : Location → ℕ
spot_weight spot = if spot.len == 1 then word_number else element_number spot.len + expression_weight spot.index

-- so as what is written
abbrev pub place_weight : Location → ℕ
place_weight spot = if spot.len == 1 then fixed_number + constant_number else location_number spot.len spot.index + expression_weight spot.index

-- one more than the number that it names
abbrev pub number_weight : Location → ℕ
number_weight spot = if spot.len == 1 then constant_number else binary_number Add + expression_weight spot.index + constant_number

-- a write
abbrev pub set_weight : ℕ → ℕ → ℕ
set_weight to of = set_instruction + to + of

-- a write of a fixed word
abbrev pub fixed_weight : ℕ → ℕ
fixed_weight of = set_weight (fixed_number + constant_number) of

-- a test and a choice between 0 and a word
abbrev pub chosen_weight : ℕ → ℕ
chosen_weight test = choose_number + test + constant_number + word_number

-- that some slot below this number waits on the condition of this weight
abbrev pub some_wait_weight : ℕ → ℕ → ℕ
some_wait_weight number zero = constant_number
some_wait_weight number (suc zero) = binary_number Eq + word_number + number
some_wait_weight number (suc (suc slots)) = binary_number Either + some_wait_weight number (suc slots) + (binary_number Eq + word_number + number)

-- one of so many words by an index, read and written
abbrev pub listed_weight : ℕ → Expression → ℕ
listed_weight len index = element_number len + expression_weight index

abbrev pub listed_place : ℕ → Expression → ℕ
listed_place len index = location_number len index + expression_weight index

-- that the woken slot waits there, or none does
abbrev pub signal_weight : Layout → Location → Expression → ℕ
signal_weight layout c w =
    choose_number + expression_weight w + (binary_number Eq + listed_weight (suc layout.threads) w + number_weight c) + no_weight (some_wait_weight (number_weight c) layout.threads)

-- a mutex is given up
abbrev pub given_up_weight : Location → ℕ
given_up_weight m = assume_instruction + free_weight + (check_instruction + equal_weight (spot_weight m)) + set_weight (place_weight m) constant_number

-- at the end of the whole process, this is over
abbrev pub over_weight : Bool → ℕ
over_weight false = 0
over_weight true = fixed_weight constant_number

-- the weight of the instructions of an operation, whichever thread does it
abbrev pub group_weight : Layout → Operation → ℕ
group_weight layout (reads from to) = assume_instruction + free_weight + set_weight (location_weight to) (spot_weight from)
group_weight layout (writes to of) = assume_instruction + free_weight + set_weight (place_weight to) (expression_weight of)
group_weight layout (resets m) = assume_instruction + free_weight + set_weight (place_weight m) constant_number
group_weight layout (locks m) = assume_instruction + both_weight free_weight (no_weight (spot_weight m)) + set_weight (place_weight m) constant_number
group_weight layout (unlocks m) = given_up_weight m
group_weight layout (parks c m) = given_up_weight m + fixed_weight (number_weight c)
group_weight layout (wakes c m) =
    assume_instruction + both_weight free_weight (both_weight (no_weight word_number) (no_weight (spot_weight m))) + set_weight (place_weight m) constant_number
group_weight layout (signals c w) =
    assume_instruction + both_weight free_weight (signal_weight layout c w) + set_weight (listed_place (suc layout.threads) w) constant_number
group_weight layout (broadcasts c) =
    assume_instruction + free_weight + layout.threads * fixed_weight (chosen_weight (binary_number Eq + word_number + number_weight c))
group_weight layout (creates slot start argument) = assume_instruction + free_weight + fixed_weight constant_number
group_weight layout (joins slot) =
    assume_instruction + both_weight free_weight (binary_number Ne + listed_weight layout.threads slot + constant_number) + (check_instruction + equal_weight (listed_weight layout.threads slot))
    + set_weight (listed_place layout.threads slot) constant_number
group_weight layout holds_on = assume_instruction + free_weight + fixed_weight constant_number
group_weight layout holds_off = assume_instruction + live_weight + fixed_weight (chosen_weight (equal_weight word_number))
group_weight layout (ends whole) =
    assume_instruction + live_weight + fixed_weight constant_number + fixed_weight (chosen_weight (equal_weight word_number)) + over_weight whole
