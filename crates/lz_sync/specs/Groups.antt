-- Inner: the instructions of each operation. The first is an assumption: the thread runs, the process is not over, no
-- other thread is the holder of the atomic section, and the action is not blocked.
use Rattle.std.specs.Prelude.{ℕ, zero, suc, ◌+◌, ◌==◌, Bool, true, false, List, [], ◌∷◌, ◌++◌, if◌then◌else◌}
use Rattle.lz_base.specs.declared.operator.Unary.TheVariants as unaries
use Rattle.lz_base.specs.declared.operator.Binary.TheVariants.{Add, Eq, Ne, Both, Either}
use Rattle.lz_base.specs.declared.word.IntType.TheVariants.{Unsigned}
use Rattle.lz_base.specs.declared.word.BreakKind.{BreakKind}
use Rattle.lz_base.specs.declared.word.BreakKind.TheVariants as kinds
use Rattle.lz_flat.specs.Programs.{Expression, constant, word, element, unary, binary, choose, Location, Instruction, sets, assumes, checks}
use Rattle.lz_sync.specs.declared.layout.Layout.{Layout}
use Rattle.lz_sync.specs.Standing.{Role, over, holder, main_life, life, wait, place_of, waits_from, lives_from}
use Rattle.lz_sync.specs.Operations.{Operation, reads, writes, resets, locks, unlocks, parks, wakes, signals, broadcasts, creates, joins, holds_on, holds_off, ends}

-- ---- expressions over the words

-- the word of a role
abbrev pub role_word : Layout → Role → Expression
role_word layout role = word (place_of layout role)

-- a fixed word as what is written
abbrev pub fixed : ℕ → Location
fixed place = record { first = place; len = 1; index = constant 0 }

-- the word of a role as what is written
abbrev pub role_at : Layout → Role → Location
role_at layout role = fixed (place_of layout role)

-- The word that a spot names among its kind, whose words begin here. A spot of one word is that word.
abbrev pub spot_word : ℕ → Location → Expression
spot_word from spot = if spot.len == 1 then word (from + spot.first) else element (from + spot.first) spot.len spot.index

abbrev pub spot_at : ℕ → Location → Location
spot_at from spot = if spot.len == 1 then fixed (from + spot.first) else record { first = from + spot.first; len = spot.len; index = spot.index }

-- one more than the number that a spot names
abbrev pub spot_number : Location → Expression
spot_number spot = if spot.len == 1 then constant (suc spot.first) else binary Add Unsigned spot.index (constant (suc spot.first))

-- neither is 0
abbrev pub both : Expression → Expression → Expression
both a b = binary Both Unsigned a b

-- not both are 0
abbrev pub either : Expression → Expression → Expression
either a b = binary Either Unsigned a b

-- they are equal
abbrev pub equal : Expression → Expression → Expression
equal a b = binary Eq Unsigned a b

-- it is 0
abbrev pub no : Expression → Expression
no a = unary unaries.Not Unsigned a

-- the role of the life of a slot
abbrev pub life_role : ℕ → Role
life_role zero = main_life
life_role (suc slot) = life (suc slot)

-- the thread is made and has not ended, and the process is not over
abbrev pub live : Layout → ℕ → Expression
live layout slot = both (equal (role_word layout (life_role slot)) (constant 1)) (no (role_word layout over))

-- so, and no other thread is the holder
abbrev pub free : Layout → ℕ → Expression
free layout slot = both (live layout slot) (either (no (role_word layout holder)) (equal (role_word layout holder) (constant (suc slot))))

-- some slot below this number waits there
abbrev pub some_wait : Layout → Expression → ℕ → Expression
some_wait layout cond zero = constant 0
some_wait layout cond (suc zero) = equal (role_word layout (wait 0)) cond
some_wait layout cond (suc (suc slots)) = either (some_wait layout cond (suc slots)) (equal (role_word layout (wait (suc slots))) cond)

-- the wait of a slot once the condition is broadcast
abbrev pub chosen_wait : Layout → Expression → ℕ → Expression
chosen_wait layout cond slot = choose (equal (role_word layout (wait slot)) cond) (constant 0) (role_word layout (wait slot))

-- no slot of these waits there any more
abbrev pub none_waits : Layout → Expression → ℕ → ℕ → List Instruction
none_waits layout cond slot zero = []
none_waits layout cond slot (suc more) =
    sets (role_at layout (wait slot)) (chosen_wait layout cond slot) ∷ none_waits layout cond (suc slot) more

-- the holder once a thread lets the atomic section go
abbrev pub chosen_holder : Layout → ℕ → Expression
chosen_holder layout slot = choose (equal (role_word layout holder) (constant (suc slot))) (constant 0) (role_word layout holder)

-- the thread that is the holder is it no more
abbrev pub lets_go : Layout → ℕ → Instruction
lets_go layout slot = sets (role_at layout holder) (chosen_holder layout slot)

-- ---- the group of an operation

-- the wait of the slot that a signal wakes: at 0 stands the word that is always 0
abbrev pub woken_word : Layout → Expression → Expression
woken_word layout woken = element (waits_from layout) (suc layout.threads) woken

-- so as what is written
abbrev pub woken_at : Layout → Expression → Location
woken_at layout woken = record { first = waits_from layout; len = suc layout.threads; index = woken }

-- the life of the slot that is joined: at 0 stands the word that is always 0
abbrev pub joined_word : Layout → Expression → Expression
joined_word layout slot = element (lives_from layout) layout.threads slot

-- so as what is written
abbrev pub joined_at : Layout → Expression → Location
joined_at layout slot = record { first = lives_from layout; len = layout.threads; index = slot }

-- the woken slot waits there, or no slot does where nobody is woken
abbrev pub signal_test : Layout → Location → Expression → Expression
signal_test layout c w = choose w (equal (woken_word layout w) (spot_number c)) (no (some_wait layout (spot_number c) layout.threads))

-- a mutex is given up after a check that the thread owns it
abbrev pub given_up : Layout → ℕ → Location → BreakKind → List Instruction
given_up layout t m kind =
    assumes (free layout t) ∷ checks (equal (spot_word layout.cells m) (constant (suc t))) kind 0 ∷ sets (spot_at layout.cells m) (constant 0) ∷ []

-- at the end of the whole process, this is over
abbrev pub over_set : Layout → Bool → List Instruction
over_set layout false = []
over_set layout true = sets (role_at layout over) (constant 1) ∷ []

-- The instructions of an operation of a thread, by its slot. A check has line 0. (POSIX.1-2017: pthread_mutex_lock,
-- pthread_mutex_unlock, pthread_cond_wait, pthread_cond_signal, pthread_cond_broadcast, pthread_create, pthread_join.)
abbrev pub group : Layout → ℕ → Operation → List Instruction
group layout t (reads from to) = assumes (free layout t) ∷ sets to (spot_word 0 from) ∷ []
group layout t (writes to of) = assumes (free layout t) ∷ sets (spot_at 0 to) of ∷ []
group layout t (resets m) = assumes (free layout t) ∷ sets (spot_at layout.cells m) (constant 0) ∷ []
group layout t (locks m) = assumes (both (free layout t) (no (spot_word layout.cells m))) ∷ sets (spot_at layout.cells m) (constant (suc t)) ∷ []
group layout t (unlocks m) = given_up layout t m kinds.Unlock
group layout t (parks c m) = given_up layout t m kinds.Wait ++ sets (role_at layout (wait t)) (spot_number c) ∷ []
group layout t (wakes c m) =
    assumes (both (free layout t) (both (no (role_word layout (wait t))) (no (spot_word layout.cells m)))) ∷ sets (spot_at layout.cells m) (constant (suc t)) ∷ []
group layout t (signals c w) =
    assumes (both (free layout t) (signal_test layout c w)) ∷ sets (woken_at layout w) (constant 0) ∷ []
group layout t (broadcasts c) = assumes (free layout t) ∷ none_waits layout (spot_number c) 0 layout.threads
group layout t (creates slot start argument) = assumes (free layout t) ∷ sets (role_at layout (life slot)) (constant 1) ∷ []
group layout t (joins slot) =
    assumes (both (free layout t) (binary Ne Unsigned (joined_word layout slot) (constant 1))) ∷ checks (equal (joined_word layout slot) (constant 2)) kinds.Join 0
    ∷ sets (joined_at layout slot) (constant 3) ∷ []
group layout t holds_on = assumes (free layout t) ∷ sets (role_at layout holder) (constant (suc t)) ∷ []
group layout t holds_off = assumes (live layout t) ∷ lets_go layout t ∷ []
group layout t (ends whole) = assumes (live layout t) ∷ sets (role_at layout (life_role t)) (constant 2) ∷ lets_go layout t ∷ over_set layout whole
