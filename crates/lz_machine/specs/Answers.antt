-- Inner: what a thread answers on its next action, by what it may do before and behind it.
use Rattle.std.specs.Prelude.{◌≡◌, ◌⊎◌, ℕ, zero, ◌<◌, ◌-◌, ◌%◌, ◌==◌, min, if◌then◌else◌, List, [], ◌∷◌, Option, Some, None, ⊤}
use Rattle.lz_base.specs.Words.{value_bound}
use Rattle.lz_tree.specs.ScopedTrees.{ScopedProgram}
use Rattle.lz_model.specs.declared.actions.Action.{Action}
use Rattle.lz_model.specs.declared.actions.Action.TheVariants.{Input, Check, Assume, Rd, Signal, End}
use Rattle.lz_model.specs.Actions.{Act}
use Rattle.lz_model.specs.CodeTraces.{at}
use Rattle.lz_machine.specs.Threads.{Running, Standing, going, failed, stopped, ended, spent, Thread, MayDo}

-- What a thread answers: a read of a cell, whose word is to be read back; another action that is not Loc; that it gave
-- its end; or that nothing more comes.
pub data Answer : Type 0 where
  reads : (cell line : ℕ) → Answer
  acts : (action : Action) (line : ℕ) → Answer
  has_ended : Answer
  is_cut : Answer

-- a thread with the word that was read back, if any
abbrev pub given_to : Option ℕ → Running → Running
given_to None running = running
given_to (Some word) running = record { frames = running.frames; handles = running.handles; given = word; made = running.made }

abbrev pub given_word : Option ℕ → Standing → Standing
given_word word (going running) = going (given_to word running)
given_word word failed = failed
given_word word stopped = stopped
given_word word ended = ended
given_word word spent = spent

abbrev pub read_back : Option ℕ → Thread → Thread
read_back word thread = record { standing = given_word word thread.standing; whole = thread.whole }

-- The thread that a signal wakes by its choice: nobody for 0, else the one before the choice, up to the greatest word.
abbrev pub woken_by : ℕ → Option ℕ
woken_by choice = if choice == 0 then None else Some (min (choice - 1) (value_bound - 1))

-- The answered action is by the choice: an input has it for its value, as a word, and a signal wakes by it.
abbrev pub HasChosen : ℕ → Action → Type 0
HasChosen choice (Input value) = value ≡ choice % value_bound
HasChosen choice (Signal cond woken) = woken ≡ woken_by choice
HasChosen choice action = ⊤

abbrev pub IsChosen : ℕ → Answer → Type 0
IsChosen choice (reads cell line) = ⊤
IsChosen choice (acts action line) = HasChosen choice action
IsChosen choice has_ended = ⊤
IsChosen choice is_cut = ⊤

-- An answered signal stands for one that wakes anybody, each other action for itself.
abbrev pub StandsFor : Action → Action → Type 0
StandsFor (Signal cond woken) action = (other : Option ℕ) × (action ≡ Signal cond other)
StandsFor answered action = action ≡ answered

-- An input at the head has the value that is asked for, or that value as a word.
abbrev pub HasChoice : ℕ → Action → Type 0
HasChoice choice (Input value) = (value ≡ choice) ⊎ (value ≡ choice % value_bound)
HasChoice choice action = ⊤

abbrev pub IsAsked : ℕ → List Act → Type 0
IsAsked choice [] = ⊤
IsAsked choice (first ∷ rest) = HasChoice choice first.action

-- Behind an answer come those actions whose head it stands for, and whose rest the thread may do then: a read may find
-- any word, which is to be read back.
abbrev pub IsBehind : ScopedProgram → ℕ → Answer → Thread → List Act → Type 0
IsBehind p n (reads cell line) after list =
    (word : ℕ) × (rest : List Act) × (word < value_bound) × (list ≡ at line (Rd cell word) ∷ rest) × MayDo p n (read_back (Some word) after) rest
IsBehind p n (acts action line) after list =
    (other : Action) × (rest : List Act) × StandsFor action other × (list ≡ at line other ∷ rest) × MayDo p n after rest
IsBehind p n has_ended after list = ⊥
IsBehind p n is_cut after list = ⊥

-- ---- causes

abbrev pub IsGoing : Standing → Type 0
IsGoing (going running) = ⊤
IsGoing failed = ⊥
IsGoing stopped = ⊥
IsGoing ended = ⊥
IsGoing spent = ⊥

-- an end ends the thread, a check or an assumption of 0 cuts it, and behind every other action it goes on
abbrev pub StandsBehind : Action → Standing → Type 0
StandsBehind (End whole) standing = standing ≡ ended
StandsBehind (Check zero kind) standing = standing ≡ failed
StandsBehind (Assume zero) standing = standing ≡ failed
StandsBehind action standing = IsGoing standing

-- a thread that is cut: it was cut before, or it goes no further
abbrev pub CutBehind : Standing → Standing → Type 0
CutBehind (going running) standing = standing ≡ stopped
CutBehind failed standing = standing ≡ failed
CutBehind stopped standing = standing ≡ stopped
CutBehind ended standing = ⊥
CutBehind spent standing = ⊥

-- Why a thread gives this answer: it goes on; it gave its end before; or it did not, and nothing more comes. One that is
-- spent gives none.
abbrev pub Causes : Standing → Answer → Standing → Type 0
Causes before (reads cell line) after = IsGoing before × IsGoing after
Causes before (acts action line) after = IsGoing before × StandsBehind action after
Causes before has_ended after = (before ≡ ended) × (after ≡ ended)
Causes before is_cut after = CutBehind before after

-- The answer of a thread on its next action, and the thread behind it. What the thread could do before it is nothing, or
-- what comes behind the answer: at an input for the value that is asked for and for its word, at a signal whomever it wakes.
pub record Answers (p : ScopedProgram) (n choice : ℕ) (before : Thread) (answer : Answer) (after : Thread) : Type 0 where
  pub there : (list : List Act) → IsAsked choice list → MayDo p n before list → (list ≡ []) ⊎ IsBehind p n answer after list
  pub back : (list : List Act) → IsBehind p n answer after list → MayDo p n before list
  pub chosen : IsChosen choice answer
  pub causes : Causes before.standing answer after.standing
  pub whole : after.whole ≡ before.whole
