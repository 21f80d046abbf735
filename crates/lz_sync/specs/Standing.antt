-- Trusted: which memory stands for which shared state with a list of made slots.
use Rattle.std.specs.Prelude.{◌≡◌, ℕ, suc, ◌+◌, ◌<◌, ◌≤◌, true, List, length, slice_index, Option, Some, None, ⊤, if◌then◌else◌}
use Rattle.lz_base.specs.Words.{truth}
use Rattle.lz_model.specs.declared.thread_state.ThreadState.{ThreadState}
use Rattle.lz_model.specs.Store.{State, is_made, thread_at, owner_of}
use Rattle.lz_sync.specs.declared.layout.Layout.{Layout}
use Rattle.lz_sync.specs.Slots.{thread_of, slot_of, RisesTo}

-- What a word is for: a cell; the owner of a mutex; whether the process is over; the holder of the atomic section; the
-- life of a slot; the condition on which a slot waits; and the two words before these that are always 0.
pub data Role : Type 0 where
  cell : (i : ℕ) → Role
  owner : (i : ℕ) → Role
  over : Role
  holder : Role
  main_life : Role
  no_life : Role
  life : (slot : ℕ) → Role
  no_wait : Role
  wait : (slot : ℕ) → Role

-- where the words of lives and of waits begin
abbrev pub lives_from : Layout → ℕ
lives_from layout = layout.cells + layout.mutexes + 3

abbrev pub waits_from : Layout → ℕ
waits_from layout = lives_from layout + layout.threads

-- how many words stand for a state
abbrev pub words_of : Layout → ℕ
words_of layout = waits_from layout + layout.threads + 1

-- the place of a word
abbrev pub place_of : Layout → Role → ℕ
place_of layout (cell i) = i
place_of layout (owner i) = layout.cells + i
place_of layout over = layout.cells + layout.mutexes
place_of layout holder = layout.cells + layout.mutexes + 1
place_of layout main_life = layout.cells + layout.mutexes + 2
place_of layout no_life = lives_from layout
place_of layout (life slot) = lives_from layout + slot
place_of layout no_wait = waits_from layout
place_of layout (wait slot) = waits_from layout + suc slot

-- the layout has this word: the life of slot 0 is `main_life`
abbrev pub IsOf : Layout → Role → Type 0
IsOf layout (cell i) = i < layout.cells
IsOf layout (owner i) = i < layout.mutexes
IsOf layout over = ⊤
IsOf layout holder = ⊤
IsOf layout main_life = ⊤
IsOf layout no_life = 0 < layout.threads
IsOf layout (life slot) = (0 < slot) × (slot < layout.threads)
IsOf layout no_wait = ⊤
IsOf layout (wait slot) = slot < layout.threads

-- ---- what a word says

-- a number, or none
abbrev pub number_word : Option ℕ → ℕ
number_word None = 0
number_word (Some number) = suc number

-- a thread, by its slot, or none
abbrev pub thread_word : List ℕ → Option ℕ → ℕ
thread_word made None = 0
thread_word made (Some thread) = suc (slot_of made thread)

-- a thread that was made: 1 it runs, 2 it has ended, 3 it was joined too
abbrev pub life_word : ThreadState → ℕ
life_word thread = if thread.ended then (if thread.joined then 3 else 2) else 1

-- the life of a thread; 0 it is not made
abbrev pub life_in : State → ℕ → ℕ
life_in state thread = if is_made state thread then life_word (thread_at state thread) else 0

abbrev pub said : State → List ℕ → Role → ℕ
said state made (cell i) = slice_index state.cells i
said state made (owner i) = thread_word made (owner_of state i)
said state made over = truth state.over
said state made holder = thread_word made state.holder
said state made main_life = life_in state 0
said state made no_life = 0
said state made (life slot) = life_in state (thread_of made slot)
said state made no_wait = 0
said state made (wait slot) = number_word (thread_at state (thread_of made slot)).waits

-- ---- states

-- the thread, where there is one, is made
abbrev pub IsMadeIn : State → Option ℕ → Type 0
IsMadeIn state None = ⊤
IsMadeIn state (Some thread) = thread < length state.threads

-- what every state that can be reached has: owners and holder are made, and who was joined has ended
pub record IsSound (state : State) : Type 0 where
  pub owners : (mutex : ℕ) → IsMadeIn state (owner_of state mutex)
  pub holder : IsMadeIn state state.holder
  pub joins : (thread : ℕ) → (thread_at state thread).joined ≡ true → (thread_at state thread).ended ≡ true

-- a state of this layout, with this list of made slots
pub record Fits (layout : Layout) (state : State) (made : List ℕ) : Type 0 where
  pub cells : length state.cells ≡ layout.cells
  pub mutexes : length state.owners ≡ layout.mutexes
  pub threads : length state.threads ≡ suc (length made)
  pub rises : RisesTo layout.threads 0 made
  pub sound : IsSound state

-- memory has these words
pub record Tells (layout : Layout) (memory : List ℕ) (words : Role → ℕ) : Type 0 where
  pub room : words_of layout ≤ length memory
  pub at : (role : Role) → IsOf layout role → slice_index memory (place_of layout role) ≡ words role

-- memory stands for the state with the list of made slots
pub record StandsFor (layout : Layout) (memory : List ℕ) (state : State) (made : List ℕ) : Type 0 where
  pub fits : Fits layout state made
  pub tells : Tells layout memory (said state made)

-- no memory stands for two pairs of a state and a list of made slots
abbrev pub OnePair : Type 0
OnePair = (layout : Layout) (memory : List ℕ) (state other : State) (made others : List ℕ) → 0 < layout.threads → StandsFor layout memory state made → StandsFor layout memory other others → (made ≡ others) × (state ≡ other)
