-- Trusted: threads by slots and by numbers. The list of made slots rises; thread 0 is slot 0, and thread k from 1 on
-- is the k-th slot of the list.
use Rattle.std.specs.Prelude.{ℕ, zero, suc, ◌<◌, ◌==◌, List, [], ◌∷◌, slice_index, ⊤, if◌then◌else◌}

-- the place of a slot in a list, or the list's length where it is not there
unfoldable pub place_in : List ℕ → ℕ → ℕ
place_in [] slot = 0
place_in (first ∷ rest) slot = if first == slot then 0 else suc (place_in rest slot)

-- The thread that a slot stands for. A slot that is not made stands for the next thread, which is not made.
abbrev pub thread_of : List ℕ → ℕ → ℕ
thread_of made zero = 0
thread_of made (suc slot) = suc (place_in made (suc slot))

-- the slot of a thread that is made
abbrev pub slot_of : List ℕ → ℕ → ℕ
slot_of made zero = 0
slot_of made (suc thread) = slice_index made thread

-- each is above those before it and above low, and below top
abbrev pub RisesTo : ℕ → ℕ → List ℕ → Type 0
RisesTo top low [] = ⊤
RisesTo top low (first ∷ rest) = (low < first) × (first < top) × RisesTo top first rest
