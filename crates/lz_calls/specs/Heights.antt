-- Inner: heights of bodies as the code counts them, up to the greatest number, and the ranks by which calls that come back count nothing.
use Rattle.std.specs.Prelude.{ℕ, zero, suc, ◌≡◌, ◌+◌, ◌-◌, ◌<◌, ◌^◌, ◌==◌, min, max, List, [], ◌∷◌, length, slice_index, slice_get, Option, Some, None, if◌then◌else◌}
use Rattle.lz_tree.specs.ScopedTrees.{ScopedDefinition}
use Rattle.lz_calls.specs.Calls.{height_of}

-- a height, or the greatest number of 32 bits where it is greater
abbrev pub capped : ℕ → ℕ
capped n = min n (2 ^ 32 - 1)

-- What a call of a function counts for one of rank `own`: nothing where both have one rank.
abbrev pub counts_at : List ℕ → ℕ → (ℕ → ℕ) → ℕ → ℕ
counts_at ranks own heights g = if slice_index ranks g == own then 0 else heights g

-- the height of a function's body, from those of the functions that it calls, and 0 for no function
abbrev pub body_height : List ℕ → (ℕ → ℕ) → ℕ → Option ScopedDefinition → ℕ
body_height ranks heights f None = 0
body_height ranks heights f (Some d) = height_of (counts_at ranks (slice_index ranks f) heights) d.body

-- heights where calls nest so deep
abbrev pub height_through : List ScopedDefinition → List ℕ → ℕ → ℕ → ℕ
height_through functions ranks zero f = 0
height_through functions ranks (suc depth) f = body_height ranks (height_through functions ranks depth) f (slice_get functions f)

-- the greatest of some numbers
abbrev pub greatest : List ℕ → ℕ
greatest [] = 0
greatest (x ∷ rest) = max x (greatest rest)

-- the height of each body by itself
abbrev pub height_at_rank : List ScopedDefinition → List ℕ → ℕ → ℕ
height_at_rank functions ranks f = height_through functions ranks (suc (greatest ranks)) f
