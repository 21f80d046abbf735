-- Trusted: numbers that a call of a function takes from the function's body, and numbers that stop at the greatest of 64 bits.
use Rattle.std.specs.Prelude.{ℕ, zero, suc, ◌-◌, ◌^◌, min}

-- What `step` makes of a function from the numbers of the functions that it calls, where calls nest at most
-- `depth` deep; a call that would be nested deeper counts 0. In a program without recursion no call is nested
-- deeper than there are functions.
abbrev pub through_calls : ((ℕ → ℕ) → ℕ → ℕ) → ℕ → ℕ → ℕ
through_calls step zero f = 0
through_calls step (suc depth) f = step (through_calls step depth) f

-- a number, or the greatest of 64 bits where it is greater
abbrev pub saturated : ℕ → ℕ
saturated n = min n (2 ^ 64 - 1)
