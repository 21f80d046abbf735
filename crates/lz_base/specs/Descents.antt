-- Trusted: descents, where a list of thread numbers goes down; a round-robin schedule begins a round at each.
use Rattle.std.specs.Prelude.{ℕ, ◌+◌, List, [], ◌∷◌, nat_lt, if◌then◌else◌}

-- how many neighbours there are of which the second is smaller
abbrev pub descents : List ℕ → ℕ
descents [] = 0
descents (thread ∷ []) = 0
descents (thread ∷ next ∷ rest) = (if nat_lt next thread then 1 else 0) + descents (next ∷ rest)
