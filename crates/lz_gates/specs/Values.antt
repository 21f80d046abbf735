-- Inner: models as lists of values, and as assignments.
use Rattle.std.specs.Prelude.{ℕ, zero, suc, Bool, false, List, [], ◌∷◌, slice_index_or}
use Rattle.lz_gates.specs.Circuits.{Assignment}

-- the assignment that gives each variable its value of the list, and false past its end
abbrev pub assigned : List Bool → Assignment
assigned values x = slice_index_or values x false

-- the values of the first n variables
abbrev pub listed : ℕ → Assignment → List Bool
listed zero a = []
listed (suc n) a = a 0 ∷ listed n (λ i. a (suc i))
