-- Facts on truth values that the library lacks: a value that settles a conjunction or a disjunction.
use Rattle.std.proofs.Common.{◌≡◌, Bool, true, false, not, ◌&&◌, ◌||◌, refl}

-- a first part that does not hold settles a conjunction
pub first_fails : (a b : Bool) → not a ≡ true → (a && b) ≡ false
first_fails false b is = refl
first_fails true b is = absurd cc

-- a first part that holds leaves it to the second
pub first_holds : (a b : Bool) → not a ≡ false → (a && b) ≡ b
first_holds true b is = refl
first_holds false b is = absurd cc

-- a first part that holds settles a disjunction
pub first_suffices : (a b : Bool) → a ≡ true → (a || b) ≡ true
first_suffices true b is = refl
first_suffices false b is = absurd cc
