-- Facts on options that the library lacks: what a choice that is there says.
use Rattle.std.proofs.Common.{◌≡◌, Bool, true, false, cond, ◌⊎◌, inl, inr, Option, Some, None, refl}

-- a choice of two options that is there is the first where the test is true, and the second where it is false
pub if_some : {A : Type 0} (b : Bool) (x y : Option A) (z : A) → cond b x y ≡ Some z → ((b ≡ true) × (x ≡ Some z)) ⊎ ((b ≡ false) × (y ≡ Some z))
if_some true x y z e = inl (refl, e)
if_some false x y z e = inr (refl, e)

-- an option behind a test that is there says that the test is true
pub then_some : {A : Type 0} (b : Bool) (x : Option A) (z : A) → cond b x None ≡ Some z → (b ≡ true) × (x ≡ Some z)
then_some true x z e = (refl, e)
then_some false x z e = absurd cc
