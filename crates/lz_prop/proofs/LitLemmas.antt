-- Membership after a filter and a map, which the library lacks.
use Rattle.std.proofs.Common.{◌≡◌, zero, suc, Bool, true, false, cond, List, [], ◌∷◌, map, refl, ◌∙◌, ap, arith}
use Rattle.std.specs.List.{Contains, filter}
use Rattle.std.proofs.lemmas.List.Elements.{All-contains, All-filter, All-contains_itself, filter_passes}

-- the image of a member is a member of the images
pub Contains-map : {X Y : Type 0} (f : X → Y) (xs : List X) (x : X) → Contains xs x → Contains (map f xs) (f x)
Contains-map f [] x h = absurd (omega (arith, h.1))
Contains-map f (y ∷ ys) x (zero, lt, e) = (0, omega arith, ap f e)
Contains-map f (y ∷ ys) x (suc k, lt, e) =
    let rest = Contains-map f ys x (k, omega arith, e) in
    (suc rest.0, omega (arith, rest.1), rest.2)

-- a member of the images is the image of a member
pub Contains-from_map : {X Y : Type 0} (f : X → Y) (xs : List X) (y : Y) → Contains (map f xs) y → (x : X) × Contains xs x × (f x ≡ y)
Contains-from_map f [] y h = absurd (omega (arith, h.1))
Contains-from_map f (x ∷ xs) y (zero, lt, e) = (x, (0, omega arith, refl), e)
Contains-from_map f (x ∷ xs) y (suc k, lt, e) =
    let rest = Contains-from_map f xs y (k, omega arith, e) in
    (rest.0, (suc rest.1.0, omega (arith, rest.1.1), rest.1.2), rest.2)

-- a member that passes is a member of those that pass
pub Contains-filter : {X : Type 0} (p : X → Bool) (xs : List X) (x : X) → Contains xs x → p x ≡ true → Contains (filter p xs) x
Contains-filter p [] x h t = absurd (omega (arith, h.1))
Contains-filter p (y ∷ ys) x (zero, lt, e) t =
    let passes : p y ≡ true = ap p e ∙ t in
    rw passes (0, omega arith, e)
Contains-filter p (y ∷ ys) x (suc k, lt, e) t =
    let rest = Contains-filter p ys x (k, omega arith, e) t in
    elim (p y) as (λ b. Contains (cond b (y ∷ filter p ys) (filter p ys)) x)
    [ true ↦ (suc rest.0, omega (arith, rest.1), rest.2) | false ↦ rest ]

-- a member of those that pass is a member, and passes
pub Contains-from_filter : {X : Type 0} (p : X → Bool) (xs : List X) (x : X) → Contains (filter p xs) x → Contains xs x × (p x ≡ true)
Contains-from_filter p xs x h = (
  All-contains (Contains xs) (filter p xs) x (All-filter p (Contains xs) xs (All-contains_itself xs)) h,
  All-contains (λ y. p y ≡ true) (filter p xs) x (filter_passes p xs) h,
)
