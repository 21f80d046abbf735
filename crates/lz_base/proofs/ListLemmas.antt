-- Facts on lists that the library lacks: their first items and parts, searches for an item that meets a fact, and for one that does not.
use Rattle.std.proofs.Common.{◌≡◌, ℕ, zero, suc, ◌+◌, ◌<◌, ◌≤◌, ◌⊎◌, inl, inr, List, [], ◌∷◌, ◌++◌, length, get_or, drop, subst, sym, refl, ap, ◌∙◌, arith, below_more}
use Rattle.std.specs.List.{All, Any, Contains}
use Rattle.std.proofs.lemmas.List.{get_or_default, drop_more, take_at}
use Rattle.std.proofs.lemmas.List.Elements.{Contains-append_left, Contains-append_right}
use Rattle.lz_base.specs.Lending.{written_over}

-- equal lists have one first item and one rest
pub cons_parts : {A : Type 0} {x y : A} {xs ys : List A} → x ∷ xs ≡ y ∷ ys → (x ≡ y) × (xs ≡ ys)
cons_parts {A} {x} e = (ap (λ (l : List A). get_or l 0 x) e, ap (λ (l : List A). drop 1 l) e)

-- two lists that are empty together: the first is
pub nil_front : {A : Type 0} (xs ys : List A) → xs ++ ys ≡ [] → xs ≡ []
nil_front [] ys e = refl
nil_front (x ∷ xs) ys e = absurd cc

-- and so is the second
pub nil_back : {A : Type 0} (xs ys : List A) → xs ++ ys ≡ [] → ys ≡ []
nil_back [] ys e = e
nil_back (x ∷ xs) ys e = absurd cc

-- the item at a place, and what is behind it
pub drop_item : {A : Type 0} (xs : List A) (i : ℕ) (x : A) → i < length xs → x ≡ get_or xs i x → drop i xs ≡ x ∷ drop (i + 1) xs
drop_item {A} xs i x below is = drop_more xs i x below ∙ ap (λ (y : A). y ∷ drop (i + 1) xs) (sym is)

-- a list that is written over by as many items as it has is these items
pub written_over_is : {A : Type 0} (old items : List A) → length items ≡ length old → written_over old items ≡ items
written_over_is old items e = take_at items (drop (length items) old) (length old) e

-- no item before this place meets the fact
pub record NoneBefore {A : Type 0} (P : A → Type 0) (xs : List A) (i : ℕ) : Type 0 where
  pub none : (k : ℕ) → k < i → (x : A) → get_or xs k x ≡ x → P x → ⊥

-- each item before this place meets the fact
pub record AllBefore {A : Type 0} (P : A → Type 0) (xs : List A) (i : ℕ) : Type 0 where
  pub all : (k : ℕ) → k < i → (x : A) → P (get_or xs k x)

-- no item is before the first place
pub none_first : {A : Type 0} (P : A → Type 0) (xs : List A) → NoneBefore P xs 0
none_first P xs = record { none = λ k lt x e h. omega arith }

-- one more item that does not meet the fact
pub none_more : {A : Type 0} (P : A → Type 0) (xs : List A) (i : ℕ) (d : A) → NoneBefore P xs i → i < length xs → (P (get_or xs i d) → ⊥) → NoneBefore P xs (i + 1)
none_more {A} P xs i d before lt here = record {
  none = below_more (λ k. (x : A) → get_or xs k x ≡ x → P x → ⊥) i before.none (λ x e h. here (subst P (sym e ∙ get_or_default xs i x d lt) h));
}

-- an item that meets the fact would be before the end
pub none_all : {A : Type 0} (P : A → Type 0) (xs : List A) (i : ℕ) → NoneBefore P xs i → length xs ≤ i → Any P xs → ⊥
none_all P xs i before le some = before.none some.0 (let lt = some.2 in omega arith) some.1 some.3 some.4

-- no item is before the first place
pub all_first : {A : Type 0} (P : A → Type 0) (xs : List A) → AllBefore P xs 0
all_first P xs = record { all = λ k lt x. absurd (omega arith) }

-- one more item that meets the fact
pub all_more : {A : Type 0} (P : A → Type 0) (xs : List A) (i : ℕ) (d : A) → AllBefore P xs i → i < length xs → P (get_or xs i d) → AllBefore P xs (i + 1)
all_more {A} P xs i d before lt here = record {
  all = below_more (λ k. (x : A) → P (get_or xs k x)) i before.all (λ x. subst P (get_or_default xs i d x lt) here);
}

-- every item is before the end
pub all_all : {A : Type 0} (P : A → Type 0) (xs : List A) (i : ℕ) → AllBefore P xs i → length xs ≤ i → All P xs
all_all P xs i before le k x lt = before.all k (omega arith) x

-- the first item is contained
pub head_contained : {A : Type 0} (x : A) (rest : List A) → Contains (x ∷ rest) x
head_contained x rest = (0, omega arith, refl)

-- and so is each item of the rest
pub rest_contained : {A : Type 0} (x y : A) (rest : List A) → Contains rest y → Contains (x ∷ rest) y
rest_contained x y rest h = (suc h.0, (let lt = h.1 in omega arith), h.2)

-- an item is the first, or the rest contains it
pub contained_cases : {A : Type 0} (x y : A) (rest : List A) → Contains (x ∷ rest) y → (y ≡ x) ⊎ Contains rest y
contained_cases x y rest (zero, lt, at) = inl (sym at)
contained_cases x y rest (suc k, lt, at) = inr (k, omega (arith, lt), at)

-- an empty list contains nothing
pub none_contained : {A : Type 0} (x : A) → Contains [] x → ⊥
none_contained x (k, below, at) = absurd (omega (arith, below))

-- as far as h sees of them, two functions agree at the numbers of a list
pub record Agree (h f g : ℕ → ℕ) (xs : List ℕ) : Type 0 where
  pub at : (x : ℕ) → Contains xs x → h (f x) ≡ h (g x)

-- and so at those of its front
pub agree_left : {h f g : ℕ → ℕ} (xs ys : List ℕ) → Agree h f g (xs ++ ys) → Agree h f g xs
agree_left xs ys a = record { at = λ x here. a.at x (Contains-append_left xs ys x here) }

-- and at those of what is behind
pub agree_right : {h f g : ℕ → ℕ} (xs ys : List ℕ) → Agree h f g (xs ++ ys) → Agree h f g ys
agree_right xs ys a = record { at = λ x here. a.at x (Contains-append_right xs ys x here) }
