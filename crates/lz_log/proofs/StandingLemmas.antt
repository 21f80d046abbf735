-- How clauses stand with one more literal.
use Rattle.std.proofs.Common.{◌≡◌, ℕ, ◌+◌, ◌<◌, length, get_or, take, subst, ◌⊎◌, inl, inr, List, [], ◌∷◌, ◌++◌, refl, sym}
use Rattle.std.specs.List.{All, Contains}
use Rattle.std.proofs.lemmas.List.{take_more}
use Rattle.std.proofs.lemmas.List.Elements.{All-push, Contains-push, Contains-append_left}
use Rattle.lz_cnf.specs.declared.clause.Lit.{Lit}
use Rattle.lz_log.specs.declared.marks.Standing.{Standing}
use Rattle.lz_log.specs.declared.marks.Standing.TheVariants.{AllFalse, OneLeft, TwoLeft}
use Rattle.lz_log.specs.Marks.{Stands}

-- a false literal more changes nothing
pub stands_with_false : (false_ clause : List Lit) (standing : Standing) (lit : Lit) → Stands false_ clause standing → Contains false_ lit → Stands false_ (clause ++ lit ∷ []) standing
stands_with_false false_ clause AllFalse lit stands within = All-push (Contains false_) clause lit stands within
stands_with_false false_ clause (OneLeft unit) lit stands within = (
  Contains-append_left clause (lit ∷ []) unit stands.0,
  stands.1,
  All-push (λ l. (l ≡ unit) ⊎ Contains false_ l) clause lit stands.2 (inr within),
)
stands_with_false false_ clause TwoLeft lit stands within =
    (stands.0, stands.1, Contains-append_left clause (lit ∷ []) stands.0 stands.2, Contains-append_left clause (lit ∷ []) stands.1 stands.3, stands.4, stands.5, stands.6)

-- the first literal that is not false
pub first_left : (false_ clause : List Lit) (lit : Lit) → All (Contains false_) clause → (Contains false_ lit → ⊥) → Stands false_ (clause ++ lit ∷ []) (OneLeft lit)
first_left false_ clause lit all left = (
  Contains-push clause lit,
  left,
  All-push (λ l. (l ≡ lit) ⊎ Contains false_ l) clause lit (λ k d lt. inr (all k d lt)) (inl refl),
)

-- the same literal once more
pub same_left : (false_ clause : List Lit) (unit lit : Lit) → Stands false_ clause (OneLeft unit) → unit ≡ lit → Stands false_ (clause ++ lit ∷ []) (OneLeft unit)
same_left false_ clause unit lit stands same = (
  Contains-append_left clause (lit ∷ []) unit stands.0,
  stands.1,
  All-push (λ l. (l ≡ unit) ⊎ Contains false_ l) clause lit stands.2 (inl (sym same)),
)

-- another literal that is not false
pub second_left : (false_ clause : List Lit) (unit lit : Lit) → Stands false_ clause (OneLeft unit) → (unit ≡ lit → ⊥) → (Contains false_ lit → ⊥) → Stands false_ (clause ++ lit ∷ []) TwoLeft
second_left false_ clause unit lit stands differ left =
    (unit, lit, Contains-append_left clause (lit ∷ []) unit stands.0, Contains-push clause lit, stands.1, left, differ)

-- two that are left stay so
pub two_stay : (false_ clause : List Lit) (lit : Lit) → Stands false_ clause TwoLeft → Stands false_ (clause ++ lit ∷ []) TwoLeft
two_stay false_ clause lit stands =
    (stands.0, stands.1, Contains-append_left clause (lit ∷ []) stands.0 stands.2, Contains-append_left clause (lit ∷ []) stands.1 stands.3, stands.4, stands.5, stands.6)

-- a clause stands as its front with the next literal
pub stands_turn : (false_ clause : List Lit) (standing : Standing) (i : ℕ) (d : Lit) → i < length clause → Stands false_ (take i clause ++ get_or clause i d ∷ []) standing → Stands false_ (take (i + 1) clause) standing
stands_turn false_ clause standing i d lt stands = subst (λ (front : List Lit). Stands false_ front standing) (sym (take_more clause i d lt)) stands
