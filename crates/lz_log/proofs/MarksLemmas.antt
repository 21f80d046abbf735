-- Stamps and the literals that they mark.
use Rattle.std.proofs.Common.{◌≡◌, ◌↔◌, ℕ, zero, ◌+◌, ◌<◌, ◌≤◌, ◌⊎◌, inl, inr, ⊎_elim, List, [], ◌∷◌, length, get_or, set, sym, ◌∙◌, ap, subst, arith, length-set}
use Rattle.std.proofs.lemmas.List.{get_or-set_same, get_or-set_other}
use Rattle.std.specs.List.{All, Contains}
use Rattle.std.proofs.lemmas.Bool.{cases_order}
use Rattle.lz_base.proofs.ListLemmas.{rest_contained, contained_cases}
use Rattle.lz_cnf.specs.declared.clause.Lit.{Lit}
use Rattle.lz_cnf.proofs.LitLemmas.{same_lit}

-- a later round has no stamp
pub round_is_fresh : (stamps : List ℕ) (round : ℕ) → All (λ stamp. stamp ≤ round) stamps → (lit : Lit) → lit.0 < length stamps → (get_or stamps lit.0 0 ≡ round + 1) ↔ Contains [] lit
round_is_fresh stamps round past lit lt =
    (λ same. let bound = past lit.0 0 lt in absurd (omega arith), λ within. absurd (omega (arith, within.1)))

-- stamps of a round are stamps of the next
pub past_next : (stamps : List ℕ) (round : ℕ) → All (λ stamp. stamp ≤ round) stamps → All (λ stamp. stamp ≤ round + 1) stamps
past_next stamps round past k d lt = let bound = past k d lt in omega arith

-- what is in a list with one more in front
pub here_in_front : (false_ : List Lit) (lit other : Lit) → other ≡ lit → Contains (lit ∷ false_) other
here_in_front false_ lit other e = (zero, omega arith, sym e)

-- the stamp of a literal set to the round marks it beside those that were marked
pub marked_more : (stamps : List ℕ) (round : ℕ) (false_ : List Lit) (lit : Lit) → lit.0 < length stamps
    → ((other : Lit) → other.0 < length stamps → (get_or stamps other.0 0 ≡ round) ↔ Contains false_ other)
    → (other : Lit) → other.0 < length (set stamps lit.0 round) → (get_or (set stamps lit.0 round) other.0 0 ≡ round) ↔ Contains (lit ∷ false_) other
marked_more stamps round false_ lit within told other lt =
    let before : other.0 < length stamps = subst (λ (n : ℕ). other.0 < n) (length-set stamps lit.0 round) lt in
    elim (cases_order other.0 lit.0) [
      | inl same ↦ (
        λ h. here_in_front false_ lit other (same_lit other lit same),
        λ h. subst (λ (n : ℕ). get_or (set stamps lit.0 round) n 0 ≡ round) (sym same) (get_or-set_same stamps lit.0 round 0 within),
      )
      | inr order ↦ apart stamps round false_ lit other told before (⊎_elim (λ (below : other.0 < lit.0). λ (e : other.0 ≡ lit.0). omega arith) (λ (above : lit.0 < other.0). λ (e : other.0 ≡ lit.0). omega arith) order)
    ]
  where
    apart : (stamps : List ℕ) (round : ℕ) (false_ : List Lit) (lit other : Lit)
        → ((other : Lit) → other.0 < length stamps → (get_or stamps other.0 0 ≡ round) ↔ Contains false_ other)
        → other.0 < length stamps → (other.0 ≡ lit.0 → ⊥)
        → (get_or (set stamps lit.0 round) other.0 0 ≡ round) ↔ Contains (lit ∷ false_) other
    apart stamps round false_ lit other told before differ =
        let kept = get_or-set_other stamps lit.0 other.0 round 0 differ in (
          λ h. rest_contained lit other false_ ((told other before).0 (sym kept ∙ h)),
          λ h. kept ∙ (told other before).1 (⊎_elim (λ (e : other ≡ lit). absurd (differ (ap (λ (l : Lit). l.0) e))) (λ (w : Contains false_ other). w) (contained_cases lit other false_ h)),
        )
