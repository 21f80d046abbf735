-- Which clauses are open.
use Rattle.std.proofs.Common.{◌≡◌, ◌⊎◌, ⊎_elim, List, [], ◌∷◌, sym, ◌∙◌, subst}
use Rattle.std.specs.List.{Contains}
use Rattle.std.proofs.lemmas.List.Elements.{All-contains}
use Rattle.lz_cnf.specs.declared.clause.Lit.{Lit}
use Rattle.lz_cnf.specs.Models.{negated}
use Rattle.lz_cnf.specs.Partial.{IsFalseLit, IsConsistent, IsOpen}

-- ---- open clauses

pub not_both : (true_ : List Lit) (lit : Lit) → IsConsistent true_ → Contains true_ lit → IsFalseLit true_ lit → ⊥
not_both true_ lit consistent p q = All-contains (λ l. Contains true_ (negated l) → ⊥) true_ lit consistent p q

pub satisfied_is_open : (true_ clause : List Lit) (lit : Lit) → IsConsistent true_ → Contains clause lit → Contains true_ lit → IsOpen true_ clause
satisfied_is_open true_ clause lit consistent has is_true =
    record {
      not_unit = λ unit. ⊎_elim
          (λ same. unit.2.0 (subst (Contains true_) same is_true))
          (λ is_false. not_both true_ lit consistent is_true is_false)
          (All-contains (λ l. (l ≡ unit.0) ⊎ IsFalseLit true_ l) clause lit unit.3 has);
      not_false = λ all. not_both true_ lit consistent is_true (All-contains (IsFalseLit true_) clause lit all has);
    }

pub two_are_open : (true_ clause : List Lit) (a b : Lit) → (a ≡ b → ⊥) → Contains clause a → Contains clause b → (IsFalseLit true_ a → ⊥) → (IsFalseLit true_ b → ⊥) → IsOpen true_ clause
two_are_open true_ clause a b differ has_a has_b a_left b_left =
    record {
      not_unit = λ unit. ⊎_elim
          (λ same_a. ⊎_elim (λ same_b. differ (same_a ∙ sym same_b)) b_left (All-contains (λ l. (l ≡ unit.0) ⊎ IsFalseLit true_ l) clause b unit.3 has_b))
          a_left
          (All-contains (λ l. (l ≡ unit.0) ⊎ IsFalseLit true_ l) clause a unit.3 has_a);
      not_false = λ all. a_left (All-contains (IsFalseLit true_) clause a all has_a);
    }
