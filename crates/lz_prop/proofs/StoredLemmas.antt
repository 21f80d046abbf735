-- A clause whose literals were added is kept.
use Rattle.std.proofs.Common.{◌≡◌, ℕ, ◌+◌, ◌<◌, ◌≤◌, List, [], ◌∷◌, ◌++◌, length, ◌∙◌, ap, arith}
use Rattle.std.proofs.lemmas.List.{length-append, take_all}
use Rattle.lz_cnf.specs.declared.clause.Lit.{Lit}
use Rattle.lz_prop.specs.declared.store.Store.{Store}
use Rattle.lz_prop.specs.Parts.{cut_at}
use Rattle.lz_prop.specs.Stored.{IsStore, IsFilled, clause_limit, clauses_of}
use Rattle.lz_prop.proofs.StoreLemmas.{cut_more, are_cut_more}

-- all literals were added, and the bound was
pub record IsEnded (old now u : Store) (clause : List Lit) (count end : ℕ) : Type 0 where
  pub filled : IsFilled old now clause count
  pub all : length clause ≤ count
  pub literals : u.literals ≡ now.literals
  pub bounds : u.bounds.items ≡ now.bounds.items ++ end ∷ []
  pub end_is : end ≡ length now.literals.items
  pub few : length old.bounds.items < clause_limit

literals_are : (old now u : Store) (clause : List Lit) (count end : ℕ) → IsEnded old now u clause count end → u.literals.items ≡ old.literals.items ++ clause
literals_are old now u clause count end is =
    ap (λ v. v.items) is.literals ∙ is.filled.literals ∙ ap (λ (xs : List Lit). old.literals.items ++ xs) (take_all count clause is.all)

bounds_are : (old now u : Store) (clause : List Lit) (count end : ℕ) → IsEnded old now u clause count end → u.bounds.items ≡ old.bounds.items ++ end ∷ []
bounds_are old now u clause count end is = is.bounds ∙ ap (λ v. v.items ++ end ∷ []) is.filled.bounds

end_at : (old now u : Store) (clause : List Lit) (count end : ℕ) → IsEnded old now u clause count end → end ≡ length old.literals.items + length clause
end_at old now u clause count end is =
    is.end_is ∙ ap length (is.filled.literals ∙ ap (λ (xs : List Lit). old.literals.items ++ xs) (take_all count clause is.all)) ∙ length-append old.literals.items clause

pub ended_is_store : (old now u : Store) (clause : List Lit) (count end : ℕ) → IsStore old → IsEnded old now u clause count end → IsStore u
ended_is_store old now u clause count end store is =
    let few = is.few in
    let bounds = bounds_are old now u clause count end is in
    let long : length u.bounds.items ≡ length old.bounds.items + 1 = ap length bounds ∙ length-append old.bounds.items (end ∷ []) in
    record {
      cut = rw (literals_are old now u clause count end is, bounds) (are_cut_more old.literals.items clause old.bounds.items end store.cut (end_at old now u clause count end is));
      few = omega arith;
    }

pub ended_clauses : (old now u : Store) (clause : List Lit) (count end : ℕ) → IsStore old → IsEnded old now u clause count end → clauses_of u ≡ clauses_of old ++ clause ∷ []
ended_clauses old now u clause count end store is =
    ap (λ (xs : List Lit). cut_at xs u.bounds.items) (literals_are old now u clause count end is)
    ∙ ap (cut_at (old.literals.items ++ clause)) (bounds_are old now u clause count end is)
    ∙ cut_more old.literals.items clause old.bounds.items end store.cut (end_at old now u clause count end is)
