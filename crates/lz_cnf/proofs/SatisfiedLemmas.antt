-- A formula's clauses under the values that were lent.
use Rattle.std.proofs.Common.{◌≡◌, ℕ, ◌<◌, ◌≤◌, List, Bool, length, get_or, subst, sym, ap, ◌∙◌}
use Rattle.std.specs.List.{All, Any}
use Rattle.lz_base.proofs.ListLemmas.{AllBefore, all_all}
use Rattle.lz_cnf.specs.declared.clause.Lit.{Lit}
use Rattle.lz_cnf.specs.declared.clause.Cnf.{Cnf}
use Rattle.lz_cnf.specs.Models.{IsTrueLit, IsModel}

-- the values and the clauses that were lent
pub model_is : (formula : Cnf) (model values : List Bool) (clauses : List (List Lit)) (i : ℕ) → values ≡ model → clauses ≡ formula.clauses → length model ≡ formula.variables
    → AllBefore (λ (clause : List Lit). Any (IsTrueLit values) clause) clauses i → length clauses ≤ i → IsModel formula model
model_is formula model values clauses i lent lent_too whole before le = record {
  whole = whole;
  clauses = subst (λ (vs : List Bool). All (λ (clause : List Lit). Any (IsTrueLit vs) clause) formula.clauses) lent
      (subst (λ (cs : List (List Lit)). All (λ (clause : List Lit). Any (IsTrueLit values) clause) cs) lent_too
      (all_all (λ (clause : List Lit). Any (IsTrueLit values) clause) clauses i before le));
}

-- a clause without a true literal
pub no_model : (formula : Cnf) (model values : List Bool) (clauses : List (List Lit)) (i : ℕ) (clause own : List Lit) → values ≡ model → clauses ≡ formula.clauses → i < length clauses
    → own ≡ clause → clause ≡ get_or clauses i clause → (Any (IsTrueLit values) own → ⊥) → IsModel formula model → ⊥
no_model formula model values clauses i clause own lent lent_too lt same is none model_is =
    none (subst (λ (vs : List Bool). Any (IsTrueLit vs) own) (sym lent)
    (subst (λ (xs : List Lit). Any (IsTrueLit model) xs) (sym (same ∙ is ∙ ap (λ (cs : List (List Lit)). get_or cs i clause) lent_too))
    (model_is.clauses i clause (subst (λ (cs : List (List Lit)). i < length cs) lent_too lt))))
