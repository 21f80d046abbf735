-- The search: its measure, and the model that it ends with.
use Rattle.std.proofs.Common.{◌≡◌, ℕ, suc, ◌+◌, ◌-◌, ◌*◌, ◌<◌, ◌⊎◌, inl, inr, ⊎_elim, Bool, true, false, cond, not, eqb, List, [], ◌∷◌, get_or, Some, slice_get, refl, sym, ◌∙◌, ap, subst, arith}
use Rattle.std.specs.List.{All, Any, Contains}
use Rattle.std.proofs.lemmas.Bool.{eqb-true}
use Rattle.lz_cnf.specs.declared.clause.Lit.{Lit}
use Rattle.lz_cnf.specs.Models.{variable_of, is_negated, IsTrueLit}
use Rattle.lz_cnf.specs.Partial.{IsFalseLit, IsQuiet}
use Rattle.lz_cnf.proofs.LitLemmas.{same_variable}
use Rattle.lz_prop.specs.Trail.{Entry, TrailState, IsTrail, literals, entry_of, value_in}
use Rattle.lz_prop.proofs.LitLemmas.{Contains-map}
use Rattle.lz_analyze.proofs.LevelLemmas.{each_or_some}

-- a conflict spends one of the budget, whatever going back unsets; `b` conflicts are left after it
pub conflict_smaller : (b v old new : ℕ) → b * (v + 1) + (v - new) < (b + 1) * (v + 1) + (v - old)
conflict_smaller b v old new = omega arith

-- the entry that a variable has
entry_is_at : (x : Entry) (xs : List Entry) (v : ℕ) (e : Entry) (b : Bool) → eqb (variable_of x.lit) v ≡ b → cond b (Some x) (entry_of xs v) ≡ Some e
    → (entry_of xs v ≡ Some e → Contains xs e × (variable_of e.lit ≡ v)) → Contains (x ∷ xs) e × (variable_of e.lit ≡ v)
entry_is_at x xs v e true same h rest =
    let one : x ≡ e = cc in ((0, omega arith, one), sym (ap (λ (y : Entry). variable_of y.lit) one) ∙ eqb-true (variable_of x.lit) v same)
entry_is_at x xs v e false same h rest = let r = rest h in ((suc r.0.0, omega (arith, r.0.1), r.0.2), r.1)

entry_is : (set : List Entry) (v : ℕ) (e : Entry) → entry_of set v ≡ Some e → Contains set e × (variable_of e.lit ≡ v)
entry_is [] v e h = absurd cc
entry_is (x ∷ xs) v e h = entry_is_at x xs v e (eqb (variable_of x.lit) v) refl h (entry_is xs v e)

-- where nothing is unit or false and all variables have values, the values give each clause a true literal
pub quiet_is_model : (s : TrailState) (values : List Bool) → IsTrail s → IsQuiet (literals s.set) s.clauses
    → ((v : ℕ) → v < s.variables → (e : Entry) × (entry_of s.set v ≡ Some e) × (slice_get values v ≡ value_in (Some e)))
    → All (λ clause. Any (IsTrueLit values) clause) s.clauses
quiet_is_model s values trail quiet told k d lt =
    let clause = get_or s.clauses k d in
    let each : All (λ l. IsFalseLit (literals s.set) l ⊎ IsTrueLit values l) clause = λ j e l.
    let lit = get_or clause j e in
    let has = told (variable_of lit) (trail.formula k d lt j e l) in
    let is = entry_is s.set (variable_of lit) has.0 has.1 in
    ⊎_elim
    (λ same. inr (has.2 ∙ ap (λ (x : Lit). Some (not (is_negated x))) same))
    (λ other. inl (subst (Contains (literals s.set)) other (Contains-map (λ (x : Entry). x.lit) s.set has.0 is.0)))
    (same_variable has.0.lit lit is.1) in
    elim (each_or_some (IsFalseLit (literals s.set)) (IsTrueLit values) clause each) [
      | inl all ↦ absurd ((quiet k d lt).not_false all)
      | inr (x, (j, l, at), is_true) ↦ (j, x, l, at, is_true)
    ]
