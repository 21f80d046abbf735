-- Hints one by one, and the steps of a log by their places.
use Rattle.std.proofs.Common.{◌≡◌, ℕ, zero, suc, ◌<◌, ◌⊎◌, ⊎_elim, ◌↔◌, List, [], ◌∷◌, ◌++◌, length, get_or, take, map, sym, ◌∙◌, ap, subst, arith}
use Rattle.std.specs.List.{All, Contains}
use Rattle.std.proofs.lemmas.List.{append-nil, append_assoc, map_push}
use Rattle.std.proofs.lemmas.List.Elements.{All-contains}
use Rattle.lz_cnf.specs.declared.clause.Lit.{Lit}
use Rattle.lz_cnf.specs.declared.clause.Cnf.{Cnf}
use Rattle.lz_cnf.specs.Models.{negated}
use Rattle.lz_cnf.specs.Partial.{IsNamed}
use Rattle.lz_log.specs.declared.log.LogStep.{LogStep}
use Rattle.lz_log.specs.Refutation.{LeadsToFalse, AreByHints, IsByHints, Refutes, known_clauses}

-- what holds of each clause holds of the named one
pub named_has : (P : List Lit → Type 0) (known : List (List Lit)) (hint : ℕ) (clause : List Lit) → All P known → IsNamed known hint clause → P clause
named_has P known zero clause all named = absurd named
named_has P [] (suc k) clause all named = absurd cc
named_has P (first ∷ rest) (suc zero) clause all named = let same : first ≡ clause = cc in subst P same (all 0 first (omega arith))
named_has P (first ∷ rest) (suc (suc k)) clause all named = named_has P rest (suc k) clause (λ j d lt. all (suc j) d (omega arith)) named

-- a number names one clause
pub same_named : (known : List (List Lit)) (n : ℕ) (a b : List Lit) → IsNamed known n a → IsNamed known n b → a ≡ b
same_named known zero a b h k = absurd h
same_named known (suc n) a b h k = cc

-- a hint whose clause has exactly one literal that is not false: the check goes on with that literal true
pub unit_hint : (known : List (List Lit)) (false_ clause : List Lit) (hint next : ℕ) (hints : List ℕ) (unit : Lit) → IsNamed known hint clause → Contains clause unit → (Contains false_ unit → ⊥)
    → All (λ l. (l ≡ unit) ⊎ Contains false_ l) clause
    → LeadsToFalse known false_ (hint ∷ next ∷ hints) ↔ LeadsToFalse known (negated unit ∷ false_) (next ∷ hints)
unit_hint known false_ clause hint next hints unit named within open_ others = (
  λ leads.
      let same : leads.0 ≡ clause = same_named known hint leads.0 clause leads.2 named in
      let in_clause : Contains clause leads.1 = subst (λ (c : List Lit). Contains c leads.1) same leads.3 in
      let is_unit : leads.1 ≡ unit = ⊎_elim (λ e. e) (λ h. absurd (leads.4 h)) (All-contains (λ l. (l ≡ unit) ⊎ Contains false_ l) clause leads.1 others in_clause) in
      subst (λ (u : Lit). LeadsToFalse known (negated u ∷ false_) (next ∷ hints)) is_unit leads.6,
  λ rest. (clause, unit, named, within, open_, others, rest),
)

-- a hint whose clause has two literals that are not false leads nowhere
pub two_open : (known : List (List Lit)) (false_ clause : List Lit) (hint next : ℕ) (hints : List ℕ) (a b : Lit) → IsNamed known hint clause → Contains clause a → Contains clause b
    → (Contains false_ a → ⊥) → (Contains false_ b → ⊥) → (a ≡ b → ⊥) → LeadsToFalse known false_ (hint ∷ next ∷ hints) → ⊥
two_open known false_ clause hint next hints a b named has_a has_b open_a open_b differ leads =
    let same : leads.0 ≡ clause = same_named known hint leads.0 clause leads.2 named in
    let each = λ (l : Lit) (h : Contains clause l). All-contains (λ l. (l ≡ leads.1) ⊎ Contains false_ l) leads.0 l leads.5 (subst (λ (c : List Lit). Contains c l) (sym same) h) in
    ⊎_elim (λ e. ⊎_elim (λ f. differ (e ∙ sym f)) (λ h. open_b h) (each b has_b)) (λ h. open_a h) (each a has_a)

-- a hint that is not the last leads nowhere where its clause is false
pub false_hint : (known : List (List Lit)) (false_ clause : List Lit) (hint next : ℕ) (hints : List ℕ) → IsNamed known hint clause → All (Contains false_) clause → LeadsToFalse known false_ (hint ∷ next ∷ hints) → ⊥
false_hint known false_ clause hint next hints named all leads =
    let same : leads.0 ≡ clause = same_named known hint leads.0 clause leads.2 named in
    leads.4 (All-contains (Contains false_) clause leads.1 all (subst (λ (c : List Lit). Contains c leads.1) same leads.3))

-- a step of a log that is by its hints, by its place
pub by_hints_at : (formula : Cnf) (earlier steps : List LogStep) (i : ℕ) (d : LogStep) → AreByHints formula earlier steps → i < length steps → IsByHints formula (earlier ++ take i steps) (get_or steps i d)
by_hints_at formula earlier [] i d are lt = absurd (omega (arith, lt))
by_hints_at formula earlier (step ∷ steps) zero d are lt = subst (λ (e : List LogStep). IsByHints formula e step) (sym (append-nil earlier)) are.0
by_hints_at formula earlier (step ∷ steps) (suc i) d are lt =
    subst (λ (e : List LogStep). IsByHints formula e (get_or steps i d)) (append_assoc earlier (step ∷ []) (take i steps))
    (by_hints_at formula (earlier ++ step ∷ []) steps i d are.1 (omega arith))

-- a log with one step more that is by its hints
pub by_hints_push : (formula : Cnf) (earlier steps : List LogStep) (step : LogStep) → AreByHints formula earlier steps → IsByHints formula (earlier ++ steps) step → AreByHints formula earlier (steps ++ step ∷ [])
by_hints_push formula earlier [] step are own = (subst (λ (e : List LogStep). IsByHints formula e step) (append-nil earlier) own, tt)
by_hints_push formula earlier (first ∷ steps) step are own = (
  are.0,
  by_hints_push formula (earlier ++ first ∷ []) steps step are.1
      (subst (λ (e : List LogStep). IsByHints formula e step) (sym (append_assoc earlier (first ∷ []) steps)) own),
)

-- where a step is bad, the log does not refute
pub bad_refutes_not : (formula : Cnf) (log : List LogStep) (i : ℕ) (d : LogStep) → i < length log → (IsByHints formula (take i log) (get_or log i d) → ⊥) → Refutes formula log → ⊥
bad_refutes_not formula log i d lt bad refutes = bad (by_hints_at formula [] log i d refutes.steps lt)

-- the clauses known behind one step more
pub known_push : (formula : Cnf) (earlier : List LogStep) (step : LogStep) → known_clauses formula (earlier ++ step ∷ []) ≡ known_clauses formula earlier ++ step.clause ∷ []
known_push formula earlier step =
    ap (λ (more : List (List Lit)). formula.clauses ++ more) (map_push (λ (s : LogStep). s.clause) earlier step)
    ∙ sym (append_assoc formula.clauses (map (λ (s : LogStep). s.clause) earlier) (step.clause ∷ []))
