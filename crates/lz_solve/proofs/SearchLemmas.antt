-- What a turn of the search keeps, and what its ends promise.
use Rattle.std.proofs.Common.{◌≡◌, ◌≢◌, ℕ, zero, suc, ◌+◌, ◌-◌, ◌*◌, ◌<◌, ◌≤◌, inl, inr, ⊎_elim, Bool, true, false, cond, eqb, List, [], ◌∷◌, ◌++◌, length, get_or, take, map, Option, Some, None, slice_get, refl, sym, ◌∙◌, ap, subst, arith}
use Rattle.std.specs.List.{All, Any, Contains}
use Rattle.std.proofs.lemmas.Bool.{cases_lt, eq-eqb}
use Rattle.std.proofs.lemmas.List.{length-append, length-map, append-nil, get_or_append_left, get_or_push, take-append-le}
use Rattle.std.proofs.Math.Seq.{take-append_seam}
use Rattle.std.proofs.lemmas.List.Elements.{All-push, Contains-push}
use Rattle.lz_cnf.specs.declared.clause.Lit.{Lit}
use Rattle.lz_cnf.specs.declared.clause.Cnf.{Cnf}
use Rattle.lz_cnf.specs.Models.{variable_bound, variable_of, negated, IsModel, IsTrueLit}
use Rattle.lz_cnf.specs.Partial.{IsUnassigned, IsQuiet}
use Rattle.lz_cnf.proofs.LitLemmas.{variable_of-negated}
use Rattle.lz_log.specs.declared.log.LogStep.{LogStep}
use Rattle.lz_log.specs.Refutation.{FollowsBy, AreByHints, IsByHints, known_clauses}
use Rattle.lz_log.specs.Newness.{IsNewClause, IsNewStep}
use Rattle.lz_log.proofs.RefutationLemmas.{by_hints_push, known_push}
use Rattle.lz_analyze.proofs.LeadsLemmas.{new_not_propagated}
use Rattle.lz_prop.specs.Trail.{Entry, TrailState, IsTrail, Extends, literals, entry_of, value_in, decided, opening}
use Rattle.lz_prop.proofs.LitLemmas.{Contains-from_map}
use Rattle.lz_prop.proofs.EntryLemmas.{entries_fit}
use Rattle.lz_solve.specs.Solving.{AreNewSteps, IsSpent, IsRefuted}
use Rattle.lz_solve.specs.Search.{AreAssigned, IsSearch, IsStepOf, IsLearntInto}
use Rattle.lz_solve.specs.Turns.{IsNext}
use Rattle.lz_solve.proofs.ModelLemmas.{quiet_is_model, conflict_smaller}
use Rattle.lz_solve.proofs.TernaryLemmas.{steps_fewer}

-- ---- entries

none_at : (first : Entry) (set : List Entry) (v : ℕ) (b : Bool) → eqb (variable_of first.lit) v ≡ b → value_in (cond b (Some first) (entry_of set v)) ≡ None
    → (variable_of first.lit ≡ v → ⊥) × (value_in (entry_of set v) ≡ None)
none_at first set v true same is = absurd cc
none_at first set v false same is = (λ h. let e = eq-eqb (variable_of first.lit) v h in absurd cc, is)

none_has : (set : List Entry) (v : ℕ) → value_in (entry_of set v) ≡ None → (e : Entry) → Contains set e → variable_of e.lit ≡ v → ⊥
none_has [] v is e has same = omega (arith, has.1)
none_has (first ∷ set) v is e (zero, lt, at) same = (none_at first set v (eqb (variable_of first.lit) v) refl is).0 (ap (λ (x : Entry). variable_of x.lit) at ∙ same)
none_has (first ∷ set) v is e (suc k, lt, at) same = none_has set v (none_at first set v (eqb (variable_of first.lit) v) refl is).1 e (k, omega (arith, lt), at) same

-- a literal of a variable without a value is unassigned
pub free_literal : (set : List Entry) (lit : Lit) → value_in (entry_of set (variable_of lit)) ≡ None → IsUnassigned (literals set) lit
free_literal set lit is = (
  λ h. let source = Contains-from_map (λ (e : Entry). e.lit) set lit h in none_has set (variable_of lit) is source.0 source.1 (ap variable_of source.2),
  λ h. let source = Contains-from_map (λ (e : Entry). e.lit) set (negated lit) h in none_has set (variable_of lit) is source.0 source.1 (ap variable_of source.2 ∙ variable_of-negated lit),
)

-- so many clauses are kept
pub kept_count : (formula : Cnf) (conflicts : ℕ) (s : TrailState) (log : List LogStep) → IsSearch formula conflicts s log → length formula.clauses + length log ≡ length s.clauses
kept_count formula conflicts s log search = sym (ap length search.clauses ∙ length-append formula.clauses (map (λ (step : LogStep). step.clause) log) ∙ ap (λ (n : ℕ). length formula.clauses + n) (length-map log (λ (step : LogStep). step.clause)))

-- ---- steps

step_follows : (formula : Cnf) (conflicts : ℕ) (s : TrailState) (log new : List LogStep) (step : LogStep) → IsSearch formula conflicts s log → IsStepOf s log new step → IsByHints formula log step
step_follows formula conflicts s log new step search is =
    subst (λ (n : ℕ). FollowsBy n (known_clauses formula log) step.clause step.hints) search.variables
    (subst (λ (known : List (List Lit)). FollowsBy s.variables known step.clause step.hints) search.clauses is.follows)

all_follow : (formula : Cnf) (conflicts : ℕ) (s : TrailState) (log new : List LogStep) (step : LogStep) → IsSearch formula conflicts s log → IsStepOf s log new step → AreByHints formula [] new
all_follow formula conflicts s log new step search is =
    subst (AreByHints formula []) (sym is.pushed) (by_hints_push formula [] log step search.steps.by_hints (step_follows formula conflicts s log new step search is))

log_longer : (s : TrailState) (log new : List LogStep) (step : LogStep) → IsStepOf s log new step → length new ≡ length log + 1
log_longer s log new step is = ap length is.pushed ∙ length-append log (step ∷ [])

-- the empty clause was learnt
pub refuted : (formula : Cnf) (conflicts : ℕ) (s t : TrailState) (log new : List LogStep) → IsSearch formula conflicts s log → IsLearntInto s log t new true → IsRefuted formula conflicts new
refuted formula conflicts s t log new search (step, is, empty) =
    let longer = log_longer s log new step is in
    let left = search.left in
    let has : Contains new step = subst (λ (xs : List LogStep). Contains xs step) (sym is.pushed) (Contains-push log step) in
    record {
      refutes = record { steps = all_follow formula conflicts s log new step search is; empty = (has.0, step, has.1, has.2, empty) };
      within = omega arith;
    }

-- a new clause was learnt
pub steps_more : (formula : Cnf) (conflicts : ℕ) (s t : TrailState) (log new : List LogStep) → IsSearch formula conflicts s log → IsLearntInto s log t new false → AreNewSteps formula new
steps_more formula conflicts s t log new search (step, is, not_empty, is_new, _, _, _) = record {
  by_hints = all_follow formula conflicts s log new step search is;
  new = λ i d lt.
      let longer = log_longer s log new step is in
      subst (λ (xs : List LogStep). IsNewStep formula (take i xs) (get_or xs i d)) (sym is.pushed)
      (elim (cases_lt i (length log)) [
        | inl below ↦
            subst (λ (xs : List LogStep). IsNewStep formula xs (get_or (log ++ step ∷ []) i d)) (sym (take-append-le i log (step ∷ []) (omega arith)))
            (subst (λ (x : LogStep). IsNewStep formula (take i log) x) (sym (get_or_append_left log (step ∷ []) d i below)) (search.steps.new i d below))
        | inr above ↦
            (let at : i ≡ length log = omega arith in
            subst (λ (xs : List LogStep). IsNewStep formula xs (get_or (log ++ step ∷ []) i d)) (sym (ap (λ (n : ℕ). take n (log ++ step ∷ [])) at ∙ take-append_seam log (step ∷ [])))
            (subst (λ (x : LogStep). IsNewStep formula log x) (sym (get_or_push log step d i (sym at)))
            (subst (λ (known : List (List Lit)). IsNewClause known step.clause) search.clauses is_new)))
      ]);
  not_empty = subst (λ (xs : List LogStep). All (λ x. x.clause ≢ []) xs) (sym is.pushed) (All-push (λ (x : LogStep). x.clause ≢ []) log step search.steps.not_empty not_empty);
}

-- the conflicts are spent
pub spent : (formula : Cnf) (conflicts : ℕ) (log : List LogStep) → AreNewSteps formula log → length log ≡ conflicts → 1 ≤ conflicts → IsSpent formula conflicts log
spent formula conflicts log steps exact positive = record {
  exact = exact;
  steps = steps;
  bounded = (let fewer = steps_fewer formula log steps.by_hints steps.new steps.not_empty in omega arith);
  not_propagated = λ by_ leads.
      let first : LogStep = record { clause = []; hints = [] } in
      let new = steps.new 0 first (omega arith) in
      new_not_propagated formula.clauses (get_or log 0 first).clause by_ (subst (λ (known : List (List Lit)). IsNewClause known (get_or log 0 first).clause) (append-nil formula.clauses) new) leads;
}

-- the search goes on with one clause more
pub next_learnt : (formula : Cnf) (conflicts : ℕ) (s t : TrailState) (log new : List LogStep) → IsSearch formula conflicts s log → IsLearntInto s log t new false → (length new ≡ conflicts → ⊥) → IsNext formula conflicts s log t new
next_learnt formula conflicts s t log new search (step, is, not_empty, is_new, trail, variables, clauses) more =
    let longer = log_longer s log new step is in
    let left = search.left in
    record {
      search = record {
        trail = trail;
        few = search.few;
        variables = variables ∙ search.variables;
        clauses = clauses ∙ ap (λ (known : List (List Lit)). known ++ step.clause ∷ []) search.clauses ∙ sym (known_push formula log step) ∙ ap (known_clauses formula) (sym is.pushed);
        steps = steps_more formula conflicts s t log new search (step, is, not_empty, is_new, trail, variables, clauses);
        left = omega (arith, more);
      };
      moves = inr (omega arith);
    }

-- ---- propagation and decisions

pub extended : (formula : Cnf) (conflicts : ℕ) (s t : TrailState) (log : List LogStep) → IsSearch formula conflicts s log → Extends s t → IsTrail t → IsSearch formula conflicts t log
extended formula conflicts s t log search more trail = record {
  trail = trail;
  few = search.few;
  variables = more.variables ∙ search.variables;
  clauses = more.clauses ∙ search.clauses;
  steps = search.steps;
  left = search.left;
}

pub next_decided : (formula : Cnf) (conflicts : ℕ) (s t : TrailState) (log : List LogStep) (lit : Lit) → IsSearch formula conflicts s log → t ≡ decided s lit → IsTrail t → IsNext formula conflicts s log t log
next_decided formula conflicts s t log lit search is trail =
    let e : Entry = record { lit = lit; level = suc s.level; reason = None } in
    let set : t.set ≡ s.set ++ e ∷ [] = ap (λ (x : TrailState). x.set) is in
    let long = ap length set ∙ length-append s.set (e ∷ []) in
    record {
      search = record {
        trail = trail;
        few = search.few;
        variables = ap (λ (x : TrailState). x.variables) is ∙ search.variables;
        clauses = ap (λ (x : TrailState). x.clauses) is ∙ search.clauses;
        steps = search.steps;
        left = search.left;
      };
      moves = inl (refl, omega arith);
    }

-- what propagation set counts to the turn
pub next_after : (formula : Cnf) (conflicts : ℕ) (s t u : TrailState) (log new : List LogStep) → Extends s t → IsNext formula conflicts t log u new → IsNext formula conflicts s log u new
next_after formula conflicts s t u log new more next =
    let long = ap length more.set ∙ length-append s.set more.added in
    record {
      search = next.search;
      moves = ⊎_elim (λ kept. inl (kept.0, (let lt = kept.1 in omega arith))) (λ longer. inr longer) next.moves;
    }

-- the clauses of the steps
abbrev learnt_clauses : List LogStep → List (List Lit)
learnt_clauses log = map (λ (step : LogStep). step.clause) log

entry_some : (o : Option Entry) (value : Bool) → value_in o ≡ Some value → (e : Entry) × (o ≡ Some e)
entry_some None value h = absurd cc
entry_some (Some e) value h = (e, refl)

-- a model was found
pub found : (formula : Cnf) (conflicts : ℕ) (s : TrailState) (log : List LogStep) (values : List Bool) → IsSearch formula conflicts s log → IsQuiet (literals s.set) s.clauses → AreAssigned s.set formula.variables
    → length values ≡ formula.variables → ((v : ℕ) → v < formula.variables → slice_get values v ≡ value_in (entry_of s.set v)) → IsModel formula values
found formula conflicts s log values search quiet are whole told =
    let model = quiet_is_model s values search.trail quiet (λ v lt.
    let lt2 : v < formula.variables = subst (λ (n : ℕ). v < n) search.variables lt in
    let is = are v lt2 in
    let e = entry_some (entry_of s.set v) is.0 is.1 in
    (e.0, e.1, told v lt2 ∙ ap value_in e.1)) in
    record {
      whole = whole;
      clauses = λ k d lt.
          let long = length-append formula.clauses (learnt_clauses log) in
          let wide : k < length s.clauses = (let e = ap length search.clauses in omega arith) in
          subst (Any (IsTrueLit values)) (ap (λ (xs : List (List Lit)). get_or xs k d) search.clauses ∙ get_or_append_left formula.clauses (learnt_clauses log) d k lt) (model k d wide);
    }

-- ---- the measure

-- conflicts that are left, and then variables without a value
abbrev pub left_of : ℕ → ℕ → ℕ → ℕ → ℕ
left_of conflicts variables log set = (conflicts - log) * (variables + 1) + (variables - set)

pub turn_smaller : (formula : Cnf) (conflicts : ℕ) (s t : TrailState) (log new : List LogStep) → IsSearch formula conflicts s log → IsNext formula conflicts s log t new
    → left_of conflicts formula.variables (length new) (length t.set) < left_of conflicts formula.variables (length log) (length s.set)
turn_smaller formula conflicts s t log new search next =
    ⊎_elim
    (λ kept.
    let fits = entries_fit t.set t.variables next.search.trail.known next.search.trail.apart in
    let variables = next.search.variables in
    let same = kept.0 in
    let lt = kept.1 in
    let e : (conflicts - length new) * (formula.variables + 1) ≡ (conflicts - length log) * (formula.variables + 1) = ap (λ (n : ℕ). (conflicts - n) * (formula.variables + 1)) same in
    omega arith)
    (λ longer.
    let left = search.left in
    let b = conflicts - length new in
    let one : conflicts - length log ≡ b + 1 = omega arith in
    let e : (conflicts - length log) * (formula.variables + 1) ≡ (b + 1) * (formula.variables + 1) = ap (λ (n : ℕ). n * (formula.variables + 1)) one in
    let small = conflict_smaller b formula.variables (length s.set) (length t.set) in
    omega arith)
    next.moves

-- ---- the start

pub begins : (formula : Cnf) (conflicts : ℕ) (s : TrailState) → s ≡ opening formula → IsTrail s → s.variables ≤ variable_bound → 1 ≤ conflicts → IsSearch formula conflicts s []
begins formula conflicts s is trail few positive = record {
  trail = trail;
  few = subst (λ (n : ℕ). n ≤ variable_bound) (ap (λ (x : TrailState). x.variables) is) few;
  variables = ap (λ (x : TrailState). x.variables) is;
  clauses = ap (λ (x : TrailState). x.clauses) is ∙ sym (append-nil formula.clauses);
  steps = record { by_hints = tt; new = λ i d lt. absurd (omega arith); not_empty = λ k d lt. absurd (omega arith) };
  left = omega arith;
}
