-- What the definitions of models, refutation and newness say, on small formulas and logs.
use Rattle.std.proofs.Common.{◌≡◌, ℕ, zero, suc, ◌<◌, ◌⊎◌, inl, ⊎_elim, true, false, List, [], ◌∷◌, refl, sym, ◌∙◌, ap, subst, arith}
use Rattle.std.specs.List.{All, Any, Contains}
use Rattle.lz_cnf.specs.declared.clause.Lit.{Lit}
use Rattle.lz_cnf.specs.declared.clause.Cnf.{Cnf}
use Rattle.lz_cnf.specs.Models.{IsTrueLit, IsModel, HasModel}
use Rattle.lz_cnf.specs.Partial.{IsFalseLit, IsOpen}
use Rattle.lz_log.specs.declared.log.LogStep.{LogStep}
use Rattle.lz_log.specs.Refutation.{IsByHints, Refutes}
use Rattle.lz_log.specs.Newness.{IsNewClause, IsNewStep}
use Rattle.lz_log.proofs.SoundnessLemmas.{no_model}
use Rattle.lz_log.proofs.NewnessLemmas.{contains_none}

-- the literals of two variables
abbrev x : Lit
x = record { 0 = 0 }

abbrev not_x : Lit
not_x = record { 0 = 1 }

abbrev y : Lit
y = record { 0 = 2 }

abbrev not_y : Lit
not_y = record { 0 = 3 }

-- the formula of one clause: x or not y
abbrev either : Cnf
either = record { variables = 2; clauses = (x ∷ not_y ∷ []) ∷ [] }

-- the formula of one variable that is to be true and to be false
abbrev both : Cnf
both = record { variables = 1; clauses = (x ∷ []) ∷ (not_x ∷ []) ∷ [] }

-- a step of these literals and hints
abbrev step : List Lit → List ℕ → LogStep
step clause hints = record { clause = clause; hints = hints }

-- ---- models

-- both variables true are a model of x or not y
both_true_are_a_model : IsModel either (true ∷ true ∷ [])
both_true_are_a_model = record { whole = refl; clauses = each }
  where
    each : All (λ clause. Any (IsTrueLit (true ∷ true ∷ [])) clause) ((x ∷ not_y ∷ []) ∷ [])
    each zero d lt = (0, x, omega arith, refl, refl)
    each (suc k) d lt = absurd (omega (arith, lt))

-- x false and y true are none
x_false_y_true_are_no_model : IsModel either (false ∷ true ∷ []) → ⊥
x_false_y_true_are_no_model model = go (model.clauses 0 [] (omega arith))
  where
    go : Any (IsTrueLit (false ∷ true ∷ [])) (x ∷ not_y ∷ []) → ⊥
    go (zero, lit, lt, is, holds) = let h : IsTrueLit (false ∷ true ∷ []) x = subst (IsTrueLit (false ∷ true ∷ [])) (sym is) holds in cc
    go (suc zero, lit, lt, is, holds) = let h : IsTrueLit (false ∷ true ∷ []) not_y = subst (IsTrueLit (false ∷ true ∷ [])) (sym is) holds in cc
    go (suc (suc k), lit, lt, is, holds) = absurd (omega (arith, lt))

-- too few values are none, whatever they are
one_value_is_no_model : IsModel either (true ∷ []) → ⊥
one_value_is_no_model model = let short : 1 ≡ 2 = model.whole in absurd (omega arith)

-- ---- refutation

-- the two clauses, one after the other, refute the formula
two_hints_refute : Refutes both (step [] (1 ∷ 2 ∷ []) ∷ [])
two_hints_refute = record {
  steps = (
    record {
      one_sign = λ k d lt. absurd (omega (arith, lt));
      variables = λ k d lt. absurd (omega (arith, lt));
      hints = (x ∷ [], x, refl, (0, omega arith, refl), (λ within. absurd (omega (arith, within.1))), here, (not_x ∷ [], refl, now_false));
    },
    tt,
  );
  empty = (0, step [] (1 ∷ 2 ∷ []), omega arith, refl, refl);
}
  where
    here : All (λ lit. (lit ≡ x) ⊎ Contains [] lit) (x ∷ [])
    here zero d lt = inl refl
    here (suc k) d lt = absurd (omega (arith, lt))

    now_false : All (Contains (not_x ∷ [])) (not_x ∷ [])
    now_false zero d lt = (0, omega arith, refl)
    now_false (suc k) d lt = absurd (omega (arith, lt))

-- so the formula has no model
both_has_no_model : HasModel both → ⊥
both_has_no_model = no_model both (step [] (1 ∷ 2 ∷ []) ∷ []) two_hints_refute

-- a last hint whose clause is only unit does not show the empty clause
one_hint_shows_nothing : IsByHints both [] (step [] (1 ∷ [])) → ⊥
one_hint_shows_nothing follows =
    let clause = follows.hints.0 in
    let named : x ∷ [] ≡ clause = cc in
    let within = subst (λ (c : List Lit). All (Contains []) c) (sym named) follows.hints.2 in
    absurd (omega (arith, (within 0 x (omega arith)).1))

-- nor does no hint
no_hint_shows_nothing : IsByHints both [] (step [] []) → ⊥
no_hint_shows_nothing follows = follows.hints

-- a variable that the formula lacks stands in no step
no_further_variable : (hints : List ℕ) → IsByHints both [] (step (y ∷ []) hints) → ⊥
no_further_variable hints follows = let below : 1 < 1 = follows.variables 0 y (omega arith) in absurd (omega arith)

-- ---- newness

-- a clause of two literals is neither unit nor false where nothing has a value
two_are_open : (one other : Lit) → (one ≡ other → ⊥) → IsOpen [] (one ∷ other ∷ [])
two_are_open one other differ = record {
  not_unit = λ unit. differ (first unit.0 unit.3 ∙ sym (second unit.0 unit.3));
  not_false = λ all. absurd (omega (arith, (all 0 one (omega arith)).1));
}
  where
    none : {A : Type 0} (lit : Lit) → IsFalseLit [] lit → A
    none lit h = absurd (omega (arith, h.1))

    first : (unit : Lit) → All (λ lit. (lit ≡ unit) ⊎ IsFalseLit [] lit) (one ∷ other ∷ []) → one ≡ unit
    first unit all = ⊎_elim (λ same. same) (λ h. none one h) (all 0 one (omega arith))

    second : (unit : Lit) → All (λ lit. (lit ≡ unit) ⊎ IsFalseLit [] lit) (one ∷ other ∷ []) → other ≡ unit
    second unit all = ⊎_elim (λ same. same) (λ h. none other h) (all 1 other (omega arith))

-- two numbers
apart : ◌≡◌ {A = ℕ} 0 2 → ⊥
apart same = omega arith

-- over x or y, the clause of x alone is new
x_is_new : IsNewClause ((x ∷ y ∷ []) ∷ []) (x ∷ [])
x_is_new = record {
  true_ = [];
  left = x;
  consistent = λ k d lt. absurd (omega (arith, lt));
  within = (0, omega arith, refl);
  others = here;
  unassigned = ((λ h. absurd (omega (arith, h.1))), (λ h. absurd (omega (arith, h.1))));
  quiet = each;
}
  where
    here : All (λ lit. (lit ≡ x) ⊎ IsFalseLit [] lit) (x ∷ [])
    here zero d lt = inl refl
    here (suc k) d lt = absurd (omega (arith, lt))

    differ : x ≡ y → ⊥
    differ same = apart (ap (λ (l : Lit). l.0) same)

    each : All (IsOpen []) ((x ∷ y ∷ []) ∷ [])
    each zero d lt = two_are_open x y differ
    each (suc k) d lt = absurd (omega (arith, lt))

-- over x itself it is not
x_is_not_new_twice : IsNewStep both [] (step (x ∷ []) []) → ⊥
x_is_not_new_twice new = contains_none both [] (step (x ∷ []) []) (x ∷ []) new (0, omega arith, refl) here
  where
    here : All (Contains (x ∷ [])) (x ∷ [])
    here zero d lt = (0, omega arith, refl)
    here (suc k) d lt = absurd (omega (arith, lt))
