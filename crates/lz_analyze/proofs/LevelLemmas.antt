-- What a conflict tells of the present level.
use Rattle.std.proofs.Common.{◌≡◌, ℕ, suc, ◌-◌, ◌<◌, ◌≤◌, ◌⊎◌, inl, inr, ltb, List, [], ◌∷◌, length, get_or, None, refl, subst, arith}
use Rattle.std.specs.List.{All, Contains}
use Rattle.std.proofs.lemmas.Bool.{cases_lt, lt-ltb}
use Rattle.std.proofs.lemmas.List.Elements.{All-contains, All-cons}
use Rattle.lz_cnf.specs.declared.clause.Lit.{Lit}
use Rattle.lz_cnf.specs.Models.{negated}
use Rattle.lz_cnf.specs.Partial.{IsFalseLit, IsOpen}
use Rattle.lz_log.proofs.RefutationLemmas.{named_has}
use Rattle.lz_prop.specs.Trail.{Entry, TrailState, IsTrail, IsFalseNamed, at_decision}
use Rattle.lz_analyze.specs.Learnt.{IsFalseAt}
use Rattle.lz_prop.proofs.LitLemmas.{Contains-map, Contains-from_map, Contains-filter}

-- either all are one way, or some is the other
pub each_or_some : {X : Type 0} (P Q : X → Type 0) (xs : List X) → All (λ x. P x ⊎ Q x) xs → All P xs ⊎ ((x : X) × Contains xs x × Q x)
each_or_some P Q [] all = inl (λ k d lt. absurd (omega (arith, lt)))
each_or_some P Q (x ∷ xs) all =
    elim (all 0 x (omega arith)) [
      | inr q ↦ inr (x, (0, omega arith, refl), q)
      | inl p ↦ elim (each_or_some P Q xs (λ k d lt. all (suc k) d (omega arith))) [
        | inl rest ↦ inl (All-cons P x xs p rest)
        | inr (y, (k, lt, e), q) ↦ inr (y, (suc k, omega (arith, lt), e), q)
      ]
    ]

-- a false clause has a literal that is false at the present level, if that isn't 0
pub conflict_at_level : (s : TrailState) (number : ℕ) → IsTrail s → 0 < s.level → (false_ : IsFalseNamed s number) → (lit : Lit) × Contains false_.0 lit × IsFalseAt s.set (λ level. level ≡ s.level) lit
conflict_at_level s number trail positive false_ =
    let clause = false_.0 in
    let k = s.level - 1 in
    let at : suc k ≡ s.level = omega arith in
    let open_ : IsOpen (at_decision (suc k) s.set) clause = named_has (IsOpen (at_decision (suc k) s.set)) s.clauses number clause (trail.quiet k (omega arith)) false_.1 in
    let each : All (λ l. IsFalseLit (at_decision (suc k) s.set) l ⊎ IsFalseAt s.set (λ level. level ≡ s.level) l) clause = λ j d lt.
    let source = Contains-from_map (λ (e : Entry). e.lit) s.set (negated (get_or clause j d)) (false_.2 j d lt) in
    let e = source.0 in
    elim (cases_lt e.level (suc k)) [
      | inl below ↦ inl (subst (Contains (at_decision (suc k) s.set)) source.2 (Contains-map (λ (e : Entry). e.lit) _ e (Contains-filter (λ (e : Entry). ltb e.level (suc k)) s.set e source.1 (lt-ltb e.level (suc k) below))))
      | inr above ↦ (let bound = All-contains (λ (x : Entry). x.level ≤ s.level) s.set e trail.bounded source.1 in
          inr (record { entry = e; within = source.1; negates = source.2; level = omega arith }))
    ] in
    elim (each_or_some (IsFalseLit (at_decision (suc k) s.set)) (IsFalseAt s.set (λ level. level ≡ s.level)) clause each)
    [ inl all ↦ absurd (open_.not_false all) | inr some ↦ some ]

-- a literal of a level without a reason stands before all others of its level: the walk stops there at the latest
pub decision_is_first : (s : TrailState) (i j : ℕ) (d : Entry) → IsTrail s → i < j → j < length s.set → (get_or s.set i d).level ≡ (get_or s.set j d).level → (get_or s.set j d).reason ≡ None → ⊥
decision_is_first s i j d trail lt within same none = let below = trail.firsts i j d lt within none in omega arith
