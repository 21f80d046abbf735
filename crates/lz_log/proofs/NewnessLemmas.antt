-- A new clause contains no clause before it, and unit propagation could not have set its literal.
use Rattle.std.proofs.Common.{◌≡◌, ◌<◌, ◌⊎◌, inl, inr, ⊎_elim, List, [], ◌∷◌, get_or, sym, subst, arith}
use Rattle.std.specs.List.{All, Contains}
use Rattle.std.proofs.lemmas.List.Elements.{All-contains, Contains-get_or, All-cons}
use Rattle.lz_cnf.specs.declared.clause.Lit.{Lit}
use Rattle.lz_cnf.specs.declared.clause.Cnf.{Cnf}
use Rattle.lz_cnf.specs.Models.{negated}
use Rattle.lz_cnf.specs.Partial.{IsFalseLit, IsOpen}
use Rattle.lz_log.specs.declared.log.LogStep.{LogStep}
use Rattle.lz_log.specs.Refutation.{known_clauses}
use Rattle.lz_log.specs.Newness.{IsNewClause, IsNewStep, IsPropagation, AreOthers}
use Rattle.lz_cnf.proofs.LitLemmas.{contains_or}

-- a new step contains no clause before it
pub contains_none : (formula : Cnf) (earlier : List LogStep) (step : LogStep) (clause : List Lit) → IsNewStep formula earlier step → Contains (known_clauses formula earlier) clause → All (Contains step.clause) clause → ⊥
contains_none formula earlier step clause new known within =
    let quiet = All-contains (IsOpen new.true_) (known_clauses formula earlier) clause new.quiet known in
    let each : All (λ lit. (lit ≡ new.left) ⊎ IsFalseLit new.true_ lit) clause =
    λ k d lt. All-contains (λ lit. (lit ≡ new.left) ⊎ IsFalseLit new.true_ lit) step.clause (get_or clause k d) new.others (within k d lt) in
    let without : Contains clause new.left → ⊥ = λ has. quiet.not_unit (new.left, has, new.unassigned, each) in
    quiet.not_false (λ k d lt. ⊎_elim
    (λ same. absurd (without (subst (Contains clause) same (Contains-get_or clause k d lt))))
    (λ is_false. is_false)
    (each k d lt))

-- where no clause is unit or false and these literals are false, what unit propagation sets is true already
propagation_is_true : (true_ : List Lit) (known : List (List Lit)) (false_ order : List Lit) → All (IsOpen true_) known → All (IsFalseLit true_) false_ → IsPropagation known false_ order → All (Contains true_) order
propagation_is_true true_ known false_ [] quiet are set = λ k d lt. absurd (omega (arith, lt))
propagation_is_true true_ known false_ (lit ∷ earlier) quiet are set =
    let before = propagation_is_true true_ known false_ earlier quiet are set.0 in
    let clause = set.1 in
    let open_ = All-contains (IsOpen true_) known clause quiet set.2 in
    let others : All (λ other. (other ≡ lit) ⊎ IsFalseLit true_ other) clause = λ k d lt.
    ⊎_elim (λ same. inl same)
    (λ rest. inr (⊎_elim
    (λ given. All-contains (IsFalseLit true_) false_ (get_or clause k d) are given)
    (λ was_set. All-contains (Contains true_) earlier (negated (get_or clause k d)) before was_set) rest))
    (set.4 k d lt) in
    let here : Contains true_ lit = elim (contains_or true_ lit) [
      | inl within ↦ within
      | inr without ↦ absurd (open_.not_unit (
        lit,
        set.3,
        (
          without,
          λ is_false. open_.not_false (λ k d lt. ⊎_elim (λ same. subst (IsFalseLit true_) (sym same) is_false) (λ h. h) (others k d lt)),
        ),
        others,
      ))
    ] in
    All-cons (Contains true_) lit earlier here before

-- a new clause has a literal that unit propagation could not have set
pub not_propagated : (known : List (List Lit)) (clause : List Lit) → IsNewClause known clause → (left : Lit) × Contains clause left
    × ((false_ order : List Lit) → AreOthers clause left false_ → IsPropagation known false_ order → Contains order left → ⊥)
not_propagated known clause new = (
  new.left,
  new.within,
  λ false_ order others set within.
      let are : All (IsFalseLit new.true_) false_ = λ k d lt.
      let own = others k d lt in
      ⊎_elim (λ same. absurd (own.1 same)) (λ h. h) (All-contains (λ lit. (lit ≡ new.left) ⊎ IsFalseLit new.true_ lit) clause (get_or false_ k d) new.others own.0) in
      let all = propagation_is_true new.true_ known false_ order new.quiet are set in
      new.unassigned.0 (All-contains (Contains new.true_) order new.left all within),
)
