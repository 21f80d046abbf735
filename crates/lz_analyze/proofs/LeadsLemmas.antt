-- The hints of the analysis, and what a new clause rules out.
use Rattle.std.proofs.Common.{◌≡◌, ℕ, ◌⊎◌, inl, inr, ⊎_elim, List, [], ◌∷◌, get_or, sym, subst}
use Rattle.std.specs.List.{All, Contains}
use Rattle.std.proofs.lemmas.List.Elements.{All-contains, All-cons, All-nil, Contains-get_or, Contains-append_right}
use Rattle.lz_base.proofs.ListLemmas.{head_contained}
use Rattle.lz_cnf.specs.declared.clause.Lit.{Lit}
use Rattle.lz_cnf.specs.Models.{negated}
use Rattle.lz_cnf.specs.Partial.{IsFalseLit, IsConsistent, IsOpen, IsQuiet, IsNamed}
use Rattle.lz_cnf.proofs.LitLemmas.{negated-negated}
use Rattle.lz_log.specs.Refutation.{LeadsToFalse}
use Rattle.lz_log.specs.Newness.{IsNewClause}
use Rattle.lz_log.proofs.RefutationLemmas.{named_has}
use Rattle.lz_analyze.specs.Walks.{LeadsFrom}

-- at the conflict
pub conflict_leads : (true_ : List Lit) (known : List (List Lit)) (conflict : ℕ) (clause : List Lit) → IsNamed known conflict clause
    → LeadsFrom true_ known (Contains clause) (conflict ∷ [])
conflict_leads true_ known conflict clause named false_ are covers =
    (clause, named, λ k d lt. covers (get_or clause k d) (Contains-get_or clause k d lt))

-- one literal is resolved by its reason
pub resolved_leads : (true_ : List Lit) (known : List (List Lit)) (before after : Lit → Type 0) (reason next : ℕ) (hints : List ℕ) (lit : Lit) (clause : List Lit)
    → IsConsistent true_ → Contains true_ lit → IsNamed known reason clause → Contains clause lit
    → ((l : Lit) → Contains clause l → (l ≡ lit) ⊎ after l)
    → ((l : Lit) → before l → (l ≡ negated lit) ⊎ after l)
    → LeadsFrom true_ known before (next ∷ hints)
    → LeadsFrom true_ known after (reason ∷ next ∷ hints)
resolved_leads true_ known before after reason next hints lit clause consistent is_true named within others rest leads false_ are covers =
    let not_false : Contains false_ lit → ⊥ = λ h.
    All-contains (λ l. Contains true_ (negated l) → ⊥) true_ lit consistent is_true (All-contains (IsFalseLit true_) false_ lit are h) in
    let flipped : IsFalseLit true_ (negated lit) = subst (Contains true_) (sym (negated-negated lit)) is_true in (
      clause,
      lit,
      named,
      within,
      not_false,
      (λ k d lt. ⊎_elim (λ same. inl same) (λ left. inr (covers (get_or clause k d) left)) (others (get_or clause k d) (Contains-get_or clause k d lt))),
      leads (negated lit ∷ false_) (All-cons (IsFalseLit true_) (negated lit) false_ flipped are)
          (λ l h. ⊎_elim
          (λ same. subst (Contains (negated lit ∷ false_)) (sym same) (head_contained (negated lit) false_))
          (λ left. Contains-append_right (negated lit ∷ []) false_ l (covers l left))
          (rest l h)),
    )

-- ---- where nothing is unit or false, no hints lead to a false clause

pub quiet_never_leads : (true_ : List Lit) (known : List (List Lit)) (hints : List ℕ) (false_ : List Lit) → IsQuiet true_ known → All (IsFalseLit true_) false_ → LeadsToFalse known false_ hints → ⊥
quiet_never_leads true_ known [] false_ quiet are leads = leads
quiet_never_leads true_ known (last ∷ []) false_ quiet are leads =
    (named_has (IsOpen true_) known last leads.0 quiet leads.1).not_false
    (λ k d lt. All-contains (IsFalseLit true_) false_ (get_or leads.0 k d) are (leads.2 k d lt))
quiet_never_leads true_ known (hint ∷ next ∷ hints) false_ quiet are leads =
    let clause = leads.0 in
    let unit = leads.1 in
    let open_ = named_has (IsOpen true_) known hint clause quiet leads.2 in
    let others : All (λ l. (l ≡ unit) ⊎ IsFalseLit true_ l) clause = λ k d lt. ⊎_elim
    (λ same. inl same)
    (λ h. inr (All-contains (IsFalseLit true_) false_ (get_or clause k d) are h))
    (leads.5 k d lt) in
    let not_true : Contains true_ unit → ⊥ = λ h.
    quiet_never_leads true_ known (next ∷ hints) (negated unit ∷ false_) quiet
    (All-cons (IsFalseLit true_) (negated unit) false_ (subst (Contains true_) (sym (negated-negated unit)) h) are)
    leads.6 in
    let not_false : IsFalseLit true_ unit → ⊥ = λ h. open_.not_false (λ k d lt. ⊎_elim
    (λ same. subst (IsFalseLit true_) (sym same) h)
    (λ is_false. is_false)
    (others k d lt)) in
    open_.not_unit (unit, leads.3, (not_true, not_false), others)

-- where unit propagation without a decision makes a known clause false, no clause is new
pub new_not_propagated : (known : List (List Lit)) (clause : List Lit) (hints : List ℕ) → IsNewClause known clause → LeadsToFalse known [] hints → ⊥
new_not_propagated known clause hints new leads =
    quiet_never_leads new.true_ known hints [] new.quiet (All-nil (IsFalseLit new.true_)) leads
