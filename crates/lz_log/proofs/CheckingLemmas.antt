-- A check of a log, turn by turn.
use Rattle.std.proofs.Common.{map, ◌≡◌, ℕ, zero, suc, ◌+◌, ◌-◌, ◌*◌, ◌<◌, ◌≤◌, ⊎_elim, ◌↔◌, Bool, true, false, eqb, List, [], ◌∷◌, ◌++◌, length, get_or, take, drop, Some, None, slice_get, refl, sym, ◌∙◌, ap, subst, arith}
use Rattle.std.specs.List.{All, Any, Contains}
use Rattle.std.proofs.lemmas.List.{append-nil, append_assoc, take_all, take_more, drop_more, drop_all, take-append-drop, get_or_default}
use Rattle.std.proofs.lemmas.List.Elements.{All-push, All-contains, Contains-get_or, Contains-push, Contains-push_cases, Contains-append_left}
use Rattle.std.proofs.lemmas.Option.{slice_get-get_or, slice_get_past}
use Rattle.lz_base.proofs.ListLemmas.{rest_contained, contained_cases}
use Rattle.lz_cnf.specs.declared.clause.Lit.{Lit}
use Rattle.lz_cnf.specs.declared.clause.Cnf.{Cnf}
use Rattle.lz_cnf.specs.Models.{variable_of, negated}
use Rattle.lz_cnf.specs.Partial.{IsNamed}
use Rattle.lz_cnf.proofs.LitLemmas.{variable_of-negated, negated-negated, ne_negated}
use Rattle.lz_log.specs.declared.log.LogStep.{LogStep}
use Rattle.lz_log.specs.declared.marks.Marks.{Marks}
use Rattle.lz_log.specs.declared.marks.Standing.{Standing}
use Rattle.lz_log.specs.declared.marks.Standing.TheVariants.{AllFalse, OneLeft, TwoLeft}
use Rattle.lz_log.specs.Marks.{Mark, Stands}
use Rattle.lz_log.specs.Checking.{IsFirstBad, IsProper, AreBelow, GoesOn, Stops, Leads}
use Rattle.lz_log.specs.Refutation.{LeadsToFalse, AreByHints, IsByHints, Refutes, known_clauses}
use Rattle.lz_log.proofs.MarksLemmas.{here_in_front}
use Rattle.lz_log.proofs.RefutationLemmas.{same_named, unit_hint, two_open, false_hint, by_hints_push, known_push}

-- a literal of a variable below the bound has a number below twice the bound, in both signs
pub number_below : (lit : Lit) (variables room : ℕ) → variable_of lit < variables → variables * 2 ≤ room → lit.0 < room
number_below lit variables room below fits = omega arith

pub negated_below : (lit : Lit) (variables room : ℕ) → variable_of lit < variables → variables * 2 ≤ room → (negated lit).0 < room
negated_below lit variables room below fits =
    let same = variable_of-negated lit in
    number_below (negated lit) variables room (omega arith) fits

-- ---- the clause that a hint names

in_first : (front back : List (List Lit)) (k : ℕ) (d : List Lit) → k < length front → slice_get (front ++ back) k ≡ Some (get_or front k d)
in_first [] back k d lt = absurd (omega (arith, lt))
in_first (first ∷ front) back zero d lt = refl
in_first (first ∷ front) back (suc k) d lt = in_first front back k d (omega arith)

in_second : (front back : List (List Lit)) (k : ℕ) → length front ≤ k → slice_get (front ++ back) k ≡ slice_get back (k - length front)
in_second [] back k le = ap (slice_get back) (let e : k ≡ k - 0 = omega arith in e)
in_second (first ∷ front) back zero le = absurd (omega (arith, le))
in_second (first ∷ front) back (suc k) le = in_second front back k (omega arith) ∙ ap (slice_get back) (let e : k - length front ≡ suc k - suc (length front) = omega arith in e)

of_step : (earlier : List LogStep) (k : ℕ) (step : LogStep) → slice_get earlier k ≡ Some step → slice_get (map (λ (s : LogStep). s.clause) earlier) k ≡ Some step.clause
of_step [] k step e = absurd cc
of_step (first ∷ earlier) zero step e = let same : first ≡ step = cc in ap (λ (s : LogStep). Some s.clause) same
of_step (first ∷ earlier) (suc k) step e = of_step earlier k step e

of_no_step : (earlier : List LogStep) (k : ℕ) → slice_get earlier k ≡ None → slice_get (map (λ (s : LogStep). s.clause) earlier) k ≡ None
of_no_step [] k e = refl
of_no_step (first ∷ earlier) zero e = absurd cc
of_no_step (first ∷ earlier) (suc k) e = of_no_step earlier k e

-- a hint of the formula
pub named_in_formula : (formula : Cnf) (earlier : List LogStep) (hint : ℕ) (d : List Lit) → 0 < hint → hint - 1 < length formula.clauses → IsNamed (known_clauses formula earlier) hint (get_or formula.clauses (hint - 1) d)
named_in_formula formula earlier zero d some lt = absurd (omega (arith, some))
named_in_formula formula earlier (suc k) d some lt =
    let same : suc k - 1 ≡ k = omega arith in
    subst (λ (n : ℕ). slice_get (known_clauses formula earlier) k ≡ Some (get_or formula.clauses n d)) (sym same) (in_first formula.clauses _ k d (omega arith))

-- a hint of an earlier step
pub named_in_log : (formula : Cnf) (earlier : List LogStep) (hint : ℕ) (step : LogStep) → 0 < hint → length formula.clauses ≤ hint - 1 → slice_get earlier (hint - 1 - length formula.clauses) ≡ Some step → IsNamed (known_clauses formula earlier) hint step.clause
named_in_log formula earlier zero step some le e = absurd (omega (arith, some))
named_in_log formula earlier (suc k) step some le e =
    let same : suc k - 1 - length formula.clauses ≡ k - length formula.clauses = omega arith in
    in_second formula.clauses _ k (omega arith) ∙ of_step earlier (k - length formula.clauses) step (sym (ap (slice_get earlier) same) ∙ e)

-- a hint past the earlier steps
pub named_past : (formula : Cnf) (earlier : List LogStep) (hint : ℕ) (clause : List Lit) → 0 < hint → length formula.clauses ≤ hint - 1 → slice_get earlier (hint - 1 - length formula.clauses) ≡ None → IsNamed (known_clauses formula earlier) hint clause → ⊥
named_past formula earlier zero clause some le e named = absurd named
named_past formula earlier (suc k) clause some le e named =
    let same : suc k - 1 - length formula.clauses ≡ k - length formula.clauses = omega arith in
    let none = in_second formula.clauses _ k (omega arith) ∙ of_no_step earlier (k - length formula.clauses) (sym (ap (slice_get earlier) same) ∙ e) in
    absurd cc

-- the same of what the code has read
pub step_is_named : (formula : Cnf) (earlier : List LogStep) (hint count : ℕ) (d : LogStep) (found : List Lit) → count ≡ length formula.clauses → (hint ≡ 0 → ⊥) → count ≤ hint - 1 → hint - 1 - count < length earlier
    → found ≡ (get_or earlier (hint - 1 - count) d).clause → IsNamed (known_clauses formula earlier) hint found
step_is_named formula earlier hint count d found e some le lt is =
    let at : slice_get earlier (hint - 1 - length formula.clauses) ≡ Some (get_or earlier (hint - 1 - count) d) =
    ap (λ (n : ℕ). slice_get earlier (hint - 1 - n)) (sym e) ∙ slice_get-get_or earlier (hint - 1 - count) d lt in
    subst (λ (c : List Lit). IsNamed (known_clauses formula earlier) hint c) (sym is)
    (named_in_log formula earlier hint (get_or earlier (hint - 1 - count) d) (omega (arith, some)) (omega arith) at)

pub none_is_named : (formula : Cnf) (earlier : List LogStep) (hint count : ℕ) (clause : List Lit) → count ≡ length formula.clauses → (hint ≡ 0 → ⊥) → count ≤ hint - 1 → length earlier ≤ hint - 1 - count
    → IsNamed (known_clauses formula earlier) hint clause → ⊥
none_is_named formula earlier hint count clause e some le past =
    named_past formula earlier hint clause (omega (arith, some)) (omega arith) (slice_get_past earlier (hint - 1 - length formula.clauses) (omega arith))

-- ---- one hint

-- the literals of a clause with such variables have marks
pub clause_has_room : (clause : List Lit) (variables room : ℕ) → All (λ lit. variable_of lit < variables) clause → variables * 2 ≤ room → All (λ lit. lit.0 < room) clause
clause_has_room clause variables room below fits k d lt = number_below (get_or clause k d) variables room (below k d lt) fits

-- the unit literal of a clause with such variables has a mark in the other sign
pub unit_has_room : (clause : List Lit) (unit : Lit) (variables room : ℕ) → Contains clause unit → All (λ lit. variable_of lit < variables) clause → variables * 2 ≤ room → (negated unit).0 < room
unit_has_room clause unit variables room within below fits =
    negated_below unit variables room (All-contains (λ lit. variable_of lit < variables) clause unit below within) fits

pub goes_on : (known : List (List Lit)) (false_ clause : List Lit) (hint : ℕ) (unit : Lit) → IsNamed known hint clause → Stands false_ clause (OneLeft unit) → GoesOn known false_ (negated unit ∷ false_) hint
goes_on known false_ clause hint unit named stands = record { rest = λ next hints. unit_hint known false_ clause hint next hints unit named stands.0 stands.1 stands.2 }

pub stops_false : (known : List (List Lit)) (false_ clause : List Lit) (hint : ℕ) → IsNamed known hint clause → Stands false_ clause AllFalse → Stops known false_ hint
stops_false known false_ clause hint named stands = record { never = λ next hints. false_hint known false_ clause hint next hints named stands }

pub stops_open : (known : List (List Lit)) (false_ clause : List Lit) (hint : ℕ) → IsNamed known hint clause → Stands false_ clause TwoLeft → Stops known false_ hint
stops_open known false_ clause hint named stands =
    record { never = λ next hints. two_open known false_ clause hint next hints stands.0 stands.1 named stands.2 stands.3 stands.4 stands.5 stands.6 }

pub stops_unnamed : (known : List (List Lit)) (false_ : List Lit) (hint : ℕ) → ((clause : List Lit) → IsNamed known hint clause → ⊥) → Stops known false_ hint
stops_unnamed known false_ hint none = record { never = λ next hints leads. none leads.0 leads.2 }

-- ---- the last hint

pub last_leads : (known : List (List Lit)) (false_ clause : List Lit) (hint : ℕ) → IsNamed known hint clause → Stands false_ clause AllFalse → Leads known false_ (hint ∷ [])
last_leads known false_ clause hint named stands = record { leads = (clause, named, stands) }

-- where the clause of the last hint stands so, the hint leads nowhere
pub last_stays : (known : List (List Lit)) (false_ clause : List Lit) (hint : ℕ) (standing : Standing) → IsNamed known hint clause → Stands false_ clause standing → Leads known false_ (hint ∷ []) → standing ≡ AllFalse
last_stays known false_ clause hint AllFalse named stands leads = refl
last_stays known false_ clause hint (OneLeft unit) named stands leads =
    let same : leads.leads.0 ≡ clause = same_named known hint leads.leads.0 clause leads.leads.1 named in
    absurd (stands.1 (All-contains (Contains false_) clause unit (subst (λ (c : List Lit). All (Contains false_) c) same leads.leads.2) stands.0))
last_stays known false_ clause hint TwoLeft named stands leads =
    let same : leads.leads.0 ≡ clause = same_named known hint leads.leads.0 clause leads.leads.1 named in
    absurd (stands.4 (All-contains (Contains false_) clause stands.0 (subst (λ (c : List Lit). All (Contains false_) c) same leads.leads.2) stands.2))

-- ---- the clause of a step

pub proper_none : (variables : ℕ) → IsProper variables []
proper_none variables = record { one_sign = λ k d lt. absurd (omega (arith, lt)); variables = λ k d lt. absurd (omega (arith, lt)) }

-- a clause with one literal more, whose negation does not stand in it
pub proper_push : (variables : ℕ) (clause : List Lit) (lit : Lit) → IsProper variables clause → variable_of lit < variables → (Contains clause (negated lit) → ⊥) → IsProper variables (clause ++ lit ∷ [])
proper_push variables clause lit proper below apart = record {
  one_sign = All-push (λ l. Contains (clause ++ lit ∷ []) (negated l) → ⊥) clause lit
      (λ k d lt within. ⊎_elim
      (λ old. proper.one_sign k d lt old)
      (λ same. apart (subst (Contains clause) (sym (ap negated same ∙ negated-negated (get_or clause k d))) (Contains-get_or clause k d lt)))
      (Contains-push_cases clause lit (negated (get_or clause k d)) within))
      (λ within. ⊎_elim apart (λ same. ne_negated lit same) (Contains-push_cases clause lit (negated lit) within));
  variables = All-push (λ l. variable_of l < variables) clause lit proper.variables below;
}

-- a mark in front is a mark at the end
pub mark_end : (marks : Marks) (clause : List Lit) (lit : Lit) → Mark marks (lit ∷ clause) → Mark marks (clause ++ lit ∷ [])
mark_end marks clause lit mark = record {
  told = λ other lt. (
    λ stamped. ⊎_elim (λ (same : other ≡ lit). subst (Contains (clause ++ lit ∷ [])) (sym same) (Contains-push clause lit)) (λ (old : Contains clause other). Contains-append_left clause (lit ∷ []) other old) (contained_cases lit other clause ((mark.told other lt).0 stamped)),
    λ within. (mark.told other lt).1 (⊎_elim (λ (old : Contains clause other). rest_contained lit other clause old) (λ (same : lit ≡ other). here_in_front clause lit other (sym same)) (Contains-push_cases clause lit other within)),
  );
}

-- one turn: the front of the clause with its next literal
pub proper_turn : (variables : ℕ) (clause : List Lit) (i : ℕ) (d : Lit) → i < length clause → IsProper variables (take i clause) → variable_of (get_or clause i d) < variables → (Contains (take i clause) (negated (get_or clause i d)) → ⊥) → IsProper variables (take (i + 1) clause)
proper_turn variables clause i d lt proper below apart =
    subst (IsProper variables) (sym (take_more clause i d lt)) (proper_push variables (take i clause) (get_or clause i d) proper below apart)

pub mark_turn : (marks : Marks) (clause : List Lit) (i : ℕ) (d : Lit) → i < length clause → Mark marks (get_or clause i d ∷ take i clause) → Mark marks (take (i + 1) clause)
mark_turn marks clause i d lt mark = subst (Mark marks) (sym (take_more clause i d lt)) (mark_end marks (take i clause) (get_or clause i d) mark)

-- a literal of a variable past the bound, or one whose negation stands before it, makes the clause improper
pub improper_variable : (variables : ℕ) (clause : List Lit) (i : ℕ) (d : Lit) → i < length clause → variables ≤ variable_of (get_or clause i d) → IsProper variables clause → ⊥
improper_variable variables clause i d lt past proper = let below = proper.variables i d lt in omega arith

pub improper_sign : (variables : ℕ) (clause : List Lit) (i : ℕ) (d : Lit) → i < length clause → Contains (take i clause) (negated (get_or clause i d)) → IsProper variables clause → ⊥
improper_sign variables clause i d lt within proper =
    proper.one_sign i d lt (subst (λ (c : List Lit). Contains c (negated (get_or clause i d))) (take-append-drop i clause) (Contains-append_left (take i clause) (drop i clause) (negated (get_or clause i d)) within))

-- ---- the hints of a step

-- a truth value is one alone
pub no_truth : {A : Type 0} → false ≡ true → A
no_truth e = absurd cc

pub one_is_left : (unit : Lit) → OneLeft unit ≡ AllFalse → ⊥
one_is_left unit e = cc

pub two_are_left : TwoLeft ≡ AllFalse → ⊥
two_are_left e = cc

-- a list of which a test said that it is not empty
pub not_empty : {X : Type 0} (test : Bool) (xs : List X) → test ≡ eqb (length xs) 0 → test ≡ false → xs ≡ [] → ⊥
not_empty test xs is fails empty =
    let none : eqb (length xs) 0 ≡ true = ap (λ ys. eqb (length ys) 0) empty in
    no_truth (sym fails ∙ is ∙ none)

pub some_items : {X : Type 0} (test : Bool) (xs : List X) → test ≡ eqb (length xs) 0 → test ≡ false → 0 < length xs
some_items test [] is fails = no_truth (sym fails ∙ is)
some_items test (x ∷ xs) is fails = omega arith

-- no hints lead nowhere
pub none_leads : (known : List (List Lit)) (false_ : List Lit) (hints : List ℕ) → length hints ≡ 0 → Leads known false_ hints → ⊥
none_leads known false_ [] e leads = leads.leads
none_leads known false_ (hint ∷ hints) e leads = absurd (omega (arith, e))

two_at : (hints : List ℕ) (i d : ℕ) → i + 1 < length hints → drop i hints ≡ get_or hints i d ∷ get_or hints (i + 1) d ∷ drop (i + 1 + 1) hints
two_at hints i d lt = drop_more hints i d (omega arith) ∙ ap (λ (rest : List ℕ). get_or hints i d ∷ rest) (drop_more hints (i + 1) d lt)

-- one turn: a hint that is not the last, behind which the check goes on
pub hint_turn : (known : List (List Lit)) (false_ more : List Lit) (hints : List ℕ) (i d : ℕ) → i + 1 < length hints → GoesOn known false_ more (get_or hints i d)
    → Leads known false_ (drop i hints) ↔ Leads known more (drop (i + 1) hints)
hint_turn known false_ more hints i d lt goes =
    let here = two_at hints i d lt in
    let there = drop_more hints (i + 1) d lt in
    let step = goes.rest (get_or hints (i + 1) d) (drop (i + 1 + 1) hints) in (
      λ leads. record { leads = subst (LeadsToFalse known more) (sym there) (step.0 (subst (LeadsToFalse known false_) here leads.leads)) },
      λ leads. record { leads = subst (LeadsToFalse known false_) (sym here) (step.1 (subst (LeadsToFalse known more) there leads.leads)) },
    )

-- a hint that is not the last, behind which none goes on
pub hint_stops : (known : List (List Lit)) (false_ : List Lit) (hints : List ℕ) (i d : ℕ) → i + 1 < length hints → Stops known false_ (get_or hints i d) → Leads known false_ (drop i hints) → ⊥
hint_stops known false_ hints i d lt stops leads =
    stops.never (get_or hints (i + 1) d) (drop (i + 1 + 1) hints) (subst (LeadsToFalse known false_) (two_at hints i d lt) leads.leads)

-- the last hint alone
pub hint_at_end : (hints : List ℕ) (i : ℕ) → length hints - 1 ≤ i → i ≤ length hints - 1 → 0 < length hints → drop i hints ≡ get_or hints (length hints - 1) 0 ∷ []
hint_at_end hints i low high some =
    let at : i ≡ length hints - 1 = omega arith in
    ap (λ (n : ℕ). drop n hints) at ∙ drop_more hints (length hints - 1) 0 (omega arith) ∙ ap (λ (rest : List ℕ). get_or hints (length hints - 1) 0 ∷ rest) (drop_all (length hints - 1 + 1) hints (omega arith))

-- ---- the steps of a log

-- the clauses of a log that is by its hints have such variables
pub log_below : (formula : Cnf) (steps : List LogStep) → All (λ clause. All (λ lit. variable_of lit < formula.variables) clause) formula.clauses → AreByHints formula [] steps → AreBelow formula.variables (known_clauses formula steps)
log_below formula steps below are = go [] steps (subst (AreBelow formula.variables) (sym (append-nil formula.clauses)) below) are
  where
    go : (earlier steps : List LogStep) → AreBelow formula.variables (known_clauses formula earlier) → AreByHints formula earlier steps → AreBelow formula.variables (known_clauses formula (earlier ++ steps))
    go earlier [] known are = subst (λ (e : List LogStep). AreBelow formula.variables (known_clauses formula e)) (sym (append-nil earlier)) known
    go earlier (step ∷ steps) known are =
        let more : AreBelow formula.variables (known_clauses formula (earlier ++ step ∷ [])) =
        subst (AreBelow formula.variables) (sym (known_push formula earlier step))
        (All-push (λ clause. All (λ lit. variable_of lit < formula.variables) clause) (known_clauses formula earlier) step.clause known are.0.variables) in
        subst (λ (e : List LogStep). AreBelow formula.variables (known_clauses formula e)) (append_assoc earlier (step ∷ []) steps) (go (earlier ++ step ∷ []) steps more are.1)

-- one turn: the front of a log with its next step
pub steps_turn : (formula : Cnf) (steps : List LogStep) (i : ℕ) (step : LogStep) → i < length steps → step ≡ get_or steps i step → AreByHints formula [] (take i steps) → IsByHints formula (take i steps) step → AreByHints formula [] (take (i + 1) steps)
steps_turn formula steps i step lt is are own =
    subst (AreByHints formula []) (sym (take_more steps i step lt)) (by_hints_push formula [] (take i steps) (get_or steps i step) are (subst (IsByHints formula (take i steps)) is own))

-- a step that is not by its hints is the first bad one
pub first_bad : (formula : Cnf) (steps : List LogStep) (i : ℕ) (step : LogStep) → i < length steps → step ≡ get_or steps i step → AreByHints formula [] (take i steps) → (IsByHints formula (take i steps) step → ⊥) → IsFirstBad formula steps i
first_bad formula steps i step lt is are bad = record {
  within = omega arith;
  before = are;
  bad = λ other within own. bad (subst (IsByHints formula (take i steps)) (get_or_default steps i other step within ∙ sym is) own);
  none_empty = λ e. absurd (omega arith);
}

-- a log whose steps are all by their hints, and none of which is empty
pub none_refutes : (formula : Cnf) (steps : List LogStep) (i : ℕ) → i ≤ length steps → length steps ≤ i → AreByHints formula [] (take i steps) → (Any (λ step. step.clause ≡ []) steps → ⊥) → IsFirstBad formula steps (length steps)
none_refutes formula steps i low high are none = record {
  within = omega arith;
  before = subst (AreByHints formula []) (take_all i steps high ∙ sym (take_all (length steps) steps (omega arith))) are;
  bad = λ other within. absurd (omega (arith, within));
  none_empty = λ e. none;
}

pub some_refutes : (formula : Cnf) (steps : List LogStep) (i : ℕ) → length steps ≤ i → AreByHints formula [] (take i steps) → Any (λ step. step.clause ≡ []) steps → Refutes formula steps
some_refutes formula steps i high are some = record { steps = subst (AreByHints formula []) (take_all i steps high) are; empty = some }
