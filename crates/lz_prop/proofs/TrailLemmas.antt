-- Each step of a trail keeps what holds of every trail.
use Rattle.std.proofs.Common.{◌≡◌, ◌≢◌, ℕ, zero, suc, ◌<◌, ◌≤◌, inl, inr, ⊎_elim, Bool, true, cond, ltb, List, [], ◌∷◌, ◌++◌, length, get_or, take, Option, Some, None, IsSome, IfSome, refl, sym, ◌∙◌, ap, subst, arith}
use Rattle.std.specs.List.{All, AllPairs, Contains, filter}
use Rattle.std.proofs.lemmas.Bool.{lt-ltb, le-ltb, cases_lt}
use Rattle.std.proofs.lemmas.List.{take-append-le, length-append, get_or_append_left, append-nil}
use Rattle.std.proofs.Math.Seq.{get_or-append_seam, take-append_seam}
use Rattle.std.proofs.lemmas.List.Elements.{All-push, Contains-get_or, Contains-append_left, Contains-push, filter-append}
use Rattle.std.proofs.lemmas.List.Quantifiers.{all_pairs_push}
use Rattle.lz_cnf.specs.declared.clause.Lit.{Lit}
use Rattle.lz_cnf.specs.declared.clause.Cnf.{Cnf}
use Rattle.lz_cnf.specs.Models.{variable_of, IsFormula}
use Rattle.lz_cnf.specs.Partial.{IsUnassigned, IsOpen, IsQuiet, IsNamed}
use Rattle.lz_cnf.proofs.LitLemmas.{same_variable}
use Rattle.lz_prop.specs.Trail.{Entry, TrailState, IsTrail, RestsOn, HasReason, literals, at_decision, opening, decided, propagated, with_clause, WasOpen}
use Rattle.lz_prop.proofs.LitLemmas.{Contains-map}

-- no entry has the variable of an unassigned literal
fresh_variable : (set : List Entry) (lit : Lit) → IsUnassigned (literals set) lit → (e : Entry) → Contains set e → variable_of e.lit ≡ variable_of lit → ⊥
fresh_variable set lit free e has same =
    ⊎_elim
    (λ h. free.0 (subst (Contains (literals set)) h (Contains-map (λ (x : Entry). x.lit) set e has)))
    (λ h. free.1 (subst (Contains (literals set)) h (Contains-map (λ (x : Entry). x.lit) set e has)))
    (same_variable e.lit lit same)

pub apart_push : (s : TrailState) (e : Entry) → IsTrail s → IsUnassigned (literals s.set) e.lit → AllPairs (λ a b. variable_of a.lit ≢ variable_of b.lit) (s.set ++ e ∷ [])
apart_push s e trail free = all_pairs_push (λ (a b : Entry). variable_of a.lit ≢ variable_of b.lit) s.set e trail.apart
    (λ k d lt. λ same. fresh_variable s.set e.lit free (get_or s.set k d) (Contains-get_or s.set k d lt) same)

reasons_push : (s : TrailState) (e : Entry) → IsTrail s → HasReason s.clauses s.set e
    → (i : ℕ) (d : Entry) → i < length (s.set ++ e ∷ []) → HasReason s.clauses (take i (s.set ++ e ∷ [])) (get_or (s.set ++ e ∷ []) i d)
reasons_push s e trail own i d lt =
    elim (cases_lt i (length s.set)) [
      | inl below ↦
          let same : get_or (s.set ++ e ∷ []) i d ≡ get_or s.set i d = get_or_append_left s.set (e ∷ []) d i below in
          let front : take i (s.set ++ e ∷ []) ≡ take i s.set = take-append-le i s.set (e ∷ []) (omega arith) in
          subst (λ (x : Entry). HasReason s.clauses (take i (s.set ++ e ∷ [])) x) (sym same)
          (subst (λ (front : List Entry). HasReason s.clauses front (get_or s.set i d)) (sym front) (trail.reasons i d below))
      | inr above ↦
          let at : i ≡ length s.set = omega (arith, length-append s.set (e ∷ [])) in
          let same : get_or (s.set ++ e ∷ []) i d ≡ e = ap (λ (n : ℕ). get_or (s.set ++ e ∷ []) n d) at ∙ get_or-append_seam s.set e [] d in
          let front : take i (s.set ++ e ∷ []) ≡ s.set = ap (λ (n : ℕ). take n (s.set ++ e ∷ [])) at ∙ take-append_seam s.set (e ∷ []) in
          subst (λ (x : Entry). HasReason s.clauses (take i (s.set ++ e ∷ [])) x) (sym same)
          (subst (λ (front : List Entry). HasReason s.clauses front e) (sym front) own)
    ]

-- what was true at a decision does not change by an entry of that level or above
at_decision-push : (k : ℕ) (set : List Entry) (e : Entry) → k ≤ e.level → at_decision k (set ++ e ∷ []) ≡ at_decision k set
at_decision-push k set e le =
    let test = le-ltb e.level k le in
    ap literals (filter-append (λ (x : Entry). ltb x.level k) set (e ∷ [])
    ∙ ap (λ (b : Bool). filter (λ (x : Entry). ltb x.level k) set ++ cond b (e ∷ []) []) test
    ∙ append-nil (filter (λ (x : Entry). ltb x.level k) set))

pub filter_all : {X : Type 0} (p : X → Bool) (xs : List X) → All (λ x. p x ≡ true) xs → filter p xs ≡ xs
filter_all p [] all = refl
filter_all p (x ∷ xs) all =
    let here : p x ≡ true = all 0 x (omega arith) in
    let rest : filter p xs ≡ xs = filter_all p xs (λ k d lt. all (suc k) d (omega arith)) in
    ap (λ (b : Bool). cond b (x ∷ filter p xs) (filter p xs)) here ∙ ap (λ (ys : List _). x ∷ ys) rest

-- a literal follows
pub propagated_is_trail : (s : TrailState) (lit : Lit) (number : ℕ) → IsTrail s → variable_of lit < s.variables → IsUnassigned (literals s.set) lit
    → RestsOn s.clauses s.set lit number → IsTrail (propagated s lit number)
propagated_is_trail s lit number trail within free rests =
    let e : Entry = record { lit = lit; level = s.level; reason = Some number } in
    record {
      formula = trail.formula;
      not_empty = trail.not_empty;
      known = All-push (λ x. variable_of x.lit < s.variables) s.set e trail.known within;
      apart = apart_push s e trail free;
      bounded = All-push (λ x. x.level ≤ s.level) s.set e trail.bounded (omega arith);
      rising = all_pairs_push (λ (a b : Entry). a.level ≤ b.level) s.set e trail.rising (λ k d lt. trail.bounded k d lt);
      decisions = λ k lt. let old = trail.decisions k lt in (old.0, Contains-append_left s.set (e ∷ []) old.0 old.1, old.2, old.3);
      firsts = all_pairs_push (λ (a b : Entry). b.reason ≡ None → a.level < b.level) s.set e trail.firsts (λ k d lt none. absurd cc);
      at_zero = All-push (λ x. x.level ≡ 0 → IsSome x.reason) s.set e trail.at_zero (λ _. refl);
      reasons = reasons_push s e trail rests;
      quiet = λ k lt. subst (λ (true_ : List Lit). IsQuiet true_ s.clauses) (sym (at_decision-push (suc k) s.set e (omega arith))) (trail.quiet k lt);
    }

-- a decision where nothing is unit or false
pub decided_is_trail : (s : TrailState) (lit : Lit) → IsTrail s → variable_of lit < s.variables → IsUnassigned (literals s.set) lit
    → IsQuiet (literals s.set) s.clauses → IsTrail (decided s lit)
decided_is_trail s lit trail within free quiet =
    let e : Entry = record { lit = lit; level = suc s.level; reason = None } in
    record {
      formula = trail.formula;
      not_empty = trail.not_empty;
      known = All-push (λ x. variable_of x.lit < s.variables) s.set e trail.known within;
      apart = apart_push s e trail free;
      bounded = All-push (λ x. x.level ≤ suc s.level) s.set e (λ k d lt. let old = trail.bounded k d lt in omega arith) (omega arith);
      rising = all_pairs_push (λ (a b : Entry). a.level ≤ b.level) s.set e trail.rising (λ k d lt. let old = trail.bounded k d lt in omega arith);
      decisions = λ k lt. elim (cases_lt k s.level) [
        | inl below ↦ (let old = trail.decisions k below in (old.0, Contains-append_left s.set (e ∷ []) old.0 old.1, old.2, old.3))
        | inr above ↦ (let at : s.level ≡ k = omega arith in (e, Contains-push s.set e, ap suc at, refl))
      ];
      firsts = all_pairs_push (λ (a b : Entry). b.reason ≡ None → a.level < b.level) s.set e trail.firsts (λ k d lt none. let old = trail.bounded k d lt in omega arith);
      at_zero = All-push (λ x. x.level ≡ 0 → IsSome x.reason) s.set e trail.at_zero (λ zero_. absurd (omega arith));
      reasons = reasons_push s e trail tt;
      quiet = λ k lt. subst (λ (true_ : List Lit). IsQuiet true_ s.clauses) (sym (at_decision-push (suc k) s.set e (omega arith)))
          (elim (cases_lt k s.level) [
            | inl below ↦ trail.quiet k below
            | inr above ↦ subst (λ (true_ : List Lit). IsQuiet true_ s.clauses)
                (sym (ap literals (filter_all (λ (x : Entry). ltb x.level (suc k)) s.set (λ j d l. let old = trail.bounded j d l in lt-ltb (get_or s.set j d).level (suc k) (omega arith)))))
                quiet
          ]);
    }

-- ---- a clause is added

named_more : (clauses : List (List Lit)) (more : List (List Lit)) (number : ℕ) (clause : List Lit) → IsNamed clauses number clause → IsNamed (clauses ++ more) number clause
named_more clauses more zero clause named = named
named_more [] more (suc k) clause named = absurd cc
named_more (c ∷ cs) more (suc zero) clause named = named
named_more (c ∷ cs) more (suc (suc k)) clause named = named_more cs more (suc k) clause named

has_reason_more : (clauses more : List (List Lit)) (before : List Entry) (lit : Lit) (reason : Option ℕ) → IfSome reason (RestsOn clauses before lit) → IfSome reason (RestsOn (clauses ++ more) before lit)
has_reason_more clauses more before lit None h = tt
has_reason_more clauses more before lit (Some number) h =
    record { clause = h.clause; named = named_more clauses more number h.clause h.named; within = h.within; others = h.others }

pub added_is_trail : (s : TrailState) (clause : List Lit) → IsTrail s → All (λ l. variable_of l < s.variables) clause → clause ≢ [] → WasOpen s s.level clause → IsTrail (with_clause s clause)
added_is_trail s clause trail within some open_ = record {
  formula = All-push (λ c. All (λ l. variable_of l < s.variables) c) s.clauses clause trail.formula within;
  not_empty = All-push (λ c. c ≢ []) s.clauses clause trail.not_empty some;
  known = trail.known;
  apart = trail.apart;
  bounded = trail.bounded;
  rising = trail.rising;
  decisions = trail.decisions;
  firsts = trail.firsts;
  at_zero = trail.at_zero;
  reasons = λ i d lt. has_reason_more s.clauses (clause ∷ []) (take i s.set) (get_or s.set i d).lit (get_or s.set i d).reason (trail.reasons i d lt);
  quiet = λ k lt. All-push (IsOpen (at_decision (suc k) s.set)) s.clauses clause (trail.quiet k lt) (open_ k lt);
}

-- the trail of a formula
pub opening_is_trail : (formula : Cnf) → IsFormula formula → All (λ c. c ≢ []) formula.clauses → IsTrail (opening formula)
opening_is_trail formula is_formula not_empty = record {
  formula = is_formula;
  not_empty = not_empty;
  known = λ k d lt. absurd (omega arith);
  apart = λ i j d lt within. absurd (omega arith);
  bounded = λ k d lt. absurd (omega arith);
  rising = λ i j d lt within. absurd (omega arith);
  decisions = λ k lt. absurd (omega arith);
  firsts = λ i j d lt within. absurd (omega arith);
  at_zero = λ k d lt. absurd (omega arith);
  reasons = λ i d lt. absurd (omega arith);
  quiet = λ k lt. absurd (omega arith);
}
