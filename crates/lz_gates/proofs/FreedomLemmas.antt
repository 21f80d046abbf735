-- How each call keeps the freedom of the fresh variables.
use Rattle.std.proofs.Common.{◌≡◌, ℕ, zero, suc, ◌+◌, ◌<◌, ◌≤◌, true, false, ◌||◌, get_or, List, [], ◌∷◌, ◌++◌, refl, sym, ◌∙◌, ap, subst, arith}
use Rattle.std.specs.List.{All, Contains}
use Rattle.std.proofs.lemmas.List.{get_or_default}
use Rattle.std.proofs.lemmas.List.Elements.{All-append, Contains-append_left, Contains-append_right}
use Rattle.std.proofs.lemmas.Bool.{or_left}
use Rattle.std.proofs.Math.Bool.{or-false}
use Rattle.lz_cnf.specs.declared.clause.Lit.{Lit}
use Rattle.lz_cnf.specs.Models.{variable_of}
use Rattle.lz_gates.specs.Circuits.{Circuit, Assignment, Satisfies, Agree, AreBelow, Extends, first_clauses, value, clause_value}
use Rattle.lz_gates.specs.Freedom.{AgreeOn, AreVariables, IsFree}
use Rattle.lz_gates.proofs.GateLemmas.{value-positive, put, put_same, put_below, agree_one}
use Rattle.lz_gates.proofs.ExtendingLemmas.{satisfies_agrees, satisfies_front, satisfies_back, satisfies_append, below_append, below_more}

-- variables of a circuit are variables of a larger one
variables_more : (old new : Circuit) (xs : List ℕ) → old.variables ≤ new.variables → AreVariables old xs → AreVariables new xs
unfolding AreVariables
variables_more old new [] le h = tt
variables_more old new (x ∷ xs) le h = (let p = h.0 in omega arith, variables_more old new xs le h.1)

-- who agrees on all variables agrees on some
on_agrees : (circuit : Circuit) (xs : List ℕ) (v a b : Assignment) → AreVariables circuit xs → Agree circuit.variables a b → AgreeOn xs v a → AgreeOn xs v b
unfolding AreVariables AgreeOn Agree
on_agrees circuit [] v a b h same on = tt
on_agrees circuit (x ∷ xs) v a b h same on = (on.0 ∙ same x h.0, on_agrees circuit xs v a b h.1 same on.1)

-- a fresh variable may have any value beside the others
pub free_fresh : (old new : Circuit) (fresh : List ℕ) (gates : List (List Lit)) → IsFree old fresh gates → new.variables ≡ old.variables + 1 → new.clauses ≡ old.clauses → IsFree new (old.variables ∷ fresh) gates
unfolding AreVariables AgreeOn
free_fresh old new fresh gates h more same_clauses = record {
  kept = subst (λ (cs : List (List Lit)). All (Contains cs) gates) (sym same_clauses) h.kept;
  fresh_in = (omega arith, variables_more old new fresh (omega arith) h.fresh_in);
  below = below_more old.variables new.variables gates (omega arith) h.below;
  some = λ v.
      let a = h.some v in
      let n = old.variables in
      let b : Assignment = put a.0 n (v n) in
      let same : Agree old.variables a.0 b = put_below a.0 n (v n) in (
        b,
        satisfies_agrees old.variables a.0 b gates same h.below a.1,
        (sym (put_same a.0 n (v n)), on_agrees old fresh v a.0 b h.fresh_in same a.2),
      );
  once = λ a b on s t. agree_one old.variables new.variables a b more (h.once a b on.1 s t) on.0;
}

-- a gate is settled by what settled the others
pub free_gate : (old new : Circuit) (fresh : List ℕ) (gates : List (List Lit)) (e : Extends old new) → IsFree old fresh gates → IsFree new fresh (gates ++ e.added)
free_gate old new fresh gates e h = record {
  kept = subst (λ (cs : List (List Lit)). All (Contains cs) (gates ++ e.added)) (sym e.clauses)
      (All-append (Contains (old.clauses ++ e.added)) gates e.added
      (λ k d lt. Contains-append_left old.clauses e.added (get_or gates k d) (h.kept k d lt))
      (λ k d lt. Contains-append_right old.clauses e.added (get_or e.added k d) (k, lt, get_or_default e.added k (get_or e.added k d) d lt)));
  fresh_in = variables_more old new fresh e.more h.fresh_in;
  below = below_append new.variables gates e.added (below_more old.variables new.variables gates e.more h.below) e.below;
  some = λ v.
      let a = h.some v in
      let b = e.extended a.0 in
      (b.0, satisfies_append b.0 gates e.added (satisfies_agrees old.variables a.0 b.0 gates b.1 h.below a.1) b.2, on_agrees old fresh v a.0 b.0 h.fresh_in b.1 a.2);
  once = λ a b on s t.
      e.once a b (h.once a b on (satisfies_front a gates e.added s) (satisfies_front b gates e.added t)) (satisfies_back a gates e.added s) (satisfies_back b gates e.added t);
}

-- a required clause is left aside
pub free_require : (old new : Circuit) (fresh : List ℕ) (gates : List (List Lit)) (clause : List Lit) → IsFree old fresh gates → new.variables ≡ old.variables → new.clauses ≡ old.clauses ++ clause ∷ [] → IsFree new fresh gates
free_require old new fresh gates clause h same more = record {
  kept = subst (λ (cs : List (List Lit)). All (Contains cs) gates) (sym more) (λ k d lt. Contains-append_left old.clauses (clause ∷ []) (get_or gates k d) (h.kept k d lt));
  fresh_in = variables_more old new fresh (omega arith) h.fresh_in;
  below = subst (λ (n : ℕ). AreBelow n gates) (sym same) h.below;
  some = h.some;
  once = λ a b on s t. subst (λ (n : ℕ). Agree n a b) (sym same) (h.once a b on s t);
}

-- a new builder has no fresh variable, and its clause settles variable 0
pub free_start : (start : Circuit) → start.variables ≡ 1 → start.clauses ≡ first_clauses → IsFree start [] first_clauses
unfolding AreVariables AgreeOn AreBelow Satisfies clause_value Agree
free_start start one first = record {
  kept = subst (λ (cs : List (List Lit)). All (Contains cs) first_clauses) (sym first) (λ k d lt. (k, lt, get_or_default first_clauses k (get_or first_clauses k d) d lt));
  fresh_in = tt;
  below = (record { some = omega arith; lits = first_below }, tt);
  some = λ v. ((λ x. true), (or_left _ false (value-positive (λ x. true) (record { 0 = 0 }) 0 refl), tt), tt);
  once = λ a b on s t x lt.
      let at : x ≡ 0 = omega arith in
      let here : (c : Assignment) → (value c (record { 0 = 0 }) || false) ≡ true → c 0 ≡ true =
      λ c e. sym (value-positive c (record { 0 = 0 }) 0 refl) ∙ sym (or-false _) ∙ e in
      ap a at ∙ here a s.0 ∙ sym (here b t.0) ∙ ap b (sym at);
}
  where
    first_below : (k : ℕ) (d : Lit) → k < 1 → variable_of (get_or (record { 0 = 0 } ∷ []) k d) < start.variables
    first_below zero d lt = omega arith
    first_below (suc k) d lt = absurd (omega arith)
