-- The kinds of gates: their clauses hold exactly where the gate has its value.
use Rattle.std.proofs.Common.{◌≡◌, ℕ, ◌+◌, ◌*◌, ◌<◌, ◌≤◌, Bool, true, false, not, ◌&&◌, ◌||◌, List, [], ◌∷◌, ◌++◌, length, refl, sym, ◌∙◌, ap, subst, arith}
use Rattle.std.proofs.lemmas.List.{append_assoc, length-append}
use Rattle.lz_cnf.specs.declared.clause.Lit.{Lit}
use Rattle.lz_cnf.specs.Models.{variable_of, negated}
use Rattle.lz_gates.specs.Circuits.{Circuit, Assignment, value, clause_value, Satisfies, Agree, IsLit, IsBelow, AreBelow, Extends, Makes, choice, xor}
use Rattle.lz_gates.proofs.ExtendingLemmas.{value_agrees, satisfies_back}
use Rattle.lz_gates.proofs.ListsLemmas.{below_two as two, below_three as three}
use Rattle.lz_gates.proofs.GateLemmas.{variable_of-negated, variable_of-positive, value-negated, value-positive, extends_by_value}

-- a new variable, with clauses that hold exactly where it has a value that older variables settle
pub gate_makes : (old new : Circuit) (g : Lit) (added : List (List Lit)) (count : ℕ) (v : Assignment → Bool)
    → g.0 ≡ 2 * old.variables → new.variables ≡ old.variables + 1 → new.clauses ≡ old.clauses ++ added → length added ≤ count
    → AreBelow (old.variables + 1) added
    → ((a b : Assignment) → Agree old.variables a b → v a ≡ v b)
    → ((a : Assignment) → value a g ≡ v a → Satisfies a added)
    → ((a : Assignment) → Satisfies a added → value a g ≡ v a)
    → new.spent ≡ old.spent
    → Makes old new 1 count (λ a. value a g ≡ v a)
gate_makes old new g added count v at more clauses few below settled holds only working =
    let at_n : (a : Assignment) → value a g ≡ a old.variables = λ a. value-positive a g old.variables at in
    let ext : Extends old new = extends_by_value old new added v more clauses (subst (λ (n : ℕ). AreBelow n added) (sym more) below) settled
    (λ a e. holds a (at_n a ∙ e)) (λ a s. sym (at_n a) ∙ only a s) working in
    record {
      extends = ext;
      variables_most = omega arith;
      clauses_most = rw (clauses, length-append) (omega arith);
      says = λ a s. only a (satisfies_back a old.clauses added (subst (Satisfies a) clauses s));
    }

-- two and three literals of variables below n
below_two : (n : ℕ) (p q : Lit) → variable_of p < n → variable_of q < n → IsBelow n (p ∷ q ∷ [])
below_two n p q h k = record { some = omega arith; lits = two n p q h k }

-- three literals of variables below n
below_three : (n : ℕ) {p q r : Lit} → variable_of p < n → variable_of q < n → variable_of r < n → IsBelow n (p ∷ q ∷ r ∷ [])
below_three n {p} {q} {r} h k l = record { some = omega arith; lits = three n p q r h k l }

-- ---- and

-- the clauses of a conjunction hold where the gate has its value
and_holds : (g x y : Bool) → g ≡ (x && y) → ((not g || (x || false)) ≡ true) × (((not g || (y || false)) ≡ true) × (((g || (not x || (not y || false))) ≡ true) × Unit {0}))
and_holds true true true e = (refl, (refl, (refl, tt)))
and_holds true true false e = absurd cc
and_holds true false y e = absurd cc
and_holds false true true e = absurd cc
and_holds false true false e = (refl, (refl, (refl, tt)))
and_holds false false true e = (refl, (refl, (refl, tt)))
and_holds false false false e = (refl, (refl, (refl, tt)))

-- and only there
and_only : (g x y : Bool) → ((not g || (x || false)) ≡ true) → ((not g || (y || false)) ≡ true) → ((g || (not x || (not y || false))) ≡ true) → g ≡ (x && y)
and_only true true true h k l = refl
and_only true true false h k l = cc
and_only true false y h k l = cc
and_only false true true h k l = cc
and_only false true false h k l = refl
and_only false false true h k l = refl
and_only false false false h k l = refl

-- the three clauses make a conjunction
pub and_makes : {old new : Circuit} (l r g : Lit) → g.0 ≡ 2 * old.variables → new.variables ≡ old.variables + 1 → IsLit old l → IsLit old r
    → new.clauses ≡ ((old.clauses ++ (negated g ∷ l ∷ []) ∷ []) ++ (negated g ∷ r ∷ []) ∷ []) ++ (g ∷ negated l ∷ negated r ∷ []) ∷ []
    → new.spent ≡ old.spent
    → Makes old new 1 3 (λ a. value a g ≡ (value a l && value a r))
unfolding Satisfies clause_value AreBelow
and_makes {old} {new} l r g at more l_in r_in clauses working =
    let n = old.variables + 1 in
    let g_n : variable_of g < old.variables + 1 = omega (arith, variable_of-positive g old.variables at) in
    let ng_n : variable_of (negated g) < old.variables + 1 = omega (arith, variable_of-negated g, g_n) in
    let nl_n : variable_of (negated l) < old.variables + 1 = omega (arith, variable_of-negated l) in
    let nr_n : variable_of (negated r) < old.variables + 1 = omega (arith, variable_of-negated r) in
    gate_makes old new g ((negated g ∷ l ∷ []) ∷ (negated g ∷ r ∷ []) ∷ (g ∷ negated l ∷ negated r ∷ []) ∷ []) 3 (λ a. value a l && value a r)
    at more (clauses ∙ append_assoc (old.clauses ++ (negated g ∷ l ∷ []) ∷ []) ((negated g ∷ r ∷ []) ∷ []) ((g ∷ negated l ∷ negated r ∷ []) ∷ []) ∙ append_assoc old.clauses ((negated g ∷ l ∷ []) ∷ []) ((negated g ∷ r ∷ []) ∷ (g ∷ negated l ∷ negated r ∷ []) ∷ []))
    (omega arith)
    (below_two n _ _ ng_n (omega arith), (below_two n _ _ ng_n (omega arith), (below_three n g_n nl_n nr_n, tt)))
    (λ a b same. ap (λ (x : Bool). x && value a r) (value_agrees old.variables a b l same l_in) ∙ ap (λ (x : Bool). value b l && x) (value_agrees old.variables a b r same r_in))
    (λ a e. rw (value-negated a g, value-negated a l, value-negated a r) (and_holds (value a g) (value a l) (value a r) e))
    (λ a s. let t = rw (value-negated a g, value-negated a l, value-negated a r) at s in and_only (value a g) (value a l) (value a r) t.0 t.1.0 t.1.1.0) working

-- ---- xor

-- the clauses of a difference hold where the gate has its value
xor_holds : (g x y : Bool) → g ≡ xor x y → ((not g || (x || (y || false))) ≡ true) × (((not g || (not x || (not y || false))) ≡ true) × (((g || (not x || (y || false))) ≡ true) × (((g || (x || (not y || false))) ≡ true) × Unit {0})))
xor_holds true true true e = absurd cc
xor_holds true true false e = (refl, (refl, (refl, (refl, tt))))
xor_holds true false true e = (refl, (refl, (refl, (refl, tt))))
xor_holds true false false e = absurd cc
xor_holds false true true e = (refl, (refl, (refl, (refl, tt))))
xor_holds false true false e = absurd cc
xor_holds false false true e = absurd cc
xor_holds false false false e = (refl, (refl, (refl, (refl, tt))))

-- and only there
xor_only : (g x y : Bool) → ((not g || (x || (y || false))) ≡ true) → ((not g || (not x || (not y || false))) ≡ true) → ((g || (not x || (y || false))) ≡ true) → ((g || (x || (not y || false))) ≡ true) → g ≡ xor x y
xor_only true true true h k l m = cc
xor_only true true false h k l m = refl
xor_only true false true h k l m = refl
xor_only true false false h k l m = cc
xor_only false true true h k l m = refl
xor_only false true false h k l m = cc
xor_only false false true h k l m = cc
xor_only false false false h k l m = refl

-- the four clauses make a difference
pub xor_makes : {old new : Circuit} (l r g : Lit) → g.0 ≡ 2 * old.variables → new.variables ≡ old.variables + 1 → IsLit old l → IsLit old r
    → new.clauses ≡ (((old.clauses ++ (negated g ∷ l ∷ r ∷ []) ∷ []) ++ (negated g ∷ negated l ∷ negated r ∷ []) ∷ []) ++ (g ∷ negated l ∷ r ∷ []) ∷ []) ++ (g ∷ l ∷ negated r ∷ []) ∷ []
    → new.spent ≡ old.spent
    → Makes old new 1 4 (λ a. value a g ≡ xor (value a l) (value a r))
unfolding Satisfies clause_value AreBelow
xor_makes {old} {new} l r g at more l_in r_in clauses working =
    let n = old.variables + 1 in
    let g_n : variable_of g < old.variables + 1 = omega (arith, variable_of-positive g old.variables at) in
    let ng_n : variable_of (negated g) < old.variables + 1 = omega (arith, variable_of-negated g, g_n) in
    let nl_n : variable_of (negated l) < old.variables + 1 = omega (arith, variable_of-negated l) in
    let nr_n : variable_of (negated r) < old.variables + 1 = omega (arith, variable_of-negated r) in
    let l_n : variable_of l < old.variables + 1 = omega arith in
    let r_n : variable_of r < old.variables + 1 = omega arith in
    gate_makes old new g ((negated g ∷ l ∷ r ∷ []) ∷ (negated g ∷ negated l ∷ negated r ∷ []) ∷ (g ∷ negated l ∷ r ∷ []) ∷ (g ∷ l ∷ negated r ∷ []) ∷ []) 4 (λ a. xor (value a l) (value a r))
    at more (simp append_assoc at clauses)
    (omega arith)
    (below_three n ng_n l_n r_n, (below_three n ng_n nl_n nr_n, (below_three n g_n nl_n r_n, (below_three n g_n l_n nr_n, tt))))
    (λ a b same. ap (λ (x : Bool). xor x (value a r)) (value_agrees old.variables a b l same l_in) ∙ ap (λ (x : Bool). xor (value b l) x) (value_agrees old.variables a b r same r_in))
    (λ a e. rw (value-negated a g, value-negated a l, value-negated a r) (xor_holds (value a g) (value a l) (value a r) e))
    (λ a s. let t = rw (value-negated a g, value-negated a l, value-negated a r) at s in xor_only (value a g) (value a l) (value a r) t.0 t.1.0 t.1.1.0 t.1.1.1.0) working

-- ---- choice

-- the clauses of a choice hold where the gate has its value
choice_holds : (g c x y : Bool) → g ≡ choice c x y → ((not c || (not x || (g || false))) ≡ true) × (((not c || (x || (not g || false))) ≡ true) × (((c || (not y || (g || false))) ≡ true) × (((c || (y || (not g || false))) ≡ true) × (((not x || (not y || (g || false))) ≡ true) × (((x || (y || (not g || false))) ≡ true) × Unit {0})))))
choice_holds true true true true e = (refl, (refl, (refl, (refl, (refl, (refl, tt))))))
choice_holds true true true false e = (refl, (refl, (refl, (refl, (refl, (refl, tt))))))
choice_holds true true false y e = absurd cc
choice_holds true false true true e = (refl, (refl, (refl, (refl, (refl, (refl, tt))))))
choice_holds true false false true e = (refl, (refl, (refl, (refl, (refl, (refl, tt))))))
choice_holds true false x false e = absurd cc
choice_holds false true true y e = absurd cc
choice_holds false true false true e = (refl, (refl, (refl, (refl, (refl, (refl, tt))))))
choice_holds false true false false e = (refl, (refl, (refl, (refl, (refl, (refl, tt))))))
choice_holds false false x true e = absurd cc
choice_holds false false true false e = (refl, (refl, (refl, (refl, (refl, (refl, tt))))))
choice_holds false false false false e = (refl, (refl, (refl, (refl, (refl, (refl, tt))))))

-- and only there
choice_only : (g c x y : Bool) → ((not c || (not x || (g || false))) ≡ true) → ((not c || (x || (not g || false))) ≡ true) → ((c || (not y || (g || false))) ≡ true) → ((c || (y || (not g || false))) ≡ true) → g ≡ choice c x y
choice_only true true true y h k l m = refl
choice_only true true false y h k l m = cc
choice_only true false x true h k l m = refl
choice_only true false x false h k l m = cc
choice_only false true true y h k l m = cc
choice_only false true false y h k l m = refl
choice_only false false x true h k l m = cc
choice_only false false x false h k l m = refl

-- the six clauses make a choice
pub choice_makes : {old new : Circuit} (c l r g : Lit) → g.0 ≡ 2 * old.variables → new.variables ≡ old.variables + 1 → IsLit old c → IsLit old l → IsLit old r
    → new.clauses ≡ (((((old.clauses ++ (negated c ∷ negated l ∷ g ∷ []) ∷ []) ++ (negated c ∷ l ∷ negated g ∷ []) ∷ []) ++ (c ∷ negated r ∷ g ∷ []) ∷ []) ++ (c ∷ r ∷ negated g ∷ []) ∷ []) ++ (negated l ∷ negated r ∷ g ∷ []) ∷ []) ++ (l ∷ r ∷ negated g ∷ []) ∷ []
    → new.spent ≡ old.spent
    → Makes old new 1 6 (λ a. value a g ≡ choice (value a c) (value a l) (value a r))
unfolding Satisfies clause_value AreBelow
choice_makes {old} {new} c l r g at more c_in l_in r_in clauses working =
    let n = old.variables + 1 in
    let g_n : variable_of g < old.variables + 1 = omega (arith, variable_of-positive g old.variables at) in
    let ng_n : variable_of (negated g) < old.variables + 1 = omega (arith, variable_of-negated g, g_n) in
    let nc_n : variable_of (negated c) < old.variables + 1 = omega (arith, variable_of-negated c) in
    let nl_n : variable_of (negated l) < old.variables + 1 = omega (arith, variable_of-negated l) in
    let nr_n : variable_of (negated r) < old.variables + 1 = omega (arith, variable_of-negated r) in
    let c_n : variable_of c < old.variables + 1 = omega arith in
    let l_n : variable_of l < old.variables + 1 = omega arith in
    let r_n : variable_of r < old.variables + 1 = omega arith in
    gate_makes old new g ((negated c ∷ negated l ∷ g ∷ []) ∷ (negated c ∷ l ∷ negated g ∷ []) ∷ (c ∷ negated r ∷ g ∷ []) ∷ (c ∷ r ∷ negated g ∷ []) ∷ (negated l ∷ negated r ∷ g ∷ []) ∷ (l ∷ r ∷ negated g ∷ []) ∷ []) 6 (λ a. choice (value a c) (value a l) (value a r))
    at more (simp append_assoc at clauses)
    (omega arith)
    (below_three n nc_n nl_n g_n, (below_three n nc_n l_n ng_n, (below_three n c_n nr_n g_n, (below_three n c_n r_n ng_n, (below_three n nl_n nr_n g_n, (below_three n l_n r_n ng_n, tt))))))
    (λ a b same. ap (λ (x : Bool). choice x (value a l) (value a r)) (value_agrees old.variables a b c same c_in) ∙ ap (λ (x : Bool). choice (value b c) x (value a r)) (value_agrees old.variables a b l same l_in) ∙ ap (λ (x : Bool). choice (value b c) (value b l) x) (value_agrees old.variables a b r same r_in))
    (λ a e. rw (value-negated a c, value-negated a g, value-negated a l, value-negated a r) (choice_holds (value a g) (value a c) (value a l) (value a r) e))
    (λ a s. let t = rw (value-negated a c, value-negated a g, value-negated a l, value-negated a r) at s in choice_only (value a g) (value a c) (value a l) (value a r) t.0 t.1.0 t.1.1.0 t.1.1.1.0) working
