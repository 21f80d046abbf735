-- The truth test.
use Rattle.std.proofs.Common.{◌≡◌, ℕ, zero, suc, ◌+◌, ◌*◌, ◌<◌, ◌≤◌, Bool, true, false, not, ◌||◌, eqb, List, [], ◌∷◌, ◌++◌, length, get_or, take, refl, sym, ◌∙◌, ap, arith}
use Rattle.std.specs.List.{All}
use Rattle.std.proofs.lemmas.List.{append-nil, append_assoc, length-append, take_more, take_all}
use Rattle.std.proofs.lemmas.Bool.{or_parts}
use Rattle.std.proofs.lemmas.Bool.Decides.{nat_tests}
use Rattle.lz_cnf.specs.declared.clause.Lit.{Lit}
use Rattle.lz_cnf.specs.Models.{variable_of, negated}
use Rattle.lz_gates.specs.Circuits.{Circuit, Assignment, value, clause_value, AreBelow, AreLits, Satisfies, Makes}
use Rattle.lz_gates.proofs.ExtendingLemmas.{clause_agrees, satisfies_front, satisfies_back, satisfies_append, below_append, makes_so}
use Rattle.lz_gates.proofs.GateLemmas.{value-negated, variable_of-negated, variable_of-positive}
use Rattle.lz_gates.proofs.GateKindsLemmas.{gate_makes}
use Rattle.lz_gates.proofs.ListsLemmas.{below_two}
use Rattle.lz_arith.specs.Bits.{bit, word}

-- each bit makes the test true
abbrev pub rows : Lit → List Lit → List (List Lit)
rows t [] = []
rows t (lit ∷ lits) = (negated lit ∷ t ∷ []) ∷ rows t lits

-- the rows of bits and of one more
rows_push : (t : Lit) (xs : List Lit) (y : Lit) → rows t (xs ++ y ∷ []) ≡ rows t xs ++ (negated y ∷ t ∷ []) ∷ []
rows_push t [] y = refl
rows_push t (x ∷ xs) y = ap (λ (cs : List (List Lit)). (negated x ∷ t ∷ []) ∷ cs) (rows_push t xs y)

-- each bit has one row
length-rows : (t : Lit) (xs : List Lit) → length (rows t xs) ≡ length xs
length-rows t [] = refl
length-rows t (x ∷ xs) = ap suc (length-rows t xs)

-- a row is true where the test is
row_true : (x t : Bool) → t ≡ true → (not x || (t || false)) ≡ true
row_true true t e = rw e refl
row_true false t e = refl

-- where the test is true, each row is
rows_true : (a : Assignment) (t : Lit) (xs : List Lit) → value a t ≡ true → Satisfies a (rows t xs)
unfolding Satisfies clause_value
rows_true a t [] e = tt
rows_true a t (x ∷ xs) e = (rw value-negated (row_true (value a x) (value a t) e), rows_true a t xs e)

-- where each bit is false, each row is true
rows_false : (a : Assignment) (t : Lit) (xs : List Lit) → false ≡ clause_value a xs → Satisfies a (rows t xs)
unfolding Satisfies clause_value
rows_false a t [] e = tt
rows_false a t (x ∷ xs) e =
    let f = or_parts (value a x) (clause_value a xs) (sym e) in
    (rw (value-negated, f.0) refl, rows_false a t xs (sym f.1))

-- a true row of a true bit makes the test true
only_true : (x t : Bool) → (not x || (t || false)) ≡ true → x ≡ true → t ≡ true
only_true x true h e = refl
only_true true false h e = h
only_true false false h e = e

-- where one of two makes the test true, it is
either_true : (x v t : Bool) → (x || v) ≡ true → (x ≡ true → t ≡ true) → (v ≡ true → t ≡ true) → t ≡ true
either_true true v t e h k = h refl
either_true false v t e h k = k e

-- a true bit makes the test true
rows_only : (a : Assignment) (t : Lit) (xs : List Lit) → Satisfies a (rows t xs) → clause_value a xs ≡ true → value a t ≡ true
unfolding Satisfies clause_value
rows_only a t [] s e = absurd cc
rows_only a t (x ∷ xs) s e =
    either_true (value a x) (clause_value a xs) (value a t) e (only_true (value a x) (value a t) (rw value-negated at s.0)) (rows_only a t xs s.1)

-- two truth values are equal where each follows from the other
test_same : (t v : Bool) → (t ≡ true → v ≡ true) → (v ≡ true → t ≡ true) → t ≡ v
test_same true v h k = sym (h refl)
test_same false true h k = k refl
test_same false false h k = refl

-- a true test makes some bit true
last_true : (t v : Bool) → (not t || v) ≡ true → t ≡ true → v ≡ true
last_true true v h e = h
last_true false v h e = absurd cc

-- the rows are clauses over the variables
rows_below : (n : ℕ) (t : Lit) (xs : List Lit) → variable_of t < n → All (λ lit. variable_of lit < n) xs → AreBelow n (rows t xs)
unfolding AreBelow
rows_below n t [] h all = tt
rows_below n t (x ∷ xs) h all =
    let first : variable_of (negated x) < n = omega (arith, variable_of-negated x, all 0 x (omega arith)) in
    (record { some = omega arith; lits = below_two n _ _ first h }, rows_below n t xs h (λ k d lt. all (suc k) d (omega arith)))

-- a literal and others of fewer variables
all_more : (n : ℕ) (x : Lit) (xs : List Lit) → variable_of x < n + 1 → All (λ lit. variable_of lit < n) xs → All (λ lit. variable_of lit < n + 1) (x ∷ xs)
all_more n x xs h all zero d lt = h
all_more n x xs h all (suc k) d lt = let p = all k d (omega arith) in omega (arith, p)

-- one more bit makes a word that is not 0
bit_more : (b v : Bool) (w : ℕ) → v ≡ not (eqb w 0) → (b || v) ≡ not (eqb (bit b + 2 * w) 0)
bit_more true v w e = odd
  where
    odd : true ≡ not (eqb (1 + 2 * w) 0)
    odd = grind (arith, nat_tests)
bit_more false v w e = e ∙ ap not half
  where
    half : eqb w 0 ≡ eqb (0 + 2 * w) 0
    half = grind (arith, nat_tests)

-- some bit is true exactly where the word is not 0
pub clause_word : (a : Assignment) (xs : List Lit) → clause_value a xs ≡ not (eqb (word a xs) 0)
unfolding clause_value word
clause_word a [] = refl
clause_word a (x ∷ xs) = bit_more (value a x) (clause_value a xs) (word a xs) (clause_word a xs)

-- the long clause holds where the test has the value of the clause
last_holds : (t v : Bool) → t ≡ v → (not t || v) ≡ true
last_holds true v e = sym e
last_holds false v e = refl

-- so do the rows
rows_hold : (a : Assignment) (t : Lit) (xs : List Lit) (b : Bool) → value a t ≡ b → b ≡ clause_value a xs → Satisfies a (rows t xs)
rows_hold a t xs true e f = rows_true a t xs e
rows_hold a t xs false e f = rows_false a t xs f

-- the rows and the long clause make the truth test
pub truth_test_makes : (old new : Circuit) (t : Lit) (bits : List Lit) → t.0 ≡ 2 * old.variables → new.variables ≡ old.variables + 1 → AreLits old bits
    → new.clauses ≡ (old.clauses ++ rows t bits) ++ (negated t ∷ bits) ∷ [] → new.spent ≡ old.spent
    → Makes old new 1 (length bits + 1) (λ a. value a t ≡ not (eqb (word a bits) 0))
unfolding Satisfies clause_value AreBelow
truth_test_makes old new t bits at more all clauses working =
    let n = old.variables + 1 in
    let t_n : variable_of t < old.variables + 1 = omega (arith, variable_of-positive t old.variables at) in
    let nt_n : variable_of (negated t) < old.variables + 1 = omega (arith, variable_of-negated t, t_n) in
    let wide : All (λ lit. variable_of lit < old.variables + 1) bits = λ k d lt. let p = all k d lt in omega (arith, p) in
    let last : List (List Lit) = (negated t ∷ bits) ∷ [] in
    let made = gate_makes old new t (rows t bits ++ (negated t ∷ bits) ∷ []) (length bits + 1) (λ a. clause_value a bits)
    at more (clauses ∙ append_assoc old.clauses (rows t bits) ((negated t ∷ bits) ∷ []))
    (rw (length-append, length-rows t bits) (omega arith))
    (below_append n (rows t bits) ((negated t ∷ bits) ∷ []) (rows_below n t bits t_n wide) (record { some = omega arith; lits = all_more old.variables (negated t) bits nt_n all }, tt))
    (λ a b same. clause_agrees old.variables a b bits same all)
    (λ a e. satisfies_append a (rows t bits) ((negated t ∷ bits) ∷ []) (rows_hold a t bits (value a t) refl e)
    (rw value-negated (last_holds (value a t) (clause_value a bits) e), tt))
    (λ a s.
    let front = satisfies_front a (rows t bits) ((negated t ∷ bits) ∷ []) s in
    let back = satisfies_back a (rows t bits) ((negated t ∷ bits) ∷ []) s in
    let own = rw value-negated at back.0 in
    test_same (value a t) (clause_value a bits) (last_true (value a t) (clause_value a bits) own) (rows_only a t bits front))
    working in
    makes_so old new 1 1 (length bits + 1) (length bits + 1) _ _ made (omega arith) (omega arith) (λ a s p. p ∙ clause_word a bits)

-- what the loop keeps
pub record Tests (start now : Circuit) (t : Lit) (bits : List Lit) (i : ℕ) : Type 0 where
  pub variables : now.variables ≡ start.variables + 1
  pub clauses : now.clauses ≡ start.clauses ++ rows t (take i bits)

-- before the first bit there is no row
pub tests_none : {start now : Circuit} {t : Lit} {bits : List Lit} → now.variables ≡ start.variables + 1 → now.clauses ≡ start.clauses → Tests start now t bits 0
tests_none {start} e f = record { variables = e; clauses = f ∙ sym (append-nil start.clauses) }

-- one more bit has one more row
pub tests_more : {start now next : Circuit} {t : Lit} {bits : List Lit} {i : ℕ} (d : Lit) → Tests start now t bits i → i < length bits
    → next.variables ≡ now.variables → next.clauses ≡ now.clauses ++ (negated (get_or bits i d) ∷ t ∷ []) ∷ [] → Tests start next t bits (i + 1)
tests_more {start} {t} {bits} {i} d h lt e f = record {
  variables = e ∙ h.variables;
  clauses = f ∙ ap (λ (cs : List (List Lit)). cs ++ (negated (get_or bits i d) ∷ t ∷ []) ∷ []) h.clauses
      ∙ append_assoc start.clauses (rows t (take i bits)) ((negated (get_or bits i d) ∷ t ∷ []) ∷ [])
      ∙ ap (λ (cs : List (List Lit)). start.clauses ++ cs) (sym (rows_push t (take i bits) (get_or bits i d)))
      ∙ ap (λ (xs : List Lit). start.clauses ++ rows t xs) (sym (take_more bits i d lt));
}

-- after all bits the long clause ends the test
pub tests_all : {start now next : Circuit} {t : Lit} {bits : List Lit} {i : ℕ} → Tests start now t bits i → length bits ≤ i → t.0 ≡ 2 * start.variables → AreLits start bits
    → next.variables ≡ now.variables → next.clauses ≡ now.clauses ++ (negated t ∷ bits) ∷ [] → next.spent ≡ start.spent
    → Makes start next 1 (length bits + 1) (λ a. value a t ≡ not (eqb (word a bits) 0))
tests_all {start} {next} {t} {bits} {i} h le at all e f working =
    truth_test_makes start next t bits at (e ∙ h.variables) all
    (f ∙ ap (λ (cs : List (List Lit)). cs ++ (negated t ∷ bits) ∷ []) (h.clauses ∙ ap (λ (xs : List Lit). start.clauses ++ rows t xs) (take_all i bits le)))
    working

-- the long clause is over the variables
pub long_clause : {n : ℕ} (t : Lit) (bits : List Lit) → variable_of t < n → All (λ lit. variable_of lit < n) bits → All (λ lit. variable_of lit < n) (negated t ∷ bits)
long_clause t bits h all zero d lt = omega (arith, variable_of-negated t)
long_clause t bits h all (suc k) d lt = all k d (omega arith)
