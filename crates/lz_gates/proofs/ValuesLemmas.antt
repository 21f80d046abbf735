-- Models as lists of values, and as assignments; what a circuit gives as a formula.
use Rattle.std.proofs.Common.{◌≡◌, ℕ, zero, suc, ◌<◌, Bool, true, false, not, ◌||◌, cond, List, [], ◌∷◌, length, get_or, Some, slice_get, refl, sym, ◌∙◌, ap, subst, arith}
use Rattle.std.specs.List.{All, Any}
use Rattle.std.proofs.lemmas.Bool.{or_right}
use Rattle.lz_cnf.specs.declared.clause.Lit.{Lit}
use Rattle.lz_cnf.specs.declared.clause.Cnf.{Cnf}
use Rattle.lz_cnf.specs.Models.{variable_of, is_negated, IsTrueLit, IsModel}
use Rattle.lz_gates.specs.Circuits.{Assignment, value, clause_value, Satisfies, AreBelow}
use Rattle.lz_gates.specs.Values.{assigned, listed}

-- a value that is read is the one in the list
pub read_value : (values : List Bool) (i : ℕ) (v : Bool) → slice_get values i ≡ Some v → get_or values i false ≡ v
read_value [] i v e = absurd cc
read_value (x ∷ xs) zero v e = cc
read_value (x ∷ xs) (suc i) v e = read_value xs i v e

-- a value in its own sign is true
sign_true : (b : Bool) → cond b (not (not b)) (not b) ≡ true
sign_true true = refl
sign_true false = refl

-- a literal that is true by a list of values is true by its assignment
lit_true : (values : List Bool) (lit : Lit) → IsTrueLit values lit → value (assigned values) lit ≡ true
unfolding value
lit_true values lit h =
    ap (λ (v : Bool). cond (is_negated lit) (not v) v) (read_value values (variable_of lit) (not (is_negated lit)) h) ∙ sign_true (is_negated lit)

-- a clause with a true literal is true by the assignment
some_true : (values : List Bool) (clause : List Lit) (k : ℕ) (x : Lit) → k < length clause → get_or clause k x ≡ x → IsTrueLit values x → clause_value (assigned values) clause ≡ true
unfolding clause_value
some_true values [] k x lt e h = absurd (omega arith)
some_true values (lit ∷ lits) zero x lt e h = ap (λ (v : Bool). v || clause_value (assigned values) lits) (lit_true values lit (subst (IsTrueLit values) (sym e) h))
some_true values (lit ∷ lits) (suc k) x lt e h = or_right (value (assigned values) lit) (clause_value (assigned values) lits) (some_true values lits k x (omega arith) e h)

-- a model's assignment satisfies the clauses
all_true : (values : List Bool) (clauses : List (List Lit)) → All (λ clause. Any (IsTrueLit values) clause) clauses → Satisfies (assigned values) clauses
unfolding Satisfies
all_true values [] all = tt
all_true values (clause ∷ clauses) all =
    let one = all 0 clause (omega arith) in
    (some_true values clause one.0 one.1 one.2 one.3 one.4, all_true values clauses (λ k d lt. all (suc k) d (omega arith)))

-- a model as an assignment
pub model_satisfies : (formula : Cnf) (values : List Bool) → IsModel formula values → Satisfies (assigned values) formula.clauses
model_satisfies formula values model = all_true values formula.clauses model.clauses

-- as many values as variables
pub length-listed : (n : ℕ) (a : Assignment) → length (listed n a) ≡ n
length-listed zero a = refl
length-listed (suc n) a = ap suc (length-listed n (λ i. a (suc i)))

-- the value of a variable
pub listed_at : (n : ℕ) (a : Assignment) (i : ℕ) → i < n → slice_get (listed n a) i ≡ Some (a i)
listed_at zero a i lt = absurd (omega arith)
listed_at (suc n) a zero lt = refl
listed_at (suc n) a (suc i) lt = listed_at n (λ j. a (suc j)) i (omega arith)

-- a literal is true where its variable has the value that its sign asks for
sign_is : (b v : Bool) → cond b (not v) v ≡ true → v ≡ not b
sign_is true true h = sym h
sign_is true false h = refl
sign_is false true h = refl
sign_is false false h = h

-- a literal that is true by an assignment is true by its list of values
lit_model : (n : ℕ) (a : Assignment) (lit : Lit) → variable_of lit < n → value a lit ≡ true → IsTrueLit (listed n a) lit
unfolding value
lit_model n a lit lt h = listed_at n a (variable_of lit) lt ∙ ap (λ (v : Bool). Some v) (sign_is (is_negated lit) (a (variable_of lit)) h)

-- so a clause
clause_model : (n : ℕ) (a : Assignment) (clause : List Lit) → All (λ lit. variable_of lit < n) clause → clause_value a clause ≡ true → Any (IsTrueLit (listed n a)) clause
unfolding clause_value
clause_model n a [] all h = absurd cc
clause_model n a (lit ∷ lits) all h =
    either (value a lit) refl h (λ e. clause_model n a lits (λ k d lt. all (suc k) d (omega arith)) e)
  where
    either : (b : Bool) → value a lit ≡ b → (value a lit || clause_value a lits) ≡ true → (clause_value a lits ≡ true → Any (IsTrueLit (listed n a)) lits) → Any (IsTrueLit (listed n a)) (lit ∷ lits)
    either true e g more = (0, lit, omega arith, refl, lit_model n a lit (all 0 lit (omega arith)) e)
    either false e g more =
        let rest = more (sym (ap (λ (v : Bool). v || clause_value a lits) e) ∙ g) in
        (suc rest.0, rest.1, (let lt = rest.2 in omega arith), rest.3, rest.4)

-- so all clauses
all_model : (n : ℕ) (a : Assignment) (clauses : List (List Lit)) → AreBelow n clauses → Satisfies a clauses → All (λ clause. Any (IsTrueLit (listed n a)) clause) clauses
unfolding AreBelow Satisfies
all_model n a [] below s k d lt = absurd (omega arith)
all_model n a (clause ∷ clauses) below s zero d lt = clause_model n a clause below.0.lits s.0
all_model n a (clause ∷ clauses) below s (suc k) d lt = all_model n a clauses below.1 s.1 k d (omega arith)

-- an assignment as a model
pub satisfies_model : (formula : Cnf) (a : Assignment) → AreBelow formula.variables formula.clauses → Satisfies a formula.clauses → IsModel formula (listed formula.variables a)
satisfies_model formula a below s = record {
  whole = length-listed formula.variables a;
  clauses = all_model formula.variables a formula.clauses below s;
}

-- each literal is of a variable of the formula
pub below_formula : (n : ℕ) (clauses : List (List Lit)) → AreBelow n clauses → All (λ clause. All (λ lit. variable_of lit < n) clause) clauses
unfolding AreBelow
below_formula n [] below k d lt = absurd (omega arith)
below_formula n (clause ∷ clauses) below zero d lt = below.0.lits
below_formula n (clause ∷ clauses) below (suc k) d lt = below_formula n clauses below.1 k d (omega arith)

-- no clause is empty
pub below_filled : (n : ℕ) (clauses : List (List Lit)) → AreBelow n clauses → All (λ clause. 0 < length clause) clauses
unfolding AreBelow
below_filled n [] below k d lt = absurd (omega arith)
below_filled n (clause ∷ clauses) below zero d lt = below.0.some
below_filled n (clause ∷ clauses) below (suc k) d lt = below_filled n clauses below.1 k d (omega arith)
