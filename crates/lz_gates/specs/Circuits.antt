-- Inner: a circuit under construction, the assignments of its variables, and what a call that adds to it leaves (after Tseitin).
use Rattle.std.specs.Prelude.{◌≡◌, ℕ, ◌<◌, ◌≤◌, ◌+◌, ◌==◌, Bool, true, false, not, ◌||◌, List, [], ◌∷◌, ◌++◌, length, ⊤, if◌then◌else◌}
use Rattle.std.specs.List.{All}
use Rattle.lz_cnf.specs.declared.clause.Lit.{Lit}
use Rattle.lz_cnf.specs.Models.{variable_of, is_negated}

-- what contracts see of a builder; one that is spent answers want of memory
pub record Circuit : Type 0 where
  pub variables : ℕ
  pub clauses : List (List Lit)
  pub spent : Bool

-- values of all variables, those of the circuit and those that may still come
abbrev pub Assignment : Type 0
Assignment = ℕ → Bool

-- the value of a literal
unfoldable pub value : Assignment → Lit → Bool
value a lit = if is_negated lit then not (a (variable_of lit)) else a (variable_of lit)

-- whether some literal of the clause is true
unfoldable pub clause_value : Assignment → List Lit → Bool
clause_value a [] = false
clause_value a (lit ∷ lits) = value a lit || clause_value a lits

-- the clauses of a new builder: variable 0 is true
abbrev pub first_clauses : List (List Lit)
first_clauses = (record { 0 = 0 } ∷ []) ∷ []

-- each clause has a true literal
unfoldable pub Satisfies : Assignment → List (List Lit) → Type 0
Satisfies a [] = ⊤
Satisfies a (clause ∷ clauses) = (clause_value a clause ≡ true) × Satisfies a clauses

-- the two give the variables below n the same values
unfoldable pub Agree : ℕ → Assignment → Assignment → Type 0
Agree n a b = (x : ℕ) → x < n → a x ≡ b x

-- the literal is of a variable of the circuit
abbrev pub IsLit : Circuit → Lit → Type 0
IsLit circuit lit = variable_of lit < circuit.variables

-- each literal is of a variable of the circuit
abbrev pub AreLits : Circuit → List Lit → Type 0
AreLits circuit lits = All (IsLit circuit) lits

-- the clause has a literal, and each is of a variable below n
pub record IsBelow (n : ℕ) (clause : List Lit) : Type 0 where
  pub some : 0 < length clause
  pub lits : All (λ lit. variable_of lit < n) clause

-- no clause is empty, and each literal is of a variable below n
unfoldable pub AreBelow : ℕ → List (List Lit) → Type 0
AreBelow n [] = ⊤
AreBelow n (clause ∷ clauses) = IsBelow n clause × AreBelow n clauses

-- variable 0 is true in each model, no clause is empty, and none names a variable that is not the circuit's
pub record IsCircuit (circuit : Circuit) : Type 0 where
  pub some : 0 < circuit.variables
  pub below : AreBelow circuit.variables circuit.clauses
  pub truth : (a : Assignment) → Satisfies a circuit.clauses → a 0 ≡ true

-- Each assignment of the variables so far extends to the new variables in exactly one way that satisfies the
-- new clauses. A circuit that was not spent is not spent then.
pub record Extends (old new : Circuit) : Type 0 where
  pub added : List (List Lit)
  pub more : old.variables ≤ new.variables
  pub clauses : new.clauses ≡ old.clauses ++ added
  pub below : AreBelow new.variables added
  pub extended : (a : Assignment) → (b : Assignment) × Agree old.variables a b × Satisfies b added
  pub once : (a b : Assignment) → Agree old.variables a b → Satisfies a added → Satisfies b added → Agree new.variables a b
  pub working : new.spent ≡ old.spent

-- A call extends the circuit by at most so many variables and clauses, and in each model what it says holds.
pub record Makes (old new : Circuit) (variables clauses : ℕ) (Says : Assignment → Type 0) : Type 0 where
  pub extends : Extends old new
  pub variables_most : new.variables ≤ old.variables + variables
  pub clauses_most : length new.clauses ≤ length old.clauses + clauses
  pub says : (a : Assignment) → Satisfies a new.clauses → Says a

-- the choice between two values
abbrev pub choice : Bool → Bool → Bool → Bool
choice test left right = if test then left else right

-- whether exactly one of two values is true
abbrev pub xor : Bool → Bool → Bool
xor a b = if a then not b else b

-- where the truth literal is true, the literal has this value, and it is of one of the three variables or of variable 0
pub record IsFold (first second third : Lit) (v : Assignment → Bool) (lit : Lit) : Type 0 where
  pub says : (a : Assignment) → a 0 ≡ true → value a lit ≡ v a
  pub within : (n : ℕ) → 0 < n → variable_of first < n → variable_of second < n → variable_of third < n → variable_of lit < n

-- Neither literal is a constant, and they are of different variables: other gates of two literals take no variable.
pub record IsOpen (left right : Lit) : Type 0 where
  pub left_open : 0 < variable_of left
  pub right_open : 0 < variable_of right
  pub apart : (variable_of left == variable_of right) ≡ false

-- The test is no constant, and the sides differ: other choices take no variable.
pub record IsOpenChoice (test yes no : Lit) : Type 0 where
  pub test_open : 0 < variable_of test
  pub apart : (yes.0 == no.0) ≡ false
