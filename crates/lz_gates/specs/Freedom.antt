-- Inner: where the required clauses are left aside, the fresh variables may have any values, and settle the gates.
use Rattle.std.specs.Prelude.{◌≡◌, ℕ, ◌<◌, List, [], ◌∷◌, ⊤}
use Rattle.std.specs.List.{All, Contains}
use Rattle.lz_cnf.specs.declared.clause.Lit.{Lit}
use Rattle.lz_gates.specs.Circuits.{Circuit, Assignment, Satisfies, Agree, AreBelow}

-- the two give these variables the same values
unfoldable pub AgreeOn : List ℕ → Assignment → Assignment → Type 0
AgreeOn [] a b = ⊤
AgreeOn (x ∷ xs) a b = (a x ≡ b x) × AgreeOn xs a b

-- each is a variable of the circuit
unfoldable pub AreVariables : Circuit → List ℕ → Type 0
AreVariables circuit [] = ⊤
AreVariables circuit (x ∷ xs) = (x < circuit.variables) × AreVariables circuit xs

-- `fresh` are variables and `gates` clauses of the circuit, such that any values of the fresh variables have
-- exactly one extension that satisfies the gates
pub record IsFree (circuit : Circuit) (fresh : List ℕ) (gates : List (List Lit)) : Type 0 where
  pub fresh_in : AreVariables circuit fresh
  pub kept : All (Contains circuit.clauses) gates
  pub below : AreBelow circuit.variables gates
  pub some : (v : Assignment) → (a : Assignment) × Satisfies a gates × AgreeOn fresh v a
  pub once : (a b : Assignment) → AgreeOn fresh a b → Satisfies a gates → Satisfies b gates → Agree circuit.variables a b
