-- Inner: the circuits of nodes, one after the other.
use Rattle.std.specs.Prelude.{◌≡◌, ℕ, ◌+◌, ◌<◌, ◌≤◌, List, [], ◌∷◌, ◌++◌, length}
use Rattle.std.specs.List.{All}
use Rattle.lz_cnf.specs.declared.clause.Lit.{Lit}
use Rattle.lz_gates.specs.Circuits.{Circuit, IsCircuit, Makes}
use Rattle.lz_arith.specs.Bits.{word, AreBits}
use Rattle.lz_arith.specs.Sizes.{word_width}
use Rattle.lz_ssa.specs.declared.node.Node.{Node}
use Rattle.lz_ssa.specs.NodeValues.{node_value, values_of}
use Rattle.lz_blast.specs.Counts.{node_variables, node_clauses, nodes_variables, nodes_clauses}
use Rattle.lz_blast.specs.Encoding.{words, input_at, Encodes}
use Rattle.lz_blast.specs.Formulas.{ReadsInput}

-- the circuit of a node that is no input, with the word that came behind the others
pub record Adds (old new : Circuit) (before after : List (List Lit)) (node : Node) : Type 0 where
  pub word_ : List Lit
  pub after_is : after ≡ before ++ word_ ∷ []
  pub bits : AreBits new word_width word_
  pub made : Makes old new (node_variables node) (node_clauses node) (λ a. (v : ℕ → ℕ) → word a word_ ≡ node_value node v (words a before))

-- what stands after so many nodes
pub record Stands (circuit : Circuit) (inputs before : List (List Lit)) (list : List Node) : Type 0 where
  pub circuit_is : IsCircuit circuit
  pub encodes : Encodes circuit inputs before (λ v. values_of v list)
  pub words_in : All (AreBits circuit word_width) before
  pub count : length before ≡ length list
  pub variables : circuit.variables ≤ 1 + nodes_variables list
  pub clauses : length circuit.clauses ≤ 1 + nodes_clauses list
  pub reads : (i : ℕ) → 0 < length (input_at inputs i) → ReadsInput list i
  pub read : (i : ℕ) → ReadsInput list i → 0 < length (input_at inputs i)

-- one more node, after whatever nodes
pub record Steps (old new : Circuit) (inputs inputs_after before after : List (List Lit)) (node : Node) : Type 0 where
  pub stands : (list : List Node) → Stands old inputs before list → Stands new inputs_after after (list ++ node ∷ [])
