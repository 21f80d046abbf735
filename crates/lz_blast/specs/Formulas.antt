-- Inner: when a formula has as its models exactly the inputs on which nodes fail.
use Rattle.std.specs.Prelude.{◌≡◌, ℕ, ◌<◌, ◌⊎◌, ◌↔◌, Bool, List, [], ◌∷◌, length}
use Rattle.lz_base.specs.Words.{value_bound}
use Rattle.lz_cnf.specs.declared.clause.Lit.{Lit}
use Rattle.lz_cnf.specs.declared.clause.Cnf.{Cnf}
use Rattle.lz_cnf.specs.Models.{IsModel}
use Rattle.lz_gates.specs.Values.{assigned}
use Rattle.lz_arith.specs.Bits.{word}
use Rattle.lz_ssa.specs.declared.node.Node.{Node}
use Rattle.lz_ssa.specs.declared.node.Node.TheVariants.{Constant, Input, Unary, Binary, Convert, Choose}
use Rattle.lz_ssa.specs.declared.node.Nodes.{Nodes}
use Rattle.lz_ssa.specs.NodeValues.{FailsAt}
use Rattle.lz_blast.specs.Encoding.{input_at}

-- the node is the input of this number
abbrev pub IsInput : Node → ℕ → Type 0
IsInput (Constant value) i = ⊥
IsInput (Input number kind) i = number ≡ i
IsInput (Unary op kind of) i = ⊥
IsInput (Binary op kind left right) i = ⊥
IsInput (Convert from to of) i = ⊥
IsInput (Choose test chosen other) i = ⊥

-- some node reads the input
unfoldable pub ReadsInput : List Node → ℕ → Type 0
ReadsInput [] i = ⊥
ReadsInput (first ∷ rest) i = IsInput first i ⊎ ReadsInput rest i

-- the input that a model tells: the number of its literals, 0 where it has none
abbrev pub told_input : List Bool → List (List Lit) → ℕ → ℕ
told_input values inputs i = word (assigned values) (input_at inputs i)

-- Each model tells inputs on which the node `fails` is not 0, and for such inputs there is a model that tells
-- them, but for those that no node reads. An input has literals exactly where a node reads it.
pub record Decides (nodes : Nodes) (formula : Cnf) (inputs : List (List Lit)) : Type 0 where
  pub sound : (values : List Bool) → IsModel formula values → FailsAt nodes (told_input values inputs)
  pub range : (values : List Bool) (i : ℕ) → told_input values inputs i < value_bound
  pub complete : (v : ℕ → ℕ) → ((i : ℕ) → v i < value_bound) → FailsAt nodes v
      → (values : List Bool) × IsModel formula values × ((i : ℕ) → ReadsInput nodes.list i → told_input values inputs i ≡ v i)
  pub read : (i : ℕ) → (0 < length (input_at inputs i)) ↔ ReadsInput nodes.list i
