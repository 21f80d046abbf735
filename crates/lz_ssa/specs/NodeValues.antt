-- Inner: the words of nodes, on inputs, and when nodes are well formed.
use Rattle.std.specs.Prelude.{◌≡◌, ◌≢◌, ℕ, suc, ◌<◌, ◌==◌, List, [], ◌∷◌, ◌++◌, length, slice_index, if◌then◌else◌, ⊤}
use Rattle.lz_base.specs.Words.{value_bound, unary_value, binary_value, converted}
use Rattle.lz_ssa.specs.declared.node.Node.{Node}
use Rattle.lz_ssa.specs.declared.node.Node.TheVariants.{Constant, Input, Unary, Binary, Convert, Choose}
use Rattle.lz_ssa.specs.declared.node.Nodes.{Nodes}

-- the word of a node, on inputs and the words of the nodes before it
abbrev pub node_value : Node → (ℕ → ℕ) → List ℕ → ℕ
node_value (Constant value) input words = value
node_value (Input number kind) input words = input number
node_value (Unary op kind of) input words = unary_value op (slice_index words of) kind
node_value (Binary op kind left right) input words = binary_value op (slice_index words left) (slice_index words right) kind
node_value (Convert from to of) input words = converted (slice_index words of) from to
node_value (Choose test chosen other) input words =
    if slice_index words test == 0 then slice_index words other else slice_index words chosen

-- the words of nodes behind those of the nodes before them
unfoldable pub values_from : (ℕ → ℕ) → List ℕ → List Node → List ℕ
values_from input words [] = words
values_from input words (first ∷ rest) = values_from input (words ++ node_value first input words ∷ []) rest

-- the words of nodes, one for each
abbrev pub values_of : (ℕ → ℕ) → List Node → List ℕ
values_of input list = values_from input [] list

-- the node `fails` is not 0 on these inputs
abbrev pub FailsAt : Nodes → (ℕ → ℕ) → Type 0
FailsAt nodes input = slice_index (values_of input nodes.list) nodes.fails ≢ 0

-- a node that stands behind so many nodes names some of them alone, its input is one of so many, and its
-- constant is below 2 ^ 32
abbrev pub IsNodeOf : ℕ → ℕ → Node → Type 0
IsNodeOf inputs before (Constant value) = value < value_bound
IsNodeOf inputs before (Input number kind) = number < inputs
IsNodeOf inputs before (Unary op kind of) = of < before
IsNodeOf inputs before (Binary op kind left right) = (left < before) × (right < before)
IsNodeOf inputs before (Convert from to of) = of < before
IsNodeOf inputs before (Choose test chosen other) = (test < before) × (chosen < before) × (other < before)

-- so with each of the nodes behind so many
unfoldable pub AreNodesFrom : ℕ → ℕ → List Node → Type 0
AreNodesFrom inputs before [] = ⊤
AreNodesFrom inputs before (first ∷ rest) = IsNodeOf inputs before first × AreNodesFrom inputs (suc before) rest

-- Nodes are well formed: each names earlier ones alone, and `fails` names one of them.
pub record AreWellFormed (nodes : Nodes) : Type 0 where
  pub list : AreNodesFrom nodes.inputs 0 nodes.list
  pub fails : nodes.fails < length nodes.list

-- Two lists of inputs that agree on those that the nodes have give each node the same word.
abbrev pub RestOnInputs : Type 0
RestOnInputs =
    (nodes : Nodes) (one other : ℕ → ℕ) → AreWellFormed nodes → ((i : ℕ) → i < nodes.inputs → one i ≡ other i)
    → values_of one nodes.list ≡ values_of other nodes.list
