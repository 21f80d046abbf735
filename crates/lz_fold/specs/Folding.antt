-- Inner: what a node folds to, and when the nodes of one list are those of another.
use Rattle.std.specs.Prelude.{◌≡◌, ℕ, ◌<◌, ◌≤◌, Bool, true, false, List, [], ◌∷◌, ◌++◌, length, slice_index, slice_index_or, slice_set, Option, None, Some, ⊤}
use Rattle.lz_base.specs.Words.{value_bound}
use Rattle.lz_ssa.specs.declared.node.Node.{Node}
use Rattle.lz_ssa.specs.declared.node.Node.TheVariants.{Constant, Input, Unary, Binary, Convert, Choose}
use Rattle.lz_ssa.specs.declared.node.Nodes.{Nodes}
use Rattle.lz_ssa.specs.NodeValues.{node_value, values_of, IsNodeOf, AreNodesFrom, AreWellFormed}
use Rattle.lz_ssa.specs.NodeWeight.{node_number, nodes_weight}
use Rattle.lz_fold.specs.declared.rules.Folded.{Folded}
use Rattle.lz_fold.specs.declared.rules.Folded.TheVariants.{Same, New}

-- each of the numbers is a word
abbrev pub Words : List ℕ → Type 0
Words words = (k : ℕ) → slice_index words k < value_bound

-- ---- what is known of a word

-- it is this one, if it is known
abbrev pub IsKnown : Option ℕ → ℕ → Type 0
IsKnown None w = ⊤
IsKnown (Some v) w = w ≡ v

-- what is known is a word
abbrev pub IsWordIfKnown : Option ℕ → Type 0
IsWordIfKnown None = ⊤
IsWordIfKnown (Some v) = v < value_bound

-- so of one operand, and of two
abbrev pub Knows : ℕ → Option ℕ → List ℕ → Type 0
Knows of a words = IsKnown a (slice_index words of)

abbrev pub KnowsBoth : ℕ → Option ℕ → ℕ → Option ℕ → List ℕ → Type 0
KnowsBoth left a right b words = IsKnown a (slice_index words left) × IsKnown b (slice_index words right)

-- ---- what a node folds to

-- the word of what it folds to: that of a node that stands already, or of one to be made
abbrev pub folded_value : Folded → (ℕ → ℕ) → List ℕ → ℕ
folded_value (Same node) input words = slice_index words node
folded_value (New node) input words = node_value node input words

-- it names earlier nodes alone
abbrev pub IsFoldedOf : ℕ → ℕ → Folded → Type 0
IsFoldedOf inputs before (Same node) = node < before
IsFoldedOf inputs before (New node) = IsNodeOf inputs before node

-- the number of what is to be made
abbrev pub folded_number : Folded → ℕ
folded_number (Same node) = 0
folded_number (New node) = node_number node

-- A node folds to this: wherever the facts hold of the words before, the word is the same; it names no later nodes;
-- and it weighs no more.
pub record FoldsTo (node : Node) (facts : List ℕ → Type 0) (folded : Folded) : Type 0 where
  pub same : (input : ℕ → ℕ) (words : List ℕ) → Words words → facts words → folded_value folded input words ≡ node_value node input words
  pub formed : (inputs before : ℕ) → IsNodeOf inputs before node → IsFoldedOf inputs before folded
  pub lighter : folded_number folded ≤ node_number node

-- so behind these nodes
pub record FoldsBehind (out : List Node) (node : Node) (folded : Folded) : Type 0 where
  pub same : (input : ℕ → ℕ) → ((k : ℕ) → input k < value_bound) → folded_value folded input (values_of input out) ≡ node_value node input (values_of input out)
  pub formed : (inputs before : ℕ) → IsNodeOf inputs before node → IsFoldedOf inputs before folded
  pub lighter : folded_number folded ≤ node_number node

-- ---- the nodes so far

-- each operand is one of these
abbrev pub OperandsAre : (ℕ → Type 0) → Node → Type 0
OperandsAre P (Constant value) = ⊤
OperandsAre P (Input number kind) = ⊤
OperandsAre P (Unary op kind of) = P of
OperandsAre P (Binary op kind left right) = P left × P right
OperandsAre P (Convert from to of) = P of
OperandsAre P (Choose test chosen other) = P test × P chosen × P other

-- the operands are some of so many nodes
abbrev pub Operands : ℕ → Node → Type 0
Operands before node = OperandsAre (λ k. k < before) node

-- the node with its operands where they went
abbrev pub renamed : List ℕ → Node → Node
renamed places (Constant value) = Constant value
renamed places (Input number kind) = Input number kind
renamed places (Unary op kind of) = Unary op kind (slice_index places of)
renamed places (Binary op kind left right) = Binary op kind (slice_index places left) (slice_index places right)
renamed places (Convert from to of) = Convert from to (slice_index places of)
renamed places (Choose test chosen other) = Choose (slice_index places test) (slice_index places chosen) (slice_index places other)

-- nodes of some inputs
abbrev pub AreNodes : List Node → Type 0
AreNodes list = (inputs : ℕ) × AreNodesFrom inputs 0 list

-- what it folds to has this number, after it is made if it is to be
abbrev pub IsPlaced : List Node → List Node → Folded → ℕ → Type 0
IsPlaced before after (Same node) number = (after ≡ before) × (number ≡ node)
IsPlaced before after (New node) number = (after ≡ before ++ node ∷ []) × (number ≡ length before)

-- Each of these nodes of the old list went to a place of the new one, where it has the same word on all inputs.
pub record Went (inputs : ℕ) (P : ℕ → Type 0) (old new : List Node) (places : List ℕ) : Type 0 where
  pub count : length places ≡ length old
  pub formed : AreNodesFrom inputs 0 new
  pub within : (k : ℕ) → k < length old → P k → slice_index places k < length new
  pub same : (input : ℕ → ℕ) → ((i : ℕ) → input i < value_bound) → (k : ℕ) → k < length old → P k
      → slice_index (values_of input new) (slice_index places k) ≡ slice_index (values_of input old) k
  pub fewer : length new ≤ length old
  pub lighter : nodes_weight new ≤ nodes_weight old

-- all of them
abbrev pub AnyNode : ℕ → Type 0
AnyNode k = ⊤

-- ---- the nodes that are needed

-- a node is needed, by flags
abbrev pub IsNeeded : List Bool → ℕ → Type 0
IsNeeded flags k = slice_index_or flags k false ≡ true

-- the flags with those of the operands of a node
abbrev pub needs : Node → List Bool → List Bool
needs (Constant value) flags = flags
needs (Input number kind) flags = flags
needs (Unary op kind of) flags = slice_set flags of true
needs (Binary op kind left right) flags = slice_set (slice_set flags left true) right true
needs (Convert from to of) flags = slice_set flags of true
needs (Choose test chosen other) flags = slice_set (slice_set (slice_set flags test true) chosen true) other true

-- from this node on, the operands of a needed one are needed
abbrev pub IsClosedFrom : ℕ → List Node → List Bool → Type 0
IsClosedFrom at list flags = (i : ℕ) (node : Node) → at ≤ i → i < length list → node ≡ slice_index_or list i node → IsNeeded flags i → OperandsAre (IsNeeded flags) node

-- the flags of one list are flags of another too
abbrev pub NeedsMore : List Bool → List Bool → Type 0
NeedsMore old new = (k : ℕ) → IsNeeded old k → IsNeeded new k

-- the nodes with one more, if it is needed
abbrev pub kept : Bool → List ℕ → Node → List Node → List Node
kept true places node before = before ++ renamed places node ∷ []
kept false places node before = before

-- ---- the whole

-- The nodes made are those that were handed in, folded: `fails` has the same word on all inputs.
pub record IsFoldOf (nodes made : Nodes) : Type 0 where
  pub formed : AreWellFormed made
  pub inputs : made.inputs ≡ nodes.inputs
  pub same : (input : ℕ → ℕ) → ((i : ℕ) → input i < value_bound) → slice_index (values_of input made.list) made.fails ≡ slice_index (values_of input nodes.list) nodes.fails
  pub fewer : length made.list ≤ length nodes.list
  pub lighter : nodes_weight made.list ≤ nodes_weight nodes.list
