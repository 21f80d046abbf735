-- Inner: the weight of nodes, by the table of flat programs.
use Rattle.std.specs.Prelude.{ℕ, ◌+◌, List, [], ◌∷◌}
use Rattle.lz_flat.specs.Weight.{constant_number, input_number, unary_number, binary_number, convert_number, choose_number}
use Rattle.lz_ssa.specs.declared.node.Node.{Node}
use Rattle.lz_ssa.specs.declared.node.Node.TheVariants.{Constant, Input, Unary, Binary, Convert, Choose}

-- the number of a node
abbrev pub node_number : Node → ℕ
node_number (Constant value) = constant_number
node_number (Input number kind) = input_number
node_number (Unary op kind of) = unary_number op
node_number (Binary op kind left right) = binary_number op
node_number (Convert from to of) = convert_number
node_number (Choose test chosen other) = choose_number

-- the sum of the numbers of the nodes
abbrev pub nodes_weight : List Node → ℕ
nodes_weight [] = 0
nodes_weight (first ∷ rest) = node_number first + nodes_weight rest
