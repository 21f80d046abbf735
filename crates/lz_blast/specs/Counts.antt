-- Inner: how many variables and clauses the circuits of nodes add at most.
use Rattle.std.specs.Prelude.{ℕ, ◌+◌, List, [], ◌∷◌}
use Rattle.lz_arith.specs.Sizes.{word_width, unary_variables, unary_clauses, binary_variables, binary_clauses, choice_variables, choice_clauses, test_variables, test_clauses}
use Rattle.lz_ssa.specs.declared.node.Node.{Node}
use Rattle.lz_ssa.specs.declared.node.Node.TheVariants.{Constant, Input, Unary, Binary, Convert, Choose}

-- the variables of a node's circuit
abbrev pub node_variables : Node → ℕ
node_variables (Constant value) = 0
node_variables (Input number kind) = word_width
node_variables (Unary op kind of) = unary_variables op
node_variables (Binary op kind left right) = binary_variables op
node_variables (Convert from to of) = 0
node_variables (Choose test chosen other) = test_variables + choice_variables word_width

-- its clauses
abbrev pub node_clauses : Node → ℕ
node_clauses (Constant value) = 0
node_clauses (Input number kind) = 0
node_clauses (Unary op kind of) = unary_clauses op
node_clauses (Binary op kind left right) = binary_clauses op
node_clauses (Convert from to of) = 0
node_clauses (Choose test chosen other) = test_clauses word_width + choice_clauses word_width

-- the variables of all circuits
abbrev pub nodes_variables : List Node → ℕ
nodes_variables [] = 0
nodes_variables (first ∷ rest) = node_variables first + nodes_variables rest

-- their clauses
abbrev pub nodes_clauses : List Node → ℕ
nodes_clauses [] = 0
nodes_clauses (first ∷ rest) = node_clauses first + nodes_clauses rest

-- how many clauses a unit of weight takes at most
abbrev pub clauses_per_weight : ℕ
clauses_per_weight = 100
