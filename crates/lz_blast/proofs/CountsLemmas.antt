-- Counts of variables and clauses, against the weight.
use Rattle.std.proofs.Common.{◌≡◌, ℕ, zero, suc, ◌+◌, ◌*◌, ◌<◌, ◌≤◌, List, [], ◌∷◌, ◌++◌, length, get_or, take, ◌∙◌, ap, subst, arith}
use Rattle.std.proofs.lemmas.List.{take_more}
use Rattle.lz_base.specs.Limits.{cost_limit}
use Rattle.lz_base.specs.declared.operator.Unary.{Unary}
use Rattle.lz_base.specs.declared.operator.Unary.TheVariants.{Plus, Minus, Invert, Not}
use Rattle.lz_base.specs.declared.operator.Binary.{Binary}
use Rattle.lz_base.specs.declared.operator.Binary.TheVariants.{Mul, Div, Rem, Add, Sub, Shl, Shr, Lt, Gt, Le, Ge, Eq, Ne, BitAnd, BitXor, BitOr, Both, Either}
use Rattle.lz_cnf.specs.Models.{variable_bound}
use Rattle.lz_flat.specs.Weight.{unary_number, binary_number}
use Rattle.lz_arith.specs.Sizes.{unary_variables, unary_clauses, binary_variables, binary_clauses}
use Rattle.lz_ssa.specs.declared.node.Node.{Node}
use Rattle.lz_ssa.specs.declared.node.Node.TheVariants as nodes
use Rattle.lz_ssa.specs.NodeValues.{IsNodeOf, AreNodesFrom}
use Rattle.lz_ssa.specs.NodeWeight.{node_number, nodes_weight}
use Rattle.lz_blast.specs.Counts.{node_variables, node_clauses, nodes_variables, nodes_clauses, clauses_per_weight}

-- one more node has its variables behind the others'
pub variables_push : (list : List Node) (node : Node) → nodes_variables (list ++ node ∷ []) ≡ nodes_variables list + node_variables node
variables_push [] node = by (node_variables node)
  where
    by : (m : ℕ) → m + 0 ≡ 0 + m
    by m = omega arith
variables_push (first ∷ rest) node = ap (λ (m : ℕ). node_variables first + m) (variables_push rest node) ∙ by (node_variables first) (nodes_variables rest) (node_variables node)
  where
    by : (x y z : ℕ) → x + (y + z) ≡ x + y + z
    by x y z = omega arith

-- and its clauses
pub clauses_push : (list : List Node) (node : Node) → nodes_clauses (list ++ node ∷ []) ≡ nodes_clauses list + node_clauses node
clauses_push [] node = by (node_clauses node)
  where
    by : (m : ℕ) → m + 0 ≡ 0 + m
    by m = omega arith
clauses_push (first ∷ rest) node = ap (λ (m : ℕ). node_clauses first + m) (clauses_push rest node) ∙ by (node_clauses first) (nodes_clauses rest) (node_clauses node)
  where
    by : (x y z : ℕ) → x + (y + z) ≡ x + y + z
    by x y z = omega arith

-- an operator against its number
unary_weighs : (op : Unary) → (unary_variables op ≤ unary_number op) × (unary_clauses op ≤ clauses_per_weight * unary_number op)
unary_weighs Plus = (omega arith, omega arith)
unary_weighs Minus = (omega arith, omega arith)
unary_weighs Invert = (omega arith, omega arith)
unary_weighs Not = (omega arith, omega arith)

-- the circuit of a binary operator has as many variables as its number at most, and clauses by its number too
binary_weighs : (op : Binary) → (binary_variables op ≤ binary_number op) × (binary_clauses op ≤ clauses_per_weight * binary_number op)
binary_weighs Mul = (omega arith, omega arith)
binary_weighs Div = (omega arith, omega arith)
binary_weighs Rem = (omega arith, omega arith)
binary_weighs Add = (omega arith, omega arith)
binary_weighs Sub = (omega arith, omega arith)
binary_weighs Shl = (omega arith, omega arith)
binary_weighs Shr = (omega arith, omega arith)
binary_weighs Lt = (omega arith, omega arith)
binary_weighs Gt = (omega arith, omega arith)
binary_weighs Le = (omega arith, omega arith)
binary_weighs Ge = (omega arith, omega arith)
binary_weighs Eq = (omega arith, omega arith)
binary_weighs Ne = (omega arith, omega arith)
binary_weighs BitAnd = (omega arith, omega arith)
binary_weighs BitXor = (omega arith, omega arith)
binary_weighs BitOr = (omega arith, omega arith)
binary_weighs Both = (omega arith, omega arith)
binary_weighs Either = (omega arith, omega arith)

-- so that of a node
node_weighs : (node : Node) → (node_variables node ≤ node_number node) × (node_clauses node ≤ clauses_per_weight * node_number node)
node_weighs (nodes.Constant value) = (omega arith, omega arith)
node_weighs (nodes.Input number kind) = (omega arith, omega arith)
node_weighs (nodes.Unary op kind of) = unary_weighs op
node_weighs (nodes.Binary op kind left right) = binary_weighs op
node_weighs (nodes.Convert from to of) = (omega arith, omega arith)
node_weighs (nodes.Choose test chosen other) = (omega arith, omega arith)

-- so those of all nodes
pub nodes_weigh : (list : List Node) → (nodes_variables list ≤ nodes_weight list) × (nodes_clauses list ≤ clauses_per_weight * nodes_weight list)
nodes_weigh [] = (omega arith, omega arith)
nodes_weigh (first ∷ rest) =
    let one = node_weighs first in
    let more = nodes_weigh rest in
    let a = one.0 in let b = one.1 in let c = more.0 in let d = more.1 in
    (omega arith, omega arith)

-- the first node is a constant or an input, which carries what the truth variable and the last test take
first_weighs : (inputs : ℕ) (first : Node) → IsNodeOf inputs 0 first → (node_variables first + 2 ≤ node_number first) × (node_clauses first + 35 ≤ clauses_per_weight * node_number first)
first_weighs inputs (nodes.Constant value) h = (omega arith, omega arith)
first_weighs inputs (nodes.Input number kind) h = (omega arith, omega arith)
first_weighs inputs (nodes.Unary op kind of) h = absurd (omega arith)
first_weighs inputs (nodes.Binary op kind left right) h = absurd (let z = h.0 in omega arith)
first_weighs inputs (nodes.Convert from to of) h = absurd (omega arith)
first_weighs inputs (nodes.Choose test chosen other) h = absurd (let z = h.0 in omega arith)

-- two variables and 35 clauses are left over for the truth literal and the last test
pub all_weigh : (inputs : ℕ) (list : List Node) → AreNodesFrom inputs 0 list → 0 < length list → (nodes_variables list + 2 ≤ nodes_weight list) × (nodes_clauses list + 35 ≤ clauses_per_weight * nodes_weight list)
unfolding AreNodesFrom
all_weigh inputs [] h lt = absurd (omega arith)
all_weigh inputs (first ∷ rest) h lt =
    let one = first_weighs inputs first h.0 in
    let more = nodes_weigh rest in
    let a = one.0 in let b = one.1 in let c = more.0 in let d = more.1 in
    (omega arith, omega arith)

-- a node at its place
pub nodes_at : (inputs before : ℕ) (list : List Node) (i : ℕ) (d : Node) → AreNodesFrom inputs before list → i < length list → IsNodeOf inputs (before + i) (get_or list i d)
unfolding AreNodesFrom
nodes_at inputs before [] i d h lt = absurd (omega arith)
nodes_at inputs before (first ∷ rest) zero d h lt = subst (λ (n : ℕ). IsNodeOf inputs n first) (let e : before ≡ before + 0 = omega arith in e) h.0
nodes_at inputs before (first ∷ rest) (suc i) d h lt =
    subst (λ (n : ℕ). IsNodeOf inputs n (get_or rest i d)) (let e : suc before + i ≡ before + suc i = omega arith in e) (nodes_at inputs (suc before) rest i d h.1 (omega arith))

-- the first nodes have no more variables than all
front_at_most : (list : List Node) (n : ℕ) → nodes_variables (take n list) ≤ nodes_variables list
front_at_most list zero = omega arith
front_at_most [] (suc n) = omega arith
front_at_most (first ∷ rest) (suc n) = let p = front_at_most rest n in omega arith

-- there is room for the circuit of each node
pub node_room : (list : List Node) (i : ℕ) (d : Node) (now : ℕ) → i < length list → now ≤ 1 + nodes_variables (take i list) → nodes_weight list ≤ cost_limit → now + node_variables (get_or list i d) < variable_bound
node_room list i d now lt le light =
    let p = front_at_most list (i + 1) in
    let e = ap nodes_variables (take_more list i d lt) ∙ variables_push (take i list) (get_or list i d) in
    let w = (nodes_weigh list).0 in
    omega arith
