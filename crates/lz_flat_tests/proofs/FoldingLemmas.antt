-- Rows of nodes are well formed and light.
use Rattle.std.proofs.Common.{◌≡◌, ℕ, zero, suc, ◌+◌, ◌*◌, ◌<◌, ◌≤◌, List, [], ◌∷◌, ◌++◌, length, take, get_or, refl, sym, ◌∙◌, ap, subst, arith}
use Rattle.std.proofs.lemmas.List.{take_more, take_all, length-take-le}
use Rattle.lz_base.specs.declared.operator.Unary.{Unary}
use Rattle.lz_base.specs.declared.operator.Unary.TheVariants as unaries
use Rattle.lz_base.specs.declared.operator.Binary.{Binary}
use Rattle.lz_base.specs.declared.operator.Binary.TheVariants as binaries
use Rattle.lz_flat.specs.Weight.{unary_number, binary_number}
use Rattle.lz_ssa.specs.declared.node.Node.{Node}
use Rattle.lz_ssa.specs.declared.node.Node.TheVariants as nodes
use Rattle.lz_ssa.specs.NodeValues.{IsNodeOf, AreNodesFrom}
use Rattle.lz_ssa.specs.NodeWeight.{node_number, nodes_weight}
use Rattle.lz_ssa.proofs.ValueLemmas.{nodes_append, nodes_one}

pub formed_none : AreNodesFrom 2 0 []
unfolding AreNodesFrom
formed_none = tt

-- one node more
pub formed_turn : (row : List Node) (i : ℕ) (d : Node) → i < length row → AreNodesFrom 2 0 (take i row) → IsNodeOf 2 i (get_or row i d) → AreNodesFrom 2 0 (take (i + 1) row)
formed_turn row i d lt are is =
    let size : length (take i row) ≡ i = length-take-le i row (omega (arith, lt)) in
    subst (λ (xs : List Node). AreNodesFrom 2 0 xs) (sym (take_more row i d lt))
    (nodes_append 2 0 (take i row) (get_or row i d ∷ []) are
    (nodes_one 2 (0 + length (take i row)) (get_or row i d) (subst (λ (k : ℕ). IsNodeOf 2 k (get_or row i d)) (let z : i ≡ 0 + length (take i row) = omega (arith, size) in z) is)))

pub formed_end : (row : List Node) (i : ℕ) → length row ≤ i → AreNodesFrom 2 0 (take i row) → AreNodesFrom 2 0 row
formed_end row i le are = subst (λ (xs : List Node). AreNodesFrom 2 0 xs) (take_all i row le) are

unary_light : (op : Unary) → unary_number op ≤ 4640
unary_light unaries.Plus = omega arith
unary_light unaries.Minus = omega arith
unary_light unaries.Invert = omega arith
unary_light unaries.Not = omega arith

binary_light : (op : Binary) → binary_number op ≤ 4640
binary_light binaries.Mul = omega arith
binary_light binaries.Div = omega arith
binary_light binaries.Rem = omega arith
binary_light binaries.Add = omega arith
binary_light binaries.Sub = omega arith
binary_light binaries.Shl = omega arith
binary_light binaries.Shr = omega arith
binary_light binaries.Lt = omega arith
binary_light binaries.Gt = omega arith
binary_light binaries.Le = omega arith
binary_light binaries.Ge = omega arith
binary_light binaries.Eq = omega arith
binary_light binaries.Ne = omega arith
binary_light binaries.BitAnd = omega arith
binary_light binaries.BitXor = omega arith
binary_light binaries.BitOr = omega arith
binary_light binaries.Both = omega arith
binary_light binaries.Either = omega arith

node_light : (node : Node) → node_number node ≤ 4640
node_light (nodes.Constant value) = omega arith
node_light (nodes.Input number kind) = omega arith
node_light (nodes.Unary op kind of) = unary_light op
node_light (nodes.Binary op kind left right) = binary_light op
node_light (nodes.Convert from to of) = omega arith
node_light (nodes.Choose test chosen other) = omega arith

-- few nodes are light
pub weight_bound : (row : List Node) → nodes_weight row ≤ 4640 * length row
weight_bound [] = omega arith
weight_bound (x ∷ xs) = let more = weight_bound xs in let one = node_light x in omega (arith, more, one)
