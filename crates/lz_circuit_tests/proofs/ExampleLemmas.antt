-- Three nodes: a constant, an input and whether they are equal.
use Rattle.std.proofs.Common.{◌≡◌, ℕ, ◌+◌, ◌<◌, ◌≤◌, List, [], ◌∷◌, length, refl, sym, ap, subst, arith}
use Rattle.lz_base.specs.declared.operator.Binary.TheVariants.{Eq}
use Rattle.lz_base.specs.declared.word.IntType.TheVariants.{Unsigned}
use Rattle.lz_base.specs.Limits.{cost_limit}
use Rattle.lz_ssa.specs.declared.node.Node.{Node}
use Rattle.lz_ssa.specs.declared.node.Node.TheVariants as nodes
use Rattle.lz_ssa.specs.declared.node.Nodes.{Nodes}
use Rattle.lz_ssa.specs.NodeValues.{AreNodesFrom, AreWellFormed}
use Rattle.lz_ssa.specs.NodeWeight.{nodes_weight}

-- the nodes
abbrev pub three_nodes : List Node
three_nodes = nodes.Constant 5 ∷ nodes.Input 0 Unsigned ∷ nodes.Binary Eq Unsigned 1 0 ∷ []

-- they are well formed
pub three_formed : (made : Nodes) → made.list ≡ three_nodes → made.inputs ≡ 2 → made.fails ≡ 2 → AreWellFormed made
unfolding AreNodesFrom
three_formed made e i f = record {
  list = subst (λ (n : ℕ). AreNodesFrom n 0 made.list) (sym i) (subst (λ (xs : List Node). AreNodesFrom 2 0 xs) (sym e) (omega arith, (omega arith, ((omega arith, omega arith), tt))));
  fails = let z = ap (λ (xs : List Node). length xs) e in omega arith;
}

-- and light
pub three_light : (made : Nodes) → made.list ≡ three_nodes → nodes_weight made.list ≤ cost_limit
three_light made e = let z = ap nodes_weight e in omega arith
