-- The turns of the loop over nodes.
use Rattle.std.proofs.Common.{◌≡◌, ℕ, zero, suc, ◌+◌, ◌<◌, ◌≤◌, List, [], length, get_or, take, replicate, refl, sym, ◌∙◌, ap, subst, arith}
use Rattle.std.proofs.lemmas.List.{take_all, take_more, length-take-le}
use Rattle.lz_base.specs.Limits.{cost_limit}
use Rattle.lz_cnf.specs.declared.clause.Lit.{Lit}
use Rattle.lz_cnf.specs.Models.{variable_bound}
use Rattle.lz_gates.specs.Circuits.{Circuit}
use Rattle.lz_ssa.specs.declared.node.Node.{Node}
use Rattle.lz_ssa.specs.declared.node.Nodes.{Nodes}
use Rattle.lz_ssa.specs.NodeValues.{IsNodeOf, AreWellFormed}
use Rattle.lz_ssa.specs.NodeWeight.{nodes_weight}
use Rattle.lz_blast.specs.Counts.{node_variables}
use Rattle.lz_blast.specs.Steps.{Stands, Steps}
use Rattle.lz_blast.proofs.CountsLemmas.{nodes_at, node_room, nodes_weigh}

-- as many inputs without literals
pub length-unread : (n : ℕ) (inputs : List (List Lit)) → inputs ≡ replicate n [] → length inputs ≡ n
length-unread n inputs e = ap (λ (xs : List (List Lit)). length xs) e ∙ by n
  where
    by : (n : ℕ) → length (replicate n (let none : List Lit = [] in none)) ≡ n
    by zero = refl
    by (suc n) = ap suc (by n)

-- the node of a turn names earlier ones
pub turn_node : (nodes : Nodes) {items : List Node} {now : Circuit} {inputs words_ : List (List Lit)} {i : ℕ} (d : Node) → items ≡ nodes.list → AreWellFormed nodes → Stands now inputs words_ (take i items)
    → length inputs ≡ nodes.inputs → i < length items → IsNodeOf (length inputs) (length words_) (get_or items i d)
turn_node nodes {items} {inputs} {words_} {i} d e formed h count lt =
    let place : 0 + i ≡ length words_ = by i (length words_) (h.count ∙ length-take-le i items (omega arith)) in
    let lt_list : i < length nodes.list = subst (λ (xs : List Node). i < length xs) e lt in
    subst (λ (xs : List Node). IsNodeOf (length inputs) (length words_) (get_or xs i d)) (sym e)
    (subst (λ (n : ℕ). IsNodeOf n (length words_) (get_or nodes.list i d)) (sym count)
    (subst (λ (n : ℕ). IsNodeOf nodes.inputs n (get_or nodes.list i d)) place (nodes_at nodes.inputs 0 nodes.list i d formed.list lt_list)))
  where
    by : (i n : ℕ) → n ≡ i → 0 + i ≡ n
    by i n e = omega arith

-- and there is room for its circuit
pub turn_room : (nodes : Nodes) {items : List Node} {now : Circuit} {inputs words_ : List (List Lit)} {i : ℕ} (d : Node) → items ≡ nodes.list → nodes_weight nodes.list ≤ cost_limit → Stands now inputs words_ (take i items)
    → i < length items → now.variables + node_variables (get_or items i d) < variable_bound
turn_room nodes {items} {now} {i} d e light h lt = node_room items i d now.variables lt h.variables (subst (λ (xs : List Node). nodes_weight xs ≤ cost_limit) (sym e) light)

-- the next turn
pub turn_more : (items : List Node) {now next : Circuit} {inputs inputs_after words_ after : List (List Lit)} {i : ℕ} (d : Node) → Stands now inputs words_ (take i items) → i < length items
    → Steps now next inputs inputs_after words_ after (get_or items i d) → Stands next inputs_after after (take (i + 1) items)
turn_more items {next} {inputs_after} {after} {i} d h lt step =
    subst (λ (xs : List Node). Stands next inputs_after after xs) (sym (take_more items i d lt)) (step.stands (take i items) h)

-- after the last turn
pub turn_all : (nodes : Nodes) {items : List Node} {now : Circuit} {inputs words_ : List (List Lit)} {i : ℕ} → items ≡ nodes.list → Stands now inputs words_ (take i items) → length items ≤ i → Stands now inputs words_ nodes.list
turn_all nodes {items} {now} {inputs} {words_} {i} e h le = subst (λ (xs : List Node). Stands now inputs words_ xs) (take_all i items le ∙ e) h

-- there is room for the last test
pub test_room : (nodes : Nodes) {now : Circuit} {inputs words_ : List (List Lit)} → Stands now inputs words_ nodes.list → nodes_weight nodes.list ≤ cost_limit → now.variables + 1 < variable_bound
test_room nodes h light = let p = h.variables in let w = (nodes_weigh nodes.list).0 in omega arith
