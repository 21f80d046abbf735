-- One turn of the evaluation of nodes, and its end.
use Rattle.std.proofs.Common.{◌≡◌, ℕ, zero, suc, ◌+◌, ◌≤◌, ◌<◌, All, List, [], ◌∷◌, ◌++◌, length, take, drop, get_or, set, refl, sym, ◌∙◌, ap, subst, arith}
use Rattle.std.proofs.lemmas.List.{drop_more, drop_all}
use Rattle.std.proofs.lemmas.List.Elements.{All-append}
use Rattle.lz_flat.specs.WellFormed.{IsWord}
use Rattle.lz_ssa.specs.declared.node.Node.{Node}
use Rattle.lz_ssa.specs.NodeValues.{node_value, values_from, values_of, IsNodeOf, AreNodesFrom}

-- What is left from node i on comes to the words of all nodes, and the words so far are words.
pub record EvaluatesFrom (input : ℕ → ℕ) (list : List Node) (i : ℕ) (values : List ℕ) : Type 0 where
  pub same : values_from input (take i values) (drop i list) ≡ values_of input list
  pub words : All IsWord (take i values)
  pub size : length values ≡ length list

-- a node of well formed nodes names earlier ones
pub node_at : (inputs before : ℕ) (list : List Node) (i : ℕ) (node : Node) → AreNodesFrom inputs before list → i < length list → node ≡ get_or list i node → IsNodeOf inputs (before + i) node
unfolding AreNodesFrom
node_at inputs before [] i node are lt e = absurd (let z : ⊥ = omega arith in z)
node_at inputs before (x ∷ xs) zero node are lt e =
    subst (λ (k : ℕ). IsNodeOf inputs k node) (let z : before ≡ before + 0 = omega arith in z) (subst (IsNodeOf inputs before) (sym e) are.0)
node_at inputs before (x ∷ xs) (suc i) node are lt e =
    subst (λ (k : ℕ). IsNodeOf inputs k node) (let z : suc before + i ≡ before + suc i = omega arith in z) (node_at inputs (suc before) xs i node are.1 (omega arith) e)

-- the words of nodes, one node further
values_step : (input : ℕ → ℕ) (words : List ℕ) (first : Node) (rest : List Node) → values_from input words (first ∷ rest) ≡ values_from input (words ++ node_value first input words ∷ []) rest
unfolding values_from
values_step input words first rest = refl

-- the front of a list behind a write at its end
take_set : (values : List ℕ) (i v : ℕ) → i < length values → take (i + 1) (set values i v) ≡ take i values ++ v ∷ []
take_set [] i v lt = absurd (let z : ⊥ = omega arith in z)
take_set (x ∷ xs) zero v lt = refl
take_set (x ∷ xs) (suc i) v lt =
    ap (λ (k : ℕ). take k (x ∷ set xs i v)) (let z : suc i + 1 ≡ suc (i + 1) = omega arith in z) ∙ ap (λ (t : List ℕ). x ∷ t) (take_set xs i v (omega arith))

-- a write keeps the length
length_set : (values : List ℕ) (i v : ℕ) → length (set values i v) ≡ length values
length_set [] i v = refl
length_set (x ∷ xs) zero v = refl
length_set (x ∷ xs) (suc i) v = ap suc (length_set xs i v)

-- a list of one word
all_one : (v : ℕ) → IsWord v → All IsWord (v ∷ [])
all_one v word zero d lt = word
all_one v word (suc k) d lt = absurd (let z : ⊥ = omega arith in z)

-- one node further
pub evaluates_on : (input : ℕ → ℕ) (list : List Node) (i : ℕ) (values : List ℕ) (node : Node) (word : ℕ) → EvaluatesFrom input list i values → i < length list → node ≡ get_or list i node
    → word ≡ node_value node input (take i values) → IsWord word → EvaluatesFrom input list (i + 1) (set values i word)
evaluates_on input list i values node word from lt e is small =
    let size = from.size in
    let more : drop i list ≡ node ∷ drop (i + 1) list = drop_more list i node lt ∙ ap (λ (x : Node). x ∷ drop (i + 1) list) (sym e) in
    let old : values_from input (take i values) (node ∷ drop (i + 1) list) ≡ values_of input list =
    subst (λ (part : List Node). values_from input (take i values) part ≡ values_of input list) more from.same in
    let taken : take (i + 1) (set values i word) ≡ take i values ++ word ∷ [] = take_set values i word (omega (arith, size)) in
    record {
      same = rw (taken, is) (sym (values_step input (take i values) node (drop (i + 1) list)) ∙ old);
      words = subst (All IsWord) (sym taken) (All-append IsWord (take i values) (word ∷ []) from.words (all_one word small));
      size = length_set values i word ∙ size;
    }

-- behind the last node
pub evaluates_end : (input : ℕ → ℕ) (list : List Node) (i : ℕ) (values : List ℕ) → EvaluatesFrom input list i values → i ≡ length list → values ≡ values_of input list
unfolding values_from
evaluates_end input list i values from e =
    let none : drop i list ≡ [] = drop_all i list (omega arith) in
    let all_taken : take i values ≡ values = take_whole i values (let s = from.size in omega (arith, s)) in
    sym all_taken ∙ subst (λ (part : List Node). values_from input (take i values) part ≡ values_of input list) none from.same
  where
    take_whole : (k : ℕ) (xs : List ℕ) → length xs ≤ k → take k xs ≡ xs
    take_whole zero [] h = refl
    take_whole (suc k) [] h = refl
    take_whole zero (x ∷ xs) h = absurd (let z : ⊥ = omega arith in z)
    take_whole (suc k) (x ∷ xs) h = ap (λ (t : List ℕ). x ∷ t) (take_whole k xs (omega arith))
