-- The words of nodes: those of the nodes before stay, one node more adds one word, and each is a word.
use Rattle.std.proofs.Common.{◌≡◌, ◌≢◌, ℕ, zero, suc, ◌+◌, ◌-◌, ◌<◌, List, [], ◌∷◌, ◌++◌, length, get_or, slice_index, eqb, refl, ◌∙◌, ap, subst, arith}
use Rattle.std.proofs.lemmas.List.{length-append, get_or_append_left, get_or-append_right}
use Rattle.lz_base.specs.Words.{value_bound}
use Rattle.lz_base.proofs.WordsLemmas.{choose_word, unary_word, binary_word, converted_word}
use Rattle.lz_ssa.specs.declared.node.Node.{Node}
use Rattle.lz_ssa.specs.declared.node.Node.TheVariants.{Constant, Input, Unary, Binary, Convert, Choose}
use Rattle.lz_ssa.specs.declared.node.Nodes.{Nodes}
use Rattle.lz_ssa.specs.NodeValues.{node_value, values_from, values_of, FailsAt, IsNodeOf, AreNodesFrom, AreWellFormed, RestOnInputs}
use Rattle.lz_ssa.specs.NodeWeight.{nodes_weight}

-- nodes behind nodes
pub values_append : (input : ℕ → ℕ) (words : List ℕ) (xs ys : List Node) → values_from input words (xs ++ ys) ≡ values_from input (values_from input words xs) ys
unfolding values_from
values_append input words [] ys = refl
values_append input words (x ∷ xs) ys = values_append input (words ++ node_value x input words ∷ []) xs ys

-- the words with those of one node
values_one : (input : ℕ → ℕ) (words : List ℕ) (x : Node) → values_from input words (x ∷ []) ≡ words ++ node_value x input words ∷ []
unfolding values_from
values_one input words x = refl

-- one node more
pub values_push : (input : ℕ → ℕ) (list : List Node) (x : Node) → values_of input (list ++ x ∷ []) ≡ values_of input list ++ node_value x input (values_of input list) ∷ []
values_push input list x = values_append input [] list (x ∷ []) ∙ values_one input (values_of input list) x

-- there is a word for each node
pub values_length : (input : ℕ → ℕ) (words : List ℕ) (list : List Node) → length (values_from input words list) ≡ length words + length list
unfolding values_from
values_length input words [] = omega arith
values_length input words (x ∷ xs) =
    let later = values_length input (words ++ node_value x input words ∷ []) xs in
    let one = length-append words (node_value x input words ∷ []) in
    omega (arith, later, one)

-- words so far stay
pub values_keep : (input : ℕ → ℕ) (words : List ℕ) (list : List Node) (k : ℕ) → k < length words → slice_index (values_from input words list) k ≡ slice_index words k
unfolding values_from
values_keep input words [] k lt = refl
values_keep input words (x ∷ xs) k lt =
    let one = length-append words (node_value x input words ∷ []) in
    values_keep input (words ++ node_value x input words ∷ []) xs k (omega (arith, one))
    ∙ get_or_append_left words (node_value x input words ∷ []) 0 k lt

-- the word of a node is the same where nodes stand behind
pub value_stays : (input : ℕ → ℕ) (xs ys : List Node) (k : ℕ) → k < length xs → slice_index (values_of input (xs ++ ys)) k ≡ slice_index (values_of input xs) k
value_stays input xs ys k lt =
    let size = values_length input [] xs in
    ap (λ (v : List ℕ). slice_index v k) (values_append input [] xs ys) ∙ values_keep input (values_of input xs) ys k (omega (arith, size))

-- the word of the last node
pub value_last : (input : ℕ → ℕ) (list : List Node) (x : Node) → slice_index (values_of input (list ++ x ∷ [])) (length list) ≡ node_value x input (values_of input list)
value_last input list x =
    let size = values_length input [] list in
    let at : length (values_of input list) ≡ length list = omega (arith, size) in
    ap (λ (v : List ℕ). slice_index v (length list)) (values_push input list x)
    ∙ get_or-append_right (values_of input list) (node_value x input (values_of input list) ∷ []) (length list) (length list) 0 at (omega arith)
    ∙ ap (λ (k : ℕ). get_or (node_value x input (values_of input list) ∷ []) k 0) (let z : length list - length list ≡ 0 = omega arith in z)

-- ---- well formed nodes

-- nodes behind nodes, each of which names earlier ones
pub nodes_append : (inputs before : ℕ) (xs ys : List Node) → AreNodesFrom inputs before xs → AreNodesFrom inputs (before + length xs) ys → AreNodesFrom inputs before (xs ++ ys)
unfolding AreNodesFrom
nodes_append inputs before [] ys first second = subst (λ (k : ℕ). AreNodesFrom inputs k ys) (let z : before + 0 ≡ before = omega arith in z) second
nodes_append inputs before (x ∷ xs) ys first second =
    (first.0, nodes_append inputs (suc before) xs ys first.1 (subst (λ (k : ℕ). AreNodesFrom inputs k ys) (let z : before + suc (length xs) ≡ suc before + length xs = omega arith in z) second))

-- one node, which names earlier ones
pub nodes_one : (inputs before : ℕ) (x : Node) → IsNodeOf inputs before x → AreNodesFrom inputs before (x ∷ [])
unfolding AreNodesFrom
nodes_one inputs before x is = (is, tt)

-- each of the inputs is a word
abbrev pub AreWords : (ℕ → ℕ) → Type 0
AreWords input = (k : ℕ) → input k < value_bound

-- each number of the list is a word
abbrev pub Words : List ℕ → Type 0
Words words = (k : ℕ) → slice_index words k < value_bound

-- the word of a node is a word
pub node_word : (inputs before : ℕ) (x : Node) (input : ℕ → ℕ) (words : List ℕ) → IsNodeOf inputs before x → AreWords input → Words words → node_value x input words < value_bound
node_word inputs before (Constant value) input words is small all = is
node_word inputs before (Input number kind) input words is small all = small number
node_word inputs before (Unary op kind of) input words is small all = unary_word op (slice_index words of) kind (all of)
node_word inputs before (Binary op kind left right) input words is small all = binary_word op (slice_index words left) (slice_index words right) kind (all left) (all right)
node_word inputs before (Convert from to of) input words is small all = converted_word (slice_index words of) from to (all of)
node_word inputs before (Choose test chosen other) input words is small all = choose_word (eqb (slice_index words test) 0) (slice_index words other) (slice_index words chosen) (all other) (all chosen)

-- one word more
words_push : (words : List ℕ) (v : ℕ) → Words words → v < value_bound → Words (words ++ v ∷ [])
words_push [] v all word zero = word
words_push [] v all word (suc zero) = omega arith
words_push [] v all word (suc (suc k)) = omega arith
words_push (x ∷ xs) v all word zero = all 0
words_push (x ∷ xs) v all word (suc k) = words_push xs v (λ j. all (suc j)) word k

-- so is that of each node
pub values_words : (inputs before : ℕ) (list : List Node) (input : ℕ → ℕ) (words : List ℕ) → AreNodesFrom inputs before list → AreWords input → Words words → Words (values_from input words list)
unfolding values_from AreNodesFrom
values_words inputs before [] input words are small all = all
values_words inputs before (x ∷ xs) input words are small all =
    values_words inputs (suc before) xs input (words ++ node_value x input words ∷ []) are.1 small (words_push words (node_value x input words) all (node_word inputs before x input words are.0 small all))

-- ---- what the words rest on

-- the word of a node rests on the inputs below their number alone
value_agrees : (inputs before : ℕ) (x : Node) (a b : ℕ → ℕ) (words : List ℕ) → IsNodeOf inputs before x → ((i : ℕ) → i < inputs → a i ≡ b i) → node_value x a words ≡ node_value x b words
value_agrees inputs before (Constant value) a b words is same = refl
value_agrees inputs before (Input number kind) a b words is same = same number is
value_agrees inputs before (Unary op kind of) a b words is same = refl
value_agrees inputs before (Binary op kind left right) a b words is same = refl
value_agrees inputs before (Convert from to of) a b words is same = refl
value_agrees inputs before (Choose test chosen other) a b words is same = refl

-- so do the words of nodes
pub values_agree : (inputs before : ℕ) (list : List Node) (a b : ℕ → ℕ) (words : List ℕ) → AreNodesFrom inputs before list → ((i : ℕ) → i < inputs → a i ≡ b i) → values_from a words list ≡ values_from b words list
unfolding values_from AreNodesFrom
values_agree inputs before [] a b words are same = refl
values_agree inputs before (x ∷ xs) a b words are same =
    values_agree inputs (suc before) xs a b (words ++ node_value x a words ∷ []) are.1 same
    ∙ ap (λ (v : ℕ). values_from b (words ++ v ∷ []) xs) (value_agrees inputs before x a b words are.0 same)

-- THE LAW
pub rest_on_inputs : RestOnInputs
rest_on_inputs nodes a b well same = values_agree nodes.inputs 0 nodes.list a b [] well.list same

-- so does whether the nodes fail
pub fails_agrees : (nodes : Nodes) (a b : ℕ → ℕ) → AreWellFormed nodes → ((i : ℕ) → i < nodes.inputs → a i ≡ b i) → FailsAt nodes a → FailsAt nodes b
fails_agrees nodes a b well same fails =
    subst (λ (words : List ℕ). slice_index words nodes.fails ≢ 0) (rest_on_inputs nodes a b well same) fails

-- ---- weights

-- the weight of nodes behind nodes
pub weight_append : (xs ys : List Node) → nodes_weight (xs ++ ys) ≡ nodes_weight xs + nodes_weight ys
weight_append [] ys = let z : nodes_weight ys ≡ 0 + nodes_weight ys = omega arith in z
weight_append (x ∷ xs) ys = let h = weight_append xs ys in omega arith
