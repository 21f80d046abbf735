-- One node more, and where all went.
use Rattle.std.proofs.Common.{◌≡◌, ℕ, zero, suc, ◌+◌, ◌-◌, ◌<◌, ◌≤◌, ◌⊎◌, inl, inr, cond, List, [], ◌∷◌, ◌++◌, length, take, get_or, eqb, refl, sym, ◌∙◌, ap, ap₂, subst, arith}
use Rattle.std.specs.Prelude.{slice_index}
use Rattle.std.proofs.lemmas.Bool.{cases_lt}
use Rattle.std.proofs.lemmas.List.{length-append, get_or_default, length-take-le, get_or_append_left, get_or-append_right, take_more}
use Rattle.lz_base.specs.Words.{value_bound, unary_value, binary_value, converted}
use Rattle.lz_ssa.specs.declared.node.Node.{Node}
use Rattle.lz_ssa.specs.declared.node.Node.TheVariants.{Constant, Input, Unary, Binary, Convert, Choose}
use Rattle.lz_ssa.specs.declared.node.Nodes.{Nodes}
use Rattle.lz_ssa.specs.NodeValues.{node_value, values_from, values_of, IsNodeOf, AreNodesFrom, AreWellFormed}
use Rattle.lz_ssa.specs.NodeWeight.{node_number, nodes_weight}
use Rattle.lz_ssa.proofs.ValueLemmas.{values_keep, value_stays, value_last, nodes_append, nodes_one, values_words, weight_append}
use Rattle.lz_ssa.proofs.EvaluateLemmas.{node_at}
use Rattle.lz_fold.proofs.RulesLemmas.{unary_heavy, binary_heavy}
use Rattle.lz_fold.specs.declared.rules.Folded.{Folded}
use Rattle.lz_fold.specs.declared.rules.Folded.TheVariants.{Same, New}
use Rattle.lz_fold.specs.Folding.{FoldsTo, FoldsBehind, folded_value, IsFoldedOf, folded_number, OperandsAre, Operands, renamed, AreNodes, IsPlaced, AnyNode, Went, IsFoldOf}

-- ---- the word of a constant

value_at : (input : ℕ → ℕ) (words : List ℕ) (list : List Node) (j v : ℕ) (x : Node) → j < length list → x ≡ get_or list j x → x ≡ Constant v → slice_index (values_from input words list) (length words + j) ≡ v
unfolding values_from
value_at input words [] j v x lt is e = absurd (let no_item : ⊥ = omega (arith, lt) in no_item)
value_at input words (y ∷ ys) zero v x lt is e =
    let size = length-append words (node_value y input words ∷ []) in
    let z : length words + 0 ≡ length words = omega arith in
    ap (λ (k : ℕ). slice_index (values_from input (words ++ node_value y input words ∷ []) ys) k) z
    ∙ values_keep input (words ++ node_value y input words ∷ []) ys (length words) (omega (arith, size))
    ∙ get_or-append_right words (node_value y input words ∷ []) (length words) (length words) 0 refl (omega arith)
    ∙ ap (λ (k : ℕ). get_or (node_value y input words ∷ []) k 0) (let w : length words - length words ≡ 0 = omega arith in w)
    ∙ ap (λ (n : Node). node_value n input words) (sym is ∙ e)
value_at input words (y ∷ ys) (suc j) v x lt is e =
    let size = length-append words (node_value y input words ∷ []) in
    let z : length words + suc j ≡ length (words ++ node_value y input words ∷ []) + j = omega (arith, size) in
    ap (λ (k : ℕ). slice_index (values_from input (words ++ node_value y input words ∷ []) ys) k) z
    ∙ value_at input (words ++ node_value y input words ∷ []) ys j v x (omega (arith, lt)) is e

-- the word of a constant
pub constant_known : (list : List Node) (j v : ℕ) (x : Node) → j < length list → x ≡ get_or list j x → x ≡ Constant v → (input : ℕ → ℕ) → slice_index (values_of input list) j ≡ v
constant_known list j v x lt is e input = let z : j ≡ 0 + j = omega arith in
    ap (λ (k : ℕ). slice_index (values_of input list) k) z ∙ value_at input [] list j v x lt is e

-- it is a word
pub constant_word : (list : List Node) (j v : ℕ) (x : Node) → AreNodes list → j < length list → x ≡ get_or list j x → x ≡ Constant v → v < value_bound
constant_word list j v x are lt is e = subst (λ (n : Node). IsNodeOf are.0 (0 + j) n) e (node_at are.0 0 list j x are.1 lt is)

-- so read with any default
pub read_known : (list : List Node) (j v : ℕ) (d : Node) → j < length list → get_or list j d ≡ Constant v → (input : ℕ → ℕ) → slice_index (values_of input list) j ≡ v
read_known list j v d lt e input = constant_known list j v (Constant v) lt (sym e ∙ get_or_default list j d (Constant v) lt) refl input

pub read_word : (list : List Node) (j v : ℕ) (d : Node) → AreNodes list → j < length list → get_or list j d ≡ Constant v → v < value_bound
read_word list j v d are lt e = constant_word list j v (Constant v) are lt (sym e ∙ get_or_default list j d (Constant v) lt) refl

-- ---- behind nodes

pub folds_behind : (out : List Node) (node : Node) (facts : List ℕ → Type 0) (folded : Folded) → AreNodes out → FoldsTo node facts folded → ((input : ℕ → ℕ) → facts (values_of input out)) → FoldsBehind out node folded
folds_behind out node facts folded are folds holds = record {
  same = λ input words. folds.same input (values_of input out) (values_words are.0 0 out input [] are.1 words (λ k. none_word k)) (holds input);
  formed = folds.formed;
  lighter = folds.lighter;
}
  where
    none_word : (k : ℕ) → slice_index [] k < value_bound
    none_word zero = omega arith
    none_word (suc k) = omega arith

pub stays_behind : (out : List Node) (node : Node) → FoldsBehind out node (New node)
stays_behind out node = record { same = λ input words. refl; formed = λ inputs before is. is; lighter = omega arith }

pub convert_behind : (out : List Node) (node : Node) → (from to : _) (of : ℕ) → node ≡ Convert from to of → FoldsBehind out node (Same of)
convert_behind out node from to of e = subst (λ (n : Node). FoldsBehind out n (Same of)) (sym e) (record { same = λ input words. refl; formed = λ inputs before is. is; lighter = omega arith })

-- ---- operands

pub node_operands : (inputs before : ℕ) (node : Node) → IsNodeOf inputs before node → Operands before node
node_operands inputs before (Constant value) is = tt
node_operands inputs before (Input number kind) is = tt
node_operands inputs before (Unary op kind of) is = is
node_operands inputs before (Binary op kind left right) is = is
node_operands inputs before (Convert from to of) is = is
node_operands inputs before (Choose test chosen other) is = is

pub any_operands : (node : Node) → OperandsAre AnyNode node
any_operands (Constant value) = tt
any_operands (Input number kind) = tt
any_operands (Unary op kind of) = tt
any_operands (Binary op kind left right) = (tt, tt)
any_operands (Convert from to of) = tt
any_operands (Choose test chosen other) = (tt, tt, tt)

renamed_formed : (inputs before after : ℕ) (P : ℕ → Type 0) (places : List ℕ) (node : Node) → ((k : ℕ) → k < before → P k → slice_index places k < after) → OperandsAre P node → IsNodeOf inputs before node
    → IsNodeOf inputs after (renamed places node)
renamed_formed inputs before after P places (Constant value) w o is = is
renamed_formed inputs before after P places (Input number kind) w o is = is
renamed_formed inputs before after P places (Unary op kind of) w o is = w of is o
renamed_formed inputs before after P places (Binary op kind left right) w o is = (w left is.0 o.0, w right is.1 o.1)
renamed_formed inputs before after P places (Convert from to of) w o is = w of is o
renamed_formed inputs before after P places (Choose test chosen other) w o is = (w test is.0 o.0, w chosen is.1 o.1, w other is.2 o.2)

renamed_number : (places : List ℕ) (node : Node) → node_number (renamed places node) ≡ node_number node
renamed_number places (Constant value) = refl
renamed_number places (Input number kind) = refl
renamed_number places (Unary op kind of) = refl
renamed_number places (Binary op kind left right) = refl
renamed_number places (Convert from to of) = refl
renamed_number places (Choose test chosen other) = refl

renamed_value : (inputs before : ℕ) (P : ℕ → Type 0) (places old new : List ℕ) (input : ℕ → ℕ) (node : Node) → ((k : ℕ) → k < before → P k → slice_index new (slice_index places k) ≡ slice_index old k) → OperandsAre P node
    → IsNodeOf inputs before node → node_value (renamed places node) input new ≡ node_value node input old
renamed_value inputs before P places old new input (Constant value) s o is = refl
renamed_value inputs before P places old new input (Input number kind) s o is = refl
renamed_value inputs before P places old new input (Unary op kind of) s o is = ap (λ (w : ℕ). unary_value op w kind) (s of is o)
renamed_value inputs before P places old new input (Binary op kind left right) s o is = ap₂ (λ (v w : ℕ). binary_value op v w kind) (s left is.0 o.0) (s right is.1 o.1)
renamed_value inputs before P places old new input (Convert from to of) s o is = ap (λ (w : ℕ). converted w from to) (s of is o)
renamed_value inputs before P places old new input (Choose test chosen other) s o is =
    ap₂ (λ (v w : ℕ). cond (eqb (slice_index new (slice_index places test)) 0) v w) (s other is.2 o.2) (s chosen is.1 o.1)
    ∙ ap (λ (t : ℕ). cond (eqb t 0) (slice_index old other) (slice_index old chosen)) (s test is.0 o.0)

-- ---- what is placed

-- the nodes before stay, and the one that was placed has its word
record Placed (inputs : ℕ) (before after : List Node) (folded : Folded) (number : ℕ) : Type 0 where
  pub formed : AreNodesFrom inputs 0 after
  pub within : number < length after
  pub longer : length before ≤ length after
  pub value : (input : ℕ → ℕ) → slice_index (values_of input after) number ≡ folded_value folded input (values_of input before)
  pub stays : (input : ℕ → ℕ) (k : ℕ) → k < length before → slice_index (values_of input after) k ≡ slice_index (values_of input before) k
  pub fewer : length after ≤ suc (length before)
  pub lighter : nodes_weight after ≤ nodes_weight before + folded_number folded

placed : (inputs : ℕ) (before after : List Node) (folded : Folded) (number : ℕ) → AreNodesFrom inputs 0 before → IsFoldedOf inputs (length before) folded → IsPlaced before after folded number → Placed inputs before after folded number
placed inputs before after (Same node) number are is e =
    subst (λ (xs : List Node). Placed inputs before xs (Same node) number) (sym e.0) (subst (λ (k : ℕ). Placed inputs before before (Same node) k) (sym e.1) (record {
      formed = are;
      within = is;
      longer = omega arith;
      value = λ input. refl;
      stays = λ input k lt. refl;
      fewer = omega arith;
      lighter = omega arith;
    }))
placed inputs before after (New node) number are is e =
    subst (λ (xs : List Node). Placed inputs before xs (New node) number) (sym e.0) (subst (λ (k : ℕ). Placed inputs before (before ++ node ∷ []) (New node) k) (sym e.1) (let size = length-append before (node ∷ []) in record {
      formed = nodes_append inputs 0 before (node ∷ []) are (nodes_one inputs (0 + length before) node (subst (λ (k : ℕ). IsNodeOf inputs k node) (let z : length before ≡ 0 + length before = omega arith in z) is));
      within = omega (arith, size);
      longer = omega (arith, size);
      value = λ input. value_last input before node;
      stays = λ input k lt. value_stays input before (node ∷ []) k lt;
      fewer = omega (arith, size);
      lighter = let w = weight_append before (node ∷ []) in omega (arith, w);
    }))

-- one node more
pub went_next : (inputs : ℕ) (P : ℕ → Type 0) (old before after : List Node) (places : List ℕ) (node : Node) (folded : Folded) (number : ℕ) → FoldsBehind before (renamed places node) folded → IsPlaced before after folded number
    → Went inputs P old before places → OperandsAre P node → IsNodeOf inputs (length old) node → Went inputs P (old ++ node ∷ []) after (places ++ number ∷ [])
went_next inputs P old before after places node folded number folds put went are is =
    let size = length-append old (node ∷ []) in
    let count = went.count in
    let longer = length-append places (number ∷ []) in
    record {
      count = omega (arith, size, count, longer);
      formed = here.formed;
      within = λ k lt needed. within_at k (ltb_cases k) lt needed;
      same = λ input words k lt needed. same_at input words k (ltb_cases k) lt needed;
      fewer = let f = went.fewer in let g = here.fewer in omega (arith, f, g, size);
      lighter = let f = went.lighter in let g = here.lighter in let h = folds.lighter in let n = renamed_number places node in let w = weight_append old (node ∷ []) in omega (arith, f, g, h, n, w);
    }
  where
    named : IsNodeOf inputs (length before) (renamed places node)
    named = renamed_formed inputs (length old) (length before) P places node went.within are is

    here : Placed inputs before after folded number
    here = placed inputs before after folded number went.formed (folds.formed inputs (length before) named) put

    ltb_cases : (k : ℕ) → (k < length old) ⊎ (length old ≤ k)
    ltb_cases k = cases_lt k (length old)

    front : (k : ℕ) → k < length old → slice_index (places ++ number ∷ []) k ≡ slice_index places k
    front k lt = let c = went.count in get_or_append_left places (number ∷ []) 0 k (omega (arith, lt, c))

    last : (k : ℕ) → k ≡ length old → slice_index (places ++ number ∷ []) k ≡ number
    last k e = let c = went.count in get_or-append_right places (number ∷ []) (length places) k 0 refl (omega (arith, e, c))
        ∙ ap (λ (n : ℕ). get_or (number ∷ []) n 0) (let z : k - length places ≡ 0 = omega (arith, e, c) in z)

    within_at : (k : ℕ) → (k < length old) ⊎ (length old ≤ k) → k < length (old ++ node ∷ []) → P k → slice_index (places ++ number ∷ []) k < length after
    within_at k (inl lt) below needed = let w = went.within k lt needed in let l = here.longer in let e = front k lt in omega (arith, w, l, e)
    within_at k (inr le) below needed = let size = length-append old (node ∷ []) in let e = last k (omega (arith, le, below, size)) in let w = here.within in omega (arith, e, w)

    same_at : (input : ℕ → ℕ) → ((i : ℕ) → input i < value_bound) → (k : ℕ) → (k < length old) ⊎ (length old ≤ k) → k < length (old ++ node ∷ []) → P k
        → slice_index (values_of input after) (slice_index (places ++ number ∷ []) k) ≡ slice_index (values_of input (old ++ node ∷ [])) k
    same_at input words k (inl lt) below needed =
        ap (λ (n : ℕ). slice_index (values_of input after) n) (front k lt) ∙ here.stays input (slice_index places k) (went.within k lt needed) ∙ went.same input words k lt needed ∙ sym (value_stays input old (node ∷ []) k lt)
    same_at input words k (inr le) below needed =
        let size = length-append old (node ∷ []) in
        let at : k ≡ length old = omega (arith, le, below, size) in
        ap (λ (n : ℕ). slice_index (values_of input after) n) (last k at) ∙ here.value input ∙ folds.same input words
        ∙ renamed_value inputs (length old) P places (values_of input old) (values_of input before) input node (went.same input words) are is
        ∙ sym (value_last input old node) ∙ ap (λ (n : ℕ). slice_index (values_of input (old ++ node ∷ [])) n) (sym at)

-- a node that is none of these is left out
pub went_over : (inputs : ℕ) (P : ℕ → Type 0) (old new : List Node) (places : List ℕ) (node : Node) (number : ℕ) → Went inputs P old new places → (P (length old) → ⊥) → Went inputs P (old ++ node ∷ []) new (places ++ number ∷ [])
went_over inputs P old new places node number went out =
    let size = length-append old (node ∷ []) in
    let count = went.count in
    let longer = length-append places (number ∷ []) in
    record {
      count = omega (arith, size, count, longer);
      formed = went.formed;
      within = λ k lt needed. within_at k (cases_lt k (length old)) lt needed;
      same = λ input words k lt needed. same_at input words k (cases_lt k (length old)) lt needed;
      fewer = let f = went.fewer in omega (arith, f, size);
      lighter = let f = went.lighter in let w = weight_append old (node ∷ []) in omega (arith, f, w);
    }
  where
    front : (k : ℕ) → k < length old → slice_index (places ++ number ∷ []) k ≡ slice_index places k
    front k lt = let c = went.count in get_or_append_left places (number ∷ []) 0 k (omega (arith, lt, c))

    none_here : (k : ℕ) → length old ≤ k → k < length (old ++ node ∷ []) → P k → ⊥
    none_here k le below needed = let size = length-append old (node ∷ []) in let at : k ≡ length old = omega (arith, le, below, size) in out (subst P at needed)

    within_at : (k : ℕ) → (k < length old) ⊎ (length old ≤ k) → k < length (old ++ node ∷ []) → P k → slice_index (places ++ number ∷ []) k < length new
    within_at k (inl lt) below needed = let w = went.within k lt needed in let e = front k lt in omega (arith, w, e)
    within_at k (inr le) below needed = absurd (none_here k le below needed)

    same_at : (input : ℕ → ℕ) → ((i : ℕ) → input i < value_bound) → (k : ℕ) → (k < length old) ⊎ (length old ≤ k) → k < length (old ++ node ∷ []) → P k
        → slice_index (values_of input new) (slice_index (places ++ number ∷ []) k) ≡ slice_index (values_of input (old ++ node ∷ [])) k
    same_at input words k (inl lt) below needed = ap (λ (n : ℕ). slice_index (values_of input new) n) (front k lt) ∙ went.same input words k lt needed ∙ sym (value_stays input old (node ∷ []) k lt)
    same_at input words k (inr le) below needed = absurd (none_here k le below needed)

-- no node
pub went_none : (inputs : ℕ) (P : ℕ → Type 0) → Went inputs P [] [] []
unfolding AreNodesFrom
went_none inputs P = record {
  count = refl;
  formed = tt;
  within = λ k lt needed. absurd (let no_item : ⊥ = omega (arith, lt) in no_item);
  same = λ input words k lt needed. absurd (let no_item : ⊥ = omega (arith, lt) in no_item);
  fewer = omega arith;
  lighter = omega arith;
}

-- ---- the loop

-- a node names nodes before it
pub node_of : (nodes : Nodes) (list : List Node) (i : ℕ) (x : Node) → AreWellFormed nodes → list ≡ nodes.list → i < length list → x ≡ get_or list i x → IsNodeOf nodes.inputs (length (take i list)) x
node_of nodes list i x formed e lt is =
    let size : length (take i list) ≡ i = length-take-le i list (omega (arith, lt)) in
    subst (λ (k : ℕ). IsNodeOf nodes.inputs k x) (let z : 0 + i ≡ length (take i list) = omega (arith, size) in z)
    (node_at nodes.inputs 0 list i x (subst (λ (xs : List Node). AreNodesFrom nodes.inputs 0 xs) (sym e) formed.list) lt is)

pub operands_of : (P : ℕ → Type 0) (nodes : Nodes) (list out : List Node) (places lent : List ℕ) (i : ℕ) (x : Node) → AreWellFormed nodes → list ≡ nodes.list → i < length list → x ≡ get_or list i x
    → Went nodes.inputs P (take i list) out places → lent ≡ places → Operands (length lent) x
operands_of P nodes list out places lent i x formed e lt is went same =
    subst (λ (k : ℕ). Operands k x) (sym went.count ∙ sym (ap (λ (xs : List ℕ). length xs) same)) (node_operands nodes.inputs (length (take i list)) x (node_of nodes list i x formed e lt is))

pub went_turn : (P : ℕ → Type 0) (nodes : Nodes) (list out after : List Node) (places lent places' : List ℕ) (i number : ℕ) (x : Node) → AreWellFormed nodes → list ≡ nodes.list → i < length list → x ≡ get_or list i x → lent ≡ places
    → ((inputs : ℕ) (old : List Node) → Went inputs P old out lent → IsNodeOf inputs (length old) x → Went inputs P (old ++ x ∷ []) after (lent ++ number ∷ []))
    → places' ≡ places ++ number ∷ [] → Went nodes.inputs P (take i list) out places → Went nodes.inputs P (take (i + 1) list) after places'
went_turn P nodes list out after places lent places' i number x formed e lt is same step more went =
    subst (λ (old : List Node). Went nodes.inputs P old after places') (sym (take_more list i x lt ∙ ap (λ (y : Node). take i list ++ y ∷ []) (sym is)))
    (subst (λ (ps : List ℕ). Went nodes.inputs P (take i list ++ x ∷ []) after ps) (ap (λ (ps : List ℕ). ps ++ number ∷ []) same ∙ sym more)
    (step nodes.inputs (take i list) (subst (λ (ps : List ℕ). Went nodes.inputs P (take i list) out ps) (sym same) went) (node_of nodes list i x formed e lt is)))

pub went_start : (P : ℕ → Type 0) (inputs : ℕ) (list out : List Node) (places : List ℕ) → out ≡ [] → places ≡ [] → Went inputs P (take 0 list) out places
went_start P inputs list out places no_nodes no_places =
    subst (λ (ps : List ℕ). Went inputs P [] out ps) (sym no_places) (subst (λ (xs : List Node). Went inputs P [] xs []) (sym no_nodes) (went_none inputs P))

-- ---- the whole

-- there are no more nodes than they weigh
pub length_weight : (list : List Node) → length list ≤ nodes_weight list
length_weight [] = omega arith
length_weight (x ∷ xs) = let more = length_weight xs in let one = node_heavy x in omega (arith, more, one)
  where
    node_heavy : (node : Node) → 1 ≤ node_number node
    node_heavy (Constant value) = omega arith
    node_heavy (Input number kind) = omega arith
    node_heavy (Unary op kind of) = let h = unary_heavy op in omega (arith, h)
    node_heavy (Binary op kind left right) = let h = binary_heavy op in omega (arith, h)
    node_heavy (Convert from to of) = omega arith
    node_heavy (Choose test chosen other) = omega arith

-- folded twice
pub fold_then : (nodes folded made : Nodes) → IsFoldOf nodes folded → IsFoldOf folded made → IsFoldOf nodes made
fold_then nodes folded made one two = record {
  formed = two.formed;
  inputs = two.inputs ∙ one.inputs;
  same = λ input words. two.same input words ∙ one.same input words;
  fewer = let f = one.fewer in let g = two.fewer in omega (arith, f, g);
  lighter = let f = one.lighter in let g = two.lighter in omega (arith, f, g);
}
