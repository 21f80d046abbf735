-- One turn of the walk down, and of the walk that keeps the needed nodes.
use Rattle.std.proofs.Common.{◌≡◌, ℕ, suc, ◌+◌, ◌<◌, ◌≤◌, ◌⊎◌, inl, inr, Bool, true, false, List, [], ◌∷◌, ◌++◌, length, take, get_or, refl, sym, ◌∙◌, ap, subst, arith}
use Rattle.std.proofs.lemmas.Bool.{cases_lt}
use Rattle.std.proofs.lemmas.List.{get_or_default, length-take-le, take_more}
use Rattle.lz_ssa.specs.declared.node.Node.{Node}
use Rattle.lz_ssa.specs.declared.node.Node.TheVariants.{Constant, Input, Unary, Binary, Convert, Choose}
use Rattle.lz_ssa.specs.declared.node.Nodes.{Nodes}
use Rattle.lz_ssa.specs.NodeValues.{AreWellFormed}
use Rattle.lz_ssa.proofs.EvaluateLemmas.{node_at}
use Rattle.lz_fold.specs.declared.rules.Folded.TheVariants.{New}
use Rattle.lz_fold.specs.Folding.{OperandsAre, Operands, renamed, AreNodes, IsNeeded, IsClosedFrom, NeedsMore, kept, Went}
use Rattle.lz_fold.proofs.GoingLemmas.{node_operands, node_of, stays_behind, went_next, went_over}

-- the operands of a node are before it
pub operands_at : (list : List Node) (i : ℕ) (d : Node) → AreNodes list → i < length list → Operands i (get_or list i d)
operands_at list i d are lt = let z : 0 + i ≡ i = omega arith in
    subst (λ (k : ℕ). Operands k (get_or list i d)) z (node_operands are.0 (0 + i) (get_or list i d) (node_at are.0 0 list i (get_or list i d) are.1 lt (get_or_default list i d (get_or list i d) lt)))

operands_more : (P Q : ℕ → Type 0) → ((k : ℕ) → P k → Q k) → (node : Node) → OperandsAre P node → OperandsAre Q node
operands_more P Q f (Constant value) h = tt
operands_more P Q f (Input number kind) h = tt
operands_more P Q f (Unary op kind of) h = f of h
operands_more P Q f (Binary op kind left right) h = (f left h.0, f right h.1)
operands_more P Q f (Convert from to of) h = f of h
operands_more P Q f (Choose test chosen other) h = (f test h.0, f chosen h.1, f other h.2)

-- one node further down
pub closed_turn : (list : List Node) (old new : List Bool) (next at after : ℕ) (d : Node) → next ≡ suc at → after ≡ at → IsClosedFrom next list old → NeedsMore old new
    → ((k : ℕ) → at ≤ k → IsNeeded new k → IsNeeded old k) → (IsNeeded new at → OperandsAre (IsNeeded new) (get_or list at d)) → IsClosedFrom after list new
closed_turn list old new next at after d up down closed more above here i node le lt is needed = by (cases_lt at i)
  where
    by : (at < i) ⊎ (i ≤ at) → OperandsAre (IsNeeded new) node
    by (inl higher) = operands_more (IsNeeded old) (IsNeeded new) more node (closed i node (omega (arith, higher, up)) lt is (above i (omega (arith, higher)) needed))
    by (inr same) = let at_i : i ≡ at = omega (arith, same, le, down) in
        subst (OperandsAre (IsNeeded new)) (ap (λ (k : ℕ). get_or list k d) (sym at_i) ∙ get_or_default list i d node lt ∙ sym is) (here (subst (IsNeeded new) at_i needed))

-- one node more, if it is needed
pub keep_turn : (nodes : Nodes) (flags : List Bool) (list out after : List Node) (places lent places' : List ℕ) (i number : ℕ) (x : Node) → AreWellFormed nodes → list ≡ nodes.list → i < length list → x ≡ get_or list i x
    → IsClosedFrom 0 nodes.list flags → lent ≡ places → after ≡ kept (get_or flags i false) lent x out → number ≡ length out → places' ≡ places ++ number ∷ []
    → Went nodes.inputs (IsNeeded flags) (take i list) out places → Went nodes.inputs (IsNeeded flags) (take (i + 1) list) after places'
keep_turn nodes flags list out after places lent places' i number x formed e lt is closed same keeps numbered more went =
    subst (λ (old : List Node). Went nodes.inputs (IsNeeded flags) old after places') (sym (take_more list i x lt ∙ ap (λ (y : Node). take i list ++ y ∷ []) (sym is)))
    (subst (λ (ps : List ℕ). Went nodes.inputs (IsNeeded flags) (take i list ++ x ∷ []) after ps) (ap (λ (ps : List ℕ). ps ++ number ∷ []) same ∙ sym more) (by (get_or flags i false) refl))
  where
    size : length (take i list) ≡ i
    size = length-take-le i list (omega (arith, lt))

    so_far : Went nodes.inputs (IsNeeded flags) (take i list) out lent
    so_far = subst (λ (ps : List ℕ). Went nodes.inputs (IsNeeded flags) (take i list) out ps) (sym same) went

    by : (b : Bool) → get_or flags i false ≡ b → Went nodes.inputs (IsNeeded flags) (take i list ++ x ∷ []) after (lent ++ number ∷ [])
    by true f = went_next nodes.inputs (IsNeeded flags) (take i list) out after lent x (New (renamed lent x)) number (stays_behind out (renamed lent x))
        (keeps ∙ ap (λ (b : Bool). kept b lent x out) f, numbered) so_far
        (closed i x (omega arith) (subst (λ (xs : List Node). i < length xs) e lt) (subst (λ (xs : List Node). x ≡ get_or xs i x) e is) f)
        (node_of nodes list i x formed e lt is)
    by false f = subst (λ (xs : List Node). Went nodes.inputs (IsNeeded flags) (take i list ++ x ∷ []) xs (lent ++ number ∷ [])) (sym (keeps ∙ ap (λ (b : Bool). kept b lent x out) f))
        (went_over nodes.inputs (IsNeeded flags) (take i list) out lent x number so_far (λ needed. let z : get_or flags i false ≡ true = subst (IsNeeded flags) size needed in absurd cc))
