-- What the heights of bodies owe to the heights of the functions that they call.
use Rattle.std.proofs.Common.{◌≡◌, ℕ, zero, suc, ◌+◌, ◌<◌, ◌≤◌, ◌⊎◌, ◌==◌, max, Bool, true, false, List, [], ◌∷◌, ◌++◌, map, length, set, get_or-set_same, get_or-set_other, length-set, get_or, slice_get, slice_index, Option, Some, None, refl, sym, ap, ◌∙◌, subst, arith, inl, inr, eq-eqb, All, option_map, if◌then◌else◌}
use Rattle.std.specs.List.{Contains}
use Rattle.std.proofs.lemmas.Bool.{cases_lt, cases_eq, cases_Bool, false≢true}
use Rattle.std.proofs.lemmas.List.{get_or_past}
use Rattle.std.proofs.lemmas.Option.{slice_get_past, slice_get-map}
use Rattle.lz_base.proofs.ListLemmas.{Agree, agree_left, agree_right}
use Rattle.lz_tree.specs.declared.scoped.Object.{Object}
use Rattle.lz_tree.specs.declared.scoped.Object.TheVariants.{Local, Cell, Mutex, Cond, Handle, Routine, Known}
use Rattle.lz_tree.specs.ScopedTrees.{ScopedExpression, constant, null, text, object, address, paren, unary, cast, binary, choose, assign, step, call, lvalue, ScopedIndex, whole, element, ScopedExpressions, none, and, ScopedInitializer, nothing, single, listed, ScopedInitDeclarator, ScopedStatement, empty, eval, block, declare, when, while, do_while, for, break, continue, return, label, ScopedBranch, absent, branch, ScopedStatements, nil, cons, ScopedDefinition}
use Rattle.lz_tree.specs.Calls.{called, expression_calls, index_calls, expressions_calls, optional_calls, initializer_calls, declarators_calls, statement_calls, branch_calls, statements_calls, StandsBefore}
use Rattle.lz_calls.specs.Calls.{graph_of, row, Calls, height_called, height_in, height_at, height_in_index, height_in_all, height_in_optional, height_in_initializer, height_in_declarators, height_of, height_of_branch, height_of_all}
use Rattle.lz_calls.specs.Heights.{capped, counts_at, body_height, height_through, greatest, height_at_rank}
use Rattle.lz_calls.specs.Ranks.{IsRanking, IsRankOrder}

-- What is seen of heights that tells a height from what is seen of the parts: all, or where they stop.
pub record Sees (h : ℕ → ℕ) : Type 0 where
  pub top : {a b c d : ℕ} → h a ≡ h c → h b ≡ h d → h (max a b) ≡ h (max c d)
  pub more : {a b : ℕ} → h a ≡ h b → h (suc a) ≡ h (suc b)

-- all of them
pub sees_all : Sees (λ n. n)
sees_all = record { top = λ {a} {b} {c} {d} left right. omega arith; more = λ e. ap suc e }

-- where they stop at the greatest
pub sees_capped : Sees capped
sees_capped = record { top = λ {a} {b} {c} {d} left right. omega arith; more = λ {a} {b} e. omega arith }

called_agrees : {h : ℕ → ℕ} {r s : ℕ → ℕ} → (callee : Object) → Agree h r s (called callee) → h (height_called r callee) ≡ h (height_called s callee)
called_agrees (Local first len kind) a = refl
called_agrees (Cell first len kind) a = refl
called_agrees (Mutex first len) a = refl
called_agrees (Cond first len) a = refl
called_agrees (Handle first len) a = refl
called_agrees (Routine function) a = a.at function (0, omega arith, refl)
called_agrees (Known name) a = refl

mutual
  unfolding height_in height_at height_in_index height_in_all

  expression_agrees : {h : ℕ → ℕ} {r s : ℕ → ℕ} → Sees h → (e : ScopedExpression) → Agree h r s (expression_calls e) → h (height_in r e) ≡ h (height_in s e)
  expression_agrees k (constant line value form kind) a = refl
  expression_agrees k (null line kind) a = refl
  expression_agrees k (text line kind) a = refl
  expression_agrees k (object (lvalue at meant index checked) kind) a = k.more (index_agrees k index a)
  expression_agrees k (address line (lvalue at meant index checked) kind) a = k.more (index_agrees k index a)
  expression_agrees k (paren line e kind) a = k.more (expression_agrees k e a)
  expression_agrees k (unary line op e kind) a = k.more (expression_agrees k e a)
  expression_agrees k (cast line to e kind) a = k.more (expression_agrees k e a)
  expression_agrees k (binary line op l q kind) a = k.more (k.top (expression_agrees k l (agree_left _ _ a)) (expression_agrees k q (agree_right _ _ a)))
  expression_agrees k (choose line l m q kind) a =
      k.more (k.top (expression_agrees k l (agree_left _ _ a)) (k.top (expression_agrees k m (agree_left _ _ (agree_right _ _ a))) (expression_agrees k q (agree_right _ _ (agree_right _ _ a)))))
  expression_agrees k (assign line op (lvalue at meant index checked) e kind) a =
      k.more (k.top (index_agrees k index (agree_left _ _ a)) (expression_agrees k e (agree_right _ _ a)))
  expression_agrees k (step line (lvalue at meant index checked) up before kind) a = k.more (index_agrees k index a)
  expression_agrees k (call line callee args kind) a =
      k.more (k.top (expressions_agree k args (agree_left _ _ a)) (called_agrees callee (agree_right _ _ a)))

  index_agrees : {h : ℕ → ℕ} {r s : ℕ → ℕ} → Sees h → (i : ScopedIndex) → Agree h r s (index_calls i) → h (height_in_index r i) ≡ h (height_in_index s i)
  index_agrees k whole a = refl
  index_agrees k (element e) a = expression_agrees k e a

  expressions_agree : {h : ℕ → ℕ} {r s : ℕ → ℕ} → Sees h → (es : ScopedExpressions) → Agree h r s (expressions_calls es) → h (height_in_all r es) ≡ h (height_in_all s es)
  expressions_agree k none a = refl
  expressions_agree k (and e rest) a = k.top (expression_agrees k e (agree_left _ _ a)) (expressions_agree k rest (agree_right _ _ a))

optional_agrees : {h : ℕ → ℕ} {r s : ℕ → ℕ} → Sees h → (e : Option ScopedExpression) → Agree h r s (optional_calls e) → h (height_in_optional r e) ≡ h (height_in_optional s e)
optional_agrees k None a = refl
optional_agrees k (Some e) a = expression_agrees k e a

initializer_agrees : {h : ℕ → ℕ} {r s : ℕ → ℕ} → Sees h → (i : ScopedInitializer) → Agree h r s (initializer_calls i) → h (height_in_initializer r i) ≡ h (height_in_initializer s i)
initializer_agrees k nothing a = refl
initializer_agrees k (single e) a = expression_agrees k e a
initializer_agrees k (listed values) a = k.more (expressions_agree k values a)

declarators_agree : {h : ℕ → ℕ} {r s : ℕ → ℕ} → Sees h → (ds : List ScopedInitDeclarator) → Agree h r s (declarators_calls ds) → h (height_in_declarators r ds) ≡ h (height_in_declarators s ds)
declarators_agree k [] a = refl
declarators_agree k (d ∷ rest) a =
    k.top (k.top (optional_agrees k d.length (agree_left _ _ a)) (initializer_agrees k d.first (agree_left _ _ (agree_right _ _ a)))) (declarators_agree k rest (agree_right _ _ (agree_right _ _ a)))

mutual
  unfolding height_of height_of_branch height_of_all

  -- the height of a statement
  pub statement_agrees : {h : ℕ → ℕ} {r s : ℕ → ℕ} → Sees h → (c : ScopedStatement) → Agree h r s (statement_calls c) → h (height_of r c) ≡ h (height_of s c)
  statement_agrees k empty a = refl
  statement_agrees k (eval e) a = k.more (expression_agrees k e a)
  statement_agrees k (block parts) a = k.more (statements_agree k parts a)
  statement_agrees k (declare of) a = k.more (declarators_agree k of.declarators a)
  statement_agrees k (when line test first second) a =
      k.more (k.top (expression_agrees k test (agree_left _ _ a)) (k.top (statement_agrees k first (agree_left _ _ (agree_right _ _ a))) (branch_agrees k second (agree_right _ _ (agree_right _ _ a)))))
  statement_agrees k (while line test body) a =
      k.more (k.top (expression_agrees k test (agree_left _ _ a)) (statement_agrees k body (agree_right _ _ a)))
  statement_agrees k (do_while line body test) a =
      k.more (k.top (statement_agrees k body (agree_left _ _ a)) (expression_agrees k test (agree_right _ _ a)))
  statement_agrees k (for line first test change body) a =
      let turn = agree_right (optional_calls test) (optional_calls change ++ statement_calls body) (agree_right (statement_calls first) _ a) in
      k.more (k.top (statement_agrees k first (agree_left _ _ a)) (k.top (optional_agrees k test (agree_left _ _ (agree_right _ _ a))) (k.top (optional_agrees k change (agree_left (optional_calls change) (statement_calls body) turn)) (statement_agrees k body (agree_right (optional_calls change) (statement_calls body) turn)))))
  statement_agrees k (break line) a = refl
  statement_agrees k (continue line) a = refl
  statement_agrees k (return line e) a = k.more (optional_agrees k e a)
  statement_agrees k (label name of) a = k.more (statement_agrees k of a)

  branch_agrees : {h : ℕ → ℕ} {r s : ℕ → ℕ} → Sees h → (b : ScopedBranch) → Agree h r s (branch_calls b) → h (height_of_branch r b) ≡ h (height_of_branch s b)
  branch_agrees k absent a = refl
  branch_agrees k (branch c) a = statement_agrees k c a

  statements_agree : {h : ℕ → ℕ} {r s : ℕ → ℕ} → Sees h → (cs : ScopedStatements) → Agree h r s (statements_calls cs) → h (height_of_all r cs) ≡ h (height_of_all s cs)
  statements_agree k nil a = refl
  statements_agree k (cons c rest) a = k.top (statement_agrees k c (agree_left _ _ a)) (statements_agree k rest (agree_right _ _ a))

-- ---- by ranks

pick : (h : ℕ → ℕ) (r own a b : ℕ) → (r ≡ own) ⊎ (h a ≡ h b) → h (if r == own then 0 else a) ≡ h (if r == own then 0 else b)
pick h r own a b how =
    elim (cases_Bool (r == own)) [
      | inl e ↦ rw e refl
      | inr e ↦ elim how [ inl same ↦ absurd (false≢true (sym e ∙ eq-eqb r own same)) | inr alike ↦ rw e alike ]
    ]

-- the row of a function
pub row_of_body : (functions : List ScopedDefinition) (f : ℕ) (d : ScopedDefinition) → slice_get functions f ≡ Some d → slice_get (graph_of functions) f ≡ Some (statement_calls d.body)
row_of_body functions f d is = slice_get-map (λ x. statement_calls x.body) functions f ∙ ap (option_map (λ x. statement_calls x.body)) is

pub calls_of_body : (functions : List ScopedDefinition) (f g : ℕ) (d : ScopedDefinition) → slice_get functions f ≡ Some d → Contains (statement_calls d.body) g → Calls (graph_of functions) f g
calls_of_body functions f g d is c = subst (λ (r : Option (List ℕ)). Contains (row r) g) (sym (row_of_body functions f d is)) c

-- two heights that agree at the functions of lower rank
body_agrees : (h : ℕ → ℕ) → Sees h → (functions : List ScopedDefinition) (ranks : List ℕ) (f : ℕ) (u v : ℕ → ℕ) → ((g : ℕ) → Calls (graph_of functions) f g → (slice_index ranks g ≡ slice_index ranks f) ⊎ (h (u g) ≡ h (v g))) → (o : Option ScopedDefinition) → slice_get functions f ≡ o → h (body_height ranks u f o) ≡ h (body_height ranks v f o)
body_agrees h k functions ranks f u v each None is = refl
body_agrees h k functions ranks f u v each (Some d) is =
    statement_agrees k d.body (record { at = λ g c. pick h (slice_index ranks g) (slice_index ranks f) (u g) (v g) (each g (calls_of_body functions f g d is c)) })

-- a call comes back or leads to a lower rank
pub lower : (graph : List (List ℕ)) (ranks : List ℕ) → IsRanking graph ranks → (f g : ℕ) → Calls graph f g → (slice_index ranks g ≡ slice_index ranks f) ⊎ (slice_index ranks g < slice_index ranks f)
lower graph ranks r f g c = elim (cases_eq (slice_index ranks g) (slice_index ranks f)) [ inl same ↦ inl same | inr other ↦ inr (omega (arith, other, r.falls f g c)) ]

-- where calls may nest deeper than the rank a height is settled
settled : (functions : List ScopedDefinition) (ranks : List ℕ) → IsRanking (graph_of functions) ranks → (n f : ℕ) → slice_index ranks f < n → height_through functions ranks n f ≡ height_through functions ranks (suc n) f
settled functions ranks r zero f low = absurd (omega arith)
settled functions ranks r (suc n) f low =
    body_agrees (λ x. x) sees_all functions ranks f (height_through functions ranks n) (height_through functions ranks (suc n)) (λ g c.
    elim (lower (graph_of functions) ranks r f g c) [ inl same ↦ inl same | inr less ↦ inr (settled functions ranks r n g (omega (arith, less, low))) ]) (slice_get functions f) refl

at_most : (ranks : List ℕ) (f : ℕ) → slice_index ranks f ≤ greatest ranks
at_most [] f = omega arith
at_most (x ∷ rest) zero = omega arith
at_most (x ∷ rest) (suc f) = let low = at_most rest f in omega arith

-- each height is that of its body with those that it calls
pub height_fixed : (functions : List ScopedDefinition) (ranks : List ℕ) → IsRanking (graph_of functions) ranks → (f : ℕ) → height_at_rank functions ranks f ≡ body_height ranks (height_at_rank functions ranks) f (slice_get functions f)
height_fixed functions ranks r f = let low = at_most ranks f in settled functions ranks r (suc (greatest ranks)) f (omega arith)

-- ---- filling in

-- The heights of the functions that stand before the place `i` of the order are known, up to the greatest.
pub record AreKnown (functions : List ScopedDefinition) (ranks order : List ℕ) (i : ℕ) (heights : List ℕ) : Type 0 where
  pub long : length heights ≡ length functions
  pub known : (j : ℕ) → j < i → slice_index heights (slice_index order j) ≡ capped (height_at_rank functions ranks (slice_index order j))

pub known_start : (functions : List ScopedDefinition) (ranks order heights : List ℕ) → length heights ≡ length functions → AreKnown functions ranks order 0 heights
known_start functions ranks order heights long = record { long = long; known = λ j low. absurd (omega arith) }

twice : (a b : ℕ) → a ≡ capped b → capped a ≡ capped b
twice a b e = omega arith

none_past : (functions : List ScopedDefinition) (ranks : List ℕ) (n g : ℕ) → length functions ≤ g → height_through functions ranks n g ≡ 0
none_past functions ranks zero g past = refl
none_past functions ranks (suc n) g past = ap (body_height ranks (height_through functions ranks n) g) (slice_get_past functions g past)

-- from the heights that are known, those of called functions come out right
called_known : (functions : List ScopedDefinition) (ranks order : List ℕ) (i : ℕ) (heights : List ℕ) → IsRanking (graph_of functions) ranks → IsRankOrder (length functions) ranks order → i < length order → AreKnown functions ranks order i heights → (g : ℕ) → Calls (graph_of functions) (slice_index order i) g
    → (slice_index ranks g ≡ slice_index ranks (slice_index order i)) ⊎ (capped (slice_index heights g) ≡ capped (height_at_rank functions ranks g))
called_known functions ranks order i heights r o within known g c =
    elim (lower (graph_of functions) ranks r (slice_index order i) g c) [
      | inl same ↦ inl same
      | inr less ↦ inr (elim (cases_lt g (length functions)) [
        | inl low ↦
            let stands : StandsBefore order (length order) g = o.all g low in
            let at : ℕ = stands.0 in
            let is : slice_index order at ≡ g = stands.2 in
            let before : at < i = elim (cases_lt at i) [ inl yet ↦ yet | inr late ↦ absurd (omega (arith, o.rising i at late stands.1, less, ap (slice_index ranks) is)) ] in
            subst (λ (x : ℕ). capped (slice_index heights x) ≡ capped (height_at_rank functions ranks x)) is (twice _ _ (known.known at before))
        | inr past ↦
            let long : length heights ≡ length functions = known.long in
            ap capped (get_or_past heights g 0 (omega (arith, past, long)) ∙ sym (none_past functions ranks (suc (greatest ranks)) g past))
      ])
    ]

-- one turn
pub known_turn : (functions : List ScopedDefinition) (ranks order : List ℕ) (i : ℕ) (heights : List ℕ) (value : ℕ) → IsRanking (graph_of functions) ranks → IsRankOrder (length functions) ranks order → i < length order → slice_index order i < length heights → value ≡ capped (body_height ranks (slice_index heights) (slice_index order i) (slice_get functions (slice_index order i))) → AreKnown functions ranks order i heights
    → AreKnown functions ranks order (i + 1) (set heights (slice_index order i) value)
known_turn functions ranks order i heights value r o within inside is known =
    let f : ℕ = slice_index order i in
    let same : capped (body_height ranks (slice_index heights) f (slice_get functions f)) ≡ capped (body_height ranks (height_at_rank functions ranks) f (slice_get functions f)) =
    body_agrees capped sees_capped functions ranks f (slice_index heights) (height_at_rank functions ranks) (called_known functions ranks order i heights r o within known) (slice_get functions f) refl in
    let right : value ≡ capped (height_at_rank functions ranks f) = is ∙ same ∙ ap capped (sym (height_fixed functions ranks r f)) in
    record {
      long = length-set heights f value ∙ known.long;
      known = λ j low.
          elim (cases_eq (slice_index order j) f) [
            | inl same ↦ rw same (get_or-set_same heights f value 0 inside ∙ right)
            | inr other ↦
                get_or-set_other heights f (slice_index order j) value 0 other
                ∙ known.known j (elim (cases_eq j i) [ inl here ↦ absurd (other (ap (slice_index order) here)) | inr apart ↦ omega arith ])
          ];
    }

-- at the end each height is known
pub known_end : (functions : List ScopedDefinition) (ranks order : List ℕ) (i : ℕ) (heights : List ℕ) → IsRankOrder (length functions) ranks order → length order ≤ i → AreKnown functions ranks order i heights → (f : ℕ) → f < length functions → slice_index heights f ≡ capped (height_at_rank functions ranks f)
known_end functions ranks order i heights o end known f low =
    let stands : StandsBefore order (length order) f = o.all f low in
    subst (λ (z : ℕ). slice_index heights z ≡ capped (height_at_rank functions ranks z)) stands.2 (known.known stands.0 (omega (arith, stands.1, end)))
