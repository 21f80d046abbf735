-- The facts of functions are determined: two that are right of the same functions are equal.
use Rattle.std.proofs.Common.{◌≡◌, ℕ, zero, suc, ◌<◌, ◌⊎◌, max, nat_lt, Bool, true, false, List, [], ◌∷◌, ◌++◌, length, slice_get, Option, Some, None, refl, sym, ap, ◌∙◌, subst, arith, inl, inr, if◌then◌else◌, IsTrue, ◌↔◌}
use Rattle.std.proofs.lemmas.Bool.{cases_Bool}
use Rattle.std.proofs.lemmas.Option.{same_Some}
use Rattle.lz_tree.specs.declared.scoped.Object.{Object}
use Rattle.lz_tree.specs.declared.scoped.Object.TheVariants.{Local, Cell, Mutex, Cond, Handle, Routine, Known}
use Rattle.lz_tree.specs.ScopedTrees.{ScopedExpression, constant, null, text, object, address, paren, unary, cast, binary, choose, assign, step, call, lvalue, ScopedIndex, whole, element, ScopedExpressions, none, and, ScopedInitializer, nothing, single, listed, ScopedInitDeclarator, ScopedStatement, empty, eval, block, declare, when, while, do_while, for, break, continue, return, label, ScopedBranch, absent, branch, ScopedStatements, nil, cons, ScopedDefinition}
use Rattle.lz_tree.specs.Calls.{called, expression_calls, index_calls, expressions_calls, optional_calls, initializer_calls, declarators_calls, statement_calls, branch_calls, statements_calls}
use Rattle.lz_scopes.specs.Files.{Facts, or_false, row_has}
use Rattle.lz_calls.specs.Calls.{graph_of, row, Calls, height_called, height_in, height_at, height_in_index, height_in_all, height_in_optional, height_in_initializer, height_in_declarators, height_of, height_of_branch, height_of_all, body_height_limit, counted_height, AreFacts}
use Rattle.lz_calls.specs.Reaching.{Among}
use Rattle.lz_calls.proofs.ReachingLemmas.{among_contains, contains_among}
use Rattle.lz_calls.proofs.HeightsLemmas.{sees_all, statement_agrees, calls_of_body}
use Rattle.lz_calls.proofs.FactsLemmas.{filters_agree}

-- ---- a height is above what each of its calls counts

-- What a call of any function in a list counts is less than a height.
pub record IsAbove (counts : ℕ → ℕ) (calls : List ℕ) (height : ℕ) : Type 0 where
  pub less : (g : ℕ) → Among calls g → counts g < height

no_calls : {c : ℕ → ℕ} {n : ℕ} → IsAbove c [] n
no_calls = record { less = λ g a. absurd a }

higher : {c : ℕ → ℕ} {xs : List ℕ} {n : ℕ} → IsAbove c xs n → IsAbove c xs (suc n)
higher above = record { less = λ g a. let less = above.less g a in omega arith }

pub among_parts : (xs ys : List ℕ) (g : ℕ) → Among (xs ++ ys) g → Among xs g ⊎ Among ys g
among_parts [] ys g a = inr a
among_parts (x ∷ xs) ys g (inl e) = inl (inl e)
among_parts (x ∷ xs) ys g (inr a) = elim (among_parts xs ys g a) [ inl left ↦ inl (inr left) | inr right ↦ inr right ]

both : {c : ℕ → ℕ} {xs ys : List ℕ} {m n : ℕ} → IsAbove c xs m → IsAbove c ys n → IsAbove c (xs ++ ys) (max m n)
both {xs = xs} {ys = ys} left right = record {
  less = λ g a.
      elim (among_parts xs ys g a) [
        | inl l ↦ (let less = left.less g l in omega arith)
        | inr r ↦ (let less = right.less g r in omega arith)
      ];
}

-- a declarator has its length and its first value, and others stand behind it
three : {c : ℕ → ℕ} {xs ys zs : List ℕ} {k m n : ℕ} → IsAbove c xs k → IsAbove c ys m → IsAbove c zs n → IsAbove c (xs ++ (ys ++ zs)) (max (max k m) n)
three {xs = xs} {ys = ys} {zs = zs} first second third = record {
  less = λ g a.
      elim (among_parts xs (ys ++ zs) g a) [
        | inl x ↦ (let less = first.less g x in omega arith)
        | inr rest ↦ elim (among_parts ys zs g rest) [
          | inl y ↦ (let less = second.less g y in omega arith)
          | inr z ↦ (let less = third.less g z in omega arith)
        ]
      ];
}

-- a call has its arguments and the called function
with_callee : {c : ℕ → ℕ} {xs : List ℕ} {n : ℕ} → IsAbove c xs n → (callee : Object) → IsAbove c (xs ++ called callee) (suc (max n (height_called c callee)))
with_callee above (Local first len kind) = higher (both above no_calls)
with_callee above (Cell first len kind) = higher (both above no_calls)
with_callee above (Mutex first len) = higher (both above no_calls)
with_callee above (Cond first len) = higher (both above no_calls)
with_callee above (Handle first len) = higher (both above no_calls)
with_callee {c = c} {xs = xs} {n = n} above (Routine function) = record {
  less = λ g a.
      elim (among_parts xs (function ∷ []) g a) [
        | inl x ↦ (let less = above.less g x in omega arith)
        | inr last ↦ elim last [
          | inl e ↦ (let same : c function ≡ c g = ap c e in omega arith)
          | inr nowhere ↦ absurd nowhere
        ]
      ];
}
with_callee above (Known name) = higher (both above no_calls)

mutual
  unfolding height_in height_at height_in_index height_in_all

  expression_above : (c : ℕ → ℕ) (e : ScopedExpression) → IsAbove c (expression_calls e) (height_in c e)
  expression_above c (constant line value form kind) = no_calls
  expression_above c (null line kind) = no_calls
  expression_above c (text line kind) = no_calls
  expression_above c (object (lvalue at meant index checked) kind) = higher (index_above c index)
  expression_above c (address line (lvalue at meant index checked) kind) = higher (index_above c index)
  expression_above c (paren line e kind) = higher (expression_above c e)
  expression_above c (unary line op e kind) = higher (expression_above c e)
  expression_above c (cast line to e kind) = higher (expression_above c e)
  expression_above c (binary line op l q kind) = higher (both (expression_above c l) (expression_above c q))
  expression_above c (choose line l m q kind) =
      higher (both (expression_above c l) (both (expression_above c m) (expression_above c q)))
  expression_above c (assign line op (lvalue at meant index checked) e kind) =
      higher (both (index_above c index) (expression_above c e))
  expression_above c (step line (lvalue at meant index checked) up before kind) = higher (index_above c index)
  expression_above c (call line callee args kind) = with_callee (expressions_above c args) callee

  index_above : (c : ℕ → ℕ) (i : ScopedIndex) → IsAbove c (index_calls i) (height_in_index c i)
  index_above c whole = no_calls
  index_above c (element e) = expression_above c e

  expressions_above : (c : ℕ → ℕ) (es : ScopedExpressions) → IsAbove c (expressions_calls es) (height_in_all c es)
  expressions_above c none = no_calls
  expressions_above c (and e rest) = both (expression_above c e) (expressions_above c rest)

optional_above : (c : ℕ → ℕ) (e : Option ScopedExpression) → IsAbove c (optional_calls e) (height_in_optional c e)
optional_above c None = no_calls
optional_above c (Some e) = expression_above c e

initializer_above : (c : ℕ → ℕ) (i : ScopedInitializer) → IsAbove c (initializer_calls i) (height_in_initializer c i)
initializer_above c nothing = no_calls
initializer_above c (single e) = expression_above c e
initializer_above c (listed values) = higher (expressions_above c values)

declarators_above : (c : ℕ → ℕ) (ds : List ScopedInitDeclarator) → IsAbove c (declarators_calls ds) (height_in_declarators c ds)
declarators_above c [] = no_calls
declarators_above c (d ∷ rest) = three (optional_above c d.length) (initializer_above c d.first) (declarators_above c rest)

mutual
  unfolding height_of height_of_branch height_of_all

  -- the height of a statement is above what each of its calls counts
  pub statement_above : (c : ℕ → ℕ) (s : ScopedStatement) → IsAbove c (statement_calls s) (height_of c s)
  statement_above c empty = no_calls
  statement_above c (eval e) = higher (expression_above c e)
  statement_above c (block parts) = higher (statements_above c parts)
  statement_above c (declare of) = higher (declarators_above c of.declarators)
  statement_above c (when line test first second) =
      higher (both (expression_above c test) (both (statement_above c first) (branch_above c second)))
  statement_above c (while line test body) = higher (both (expression_above c test) (statement_above c body))
  statement_above c (do_while line body test) = higher (both (statement_above c body) (expression_above c test))
  statement_above c (for line first test change body) =
      higher (both (statement_above c first) (both (optional_above c test) (both (optional_above c change) (statement_above c body))))
  statement_above c (break line) = no_calls
  statement_above c (continue line) = no_calls
  statement_above c (return line e) = higher (optional_above c e)
  statement_above c (label name of) = higher (statement_above c of)

  branch_above : (c : ℕ → ℕ) (b : ScopedBranch) → IsAbove c (branch_calls b) (height_of_branch c b)
  branch_above c absent = no_calls
  branch_above c (branch s) = statement_above c s

  statements_above : (c : ℕ → ℕ) (ss : ScopedStatements) → IsAbove c (statements_calls ss) (height_of_all c ss)
  statements_above c nil = no_calls
  statements_above c (cons s rest) = both (statement_above c s) (statements_above c rest)

-- ---- tests and lists

-- two tests of one fact agree
same_tests : {P : Type 0} (p q : Bool) → IsTrue p ↔ P → IsTrue q ↔ P → p ≡ q
same_tests true q of_p of_q = sym (of_q.1 (of_p.0 refl))
same_tests false true of_p of_q = of_p.1 (of_q.0 refl)
same_tests false false of_p of_q = refl

same_items : {A : Type 0} (xs ys : List A) → length xs ≡ length ys → ((f : ℕ) → f < length xs → slice_get xs f ≡ slice_get ys f) → xs ≡ ys
same_items [] [] long each = refl
same_items [] (y ∷ ys) long each = absurd (omega arith)
same_items (x ∷ xs) [] long each = absurd (omega arith)
same_items (x ∷ xs) (y ∷ ys) long each =
    let first : x ≡ y = same_Some x y (each 0 (omega arith)) in
    let rest : xs ≡ ys = same_items xs ys (omega arith) (λ f low. each (suc f) (omega arith)) in
    ap (λ z. z ∷ xs) first ∙ ap (λ zs. y ∷ zs) rest

same_marks : (xs ys : List Bool) → length xs ≡ length ys → ((f : ℕ) → f < length xs → or_false (slice_get xs f) ≡ or_false (slice_get ys f)) → xs ≡ ys
same_marks [] [] long each = refl
same_marks [] (y ∷ ys) long each = absurd (omega arith)
same_marks (x ∷ xs) [] long each = absurd (omega arith)
same_marks (x ∷ xs) (y ∷ ys) long each =
    let first : x ≡ y = each 0 (omega arith) in
    let rest : xs ≡ ys = same_marks xs ys (omega arith) (λ f low. each (suc f) (omega arith)) in
    ap (λ z. z ∷ xs) first ∙ ap (λ zs. y ∷ zs) rest

-- ---- the facts

abbrev made : (rows : List (List ℕ)) (reached high : List Bool) → Facts
made rows reached high = record { returning = rows; reached = reached; high = high }

module _ (functions : List ScopedDefinition) (a b : Facts) (of_a : AreFacts functions a) (of_b : AreFacts functions b) where
  -- a call comes back in both or in none
  same_returning : (f g : ℕ) → Calls (graph_of functions) f g → row_has (slice_get a.returning f) g ≡ row_has (slice_get b.returning f) g
  same_returning f g c = same_tests _ _ (of_a.returning f g c) (of_b.returning f g c)

  same_row : (f : ℕ) → f < length functions → slice_get a.returning f ≡ slice_get b.returning f
  same_row f low =
      of_a.rows f low
      ∙ ap Some (filters_agree (row_has (slice_get a.returning f)) (row_has (slice_get b.returning f)) (row (slice_get (graph_of functions) f)) (λ g found.
      same_returning f g (among_contains (row (slice_get (graph_of functions) f)) g found)))
      ∙ sym (of_b.rows f low)

  same_rows : a.returning ≡ b.returning
  same_rows = same_items a.returning b.returning (of_a.all_rows ∙ sym of_b.all_rows) (λ f low. same_row f (subst (λ (n : ℕ). f < n) of_a.all_rows low))

  same_reached : a.reached ≡ b.reached
  same_reached =
      same_marks a.reached b.reached (of_a.all_reached ∙ sym of_b.all_reached) (λ f low.
      let known : f < length functions = subst (λ (n : ℕ). f < n) of_a.all_reached low in
      same_tests _ _ (of_a.reached f known) (of_b.reached f known))

  -- what a call counts is the same in both, where it is so of the functions that count less than a number
  counts_same : (n f : ℕ) → ((g : ℕ) → of_a.heights g < n → of_a.heights g ≡ of_b.heights g) → (g : ℕ) → Calls (graph_of functions) f g → counted_height a.returning of_a.heights f g < n
      → counted_height a.returning of_a.heights f g ≡ counted_height b.returning of_b.heights f g
  counts_same n f smaller g c low =
      let same = same_returning f g c in
      elim (cases_Bool (row_has (slice_get a.returning f) g)) [
        | inl back ↦ ap (λ t. if t then 0 else of_a.heights g) back ∙ ap (λ t. if t then 0 else of_b.heights g) (sym back ∙ same)
        | inr forth ↦
            let counted : counted_height a.returning of_a.heights f g ≡ of_a.heights g = ap (λ t. if t then 0 else of_a.heights g) forth in
            counted
            ∙ smaller g (subst (λ (h : ℕ). h < n) counted low)
            ∙ ap (λ t. if t then 0 else of_b.heights g) (sym forth ∙ same)
      ]

  -- heights below a number are the same in both
  heights_below : (n f : ℕ) (o : Option ScopedDefinition) → slice_get functions f ≡ o → of_a.heights f < n → of_a.heights f ≡ of_b.heights f
  heights_below zero f o is low = absurd (omega arith)
  heights_below (suc n) f None is low = of_a.missing f is ∙ sym (of_b.missing f is)
  heights_below (suc n) f (Some d) is low =
      let of_body : of_a.heights f ≡ height_of (counted_height a.returning of_a.heights f) d.body = of_a.measured f d is in
      let above = statement_above (counted_height a.returning of_a.heights f) d.body in
      of_body
      ∙ statement_agrees sees_all d.body (record {
        at = λ g found.
            let less : counted_height a.returning of_a.heights f g < height_of (counted_height a.returning of_a.heights f) d.body = above.less g (contains_among (statement_calls d.body) g found) in
            counts_same n f (λ x small. heights_below n x (slice_get functions x) refl small) g (calls_of_body functions f g d is found) (omega (arith, less, of_body, low));
      })
      ∙ sym (of_b.measured f d is)

  same_heights : (f : ℕ) → of_a.heights f ≡ of_b.heights f
  same_heights f = heights_below (suc (of_a.heights f)) f (slice_get functions f) refl (omega arith)

  same_high : a.high ≡ b.high
  same_high =
      same_marks a.high b.high (of_a.all_high ∙ sym of_b.all_high) (λ f low.
      let known : f < length functions = subst (λ (n : ℕ). f < n) of_a.all_high low in
      of_a.high f known ∙ ap (nat_lt body_height_limit) (same_heights f) ∙ sym (of_b.high f known))

  -- two facts that are right of the same functions are equal
  pub one_facts : a ≡ b
  one_facts =
      ap (λ rows. made rows a.reached a.high) same_rows
      ∙ ap (λ marks. made b.returning marks a.high) same_reached
      ∙ ap (λ marks. made b.returning b.reached marks) same_high
