-- What the numbers of a tree owe to the numbers of the functions that it calls: where these agree, so do those.
use Rattle.std.proofs.Common.{◌≡◌, ℕ, ◌+◌, ◌*◌, List, [], ◌∷◌, ◌++◌, Option, Some, None, refl, ap, ◌∙◌}
use Rattle.lz_base.proofs.ListLemmas.{Agree, agree_left, agree_right, head_contained}
use Rattle.lz_tree.specs.declared.scoped.Object.{Object}
use Rattle.lz_tree.specs.declared.scoped.Object.TheVariants.{Local, Cell, Mutex, Cond, Handle, Routine, Known}
use Rattle.lz_tree.specs.declared.scoped.KnownName.{KnownName}
use Rattle.lz_tree.specs.declared.scoped.KnownName.TheVariants.{Assert, Assume, NondetInt, NondetUint, Error, ReachError, Abort, AtomicBegin, AtomicEnd, Create, Join, Exit, MutexInit, MutexDestroy, MutexLock, MutexUnlock, CondInit, CondDestroy, CondWait, CondSignal, CondBroadcast, Printf}
use Rattle.lz_tree.specs.ScopedTrees.{ScopedExpression, constant, null, text, object, address, paren, unary, cast, binary, choose, assign, step, call, lvalue, ScopedIndex, whole, element, ScopedExpressions, none, and, ScopedInitializer, nothing, single, listed, ScopedInitDeclarator, ScopedStatement, empty, eval, block, declare, when, while, do_while, for, break, continue, return, label, ScopedBranch, absent, branch, ScopedStatements, nil, cons}
use Rattle.lz_tree.specs.Calls.{called, expression_calls, index_calls, expressions_calls, optional_calls, initializer_calls, declarators_calls, statement_calls, branch_calls, statements_calls}
use Rattle.lz_slots.specs.Nesting.{saturated}
use Rattle.lz_slots.specs.CostTable.{known_number, turn_number}
use Rattle.lz_slots.specs.Costs.{Rates, callee_cost, expression_cost, index_cost, expressions_cost, optional_cost, initializer_cost, declarators_cost, loop_cost, statement_cost, branch_cost, statements_cost}
use Rattle.lz_slots.specs.Slots.{SiteRates, start_of, known_sites, callee_sites, expression_sites, index_sites, expressions_sites, optional_sites, initializer_sites, declarators_sites, statement_sites, branch_sites, statements_sites}
use Rattle.lz_slots.proofs.SaturationLemmas.{saturated_sum, saturated_product}

-- What is seen of numbers that tells sums from what is seen of the parts: all, or where they stop.
pub record Sees (h : ℕ → ℕ) : Type 0 where
  pub sum : {a b c d : ℕ} → h a ≡ h c → h b ≡ h d → h (a + b) ≡ h (c + d)
  pub product : (k a b : ℕ) → h a ≡ h b → h (k * a) ≡ h (k * b)

-- all of them
pub sees_all : Sees (λ n. n)
sees_all = record {
  sum = λ left right. cc;
  product = λ k a b e. ap (λ x. k * x) e;
}

-- where they stop at the greatest
pub sees_saturated : Sees saturated
sees_saturated = record { sum = λ {a} {b} {c} {d} left right. saturated_sum a b c d left right; product = saturated_product }

-- ---- costs

-- Two rates of cost that agree but for the bodies.
pub record AgreeCosts (h : ℕ → ℕ) (r s : Rates) : Type 0 where
  pub sees : Sees h
  pub turns : r.turns ≡ s.turns
  pub threads : h r.threads ≡ h s.threads

known_agrees : {h : ℕ → ℕ} (sees : Sees h) (t u : ℕ) → h t ≡ h u → (name : KnownName) (a b : ℕ) → h (known_number name t a b) ≡ h (known_number name u a b)
known_agrees sees t u e Assert a b = refl
known_agrees sees t u e Assume a b = refl
known_agrees sees t u e NondetInt a b = refl
known_agrees sees t u e NondetUint a b = refl
known_agrees sees t u e Error a b = refl
known_agrees sees t u e ReachError a b = refl
known_agrees sees t u e Abort a b = refl
known_agrees sees t u e AtomicBegin a b = refl
known_agrees sees t u e AtomicEnd a b = refl
known_agrees sees t u e Create a b = refl
known_agrees sees t u e Join a b = sees.sum (sees.sum refl (sees.product 512 t u e)) refl
known_agrees sees t u e Exit a b = refl
known_agrees sees t u e MutexInit a b = refl
known_agrees sees t u e MutexDestroy a b = refl
known_agrees sees t u e MutexLock a b = refl
known_agrees sees t u e MutexUnlock a b = refl
known_agrees sees t u e CondInit a b = refl
known_agrees sees t u e CondDestroy a b = refl
known_agrees sees t u e CondWait a b = refl
known_agrees sees t u e CondSignal a b = sees.sum (sees.sum refl (sees.product 512 t u e)) refl
known_agrees sees t u e CondBroadcast a b = sees.sum (sees.sum refl (sees.product 512 t u e)) refl
known_agrees sees t u e Printf a b = refl

callee_agrees : {h : ℕ → ℕ} {r s : Rates} → AgreeCosts h r s → (callee : Object) (args : ScopedExpressions) → Agree h r.bodies s.bodies (called callee) → h (callee_cost r callee args) ≡ h (callee_cost s callee args)
callee_agrees k (Local first len kind) args a = refl
callee_agrees k (Cell first len kind) args a = refl
callee_agrees k (Mutex first len) args a = refl
callee_agrees k (Cond first len) args a = refl
callee_agrees k (Handle first len) args a = refl
callee_agrees k (Routine function) args a = k.sees.sum refl (a.at function (head_contained function []))
callee_agrees k (Known name) args a = known_agrees k.sees _ _ k.threads name _ _

mutual
  pub expression_agrees : {h : ℕ → ℕ} {r s : Rates} → AgreeCosts h r s → (e : ScopedExpression) → Agree h r.bodies s.bodies (expression_calls e) → h (expression_cost r e) ≡ h (expression_cost s e)
  expression_agrees k (constant line value form kind) a = refl
  expression_agrees k (null line kind) a = refl
  expression_agrees k (text line kind) a = refl
  expression_agrees k (object (lvalue at meant index checked) kind) a = k.sees.sum refl (index_agrees k index a)
  expression_agrees k (address line (lvalue at meant index checked) kind) a = index_agrees k index a
  expression_agrees k (paren line e kind) a = expression_agrees k e a
  expression_agrees k (unary line op e kind) a = k.sees.sum refl (expression_agrees k e a)
  expression_agrees k (cast line to e kind) a = k.sees.sum refl (expression_agrees k e a)
  expression_agrees k (binary line op l q kind) a =
      k.sees.sum (k.sees.sum refl (expression_agrees k l (agree_left _ _ a))) (expression_agrees k q (agree_right _ _ a))
  expression_agrees k (choose line l m q kind) a =
      k.sees.sum (k.sees.sum (k.sees.sum refl (expression_agrees k l (agree_left _ _ a))) (expression_agrees k m (agree_left _ _ (agree_right _ _ a)))) (expression_agrees k q (agree_right _ _ (agree_right _ _ a)))
  expression_agrees k (assign line op (lvalue at meant index checked) e kind) a =
      k.sees.sum (k.sees.sum refl (index_agrees k index (agree_left _ _ a))) (expression_agrees k e (agree_right _ _ a))
  expression_agrees k (step line (lvalue at meant index checked) up before kind) a = k.sees.sum refl (index_agrees k index a)
  expression_agrees k (call line callee args kind) a =
      k.sees.sum (callee_agrees k callee args (agree_right _ _ a)) (expressions_agree k args (agree_left _ _ a))

  pub index_agrees : {h : ℕ → ℕ} {r s : Rates} → AgreeCosts h r s → (i : ScopedIndex) → Agree h r.bodies s.bodies (index_calls i) → h (index_cost r i) ≡ h (index_cost s i)
  index_agrees k whole a = refl
  index_agrees k (element e) a = expression_agrees k e a

  pub expressions_agree : {h : ℕ → ℕ} {r s : Rates} → AgreeCosts h r s → (es : ScopedExpressions) → Agree h r.bodies s.bodies (expressions_calls es) → h (expressions_cost r es) ≡ h (expressions_cost s es)
  expressions_agree k none a = refl
  expressions_agree k (and e rest) a = k.sees.sum (expression_agrees k e (agree_left _ _ a)) (expressions_agree k rest (agree_right _ _ a))

optional_agrees : {h : ℕ → ℕ} {r s : Rates} → AgreeCosts h r s → (e : Option ScopedExpression) → Agree h r.bodies s.bodies (optional_calls e) → h (optional_cost r e) ≡ h (optional_cost s e)
optional_agrees k None a = refl
optional_agrees k (Some e) a = expression_agrees k e a

initializer_agrees : {h : ℕ → ℕ} {r s : Rates} → AgreeCosts h r s → (i : ScopedInitializer) → Agree h r.bodies s.bodies (initializer_calls i) → h (initializer_cost r i) ≡ h (initializer_cost s i)
initializer_agrees k nothing a = refl
initializer_agrees k (single e) a = expression_agrees k e a
initializer_agrees k (listed values) a = expressions_agree k values a

declarators_agree : {h : ℕ → ℕ} {r s : Rates} → AgreeCosts h r s → (ds : List ScopedInitDeclarator) → Agree h r.bodies s.bodies (declarators_calls ds) → h (declarators_cost r ds) ≡ h (declarators_cost s ds)
declarators_agree k [] a = refl
declarators_agree k (d ∷ rest) a =
    k.sees.sum (k.sees.sum (k.sees.sum refl (optional_agrees k d.length (agree_left _ _ a))) (initializer_agrees k d.first (agree_left _ _ (agree_right _ _ a)))) (declarators_agree k rest (agree_right _ _ (agree_right _ _ a)))

loop_agrees : {h : ℕ → ℕ} {r s : Rates} → AgreeCosts h r s → {test body test' body' : ℕ} → h test ≡ h test' → h body ≡ h body' → h (loop_cost r test body) ≡ h (loop_cost s test' body')
loop_agrees {h = h} {r = r} {s = s} k {test = test} {body = body} {test' = test'} {body' = body'} tests bodies =
    let turn : h (turn_number + test + body) ≡ h (turn_number + test' + body') = k.sees.sum (k.sees.sum refl tests) bodies in
    let turns : h (r.turns * (turn_number + test + body)) ≡ h (s.turns * (turn_number + test' + body')) = k.sees.product r.turns _ _ turn ∙ ap (λ n. h (n * (turn_number + test' + body'))) k.turns in
    k.sees.sum (k.sees.sum turns refl) tests

mutual
  -- the cost of a statement
  pub statement_agrees : {h : ℕ → ℕ} {r s : Rates} → AgreeCosts h r s → (c : ScopedStatement) → Agree h r.bodies s.bodies (statement_calls c) → h (statement_cost r c) ≡ h (statement_cost s c)
  statement_agrees k empty a = refl
  statement_agrees k (eval e) a = expression_agrees k e a
  statement_agrees k (block parts) a = statements_agree k parts a
  statement_agrees k (declare of) a = declarators_agree k of.declarators a
  statement_agrees k (when line test first second) a =
      k.sees.sum (k.sees.sum (k.sees.sum refl (expression_agrees k test (agree_left _ _ a))) (statement_agrees k first (agree_left _ _ (agree_right _ _ a)))) (branch_agrees k second (agree_right _ _ (agree_right _ _ a)))
  statement_agrees k (while line test body) a =
      loop_agrees k (expression_agrees k test (agree_left _ _ a)) (statement_agrees k body (agree_right _ _ a))
  statement_agrees k (do_while line body test) a =
      loop_agrees k (expression_agrees k test (agree_right _ _ a)) (statement_agrees k body (agree_left _ _ a))
  statement_agrees k (for line first test change body) a =
      let turn = agree_right (optional_calls test) (optional_calls change ++ statement_calls body) (agree_right (statement_calls first) _ a) in
      k.sees.sum (statement_agrees k first (agree_left _ _ a)) (loop_agrees k (optional_agrees k test (agree_left _ _ (agree_right _ _ a))) (k.sees.sum (statement_agrees k body (agree_right (optional_calls change) (statement_calls body) turn)) (optional_agrees k change (agree_left (optional_calls change) (statement_calls body) turn))))
  statement_agrees k (break line) a = refl
  statement_agrees k (continue line) a = refl
  statement_agrees k (return line e) a = k.sees.sum refl (optional_agrees k e a)
  statement_agrees k (label name of) a = statement_agrees k of a

  branch_agrees : {h : ℕ → ℕ} {r s : Rates} → AgreeCosts h r s → (b : ScopedBranch) → Agree h r.bodies s.bodies (branch_calls b) → h (branch_cost r b) ≡ h (branch_cost s b)
  branch_agrees k absent a = refl
  branch_agrees k (branch c) a = statement_agrees k c a

  statements_agree : {h : ℕ → ℕ} {r s : Rates} → AgreeCosts h r s → (cs : ScopedStatements) → Agree h r.bodies s.bodies (statements_calls cs) → h (statements_cost r cs) ≡ h (statements_cost s cs)
  statements_agree k nil a = refl
  statements_agree k (cons c rest) a = k.sees.sum (statement_agrees k c (agree_left _ _ a)) (statements_agree k rest (agree_right _ _ a))

-- ---- sites

-- Two rates of sites that agree but for the bodies.
pub record AgreeSites (h : ℕ → ℕ) (r s : SiteRates) : Type 0 where
  pub sees : Sees h
  pub turns : r.turns ≡ s.turns
  pub weights : (f : ℕ) → h (r.weights f) ≡ h (s.weights f)

known_sites_agree : {h : ℕ → ℕ} {r s : SiteRates} → AgreeSites h r s → (name : KnownName) (args : ScopedExpressions) → h (known_sites r name args) ≡ h (known_sites s name args)
known_sites_agree k Create args = k.weights (start_of args)
known_sites_agree k _ args = refl

callee_sites_agree : {h : ℕ → ℕ} {r s : SiteRates} → AgreeSites h r s → (callee : Object) (args : ScopedExpressions) → Agree h r.bodies s.bodies (called callee) → h (callee_sites r callee args) ≡ h (callee_sites s callee args)
callee_sites_agree k (Local first len kind) args a = refl
callee_sites_agree k (Cell first len kind) args a = refl
callee_sites_agree k (Mutex first len) args a = refl
callee_sites_agree k (Cond first len) args a = refl
callee_sites_agree k (Handle first len) args a = refl
callee_sites_agree k (Routine function) args a = a.at function (head_contained function [])
callee_sites_agree k (Known name) args a = known_sites_agree k name args

mutual
  pub expression_sites_agree : {h : ℕ → ℕ} {r s : SiteRates} → AgreeSites h r s → (e : ScopedExpression) → Agree h r.bodies s.bodies (expression_calls e) → h (expression_sites r e) ≡ h (expression_sites s e)
  expression_sites_agree k (constant line value form kind) a = refl
  expression_sites_agree k (null line kind) a = refl
  expression_sites_agree k (text line kind) a = refl
  expression_sites_agree k (object (lvalue at meant index checked) kind) a = index_sites_agree k index a
  expression_sites_agree k (address line (lvalue at meant index checked) kind) a = index_sites_agree k index a
  expression_sites_agree k (paren line e kind) a = expression_sites_agree k e a
  expression_sites_agree k (unary line op e kind) a = expression_sites_agree k e a
  expression_sites_agree k (cast line to e kind) a = expression_sites_agree k e a
  expression_sites_agree k (binary line op l q kind) a =
      k.sees.sum (expression_sites_agree k l (agree_left _ _ a)) (expression_sites_agree k q (agree_right _ _ a))
  expression_sites_agree k (choose line l m q kind) a =
      k.sees.sum (k.sees.sum (expression_sites_agree k l (agree_left _ _ a)) (expression_sites_agree k m (agree_left _ _ (agree_right _ _ a)))) (expression_sites_agree k q (agree_right _ _ (agree_right _ _ a)))
  expression_sites_agree k (assign line op (lvalue at meant index checked) e kind) a =
      k.sees.sum (index_sites_agree k index (agree_left _ _ a)) (expression_sites_agree k e (agree_right _ _ a))
  expression_sites_agree k (step line (lvalue at meant index checked) up before kind) a = index_sites_agree k index a
  expression_sites_agree k (call line callee args kind) a =
      k.sees.sum (callee_sites_agree k callee args (agree_right _ _ a)) (expressions_sites_agree k args (agree_left _ _ a))

  pub index_sites_agree : {h : ℕ → ℕ} {r s : SiteRates} → AgreeSites h r s → (i : ScopedIndex) → Agree h r.bodies s.bodies (index_calls i) → h (index_sites r i) ≡ h (index_sites s i)
  index_sites_agree k whole a = refl
  index_sites_agree k (element e) a = expression_sites_agree k e a

  pub expressions_sites_agree : {h : ℕ → ℕ} {r s : SiteRates} → AgreeSites h r s → (es : ScopedExpressions) → Agree h r.bodies s.bodies (expressions_calls es) → h (expressions_sites r es) ≡ h (expressions_sites s es)
  expressions_sites_agree k none a = refl
  expressions_sites_agree k (and e rest) a = k.sees.sum (expression_sites_agree k e (agree_left _ _ a)) (expressions_sites_agree k rest (agree_right _ _ a))

optional_sites_agree : {h : ℕ → ℕ} {r s : SiteRates} → AgreeSites h r s → (e : Option ScopedExpression) → Agree h r.bodies s.bodies (optional_calls e) → h (optional_sites r e) ≡ h (optional_sites s e)
optional_sites_agree k None a = refl
optional_sites_agree k (Some e) a = expression_sites_agree k e a

initializer_sites_agree : {h : ℕ → ℕ} {r s : SiteRates} → AgreeSites h r s → (i : ScopedInitializer) → Agree h r.bodies s.bodies (initializer_calls i) → h (initializer_sites r i) ≡ h (initializer_sites s i)
initializer_sites_agree k nothing a = refl
initializer_sites_agree k (single e) a = expression_sites_agree k e a
initializer_sites_agree k (listed values) a = expressions_sites_agree k values a

declarators_sites_agree : {h : ℕ → ℕ} {r s : SiteRates} → AgreeSites h r s → (ds : List ScopedInitDeclarator) → Agree h r.bodies s.bodies (declarators_calls ds) → h (declarators_sites r ds) ≡ h (declarators_sites s ds)
declarators_sites_agree k [] a = refl
declarators_sites_agree k (d ∷ rest) a =
    k.sees.sum (k.sees.sum (optional_sites_agree k d.length (agree_left _ _ a)) (initializer_sites_agree k d.first (agree_left _ _ (agree_right _ _ a)))) (declarators_sites_agree k rest (agree_right _ _ (agree_right _ _ a)))

turns_agree : {h : ℕ → ℕ} {r s : SiteRates} → AgreeSites h r s → {a b : ℕ} → h a ≡ h b → h (r.turns * a) ≡ h (s.turns * b)
turns_agree {h = h} {r = r} {s = s} k {a = a} {b = b} e = k.sees.product r.turns a b e ∙ ap (λ n. h (n * b)) k.turns

mutual
  -- the sites of a statement
  pub statement_sites_agree : {h : ℕ → ℕ} {r s : SiteRates} → AgreeSites h r s → (c : ScopedStatement) → Agree h r.bodies s.bodies (statement_calls c) → h (statement_sites r c) ≡ h (statement_sites s c)
  statement_sites_agree k empty a = refl
  statement_sites_agree k (eval e) a = expression_sites_agree k e a
  statement_sites_agree k (block parts) a = statements_sites_agree k parts a
  statement_sites_agree k (declare of) a = declarators_sites_agree k of.declarators a
  statement_sites_agree k (when line test first second) a =
      k.sees.sum (k.sees.sum (expression_sites_agree k test (agree_left _ _ a)) (statement_sites_agree k first (agree_left _ _ (agree_right _ _ a)))) (branch_sites_agree k second (agree_right _ _ (agree_right _ _ a)))
  statement_sites_agree k (while line test body) a =
      let tests = expression_sites_agree k test (agree_left _ _ a) in
      k.sees.sum (turns_agree k (k.sees.sum tests (statement_sites_agree k body (agree_right _ _ a)))) tests
  statement_sites_agree k (do_while line body test) a =
      turns_agree k (k.sees.sum (statement_sites_agree k body (agree_left _ _ a)) (expression_sites_agree k test (agree_right _ _ a)))
  statement_sites_agree k (for line first test change body) a =
      let tests = optional_sites_agree k test (agree_left _ _ (agree_right _ _ a)) in
      let turn = agree_right (optional_calls test) (optional_calls change ++ statement_calls body) (agree_right (statement_calls first) _ a) in
      let bodies = statement_sites_agree k body (agree_right (optional_calls change) (statement_calls body) turn) in
      let changes = optional_sites_agree k change (agree_left (optional_calls change) (statement_calls body) turn) in
      k.sees.sum (k.sees.sum (statement_sites_agree k first (agree_left _ _ a)) (turns_agree k (k.sees.sum (k.sees.sum tests bodies) changes))) tests
  statement_sites_agree k (break line) a = refl
  statement_sites_agree k (continue line) a = refl
  statement_sites_agree k (return line e) a = optional_sites_agree k e a
  statement_sites_agree k (label name of) a = statement_sites_agree k of a

  branch_sites_agree : {h : ℕ → ℕ} {r s : SiteRates} → AgreeSites h r s → (b : ScopedBranch) → Agree h r.bodies s.bodies (branch_calls b) → h (branch_sites r b) ≡ h (branch_sites s b)
  branch_sites_agree k absent a = refl
  branch_sites_agree k (branch c) a = statement_sites_agree k c a

  statements_sites_agree : {h : ℕ → ℕ} {r s : SiteRates} → AgreeSites h r s → (cs : ScopedStatements) → Agree h r.bodies s.bodies (statements_calls cs) → h (statements_sites r cs) ≡ h (statements_sites s cs)
  statements_sites_agree k nil a = refl
  statements_sites_agree k (cons c rest) a = k.sees.sum (statement_sites_agree k c (agree_left _ _ a)) (statements_sites_agree k rest (agree_right _ _ a))
