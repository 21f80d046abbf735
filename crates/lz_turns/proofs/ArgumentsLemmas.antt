-- The arguments of a call, as the items of the list that holds them.
use Rattle.std.proofs.Common.{◌≡◌, ℕ, zero, suc, ◌+◌, ◌<◌, ◌≤◌, Bool, List, [], ◌∷◌, ◌++◌, length, get_or, map, take, Option, Some, None, refl, sym, ◌∙◌, ap, subst, arith}
use Rattle.lz_base.specs.declared.word.IntType.{IntType}
use Rattle.lz_tree.specs.declared.scoped.ScopedExpr.{ScopedExpr}
use Rattle.lz_tree.specs.ScopedTrees.{ScopedExpression, scoped_expression, scoped_expressions_of}
use Rattle.lz_tree.specs.declared.scoped.KnownName.{KnownName}
use Rattle.lz_model.specs.CodeTraces.{Locals, kind_of, kinds_of, is_object_argument}
use Rattle.lz_turns.specs.Fits.{IsFit, AreFit}
use Rattle.lz_turns.specs.Stages.{given, argument, arguing, at_stage, calls_on, Move, enters, goes, comes, stops}
use Rattle.lz_turns.specs.Moves.{Called, known_called, argument_at, calling_so, argued_so, argued_move, passing_one, passing_so, passing_move, value_so, arguing_so, arguing_move, known_move, handed_one, handed_so, handed_move}

-- the argument at a place in range
pub argument_in : (xs : List ScopedExpr) (k : ℕ) (x : ScopedExpr) → k < length xs → x ≡ get_or xs k x → argument_at (scoped_expressions_of (map scoped_expression xs)) k ≡ Some (scoped_expression x)
argument_in [] k x h is = absurd (omega (arith, h))
argument_in (y ∷ ys) zero x h is = ap (λ (z : ScopedExpr). Some (scoped_expression z)) (sym is)
argument_in (y ∷ ys) (suc k) x h is = argument_in ys k x (omega (arith, h)) is

-- that at any other
pub argument_out : (xs : List ScopedExpr) (k : ℕ) → length xs ≤ k → argument_at (scoped_expressions_of (map scoped_expression xs)) k ≡ None
argument_out [] zero h = refl
argument_out [] (suc k) h = refl
argument_out (y ∷ ys) zero h = absurd (omega (arith, h))
argument_out (y ∷ ys) (suc k) h = argument_out ys k (omega (arith, h))

-- each argument fits
pub argument_fits : (xs : List ScopedExpr) (k : ℕ) (x : ScopedExpr) → k < length xs → x ≡ get_or xs k x → AreFit (scoped_expressions_of (map scoped_expression xs)) → IsFit (scoped_expression x)
argument_fits [] k x h is fit = absurd (omega (arith, h))
argument_fits (y ∷ ys) zero x h is fit = subst (λ (z : ScopedExpr). IsFit (scoped_expression z)) (sym is) fit.0
argument_fits (y ∷ ys) (suc k) x h is fit = argument_fits ys k x (omega (arith, h)) is fit.1

-- some argument stands at each place in range
pub argument_there : (xs : List ScopedExpr) (k : ℕ) → k < length xs → (a : ScopedExpression) × (argument_at (scoped_expressions_of (map scoped_expression xs)) k ≡ Some a)
argument_there [] k h = absurd (omega (arith, h))
argument_there (y ∷ ys) zero h = (scoped_expression y, refl)
argument_there (y ∷ ys) (suc k) h = argument_there ys k (omega (arith, h))

-- the kinds of arguments, one by one
pub kinds-of : (xs : List ScopedExpr) → kinds_of (scoped_expressions_of (map scoped_expression xs)) ≡ map (λ x. kind_of (scoped_expression x)) xs
kinds-of [] = refl
kinds-of (x ∷ xs) = ap (λ (ks : List IntType). kind_of (scoped_expression x) ∷ ks) (kinds-of xs)

take_whole : (xs : List ScopedExpr) (k : ℕ) → length xs ≤ k → take k xs ≡ xs
take_whole [] zero h = refl
take_whole [] (suc k) h = refl
take_whole (x ∷ xs) zero h = absurd (omega (arith, h))
take_whole (x ∷ xs) (suc k) h = ap (λ (ys : List ScopedExpr). x ∷ ys) (take_whole xs k (omega (arith, h)))

pub kinds-end : (xs : List ScopedExpr) (k : ℕ) (kinds : List IntType) → length xs ≤ k → kinds ≡ map (λ x. kind_of (scoped_expression x)) (take k xs) → kinds ≡ kinds_of (scoped_expressions_of (map scoped_expression xs))
kinds-end xs k kinds h e = e ∙ (ap (map (λ (x : ScopedExpr). kind_of (scoped_expression x))) (take_whole xs k h) ∙ sym (kinds-of xs))

-- ---- calls of functions, by how many values are known

pub calling_in : (xs : List ScopedExpr) (function : ℕ) (values : List ℕ) (n : ℕ) → n ≡ length values → n < length xs
    → enters (argument values) ≡ calling_so (argument_at (scoped_expressions_of (map scoped_expression xs)) (length values)) function (scoped_expressions_of (map scoped_expression xs)) values
calling_in xs function values n e h =
    let low : length values < length xs = omega (arith, e, h) in
    let there = argument_there xs (length values) low in
    ap (λ (o : Option ScopedExpression). calling_so o function (scoped_expressions_of (map scoped_expression xs)) values) (sym there.1)

pub calling_out : (xs : List ScopedExpr) (function : ℕ) (values : List ℕ) (n : ℕ) (kinds : List IntType) → n ≡ length values → length xs ≤ n → kinds ≡ kinds_of (scoped_expressions_of (map scoped_expression xs))
    → comes (calls_on function kinds values (at_stage given)) ≡ calling_so (argument_at (scoped_expressions_of (map scoped_expression xs)) (length values)) function (scoped_expressions_of (map scoped_expression xs)) values
calling_out xs function values n kinds e h is =
    let high : length xs ≤ length values = omega (arith, e, h) in
    ap (λ (ks : List IntType). comes (calls_on function ks values (at_stage given))) is
    ∙ ap (λ (o : Option ScopedExpression). calling_so o function (scoped_expressions_of (map scoped_expression xs)) values) (sym (argument_out xs (length values) high))

-- ---- calls of known names, by the argument at a place

module _ (xs : List ScopedExpr) (d : Called) (line : ℕ) (name : KnownName) (is : d ≡ known_called line name) where
  pub argued_in : (objects values ys : List ℕ) (k v : ℕ) → k < length xs → ys ≡ values ++ v ∷ [] → goes (arguing objects ys (k + 1)) 0 ≡ argued_move d (scoped_expressions_of (map scoped_expression xs)) objects values k v
  argued_in objects values ys k v h e =
      let there = argument_there xs k h in
      let next : k + 1 ≡ suc k = omega arith in
      let one : goes (arguing objects ys (k + 1)) 0 ≡ goes (arguing objects (values ++ v ∷ []) (suc k)) 0 = λ i. goes (arguing objects (e i) (next i)) 0 in
      one ∙ (ap (λ (o : Option ScopedExpression). argued_so o objects values k v) (sym there.1)
      ∙ ap (λ (x : Called). argued_move x (scoped_expressions_of (map scoped_expression xs)) objects values k v) (sym is))

  pub argued_out : (objects values : List ℕ) (k v : ℕ) (m : Move) → length xs ≤ k → m ≡ comes stops → m ≡ argued_move d (scoped_expressions_of (map scoped_expression xs)) objects values k v
  argued_out objects values k v m h e =
      e ∙ (ap (λ (o : Option ScopedExpression). argued_so o objects values k v) (sym (argument_out xs k h))
      ∙ ap (λ (x : Called). argued_move x (scoped_expressions_of (map scoped_expression xs)) objects values k v) (sym is))

  pub passing_in : (objects : List ℕ) (k : ℕ) (x : ScopedExpr) (m : Move) → k < length xs → x ≡ get_or xs k x → m ≡ passing_one (scoped_expression x) objects k → m ≡ passing_move d (scoped_expressions_of (map scoped_expression xs)) objects k
  passing_in objects k x m h at e =
      e ∙ (ap (λ (o : Option ScopedExpression). passing_so o objects k) (sym (argument_in xs k x h at))
      ∙ ap (λ (y : Called). passing_move y (scoped_expressions_of (map scoped_expression xs)) objects k) (sym is))

  pub passing_out : (objects ys : List ℕ) (k : ℕ) → length xs ≤ k → ys ≡ [] → goes (arguing objects ys 0) 0 ≡ passing_move d (scoped_expressions_of (map scoped_expression xs)) objects k
  passing_out objects ys k h e =
      ap (λ (zs : List ℕ). goes (arguing objects zs 0) 0) e ∙ (ap (λ (o : Option ScopedExpression). passing_so o objects k) (sym (argument_out xs k h))
      ∙ ap (λ (y : Called). passing_move y (scoped_expressions_of (map scoped_expression xs)) objects k) (sym is))

  pub arguing_in : (objects values : List ℕ) (k : ℕ) (s : Locals) (x : ScopedExpr) (b : Bool) (m : Move) → k < length xs → x ≡ get_or xs k x → b ≡ is_object_argument (scoped_expression x)
      → m ≡ value_so b objects values k → m ≡ arguing_move d (scoped_expressions_of (map scoped_expression xs)) objects values k s
  arguing_in objects values k s x b m h at same e =
      e ∙ (ap (λ (c : Bool). value_so c objects values k) same ∙ (ap (λ (o : Option ScopedExpression). arguing_so o line name objects values k s) (sym (argument_in xs k x h at))
      ∙ ap (λ (y : Called). arguing_move y (scoped_expressions_of (map scoped_expression xs)) objects values k s) (sym is)))

  pub arguing_out : (objects values os vs : List ℕ) (k : ℕ) (s : Locals) (m : Move) → length xs ≤ k → os ≡ objects → vs ≡ values
      → m ≡ known_move line name os vs s → m ≡ arguing_move d (scoped_expressions_of (map scoped_expression xs)) objects values k s
  arguing_out objects values os vs k s m h e1 e2 e =
      let one : known_move line name os vs s ≡ known_move line name objects values s = λ i. known_move line name (e1 i) (e2 i) s in
      e ∙ (one ∙ (ap (λ (o : Option ScopedExpression). arguing_so o line name objects values k s) (sym (argument_out xs k h))
      ∙ ap (λ (y : Called). arguing_move y (scoped_expressions_of (map scoped_expression xs)) objects values k s) (sym is)))

  pub handed_in : (objects : List ℕ) (k v : ℕ) (x : ScopedExpr) → k < length xs → x ≡ get_or xs k x → handed_one (scoped_expression x) objects k v ≡ handed_move d (scoped_expressions_of (map scoped_expression xs)) objects k v
  handed_in objects k v x h at =
      ap (λ (o : Option ScopedExpression). handed_so o objects k v) (sym (argument_in xs k x h at))
      ∙ ap (λ (y : Called). handed_move y (scoped_expressions_of (map scoped_expression xs)) objects k v) (sym is)

  pub handed_out : (objects : List ℕ) (k v : ℕ) (m : Move) → length xs ≤ k → m ≡ comes stops → m ≡ handed_move d (scoped_expressions_of (map scoped_expression xs)) objects k v
  handed_out objects k v m h e =
      e ∙ (ap (λ (o : Option ScopedExpression). handed_so o objects k v) (sym (argument_out xs k h))
      ∙ ap (λ (y : Called). handed_move y (scoped_expressions_of (map scoped_expression xs)) objects k v) (sym is))
