-- The parts of a block and the declarators of a declaration, as the items of the lists that hold them.
use Rattle.std.proofs.Common.{◌≡◌, true, ℕ, zero, suc, ◌<◌, ◌≤◌, List, [], ◌∷◌, length, get_or, map, Option, Some, None, refl, sym, ◌∙◌, ap, subst, arith}
use Rattle.lz_tree.specs.declared.scoped.ScopedExpr.{ScopedExpr}
use Rattle.lz_tree.specs.declared.scoped.ScopedStmt.{ScopedStmt}
use Rattle.lz_tree.specs.declared.scoped.ScopedDeclarator.{ScopedDeclarator}
use Rattle.lz_tree.specs.ScopedTrees.{ScopedExpression, scoped_expression, scoped_expressions_of, ScopedStatement, scoped_statement, scoped_statements_of, ScopedInitDeclarator, scoped_declarator}
use Rattle.lz_model.specs.CodeTraces.{Locals, put, set_local, Flow, normal}
use Rattle.lz_tree.specs.declared.scoped.Object.{Object}
use Rattle.lz_turns.specs.Moves.{argument_at}
use Rattle.lz_turns.proofs.ArgumentsLemmas.{argument_in, argument_there, argument_out}
use Rattle.lz_turns.specs.Fits.{HasNumbers, HaveNumbers}
use Rattle.lz_stations.specs.Stations as at
use Rattle.lz_stations.specs.Stations.{StationMove, enters_value, enters_part, moves_on, reaches, leads, stops}
use Rattle.lz_stations.specs.StationMoves.{statement_at, declarator_at, follow_move, list_move, listed_so, listed_move, valued_move, filled_object, cleared}

-- a part at a place in range, and at any other
statement_there : (xs : List ScopedStmt) (k : ℕ) → k < length xs → (a : ScopedStatement) × (statement_at (scoped_statements_of (map scoped_statement xs)) k ≡ Some a)
statement_there [] k h = absurd (omega (arith, h))
statement_there (y ∷ ys) zero h = (scoped_statement y, refl)
statement_there (y ∷ ys) (suc k) h = statement_there ys k (omega (arith, h))

pub statement_out : (xs : List ScopedStmt) (k : ℕ) → length xs ≤ k → statement_at (scoped_statements_of (map scoped_statement xs)) k ≡ None
statement_out [] zero h = refl
statement_out [] (suc k) h = refl
statement_out (y ∷ ys) zero h = absurd (omega (arith, h))
statement_out (y ∷ ys) (suc k) h = statement_out ys k (omega (arith, h))

pub statement_in : (xs : List ScopedStmt) (k : ℕ) (x : ScopedStmt) → k < length xs → x ≡ get_or xs k x → statement_at (scoped_statements_of (map scoped_statement xs)) k ≡ Some (scoped_statement x)
statement_in [] k x h is = absurd (omega (arith, h))
statement_in (y ∷ ys) zero x h is = ap (λ (z : ScopedStmt). Some (scoped_statement z)) (sym is)
statement_in (y ∷ ys) (suc k) x h is = statement_in ys k x (omega (arith, h)) is

-- a declarator
pub declarator_in : (xs : List ScopedDeclarator) (k : ℕ) (x : ScopedDeclarator) → k < length xs → x ≡ get_or xs k x → declarator_at (map scoped_declarator xs) k ≡ Some (scoped_declarator x)
declarator_in [] k x h is = absurd (omega (arith, h))
declarator_in (y ∷ ys) zero x h is = ap (λ (z : ScopedDeclarator). Some (scoped_declarator z)) (sym is)
declarator_in (y ∷ ys) (suc k) x h is = declarator_in ys k x (omega (arith, h)) is

pub declarator_out : (xs : List ScopedDeclarator) (k : ℕ) → length xs ≤ k → declarator_at (map scoped_declarator xs) k ≡ None
declarator_out [] zero h = refl
declarator_out [] (suc k) h = refl
declarator_out (y ∷ ys) zero h = absurd (omega (arith, h))
declarator_out (y ∷ ys) (suc k) h = declarator_out ys k (omega (arith, h))

-- before and behind a part
pub list_in : (xs : List ScopedStmt) (k : ℕ) → k < length xs → enters_part (at.listed k) ≡ list_move (statement_at (scoped_statements_of (map scoped_statement xs)) k) k
list_in xs k h = let s = statement_there xs k h in ap (λ (o : Option ScopedStatement). list_move o k) (sym s.1)

pub list_out : (xs : List ScopedStmt) (k : ℕ) → length xs ≤ k → reaches (leads normal) ≡ list_move (statement_at (scoped_statements_of (map scoped_statement xs)) k) k
list_out xs k h = ap (λ (o : Option ScopedStatement). list_move o k) (sym (statement_out xs k h))

pub listed_in : (xs : List ScopedStmt) (k : ℕ) (flow : Flow) (m : StationMove) → k < length xs → m ≡ follow_move flow (at.listing (suc k)) → m ≡ listed_so (statement_at (scoped_statements_of (map scoped_statement xs)) k) flow k
listed_in xs k flow m h is = let s = statement_there xs k h in is ∙ ap (λ (o : Option ScopedStatement). listed_so o flow k) (sym s.1)

pub listed_out : (xs : List ScopedStmt) (k : ℕ) (flow : Flow) → length xs ≤ k → reaches stops ≡ listed_so (statement_at (scoped_statements_of (map scoped_statement xs)) k) flow k
listed_out xs k flow h = ap (λ (o : Option ScopedStatement). listed_so o flow k) (sym (statement_out xs k h))

-- an element that has a value, and one that has none
pub element_in : (xs : List ScopedExpr) (k i : ℕ) → i < length xs → enters_value (at.filled k i) ≡ listed_move (argument_at (scoped_expressions_of (map scoped_expression xs)) i) k i
element_in xs k i h = let s = argument_there xs i h in ap (λ (o : Option ScopedExpression). listed_move o k i) (sym s.1)

pub element_out : (xs : List ScopedExpr) (k i : ℕ) → length xs ≤ i → moves_on (at.filling k (suc i)) ≡ listed_move (argument_at (scoped_expressions_of (map scoped_expression xs)) i) k i
element_out xs k i h = ap (λ (o : Option ScopedExpression). listed_move o k i) (sym (argument_out xs i h))

pub value_in : (object : Object) (xs : List ScopedExpr) (k i : ℕ) (m : StationMove) → i < length xs → m ≡ filled_object object k i → m ≡ valued_move object (argument_at (scoped_expressions_of (map scoped_expression xs)) i) k i
value_in object xs k i m h is = let s = argument_there xs i h in is ∙ ap (λ (o : Option ScopedExpression). valued_move object o k i) (sym s.1)

pub value_out : (object : Object) (xs : List ScopedExpr) (k i : ℕ) → length xs ≤ i → reaches stops ≡ valued_move object (argument_at (scoped_expressions_of (map scoped_expression xs)) i) k i
value_out object xs k i h = ap (λ (o : Option ScopedExpression). valued_move object o k i) (sym (argument_out xs i h))

-- what is so at a declarator is so at its place
pub declarator_so : (f : Option ScopedInitDeclarator → StationMove) (xs : List ScopedDeclarator) (k : ℕ) (x : ScopedDeclarator) (m : StationMove) → k < length xs → x ≡ get_or xs k x → m ≡ f (Some (scoped_declarator x))
    → m ≡ f (declarator_at (map scoped_declarator xs) k)
declarator_so f xs k x m h is same = same ∙ ap f (sym (declarator_in xs k x h is))

pub declarator_none : (f : Option ScopedInitDeclarator → StationMove) (xs : List ScopedDeclarator) (k : ℕ) → length xs ≤ k → f None ≡ f (declarator_at (map scoped_declarator xs) k)
declarator_none f xs k h = ap f (sym (declarator_out xs k h))

-- ---- the local values that a step leaves

-- an object in a list has numbers
pub declarator_has : (xs : List ScopedDeclarator) (k : ℕ) (x : ScopedDeclarator) → k < length xs → x ≡ get_or xs k x → HaveNumbers (map scoped_declarator xs) → HasNumbers x.object
declarator_has [] k x h is all = absurd (omega (arith, h))
declarator_has (y ∷ ys) zero x h is all = subst (λ (z : ScopedDeclarator). HasNumbers z.object) (sym is) all.0
declarator_has (y ∷ ys) (suc k) x h is all = declarator_has ys k x (omega (arith, h)) is all.1

-- what is so at a declarator is so at its place
pub leaves_so : (f : Option ScopedInitDeclarator → Locals) (xs : List ScopedDeclarator) (k : ℕ) (x : ScopedDeclarator) (m : Locals) → k < length xs → x ≡ get_or xs k x → m ≡ f (Some (scoped_declarator x))
    → m ≡ f (declarator_at (map scoped_declarator xs) k)
leaves_so f xs k x m h is same = same ∙ ap f (sym (declarator_in xs k x h is))

pub leaves_none : (f : Option ScopedInitDeclarator → Locals) (xs : List ScopedDeclarator) (k : ℕ) → length xs ≤ k → f None ≡ f (declarator_at (map scoped_declarator xs) k)
leaves_none f xs k h = ap f (sym (declarator_out xs k h))

-- the same at the value of an element
pub value_so : (f : Option ScopedExpression → Locals) (xs : List ScopedExpr) (i : ℕ) (x : ScopedExpr) (m : Locals) → i < length xs → x ≡ get_or xs i x → m ≡ f (Some (scoped_expression x))
    → m ≡ f (argument_at (scoped_expressions_of (map scoped_expression xs)) i)
value_so f xs i x m h is same = same ∙ ap f (sym (argument_in xs i x h is))

pub value_none : (f : Option ScopedExpression → Locals) (xs : List ScopedExpr) (i : ℕ) → length xs ≤ i → f None ≡ f (argument_at (scoped_expressions_of (map scoped_expression xs)) i)
value_none f xs i h = ap f (sym (argument_out xs i h))

-- a listed element keeps its local
pub listed_stays : (xs : List ScopedExpr) (i e : ℕ) (s : Locals) → i < length xs → s ≡ cleared true (argument_at (scoped_expressions_of (map scoped_expression xs)) i) e s
listed_stays xs i e s h = let a = argument_there xs i h in ap (λ (o : Option ScopedExpression). cleared true o e s) (sym a.1)

pub unlisted_cleared : (xs : List ScopedExpr) (i e : ℕ) (s m : Locals) → length xs ≤ i → m ≡ set_local e 0 s → m ≡ cleared true (argument_at (scoped_expressions_of (map scoped_expression xs)) i) e s
unlisted_cleared xs i e s m h is = is ∙ ap (λ (o : Option ScopedExpression). cleared true o e s) (sym (argument_out xs i h))

abbrev locals_with : (ℕ → ℕ) → (ℕ → ℕ) → Locals
locals_with f h = record { frame = f; handles = h }

-- the local values, where one of the frame was set
pub frame_set : (e v : ℕ) {f : ℕ → ℕ} (g h : ℕ → ℕ) → f ≡ put e v g → locals_with f h ≡ set_local e v (locals_with g h)
frame_set e v g h is = ap (λ (x : ℕ → ℕ). locals_with x h) is
