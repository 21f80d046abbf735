-- The expression and the statement behind which a station comes: they fit, and the statement is smaller.
use Rattle.std.proofs.Common.{◌≡◌, ℕ, zero, suc, ◌+◌, ◌<◌, List, [], ◌∷◌, Option, Some, None, subst, arith}
use Rattle.std.specs.Prelude.{⊤}
use Rattle.lz_tree.specs.ScopedTrees.{ScopedExpression, ScopedExpressions, none, and, ScopedInitializer, nothing, single, listed, ScopedInitDeclarator, ScopedStatement, empty, eval, block, declare, when, while, do_while, for, break, continue, return, label, ScopedBranch, absent, branch, ScopedStatements, nil, cons}
use Rattle.lz_turns.specs.Moves.{argument_at}
use Rattle.lz_turns.specs.Fits.{IsFit, AreFit, HaveNumbers}
use Rattle.lz_stations.specs.Stations as at
use Rattle.lz_stations.specs.Stations.{Station, start, led, evaluated, listing, declaring, filling, arbitrary, filled, initialized, tested, taken, other, opened, turning, turned, bodied, changed, doing, returned, labelled}
use Rattle.lz_stations.specs.StationMoves.{parts_of, statement_at, declared_by, declarator_at, loop_of, value_of, first_part, in_branch, second_part, test_of, change_of, body_of, element_value, single_value, initializer_of, value_at, part_at}
use Rattle.lz_stations.specs.StatementFits.{MayFit, IsFitFirst, AreFitDeclared, IsFitStatement, IsFitBranch, AreFitStatements}
use Rattle.lz_stations.specs.StatementSizes.{statement_size, branch_size, statements_size}

-- ---- expressions

value_fit : (s : ScopedStatement) → IsFitStatement s → MayFit (value_of s)
value_fit empty f = tt
value_fit (eval value) f = f
value_fit (block parts) f = tt
value_fit (declare of) f = tt
value_fit (when line test one two) f = f.0
value_fit (while line test body) f = tt
value_fit (do_while line body test) f = tt
value_fit (for line opens test change body) f = tt
value_fit (break line) f = tt
value_fit (continue line) f = tt
value_fit (return line value) f = f
value_fit (label name of) f = tt

test_fit : (s : ScopedStatement) → IsFitStatement s → MayFit (test_of (loop_of s))
test_fit empty f = tt
test_fit (eval value) f = tt
test_fit (block parts) f = tt
test_fit (declare of) f = tt
test_fit (when line test one two) f = tt
test_fit (while line test body) f = f.0
test_fit (do_while line body test) f = f.1
test_fit (for line opens test change body) f = f.1
test_fit (break line) f = tt
test_fit (continue line) f = tt
test_fit (return line value) f = tt
test_fit (label name of) f = tt

change_fit : (s : ScopedStatement) → IsFitStatement s → MayFit (change_of (loop_of s))
change_fit empty f = tt
change_fit (eval value) f = tt
change_fit (block parts) f = tt
change_fit (declare of) f = tt
change_fit (when line test one two) f = tt
change_fit (while line test body) f = tt
change_fit (do_while line body test) f = tt
change_fit (for line opens test change body) f = f.2
change_fit (break line) f = tt
change_fit (continue line) f = tt
change_fit (return line value) f = tt
change_fit (label name of) f = tt

declared_fit : (s : ScopedStatement) → IsFitStatement s → AreFitDeclared (declared_by s)
declared_fit empty f = tt
declared_fit (eval value) f = tt
declared_fit (block parts) f = tt
declared_fit (declare of) f = f
declared_fit (when line test one two) f = tt
declared_fit (while line test body) f = tt
declared_fit (do_while line body test) f = tt
declared_fit (for line opens test change body) f = tt
declared_fit (break line) f = tt
declared_fit (continue line) f = tt
declared_fit (return line value) f = tt
declared_fit (label name of) f = tt

have_numbers : (ds : List ScopedInitDeclarator) → AreFitDeclared ds → HaveNumbers ds
have_numbers [] f = tt
have_numbers (d ∷ rest) f = (f.0, have_numbers rest f.2)

-- what a statement declares has numbers
pub declares_numbers : (s : ScopedStatement) → IsFitStatement s → HaveNumbers (declared_by s)
declares_numbers s f = have_numbers (declared_by s) (declared_fit s f)

first_fit : (ds : List ScopedInitDeclarator) (k : ℕ) → AreFitDeclared ds → IsFitFirst (initializer_of (declarator_at ds k))
first_fit [] k f = tt
first_fit (d ∷ rest) zero f = f.1
first_fit (d ∷ rest) (suc k) f = first_fit rest k f.2

argument_fit : (args : ScopedExpressions) (k : ℕ) → AreFit args → MayFit (argument_at args k)
argument_fit none k f = tt
argument_fit (and x rest) zero f = f.0
argument_fit (and x rest) (suc k) f = argument_fit rest k f.1

element_fit : (first : ScopedInitializer) (i : ℕ) → IsFitFirst first → MayFit (element_value first i)
element_fit nothing i f = tt
element_fit (single value) i f = tt
element_fit (listed values) i f = argument_fit values i f

single_fit : (first : ScopedInitializer) → IsFitFirst first → MayFit (single_value first)
single_fit nothing f = tt
single_fit (single value) f = f
single_fit (listed values) f = tt

at_fit : (s : ScopedStatement) (station : Station) → IsFitStatement s → MayFit (value_at s station)
at_fit s start f = tt
at_fit s (led flow) f = tt
at_fit s evaluated f = value_fit s f
at_fit s (listing k) f = tt
at_fit s (at.listed k) f = tt
at_fit s (declaring k) f = tt
at_fit s (filling k i) f = tt
at_fit s (arbitrary k i) f = tt
at_fit s (filled k i) f = element_fit (initializer_of (declarator_at (declared_by s) k)) i (first_fit (declared_by s) k (declared_fit s f))
at_fit s (initialized k) f = single_fit (initializer_of (declarator_at (declared_by s) k)) (first_fit (declared_by s) k (declared_fit s f))
at_fit s tested f = value_fit s f
at_fit s taken f = tt
at_fit s other f = tt
at_fit s opened f = tt
at_fit s (turning left) f = tt
at_fit s (turned left) f = test_fit s f
at_fit s (bodied left) f = tt
at_fit s (changed left) f = change_fit s f
at_fit s (doing left) f = tt
at_fit s returned f = value_fit s f
at_fit s labelled f = tt

-- the expression behind which a station comes fits
pub value_fits : (s : ScopedStatement) (station : Station) (e : ScopedExpression) → value_at s station ≡ Some e → IsFitStatement s → IsFit e
value_fits s station e is f = subst MayFit is (at_fit s station f)

-- ---- statements

-- a statement, where there is one, fits and is smaller than this
abbrev IsInner : ℕ → Option ScopedStatement → Type 0
IsInner n None = ⊤
IsInner n (Some a) = IsFitStatement a × (statement_size a < n)

branch_inner : (b : ScopedBranch) (n : ℕ) → IsFitBranch b → branch_size b < n → IsInner n (in_branch b)
branch_inner absent n f h = tt
branch_inner (branch of) n f h = (f, h)

first_inner : (s : ScopedStatement) → IsFitStatement s → IsInner (statement_size s) (first_part s)
first_inner empty f = tt
first_inner (eval value) f = tt
first_inner (block parts) f = tt
first_inner (declare of) f = tt
first_inner (when line test one two) f = (f.1, omega arith)
first_inner (while line test body) f = tt
first_inner (do_while line body test) f = tt
first_inner (for line opens test change body) f = (f.0, omega arith)
first_inner (break line) f = tt
first_inner (continue line) f = tt
first_inner (return line value) f = tt
first_inner (label name of) f = (f, omega arith)

second_inner : (s : ScopedStatement) → IsFitStatement s → IsInner (statement_size s) (second_part s)
second_inner empty f = tt
second_inner (eval value) f = tt
second_inner (block parts) f = tt
second_inner (declare of) f = tt
second_inner (when line test one two) f = branch_inner two (statement_size (when line test one two)) f.2 (omega arith)
second_inner (while line test body) f = tt
second_inner (do_while line body test) f = tt
second_inner (for line opens test change body) f = tt
second_inner (break line) f = tt
second_inner (continue line) f = tt
second_inner (return line value) f = tt
second_inner (label name of) f = tt

body_inner : (s : ScopedStatement) → IsFitStatement s → IsInner (statement_size s) (body_of (loop_of s))
body_inner empty f = tt
body_inner (eval value) f = tt
body_inner (block parts) f = tt
body_inner (declare of) f = tt
body_inner (when line test one two) f = tt
body_inner (while line test body) f = (f.1, omega arith)
body_inner (do_while line body test) f = (f.0, omega arith)
body_inner (for line opens test change body) f = (f.3, omega arith)
body_inner (break line) f = tt
body_inner (continue line) f = tt
body_inner (return line value) f = tt
body_inner (label name of) f = tt

listed_inner : (ps : ScopedStatements) (k n : ℕ) → AreFitStatements ps → statements_size ps < n → IsInner n (statement_at ps k)
listed_inner nil k n f h = tt
listed_inner (cons a rest) zero n f h = (f.0, omega (arith, h))
listed_inner (cons a rest) (suc k) n f h = listed_inner rest k n f.1 (omega (arith, h))

parts_inner : (s : ScopedStatement) (k : ℕ) → IsFitStatement s → IsInner (statement_size s) (statement_at (parts_of s) k)
parts_inner empty k f = tt
parts_inner (eval value) k f = tt
parts_inner (block parts) k f = listed_inner parts k (statement_size (block parts)) f (omega arith)
parts_inner (declare of) k f = tt
parts_inner (when line test one two) k f = tt
parts_inner (while line test body) k f = tt
parts_inner (do_while line body test) k f = tt
parts_inner (for line opens test change body) k f = tt
parts_inner (break line) k f = tt
parts_inner (continue line) k f = tt
parts_inner (return line value) k f = tt
parts_inner (label name of) k f = tt

at_inner : (s : ScopedStatement) (station : Station) → IsFitStatement s → IsInner (statement_size s) (part_at s station)
at_inner s start f = tt
at_inner s (led flow) f = tt
at_inner s evaluated f = tt
at_inner s (listing k) f = tt
at_inner s (at.listed k) f = parts_inner s k f
at_inner s (declaring k) f = tt
at_inner s (filling k i) f = tt
at_inner s (arbitrary k i) f = tt
at_inner s (filled k i) f = tt
at_inner s (initialized k) f = tt
at_inner s tested f = tt
at_inner s taken f = first_inner s f
at_inner s other f = second_inner s f
at_inner s opened f = first_inner s f
at_inner s (turning left) f = tt
at_inner s (turned left) f = tt
at_inner s (bodied left) f = body_inner s f
at_inner s (changed left) f = tt
at_inner s (doing left) f = tt
at_inner s returned f = tt
at_inner s labelled f = first_inner s f

-- the statement behind which a station comes fits, and is smaller
pub part_inner : (s : ScopedStatement) (station : Station) (a : ScopedStatement) → part_at s station ≡ Some a → IsFitStatement s → IsFitStatement a × (statement_size a < statement_size s)
part_inner s station a is f = subst (IsInner (statement_size s)) is (at_inner s station f)
