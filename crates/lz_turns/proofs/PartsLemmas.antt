-- The part of a node behind which a stage comes: it fits, and it is smaller.
use Rattle.std.proofs.Common.{◌≡◌, ℕ, zero, suc, ◌<◌, Option, Some, None, refl, subst, arith}
use Rattle.lz_tree.specs.ScopedTrees.{ScopedExpression, constant, null, text, object, address, paren, unary, cast, binary, choose, assign, step, call, Lvalue, lvalue, whole, element, ScopedExpressions, none, and}
use Rattle.lz_turns.specs.Moves.{Slot, no_slot, index_slot, first_slot, second_slot, third_slot, argument_slot, handed_slot, argument_at, target_index, index_of, first_of_node, second_of_node, third_of_node, arguments_of, index_of_argument, part_of}
use Rattle.lz_turns.specs.Fits.{IsFit, IsFitPlace, AreFit}
use Rattle.lz_turns.specs.Sizes.{size, place_size, sizes}

-- ---- smaller

some_below : (x a : ScopedExpression) (n : ℕ) → Some x ≡ Some a → size x < n → size a < n
some_below x a n e h = let same : x ≡ a = cc in subst (λ (y : ScopedExpression). size y < n) same h

none_below : (a : ScopedExpression) (n : ℕ) → None ≡ Some a → size a < n
none_below a n e = absurd cc

target_below : (t : Lvalue) (a : ScopedExpression) (n : ℕ) → target_index t ≡ Some a → place_size t < n → size a < n
target_below (lvalue line meant whole checked) a n e h = none_below a n e
target_below (lvalue line meant (element index) checked) a n e h = some_below index a n e h

index_below : (e a : ScopedExpression) → index_of e ≡ Some a → size a < size e
index_below (constant line value form kind) a e = none_below a (size (constant line value form kind)) e
index_below (null line kind) a e = none_below a (size (null line kind)) e
index_below (text line kind) a e = none_below a (size (text line kind)) e
index_below (object of kind) a e = target_below of a (size (object of kind)) e (omega arith)
index_below (address line of kind) a e = target_below of a (size (address line of kind)) e (omega arith)
index_below (paren line inner kind) a e = none_below a (size (paren line inner kind)) e
index_below (unary line op of kind) a e = none_below a (size (unary line op of kind)) e
index_below (cast line to of kind) a e = none_below a (size (cast line to of kind)) e
index_below (binary line op left right kind) a e = none_below a (size (binary line op left right kind)) e
index_below (choose line test one two kind) a e = none_below a (size (choose line test one two kind)) e
index_below (assign line op to value kind) a e = target_below to a (size (assign line op to value kind)) e (omega arith)
index_below (step line of up before kind) a e = target_below of a (size (step line of up before kind)) e (omega arith)
index_below (call line callee args kind) a e = none_below a (size (call line callee args kind)) e

first_below : (e a : ScopedExpression) → first_of_node e ≡ Some a → size a < size e
first_below (constant line value form kind) a e = none_below a (size (constant line value form kind)) e
first_below (null line kind) a e = none_below a (size (null line kind)) e
first_below (text line kind) a e = none_below a (size (text line kind)) e
first_below (object of kind) a e = none_below a (size (object of kind)) e
first_below (address line of kind) a e = none_below a (size (address line of kind)) e
first_below (paren line inner kind) a e = some_below inner a (size (paren line inner kind)) e (omega arith)
first_below (unary line op of kind) a e = some_below of a (size (unary line op of kind)) e (omega arith)
first_below (cast line to of kind) a e = some_below of a (size (cast line to of kind)) e (omega arith)
first_below (binary line op left right kind) a e = some_below left a (size (binary line op left right kind)) e (omega arith)
first_below (choose line test one two kind) a e = some_below test a (size (choose line test one two kind)) e (omega arith)
first_below (assign line op to value kind) a e = some_below value a (size (assign line op to value kind)) e (omega arith)
first_below (step line of up before kind) a e = none_below a (size (step line of up before kind)) e
first_below (call line callee args kind) a e = none_below a (size (call line callee args kind)) e

second_below : (e a : ScopedExpression) → second_of_node e ≡ Some a → size a < size e
second_below (constant line value form kind) a e = none_below a (size (constant line value form kind)) e
second_below (null line kind) a e = none_below a (size (null line kind)) e
second_below (text line kind) a e = none_below a (size (text line kind)) e
second_below (object of kind) a e = none_below a (size (object of kind)) e
second_below (address line of kind) a e = none_below a (size (address line of kind)) e
second_below (paren line inner kind) a e = none_below a (size (paren line inner kind)) e
second_below (unary line op of kind) a e = none_below a (size (unary line op of kind)) e
second_below (cast line to of kind) a e = none_below a (size (cast line to of kind)) e
second_below (binary line op left right kind) a e = some_below right a (size (binary line op left right kind)) e (omega arith)
second_below (choose line test one two kind) a e = some_below one a (size (choose line test one two kind)) e (omega arith)
second_below (assign line op to value kind) a e = none_below a (size (assign line op to value kind)) e
second_below (step line of up before kind) a e = none_below a (size (step line of up before kind)) e
second_below (call line callee args kind) a e = none_below a (size (call line callee args kind)) e

third_below : (e a : ScopedExpression) → third_of_node e ≡ Some a → size a < size e
third_below (constant line value form kind) a e = none_below a (size (constant line value form kind)) e
third_below (null line kind) a e = none_below a (size (null line kind)) e
third_below (text line kind) a e = none_below a (size (text line kind)) e
third_below (object of kind) a e = none_below a (size (object of kind)) e
third_below (address line of kind) a e = none_below a (size (address line of kind)) e
third_below (paren line inner kind) a e = none_below a (size (paren line inner kind)) e
third_below (unary line op of kind) a e = none_below a (size (unary line op of kind)) e
third_below (cast line to of kind) a e = none_below a (size (cast line to of kind)) e
third_below (binary line op left right kind) a e = none_below a (size (binary line op left right kind)) e
third_below (choose line test one two kind) a e = some_below two a (size (choose line test one two kind)) e (omega arith)
third_below (assign line op to value kind) a e = none_below a (size (assign line op to value kind)) e
third_below (step line of up before kind) a e = none_below a (size (step line of up before kind)) e
third_below (call line callee args kind) a e = none_below a (size (call line callee args kind)) e

argument_below : (args : ScopedExpressions) (k : ℕ) (a : ScopedExpression) (n : ℕ) → argument_at args k ≡ Some a → sizes args < n → size a < n
argument_below none k a n e h = none_below a n e
argument_below (and x rest) zero a n e h = some_below x a n e (omega (arith, h))
argument_below (and x rest) (suc k) a n e h = argument_below rest k a n e (omega (arith, h))

arguments_below : (e : ScopedExpression) → sizes (arguments_of e) < size e
arguments_below (constant line value form kind) = omega arith
arguments_below (null line kind) = omega arith
arguments_below (text line kind) = omega arith
arguments_below (object of kind) = omega arith
arguments_below (address line of kind) = omega arith
arguments_below (paren line inner kind) = omega arith
arguments_below (unary line op of kind) = omega arith
arguments_below (cast line to of kind) = omega arith
arguments_below (binary line op left right kind) = omega arith
arguments_below (choose line test one two kind) = omega arith
arguments_below (assign line op to value kind) = omega arith
arguments_below (step line of up before kind) = omega arith
arguments_below (call line callee args kind) = omega arith

handed_below : (o : Option ScopedExpression) (a : ScopedExpression) (n : ℕ) → index_of_argument o ≡ Some a → ((x : ScopedExpression) → o ≡ Some x → size x < n) → size a < n
handed_below None a n e h = none_below a n e
handed_below (Some x) a n e h = let one = index_below x a e in let two = h x refl in omega (arith, one, two)

-- a part is smaller than its node
pub part_below : (e : ScopedExpression) (slot : Slot) (a : ScopedExpression) → part_of e slot ≡ Some a → size a < size e
part_below e no_slot a is = none_below a (size e) is
part_below e index_slot a is = index_below e a is
part_below e first_slot a is = first_below e a is
part_below e second_slot a is = second_below e a is
part_below e third_slot a is = third_below e a is
part_below e (argument_slot k) a is = argument_below (arguments_of e) k a (size e) is (arguments_below e)
part_below e (handed_slot k) a is = handed_below (argument_at (arguments_of e) k) a (size e) is (λ x h. argument_below (arguments_of e) k x (size e) h (arguments_below e))

-- ---- fit

some_fits : (x a : ScopedExpression) → Some x ≡ Some a → IsFit x → IsFit a
some_fits x a e h = let same : x ≡ a = cc in subst (λ (y : ScopedExpression). IsFit y) same h

none_fits : (a : ScopedExpression) → None ≡ Some a → IsFit a
none_fits a e = absurd cc

target_fits : (t : Lvalue) (a : ScopedExpression) → target_index t ≡ Some a → IsFitPlace t → IsFit a
target_fits (lvalue line meant whole checked) a e f = none_fits a e
target_fits (lvalue line meant (element index) checked) a e f = some_fits index a e f.1

index_fits : (e a : ScopedExpression) → index_of e ≡ Some a → IsFit e → IsFit a
index_fits (constant line value form kind) a e f = none_fits a e
index_fits (null line kind) a e f = none_fits a e
index_fits (text line kind) a e f = none_fits a e
index_fits (object of kind) a e f = target_fits of a e f
index_fits (address line of kind) a e f = target_fits of a e f
index_fits (paren line inner kind) a e f = none_fits a e
index_fits (unary line op of kind) a e f = none_fits a e
index_fits (cast line to of kind) a e f = none_fits a e
index_fits (binary line op left right kind) a e f = none_fits a e
index_fits (choose line test one two kind) a e f = none_fits a e
index_fits (assign line op to value kind) a e f = target_fits to a e f.0
index_fits (step line of up before kind) a e f = target_fits of a e f
index_fits (call line callee args kind) a e f = none_fits a e

first_fits : (e a : ScopedExpression) → first_of_node e ≡ Some a → IsFit e → IsFit a
first_fits (constant line value form kind) a e f = none_fits a e
first_fits (null line kind) a e f = none_fits a e
first_fits (text line kind) a e f = none_fits a e
first_fits (object of kind) a e f = none_fits a e
first_fits (address line of kind) a e f = none_fits a e
first_fits (paren line inner kind) a e f = some_fits inner a e f
first_fits (unary line op of kind) a e f = some_fits of a e f
first_fits (cast line to of kind) a e f = some_fits of a e f
first_fits (binary line op left right kind) a e f = some_fits left a e f.0
first_fits (choose line test one two kind) a e f = some_fits test a e f.0
first_fits (assign line op to value kind) a e f = some_fits value a e f.1
first_fits (step line of up before kind) a e f = none_fits a e
first_fits (call line callee args kind) a e f = none_fits a e

second_fits : (e a : ScopedExpression) → second_of_node e ≡ Some a → IsFit e → IsFit a
second_fits (constant line value form kind) a e f = none_fits a e
second_fits (null line kind) a e f = none_fits a e
second_fits (text line kind) a e f = none_fits a e
second_fits (object of kind) a e f = none_fits a e
second_fits (address line of kind) a e f = none_fits a e
second_fits (paren line inner kind) a e f = none_fits a e
second_fits (unary line op of kind) a e f = none_fits a e
second_fits (cast line to of kind) a e f = none_fits a e
second_fits (binary line op left right kind) a e f = some_fits right a e f.1
second_fits (choose line test one two kind) a e f = some_fits one a e f.1
second_fits (assign line op to value kind) a e f = none_fits a e
second_fits (step line of up before kind) a e f = none_fits a e
second_fits (call line callee args kind) a e f = none_fits a e

third_fits : (e a : ScopedExpression) → third_of_node e ≡ Some a → IsFit e → IsFit a
third_fits (constant line value form kind) a e f = none_fits a e
third_fits (null line kind) a e f = none_fits a e
third_fits (text line kind) a e f = none_fits a e
third_fits (object of kind) a e f = none_fits a e
third_fits (address line of kind) a e f = none_fits a e
third_fits (paren line inner kind) a e f = none_fits a e
third_fits (unary line op of kind) a e f = none_fits a e
third_fits (cast line to of kind) a e f = none_fits a e
third_fits (binary line op left right kind) a e f = none_fits a e
third_fits (choose line test one two kind) a e f = some_fits two a e f.2
third_fits (assign line op to value kind) a e f = none_fits a e
third_fits (step line of up before kind) a e f = none_fits a e
third_fits (call line callee args kind) a e f = none_fits a e

argument_fit : (args : ScopedExpressions) (k : ℕ) (a : ScopedExpression) → argument_at args k ≡ Some a → AreFit args → IsFit a
argument_fit none k a e f = none_fits a e
argument_fit (and x rest) zero a e f = some_fits x a e f.0
argument_fit (and x rest) (suc k) a e f = argument_fit rest k a e f.1

arguments_fit : (e : ScopedExpression) → IsFit e → AreFit (arguments_of e)
arguments_fit (constant line value form kind) f = tt
arguments_fit (null line kind) f = tt
arguments_fit (text line kind) f = tt
arguments_fit (object of kind) f = tt
arguments_fit (address line of kind) f = tt
arguments_fit (paren line inner kind) f = tt
arguments_fit (unary line op of kind) f = tt
arguments_fit (cast line to of kind) f = tt
arguments_fit (binary line op left right kind) f = tt
arguments_fit (choose line test one two kind) f = tt
arguments_fit (assign line op to value kind) f = tt
arguments_fit (step line of up before kind) f = tt
arguments_fit (call line callee args kind) f = f

handed_fits : (o : Option ScopedExpression) (a : ScopedExpression) → index_of_argument o ≡ Some a → ((x : ScopedExpression) → o ≡ Some x → IsFit x) → IsFit a
handed_fits None a e h = none_fits a e
handed_fits (Some x) a e h = index_fits x a e (h x refl)

-- a part fits as its node does
pub part_fits : (e : ScopedExpression) (slot : Slot) (a : ScopedExpression) → part_of e slot ≡ Some a → IsFit e → IsFit a
part_fits e no_slot a is f = none_fits a is
part_fits e index_slot a is f = index_fits e a is f
part_fits e first_slot a is f = first_fits e a is f
part_fits e second_slot a is f = second_fits e a is f
part_fits e third_slot a is f = third_fits e a is f
part_fits e (argument_slot k) a is f = argument_fit (arguments_of e) k a is (arguments_fit e f)
part_fits e (handed_slot k) a is f = handed_fits (argument_at (arguments_of e) k) a is (λ x h. argument_fit (arguments_of e) k x h (arguments_fit e f))
