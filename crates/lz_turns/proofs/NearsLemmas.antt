-- Each call brings an expression nearer to its end: it makes so many at most, and its parts make fewer.
use Rattle.std.proofs.Common.{◌≡◌, ℕ, zero, suc, ◌+◌, ◌*◌, ◌-◌, ◌<◌, ◌≤◌, List, [], ◌++◌, Option, Some, None, refl, sym, ap, subst, arith}
use Rattle.std.specs.List.{Contains}
use Rattle.std.proofs.lemmas.List.Elements.{Contains-append_left, Contains-append_right}
use Rattle.std.proofs.lemmas.Nat.{mul-le}
use Rattle.lz_tree.specs.Calls.{called, expression_calls, lvalue_calls, expressions_calls}
use Rattle.lz_tree.specs.ScopedTrees.{ScopedExpression, constant, null, text, object, address, paren, unary, cast, binary, choose, assign, step, call, Lvalue, lvalue, whole, element, ScopedExpressions, none, and}
use Rattle.lz_turns.specs.Stages.{Stage, start, given, Point, at_stage, within, Came, settles, acts, reads, asks, signals, creates, calls_on, fails, refuses, quits, stops}
use Rattle.lz_turns.specs.Moves.{Slot, no_slot, index_slot, first_slot, second_slot, third_slot, argument_slot, handed_slot, slot_of, argument_at, target_index, index_of, first_of_node, second_of_node, third_of_node, arguments_of, index_of_argument, part_of}
use Rattle.lz_turns.specs.Ranks.{count, rank}
use Rattle.lz_turns.specs.Resumed.{Turned, again, stopped, TurnNears}
use Rattle.lz_turns.specs.Sizes.{size, sizes}
use Rattle.lz_turns.specs.Nears.{IsTold, most_calls, part_calls, left_in, calls_left, Nears}
use Rattle.lz_turns.specs.Turning.{turned_by}
use Rattle.lz_turns.proofs.PartsLemmas.{part_below}

-- ---- the functions that a part calls

some_calls : (x a : ScopedExpression) (fs : List ℕ) (f : ℕ) → Some x ≡ Some a → (Contains (expression_calls x) f → Contains fs f) → Contains (expression_calls a) f → Contains fs f
some_calls x a fs f e h = let same : x ≡ a = cc in subst (λ (y : ScopedExpression). Contains (expression_calls y) f → Contains fs f) same h

none_calls : (a : ScopedExpression) (fs : List ℕ) (f : ℕ) → None ≡ Some a → Contains (expression_calls a) f → Contains fs f
none_calls a fs f e = absurd cc

target_calls : (t : Lvalue) (a : ScopedExpression) (f : ℕ) → target_index t ≡ Some a → Contains (expression_calls a) f → Contains (lvalue_calls t) f
target_calls (lvalue line meant whole checked) a f e = none_calls a [] f e
target_calls (lvalue line meant (element index) checked) a f e = some_calls index a (expression_calls index) f e (λ h. h)

index_calls : (e a : ScopedExpression) (f : ℕ) → index_of e ≡ Some a → Contains (expression_calls a) f → Contains (expression_calls e) f
index_calls (constant line value form kind) a f e = none_calls a (expression_calls (constant line value form kind)) f e
index_calls (null line kind) a f e = none_calls a (expression_calls (null line kind)) f e
index_calls (text line kind) a f e = none_calls a (expression_calls (text line kind)) f e
index_calls (object of kind) a f e = target_calls of a f e
index_calls (address line of kind) a f e = target_calls of a f e
index_calls (paren line inner kind) a f e = none_calls a (expression_calls (paren line inner kind)) f e
index_calls (unary line op of kind) a f e = none_calls a (expression_calls (unary line op of kind)) f e
index_calls (cast line to of kind) a f e = none_calls a (expression_calls (cast line to of kind)) f e
index_calls (binary line op left right kind) a f e = none_calls a (expression_calls (binary line op left right kind)) f e
index_calls (choose line test one two kind) a f e = none_calls a (expression_calls (choose line test one two kind)) f e
index_calls (assign line op to value kind) a f e = λ h. Contains-append_left (lvalue_calls to) (expression_calls value) f (target_calls to a f e h)
index_calls (step line of up before kind) a f e = target_calls of a f e
index_calls (call line callee args kind) a f e = none_calls a (expression_calls (call line callee args kind)) f e

first_calls : (e a : ScopedExpression) (f : ℕ) → first_of_node e ≡ Some a → Contains (expression_calls a) f → Contains (expression_calls e) f
first_calls (constant line value form kind) a f e = none_calls a (expression_calls (constant line value form kind)) f e
first_calls (null line kind) a f e = none_calls a (expression_calls (null line kind)) f e
first_calls (text line kind) a f e = none_calls a (expression_calls (text line kind)) f e
first_calls (object of kind) a f e = none_calls a (expression_calls (object of kind)) f e
first_calls (address line of kind) a f e = none_calls a (expression_calls (address line of kind)) f e
first_calls (paren line inner kind) a f e = some_calls inner a (expression_calls (paren line inner kind)) f e (λ h. h)
first_calls (unary line op of kind) a f e = some_calls of a (expression_calls (unary line op of kind)) f e (λ h. h)
first_calls (cast line to of kind) a f e = some_calls of a (expression_calls (cast line to of kind)) f e (λ h. h)
first_calls (binary line op left right kind) a f e = some_calls left a (expression_calls (binary line op left right kind)) f e (λ h. Contains-append_left (expression_calls left) (expression_calls right) f h)
first_calls (choose line test one two kind) a f e = some_calls test a (expression_calls (choose line test one two kind)) f e (λ h. Contains-append_left (expression_calls test) (expression_calls one ++ expression_calls two) f h)
first_calls (assign line op to value kind) a f e = some_calls value a (expression_calls (assign line op to value kind)) f e (λ h. Contains-append_right (lvalue_calls to) (expression_calls value) f h)
first_calls (step line of up before kind) a f e = none_calls a (expression_calls (step line of up before kind)) f e
first_calls (call line callee args kind) a f e = none_calls a (expression_calls (call line callee args kind)) f e

second_calls : (e a : ScopedExpression) (f : ℕ) → second_of_node e ≡ Some a → Contains (expression_calls a) f → Contains (expression_calls e) f
second_calls (constant line value form kind) a f e = none_calls a (expression_calls (constant line value form kind)) f e
second_calls (null line kind) a f e = none_calls a (expression_calls (null line kind)) f e
second_calls (text line kind) a f e = none_calls a (expression_calls (text line kind)) f e
second_calls (object of kind) a f e = none_calls a (expression_calls (object of kind)) f e
second_calls (address line of kind) a f e = none_calls a (expression_calls (address line of kind)) f e
second_calls (paren line inner kind) a f e = none_calls a (expression_calls (paren line inner kind)) f e
second_calls (unary line op of kind) a f e = none_calls a (expression_calls (unary line op of kind)) f e
second_calls (cast line to of kind) a f e = none_calls a (expression_calls (cast line to of kind)) f e
second_calls (binary line op left right kind) a f e = some_calls right a (expression_calls (binary line op left right kind)) f e (λ h. Contains-append_right (expression_calls left) (expression_calls right) f h)
second_calls (choose line test one two kind) a f e = some_calls one a (expression_calls (choose line test one two kind)) f e (λ h. Contains-append_right (expression_calls test) (expression_calls one ++ expression_calls two) f (Contains-append_left (expression_calls one) (expression_calls two) f h))
second_calls (assign line op to value kind) a f e = none_calls a (expression_calls (assign line op to value kind)) f e
second_calls (step line of up before kind) a f e = none_calls a (expression_calls (step line of up before kind)) f e
second_calls (call line callee args kind) a f e = none_calls a (expression_calls (call line callee args kind)) f e

third_calls : (e a : ScopedExpression) (f : ℕ) → third_of_node e ≡ Some a → Contains (expression_calls a) f → Contains (expression_calls e) f
third_calls (constant line value form kind) a f e = none_calls a (expression_calls (constant line value form kind)) f e
third_calls (null line kind) a f e = none_calls a (expression_calls (null line kind)) f e
third_calls (text line kind) a f e = none_calls a (expression_calls (text line kind)) f e
third_calls (object of kind) a f e = none_calls a (expression_calls (object of kind)) f e
third_calls (address line of kind) a f e = none_calls a (expression_calls (address line of kind)) f e
third_calls (paren line inner kind) a f e = none_calls a (expression_calls (paren line inner kind)) f e
third_calls (unary line op of kind) a f e = none_calls a (expression_calls (unary line op of kind)) f e
third_calls (cast line to of kind) a f e = none_calls a (expression_calls (cast line to of kind)) f e
third_calls (binary line op left right kind) a f e = none_calls a (expression_calls (binary line op left right kind)) f e
third_calls (choose line test one two kind) a f e = some_calls two a (expression_calls (choose line test one two kind)) f e (λ h. Contains-append_right (expression_calls test) (expression_calls one ++ expression_calls two) f (Contains-append_right (expression_calls one) (expression_calls two) f h))
third_calls (assign line op to value kind) a f e = none_calls a (expression_calls (assign line op to value kind)) f e
third_calls (step line of up before kind) a f e = none_calls a (expression_calls (step line of up before kind)) f e
third_calls (call line callee args kind) a f e = none_calls a (expression_calls (call line callee args kind)) f e

argument_calls : (args : ScopedExpressions) (k : ℕ) (a : ScopedExpression) (f : ℕ) → argument_at args k ≡ Some a → Contains (expression_calls a) f → Contains (expressions_calls args) f
argument_calls none k a f e = none_calls a [] f e
argument_calls (and x rest) zero a f e = some_calls x a (expression_calls x ++ expressions_calls rest) f e (λ h. Contains-append_left (expression_calls x) (expressions_calls rest) f h)
argument_calls (and x rest) (suc k) a f e = λ h. Contains-append_right (expression_calls x) (expressions_calls rest) f (argument_calls rest k a f e h)

nothing_in : (fs : List ℕ) (f : ℕ) → Contains {X = ℕ} [] f → Contains fs f
nothing_in fs f h = let low : h.0 < 0 = h.1 in absurd (omega (arith, low))

arguments_calls : (e : ScopedExpression) (f : ℕ) → Contains (expressions_calls (arguments_of e)) f → Contains (expression_calls e) f
arguments_calls (constant line value form kind) f h = nothing_in (expression_calls (constant line value form kind)) f h
arguments_calls (null line kind) f h = nothing_in (expression_calls (null line kind)) f h
arguments_calls (text line kind) f h = nothing_in (expression_calls (text line kind)) f h
arguments_calls (object of kind) f h = nothing_in (expression_calls (object of kind)) f h
arguments_calls (address line of kind) f h = nothing_in (expression_calls (address line of kind)) f h
arguments_calls (paren line inner kind) f h = nothing_in (expression_calls (paren line inner kind)) f h
arguments_calls (unary line op of kind) f h = nothing_in (expression_calls (unary line op of kind)) f h
arguments_calls (cast line to of kind) f h = nothing_in (expression_calls (cast line to of kind)) f h
arguments_calls (binary line op left right kind) f h = nothing_in (expression_calls (binary line op left right kind)) f h
arguments_calls (choose line test one two kind) f h = nothing_in (expression_calls (choose line test one two kind)) f h
arguments_calls (assign line op to value kind) f h = nothing_in (expression_calls (assign line op to value kind)) f h
arguments_calls (step line of up before kind) f h = nothing_in (expression_calls (step line of up before kind)) f h
arguments_calls (call line callee args kind) f h = Contains-append_left (expressions_calls args) (called callee) f h

handed_calls : (o : Option ScopedExpression) (a : ScopedExpression) (fs : List ℕ) (f : ℕ) → index_of_argument o ≡ Some a → ((x : ScopedExpression) → o ≡ Some x → Contains (expression_calls x) f → Contains fs f)
    → Contains (expression_calls a) f → Contains fs f
handed_calls None a fs f e h = none_calls a fs f e
handed_calls (Some x) a fs f e h = λ c. h x refl (index_calls x a f e c)

-- a part calls what its node calls
pub part_calls_in : (e : ScopedExpression) (slot : Slot) (a : ScopedExpression) (f : ℕ) → part_of e slot ≡ Some a → Contains (expression_calls a) f → Contains (expression_calls e) f
part_calls_in e no_slot a f is = none_calls a (expression_calls e) f is
part_calls_in e index_slot a f is = index_calls e a f is
part_calls_in e first_slot a f is = first_calls e a f is
part_calls_in e second_slot a f is = second_calls e a f is
part_calls_in e third_slot a f is = third_calls e a f is
part_calls_in e (argument_slot k) a f is = λ c. arguments_calls e f (argument_calls (arguments_of e) k a f is c)
part_calls_in e (handed_slot k) a f is = handed_calls (argument_at (arguments_of e) k) a (expression_calls e) f is (λ x h c. arguments_calls e f (argument_calls (arguments_of e) k x f h c))

-- ---- how many calls

size_some : (e : ScopedExpression) → 0 < size e
size_some (constant line value form kind) = omega arith
size_some (null line kind) = omega arith
size_some (text line kind) = omega arith
size_some (object of kind) = omega arith
size_some (address line of kind) = omega arith
size_some (paren line inner kind) = omega arith
size_some (unary line op of kind) = omega arith
size_some (cast line to of kind) = omega arith
size_some (binary line op left right kind) = omega arith
size_some (choose line test one two kind) = omega arith
size_some (assign line op to value kind) = omega arith
size_some (step line of up before kind) = omega arith
size_some (call line callee args kind) = omega arith

count_below : (args : ScopedExpressions) → count args ≤ sizes args
count_below none = omega arith
count_below (and e rest) = let one = size_some e in let more : count rest ≤ sizes rest = count_below rest in omega (arith, one, more)

arguments_count : (e : ScopedExpression) → count (arguments_of e) ≤ size e
arguments_count (constant line value form kind) = omega arith
arguments_count (null line kind) = omega arith
arguments_count (text line kind) = omega arith
arguments_count (object of kind) = omega arith
arguments_count (address line of kind) = omega arith
arguments_count (paren line inner kind) = omega arith
arguments_count (unary line op of kind) = omega arith
arguments_count (cast line to of kind) = omega arith
arguments_count (binary line op left right kind) = omega arith
arguments_count (choose line test one two kind) = omega arith
arguments_count (assign line op to value kind) = omega arith
arguments_count (step line of up before kind) = omega arith
arguments_count (call line callee args kind) = let low = count_below args in omega (arith, low)

pub most_below : (k m : ℕ) → k ≤ m → most_calls k ≤ most_calls m
most_below k zero h = let same : k ≡ 0 = omega (arith, h) in subst (λ (x : ℕ). most_calls x ≤ most_calls 0) (sym same) (omega arith)
most_below zero (suc m) h = omega arith
most_below (suc k) (suc m) h = let low = most_below k m (omega (arith, h)) in mul-le (4 * suc k + 100) (suc (most_calls k)) (4 * suc m + 100) (suc (most_calls m)) (omega (arith, h)) (omega (arith, low))

at_start : (k n : ℕ) → n ≤ suc k → (4 * n + 100) * suc (most_calls k) ≤ most_calls (suc k)
at_start k n h = mul-le (4 * n + 100) (suc (most_calls k)) (4 * suc k + 100) (suc (most_calls k)) (omega (arith, h)) (omega arith)

start_by_size : (e : ScopedExpression) (k : ℕ) → size e ≡ suc k → calls_left (at_stage start) e ≤ most_calls (size e)
start_by_size e k is =
    let args : count (arguments_of e) ≤ suc k = subst (λ (x : ℕ). count (arguments_of e) ≤ x) is (arguments_count e) in
    let below : size e - 1 ≡ k = omega (arith, is) in
    let P : ℕ → ℕ → Type 0 = λ x y. (4 * count (arguments_of e) + 100) * suc (most_calls x) ≤ most_calls y in
    subst (λ (x : ℕ). P x (size e)) (sym below) (subst (λ (y : ℕ). P k y) (sym is) (at_start k (count (arguments_of e)) args))

-- an expression makes at most as many calls as one of its size
pub start_most : (e : ScopedExpression) → calls_left (at_stage start) e ≤ most_calls (size e)
start_most e = let one = size_some e in start_by_size e (size e - 1) (omega (arith, one))

-- less of each of fewer
pub step_over : (r q c x : ℕ) → q < r → x < c → x + q * c < r * c
step_over r q c x low less = let many = mul-le (suc q) c r c low (omega arith) in let one : suc q * c ≡ c + q * c = omega arith in omega (arith, many, one, less)

-- a part that begins makes fewer calls than one step of its node
part_most : (e a : ScopedExpression) (slot : Slot) → part_of e slot ≡ Some a → calls_left (at_stage start) a < part_calls e
part_most e a slot is =
    let one = start_most a in
    let below : size a < size e = part_below e slot a is in
    let two = most_below (size a) (size e - 1) (omega (arith, below)) in
    omega (arith, one, two)

-- ---- nearer

pub nears_more : (e : ScopedExpression) (l m : ℕ) (came : Came) → Nears e l came → l ≤ m → Nears e m came
nears_more e l m (settles v) h le = tt
nears_more e l m (acts action line point) h le = h
nears_more e l m (reads cell line point) h le = tt
nears_more e l m (asks line kind point) h le = tt
nears_more e l m (signals cond line point) h le = tt
nears_more e l m (creates routine value line point) h le = tt
nears_more e l m (calls_on function kinds values point) h le = let low : calls_left point e < l = h.1 in (h.0, omega (arith, low, le))
nears_more e l m (fails kind line) h le = tt
nears_more e l m (refuses line) h le = tt
nears_more e l m quits h le = tt
nears_more e l m stops h le = tt

pub turn_nears_more : (e : ScopedExpression) (l m : ℕ) (turned : Turned) → TurnNears e l turned → l ≤ m → TurnNears e m turned
turn_nears_more e l m (again stage v) h le = let low : rank e stage * part_calls e ≤ l = h in omega (arith, low, le)
turn_nears_more e l m (stopped came) h le = nears_more e l m came h le

-- what a move comes to at once
pub told_nears : (e : ScopedExpression) (r : ℕ) (came : Came) → IsTold (expression_calls e) r came → Nears e (r * part_calls e) came
told_nears e r (settles v) h = tt
told_nears e r (acts action line point) h = h
told_nears e r (reads cell line point) h = tt
told_nears e r (asks line kind point) h = tt
told_nears e r (signals cond line point) h = tt
told_nears e r (creates routine value line point) h = tt
told_nears e r (calls_on function kinds values point) h =
    let is : point ≡ at_stage given = h.2 in
    let over = step_over r 0 (part_calls e) 0 h.1 (omega arith) in
    let less : 0 * part_calls e < r * part_calls e = omega (arith, over) in
    (h.0, subst (λ (x : Point). calls_left x e < r * part_calls e) (sym is) less)
told_nears e r (fails kind line) h = tt
told_nears e r (refuses line) h = tt
told_nears e r quits h = tt
told_nears e r stops h = tt

-- ---- a part

left_part : (o : Option ScopedExpression) (a : ScopedExpression) (f : ScopedExpression → ℕ) → o ≡ Some a → left_in o f ≡ f a
left_part o a f is = ap (λ (x : Option ScopedExpression). left_in x f) is

-- a node whose part came so far, where the part had so many calls left
pub part_nears : (e a : ScopedExpression) (stage : Stage) (left : ℕ) (came : Came) → part_of e (slot_of stage) ≡ Some a → Nears a left came → TurnNears e (left + rank e stage * part_calls e) (turned_by stage came)
part_nears e a stage left (settles v) is h = omega arith
part_nears e a stage left (acts action line point) is h = h
part_nears e a stage left (reads cell line point) is h = tt
part_nears e a stage left (asks line kind point) is h = tt
part_nears e a stage left (signals cond line point) is h = tt
part_nears e a stage left (creates routine value line point) is h = tt
part_nears e a stage left (calls_on function kinds values point) is h =
    let low : calls_left point a < left = h.1 in
    let same = left_part (part_of e (slot_of stage)) a (calls_left point) is in
    (part_calls_in e (slot_of stage) a function is h.0, omega (arith, low, same))
part_nears e a stage left (fails kind line) is h = tt
part_nears e a stage left (refuses line) is h = tt
part_nears e a stage left quits is h = tt
part_nears e a stage left stops is h = tt

-- from a place in the part
pub within_nears : (e a : ScopedExpression) (stage : Stage) (point : Point) (came : Came) → part_of e (slot_of stage) ≡ Some a → Nears a (calls_left point a) came → TurnNears e (calls_left (within stage point) e) (turned_by stage came)
within_nears e a stage point came is h =
    let same = left_part (part_of e (slot_of stage)) a (calls_left point) is in
    turn_nears_more e (calls_left point a + rank e stage * part_calls e) (calls_left (within stage point) e) (turned_by stage came) (part_nears e a stage (calls_left point a) came is h) (omega (arith, same))

-- from the part's start
pub entered_nears : (e a : ScopedExpression) (stage : Stage) (came : Came) → part_of e (slot_of stage) ≡ Some a → Nears a (calls_left (at_stage start) a) came → TurnNears e (suc (rank e stage) * part_calls e) (turned_by stage came)
entered_nears e a stage came is h =
    let less = part_most e a (slot_of stage) is in
    let one : suc (rank e stage) * part_calls e ≡ part_calls e + rank e stage * part_calls e = omega arith in
    turn_nears_more e (calls_left (at_stage start) a + rank e stage * part_calls e) (suc (rank e stage) * part_calls e) (turned_by stage came) (part_nears e a stage (calls_left (at_stage start) a) came is h) (omega (arith, less, one))
