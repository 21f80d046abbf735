-- Trusted: the number of its own that each node of a program adds to the cost.
use Rattle.std.specs.Prelude.{ℕ, ◌+◌, ◌*◌}
use Rattle.lz_base.specs.declared.operator.Unary.{Unary}
use Rattle.lz_base.specs.declared.operator.Unary.TheVariants.{Plus, Minus, Invert, Not}
use Rattle.lz_base.specs.declared.operator.Binary.{Binary}
use Rattle.lz_base.specs.declared.operator.Binary.TheVariants.{Mul, Div, Rem, Add, Sub, Shl, Shr, Lt, Gt, Le, Ge, Eq, Ne, BitAnd, BitXor, BitOr, Both, Either}
use Rattle.lz_tree.specs.declared.scoped.KnownName.{KnownName}
use Rattle.lz_tree.specs.declared.scoped.KnownName.TheVariants.{Assert, Assume, NondetInt, NondetUint, Error, ReachError, Abort, AtomicBegin, AtomicEnd, Create, Join, Exit, MutexInit, MutexDestroy, MutexLock, MutexUnlock, CondInit, CondDestroy, CondWait, CondSignal, CondBroadcast, Printf}
use Rattle.lz_tree.specs.ScopedTrees.{ScopedIndex, whole, element}

-- a read of a scalar, or of an element of an object of `len` elements
abbrev pub read_number : ScopedIndex → ℕ → ℕ
read_number whole len = 1024
read_number (element index) len = 2048 + 256 * len

-- `=` to a scalar or an element
abbrev pub assign_number : ScopedIndex → ℕ → ℕ
assign_number whole len = 1024
assign_number (element index) len = 2048 + 256 * len

-- an assignment with an operator to a scalar or an element, beside the operator's number
abbrev pub update_number : ScopedIndex → ℕ → ℕ
update_number whole len = 2048
update_number (element index) len = 4096 + 512 * len

-- `++` or `--` on a scalar or an element
abbrev pub step_number : ScopedIndex → ℕ → ℕ
step_number whole len = 3072
step_number (element index) len = 5120 + 512 * len

abbrev pub unary_number : Unary → ℕ
unary_number Plus = 0
unary_number Minus = 512
unary_number Invert = 512
unary_number Not = 512

abbrev pub binary_number : Binary → ℕ
binary_number Mul = 8192
binary_number Div = 16384
binary_number Rem = 16384
binary_number Add = 1024
binary_number Sub = 1024
binary_number Shl = 2048
binary_number Shr = 2048
binary_number Lt = 1024
binary_number Gt = 1024
binary_number Le = 1024
binary_number Ge = 1024
binary_number Eq = 1024
binary_number Ne = 1024
binary_number BitAnd = 1024
binary_number BitXor = 1024
binary_number BitOr = 1024
binary_number Both = 2048
binary_number Either = 2048

abbrev pub cast_number : ℕ
cast_number = 256

abbrev pub choose_number : ℕ
choose_number = 3072

-- a call of a function of the file with so many parameters, beside the cost of its body
abbrev pub call_number : ℕ → ℕ
call_number parameters = 1024 * (parameters + 1)

-- a call of a known name, where the program has so many threads, and the objects that are the first and the
-- second argument have so many elements
abbrev pub known_number : KnownName → (threads first second : ℕ) → ℕ
known_number Assert threads first second = 1024
known_number Assume threads first second = 1024
known_number NondetInt threads first second = 1024
known_number NondetUint threads first second = 1024
known_number Error threads first second = 1024
known_number ReachError threads first second = 1024
known_number Abort threads first second = 1024
known_number AtomicBegin threads first second = 2048
known_number AtomicEnd threads first second = 2048
known_number Create threads first second = 8192 + 256 * first
known_number Join threads first second = 4096 + 512 * threads + 256 * first
known_number Exit threads first second = 1024
known_number MutexInit threads first second = 2048 + 256 * first
known_number MutexDestroy threads first second = 2048 + 256 * first
known_number MutexLock threads first second = 2048 + 256 * first
known_number MutexUnlock threads first second = 2048 + 256 * first
known_number CondInit threads first second = 2048 + 256 * first
known_number CondDestroy threads first second = 2048 + 256 * first
known_number CondWait threads first second = 8192 + 256 * (first + second)
known_number CondSignal threads first second = 2048 + 512 * threads + 256 * first
known_number CondBroadcast threads first second = 2048 + 512 * threads + 256 * first
known_number Printf threads first second = 0

-- the declaration of an object of `len` elements
abbrev pub declarator_number : ℕ → ℕ
declarator_number len = 1024 * len

abbrev pub if_number : ℕ
if_number = 2048

-- each turn of a loop, and once more its end
abbrev pub turn_number : ℕ
turn_number = 2048

-- `break`, `continue` and `return`
abbrev pub jump_number : ℕ
jump_number = 1024

-- each thread, beside the cost of its body
abbrev pub thread_number : ℕ
thread_number = 4096
