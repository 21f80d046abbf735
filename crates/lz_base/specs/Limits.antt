-- Trusted: the limits on the length of a source file, on the elements of an array and of all objects at file scope, on the cost of a program and on the threads that it may create.
use Rattle.std.specs.Prelude.{ℕ}

-- the most bytes that a source file may have
abbrev pub file_limit : ℕ
file_limit = 1048576

-- the most elements that an array may have
abbrev pub length_limit : ℕ
length_limit = 4096

-- the most elements that the objects at file scope may have together
abbrev pub element_limit : ℕ
element_limit = 65536

-- the most that a program may cost within its bounds
abbrev pub cost_limit : ℕ
cost_limit = 10000000

-- the most threads that a program may create within its bounds
abbrev pub slot_limit : ℕ
slot_limit = 16
