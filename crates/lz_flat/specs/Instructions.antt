-- Trusted: the value of an expression in a memory, and what an instruction does.
use Rattle.std.specs.Prelude.{ℕ, ◌+◌, ◌-◌, ◌==◌, nat_lt, List, slice_index, slice_set, if◌then◌else◌}
use Rattle.lz_base.specs.Words.{unary_value, binary_value, converted}
use Rattle.lz_base.specs.declared.word.BreakKind.{BreakKind}
use Rattle.lz_flat.specs.Programs.{Expression, constant, word, element, unary, binary, convert, choose, Location, Instruction, sets, takes, assumes, checks, skips}

-- the value of an expression in a memory; an element past its length is 0
unfoldable pub value : Expression → List ℕ → ℕ
value (constant v) memory = v
value (word place) memory = slice_index memory place
value (element first len index) memory =
    if nat_lt (value index memory) len then slice_index memory (first + value index memory) else 0
value (unary op kind of) memory = unary_value op (value of memory) kind
value (binary op kind left right) memory = binary_value op (value left memory) (value right memory) kind
value (convert from to of) memory = converted (value of memory) from to
value (choose test chosen other) memory = if value test memory == 0 then value other memory else value chosen memory

-- the memory after a write; past the length of the location a write does nothing
unfoldable pub put : Location → ℕ → List ℕ → List ℕ
put to v memory =
    if nat_lt (value to.index memory) to.len then slice_set memory (to.first + value to.index memory) v else memory

-- what an instruction does: it moves on, over so many of the instructions behind it, with this memory; it
-- is blocked; or it breaks
pub data Did : Type 0 where
  moved : (over : ℕ) (memory : List ℕ) → Did
  blocked : Did
  broke : (kind : BreakKind) (line : ℕ) → Did

-- what it does with its input
unfoldable pub did : Instruction → ℕ → List ℕ → Did
did (sets to of) input memory = moved 0 (put to (value of memory) memory)
did (takes to) input memory = moved 0 (put to input memory)
did (assumes test) input memory = if value test memory == 0 then blocked else moved 0 memory
did (checks test kind line) input memory = if value test memory == 0 then broke kind line else moved 0 memory
did (skips test by) input memory = moved (if value test memory == 0 then 0 else by - 1) memory
