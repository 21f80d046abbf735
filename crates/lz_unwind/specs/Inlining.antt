-- Inner: the tree of a thread: the body of its function, calls inlined to a depth and loops unwound.
use Rattle.std.specs.Prelude.{ℕ, zero, suc}
use Rattle.lz_tree.specs.Kinds.{kind_or}
use Rattle.lz_tree.specs.ScopedTrees.{ScopedProgram, function_at}
use Rattle.lz_bound.specs.BoundedTrees.{BoundedStatement, stuck}
use Rattle.lz_unwind.specs.Pieces.{Inliner, Callees, made, framed}
use Rattle.lz_unwind.specs.Translation.{statement_made}

-- what the calls of a program are inlined with
abbrev pub callees : ScopedProgram → Inliner → Callees
callees p inline = record {
  inline = inline;
  size = λ f. (function_at p f).locals;
  params = λ f. (function_at p f).params;
  results = λ f. kind_or (function_at p f).gives;
}

-- The body of a function, in which each loop has n turns: its locals from the second number on, its result after them,
-- and the unused numbers from the third on.
abbrev pub body_made : ScopedProgram → ℕ → Inliner → Inliner
body_made p n inline f o m =
    statement_made (callees p inline) o (function_at p f).locals n (kind_or (function_at p f).gives) (function_at p f).body m

-- the body of a function in its frame, calls inlined to a depth
abbrev pub inline_within : ScopedProgram → ℕ → ℕ → Inliner
inline_within p n zero f o m = made stuck m
inline_within p n (suc depth) f o m = framed 2 (body_made p n (inline_within p n depth) f o m)

-- the tree of a thread that runs this function
abbrev pub thread_tree : ScopedProgram → ℕ → ℕ → ℕ → BoundedStatement
thread_tree p n depth f = (inline_within p n depth f 0 (suc (function_at p f).locals)).tree
