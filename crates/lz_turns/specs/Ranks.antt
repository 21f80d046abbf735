-- Inner: how far a node is from its last stage: each turn brings it nearer.
use Rattle.std.specs.Prelude.{ℕ, suc, ◌+◌, ◌*◌, ◌-◌, max, length}
use Rattle.lz_tree.specs.ScopedTrees.{ScopedExpression, ScopedExpressions, none, and}
use Rattle.lz_turns.specs.Stages.{Stage, start, given, settled, indexed, ready, old, valued, writing, operand, first, second, taken, other, calling, argument, passing, handed, arguing, argued, woken, made}
use Rattle.lz_turns.specs.Moves.{arguments_of}

abbrev pub count : ScopedExpressions → ℕ
count none = 0
count (and e rest) = suc (count rest)

-- of a node with so many arguments
abbrev pub rank_of : ℕ → Stage → ℕ
rank_of n start = 4 * n + 100
rank_of n given = 0
rank_of n (settled value) = 0
rank_of n indexed = 19
rank_of n (ready e) = 18
rank_of n (old e) = 17
rank_of n (valued at) = 16
rank_of n (operand e before) = 15
rank_of n (writing e value) = 14
rank_of n first = 12
rank_of n (second a) = 11
rank_of n taken = 11
rank_of n other = 11
rank_of n (calling values) = 20 + 2 * (n - length values)
rank_of n (argument values) = 19 + 2 * max (n - length values) 1
rank_of n (passing objects k) = 2 * n + 31 + 2 * (n - k)
rank_of n (handed objects k) = 2 * n + 30 + 2 * max (n - k) 1
rank_of n (arguing objects values k) = 20 + 2 * (n - k)
rank_of n (argued objects values k) = 19 + 2 * max (n - k) 1
rank_of n (woken cond mutex) = 1
rank_of n (made handle) = 1

abbrev pub rank : ScopedExpression → Stage → ℕ
rank e stage = rank_of (count (arguments_of e)) stage
