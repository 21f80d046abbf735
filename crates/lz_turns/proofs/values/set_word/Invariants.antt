use Rattle.std.proofs.Common.{◌≡◌, slice_index, ℕ, ◌-◌, suc, length}
use Rattle.lz_turns.proofs.values.set_word.Given as goal

-- the words are as before
abbrev pub invariant-loop-words : goal.invariant-loop-words
invariant-loop-words l = (k : ℕ) → slice_index l.words.items k ≡ slice_index l.fn.words.items k

abbrev pub decreases-loop-words : goal.decreases-loop-words
decreases-loop-words l = suc l.fn.place - length l.words.items
