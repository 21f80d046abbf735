-- A word of a list after a write.
use Rattle.std.proofs.Common.{◌≡◌, ℕ, ◌<◌, List, length, get_or-set_same, get_or-set_other}
use Rattle.std.specs.Prelude.{slice_index, slice_set}

-- the word that was written
pub word_same : (m : List ℕ) (w v : ℕ) → w < length m → slice_index (slice_set m w v) w ≡ v
word_same m w v lt = get_or-set_same m w v 0 lt

-- another word
pub word_other : (m : List ℕ) (w v x : ℕ) → (x ≡ w → ⊥) → slice_index (slice_set m w v) x ≡ slice_index m x
word_other m w v x n = get_or-set_other m w x v 0 n
