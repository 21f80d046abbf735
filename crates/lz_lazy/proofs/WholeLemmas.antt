-- The theorem over lists of inputs.
use Rattle.std.proofs.Common.{◌≡◌, ℕ, zero, suc, ◌+◌, ◌<◌, List, [], ◌∷◌, length, sym, ◌∙◌, ap, arith}
use Rattle.std.specs.Prelude.{slice_index}
use Rattle.std.specs.List.{AllByRecursion}
use Rattle.lz_base.specs.Words.{value_bound}
use Rattle.lz_flat.specs.FlatRuns.{FlatBroken}
use Rattle.lz_flat.specs.Programs.{FlatProgram, code_of}
use Rattle.lz_flat.specs.StraightRuns.{fails, straight, FailsOn, IsInputList}
use Rattle.lz_flat.specs.WellFormed.{IsWellMarked}
use Rattle.lz_lazy.specs.Encoding.{encoding, encoded_first, sequential}
use Rattle.lz_lazy.specs.Sequential.{FailsAsDriven, FailsWhereBroken}
use Rattle.lz_lazy.proofs.DrivingLemmas.{exact}
use Rattle.lz_lazy.proofs.ReadingLemmas.{existence}
use Rattle.lz_lazy.proofs.SizesLemmas.{listed, length_listed, at_listed, straight_agrees}

-- so many inputs that are words are a list of words
pub all_listed : (input : ℕ → ℕ) (i more : ℕ) → ((k : ℕ) → input k < value_bound) → AllByRecursion (λ v. v < value_bound) (listed input i more)
unfolding listed
all_listed input i zero small = tt
all_listed input i (suc more) small = (small i, all_listed input (suc i) more small)

-- each of a list of words is a word
pub word_at : (inputs : List ℕ) (k : ℕ) → AllByRecursion (λ v. v < value_bound) inputs → slice_index inputs k < value_bound
word_at [] zero all = omega arith
word_at [] (suc k) all = omega arith
word_at (x ∷ xs) zero all = all.0
word_at (x ∷ xs) (suc k) all = word_at xs k all.1

-- THE DRIVE: the straight program fails on inputs exactly where they drive a break
pub fails_as_driven : (flat : FlatProgram) (rounds : ℕ) → IsWellMarked flat → ((thread : ℕ) → length (code_of flat thread) < value_bound) → FailsAsDriven flat rounds (sequential flat rounds)
fails_as_driven flat rounds well short inputs is = exact flat rounds well short (slice_index inputs)

-- THE ROUNDS: it fails on some inputs exactly where a run of at most so many rounds breaks
pub fails_where_broken : (flat : FlatProgram) (rounds : ℕ) → IsWellMarked flat → ((thread : ℕ) → length (code_of flat thread) < value_bound) → FailsWhereBroken flat rounds (sequential flat rounds)
fails_where_broken flat rounds well short = (there, back)
  where
    there : ((inputs : List ℕ) × IsInputList (sequential flat rounds) inputs × FailsOn (sequential flat rounds) inputs) → FlatBroken flat rounds
    there s = (existence flat rounds well short).0 (slice_index s.0, (λ i. word_at s.0 i s.1.1), (exact flat rounds well short (slice_index s.0)).0 s.2)

    back : FlatBroken flat rounds → (inputs : List ℕ) × IsInputList (sequential flat rounds) inputs × FailsOn (sequential flat rounds) inputs
    back b =
        let some = (existence flat rounds well short).1 b in
        let size = length (encoding flat rounds) in
        let failing : straight some.0 0 (encoding flat rounds) (encoded_first flat) ≡ fails = (exact flat rounds well short some.0).1 some.2 in
        let same : straight some.0 0 (encoding flat rounds) (encoded_first flat) ≡ straight (slice_index (listed some.0 0 size)) 0 (encoding flat rounds) (encoded_first flat) =
        straight_agrees some.0 (slice_index (listed some.0 0 size)) 0 (encoding flat rounds) (encoded_first flat)
        (λ k h lt. sym (at_listed some.0 0 size k (let z : k < size = omega arith in z) ∙ ap some.0 (let z : 0 + k ≡ k = omega arith in z))) in
        (listed some.0 0 size, (length_listed some.0 0 size, all_listed some.0 0 size some.1), sym same ∙ failing)
