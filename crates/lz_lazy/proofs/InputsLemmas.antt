-- Inputs of the straight program for guesses and for each thread's own inputs.
use Rattle.std.proofs.Common.{◌≡◌, ℕ, ◌+◌, ◌-◌, ◌*◌, ◌/◌, ◌≤◌, ◌<◌, Bool, true, false, cond, List, [], ◌∷◌, length, drop, nat_lt, nat_le, refl, ◌∙◌, arith}
use Rattle.std.specs.Prelude.{slice_index, slice_set, ◌==◌, if◌then◌else◌}
use Rattle.std.proofs.lemmas.Bool.{lt-ltb, le-ltb, ne_eqb, eq-eqb}
use Rattle.lz_base.specs.Words.{value_bound}
use Rattle.lz_base.proofs.WordsLemmas.{choose_word}
use Rattle.lz_flat.specs.FlatRuns.{below, source, block_length, driven}
use Rattle.lz_flat.specs.Programs.{FlatProgram, code_of}
use Rattle.lz_flat.proofs.InputsLemmas.{below_agrees, block_same, driven_agrees}
use Rattle.lz_lazy.proofs.GuessesLemmas.{clamped, clamped_below}
use Rattle.lz_lazy.proofs.GuessingLemmas.{guided}

-- the input of a block at an offset: its guess first, then one of every three for an instruction
abbrev pub block_input : (ℕ → ℕ) → ℕ → ℕ → ℕ → ℕ
block_input inputs guess o i = if i == o then guess else inputs ((i - (o + 12)) / 3)

-- the list of inputs of blocks with these guesses, where each thread has inputs of its own
unfoldable pub inputs_of : FlatProgram → (ℕ → ℕ → ℕ) → List ℕ → List ℕ → ℕ → ℕ → ℕ
inputs_of flat inputs guesses [] o i = 0
inputs_of flat inputs guesses (thread ∷ rest) o i =
    if nat_lt i (o + block_length (code_of flat thread)) then block_input (inputs thread) (clamped (slice_index guesses 0) (length (code_of flat thread))) o i
    else inputs_of flat inputs (drop 1 guesses) rest (o + block_length (code_of flat thread)) i

-- the first input of a block is its guess, clamped
guess_in : (flat : FlatProgram) (inputs : ℕ → ℕ → ℕ) (guesses : List ℕ) (thread : ℕ) (rest : List ℕ) (o : ℕ) → inputs_of flat inputs guesses (thread ∷ rest) o o ≡ clamped (slice_index guesses 0) (length (code_of flat thread))
unfolding inputs_of
guess_in flat inputs guesses thread rest o = rw (lt-ltb o (o + block_length (code_of flat thread)) (omega arith), eq-eqb o o refl) refl

-- the input of an instruction is that of its thread
source_in : (flat : FlatProgram) (inputs : ℕ → ℕ → ℕ) (guesses : List ℕ) (thread : ℕ) (rest : List ℕ) (o l : ℕ) → l < length (code_of flat thread) → source (inputs_of flat inputs guesses (thread ∷ rest) o) o l ≡ inputs thread l
unfolding inputs_of
source_in flat inputs guesses thread rest o l h =
    let at : (o + (12 + 3 * l) - (o + 12)) / 3 ≡ l = omega arith in
    rw (lt-ltb (o + (12 + 3 * l)) (o + block_length (code_of flat thread)) (omega arith), ne_eqb (o + (12 + 3 * l)) o (λ e. omega arith), at) refl

-- behind a block come the inputs of the others
behind_in : (flat : FlatProgram) (inputs : ℕ → ℕ → ℕ) (guesses : List ℕ) (thread : ℕ) (rest : List ℕ) (o i : ℕ) → o + block_length (code_of flat thread) ≤ i
    → inputs_of flat inputs guesses (thread ∷ rest) o i ≡ inputs_of flat inputs (drop 1 guesses) rest (o + block_length (code_of flat thread)) i
unfolding inputs_of
behind_in flat inputs guesses thread rest o i h = rw (le-ltb i (o + block_length (code_of flat thread)) h) refl

-- the inputs drive what the guesses guide
pub driven_guided : (flat : FlatProgram) (inputs : ℕ → ℕ → ℕ) (bs guesses : List ℕ) (o : ℕ) (places memory : List ℕ)
    → driven flat (inputs_of flat inputs guesses bs o) o bs places memory ≡ guided flat inputs guesses bs places memory
unfolding driven guided
driven_guided flat inputs [] guesses o places memory = refl
driven_guided flat inputs (thread ∷ rest) guesses o places memory =
    let code = code_of flat thread in
    let input = inputs_of flat inputs guesses (thread ∷ rest) o in
    let size = block_length code in
    rw (
      guess_in flat inputs guesses thread rest o,
      below_agrees (length code) (clamped (slice_index guesses 0) (length code)) (source input o) (inputs thread) code (slice_index places thread) memory (λ k h. source_in flat inputs guesses thread rest o k h),
      clamped_below (length code) (slice_index guesses 0) (length code) (inputs thread) code (slice_index places thread) memory (omega arith),
    )
    (block_same (below (length code) (slice_index guesses 0) (inputs thread) code (slice_index places thread) memory)
    (λ place. driven flat input (o + size) rest (slice_set places thread place)) (λ place. guided flat inputs (drop 1 guesses) rest (slice_set places thread place))
    (λ place m. driven_agrees flat input (inputs_of flat inputs (drop 1 guesses) rest (o + size)) rest (o + size) (slice_set places thread place) m (λ i h. behind_in flat inputs guesses thread rest o i h)
    ∙ driven_guided flat inputs rest (drop 1 guesses) (o + size) (slice_set places thread place) m))

-- they are words
clamped_small : (guess size : ℕ) → size < value_bound → clamped guess size < value_bound
clamped_small guess size h = decide (nat_le guess size) refl
  where
    decide : (b : Bool) → nat_le guess size ≡ b → cond b guess size < value_bound
    decide true e = let g : guess ≤ size = grind arith in omega arith
    decide false e = h

-- each of these inputs is a word
pub inputs_small : (flat : FlatProgram) (inputs : ℕ → ℕ → ℕ) (bs guesses : List ℕ) (o i : ℕ) → ((thread l : ℕ) → inputs thread l < value_bound) → ((thread : ℕ) → length (code_of flat thread) < value_bound)
    → inputs_of flat inputs guesses bs o i < value_bound
unfolding inputs_of
inputs_small flat inputs [] guesses o i small short = omega arith
inputs_small flat inputs (thread ∷ rest) guesses o i small short =
    choose_word (nat_lt i (o + block_length (code_of flat thread))) (block_input (inputs thread) (clamped (slice_index guesses 0) (length (code_of flat thread))) o i)
    (inputs_of flat inputs (drop 1 guesses) rest (o + block_length (code_of flat thread)) i)
    (choose_word (i == o) (clamped (slice_index guesses 0) (length (code_of flat thread))) (inputs thread ((i - (o + 12)) / 3))
    (clamped_small (slice_index guesses 0) (length (code_of flat thread)) (short thread)) (small thread ((i - (o + 12)) / 3)))
    (inputs_small flat inputs rest (drop 1 guesses) (o + block_length (code_of flat thread)) i small short)
