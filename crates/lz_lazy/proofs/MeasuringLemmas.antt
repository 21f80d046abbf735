-- The elements of the straight program have lengths where those of the flat one have.
use Rattle.std.proofs.Common.{ℕ, suc, Bool, true, false, List, [], ◌∷◌, ◌++◌, length, arith}
use Rattle.std.specs.List.{AllByRecursion}
use Rattle.lz_flat.specs.Programs.{Instruction, sets, takes, assumes, checks, skips, MarkedInstruction, FlatProgram, Statement, code_of}
use Rattle.lz_flat.specs.FlatRuns.{blocks}
use Rattle.lz_flat.specs.Lengths.{IsLength, HasLengths, InstructionHasLengths, CodeHasLengths, FlatHasLengths, StatementHasLengths, StraightHasLengths}
use Rattle.lz_lazy.specs.Encoding.{stands_at, runs_next, body, following, head, encoded, encoded_blocks, sequential}
use Rattle.lz_lazy.proofs.DrivingLemmas.{all_at}

-- 1 is a length
one_is : IsLength 1
one_is = (omega arith, omega arith)

-- whether a thread stands at a place names no element
stands_has : (n thread l : ℕ) (visible : Bool) → HasLengths (stands_at n thread l visible)
stands_has n thread l true = ((tt, tt), (tt, tt))
stands_has n thread l false = (tt, tt)

-- nor does whether the next instruction runs
next_has : (n thread l : ℕ) (part : List MarkedInstruction) → HasLengths (runs_next n thread l part)
next_has n thread l [] = tt
next_has n thread l (first ∷ rest) = stands_has n thread l first.visible

-- the instruction itself has the lengths of the instruction
body_has : (n : ℕ) (i : Instruction) → InstructionHasLengths i → StatementHasLengths (body n i)
body_has n (sets to of) is = (tt, is)
body_has n (takes to) is = (tt, is)
body_has n (assumes test) is = (tt, is)
body_has n (checks test kind line) is = (tt, is)
body_has n (skips test by) is = (tt, tt)

-- so has the place behind it
following_has : (l : ℕ) (i : Instruction) → InstructionHasLengths i → HasLengths (following l i)
following_has l (sets to of) is = tt
following_has l (takes to) is = tt
following_has l (assumes test) is = tt
following_has l (checks test kind line) is = tt
following_has l (skips test by) is = (is, tt, tt)

-- the code of a thread has the lengths of the code
encoded_has : (n thread l : ℕ) (part : List MarkedInstruction) → CodeHasLengths part → AllByRecursion StatementHasLengths (encoded n thread l part)
unfolding encoded
encoded_has n thread l [] is = tt
encoded_has n thread l (first ∷ rest) is = (
  body_has n first.instr is.0,
  (
    (tt, ((one_is, tt), following_has l first.instr is.0)),
    (
      (tt, ((one_is, tt), next_has n thread (suc l) rest)),
      encoded_has n thread (suc l) rest is.1,
    ),
  ),
)

-- the head of a block names single words
head_has : (n thread : ℕ) (code : List MarkedInstruction) → AllByRecursion StatementHasLengths (head n thread code)
head_has n thread code = (
  (tt, (one_is, tt)),
  (
    (tt, ((one_is, tt), ((tt, tt), (tt, tt), tt))),
    (
      (tt, tt),
      (
        (tt, tt),
        (
          (tt, tt),
          (
            (tt, tt),
            (
              (tt, tt),
              (
                (tt, tt),
                (
                  (tt, tt),
                  (
                    (tt, tt),
                    (
                      (tt, tt),
                      ((tt, ((one_is, tt), next_has n thread 0 code)), tt),
                    ),
                  ),
                ),
              ),
            ),
          ),
        ),
      ),
    ),
  ),
)

-- two lists of statements have lengths where each has
all_both : (xs ys : List Statement) → AllByRecursion StatementHasLengths xs → AllByRecursion StatementHasLengths ys → AllByRecursion StatementHasLengths (xs ++ ys)
all_both [] ys h k = k
all_both (x ∷ xs) ys h k = (h.0, all_both xs ys h.1 k)

-- blocks have the lengths of their threads
blocks_have : (flat : FlatProgram) (bs : List ℕ) → ((thread : ℕ) → CodeHasLengths (code_of flat thread)) → AllByRecursion StatementHasLengths (encoded_blocks flat bs)
unfolding encoded_blocks
blocks_have flat [] codes = tt
blocks_have flat (thread ∷ rest) codes =
    let n = length flat.first in
    let code = code_of flat thread in
    all_both (head n thread code ++ encoded n thread 0 code) (encoded_blocks flat rest)
    (all_both (head n thread code) (encoded n thread 0 code) (head_has n thread code) (encoded_has n thread 0 code (codes thread)))
    (blocks_have flat rest codes)

-- the straight program has lengths where the flat one has
pub has_lengths : (flat : FlatProgram) (rounds : ℕ) → FlatHasLengths flat → StraightHasLengths (sequential flat rounds)
has_lengths flat rounds is = blocks_have flat (blocks rounds (length flat.threads)) (λ thread. all_at CodeHasLengths flat.threads thread is tt)
