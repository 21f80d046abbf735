-- Inner: the straight program of a flat one.
-- Behind the words of the program stand the guess, the flag that the next instruction runs, and the saved place of
-- each thread.
use Rattle.std.specs.Prelude.{ℕ, zero, suc, ◌+◌, ◌*◌, nat_le, Bool, true, false, List, [], ◌∷◌, ◌++◌, length, replicate, if◌then◌else◌}
use Rattle.lz_base.specs.declared.operator.Binary.TheVariants.{Lt, Le, Eq, BitAnd, Both}
use Rattle.lz_base.specs.declared.word.IntType.TheVariants.{Unsigned}
use Rattle.lz_flat.specs.Programs.{Expression, constant, word, binary, choose, Location, Instruction, sets, takes, assumes, checks, skips, MarkedInstruction, FlatProgram, Statement, StraightProgram, code_of}
use Rattle.lz_flat.specs.FlatRuns.{blocks}

-- the one word at this place
abbrev pub whole : ℕ → Location
whole place = record { first = place; len = 1; index = constant 0 }

-- a statement that does nothing
abbrev pub idle : Statement
idle = record { guard = constant 0; instr = assumes (constant 1) }

-- a statement that always runs
abbrev pub always : Instruction → Statement
always instr = record { guard = constant 1; instr = instr }

-- where the guess stands behind n words
abbrev pub guess_place : ℕ → ℕ
guess_place n = n

-- where the flag stands
abbrev pub flag_place : ℕ → ℕ
flag_place n = n + 1

-- where the saved place of a thread stands
abbrev pub saved_place : ℕ → ℕ → ℕ
saved_place n thread = n + (2 + thread)

-- from a mask on, doubled and raised by one at most so many times, the first that is the size or more
unfoldable pub mask_from : ℕ → ℕ → ℕ → ℕ
mask_from zero mask size = mask
mask_from (suc more) mask size = mask_from more (if nat_le size mask then mask else 2 * mask + 1) size

-- how many bits a word has
unfoldable pub word_bits : ℕ
word_bits = 32

-- the least number 2 ^ k - 1 that is the size or more
abbrev pub mask_of : ℕ → ℕ
mask_of size = mask_from word_bits 0 size

-- the guess, or the mask where the guess is above it. The bits above the mask are 0
abbrev pub clamp : ℕ → ℕ → Expression
clamp n mask =
    choose (binary Le Unsigned (word (guess_place n)) (constant mask))
    (binary BitAnd Unsigned (word (guess_place n)) (constant mask)) (constant mask)

-- the thread stands at place l, and if that is visible, the guess is above it
abbrev pub stands_at : ℕ → ℕ → ℕ → Bool → Expression
stands_at n thread l true =
    binary Both Unsigned (binary Eq Unsigned (word (saved_place n thread)) (constant l))
    (binary Lt Unsigned (constant l) (word (guess_place n)))
stands_at n thread l false = binary Eq Unsigned (word (saved_place n thread)) (constant l)

-- whether the first of this code, which stands at place l, runs
abbrev pub runs_next : ℕ → ℕ → ℕ → List MarkedInstruction → Expression
runs_next n thread l [] = constant 0
runs_next n thread l (first ∷ rest) = stands_at n thread l first.visible

-- a statement that runs where the flag is set
abbrev pub flagged : ℕ → Instruction → Statement
flagged n instr = record { guard = word (flag_place n); instr = instr }

-- the instruction itself, under the flag
abbrev pub body : ℕ → Instruction → Statement
body n (sets to of) = flagged n (sets to of)
body n (takes to) = flagged n (takes to)
body n (assumes test) = flagged n (assumes test)
body n (checks test kind line) = flagged n (checks test kind line)
body n (skips test by) = idle

-- the place behind it
abbrev pub following : ℕ → Instruction → Expression
following l (sets to of) = constant (suc l)
following l (takes to) = constant (suc l)
following l (assumes test) = constant (suc l)
following l (checks test kind line) = constant (suc l)
following l (skips test by) = choose test (constant (l + by)) (constant (suc l))

-- three statements for each instruction: it runs under the flag, then the saved place is set under the flag,
-- then the flag is set for the next instruction
unfoldable pub encoded : ℕ → ℕ → ℕ → List MarkedInstruction → List Statement
encoded n thread l [] = []
encoded n thread l (first ∷ rest) =
    body n first.instr
    ∷ flagged n (sets (whole (saved_place n thread)) (following l first.instr))
    ∷ always (sets (whole (flag_place n)) (runs_next n thread (suc l) rest))
    ∷ encoded n thread (suc l) rest

-- twelve at the head of a block: the guess, clamped to the size of the code, and the flag of the first
-- instruction
abbrev pub head : ℕ → ℕ → List MarkedInstruction → List Statement
head n thread code =
    always (takes (whole (guess_place n)))
    ∷ always (sets (whole (guess_place n)) (clamp n (mask_of (length code))))
    ∷ idle ∷ idle ∷ idle ∷ idle ∷ idle ∷ idle ∷ idle ∷ idle ∷ idle
    ∷ always (sets (whole (flag_place n)) (runs_next n thread 0 code)) ∷ []

-- the blocks of these threads, one after the other
unfoldable pub encoded_blocks : FlatProgram → List ℕ → List Statement
encoded_blocks flat [] = []
encoded_blocks flat (thread ∷ rest) =
    (head (length flat.first) thread (code_of flat thread) ++ encoded (length flat.first) thread 0 (code_of flat thread))
    ++ encoded_blocks flat rest

-- the statements, block by block
abbrev pub encoding : FlatProgram → ℕ → List Statement
encoding flat rounds = encoded_blocks flat (blocks rounds (length flat.threads))

-- the first values: the words, then the guess, the flag and a place for each thread
abbrev pub encoded_first : FlatProgram → List ℕ
encoded_first flat = flat.first ++ 0 ∷ 0 ∷ replicate (length flat.threads) 0

-- the straight program
abbrev pub sequential : FlatProgram → ℕ → StraightProgram
sequential flat rounds = record { list = encoding flat rounds; first = encoded_first flat }
