-- Inner: two flat programs: one whose only word is shared, and one with marks of each kind.
use Rattle.std.specs.Prelude.{ℕ, List, [], ◌∷◌, true, false}
use Rattle.lz_base.specs.declared.operator.Binary.TheVariants.{Eq}
use Rattle.lz_base.specs.declared.word.IntType.TheVariants.{Int}
use Rattle.lz_base.specs.declared.word.BreakKind.TheVariants.{Assert}
use Rattle.lz_flat.specs.Programs.{Expression, constant, word, element, binary, sets, assumes, checks, skips, Instruction, MarkedInstruction, FlatProgram}

-- one word is set
abbrev pub sets_word : ℕ → Expression → Instruction
sets_word place of = sets (record { first = place; len = 1; index = constant 0 }) of

-- a visible instruction, and a hidden one
abbrev pub seen : Instruction → MarkedInstruction
seen instr = record { instr = instr; visible = true }

abbrev pub hidden : Instruction → MarkedInstruction
hidden instr = record { instr = instr; visible = false }

-- one thread checks that word 0 is 0, the other sets it to 1
abbrev pub shared_word : FlatProgram
shared_word = record {
  threads = (seen (checks (binary Eq Int (word 0) (constant 0)) Assert 7) ∷ []) ∷ (seen (sets_word 0 (constant 1)) ∷ []) ∷ [];
  first = 0 ∷ [];
}

-- Words 0 and 5 are thread 0's, words 2 and 3 are thread 1's, and words 1 and 4 are shared.
abbrev pub long_code : List MarkedInstruction
long_code =
    seen (sets_word 0 (constant 1))
    ∷ seen (sets_word 5 (word 0))
    ∷ seen (sets_word 1 (word 0))
    ∷ seen (assumes (word 0))
    ∷ seen (checks (word 5) Assert 1)
    ∷ hidden (skips (word 0) 2)
    ∷ hidden (sets_word 1 (constant 0))
    ∷ seen (checks (word 0) Assert 2)
    ∷ seen (sets_word 4 (constant 0))
    ∷ seen (skips (word 5) 2)
    ∷ seen (sets_word 0 (constant 2))
    ∷ []

abbrev pub short_code : List MarkedInstruction
short_code =
    seen (checks (word 1) Assert 3)
    ∷ seen (sets_word 2 (element 3 2 (word 2)))
    ∷ seen (sets_word 2 (element 3 1 (word 2)))
    ∷ seen (sets_word 2 (element 2 1 (word 1)))
    ∷ []

abbrev pub mixed : FlatProgram
mixed = record { threads = long_code ∷ short_code ∷ []; first = 0 ∷ 0 ∷ 0 ∷ 0 ∷ 0 ∷ 0 ∷ [] }
