-- Inner: a flat program of one thread: it waits for word 0 not to be 0, sets it to 0, and then checks it.
use Rattle.std.specs.Prelude.{[], ◌∷◌, true, false}
use Rattle.lz_base.specs.declared.word.BreakKind.TheVariants.{Assert}
use Rattle.lz_flat.specs.Programs.{constant, word, Location, assumes, sets, checks, FlatProgram}

-- word 0
abbrev pub first_word : Location
first_word = record { first = 0; len = 1; index = constant 0 }

-- the program
abbrev pub waiting : FlatProgram
waiting = record {
  threads = (record { instr = assumes (word 0); visible = true }
      ∷ record { instr = sets first_word (constant 0); visible = false }
      ∷ record { instr = checks (word 0) Assert 7; visible = true } ∷ []) ∷ [];
  first = 1 ∷ [];
}
