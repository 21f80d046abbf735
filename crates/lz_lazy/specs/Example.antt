-- Inner: a flat program of two threads: one checks that word 0 is 0, the other sets it to 1.
use Rattle.std.specs.Prelude.{[], ◌∷◌, true}
use Rattle.lz_base.specs.declared.operator.Binary.TheVariants.{Eq}
use Rattle.lz_base.specs.declared.word.IntType.TheVariants.{Int}
use Rattle.lz_base.specs.declared.word.BreakKind.TheVariants.{Assert}
use Rattle.lz_flat.specs.Programs.{Expression, constant, word, binary, sets, checks, FlatProgram}
use Rattle.lz_lazy.specs.Encoding.{whole}

-- word 0 is 0
abbrev pub zero_test : Expression
zero_test = binary Eq Int (word 0) (constant 0)

-- the program
abbrev pub example : FlatProgram
example = record {
  threads = (record { instr = checks zero_test Assert 7; visible = true } ∷ [])
      ∷ (record { instr = sets (whole 0) (constant 1); visible = true } ∷ []) ∷ [];
  first = 0 ∷ [];
}
