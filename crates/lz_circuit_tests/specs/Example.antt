-- Inner: a straight program that takes an input and checks that one more is greater.
use Rattle.std.specs.Prelude.{[], ◌∷◌}
use Rattle.lz_base.specs.declared.operator.Binary.TheVariants.{Add, Gt}
use Rattle.lz_base.specs.declared.word.IntType.TheVariants.{Int}
use Rattle.lz_base.specs.declared.word.BreakKind.TheVariants.{Assert}
use Rattle.lz_flat.specs.Programs.{Expression, constant, word, binary, takes, checks, Statement, StraightProgram}

-- word 0 + 1 > word 0
abbrev pub greater_test : Expression
greater_test = binary Gt Int (binary Add Int (word 0) (constant 1)) (word 0)

-- the program
abbrev pub example : StraightProgram
example = record {
  list = record { guard = constant 1; instr = takes (record { first = 0; len = 1; index = constant 0 }) }
      ∷ record { guard = constant 1; instr = checks greater_test Assert 2 } ∷ [];
  first = 0 ∷ [];
}
