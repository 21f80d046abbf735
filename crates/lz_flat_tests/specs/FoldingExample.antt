-- Inner: a straight program that checks that 1 is 1.
use Rattle.std.specs.Prelude.{[], ◌∷◌}
use Rattle.lz_base.specs.declared.operator.Binary.TheVariants.{Eq}
use Rattle.lz_base.specs.declared.word.IntType.TheVariants.{Int}
use Rattle.lz_base.specs.declared.word.BreakKind.TheVariants.{Assert}
use Rattle.lz_flat.specs.Programs.{Expression, constant, binary, checks, StraightProgram}

-- 1 == 1
abbrev pub one_is_one : Expression
one_is_one = binary Eq Int (constant 1) (constant 1)

-- the program
abbrev pub checks_one : StraightProgram
checks_one = record { list = record { guard = constant 1; instr = checks one_is_one Assert 1 } ∷ []; first = [] }
