-- Inner: a program of four nested loops, for tests and witnesses.
use Rattle.std.specs.Prelude.{List, [], ◌∷◌, Some, true, false}
use Rattle.lz_base.specs.declared.word.IntType.TheVariants as kinds
use Rattle.lz_tree.specs.ScopedTrees.{ScopedExpression, constant, ScopedStatement, empty, while, ScopedDefinition, ScopedProgram}

abbrev pub one : ScopedExpression
one = constant 1 1 (record { decimal = true; unsigned = false; longs = 0 }) (Some kinds.Int)

-- `while (1)` four times around an empty statement
abbrev pub loops : ScopedStatement
loops = while 1 one (while 1 one (while 1 one (while 1 one empty)))

abbrev pub functions : List ScopedDefinition
functions = record { start = false; locals = 0; params = []; gives = Some kinds.Int; body = loops } ∷ []

-- the program whose `main` is these loops
abbrev pub looping : ScopedProgram
looping = record { cells = []; mutexes = 0; conds = 0; handles = 0; functions = functions; main = 0 }
