-- Inner: what a check of a program answers: the first rule that it breaks, or the scoped program.
use Rattle.std.specs.Prelude.{◌≡◌, List, [], ◌∷◌, Result, Ok, Err}
use Rattle.lz_tree.specs.Trees.{TranslationUnit}
use Rattle.lz_tree.specs.ScopedTrees.{ScopedProgram}
use Rattle.lz_scopes.specs.declared.fault.Fault.{Fault}
use Rattle.lz_scopes.specs.declared.fault.TypeError.{TypeError}
use Rattle.lz_scopes.specs.declared.fault.TypeError.TheVariants as errors
use Rattle.lz_resolve.specs.ScopedPrograms.{scoped_of}
use Rattle.lz_types.specs.Checking.{AreFaults, number_of}

-- The answer on a program: its scoped program where it breaks no rule, and otherwise the first rule in the list of
-- those that it breaks, with its line. Want of memory may be answered at any time.
abbrev pub Answers : {X : Type 0} → (X → ScopedProgram) → TranslationUnit → Result X TypeError → Type 0
Answers view unit (Ok x) = AreFaults unit [] × (view x ≡ scoped_of unit)
Answers view unit (Err (errors.Rule line number)) =
    (first : Fault) × (rest : List Fault) × AreFaults unit (first ∷ rest) × (line ≡ first.line) × (number ≡ number_of first.rule)
Answers view unit (Err errors.Memory) = Unit {0}
