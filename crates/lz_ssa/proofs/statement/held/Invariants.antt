use Rattle.std.proofs.Common.{◌≡◌, map, take}
use Rattle.lz_ssa.specs.declared.draft.Held.TheVariants as spec_held
use Rattle.lz_ssa.proofs.statement.held.Given as goal

abbrev pub invariant-loop-value : goal.invariant-loop-value
invariant-loop-value l = l.words.items ≡ map (λ value. spec_held.First value) (take l.value-index l.first)
