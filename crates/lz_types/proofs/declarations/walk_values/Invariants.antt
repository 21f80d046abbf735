use Rattle.std.proofs.Common.{◌≡◌, ◌++◌, []}
use Rattle.lz_types.proofs.WalkLemmas.{faults_from}
use Rattle.lz_types.proofs.declarations.walk_values.Given as goal

-- what was noted so far and what is left are all
abbrev pub invariant-loop-e : goal.invariant-loop-e
invariant-loop-e l =
    l.initial.faults.items ++ faults_from l.file l.place [] l.want l.values 0 ≡ l.faults.items ++ faults_from l.file l.place [] l.want l.values l.e-index
