use Rattle.std.proofs.Common.{◌≡◌, ◌-◌, ◌++◌, map}
use Rattle.lz_flat.specs.Programs.{statement}
use Rattle.lz_lazy.proofs.RoundingLemmas.{rounds_left}
use Rattle.lz_lazy.proofs.rounds.statements.Given as goal

abbrev pub invariant-loop : goal.invariant-loop
invariant-loop l = map statement l.list ++ rounds_left l.flat (l.rounds - l.counter) ≡ rounds_left l.flat l.rounds
