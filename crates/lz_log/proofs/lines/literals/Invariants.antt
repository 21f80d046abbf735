use Rattle.std.proofs.Common.{◌≡◌, ◌++◌, length}
use Rattle.std.specs.List.{All, flat_map}
use Rattle.lz_log.proofs.LineLemmas.{literal_item, IsOf}
use Rattle.lz_log.proofs.lines.literals.Given as goal

abbrev pub invariant-loop-rest : goal.invariant-loop-rest
invariant-loop-rest l = record {
  within : All (IsOf l.variables) l.clause;
  front : l.bytes ≡ flat_map literal_item l.clause ++ l.left;
}

abbrev pub decreases-loop-rest : goal.decreases-loop-rest
decreases-loop-rest l = length l.left
