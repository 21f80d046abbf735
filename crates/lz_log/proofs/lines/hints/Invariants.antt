use Rattle.std.proofs.Common.{◌≡◌, ◌++◌, length}
use Rattle.std.specs.List.{All, flat_map}
use Rattle.lz_log.proofs.LineLemmas.{hint_item, IsHint}
use Rattle.lz_log.proofs.lines.hints.Given as goal

abbrev pub invariant-loop-rest : goal.invariant-loop-rest
invariant-loop-rest l = record {
  within : All (IsHint l.known) l.hints;
  front : l.bytes ≡ flat_map hint_item l.hints ++ l.left;
}

abbrev pub decreases-loop-rest : goal.decreases-loop-rest
decreases-loop-rest l = length l.left
