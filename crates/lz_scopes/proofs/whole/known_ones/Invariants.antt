use Rattle.std.proofs.Common.{◌≡◌, ◌++◌, map, drop}
use Rattle.lz_scopes.specs.KnownNames.{known}
use Rattle.lz_scopes.proofs.whole.known_ones.Given as goal

-- what was made so far and what is left are all
abbrev pub invariant-loop-name : goal.invariant-loop-name
invariant-loop-name l = l.all.items ++ map known (drop l.name-index l.names) ≡ map known l.names
