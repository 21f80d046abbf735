use Rattle.std.proofs.Common.{◌≡◌, drop}
use Rattle.lz_scopes.specs.Files.{name_from}
use Rattle.lz_scopes.proofs.whole.number_of.Given as goal

-- the number is that of the next name, and none before it has the bytes
abbrev pub invariant-loop-name : goal.invariant-loop-name
invariant-loop-name l = record {
  number : l.number ≡ l.name-index;
  left : name_from 0 l.names l.bytes ≡ name_from l.name-index (drop l.name-index l.names) l.bytes;
}
