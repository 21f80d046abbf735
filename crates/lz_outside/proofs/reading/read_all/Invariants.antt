use Rattle.std.proofs.Common.{◌≡◌, ◌≤◌, ◌-◌, length}
use Rattle.lz_outside.specs.Files.{BeginsWith}
use Rattle.lz_outside.proofs.reading.read_all.Given as goal

abbrev pub invariant-loop-bytes : goal.invariant-loop-bytes
invariant-loop-bytes g l = record {
  in_range : length l.bytes ≤ l.limit;
  begins : BeginsWith (g.F.Folder.files l.initial.folder) l.name l.bytes;
  same_files : g.F.Folder.files l.folder ≡ g.F.Folder.files l.initial.folder;
  same_writes : g.F.Folder.write_faults l.folder ≡ g.F.Folder.write_faults l.initial.folder;
  calm : g.F.Folder.read_faults l.folder ≡ g.F.Folder.read_faults l.initial.folder;
}

abbrev pub decreases-loop-bytes : goal.decreases-loop-bytes
decreases-loop-bytes g l = l.limit - length l.bytes
