use Rattle.std.proofs.Common.{◌≡◌, ◌≤◌, ◌-◌, length, take}
use Rattle.lz_outside.specs.Files.{Changes}
use Rattle.lz_outside.proofs.writing.write_file.Given as goal

abbrev pub invariant-loop-added : goal.invariant-loop-added
invariant-loop-added g l = record {
  in_range : l.added ≤ length l.bytes;
  changed : Changes (g.F.Folder.files l.fn.folder) (g.F.Folder.files l.folder) l.name (take l.added l.bytes);
  calm : g.F.Folder.write_faults l.folder ≡ g.F.Folder.write_faults l.fn.folder;
  same_reads : g.F.Folder.read_faults l.folder ≡ g.F.Folder.read_faults l.fn.folder;
}

abbrev pub decreases-loop-added : goal.decreases-loop-added
decreases-loop-added g l = length l.bytes - l.added
