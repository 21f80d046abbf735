use Rattle.std.proofs.Common.{rules}
use Rattle.lz_outside.proofs.memory.ListingsLemmas.{Changes-with_content}
use Rattle.lz_outside.proofs.memory.folder.MemoryFolderFolder.append_piece.Goals as goal

pub returns-in-Some-clause-changes : goal.returns-in-Some-clause-changes
returns-in-Some-clause-changes c = Changes-with_content c.args.self.now.listing _ c.args.name.now _ (search rules)
