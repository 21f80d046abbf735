use Rattle.std.proofs.Common.{[], rules}
use Rattle.lz_outside.proofs.memory.ListingsLemmas.{Changes-with_content}
use Rattle.lz_outside.proofs.memory.folder.MemoryFolderFolder.begin.Goals as goal

pub returns-clause-changes : goal.returns-clause-changes
returns-clause-changes c = Changes-with_content c.args.self.now.listing _ c.args.name.now [] (search rules)
