use Rattle.lz_resolve.proofs.CellsLemmas.{listed_words}
use Rattle.lz_resolve.proofs.cells.push_listed.Goals as goal

pub returns : goal.returns
returns c =
    listed_words c.args.cells.now c.push_words.new.cells c.push_zeros.new.cells c.args.count c.args.values.now
    c.in_ok-push_words.ensures (rw c.saturating_sub-zeros.ensures at c.in_ok-push_zeros.ensures)
