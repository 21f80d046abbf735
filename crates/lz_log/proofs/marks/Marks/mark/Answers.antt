use Rattle.lz_log.proofs.MarksLemmas.{marked_more}
use Rattle.lz_log.proofs.marks.Marks.mark.Goals as goal

pub returns-clause-marked : goal.returns-clause-marked
returns-clause-marked c false_ mark = record { told = marked_more _ _ false_ c.args.lit c.requires mark.told }
