use Rattle.lz_log.proofs.StandingLemmas.{stands_with_false}
use Rattle.lz_log.proofs.marks.Marks.with_one_more.Goals as goal

pub returns-then-is_false : goal.returns-then-is_false
returns-then-is_false c false_ clause mark stands = stands_with_false false_ clause c.args.standing c.args.lit stands ((c.is_false.ensures false_ mark).0 c.if-is_false.true)

pub returns : goal.returns
returns c false_ clause mark stands = c.with_open.ensures false_ clause stands (λ within. let truth = (c.is_false.ensures false_ mark).1 within in absurd cc)
