use Rattle.lz_log.proofs.marks.Marks.begin.Goals as goal

pub returns-then-self-clause-stamps : goal.returns-then-self-clause-stamps
returns-then-self-clause-stamps c are = c.next.ensures.stamps (c.clear.ensures.stamps are)

pub returns-then-self-clause-none : goal.returns-then-self-clause-none
returns-then-self-clause-none c are = c.next.ensures.none (c.clear.ensures.stamps are)
