use Rattle.std.proofs.Common.{arith}
use Rattle.lz_log.proofs.MarksLemmas.{round_is_fresh, past_next}
use Rattle.lz_log.proofs.marks.Marks.next.Goals as goal

pub returns-clause-stamps : goal.returns-clause-stamps
returns-clause-stamps c are = record { past = past_next _ _ are.past; begun = omega arith }

pub returns-clause-none : goal.returns-clause-none
returns-clause-none c are = record { told = round_is_fresh _ _ are.past }
