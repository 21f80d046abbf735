use Rattle.lz_log.proofs.CheckingLemmas.{last_stays, no_truth, one_is_left, two_are_left}
use Rattle.lz_log.proofs.checking.is_refuted.Goals as goal

pub returns-in-OneLeft : goal.returns-in-OneLeft
returns-in-OneLeft c false_ mark =
    let named = rw c.in-Some.is at c.named.ensures.some in
    let stands = rw c.in-OneLeft.is at (c.standing.ensures false_ mark) in
    (no_truth, λ leads. absurd (one_is_left _ (last_stays _ _ _ _ _ named stands leads)))

pub returns-in-TwoLeft : goal.returns-in-TwoLeft
returns-in-TwoLeft c false_ mark =
    let named = rw c.in-Some.is at c.named.ensures.some in
    let stands = rw c.in-TwoLeft.is at (c.standing.ensures false_ mark) in
    (no_truth, λ leads. absurd (two_are_left (last_stays _ _ _ _ _ named stands leads)))
