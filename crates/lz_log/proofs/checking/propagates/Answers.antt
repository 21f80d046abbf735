use Rattle.std.proofs.Common.{◌<◌, All}
use Rattle.lz_cnf.specs.Models.{variable_of}
use Rattle.lz_log.proofs.RefutationLemmas.{named_has}
use Rattle.lz_log.proofs.CheckingLemmas.{unit_has_room, stops_false, stops_open, goes_on}
use Rattle.lz_log.proofs.checking.propagates.Goals as goal

pub mark-requires : goal.mark-requires
mark-requires c =
    let named = rw c.in-Some.is at c.named.ensures.some in
    let stands = rw c.in-OneLeft.is at (c.standing.ensures c.requires.marked.0 c.requires.marked.1) in
    let below = named_has (λ clause. All (λ lit. variable_of lit < c.args.formula.now.variables) clause) _ _ _ c.requires.known named in
    rw c.negated.ensures (unit_has_room _ _ _ _ stands.0 below c.requires.room)

pub returns-in-OneLeft-clause-goes : goal.returns-in-OneLeft-clause-goes
returns-in-OneLeft-clause-goes c false_ mark t = (
  c.in-OneLeft.unit,
  rw c.negated.ensures at (c.mark.ensures.marked false_ mark),
  goes_on _ _ _ _ _ (rw c.in-Some.is at c.named.ensures.some) (rw c.in-OneLeft.is at (c.standing.ensures false_ mark)),
)

pub returns-in-AllFalse-clause-stops : goal.returns-in-AllFalse-clause-stops
returns-in-AllFalse-clause-stops c false_ mark f =
    stops_false _ _ _ _ (rw c.in-Some.is at c.named.ensures.some) (rw c.in-AllFalse.is at (c.standing.ensures false_ mark))

pub returns-in-TwoLeft-clause-stops : goal.returns-in-TwoLeft-clause-stops
returns-in-TwoLeft-clause-stops c false_ mark f =
    stops_open _ _ _ _ (rw c.in-Some.is at c.named.ensures.some) (rw c.in-TwoLeft.is at (c.standing.ensures false_ mark))
