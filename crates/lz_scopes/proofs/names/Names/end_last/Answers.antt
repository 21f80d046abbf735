use Rattle.lz_scopes.proofs.NamesLemmas.{last_there, popped}
use Rattle.lz_scopes.proofs.names.Names.end_last.Goals as goal

pub reset_place-requires : goal.reset_place-requires
reset_place-requires c =
    record { there = last_there _ _ c.self.inside.places c.self.inside.places c.in-Some.entry (rw c.in-Some.ensures.items at c.self.invariant) }

pub invariant_of-self-in-Some-pop : goal.invariant_of-self-in-Some-pop
invariant_of-self-in-Some-pop c =
    popped _ _ c.self.inside.places _ c.in-Some.entry c.in-Some-pop.hidden (rw (c.in-Some.ensures.items, c.in-Some-pop.ensures.items) at c.self.invariant) c.reset_place.ensures
