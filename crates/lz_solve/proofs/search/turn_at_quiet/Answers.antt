use Rattle.std.proofs.Common.{◌≡◌, ℕ, None, sym, subst}
use Rattle.lz_prop.specs.Trail.{entry_of, value_in}
use Rattle.lz_solve.proofs.SearchLemmas.{free_literal, next_decided, found}
use Rattle.lz_solve.proofs.search.turn_at_quiet.Goals as goal

pub decide-requires-clause-unassigned : goal.decide-requires-clause-unassigned
decide-requires-clause-unassigned c =
    free_literal c.args.trail.now.set c.literal_of.result (subst (λ (n : ℕ). value_in (entry_of c.args.trail.now.set n) ≡ None) (sym c.literal_of.ensures) c.in-Some.ensures.1)

pub returns-in-Some : goal.returns-in-Some
returns-in-Some c =
    next_decided c.args.formula.now c.args.conflicts c.args.trail.now c.decide.new.self c.args.log.now c.literal_of.result c.requires.search c.decide.ensures.decided c.decide.ensures.trail

pub returns-in_ok-values-in-None : goal.returns-in_ok-values-in-None
returns-in_ok-values-in-None c =
    found c.args.formula.now c.args.conflicts c.args.trail.now c.args.log.now c.in_ok-values-in-None.values c.requires.search c.requires.quiet c.in-None.ensures c.in_ok-values-in-None.ensures.whole c.in_ok-values-in-None.ensures.values
