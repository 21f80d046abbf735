use Rattle.lz_turns.specs.Stages.{locals_of}
use Rattle.lz_stations.proofs.StatementsLemmas.{listed_stays, unlisted_cleared, frame_set}
use Rattle.lz_stations.proofs.writes.clear_unlisted.Goals as goal

pub returns-then-element-values : goal.returns-then-element-values
returns-then-element-values c = listed_stays c.args.values.now c.args.element c.args.local (locals_of c.args.locals.now) c.if-element-values.true

pub returns : goal.returns
returns c = unlisted_cleared c.args.values.now c.args.element c.args.local (locals_of c.args.locals.now) _ c.if-element-values.false (frame_set c.args.local 0 _ _ c.in_ok-set_word.ensures)
