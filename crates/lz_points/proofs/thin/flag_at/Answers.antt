use Rattle.lz_points.proofs.LoopsLemmas.{flag_found, flag_past}
use Rattle.lz_points.proofs.thin.flag_at.Goals as goal

pub returns-then-over-rest : goal.returns-then-over-rest
returns-then-over-rest c = flag_found c.args.rest.now c.args.over c.index-rest-over.result c.if-over-rest.true c.index-rest-over.is

pub returns : goal.returns
returns c = flag_past c.args.rest.now c.args.over c.if-over-rest.false
