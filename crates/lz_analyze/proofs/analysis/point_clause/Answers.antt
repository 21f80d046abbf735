use Rattle.std.proofs.Common.{None}
use Rattle.lz_prop.specs.Trail.{Entry}
use Rattle.lz_analyze.proofs.LearnLemmas.{point_false}
use Rattle.lz_analyze.proofs.analysis.point_clause.Goals as goal

first : Entry
first = record { lit = record { 0 = 0 }; level = 0; reason = None }

pub shorten-requires-clause-lits : goal.shorten-requires-clause-lits
shorten-requires-clause-lits c = point_false c.args.trail.now c.reach_point.new.walk first c.point_of-point.result c.deref-2.result.now c.in_ok-reach_point.ensures (c.point_of-point.ensures first) c.deref-2.ensures
