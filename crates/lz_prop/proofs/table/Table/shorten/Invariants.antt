use Rattle.std.specs.Vec.{vec_len}
use Rattle.lz_prop.specs.Tabled.{IsShortened}
use Rattle.lz_prop.proofs.table.Table.shorten.Given as goal

abbrev pub invariant-loop-self : goal.invariant-loop-self
invariant-loop-self l = IsShortened l.initial.self l.self l.len

abbrev pub decreases-loop-self : goal.decreases-loop-self
decreases-loop-self l = vec_len l.self.order
