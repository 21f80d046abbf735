use Rattle.std.proofs.Common.{length, ap, arith}
use Rattle.lz_prop.specs.Stored.{clauses_of}
use Rattle.lz_prop.proofs.KeptLemmas.{further_join}
use Rattle.lz_prop.proofs.WalkLemmas.{handled_outcome}
use Rattle.lz_prop.proofs.inner.Inner.propagate.Goals as goal

pub returns-clause-further : goal.returns-clause-further
returns-clause-further c = further_join c.args.self.now c.look_at_new.new.self c.handle.new.self c.look_at_new.ensures.further c.handle.ensures.further

pub returns-clause-outcome : goal.returns-clause-outcome
returns-clause-outcome c =
    let u = c.handle.new.self in
    handled_outcome u c.handle.result c.handle.ensures.kept (let all = c.in_default.ensures.outcome in let seen = c.handle.ensures.seen in let same = ap (λ s. length (clauses_of s)) c.handle.ensures.further.store in omega arith) c.handle.ensures.outcome
