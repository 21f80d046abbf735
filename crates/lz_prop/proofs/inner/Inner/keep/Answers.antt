use Rattle.std.proofs.Common.{ℕ, ◌<◌, length, sym, ap, subst}
use Rattle.std.specs.List.{All}
use Rattle.lz_cnf.specs.Models.{variable_of}
use Rattle.lz_prop.specs.Trail.{TrailState, WasOpen}
use Rattle.lz_prop.specs.Kept.{state_of}
use Rattle.lz_prop.proofs.KeptLemmas.{added_kept}
use Rattle.lz_prop.proofs.inner.Inner.keep.Goals as goal

pub returns-clause-kept : goal.returns-clause-kept
returns-clause-kept c =
    let t = c.args.self.now in
    let u = c.widen.new.self in
    let same = ap (λ (s : TrailState). s.variables) c.widen.ensures.state in
    added_kept u c.keep.new.self c.args.clause.now c.widen.ensures.kept (record { room = c.in_ok-widen.ensures.room })
    c.keep.ensures.store c.in_ok-keep.ensures.ok
    (subst (λ (n : ℕ). All (λ l. variable_of l < n) c.args.clause.now) (sym same) c.requires.variables) c.requires.not_empty
    (subst (λ (s : TrailState). WasOpen s (length u.starts.items) c.args.clause.now) (sym c.widen.ensures.state)
    (subst (λ v. WasOpen (state_of t) (length v.items) c.args.clause.now) (sym c.widen.ensures.starts) c.requires.open))
