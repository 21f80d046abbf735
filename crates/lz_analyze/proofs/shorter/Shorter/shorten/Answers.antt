use Rattle.std.proofs.Common.{◌∷◌, List, sym, ◌∙◌, subst}
use Rattle.lz_cnf.specs.declared.clause.Lit.{Lit}
use Rattle.lz_analyze.specs.Chains.{IsShorter}
use Rattle.lz_analyze.proofs.ShorterLemmas.{replay_begins, replay_ends}
use Rattle.lz_analyze.proofs.shorter.Shorter.shorten.Goals as goal

pub keep_all-requires : goal.keep_all-requires
keep_all-requires c = c.in_ok-begin.ensures.part c.args.low.now

pub returns-then-contains : goal.returns-then-contains
returns-then-contains c yes_ =
    let s = c.args.trail.now in
    let point = c.args.point in
    let low = c.args.low.now in
    let before = c.keep_all.new.self in
    let after = c.link_all.new.self in
    subst (λ (kept : List Lit). IsShorter s point low kept after.links.items) (sym c.link_all.ensures.kept)
    (replay_ends s point low before.kept.items before.known.keys after.known.keys after.links.items c.requires.lits c.in_ok-keep_all.ensures.part
    (c.in_ok-link_all.ensures.replay (point ∷ before.kept.items)
    (replay_begins s point low before.kept.items before.known.keys before.links.items c.requires.trail c.requires.lits c.in_ok-keep_all.ensures.part (c.keep_all.ensures.links ∙ c.in_ok-begin.ensures.links)))
    (sym c.contains.ensures ∙ c.if-contains.true) (c.are_known-done.ensures yes_))
