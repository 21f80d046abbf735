use Rattle.std.proofs.Common.{◌<◌, List, [], ◌∷◌, reverse, None, sym, ◌∙◌, ap, subst}
use Rattle.std.specs.List.{All}
use Rattle.lz_cnf.specs.Models.{variable_of}
use Rattle.lz_analyze.specs.Walking.{IsTodo}
use Rattle.lz_cnf.specs.declared.clause.Lit.{Lit}
use Rattle.lz_prop.specs.Trail.{Entry}
use Rattle.lz_analyze.specs.Highest.{IsHighest}
use Rattle.lz_analyze.proofs.LearnLemmas.{whole_learnt, low_variables}
use Rattle.lz_analyze.proofs.analysis.whole_clause.Goals as goal

first : Entry
first = record { lit = record { 0 = 0 }; level = 0; reason = None }

pub highest-requires : goal.highest-requires
highest-requires c =
    let s = c.args.trail.now in
    let w = c.args.walk.now in
    subst (λ (xs : List Lit). All (λ lit. variable_of lit < s.variables) xs) (sym c.deref-3.ensures)
    (low_variables s (IsTodo s w.at []) w.marks.keys w.low.items w.at w.pending (reverse w.hints.items) c.requires.trail c.requires.walk.over.walk)

pub returns : goal.returns
returns c =
    let s = c.args.trail.now in
    whole_learnt s c.args.walk.now first c.args.point c.in_ok-clause.clause c.in_ok-hints.hints c.highest.result c.requires.trail c.requires.walk c.requires.above (c.requires.point first)
    (subst (λ (xs : List Lit). IsHighest s.set xs c.highest.result) c.deref-3.ensures c.highest.ensures)
    (c.in_ok-clause.ensures ∙ ap (λ (xs : List Lit). c.args.point ∷ xs) c.deref.ensures)
    (c.in_ok-hints.ensures ∙ ap reverse c.deref-2.ensures)
