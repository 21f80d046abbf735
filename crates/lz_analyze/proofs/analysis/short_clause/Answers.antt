use Rattle.std.proofs.Common.{◌<◌, ℕ, List, [], ◌∷◌, ◌++◌, reverse, None, sym, ◌∙◌, ap, subst}
use Rattle.std.specs.List.{All}
use Rattle.lz_cnf.specs.declared.clause.Lit.{Lit}
use Rattle.lz_cnf.specs.Models.{variable_of}
use Rattle.lz_prop.specs.Trail.{Entry}
use Rattle.lz_analyze.specs.Walking.{IsTodo}
use Rattle.lz_analyze.specs.Highest.{IsHighest}
use Rattle.lz_analyze.proofs.LearnLemmas.{short_learnt, kept_variables}
use Rattle.lz_analyze.proofs.analysis.short_clause.Goals as goal

first : Entry
first = record { lit = record { 0 = 0 }; level = 0; reason = None }

pub highest-requires : goal.highest-requires
highest-requires c =
    let s = c.args.trail.now in
    let w = c.args.walk.now in
    subst (λ (xs : List Lit). All (λ lit. variable_of lit < s.variables) xs) (sym c.deref-4.ensures.value)
    (kept_variables s (IsTodo s w.at []) w.marks.keys w.low.items c.args.shorter.now.kept.items w.at w.pending (reverse w.hints.items) c.requires.trail c.requires.walk.over.walk c.requires.shorter.within)

pub returns : goal.returns
returns c =
    let s = c.args.trail.now in
    let shorter = c.args.shorter.now in
    short_learnt s c.args.walk.now first c.args.point shorter.kept.items c.in_ok-clause.clause shorter.links.items c.in_ok-hints.hints c.highest.result c.requires.trail c.requires.walk c.requires.above (c.requires.point first)
    c.requires.shorter
    (subst (λ (xs : List Lit). IsHighest s.set xs c.highest.result) c.deref-4.ensures.value c.highest.ensures)
    (c.in_ok-clause.ensures ∙ ap (λ (xs : List Lit). c.args.point ∷ xs) c.deref.ensures.value)
    (c.in_ok-hints.ensures ∙ ap (λ (xs : List ℕ). xs ++ reverse c.deref-3.result.now) c.deref-2.ensures.value ∙ ap (λ (xs : List ℕ). shorter.links.items ++ reverse xs) c.deref-3.ensures)
