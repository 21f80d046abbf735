use Rattle.std.proofs.Common.{◌≡◌, ◌<◌, ℕ, inl, inr, List, length, false, eqb, sym, ◌∙◌, ap, subst, arith}
use Rattle.std.proofs.lemmas.Bool.{cases_eq, eqb-false}
use Rattle.lz_cnf.specs.declared.clause.Lit.{Lit}
use Rattle.lz_prop.specs.Trail.{TrailState, WasOpen, gone_back}
use Rattle.lz_prop.proofs.BackLemmas.{open_after_back}
use Rattle.lz_analyze.specs.LearntFrom.{IsLearntFrom}
use Rattle.lz_solve.proofs.search.learn_from.Goals as goal

-- a clause that is not empty was learnt above level 0
above : (s : TrailState) (clause items : List Lit) (hints : List ℕ) (level : ℕ) → IsLearntFrom s clause hints level → items ≡ clause → false ≡ eqb (length items) 0 → 0 < s.level
above s clause items hints level learnt is some =
    elim (cases_eq s.level 0) [
      | inl zero_ ↦ absurd (eqb-false (length items) 0 (sym some) (ap length (is ∙ learnt.empty.1 zero_)))
      | inr ne ↦ omega (arith, ne)
    ]

pub add-requires-clause-open : goal.add-requires-clause-open
add-requires-clause-open c =
    let s = c.args.trail.now in
    let learnt = c.in_ok-learnt.learnt in
    let positive = above s learnt.clause c.items.result.now learnt.hints learnt.level c.in_ok-learnt.ensures c.items.ensures c.if-is_empty.ensures in
    subst (λ (t : TrailState). WasOpen t t.level c.items-3.result.now) (sym c.go_back.ensures.back)
    (subst (WasOpen (gone_back s learnt.level) learnt.level) (sym c.items-3.ensures)
    (open_after_back s learnt.level learnt.clause (c.in_ok-learnt.ensures.open_ positive)))
