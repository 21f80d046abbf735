use Rattle.std.proofs.Common.{ℕ, ◌+◌, inl, inr, ⊎_elim, List, get_or, take, drop, sym, ◌∙◌, subst, arith}
use Rattle.std.specs.List.{All, Contains}
use Rattle.std.proofs.lemmas.List.{drop_more, take_all}
use Rattle.std.proofs.lemmas.List.Elements.{All-more}
use Rattle.lz_cnf.specs.declared.clause.Lit.{Lit}
use Rattle.lz_cnf.specs.Models.{variable_of}
use Rattle.lz_cnf.specs.Partial.{IsFalseLit}
use Rattle.lz_prop.specs.Trail.{literals}
use Rattle.lz_analyze.specs.Walking.{IsWalkOver}
use Rattle.lz_analyze.proofs.walk.Walk.look.Goals as goal

pub meet-requires-clause-met : goal.meet-requires-clause-met
meet-requires-clause-met c = c.loop-lit.invariant.0 c.loop-lit.lit-index (record { 0 = 0 }) c.loop-lit-test.true

pub loop-lit-preserved : goal.loop-lit-preserved
loop-lit-preserved c =
    let s = c.args.trail.now in
    let xs = c.args.clause.now in
    let i = c.loop-lit.lit-index in
    let d : Lit = record { 0 = 0 } in
    let w = c.meet.new.self in
    let at = c.meet.ensures.at in
    let more = c.in_ok-meet.ensures.marks in
    let p = c.meet.ensures.pending in
    let q = c.loop-lit.invariant.4 in (
      λ k e lt. ⊎_elim
          (λ has. inl (more (variable_of (get_or xs k e)) has))
          (λ h. inr (subst (λ (n : ℕ). IsFalseLit (literals (take n s.set)) (get_or xs k e)) (sym at) h))
          (c.loop-lit.invariant.0 k e lt),
      c.in_ok-meet.ensures.walk (drop (i + 1) xs) (subst (λ (ys : List Lit). IsWalkOver s ys c.loop-lit.self) (drop_more xs i d c.loop-lit-test.true) c.loop-lit.invariant.1),
      All-more (λ lit. Contains w.marks.keys (variable_of lit)) xs i d c.loop-lit-test.true (λ k e lt. more (variable_of (get_or (take i xs) k e)) (c.loop-lit.invariant.2 k e lt)) c.in_ok-meet.ensures.own,
      at ∙ c.loop-lit.invariant.3,
      omega arith,
    )

pub returns-clause-own : goal.returns-clause-own
returns-clause-own c =
    subst (λ (ys : List Lit). All (λ lit. Contains c.loop-lit.self.marks.keys (variable_of lit)) ys) (take_all c.loop-lit.lit-index c.args.clause.now c.loop-lit-test.false) c.loop-lit.invariant.2
