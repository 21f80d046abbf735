use Rattle.std.proofs.Common.{◌≡◌, ℕ, ◌+◌, ◌^◌, ◌<◌, List, [], ◌∷◌, ◌++◌, reverse, Option, Some, sym, ◌∙◌, ap, subst}
use Rattle.std.specs.Prelude.{SomeIff}
use Rattle.std.specs.List.{Contains}
use Rattle.std.proofs.Common.{Bool, true, false}
use Rattle.std.proofs.lemmas.List.Elements.{Contains-push}
use Rattle.std.proofs.lemmas.Bool.{both_ways}
use Rattle.lz_cnf.specs.declared.clause.Lit.{Lit}
use Rattle.lz_cnf.specs.Models.{variable_of}
use Rattle.lz_analyze.specs.Walks.{IsWalk}
use Rattle.lz_analyze.specs.Walking.{IsTodo}
use Rattle.lz_analyze.proofs.WalkingLemmas.{IsInserted, was_none, was_any, keys_more, keys_same, any_contains, met_open, met_low, met_first}
use Rattle.lz_analyze.proofs.walk.Walk.meet.Goals as goal

own_new : (old new : List ℕ) (v : ℕ) (added : Bool) → IsInserted old new v added → added ≡ true → Contains new v
own_new old new v added is yes_ = subst (λ (keys : List ℕ). Contains keys v) (sym (keys_more old new v added is yes_)) (Contains-push old v)

own_old : (old new : List ℕ) (v : ℕ) (added : Bool) → IsInserted old new v added → added ≡ false → Contains new v
own_old old new v added is no_ = subst (λ (keys : List ℕ). Contains keys v) (sym (keys_same old new v added is no_)) (any_contains old v (was_any old new v added is no_))

pub returns-in_ok-self-clause-own : goal.returns-in_ok-self-clause-own
returns-in_ok-self-clause-own c =
    own_new c.args.self.now.marks.keys c.insert.new.self.keys (variable_of c.args.lit) c.in_ok-insert.field-0 (record { keys = c.in_ok-insert.ensures.keys; told = c.in_ok-insert.ensures.added }) c.if-branch.true

pub returns-in_ok-push-clause-own : goal.returns-in_ok-push-clause-own
returns-in_ok-push-clause-own c =
    own_new c.args.self.now.marks.keys c.insert.new.self.keys (variable_of c.args.lit) c.in_ok-insert.field-0 (record { keys = c.in_ok-insert.ensures.keys; told = c.in_ok-insert.ensures.added }) c.if-branch.true

pub returns-else-branch-clause-own : goal.returns-else-branch-clause-own
returns-else-branch-clause-own c =
    own_old c.args.self.now.marks.keys c.insert.new.self.keys (variable_of c.args.lit) c.in_ok-insert.field-0 (record { keys = c.in_ok-insert.ensures.keys; told = c.in_ok-insert.ensures.added }) c.if-branch.false

pub returns-in_ok-self-clause-walk : goal.returns-in_ok-self-clause-walk
returns-in_ok-self-clause-walk c rest over =
    let w = c.args.self.now in
    let s = c.args.trail.now in
    let v = variable_of c.args.lit in
    let is : IsInserted w.marks.keys c.insert.new.self.keys v c.in_ok-insert.field-0 = record { keys = c.in_ok-insert.ensures.keys; told = c.in_ok-insert.ensures.added } in
    let next : c.in_ok-self.field-0 ≡ w.pending + 1 = (subst (λ (o : Option ℕ). SomeIff o (w.pending + 1 < 2 ^ 64) (w.pending + 1)) c.in_ok-self.ensures.ok_part c.checked_add.ensures).1 in
    record {
      walk = subst (λ (keys : List ℕ). IsWalk s (IsTodo s w.at rest) keys w.low.items w.at c.in_ok-self.field-0 (reverse w.hints.items))
          (sym (keys_more w.marks.keys c.insert.new.self.keys v c.in_ok-insert.field-0 is c.if-branch.true))
          (subst (λ (n : ℕ). IsWalk s (IsTodo s w.at rest) (w.marks.keys ++ v ∷ []) w.low.items w.at n (reverse w.hints.items)) (sym next)
          (met_open s rest w.marks.keys w.low.items w.at w.pending (reverse w.hints.items) c.args.lit c.requires.trail c.requires.met
          (was_none w.marks.keys c.insert.new.self.keys v c.in_ok-insert.field-0 is c.if-branch.true)
          (c.is_at.ensures.0 c.if-is_at.true ∙ ap (λ (n : ℕ). Some n) c.requires.level) over.walk));
      some = over.some;
    }

pub returns-in_ok-push-clause-walk : goal.returns-in_ok-push-clause-walk
returns-in_ok-push-clause-walk c rest over =
    let w = c.args.self.now in
    let s = c.args.trail.now in
    let v = variable_of c.args.lit in
    let is : IsInserted w.marks.keys c.insert.new.self.keys v c.in_ok-insert.field-0 = record { keys = c.in_ok-insert.ensures.keys; told = c.in_ok-insert.ensures.added } in
    record {
      walk = subst (λ (keys : List ℕ). IsWalk s (IsTodo s w.at rest) keys c.push.new.self.items w.at w.pending (reverse w.hints.items))
          (sym (keys_more w.marks.keys c.insert.new.self.keys v c.in_ok-insert.field-0 is c.if-branch.true))
          (subst (λ (low : List Lit). IsWalk s (IsTodo s w.at rest) (w.marks.keys ++ v ∷ []) low w.at w.pending (reverse w.hints.items)) (sym c.in_ok-push.ensures.ok)
          (met_low s rest w.marks.keys w.low.items w.at w.pending (reverse w.hints.items) c.args.lit c.requires.trail c.requires.met
          (was_none w.marks.keys c.insert.new.self.keys v c.in_ok-insert.field-0 is c.if-branch.true)
          (λ h. both_ways c.is_at.result c.if-is_at.false (c.is_at.ensures.1 (h ∙ ap (λ (n : ℕ). Some n) (sym c.requires.level)))) over.walk));
      some = over.some;
    }

pub returns-else-branch-clause-walk : goal.returns-else-branch-clause-walk
returns-else-branch-clause-walk c rest over =
    let w = c.args.self.now in
    let s = c.args.trail.now in
    let is : IsInserted w.marks.keys c.insert.new.self.keys (variable_of c.args.lit) c.in_ok-insert.field-0 = record { keys = c.in_ok-insert.ensures.keys; told = c.in_ok-insert.ensures.added } in
    record {
      walk = subst (λ (keys : List ℕ). IsWalk s (IsTodo s w.at rest) keys w.low.items w.at w.pending (reverse w.hints.items))
          (sym (keys_same w.marks.keys c.insert.new.self.keys (variable_of c.args.lit) c.in_ok-insert.field-0 is c.if-branch.false))
          (met_first s rest w.marks.keys w.low.items w.at w.pending (reverse w.hints.items) c.args.lit c.requires.trail over.walk
          (was_any w.marks.keys c.insert.new.self.keys (variable_of c.args.lit) c.in_ok-insert.field-0 is c.if-branch.false));
      some = over.some;
    }
