use Rattle.std.proofs.Common.{◌≡◌, ℕ, ◌-◌, List, [], ◌∷◌, length, get_or, take, reverse, None, true, sym, ◌∙◌, ap, subst, arith}
use Rattle.std.proofs.lemmas.List.{length-append}
use Rattle.lz_prop.specs.Trail.{Entry, RestsOn}
use Rattle.lz_analyze.specs.Walks.{IsWalk, is_open}
use Rattle.lz_analyze.specs.Walking.{IsTodo}
use Rattle.lz_analyze.proofs.WalkingLemmas.{variable_at, known_at, reason_told, rests_at, open_entry, named_within, lent_variables, reason_met, resolved_down, some_number}
use Rattle.lz_analyze.proofs.walk.Walk.resolve.Goals as goal

first : Entry
first = record { lit = record { 0 = 0 }; level = 0; reason = None }

pub reason-requires : goal.reason-requires
reason-requires c =
    let s = c.args.trail.now in
    let k = c.args.self.now.at - 1 in
    let low = c.requires.at in
    let high = c.requires.walk.walk.within in
    known_at s k first (get_or c.order.result.now k (record { 0 = 0 })) c.requires.trail (omega arith) (variable_at s c.order.result.now k first (record { 0 = 0 }) c.order.ensures (omega arith))

rests : (c : goal.After-look-arg-1) → RestsOn c.args.trail.now.clauses (take (c.args.self.now.at - 1) c.args.trail.now.set) (get_or c.args.trail.now.set (c.args.self.now.at - 1) first).lit c.in-Some.number
rests c =
    let low = c.requires.at in
    let high = c.requires.walk.walk.within in
    rests_at c.args.trail.now c.order.result.now (c.args.self.now.at - 1) c.in-Some.number first (record { 0 = 0 }) c.requires.trail (omega arith) c.order.ensures c.in-Some.ensures

pub clause-requires-clause-low : goal.clause-requires-clause-low
clause-requires-clause-low c = let r = rests c in (named_within c.args.trail.now.clauses c.in-Some.number r.clause r.named).0

pub clause-requires-clause-high : goal.clause-requires-clause-high
clause-requires-clause-high c = let r = rests c in (named_within c.args.trail.now.clauses c.in-Some.number r.clause r.named).1

pub look-requires-clause-variables : goal.look-requires-clause-variables
look-requires-clause-variables c = lent_variables c.args.trail.now c.clause.result.now c.in-Some.number c.requires.trail c.clause.ensures

rests_then : (c : goal.After-clause) → RestsOn c.args.trail.now.clauses (take (c.args.self.now.at - 1) c.args.trail.now.set) (get_or c.args.trail.now.set (c.args.self.now.at - 1) first).lit c.in-Some.number
rests_then c =
    let low = c.requires.at in
    let high = c.requires.walk.walk.within in
    rests_at c.args.trail.now c.order.result.now (c.args.self.now.at - 1) c.in-Some.number first (record { 0 = 0 }) c.requires.trail (omega arith) c.order.ensures c.in-Some.ensures

open_then : (c : goal.After-clause) → is_open c.args.trail.now.level c.args.self.now.marks.keys (get_or c.args.trail.now.set (c.args.self.now.at - 1) first) ≡ true
open_then c = ap (λ (n : ℕ). is_open n c.args.self.now.marks.keys (get_or c.args.trail.now.set (c.args.self.now.at - 1) first)) (sym c.requires.level) ∙ c.requires.open first

pub look-requires-clause-met : goal.look-requires-clause-met
look-requires-clause-met c =
    let s = c.args.trail.now in
    let w = c.args.self.now in
    reason_met s c.clause.result.now w.marks.keys (w.at - 1) (get_or s.set (w.at - 1) first).lit c.in-Some.number (rests_then c) c.clause.ensures
    (open_entry s.level w.marks.keys (get_or s.set (w.at - 1) first) (open_then c)).met

pub look-requires-clause-walk : goal.look-requires-clause-walk
look-requires-clause-walk c =
    let s = c.args.trail.now in
    let w = c.args.self.now in
    record {
      walk = subst (λ (hints : List ℕ). IsWalk s (IsTodo s (w.at - 1) c.clause.result.now) w.marks.keys w.low.items (w.at - 1) (w.pending - 1) (reverse hints)) (sym c.in_ok-push.ensures.ok)
          (resolved_down s c.clause.result.now w.marks.keys w.low.items w.at w.pending w.hints.items first c.in-Some.number c.requires.trail c.requires.walk.walk c.requires.walk.some c.requires.at c.requires.pending
          (open_then c) (rests_then c) c.clause.ensures);
      some = (let e = ap length c.in_ok-push.ensures.ok in let l = length-append w.hints.items (c.in-Some.number ∷ []) in omega arith);
    }

pub returns-in_default-clause-walk : goal.returns-in_default-clause-walk
returns-in_default-clause-walk c =
    let s = c.args.trail.now in
    let k = c.args.self.now.at - 1 in
    let low = c.requires.at in
    let high = c.requires.walk.walk.within in
    let told = reason_told s k first (get_or c.order.result.now k (record { 0 = 0 })) c.requires.trail (omega arith) (variable_at s c.order.result.now k first (record { 0 = 0 }) c.order.ensures (omega arith)) in
    absurd (some_number (get_or s.set k first).reason (sym told ∙ sym c.in_default.ensures) (c.requires.given first))
