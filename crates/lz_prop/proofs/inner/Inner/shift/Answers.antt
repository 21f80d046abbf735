use Rattle.std.proofs.Common.{arith}
use Rattle.lz_prop.proofs.StoreLemmas.{length-cut}
use Rattle.lz_prop.proofs.WatchersLemmas.{guards_count, next_count}
use Rattle.lz_prop.proofs.WalkLemmas.{IsTarget, IsMoved, stands_at, before_within, target_of, moved_kept, turn_moves}
use Rattle.lz_prop.proofs.inner.Inner.shift.Goals as goal
use Rattle.lz_prop.proofs.inner.Inner.shift.Goals.{After-shift}

pub shift-requires-clause-number_to : goal.shift-requires-clause-number_to
shift-requires-clause-number_to c = (target_of c.args.self.now c.args.lit c.args.before c.args.at c.args.to c.requires.kept c.requires.walk c.requires.some c.requires.other).number

pub shift-requires-clause-before : goal.shift-requires-clause-before
shift-requires-clause-before c = let t = c.args.self.now in let le = before_within t c.args.lit c.args.before c.args.at c.requires.kept c.requires.walk in let count = next_count t.watch in omega arith

pub shift-requires-clause-within : goal.shift-requires-clause-within
shift-requires-clause-within c = let count = guards_count c.args.self.now.watch in let lt = (stands_at c.args.self.now c.args.lit c.args.before c.args.at c.requires.kept c.requires.walk c.requires.some).within in let some = c.requires.some in omega arith

pub shift-requires-clause-few : goal.shift-requires-clause-few
shift-requires-clause-few c =
    let t = c.args.self.now in
    let lt = (stands_at t c.args.lit c.args.before c.args.at c.requires.kept c.requires.walk c.requires.some).within in
    let long = c.requires.kept.guards_long in
    let seen = c.requires.kept.seen_within in
    let few = c.requires.kept.store.few in
    let clauses = length-cut t.store.literals.items t.store.bounds.items in
    omega arith

target : (c : After-shift) → IsTarget c.args.self.now c.args.at c.args.to
target c = target_of c.args.self.now c.args.lit c.args.before c.args.at c.args.to c.requires.kept c.requires.walk c.requires.some c.requires.other

moved : (c : After-shift) → IsMoved c.args.self.now.watch c.shift.new.self c.args.lit c.args.before c.args.at c.args.to
moved c = record {
  shifted = record { guards_are = c.shift.ensures.guards; next_are = c.shift.ensures.next; firsts_are = c.shift.ensures.firsts };
  room = c.shift.ensures.room;
}

pub returns-clause-kept : goal.returns-clause-kept
returns-clause-kept c = moved_kept c.args.self.now c.shift.new.self c.args.lit c.args.before c.args.at c.args.to c.requires.kept c.requires.walk c.requires.some (target c) (moved c)

pub returns-clause-turn : goal.returns-clause-turn
returns-clause-turn c = turn_moves c.args.self.now c.shift.new.self c.args.lit c.args.before c.args.at c.args.to c.requires.kept c.requires.walk c.requires.some (target c) (moved c)
