use Rattle.std.proofs.Common.{◌≡◌, suc, [], ◌∷◌, ◌++◌, length, set, refl, ◌∙◌, ap, arith}
use Rattle.lz_cnf.specs.Models.{variable_of}
use Rattle.lz_prop.proofs.KeptLemmas.{IsFree, IsPut, IsOpened, order_room_for, set_long, decided_kept, state_decided}
use Rattle.lz_prop.proofs.inner.Inner.decide.Goals as goal

pub overflow_cast-len : goal.overflow_cast-len
overflow_cast-len c =
    let t = c.args.self.now in
    let room = order_room_for t c.args.lit c.requires.kept (record { within = c.requires.variable; unassigned = c.requires.unassigned }) in
    let few = c.requires.kept.few in
    let n = t.table.order.ok.0 in
    omega arith

pub push_reserved-requires : goal.push_reserved-requires
push_reserved-requires c =
    let t = c.args.self.now in
    let room = order_room_for t c.args.lit c.requires.kept (record { within = c.requires.variable; unassigned = c.requires.unassigned }) in
    let short = c.requires.kept.starts.short in
    let long = set_long t in
    let cap = c.requires.kept.starts_room in
    let n = t.starts.ok.0 in
    omega arith

pub overflow_cast-self : goal.overflow_cast-self
overflow_cast-self c =
    let t = c.args.self.now in
    let room = order_room_for t c.args.lit c.requires.kept (record { within = c.requires.variable; unassigned = c.requires.unassigned }) in
    let few = c.requires.kept.few in
    let head = c.requires.kept.head_within in
    omega arith

pub push_reserved-requires-2 : goal.push_reserved-requires-2
push_reserved-requires-2 c =
    let t = c.args.self.now in
    let room = order_room_for t c.args.lit c.requires.kept (record { within = c.requires.variable; unassigned = c.requires.unassigned }) in
    let short = c.requires.kept.starts.short in
    let long = set_long t in
    let fronts = c.requires.kept.fronts.long in
    let cap = c.requires.kept.fronts_room in
    let n = t.fronts.ok.0 in
    omega arith

pub overflow_cast-len-2 : goal.overflow_cast-len-2
overflow_cast-len-2 c =
    let t = c.args.self.now in
    let room = order_room_for t c.args.lit c.requires.kept (record { within = c.requires.variable; unassigned = c.requires.unassigned }) in
    let short = c.requires.kept.starts.short in
    let long = set_long t in
    let few = c.requires.kept.few in
    let n = t.starts.ok.0 in
    omega arith

pub put-requires-clause-room : goal.put-requires-clause-room
put-requires-clause-room c =
    let t = c.args.self.now in
    let room = order_room_for t c.args.lit c.requires.kept (record { within = c.requires.variable; unassigned = c.requires.unassigned }) in
    let cap = c.requires.kept.order_room in
    let n = t.table.order.ok.0 in
    omega arith

free : (c : goal.After-put) → IsFree c.args.self.now c.args.lit
free c = record { within = c.requires.variable; unassigned = c.requires.unassigned }

starts_are : (c : goal.After-put) → c.push_reserved.new.self.items ≡ c.args.self.now.starts.items ++ length c.args.self.now.table.order.items ∷ []
starts_are c =
    let t = c.args.self.now in
    let place : c.len.result ≡ length t.table.order.items = (let n = t.table.order.ok.0 in omega arith) in
    c.push_reserved.ensures.items ∙ ap (λ n. t.starts.items ++ n ∷ []) place

is_put : (c : goal.After-put) → IsPut c.args.self.now (record c.args.self.now { starts = c.push_reserved.new.self; fronts = c.push_reserved-2.new.self; table = c.put.new.self }) c.args.lit (suc (length c.args.self.now.starts.items)) 0
is_put c =
    let t = c.args.self.now in
    let level : c.len-2.result ≡ suc (length t.starts.items) = (let n = t.starts.ok.0 in omega arith) in
    record {
      variables = refl;
      store = refl;
      watch = refl;
      truths = c.put.ensures.truths;
      levels = c.put.ensures.levels ∙ ap (set t.table.levels.items (variable_of c.args.lit)) level;
      reasons = c.put.ensures.reasons;
      order = c.put.ensures.order;
      order_room = c.put.ensures.room;
      starts_room = c.push_reserved.ensures.capacity;
      head = refl;
      seen = refl;
      spent = refl;
    }

is_opened : (c : goal.After-put) → IsOpened c.args.self.now (record c.args.self.now { starts = c.push_reserved.new.self; fronts = c.push_reserved-2.new.self; table = c.put.new.self })
is_opened c = record { starts = starts_are c; fronts = c.push_reserved-2.ensures.items; fronts_room = c.push_reserved-2.ensures.capacity }

pub returns-clause-kept : goal.returns-clause-kept
returns-clause-kept c = decided_kept c.args.self.now _ c.args.lit c.requires.kept (free c) c.requires.quiet (is_put c) (is_opened c)

pub returns-clause-state : goal.returns-clause-state
returns-clause-state c = state_decided c.args.self.now _ c.args.lit c.requires.kept (free c) (is_put c) (starts_are c)
