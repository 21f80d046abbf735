use Rattle.std.proofs.Common.{length, set, refl, ◌∙◌, ap, arith}
use Rattle.lz_cnf.specs.Models.{variable_of}
use Rattle.lz_prop.proofs.KeptLemmas.{IsFree, IsPut, order_room_for, imply_kept, imply_further}
use Rattle.lz_prop.proofs.inner.Inner.imply.Goals as goal

pub put-requires-clause-room : goal.put-requires-clause-room
put-requires-clause-room c =
    let t = c.args.self.now in
    let room = order_room_for t c.args.lit c.requires.kept (record { within = c.requires.variable; unassigned = c.requires.unassigned }) in
    let cap = c.requires.kept.order_room in
    let n = t.table.order.ok.0 in
    omega arith

free : (c : goal.After-put) → IsFree c.args.self.now c.args.lit
free c = record { within = c.requires.variable; unassigned = c.requires.unassigned }

is_put : (c : goal.After-put) → IsPut c.args.self.now (record c.args.self.now { table = c.put.new.self }) c.args.lit (length c.args.self.now.starts.items) c.args.number
is_put c = record {
  variables = refl;
  store = refl;
  watch = refl;
  truths = c.put.ensures.truths;
  levels = c.put.ensures.levels ∙ ap (set c.args.self.now.table.levels.items (variable_of c.args.lit)) c.level-level.ensures;
  reasons = c.put.ensures.reasons;
  order = c.put.ensures.order;
  order_room = c.put.ensures.room;
  starts_room = refl;
  head = refl;
  seen = refl;
  spent = refl;
}

pub returns-clause-kept : goal.returns-clause-kept
returns-clause-kept c = imply_kept c.args.self.now _ c.args.lit c.args.number c.requires.kept (free c) c.requires.rests (is_put c) refl refl

pub returns-clause-further : goal.returns-clause-further
returns-clause-further c = imply_further c.args.self.now _ c.args.lit c.args.number c.requires.kept (free c) c.requires.rests (is_put c) refl refl
