-- Inner: how a trail is kept, what it stands for, and what holds of its parts.
use Rattle.std.specs.Prelude.{◌≡◌, ◌*◌, ◌≤◌, length, take}
use Rattle.std.specs.Vec.{vec_capacity}
use Rattle.lz_cnf.specs.Models.{variable_bound}
use Rattle.lz_prop.specs.declared.inner.Inner.{Inner}
use Rattle.lz_prop.specs.Trail.{TrailState, IsTrail}
use Rattle.lz_prop.specs.Guarded.{AreGuarded, WereGuarded, AreFronts}
use Rattle.lz_prop.specs.Parts.{entries, IsTable, AreStarts}
use Rattle.lz_prop.specs.Stored.{IsStore, clauses_of}
use Rattle.lz_prop.specs.Watch.{AreListed}
use Rattle.lz_prop.specs.Watchers.{guards_of, next_of}

-- what the parts stand for
abbrev pub state_of : Inner → TrailState
state_of t = record {
  variables = t.variables;
  clauses = clauses_of t.store;
  set = entries t.table.levels.items t.table.reasons.items t.table.order.items;
  level = length t.starts.items;
  spent = t.spent;
}

-- what holds of the parts
pub record IsKept (t : Inner) : Type 0 where
  pub trail : IsTrail (state_of t)
  pub store : IsStore t.store
  pub table : IsTable t.variables t.table.truths.items t.table.levels.items t.table.reasons.items t.table.order.items
  pub starts : AreStarts (state_of t).set t.starts.items
  pub fronts : AreFronts t.starts.items t.fronts.items
  pub listed : AreListed (guards_of t.watch) (next_of t.watch) t.watch.firsts.items
  pub firsts_long : length t.watch.firsts.items ≡ 2 * t.variables
  pub guards_long : length (guards_of t.watch) ≡ 2 * t.seen
  pub guarded : AreGuarded (clauses_of t.store) (guards_of t.watch) t.table.order.items (take t.head t.table.order.items)
  pub were : WereGuarded (clauses_of t.store) (guards_of t.watch) t.table.order.items t.starts.items t.fronts.items
  pub head_within : t.head ≤ length t.table.order.items
  pub seen_within : t.seen ≤ length (clauses_of t.store)
  pub few : t.variables ≤ variable_bound
  pub order_room : t.variables ≤ vec_capacity t.table.order
  pub starts_room : t.variables ≤ vec_capacity t.starts
  pub fronts_room : t.variables ≤ vec_capacity t.fronts
  pub watchers_room : 2 * length (clauses_of t.store) ≤ vec_capacity t.watch.watchers
