-- Inner: what the vector of watchers holds.
use Rattle.std.specs.Prelude.{ℕ, List, map}
use Rattle.lz_cnf.specs.declared.clause.Lit.{Lit}
use Rattle.lz_prop.specs.declared.watch.Watch.{Watch}

-- the literals that are watched
abbrev pub guards_of : Watch → List Lit
guards_of w = map (λ x. x.lit) w.watchers.items

-- the links between watchers
abbrev pub next_of : Watch → List ℕ
next_of w = map (λ x. x.next) w.watchers.items
