-- Inner: what one turn of propagation may change, and what it answers.
use Rattle.std.specs.Prelude.{◌≡◌, ℕ, suc, ◌+◌, ◌<◌, ◌≤◌, Bool, true, false, List, length, take, slice_index_or, Option, Some, None}
use Rattle.std.specs.List.{Contains}
use Rattle.lz_cnf.specs.declared.clause.Lit.{Lit}
use Rattle.lz_cnf.specs.Partial.{IsQuiet, IsFalseClause}
use Rattle.lz_prop.specs.declared.inner.Inner.{Inner}
use Rattle.lz_prop.specs.Trail.{Extends}
use Rattle.lz_prop.specs.Guarded.{Guards, AreGuarded}
use Rattle.lz_prop.specs.Watchers.{guards_of}
use Rattle.lz_prop.specs.Stored.{clauses_of}
use Rattle.lz_prop.specs.Kept.{state_of}

-- literals of the present level may have followed, and what guarded does
pub record IsFurther (old now : Inner) : Type 0 where
  pub extends : Extends (state_of old) (state_of now)
  pub store : now.store ≡ old.store
  pub spent : now.spent ≡ old.spent
  pub longer : length old.table.order.items ≤ length now.table.order.items
  pub same : (k : ℕ) (d : Lit) → k < length old.table.order.items → slice_index_or now.table.order.items k d ≡ slice_index_or old.table.order.items k d
  pub guards : (head : ℕ) (clause : List Lit) (lit : Lit) → head ≤ length old.table.order.items
      → Guards old.table.order.items (take head old.table.order.items) clause lit → Guards now.table.order.items (take head now.table.order.items) clause lit

-- the clause of this number, counted from 0, is false
pub record IsFalseKept (t : Inner) (at : ℕ) : Type 0 where
  pub within : at < length (clauses_of t.store)
  pub false_ : (d : List Lit) → IsFalseClause t.table.order.items (slice_index_or (clauses_of t.store) at d)

-- the literal that was left of a clause is true, or the clause is false
abbrev pub IsForced : Inner → ℕ → Lit → Bool → Type 0
IsForced t at lit true = Contains t.table.order.items lit
IsForced t at lit false = IsFalseKept t at

-- a look at the first clause that was not looked at: it is false, or it has its guards
abbrev pub IsLooked : Inner → Inner → Bool → Type 0
IsLooked old t true = (t.seen ≡ old.seen) × IsFalseKept t old.seen
IsLooked old t false = t.seen ≡ old.seen + 1

-- all clauses were looked at since they were added, or one is false
abbrev pub IsLookedThrough : Inner → Option ℕ → Type 0
IsLookedThrough t None = length (clauses_of t.store) ≤ t.seen
IsLookedThrough t (Some at) = IsFalseKept t at

-- the first literal that waits can be taken as handled, or a clause is false
abbrev pub IsVisited : Inner → Option ℕ → Type 0
IsVisited t None = AreGuarded (clauses_of t.store) (guards_of t.watch) t.table.order.items (take (suc t.head) t.table.order.items)
IsVisited t (Some at) = IsFalseKept t at

-- no literal waits, or a clause is false
abbrev pub IsHandled : Inner → Option ℕ → Type 0
IsHandled t None = length t.table.order.items ≤ t.head
IsHandled t (Some at) = IsFalseKept t at

-- no clause is unit or false, or one is false
abbrev pub IsPropagated : Inner → Option ℕ → Type 0
IsPropagated t None = IsQuiet t.table.order.items (clauses_of t.store)
IsPropagated t (Some at) = IsFalseKept t at
