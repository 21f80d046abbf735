-- Inner: the walk along the watchers of a literal that became false.
use Rattle.std.specs.Prelude.{◌≡◌, ℕ, suc, ◌+◌, ◌-◌, ◌/◌, ◌<◌, ◌≤◌, List, ◌∷◌, length, take, slice_index, slice_index_or, Option, Some, None}
use Rattle.std.specs.List.{Contains}
use Rattle.lz_cnf.specs.declared.clause.Lit.{Lit}
use Rattle.lz_cnf.specs.Models.{negated}
use Rattle.lz_prop.specs.declared.inner.Inner.{Inner}
use Rattle.lz_prop.specs.Guarded.{Guards}
use Rattle.lz_prop.specs.Watch.{IsChain, IsAlong}
use Rattle.lz_prop.specs.Watchers.{guards_of, next_of}
use Rattle.lz_prop.specs.Stored.{clauses_of}
use Rattle.lz_prop.specs.Kept.{IsKept}
use Rattle.lz_prop.specs.Further.{IsFurther, IsFalseKept}

-- Clauses are being looked at.
pub record IsLooking (old now : Inner) : Type 0 where
  pub kept : IsKept now
  pub further : IsFurther old now

-- the same while the first literal that waits is being handled
pub record IsHandling (old now : Inner) : Type 0 where
  pub kept : IsKept now
  pub further : IsFurther old now
  pub seen : now.seen ≡ old.seen

-- The walk stands at a watcher of the literal, counted from 1, or at the end, 0. The watchers that it came past guard their
-- clauses with one literal more handled.
pub record IsWalk (t : Inner) (lit : Lit) (before at : ℕ) : Type 0 where
  pub waiting : t.head < length t.table.order.items
  pub lit_is : (d : Lit) → lit ≡ negated (slice_index_or t.table.order.items t.head d)
  pub number : lit.0 < length t.watch.firsts.items
  pub past : List ℕ
  pub rest : List ℕ
  pub along : IsAlong (guards_of t.watch) (next_of t.watch) (slice_index t.watch.firsts.items lit.0) lit before at past rest
  pub done : (w : ℕ) (c : List Lit) → Contains past w → Guards t.table.order.items (take (suc t.head) t.table.order.items) (slice_index_or (clauses_of t.store) (w / 2) c) lit

-- The watcher `at` was looked at: it stays, or another list has it. The rest of the list is as it was.
pub record IsTurn (old now : Inner) (lit : Lit) (before at : ℕ) : Type 0 where
  pub walk : IsWalk now lit before (slice_index (next_of old.watch) (at - 1))
  pub rest : (ws : List ℕ) → IsChain (next_of now.watch) (slice_index (next_of old.watch) (at - 1)) ws → IsChain (next_of old.watch) at ((at - 1) ∷ ws)

-- the watcher stands behind this one now, or its clause is false
abbrev pub IsTurned : Inner → Inner → Lit → ℕ → Option ℕ → Type 0
IsTurned old now lit at None = IsFalseKept now ((at - 1) / 2)
IsTurned old now lit at (Some before) = IsTurn old now lit before at

-- the walk after so many turns of `most`
pub record IsWalking (old now : Inner) (lit : Lit) (before at turns most : ℕ) : Type 0 where
  pub kept : IsKept now
  pub further : IsFurther old now
  pub head : now.head ≡ old.head
  pub seen : now.seen ≡ old.seen
  pub walk : IsWalk now lit before at
  pub few : (ws : List ℕ) → IsChain (next_of now.watch) at ws → length ws + turns ≤ most
