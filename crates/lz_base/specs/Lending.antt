-- Inner: what a list ends as, where its items are lent to be written.
use Rattle.std.specs.Prelude.{List, ◌++◌, length, take, drop}
use Rattle.std.specs.Borrow.{Lends, Fml, RattleType, MutBor, Array}
use Rattle.lz_base.specs.contracts.sequence.Sequence.{the_row}

-- a list with its items written over: as many as it has, the new ones first
abbrev pub written_over : {A : Type 0} → List A → List A → List A
written_over old items = take (length old) (items ++ drop (length items) old)

module _ (T : RattleType) (list : MutBor (List T.Denot)) where
  -- once the borrow ends, the list has the items that it shows last, as many as before
  abbrev pub LendsItems : MutBor (List T.Denot) → Fml
  LendsItems lent = Lends (the_row T) (Array T 0) list lent (written_over list.now)
