use Rattle.std.proofs.Common.{List, ℕ, sym, subst}
use Rattle.std.specs.List.{Contains}
use Rattle.lz_analyze.proofs.MarkedLemmas.{listed}
use Rattle.lz_analyze.proofs.marks.Marks.clear.Goals as goal

pub wipe-requires : goal.wipe-requires
wipe-requires c v one = subst (λ (xs : List ℕ). Contains xs v) (sym c.deref.ensures.value) (listed c.self.inside.table.items c.self.inside.list.items v c.self.invariant one)
