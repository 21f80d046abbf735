use Rattle.std.proofs.Common.{◌≡◌, ◌-◌, length}
use Rattle.lz_fold.specs.Folding.{IsClosedFrom, NeedsMore}
use Rattle.lz_fold.proofs.cone.flag_cone.Given as goal

-- so far from the end
abbrev pub invariant-loop-left : goal.invariant-loop-left
invariant-loop-left l = record {
  count : length l.flags.items ≡ length l.list;
  more : NeedsMore l.initial.flags.items l.flags.items;
  closed : IsClosedFrom (l.size - l.left) l.list l.flags.items;
}
