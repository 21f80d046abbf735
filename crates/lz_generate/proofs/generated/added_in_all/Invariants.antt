use Rattle.std.proofs.Common.{◌≡◌, ◌≤◌, ◌*◌}
use Rattle.std.specs.List.{sum_by}
use Rattle.lz_generate.specs.Generated.{addend, one_to}
use Rattle.lz_generate.proofs.generated.added_in_all.Given as goal

abbrev pub invariant-loop-block : goal.invariant-loop-block
invariant-loop-block l = (l.total ≡ sum_by (addend l.fn.seed l.fn.worker) (one_to l.block)) × (l.total ≤ 100 * l.block)
