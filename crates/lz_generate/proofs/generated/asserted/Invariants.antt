use Rattle.std.proofs.Common.{◌≡◌, ◌≤◌, ◌*◌}
use Rattle.std.specs.List.{sum_by}
use Rattle.lz_generate.specs.Generated.{one_to, worker_sum}
use Rattle.lz_generate.proofs.generated.asserted.Given as goal

abbrev pub invariant-loop-worker : goal.invariant-loop-worker
invariant-loop-worker l = (l.total ≡ sum_by (worker_sum l.fn.seed) (one_to l.worker)) × (l.total ≤ 1600 * l.worker)
