use Rattle.std.proofs.Common.{◌≡◌, ◌++◌}
use Rattle.std.specs.List.{flat_map}
use Rattle.lz_generate.specs.Generated.{one_to, create_text}
use Rattle.lz_generate.proofs.generated.append_creates.Given as goal

abbrev pub invariant-loop-worker : goal.invariant-loop-worker
invariant-loop-worker l = l.text ≡ l.initial.text ++ flat_map create_text (one_to l.worker)
