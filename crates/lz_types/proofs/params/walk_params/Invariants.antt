use Rattle.std.proofs.Common.{drop}
use Rattle.lz_types.proofs.ExternalLemmas.{WalkedParams}
use Rattle.lz_types.proofs.params.walk_params.Given as goal

abbrev pub invariant-loop-p : goal.invariant-loop-p
invariant-loop-p l = WalkedParams l.file l.start l.initial.place l.place l.params (drop l.p-index l.params) l.initial.faults.items l.faults.items
