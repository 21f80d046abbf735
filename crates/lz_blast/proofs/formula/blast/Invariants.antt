use Rattle.std.proofs.Common.{◌≡◌, take, length}
use Rattle.lz_blast.specs.Steps.{Stands}
use Rattle.lz_blast.proofs.formula.blast.Given as goal

abbrev pub invariant-loop-i : goal.invariant-loop-i
invariant-loop-i l = record { stands : Stands l.builder l.inputs.items l.words (take l.i l.list); count : length l.inputs.items ≡ l.fn.nodes.inputs }
