use Rattle.std.proofs.Common.{◌^◌, length}
use Rattle.lz_gates.specs.Circuits.{Assignment}
use Rattle.lz_arith.specs.Shifts.{moved_up}
use Rattle.lz_arith.proofs.ShiftsLemmas.{Shifts}
use Rattle.lz_arith.proofs.shift.shift_up.Given as goal

abbrev pub invariant-loop-i : goal.invariant-loop-i
invariant-loop-i l = Shifts l.initial.builder l.builder (λ (a : Assignment). moved_up (2 ^ length l.fn.bits)) l.fn.bits l.amount l.moved l.by l.i
