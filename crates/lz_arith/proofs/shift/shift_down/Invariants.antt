use Rattle.std.proofs.Common.{◌^◌, length}
use Rattle.lz_gates.specs.Circuits.{Assignment, value}
use Rattle.lz_arith.specs.Shifts.{moved_down}
use Rattle.lz_arith.proofs.ShiftsLemmas.{Shifts}
use Rattle.lz_arith.proofs.shift.shift_down.Given as goal

abbrev pub invariant-loop-i : goal.invariant-loop-i
invariant-loop-i l = Shifts l.initial.builder l.builder (λ (a : Assignment). moved_down (2 ^ length l.fn.bits) (value a l.fn.fill)) l.fn.bits l.amount l.moved l.by l.i
