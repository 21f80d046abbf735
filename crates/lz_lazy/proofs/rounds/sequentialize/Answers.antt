use Rattle.std.proofs.Common.{arith, ap, length, ◌≤◌, ◌*◌}
use Rattle.lz_flat.specs.Programs.{flat_program}
use Rattle.lz_flat.specs.WellFormed.{IsWellFormed}
use Rattle.lz_flat.specs.Lengths.{StraightHasLengths}
use Rattle.lz_flat.specs.Weight.{straight_weight, flat_weight}
use Rattle.lz_lazy.specs.Sequential.{FailsAsDriven, FailsWhereBroken}
use Rattle.lz_lazy.proofs.WholeLemmas.{fails_as_driven, fails_where_broken}
use Rattle.lz_lazy.proofs.FormingLemmas.{well_formed}
use Rattle.lz_lazy.proofs.WeighingLemmas.{weighs}
use Rattle.lz_lazy.proofs.MeasuringLemmas.{has_lengths}
use Rattle.lz_lazy.proofs.EndingLemmas.{carry, sized, all_short, short, numbered}
use Rattle.lz_lazy.proofs.rounds.sequentialize.Goals as goal

pub statements-requires-clause-places : goal.statements-requires-clause-places
statements-requires-clause-places c = all_short c.args.flat.now c.args.rounds c.requires.rounds c.requires.light

pub returns-clause-driven : goal.returns-clause-driven
returns-clause-driven c =
    let flat = flat_program c.args.flat.now in
    carry (FailsAsDriven flat c.args.rounds) flat c.args.rounds _ _ c.in_ok-list.ensures c.in_ok-first.ensures
    (fails_as_driven flat c.args.rounds c.requires.marked (short flat c.args.rounds c.requires.rounds c.requires.light))

pub returns-clause-broken : goal.returns-clause-broken
returns-clause-broken c =
    let flat = flat_program c.args.flat.now in
    carry (FailsWhereBroken flat c.args.rounds) flat c.args.rounds _ _ c.in_ok-list.ensures c.in_ok-first.ensures
    (fails_where_broken flat c.args.rounds c.requires.marked (short flat c.args.rounds c.requires.rounds c.requires.light))

pub returns-clause-size : goal.returns-clause-size
returns-clause-size c = sized c.args.flat.now c.args.rounds c.in_ok-list.list c.in_ok-list.ensures

pub returns-clause-weight : goal.returns-clause-weight
returns-clause-weight c =
    let flat = flat_program c.args.flat.now in
    let exact = weighs flat c.args.rounds in
    carry (λ straight. straight_weight straight ≤ c.args.rounds * flat_weight flat) flat c.args.rounds _ _ c.in_ok-list.ensures c.in_ok-first.ensures
    (omega (arith, exact))

pub returns-clause-formed : goal.returns-clause-formed
returns-clause-formed c =
    let flat = flat_program c.args.flat.now in
    carry IsWellFormed flat c.args.rounds _ _ c.in_ok-list.ensures c.in_ok-first.ensures
    (well_formed flat c.args.rounds c.requires.marked (short flat c.args.rounds c.requires.rounds c.requires.light))

pub returns-clause-lengths : goal.returns-clause-lengths
returns-clause-lengths c =
    let flat = flat_program c.args.flat.now in
    λ has. carry StraightHasLengths flat c.args.rounds _ _ c.in_ok-list.ensures c.in_ok-first.ensures (has_lengths flat c.args.rounds has)

pub returns-clause-words : goal.returns-clause-words
returns-clause-words c =
    let a = ap length c.items.ensures in
    let b = ap length c.items-2.ensures in
    numbered c.args.flat.now c.in_ok-first.first c.in_ok-first.ensures (omega (arith, a, b))
