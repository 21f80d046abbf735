use Rattle.std.proofs.Common.{◌+◌, ap}
use Rattle.lz_bound.specs.BoundedTrees.{bounded_statement, bounded_routine, bounded_program}
use Rattle.lz_bound.specs.Sizes.{statement_size, program_size}
use Rattle.lz_bound.proofs.SumLemmas.{routines_size-of, from_start}
use Rattle.lz_bound.proofs.measure.size.Goals as goal

pub loop-routine-init : goal.loop-routine-init
loop-routine-init c =
    let first = statement_size (bounded_statement c.args.bounded.now.main) in
    from_start (λ x. statement_size (bounded_routine x).body) (program_size (bounded_program c.args.bounded.now)) c.items-routine-items.result.now c.args.bounded.now.routines first c.statement_size-sum.result
    (ap (λ n. first + n) (routines_size-of bounded_routine c.args.bounded.now.routines)) c.items-routine-items.ensures c.statement_size-sum.ensures
