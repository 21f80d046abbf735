use Rattle.std.proofs.Common.{◌≡◌, ◌-◌, ◌++◌, length, map}
use Rattle.lz_flat.specs.FlatRuns.{threads_from}
use Rattle.lz_lazy.specs.Encoding.{encoded_blocks}
use Rattle.lz_flat.specs.Programs.{statement, flat_program}
use Rattle.lz_lazy.proofs.rounds.push_round.Given as goal

-- what is left makes the whole
abbrev pub invariant-loop-thread : goal.invariant-loop-thread
invariant-loop-thread l =
    map statement l.list ++ encoded_blocks (flat_program l.flat) (threads_from l.thread (length l.flat.threads - l.thread))
    ≡ map statement l.initial.list ++ encoded_blocks (flat_program l.flat) (threads_from 0 (length l.flat.threads))
