use Rattle.std.proofs.Common.{◌≡◌, ◌++◌, drop, map}
use Rattle.lz_lazy.specs.Encoding.{encoded}
use Rattle.lz_flat.specs.Programs.{marked, statement}
use Rattle.lz_lazy.proofs.encode.push_code.Given as goal

-- what is left makes the whole
abbrev pub invariant-loop-l : goal.invariant-loop-l
invariant-loop-l l =
    map statement l.list ++ encoded l.words l.thread l.l (map marked (drop l.l l.code)) ≡ map statement l.initial.list ++ encoded l.words l.thread 0 (map marked l.code)
