use Rattle.std.proofs.Common.{◌≡◌, ◌-◌, ◌++◌, map}
use Rattle.lz_flat.specs.Programs.{location, instruction}
use Rattle.lz_sync.specs.Groups.{spot_number, none_waits}
use Rattle.lz_sync.proofs.groups.end_waits.Given as goal

-- what is left makes the whole
abbrev pub invariant-loop-slot : goal.invariant-loop-slot
invariant-loop-slot l =
    map instruction l.group ++ none_waits l.layout (spot_number (location l.cond)) l.slot (l.layout.threads - l.slot)
    ≡ map instruction l.initial.group ++ none_waits l.layout (spot_number (location l.cond)) 0 l.layout.threads
