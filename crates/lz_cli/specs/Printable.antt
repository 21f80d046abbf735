-- Inner: that the numbers of a report fit their types.
use Rattle.std.specs.Prelude.{◌<◌, ◌^◌, ⊤}
use Rattle.lz_model.specs.Rounds.{rounds_of, threads_of}
use Rattle.lz_cli.specs.declared.ending.Ending.{Ending}
use Rattle.lz_cli.specs.declared.ending.Ending.TheVariants.{Successful, Failed, NotAToken, NotAProgram, Faulty, ManySlots, HighCost, Recheck, Replay, NotBuilt, FileTooLong, ScheduleTooLong, ProofTooLong, BadSchedule, ReadFault, Usage, OutOfMemory}

-- how many rounds a failure's schedule has fits its type; nothing else can be too large
abbrev pub IsPrintable : Ending → Type 0
IsPrintable (Failed kind line schedule) = rounds_of (threads_of schedule) < 2 ^ 32
IsPrintable (Successful unwind rounds formula log) = ⊤
IsPrintable (NotAToken line place) = ⊤
IsPrintable (NotAProgram line token) = ⊤
IsPrintable (Faulty line rule) = ⊤
IsPrintable (ManySlots slots) = ⊤
IsPrintable (HighCost cost) = ⊤
IsPrintable (Recheck answer) = ⊤
IsPrintable (Replay answer) = ⊤
IsPrintable (NotBuilt line) = ⊤
IsPrintable FileTooLong = ⊤
IsPrintable ScheduleTooLong = ⊤
IsPrintable ProofTooLong = ⊤
IsPrintable (BadSchedule line) = ⊤
IsPrintable (ReadFault name) = ⊤
IsPrintable Usage = ⊤
IsPrintable OutOfMemory = ⊤
