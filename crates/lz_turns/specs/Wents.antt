-- Inner: how far an expression came, with the place behind the next action beside it.
use Rattle.std.specs.Prelude.{ℕ, Option, Some, None}
use Rattle.lz_turns.specs.declared.went.Went as held
use Rattle.lz_turns.specs.declared.went.Went.TheVariants.{Done, Acts, Reads, Asks, Signals, Creates, Calls, Fails, Refuses, Exits, Stops}
use Rattle.lz_turns.specs.Stages.{Point, Came, settles, acts, reads, asks, signals, creates, calls_on, fails, refuses, quits, stops}

abbrev pub went_of : held.Went → Point → Came
went_of (Done value) point = settles value
went_of (Acts action line) point = acts action line point
went_of (Reads cell line) point = reads cell line point
went_of (Asks line kind) point = asks line kind point
went_of (Signals cond line) point = signals cond line point
went_of (Creates routine value line) point = creates routine value line point
went_of (Calls function kinds values) point = calls_on function kinds.items values.items point
went_of (Fails kind line) point = fails kind line
went_of (Refuses line) point = refuses line
went_of Exits point = quits
went_of Stops point = stops

-- the value of what is done
abbrev pub value_if_went : held.Went → Option ℕ
value_if_went (Done value) = Some value
value_if_went (Acts action line) = None
value_if_went (Reads cell line) = None
value_if_went (Asks line kind) = None
value_if_went (Signals cond line) = None
value_if_went (Creates routine value line) = None
value_if_went (Calls function kinds values) = None
value_if_went (Fails kind line) = None
value_if_went (Refuses line) = None
value_if_went Exits = None
value_if_went Stops = None
