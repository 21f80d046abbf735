use Rattle.std.proofs.Common.{take}
use Rattle.std.specs.Str.Parse.{digits_value}
use Rattle.lz_log.specs.Pieces.{IsCapped}
use Rattle.lz_log.proofs.pieces.value_of.Given as goal

abbrev pub invariant-loop-digit : goal.invariant-loop-digit
invariant-loop-digit l = IsCapped l.value (digits_value 10 (take l.digit-index l.digits))
