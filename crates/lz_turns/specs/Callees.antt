-- Inner: what a node calls, as code holds it.
use Rattle.lz_turns.specs.declared.calls.Callee.{Callee}
use Rattle.lz_turns.specs.declared.calls.Callee.TheVariants.{Function, Known, Nothing}
use Rattle.lz_turns.specs.Moves.{Called, function_called, known_called, not_called}

abbrev pub callee_of : Callee → Called
callee_of (Function line function) = function_called line function
callee_of (Known line name) = known_called line name
callee_of Nothing = not_called
