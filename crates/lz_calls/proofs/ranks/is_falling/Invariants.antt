use Rattle.lz_calls.specs.Ranks.{IsFalling}
use Rattle.lz_calls.proofs.ranks.is_falling.Given as goal

abbrev pub invariant-loop-function : goal.invariant-loop-function
invariant-loop-function l = IsFalling l.graph l.ranks l.count l.function
