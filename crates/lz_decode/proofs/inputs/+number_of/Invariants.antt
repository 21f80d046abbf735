use Rattle.std.proofs.Common.{length}
use Rattle.lz_decode.proofs.inputs.+number_of.Given as goal

-- the literals that are left
abbrev pub decreases-number_of : goal.decreases-number_of
decreases-number_of l = length l.bits.now
