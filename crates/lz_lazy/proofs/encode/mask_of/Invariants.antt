use Rattle.lz_lazy.proofs.MasksLemmas.{MaskAt}
use Rattle.lz_lazy.proofs.encode.mask_of.Given as goal

abbrev pub invariant-loop : goal.invariant-loop
invariant-loop l = MaskAt l.size l.counter l.mask
