use Rattle.std.proofs.Common.{◌≡◌, take}
use Rattle.lz_lex.specs.Views.{texts}
use Rattle.lz_lex.proofs.cutting.names_of.Given as goal

abbrev pub invariant-loop-word : goal.invariant-loop-word
invariant-loop-word l = l.names ≡ texts (take l.word-index l.words)
