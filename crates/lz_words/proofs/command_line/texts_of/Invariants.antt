use Rattle.std.proofs.Common.{◌≡◌, ◌∷◌, take}
use Rattle.clap.specs.Walk.{texts}
use Rattle.lz_words.specs.CommandLine.{program_name}
use Rattle.lz_words.proofs.command_line.texts_of.Given as goal

abbrev pub invariant-loop-word : goal.invariant-loop-word
invariant-loop-word l = texts l.all.items ≡ program_name ∷ take l.word-index l.word-items
