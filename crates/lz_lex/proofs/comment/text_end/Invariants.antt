use Rattle.lz_lex.proofs.EndLemmas.{IsInText}
use Rattle.lz_lex.proofs.comment.text_end.Given as goal

-- the end comes from here on
abbrev pub invariant-loop-i : goal.invariant-loop-i
invariant-loop-i l = IsInText l.bytes l.escaped l.i
