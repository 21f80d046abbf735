use Rattle.lz_lex.proofs.EndLemmas.{IsOpen}
use Rattle.lz_lex.proofs.comment.comment_end.Given as goal

-- the end comes from here on
abbrev pub invariant-loop-i : goal.invariant-loop-i
invariant-loop-i l = IsOpen l.bytes l.i
