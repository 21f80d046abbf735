use Rattle.std.proofs.Common.{sym, ◌∙◌}
use Rattle.lz_lex.proofs.EndLemmas.{text_start, text_turn, text_line, text_found, text_over}
use Rattle.lz_lex.proofs.comment.text_end.Goals as goal

pub loop-i-init : goal.loop-i-init
loop-i-init c = text_start _

pub returns-then-is_newline-clause-end : goal.returns-then-is_newline-clause-end
returns-then-is_newline-clause-end c = text_line c.loop-i-test.true (sym c.is_newline.ensures ∙ c.if-is_newline.true) c.loop-i.invariant

pub returns-then-ends_text-clause-end : goal.returns-then-ends_text-clause-end
returns-then-ends_text-clause-end c =
    text_found c.loop-i-test.true (sym c.is_newline.ensures ∙ c.if-is_newline.false) (sym c.ends_text.ensures ∙ c.if-ends_text.true) c.loop-i.invariant

pub loop-i-preserved : goal.loop-i-preserved
loop-i-preserved c =
    rw c.escapes-escaped.ensures
    (text_turn c.loop-i-test.true (sym c.is_newline.ensures ∙ c.if-is_newline.false) (sym c.ends_text.ensures ∙ c.if-ends_text.false) c.loop-i.invariant)

pub returns-clause-end : goal.returns-clause-end
returns-clause-end c = text_over c.loop-i-test.false c.loop-i.invariant
