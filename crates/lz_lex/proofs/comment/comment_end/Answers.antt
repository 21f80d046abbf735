use Rattle.std.proofs.Common.{sym, ap, ◌∙◌}
use Rattle.lz_lex.specs.Scanning.{closes}
use Rattle.lz_lex.proofs.EndLemmas.{open_start, open_turn, open_found, open_over, found_within}
use Rattle.lz_lex.proofs.comment.comment_end.Goals as goal

pub loop-i-init : goal.loop-i-init
loop-i-init c = open_start _

pub returns-then-closes-clause-end : goal.returns-then-closes-clause-end
returns-then-closes-clause-end c =
    let here = ap closes (sym c.behind.ensures) ∙ sym c.closes.ensures ∙ c.if-closes.true in
    open_found _ _ c.loop-i-test.true here c.loop-i.invariant

pub loop-i-preserved : goal.loop-i-preserved
loop-i-preserved c =
    let none = ap closes (sym c.behind.ensures) ∙ sym c.closes.ensures ∙ c.if-closes.false in
    open_turn _ _ c.loop-i-test.true none c.loop-i.invariant

pub returns-clause-end : goal.returns-clause-end
returns-clause-end c = open_over _ _ c.loop-i-test.false c.loop-i.invariant

pub returns-then-closes-clause-within : goal.returns-then-closes-clause-within
returns-then-closes-clause-within c =
    let here = ap closes (sym c.behind.ensures) ∙ sym c.closes.ensures ∙ c.if-closes.true in
    found_within _ _ (open_found _ _ c.loop-i-test.true here c.loop-i.invariant)
