use Rattle.std.proofs.Common.{◌≡◌, ℕ, ◌<◌, ◌+◌, List, length, true, false, eqb, sym, ◌∙◌, subst, arith}
use Rattle.std.proofs.lemmas.Bool.Decides.{nat_tests}
use Rattle.std.proofs.lemmas.Result.{err_from_is_err_and}
use Rattle.lz_replay.proofs.ReadingLemmas.{LeadsOn, LeadsOn-line, LeadsOn-end, LeadsOn-refused}
use Rattle.lz_replay.proofs.read.read_schedule.Goals as goal

is_long : (bytes : List ℕ) → eqb (length bytes) 0 ≡ false → 0 < length bytes
is_long bytes h = grind (arith, nat_tests)

is_short : (bytes : List ℕ) → eqb (length bytes) 0 ≡ true → length bytes ≡ 0
is_short bytes h = grind (arith, nat_tests)

pub returns-in_err-add_line-clause-bad : goal.returns-in_err-add_line-clause-bad
returns-in_err-add_line-clause-bad c =
    let p = err_from_is_err_and c.from_residual.result c.from_residual.ensures.1 in
    let rest = c.loop-rest.rest.now in
    let refused = rw c.front.ensures at c.in_err-add_line.ensures.err in
    rw (p.1, p.2)
    (LeadsOn-refused c.len_before-count.result c.in_err-add_line.field-0.0 c.loop-rest.invariant (is_long rest (sym c.is_empty.ensures ∙ c.loop-rest-test.true)) c.len_before-count.ensures.len refused)

pub loop-rest-preserved : goal.loop-rest-preserved
loop-rest-preserved c =
    let rest = c.loop-rest.rest.now in
    let count = c.len_before-count.result in
    let adds = rw c.front.ensures at c.in_ok-add_line.ensures.ok in
    subst (λ (bytes : List ℕ). LeadsOn c.args.bytes.now bytes c.add_line.new.schedule (c.loop-rest.line + 1)) (sym c.behind-rest.ensures)
    (LeadsOn-line count c.loop-rest.invariant (is_long rest (sym c.is_empty.ensures ∙ c.loop-rest-test.true)) c.len_before-count.ensures.len adds)

pub returns-clause-text : goal.returns-clause-text
returns-clause-text c = LeadsOn-end c.loop-rest.rest.now (is_short c.loop-rest.rest.now (sym c.is_empty.ensures ∙ c.loop-rest-test.false)) c.loop-rest.invariant
