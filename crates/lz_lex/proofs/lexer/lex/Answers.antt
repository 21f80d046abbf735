use Rattle.std.proofs.Common.{◌<◌, length, refl, sym, ap, ◌∙◌, arith, length-take, length-drop}
use Rattle.std.specs.Prelude.{option_map}
use Rattle.std.proofs.lemmas.Bool.Decides.{nat_tests}
use Rattle.lz_tree.specs.Tokens.{behind_piece}
use Rattle.lz_lex.specs.Views.{cutting, front, piece}
use Rattle.lz_lex.proofs.CutLemmas.{next, stop-none, stop-blocked, at_start, at_next}
use Rattle.lz_lex.proofs.ErrorLemmas.{stopped_at}
use Rattle.lz_lex.proofs.lexer.lex.Goals as goal

pub loop-rest-init : goal.loop-rest-init
loop-rest-init c = at_start c.args.bytes.now _ c.new-at.ensures

pub returns-in_default-clause-bad : goal.returns-in_default-clause-bad
returns-in_default-clause-bad c =
    let some : 0 < length c.loop-rest.rest.now = grind (arith, nat_tests) in
    let none = sym c.scan.ensures ∙ ap (option_map front) c.in_default.is in
    let stop = sym c.loop-rest.invariant.on ∙ stop-none (cutting c.loop-rest.at) c.loop-rest.rest.now some none in
    λ place line e. stopped_at _ _ place line c.bad.result refl stop c.bad.ensures e

pub returns-then-not-may_stand-clause-bad : goal.returns-then-not-may_stand-clause-bad
returns-then-not-may_stand-clause-bad c =
    let found = sym c.scan.ensures ∙ ap (option_map front) c.in-Some.is in
    let blocked = sym c.may_stand.ensures ∙ c.if-not-may_stand.true in
    let stop = sym c.loop-rest.invariant.on ∙ stop-blocked (cutting c.loop-rest.at) c.loop-rest.rest.now (front c.in-Some.front) found blocked in
    λ place line e. stopped_at _ _ place line c.bad-then-not-may_stand.result refl stop c.bad-then-not-may_stand.ensures e

pub split_at-requires : goal.split_at-requires
split_at-requires c =
    let found = sym c.scan.ensures ∙ ap (option_map front) c.in-Some.is in
    let n = next (cutting c.loop-rest.at) c.loop-rest.rest.now (front c.in-Some.front) found (sym c.may_stand.ensures ∙ c.if-not-may_stand.false) in
    n.within

pub take-requires-clause-some : goal.take-requires-clause-some
take-requires-clause-some c =
    let found = sym c.scan.ensures ∙ ap (option_map front) c.in-Some.is in
    let n = next (cutting c.loop-rest.at) c.loop-rest.rest.now (front c.in-Some.front) found (sym c.may_stand.ensures ∙ c.if-not-may_stand.false) in
    omega (arith, ap length c.split_at.ensures.front, length-take c.in-Some.front.size c.loop-rest.rest.now, n.some, n.within)

pub loop-rest-smaller : goal.loop-rest-smaller
loop-rest-smaller c =
    let found = sym c.scan.ensures ∙ ap (option_map front) c.in-Some.is in
    let n = next (cutting c.loop-rest.at) c.loop-rest.rest.now (front c.in-Some.front) found (sym c.may_stand.ensures ∙ c.if-not-may_stand.false) in
    omega (arith, ap length c.split_at.ensures.back, length-drop c.in-Some.front.size c.loop-rest.rest.now, n.some, n.within)

pub loop-rest-preserved : goal.loop-rest-preserved
loop-rest-preserved c =
    let found = sym c.scan.ensures ∙ ap (option_map front) c.in-Some.is in
    let n = next (cutting c.loop-rest.at) c.loop-rest.rest.now (front c.in-Some.front) found (sym c.may_stand.ensures ∙ c.if-not-may_stand.false) in
    let behind = c.in_ok-take.ensures ∙ ap (behind_piece (cutting c.loop-rest.at) (piece c.in-Some.front.piece)) c.split_at.ensures.front in
    rw c.split_at.ensures.back (at_next c.args.bytes.now c.loop-rest.rest.now (cutting c.loop-rest.at) (cutting c.take.new.self) (front c.in-Some.front) c.loop-rest.invariant n behind)
