use Rattle.std.proofs.Common.{sym, ◌∙◌, ap, arith}
use Rattle.std.proofs.lemmas.List.{get_or_default}
use Rattle.lz_prop.specs.Parts.{number_kept}
use Rattle.lz_prop.proofs.TableLemmas.{told}
use Rattle.lz_prop.proofs.table.Table.reason.Goals as goal

pub returns-in-Some : goal.returns-in-Some
returns-in-Some c =
    let t = c.args.self.now in
    let is = told t.levels.items t.reasons.items t.order.items c.args.variable c.in-Some.field-0 (sym c.in-Some.ensures) in
    let long = c.requires.table.reasons_long in
    let within = c.requires.variable in
    c.given.ensures ∙ ap number_kept (c.index.ensures ∙ get_or_default t.reasons.items c.args.variable c.index.result.now 0 (omega arith)) ∙ sym is.reason
