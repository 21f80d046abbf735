use Rattle.std.proofs.Common.{ℕ, Some, sym, ◌∙◌, ap}
use Rattle.std.proofs.lemmas.List.{get_or_default}
use Rattle.lz_prop.proofs.TableLemmas.{told}
use Rattle.lz_prop.proofs.table.Table.level_of.Goals as goal

pub returns-in-Some : goal.returns-in-Some
returns-in-Some c =
    let t = c.args.self.now in
    let is = told t.levels.items t.reasons.items t.order.items c.args.variable c.in-Some.field-0 (sym c.in-Some.ensures) in
    ap (λ (n : ℕ). Some n) (c.index.ensures ∙ get_or_default t.levels.items c.args.variable c.index.result.now 0 c.requires.variable) ∙ sym is.level
