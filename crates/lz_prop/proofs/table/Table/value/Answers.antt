use Rattle.std.proofs.Common.{◌≡◌, ℕ, ◌+◌, ◌*◌, ◌/◌, Bool, not, length, get_or, Some, arith, sym, ◌∙◌, ap}
use Rattle.std.proofs.lemmas.List.{get_or_default}
use Rattle.lz_cnf.specs.declared.clause.Lit.{Lit}
use Rattle.lz_prop.specs.Trail.{entry_of, value_in}
use Rattle.lz_prop.specs.Parts.{entries}
use Rattle.lz_prop.proofs.TableLemmas.{told_entry, told_none, is_even, is_odd}
use Rattle.lz_prop.proofs.table.Table.value.Goals as goal

pub returns-then-index-eq1 : goal.returns-then-index-eq1
returns-then-index-eq1 c =
    let t = c.args.self.now in
    let v = c.args.variable in
    let lit : Lit = record { 0 = 2 * v } in
    let half : (2 * v) / 2 ≡ v = omega arith in
    let long = c.requires.table.truths_long in
    let within = c.requires.variable in
    let is_true : get_or t.truths.items (2 * v) 0 ≡ 1 = sym (get_or_default t.truths.items (2 * v) c.index.result.now 0 (omega arith)) ∙ sym c.index.ensures ∙ c.if-index-eq1.true in
    let found = told_entry (length t.levels.items) t.truths.items t.levels.items t.reasons.items t.order.items lit c.requires.table c.requires.apart is_true in
    sym (ap (λ (n : ℕ). value_in (entry_of (entries t.levels.items t.reasons.items t.order.items) n)) (sym half) ∙ ap value_in found ∙ ap (λ (b : Bool). Some (not b)) (is_even v))

pub returns-then-index-eq1-2 : goal.returns-then-index-eq1-2
returns-then-index-eq1-2 c =
    let t = c.args.self.now in
    let v = c.args.variable in
    let lit : Lit = record { 0 = 2 * v + 1 } in
    let half : (2 * v + 1) / 2 ≡ v = omega arith in
    let long = c.requires.table.truths_long in
    let within = c.requires.variable in
    let is_true : get_or t.truths.items (2 * v + 1) 0 ≡ 1 = sym (get_or_default t.truths.items (2 * v + 1) c.index-else-index-eq1.result.now 0 (omega arith)) ∙ sym c.index-else-index-eq1.ensures ∙ c.if-index-eq1-2.true in
    let found = told_entry (length t.levels.items) t.truths.items t.levels.items t.reasons.items t.order.items lit c.requires.table c.requires.apart is_true in
    sym (ap (λ (n : ℕ). value_in (entry_of (entries t.levels.items t.reasons.items t.order.items) n)) (sym half) ∙ ap value_in found ∙ ap (λ (b : Bool). Some (not b)) (is_odd v))

pub returns-else-index-eq1-2 : goal.returns-else-index-eq1-2
returns-else-index-eq1-2 c =
    let t = c.args.self.now in
    let v = c.args.variable in
    let long = c.requires.table.truths_long in
    let within = c.requires.variable in
    let first = c.index.ensures ∙ get_or_default t.truths.items (2 * v) c.index.result.now 0 (omega arith) in
    let second = c.index-else-index-eq1.ensures ∙ get_or_default t.truths.items (2 * v + 1) c.index-else-index-eq1.result.now 0 (omega arith) in
    sym (ap value_in (told_none (length t.levels.items) t.truths.items t.levels.items t.reasons.items t.order.items v c.requires.table
    (λ h. c.if-index-eq1.false (first ∙ h)) (λ h. c.if-index-eq1-2.false (second ∙ h))))
