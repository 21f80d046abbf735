use Rattle.std.proofs.Common.{◌≡◌, ℕ, get_or, take, refl, ◌∙◌, ap, subst, arith}
use Rattle.std.proofs.lemmas.List.{get_or_default}
use Rattle.lz_prop.specs.Parts.{IsTable}
use Rattle.lz_prop.proofs.KeptLemmas.{IsBack, start_within, state_back, back_kept, back_same, order_apart}
use Rattle.lz_prop.proofs.inner.Inner.back.Goals as goal

pub shorten-requires-clause-apart : goal.shorten-requires-clause-apart
shorten-requires-clause-apart c = order_apart c.args.self.now c.requires.kept

pub shorten-requires-clause-within : goal.shorten-requires-clause-within
shorten-requires-clause-within c =
    let t = c.args.self.now in
    let n = t.starts.ok.0 in
    let lt = c.if-level-len.true in
    let at = c.index.ensures ∙ get_or_default t.starts.items c.args.level c.index.result.now 0 (omega arith) in
    let within = start_within t c.args.level c.requires.kept (omega arith) in
    omega arith

is_back : (c : goal.After-truncate-then-level-len) → IsBack c.args.self.now (record c.args.self.now { table = c.shorten.new.self; starts = c.truncate.new.self; fronts = c.truncate-then-level-len.new.self; head = c.index-then-level-len.result.now }) c.args.level
is_back c =
    let t = c.args.self.now in
    let n = t.starts.ok.0 in
    let lt = c.if-level-len.true in
    let at : c.index.result.now ≡ get_or t.starts.items c.args.level 0 = c.index.ensures ∙ get_or_default t.starts.items c.args.level c.index.result.now 0 (omega arith) in
    let long = c.requires.kept.table.levels_long in
    record {
      below = omega arith;
      variables = refl;
      store = refl;
      watch = refl;
      table = subst (λ (n : ℕ). IsTable n c.shorten.new.self.truths.items c.shorten.new.self.levels.items c.shorten.new.self.reasons.items c.shorten.new.self.order.items) long c.shorten.ensures.table;
      levels = c.shorten.ensures.levels;
      reasons = c.shorten.ensures.reasons;
      order = c.shorten.ensures.order ∙ ap (λ (n : ℕ). take n t.table.order.items) at;
      order_room = c.shorten.ensures.room;
      starts = c.truncate.ensures.items;
      starts_room = c.truncate.ensures.capacity;
      fronts = c.truncate-then-level-len.ensures.items;
      fronts_room = c.truncate-then-level-len.ensures.capacity;
      head = c.index-then-level-len.ensures ∙ get_or_default t.fronts.items c.args.level c.index-then-level-len.result.now 0 (let long = c.requires.kept.fronts.long in omega arith);
      seen = refl;
      spent = refl;
    }

pub returns-then-level-len-clause-kept : goal.returns-then-level-len-clause-kept
returns-then-level-len-clause-kept c = back_kept c.args.self.now _ c.args.level c.requires.kept (is_back c)

pub returns-then-level-len-clause-state : goal.returns-then-level-len-clause-state
returns-then-level-len-clause-state c = state_back c.args.self.now _ c.args.level c.requires.kept (is_back c)

pub returns-else-level-len-clause-state : goal.returns-else-level-len-clause-state
returns-else-level-len-clause-state c = let t = c.args.self.now in let n = t.starts.ok.0 in let le = c.if-level-len.false in let top = c.requires.level in
    back_same _ c.args.level c.requires.kept.trail (omega arith)
