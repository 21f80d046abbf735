use Rattle.std.proofs.Common.{◌≡◌, ℕ, ◌-◌, get_or, Some, None, sym, ◌∙◌, ap, arith}
use Rattle.lz_prop.specs.Trail.{Entry}
use Rattle.lz_analyze.proofs.WalkingLemmas.{variable_at, known_at, level_at, open_marked, not_marked}
use Rattle.lz_analyze.proofs.walk.Walk.is_open.Goals as goal

first : Entry
first = record { lit = record { 0 = 0 }; level = 0; reason = None }

pub is_at-requires : goal.is_at-requires
is_at-requires c =
    let s = c.args.trail.now in
    let k = c.args.self.now.at - 1 in
    let low = c.requires.low in
    let high = c.requires.high in
    known_at s k first (get_or c.order.result.now k (record { 0 = 0 })) c.requires.trail (omega arith) (variable_at s c.order.result.now k first (record { 0 = 0 }) c.order.ensures (omega arith))

pub returns-then-contains : goal.returns-then-contains
returns-then-contains c d =
    let s = c.args.trail.now in
    let k = c.args.self.now.at - 1 in
    let low = c.requires.low in
    let high = c.requires.high in
    let lit = get_or c.order.result.now k (record { 0 = 0 }) in
    let is : lit ≡ (get_or s.set k d).lit = variable_at s c.order.result.now k d (record { 0 = 0 }) c.order.ensures (omega arith) in
    let own = level_at s k d lit c.requires.trail (omega arith) is in
    open_marked c.args.level c.args.self.now.marks.keys (get_or s.set k d) lit c.is_at.result is (sym c.contains.ensures ∙ c.if-contains.true)
    (λ yes_. let told = c.is_at.ensures.0 yes_ in cc)
    (λ same. c.is_at.ensures.1 (own ∙ ap (λ (n : ℕ). Some n) same))

pub returns-else-contains : goal.returns-else-contains
returns-else-contains c d =
    let s = c.args.trail.now in
    let k = c.args.self.now.at - 1 in
    let low = c.requires.low in
    let high = c.requires.high in
    let lit = get_or c.order.result.now k (record { 0 = 0 }) in
    let is : lit ≡ (get_or s.set k d).lit = variable_at s c.order.result.now k d (record { 0 = 0 }) c.order.ensures (omega arith) in
    not_marked c.args.level c.args.self.now.marks.keys (get_or s.set k d) lit c.contains.result is c.if-contains.false c.contains.ensures
