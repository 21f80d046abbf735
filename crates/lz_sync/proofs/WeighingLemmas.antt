-- The weight of a group.
use Rattle.std.proofs.Common.{◌≡◌, ℕ, zero, suc, ◌+◌, ◌*◌, Bool, true, false, cond, eqb, refl, ◌∙◌, ap, arith}
use Rattle.lz_base.specs.declared.operator.Binary.TheVariants.{Add, Eq}
use Rattle.lz_base.specs.declared.word.IntType.TheVariants.{Unsigned}
use Rattle.lz_flat.specs.Programs.{Expression, constant, word, element, binary, Location, sets}
use Rattle.lz_flat.specs.Weight.{constant_number, word_number, element_number, binary_number, fixed_number, expression_weight, location_number, location_weight, instruction_number, parts_weight}
use Rattle.lz_sync.specs.declared.layout.Layout.{Layout}
use Rattle.lz_sync.specs.Standing.{wait}
use Rattle.lz_sync.specs.Operations.{Operation, reads, writes, resets, locks, unlocks, parks, wakes, signals, broadcasts, creates, joins, holds_on, holds_off, ends}
use Rattle.lz_sync.specs.Groups.{fixed, role_at, spot_word, spot_at, spot_number, some_wait, chosen_wait, none_waits, group}
use Rattle.lz_sync.specs.Weights.{instructions_weight, spot_weight, place_weight, number_weight, fixed_weight, chosen_weight, some_wait_weight, group_weight}

-- the parts
word_weighs : (from : ℕ) (spot : Location) → expression_weight (spot_word from spot) ≡ spot_weight spot
word_weighs from spot = by (eqb spot.len 1)
  where
    by : (b : Bool) → expression_weight (cond b (word (from + spot.first)) (element (from + spot.first) spot.len spot.index)) ≡ cond b word_number (element_number spot.len + expression_weight spot.index)
    by true = refl
    by false = refl

at_weighs : (from : ℕ) (spot : Location) → location_weight (spot_at from spot) ≡ place_weight spot
at_weighs from spot = by (eqb spot.len 1)
  where
    by : (b : Bool) → location_weight (cond b (fixed (from + spot.first)) (record { first = from + spot.first; len = spot.len; index = spot.index })) ≡ cond b (fixed_number + constant_number) (location_number spot.len spot.index + expression_weight spot.index)
    by true = refl
    by false = refl

number_weighs : (spot : Location) → expression_weight (spot_number spot) ≡ number_weight spot
number_weighs spot = by (eqb spot.len 1)
  where
    by : (b : Bool) → expression_weight (cond b (constant (suc spot.first)) (binary Add Unsigned spot.index (constant (suc spot.first)))) ≡ cond b constant_number (binary_number Add + expression_weight spot.index + constant_number)
    by true = refl
    by false = refl

some_weighs : (layout : Layout) (c : Expression) (slots : ℕ) → expression_weight (some_wait layout c slots) ≡ some_wait_weight (expression_weight c) slots
some_weighs layout c zero = refl
some_weighs layout c (suc zero) = refl
some_weighs layout c (suc (suc slots)) = rw (some_weighs layout c (suc slots)) refl

none_weigh : (layout : Layout) (c : Expression) (slot more : ℕ) → instructions_weight (none_waits layout c slot more) ≡ more * fixed_weight (chosen_weight (binary_number Eq + word_number + expression_weight c))
none_weigh layout c slot zero = omega arith
none_weigh layout c slot (suc more) = ap (λ (n : ℕ). n + instructions_weight (none_waits layout c (suc slot) more)) same ∙ ap (λ (n : ℕ). each + n) (none_weigh layout c (suc slot) more) ∙ one each
  where
    each : ℕ
    each = fixed_weight (chosen_weight (binary_number Eq + word_number + expression_weight c))

    same : instruction_number (sets (role_at layout (wait slot)) (chosen_wait layout c slot)) + parts_weight (sets (role_at layout (wait slot)) (chosen_wait layout c slot)) ≡ each
    same = omega arith

    one : (x : ℕ) → x + more * x ≡ suc more * x
    one x = omega arith

-- the weight of the group of every operation
pub group_weighs : (layout : Layout) (t : ℕ) (op : Operation) → instructions_weight (group layout t op) ≡ group_weight layout op
group_weighs layout t (reads from to) = rw (word_weighs 0 from) (omega arith)
group_weighs layout t (writes to of) = rw (at_weighs 0 to) (omega arith)
group_weighs layout t (resets m) = rw (at_weighs layout.cells m) (omega arith)
group_weighs layout t (locks m) = rw (word_weighs layout.cells m, at_weighs layout.cells m) (omega arith)
group_weighs layout t (unlocks m) = rw (word_weighs layout.cells m, at_weighs layout.cells m) (omega arith)
group_weighs layout t (parks c m) = rw (word_weighs layout.cells m, at_weighs layout.cells m, number_weighs c) (omega arith)
group_weighs layout t (wakes c m) = rw (word_weighs layout.cells m, at_weighs layout.cells m) (omega arith)
group_weighs layout t (signals c w) = rw (some_weighs layout (spot_number c) layout.threads, number_weighs c) (omega arith)
group_weighs layout t (broadcasts c) = rw (none_weigh layout (spot_number c) 0 layout.threads, number_weighs c) (omega arith)
group_weighs layout t (creates slot start argument) = refl
group_weighs layout t (joins slot) = omega arith
group_weighs layout t holds_on = refl
group_weighs layout t holds_off = refl
group_weighs layout t (ends false) = refl
group_weighs layout t (ends true) = refl
