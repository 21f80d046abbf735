-- Trusted: whether a program is decided at all: it breaks no rule, and its slots and its cost are within the limits.
use Rattle.std.specs.Prelude.{◌≡◌, ℕ, ◌<◌, ◌≤◌, List, [], ◌∷◌}
use Rattle.lz_tree.specs.Trees.{TranslationUnit}
use Rattle.lz_scopes.specs.declared.fault.Fault.{Fault}
use Rattle.lz_resolve.specs.ScopedPrograms.{scoped_of}
use Rattle.lz_types.specs.Checking.{AreFaults, number_of}
use Rattle.lz_slots.specs.Nesting.{saturated}
use Rattle.lz_slots.specs.Slots.{slots}
use Rattle.lz_slots.specs.Costs.{cost}
use Rattle.lz_cli.specs.Limits.{Bounds, slot_limit, cost_limit}
use Rattle.lz_cli.specs.Source.{HasTree}

-- The bytes have a tree that breaks a rule; the first in the list of those that it breaks has this number, on this line.
pub record IsFaulty (bytes : List ℕ) (line rule : ℕ) : Type 0 where
  pub tree : TranslationUnit
  pub of : HasTree bytes tree
  pub first : Fault
  pub rest : List Fault
  pub faults : AreFaults tree (first ∷ rest)
  pub told_line : line ≡ first.line
  pub told_rule : rule ≡ number_of first.rule

-- the bytes have this tree, and it breaks no rule
pub record IsAccepted (bytes : List ℕ) (tree : TranslationUnit) : Type 0 where
  pub of : HasTree bytes tree
  pub faultless : AreFaults tree []

-- The bytes have a tree that breaks no rule, and whose slots within the bounds are more than the limit; so many, or
-- the greatest number of 64 bits where there are more.
pub record HasManySlots (bounds : Bounds) (bytes : List ℕ) (told : ℕ) : Type 0 where
  pub tree : TranslationUnit
  pub accepted : IsAccepted bytes tree
  pub over : slot_limit < slots (scoped_of tree) bounds.unwind
  pub told_slots : told ≡ saturated (slots (scoped_of tree) bounds.unwind)

-- The bytes have a tree that breaks no rule and whose slots are within the limit, but which costs more than the limit;
-- so much, or the greatest number of 64 bits where it is more.
pub record HasHighCost (bounds : Bounds) (bytes : List ℕ) (told : ℕ) : Type 0 where
  pub tree : TranslationUnit
  pub accepted : IsAccepted bytes tree
  pub few_slots : slots (scoped_of tree) bounds.unwind ≤ slot_limit
  pub over : cost_limit < cost (scoped_of tree) bounds.unwind bounds.rounds
  pub told_cost : told ≡ saturated (cost (scoped_of tree) bounds.unwind bounds.rounds)

-- the bytes have a tree that breaks no rule, and whose slots and cost are within the limits
pub record IsAdmitted (bounds : Bounds) (bytes : List ℕ) : Type 0 where
  pub tree : TranslationUnit
  pub accepted : IsAccepted bytes tree
  pub few_slots : slots (scoped_of tree) bounds.unwind ≤ slot_limit
  pub low_cost : cost (scoped_of tree) bounds.unwind bounds.rounds ≤ cost_limit
