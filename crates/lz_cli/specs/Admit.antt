-- Inner: why the bytes of a file are not admitted, as code tells it, and what it keeps of a program that is.
use Rattle.std.specs.Prelude.{◌≡◌, ℕ, ◌<◌, ◌≤◌, List, ⊤}
use Rattle.lz_tree.specs.Trees.{TranslationUnit}
use Rattle.lz_tree.specs.ScopedTrees.{ScopedProgram}
use Rattle.lz_tree.specs.Calls.{IsCallOrder}
use Rattle.lz_resolve.specs.ScopedPrograms.{scoped_of}
use Rattle.lz_slots.specs.Nesting.{saturated}
use Rattle.lz_slots.specs.Slots.{slots}
use Rattle.lz_slots.specs.Costs.{cost}
use Rattle.lz_cli.specs.declared.admit.Refusal.{Refusal}
use Rattle.lz_cli.specs.declared.admit.Refusal.TheVariants as refusals
use Rattle.lz_cli.specs.Limits.{Bounds, slot_limit, cost_limit}
use Rattle.lz_cli.specs.Source.{HasNoTokens, HasNoTree}
use Rattle.lz_cli.specs.Admission.{IsFaulty, IsAccepted, HasManySlots, HasHighCost}

-- the refusal says why the bytes have no program that is admitted
abbrev pub IsRefusedBy : Bounds → List ℕ → Refusal → Type 0
IsRefusedBy bounds bytes (refusals.NotAToken line place) = HasNoTokens bytes line place
IsRefusedBy bounds bytes (refusals.NotAProgram line token) = HasNoTree bytes line token
IsRefusedBy bounds bytes (refusals.Faulty line rule) = IsFaulty bytes line rule
IsRefusedBy bounds bytes (refusals.ManySlots told) = HasManySlots bounds bytes told
IsRefusedBy bounds bytes (refusals.HighCost told) = HasHighCost bounds bytes told
IsRefusedBy bounds bytes refusals.OutOfMemory = ⊤

-- the refusal says which limit the program is over
abbrev pub IsOver : ScopedProgram → ℕ → ℕ → Refusal → Type 0
IsOver p turns rounds (refusals.ManySlots told) = (slot_limit < slots p turns) × (told ≡ saturated (slots p turns))
IsOver p turns rounds (refusals.HighCost told) =
    (slots p turns ≤ slot_limit) × (cost_limit < cost p turns rounds) × (told ≡ saturated (cost p turns rounds))
IsOver p turns rounds (refusals.NotAToken line place) = ⊥
IsOver p turns rounds (refusals.NotAProgram line token) = ⊥
IsOver p turns rounds (refusals.Faulty line rule) = ⊥
IsOver p turns rounds refusals.OutOfMemory = ⊤

-- the program is within both limits
pub record IsWithin (p : ScopedProgram) (turns rounds : ℕ) : Type 0 where
  pub few_slots : slots p turns ≤ slot_limit
  pub low_cost : cost p turns rounds ≤ cost_limit

-- the bytes are those of this tree, which is admitted; its scoped program, with an order of its calls
pub record Admits (turns rounds : ℕ) (bytes : List ℕ) (tree : TranslationUnit) (p : ScopedProgram) (order : List ℕ) : Type 0 where
  pub accepted : IsAccepted bytes tree
  pub limits : IsWithin p turns rounds
  pub meaning : p ≡ scoped_of tree
  pub ordered : IsCallOrder p.functions order
