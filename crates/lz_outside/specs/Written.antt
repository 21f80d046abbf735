-- Trusted: what a sink has gained, where it tells what was written to it.
use Rattle.std.specs.Prelude.{◌≡◌, ℕ, ◌≤◌, List, ◌++◌, length, take, Option, Some, None, ⊤}

-- where the sink told what was written, it tells these bytes more at the end; where it told nothing, it tells nothing
-- afterwards either
abbrev pub Gains : Option (List ℕ) → Option (List ℕ) → List ℕ → Type 0
Gains None after bytes = after ≡ None
Gains (Some before) after bytes = after ≡ Some (before ++ bytes)

-- the sink has gained some front of these bytes
abbrev pub GainsPrefix : Option (List ℕ) → Option (List ℕ) → List ℕ → Type 0
GainsPrefix before after bytes = (k : ℕ) × (k ≤ length bytes) × Gains before after (take k bytes)
