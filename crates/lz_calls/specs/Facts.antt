-- Inner: what the code's facts say, and where there is an order of the functions.
use Rattle.std.specs.Prelude.{◌≡◌, ℕ, ◌<◌, List, length, map, Option, Some, None, Vec}
use Rattle.std.specs.declared.alloc.Global.{Global}
use Rattle.lz_tree.specs.ScopedTrees.{ScopedDefinition}
use Rattle.lz_tree.specs.Calls.{IsCallOrder}
use Rattle.lz_scopes.specs.Files.{Facts}
use Rattle.lz_calls.specs.declared.finding.CallFacts.{CallFacts}
use Rattle.lz_calls.specs.Calls.{IsStart, Calls, Reaches, graph_of}
use Rattle.lz_calls.specs.Reaching.{Among}

-- what the code's facts say
abbrev pub facts_of : CallFacts → Facts
facts_of found = record {
  returning = map (λ row. row.items) found.returning.items;
  reached = found.reached.items;
  high = found.high.items;
}

-- The start routines of the functions below a number.
pub record AreStarts (functions : List ScopedDefinition) (count : ℕ) (starts : List ℕ) : Type 0 where
  pub sound : (s : ℕ) → Among starts s → IsStart functions s
  pub complete : (s : ℕ) → s < count → IsStart functions s → Among starts s

-- Each call leads to a function of the file, and none comes back.
pub record IsRecursionFree (functions : List ScopedDefinition) : Type 0 where
  pub within : (f g : ℕ) → Calls (graph_of functions) f g → g < length functions
  pub forward : (f g : ℕ) → Calls (graph_of functions) f g → Reaches (graph_of functions) g f → ⊥

-- An order is given where one can be.
abbrev pub IsOrderOf : List ScopedDefinition → Option (Vec ℕ Global) → Type 0
IsOrderOf functions None = IsRecursionFree functions → ⊥
IsOrderOf functions (Some order) = IsCallOrder functions order.items
