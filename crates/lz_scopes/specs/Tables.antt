-- Inner: when the tables of objects and of functions before a place follow the lists that they stand for.
use Rattle.std.specs.Prelude.{◌≡◌, ℕ, ◌+◌, ◌==◌, List, [], ◌∷◌, ◌++◌, Option, Some, None, if◌then◌else◌, nat_eq}
use Rattle.std.specs.List.{list_any}
use Rattle.indexmap.specs.IndexMap.{IndexMap, get}
use Rattle.indexmap.specs.IndexSet.{IndexSet, contains}
use Rattle.lz_scopes.specs.declared.names.Entry.{Entry}
use Rattle.lz_scopes.specs.Names.{or}

-- the place of the last object of a name, counted from a start
abbrev pub place_from : ℕ → List Entry → ℕ → Option ℕ
place_from start [] name = None
place_from start (e ∷ rest) name = or (place_from (start + 1) rest name) (if name == e.name then Some start else None)

abbrev pub flat : Option (Option ℕ) → Option ℕ
flat None = None
flat (Some x) = x

-- for each object the place of the one that it hides
abbrev pub hidden : List Entry → List Entry → List (Option ℕ)
hidden before [] = []
hidden before (e ∷ rest) = place_from 0 before e.name ∷ hidden (before ++ e ∷ []) rest

-- The table of places has the nearest of each name, and the other one what each hides.
pub record IsTable {S : Type 0} (entries : List Entry) (hides : List (Option ℕ)) (places : IndexMap ℕ (Option ℕ) S) : Type 0 where
  pub nearest_ones : (name : ℕ) → flat (get nat_eq places name) ≡ place_from 0 entries name
  pub hidden_ones : hides ≡ hidden [] entries

-- The set has the names of the list.
pub record IsAmong {S : Type 0} (names : List ℕ) (among : IndexSet ℕ S) : Type 0 where
  pub same : (name : ℕ) → contains nat_eq among name ≡ list_any (λ f. f == name) names
