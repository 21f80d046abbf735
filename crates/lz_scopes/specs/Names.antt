-- Trusted: which object of a name is the nearest one.
use Rattle.std.specs.Prelude.{ℕ, ◌==◌, List, [], ◌∷◌, Option, Some, None, if◌then◌else◌}
use Rattle.lz_scopes.specs.declared.names.Entry.{Entry}

-- the first of two that is there
abbrev pub or : {A : Type 0} → Option A → Option A → Option A
or (Some x) y = Some x
or None y = y

-- the object of a name in the innermost scope that has one: the last one of the name
abbrev pub nearest : List Entry → ℕ → Option Entry
nearest [] name = None
nearest (e ∷ rest) name = or (nearest rest name) (if name == e.name then Some e else None)
