-- Inner: threads of which some are left out.
use Rattle.std.specs.Prelude.{ℕ, Bool, true, false, List, [], ◌∷◌}

-- the threads at the places that are kept; those behind the last place that is told are kept too
abbrev pub kept : List Bool → List ℕ → List ℕ
kept [] threads = threads
kept (keeps ∷ places) [] = []
kept (true ∷ places) (thread ∷ threads) = thread ∷ kept places threads
kept (false ∷ places) (thread ∷ threads) = kept places threads
