-- Inner: a tree whose sequences are rows: no sequence stands right in a sequence.
use Rattle.std.specs.Prelude.{List, [], ◌∷◌, ◌++◌}
use Rattle.lz_bound.specs.BoundedTrees.{BoundedStatement, evals, fresh, clear, nothing, seq, when, frame, leave, exit, stuck, inside, bounded_statements_of}

-- the statements that a tree does one after the other
abbrev pub parts_of : BoundedStatement → List BoundedStatement
parts_of (evals e to) = evals e to ∷ []
parts_of (fresh object) = fresh object ∷ []
parts_of (clear object) = clear object ∷ []
parts_of nothing = []
parts_of (seq first rest) = parts_of first ++ parts_of rest
parts_of (when test one two) = when test (bounded_statements_of (parts_of one)) (bounded_statements_of (parts_of two)) ∷ []
parts_of (frame number body) = frame number (bounded_statements_of (parts_of body)) ∷ []
parts_of (leave number) = leave number ∷ []
parts_of (exit whole) = exit whole ∷ []
parts_of stuck = stuck ∷ []
parts_of (inside line index len) = inside line index len ∷ []

-- the tree in rows
abbrev pub in_rows : BoundedStatement → BoundedStatement
in_rows tree = bounded_statements_of (parts_of tree)
