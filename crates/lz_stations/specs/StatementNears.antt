-- Inner: how many calls a statement makes from where it stands, at most, and what it comes to: each call brings it nearer to its end.
use Rattle.std.specs.Prelude.{ℕ, zero, suc, ◌+◌, ◌*◌, ◌<◌, List, [], ◌∷◌, Option, Some, None, ⊤}
use Rattle.std.specs.List.{Contains}
use Rattle.lz_tree.specs.Calls.{statement_calls}
use Rattle.lz_tree.specs.ScopedTrees.{ScopedExpression, ScopedExpressions, none, and, ScopedInitializer, nothing, single, listed, ScopedInitDeclarator, ScopedStatement, empty, eval, block, declare, when, while, do_while, for, break, continue, return, label, ScopedBranch, absent, branch, ScopedStatements, nil, cons}
use Rattle.lz_turns.specs.Sizes.{size}
use Rattle.lz_turns.specs.Nears.{IsPlain, most_calls, left_in, calls_left}
use Rattle.lz_stations.specs.Stations.{start, Footing, at_station, in_value, in_part, Pause, acts, reads, asks, signals, creates, calls_on, Reached, leads, pauses, fails, refuses, quits, stops}
use Rattle.lz_stations.specs.StationMoves.{value_at, part_at}
use Rattle.lz_stations.specs.StationRanks.{station_rank}

-- ---- the most calls

abbrev pub expression_most : ScopedExpression → ℕ
expression_most e = most_calls (size e)

abbrev pub expressions_most : ScopedExpressions → ℕ
expressions_most none = 0
expressions_most (and e rest) = expression_most e + expressions_most rest

abbrev pub optional_most : Option ScopedExpression → ℕ
optional_most None = 0
optional_most (Some e) = expression_most e

abbrev pub initializer_most : ScopedInitializer → ℕ
initializer_most nothing = 0
initializer_most (single e) = expression_most e
initializer_most (listed values) = expressions_most values

abbrev pub declared_most : List ScopedInitDeclarator → ℕ
declared_most [] = 0
declared_most (d ∷ rest) = initializer_most d.first + declared_most rest

-- that a statement makes whose parts make so many
abbrev pub most_with : ℕ → ScopedStatement → ℕ → ℕ
most_with n s inner = station_rank n s start * suc inner

abbrev mutual
  -- that the parts of a statement make, each once, where a loop has at most n turns
  pub inner_most : ℕ → ScopedStatement → ℕ
  inner_most n empty = 0
  inner_most n (eval value) = expression_most value
  inner_most n (block parts) = statements_most n parts
  inner_most n (declare of) = declared_most of.declarators
  inner_most n (when line test one two) = expression_most test + (most_with n one (inner_most n one) + branch_most n two)
  inner_most n (while line test body) = expression_most test + most_with n body (inner_most n body)
  inner_most n (do_while line body test) = expression_most test + most_with n body (inner_most n body)
  inner_most n (for line opens test change body) = most_with n opens (inner_most n opens) + (optional_most test + (optional_most change + most_with n body (inner_most n body)))
  inner_most n (break line) = 0
  inner_most n (continue line) = 0
  inner_most n (return line value) = optional_most value
  inner_most n (label name of) = most_with n of (inner_most n of)

  pub branch_most : ℕ → ScopedBranch → ℕ
  branch_most n absent = 0
  branch_most n (branch of) = most_with n of (inner_most n of)

  pub statements_most : ℕ → ScopedStatements → ℕ
  statements_most n nil = 0
  statements_most n (cons s rest) = most_with n s (inner_most n s) + statements_most n rest

abbrev pub statement_most : ℕ → ScopedStatement → ℕ
statement_most n s = most_with n s (inner_most n s)

-- what the statement within makes, where there is one
abbrev pub left_within : Option ScopedStatement → (ScopedStatement → ℕ) → ℕ
left_within None count = 0
left_within (Some part) count = count part

-- the most calls that a statement makes from where it stands
abbrev pub statement_left : ℕ → Footing → ScopedStatement → ℕ
statement_left n (at_station station) s = station_rank n s station * suc (inner_most n s)
statement_left n (in_value station inner) s = left_in (value_at s station) (calls_left inner) + station_rank n s station * suc (inner_most n s)
statement_left n (in_part station inner) s = left_within (part_at s station) (statement_left n inner) + station_rank n s station * suc (inner_most n s)

-- ---- what a statement comes to

abbrev pub PauseNears : ℕ → ScopedStatement → ℕ → Footing → Pause → Type 0
PauseNears n s left footing (acts action line) = IsPlain action
PauseNears n s left footing (reads cell line) = ⊤
PauseNears n s left footing (asks line kind) = ⊤
PauseNears n s left footing (signals cond line) = ⊤
PauseNears n s left footing (creates routine value line) = ⊤
PauseNears n s left footing (calls_on function kinds values) = Contains (statement_calls s) function × (statement_left n footing s < left)

-- What a statement comes to that had so many calls left: a plain action; or a call of one of its functions, behind which
-- fewer are left.
abbrev pub StatementNears : ℕ → ScopedStatement → ℕ → Reached → Type 0
StatementNears n s left (leads flow) = ⊤
StatementNears n s left (pauses pause footing) = PauseNears n s left footing pause
StatementNears n s left (fails kind line) = ⊤
StatementNears n s left (refuses line) = ⊤
StatementNears n s left quits = ⊤
StatementNears n s left stops = ⊤
