-- Trusted: which functions bodies call, what is reached through calls, how high bodies are with those that they call, and the facts of each function (C99 6.5.2.2).
-- A body calls a function by the text, whatever its tests say; calls reach what any number of them leads to; a body is as high as
-- it is with the functions that it calls and that do not come back to it; the rules on the whole file look up the facts.
use Rattle.std.specs.Prelude.{◌≡◌, ℕ, zero, suc, ◌+◌, ◌<◌, ◌==◌, max, nat_lt, Bool, true, false, not, IsTrue, ◌↔◌, ◌&&◌, ◌||◌, List, [], ◌∷◌, ◌++◌, map, length, Option, Some, None, if◌then◌else◌, slice_get, Result, Ok, Err}
use Rattle.std.specs.List.{Contains, filter}
use Rattle.lz_tree.specs.declared.scoped.Object.{Object}
use Rattle.lz_tree.specs.declared.scoped.Object.TheVariants.{Local, Cell, Mutex, Cond, Handle, Routine, Known}
use Rattle.lz_tree.specs.Calls.{statement_calls}
use Rattle.lz_tree.specs.ScopedTrees.{ScopedExpression, constant, null, text, object, address, paren, unary, cast, binary, choose, assign, step, call, Lvalue, lvalue, ScopedIndex, whole, element, ScopedExpressions, none, and, ScopedInitializer, nothing, single, listed, ScopedInitDeclarator, ScopedDeclaration, ScopedStatement, empty, eval, block, declare, when, while, do_while, for, break, continue, return, label, ScopedBranch, absent, branch, ScopedStatements, nil, cons, ScopedDefinition, ScopedProgram}
use Rattle.lz_scopes.specs.Files.{Facts, or_false, row_has}

-- ---- calls

-- for each function those that are called anywhere in its body
abbrev pub graph_of : List ScopedDefinition → List (List ℕ)
graph_of functions = map (λ f. statement_calls f.body) functions

-- ---- what is reached

abbrev pub row : Option (List ℕ) → List ℕ
row None = []
row (Some called) = called

-- the body of a function has a call of another
abbrev pub Calls : List (List ℕ) → ℕ → ℕ → Type 0
Calls graph f g = Contains (row (slice_get graph f)) g

-- from a function so many calls, each in the body of the function that the one before leads to, lead to another
abbrev pub Path : List (List ℕ) → ℕ → ℕ → ℕ → Type 0
Path graph f g zero = f ≡ g
Path graph f g (suc n) = (via : ℕ) × Path graph f via n × Calls graph via g

-- some number of such calls leads from a function to another; none leads to itself
abbrev pub Reaches : List (List ℕ) → ℕ → ℕ → Type 0
Reaches graph f g = (n : ℕ) × Path graph f g n

-- the function has the form of a start routine
abbrev pub IsStart : List ScopedDefinition → ℕ → Type 0
IsStart functions f = (d : ScopedDefinition) × (slice_get functions f ≡ Some d) × (d.start ≡ true)

-- ---- heights

module _ (counts : ℕ → ℕ) where
  -- what the body of a called function counts as
  abbrev pub height_called : Object → ℕ
  height_called (Routine n) = counts n
  height_called _ = 0

  unfoldable mutual
    -- the height of an expression, where the body of a called function is one more part of the call
    pub height_in : ScopedExpression → ℕ
    height_in (constant line value form kind) = 1
    height_in (null line kind) = 1
    height_in (text line kind) = 1
    height_in (object of kind) = suc (height_at of)
    height_in (address line of kind) = suc (height_at of)
    height_in (paren line inner kind) = suc (height_in inner)
    height_in (unary line op of kind) = suc (height_in of)
    height_in (cast line to of kind) = suc (height_in of)
    height_in (binary line op left right kind) = suc (max (height_in left) (height_in right))
    height_in (choose line test first second kind) = suc (max (height_in test) (max (height_in first) (height_in second)))
    height_in (assign line op to value kind) = suc (max (height_at to) (height_in value))
    height_in (step line of up before kind) = suc (height_at of)
    height_in (call line callee args kind) = suc (max (height_in_all args) (height_called callee))

    pub height_at : Lvalue → ℕ
    height_at (lvalue line meant index checked) = height_in_index index

    pub height_in_index : ScopedIndex → ℕ
    height_in_index whole = 0
    height_in_index (element e) = height_in e

    pub height_in_all : ScopedExpressions → ℕ
    height_in_all none = 0
    height_in_all (and e rest) = max (height_in e) (height_in_all rest)

  abbrev pub height_in_optional : Option ScopedExpression → ℕ
  height_in_optional None = 0
  height_in_optional (Some e) = height_in e

  -- a list of initializers is a node over its values
  abbrev pub height_in_initializer : ScopedInitializer → ℕ
  height_in_initializer nothing = 0
  height_in_initializer (single e) = height_in e
  height_in_initializer (listed values) = suc (height_in_all values)

  -- a declarator is a part of its declaration, and so is its declaration of the statement
  abbrev pub height_in_declarators : List ScopedInitDeclarator → ℕ
  height_in_declarators [] = 0
  height_in_declarators (d ∷ rest) =
      max (max (height_in_optional d.length) (height_in_initializer d.first)) (height_in_declarators rest)

  unfoldable mutual
    -- the height of a statement likewise
    pub height_of : ScopedStatement → ℕ
    height_of empty = 1
    height_of (eval value) = suc (height_in value)
    height_of (block parts) = suc (height_of_all parts)
    height_of (declare of) = suc (height_in_declarators of.declarators)
    height_of (when line test first second) = suc (max (height_in test) (max (height_of first) (height_of_branch second)))
    height_of (while line test body) = suc (max (height_in test) (height_of body))
    height_of (do_while line body test) = suc (max (height_of body) (height_in test))
    height_of (for line first test change body) =
        suc (max (height_of first) (max (height_in_optional test) (max (height_in_optional change) (height_of body))))
    height_of (break line) = 1
    height_of (continue line) = 1
    height_of (return line value) = suc (height_in_optional value)
    height_of (label name of) = suc (height_of of)

    pub height_of_branch : ScopedBranch → ℕ
    height_of_branch absent = 0
    height_of_branch (branch of) = height_of of

    pub height_of_all : ScopedStatements → ℕ
    height_of_all nil = 0
    height_of_all (cons s rest) = max (height_of s) (height_of_all rest)

-- the greatest height of a function's body
abbrev pub body_height_limit : ℕ
body_height_limit = 1000

-- What a call of the second of two functions in the first one counts: the height of its body, but nothing where it
-- comes back to its caller.
abbrev pub counted_height : List (List ℕ) → (ℕ → ℕ) → ℕ → ℕ → ℕ
counted_height returning heights f g = if row_has (slice_get returning f) g then 0 else heights g

-- the heights of the functions' bodies: each is that of its body with those that it calls
abbrev pub AreHeights : List ScopedDefinition → List (List ℕ) → (ℕ → ℕ) → Type 0
AreHeights functions returning heights =
    (f : ℕ) → (d : ScopedDefinition) → slice_get functions f ≡ Some d
    → heights f ≡ height_of (counted_height returning heights f) d.body

-- ---- facts and faults

-- The facts are those of the functions, and of each function by its number. There are no others of the same functions.
pub record AreFacts (functions : List ScopedDefinition) (facts : Facts) : Type 0 where
  -- a function that another calls comes back to it
  pub returning : (f g : ℕ) → Calls (graph_of functions) f g
      → IsTrue (row_has (slice_get facts.returning f) g) ↔ Reaches (graph_of functions) g f
  -- a row has no other members, and has them in the order of the calls
  pub rows : (f : ℕ) → f < length functions
      → slice_get facts.returning f
      ≡ Some (filter (λ g. row_has (slice_get facts.returning f) g) (row (slice_get (graph_of functions) f)))
  -- it is reached from a start routine, or is one
  pub reached : (f : ℕ) → f < length functions
      → IsTrue (or_false (slice_get facts.reached f)) ↔ ((s : ℕ) × IsStart functions s × Reaches (graph_of functions) s f)
  -- its body is too high
  pub heights : ℕ → ℕ
  pub measured : AreHeights functions facts.returning heights
  pub high : (f : ℕ) → f < length functions → or_false (slice_get facts.high f) ≡ nat_lt body_height_limit (heights f)
  -- a call of a number that no function has counts nothing
  pub missing : (f : ℕ) → slice_get functions f ≡ None → heights f ≡ 0
  -- nothing is said of a number that no function has
  pub all_rows : length facts.returning ≡ length functions
  pub all_reached : length facts.reached ≡ length functions
  pub all_high : length facts.high ≡ length functions
