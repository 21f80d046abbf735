-- Trusted: what is known of a whole file while it is walked.
use Rattle.std.specs.Prelude.{ℕ, ◌+◌, ◌==◌, Bool, false, List, [], ◌∷◌, map, codes, bytes_eq, Option, Some, None, if◌then◌else◌, slice_get}
use Rattle.std.specs.List.{list_any}
use Rattle.lz_tree.specs.declared.expression.TypeName.{TypeName}
use Rattle.lz_tree.specs.declared.scoped.KnownName.{KnownName}
use Rattle.lz_tree.specs.Trees.{TranslationUnit}
use Rattle.lz_scopes.specs.declared.signature.Signature.{Signature}
use Rattle.lz_scopes.specs.KnownNames.{known}
use Rattle.lz_scopes.specs.Scopes.{signatures}

-- What is known of the whole file before it is walked: what its names mean by themselves, by their numbers, the number
-- of the name `main`, its functions, and of each of these by its number which of those that it calls come back to it,
-- whether a start routine can reach it or it is one, and whether its body is too high.
pub record File : Type 0 where
  pub known : List (Option KnownName)
  pub main : Option ℕ
  pub functions : List Signature
  pub returning : List (List ℕ)
  pub reached : List Bool
  pub high : List Bool

-- the number of the first function of a name, from a number on
abbrev pub function_from : ℕ → List Signature → ℕ → Option ℕ
function_from n [] name = None
function_from n (f ∷ rest) name = if f.name == name then Some n else function_from (n + 1) rest name

-- the number of the function of a name: where a file defines two, the first one
abbrev pub function_named : List Signature → ℕ → Option ℕ
function_named functions name = function_from 0 functions name

-- the types of the parameters of a function
abbrev pub params_of : Option Signature → List TypeName
params_of None = []
params_of (Some f) = f.params

-- ---- tables

-- what a table has at a number, where its rows may have nothing
abbrev pub flat : {A : Type 0} → Option (Option A) → Option A
flat None = None
flat (Some x) = x

abbrev pub or_false : Option Bool → Bool
or_false None = false
or_false (Some b) = b

abbrev pub is_number : Option ℕ → ℕ → Bool
is_number None n = false
is_number (Some m) n = n == m

abbrev pub row_has : Option (List ℕ) → ℕ → Bool
row_has None n = false
row_has (Some row) n = list_any (λ m. m == n) row

-- what a name is as a known one
abbrev pub known_at : File → ℕ → Option KnownName
known_at file name = flat (slice_get file.known name)

-- it is the name `main`
abbrev pub is_main : File → ℕ → Bool
is_main file name = is_number file.main name

-- the second of two functions, which the first calls, comes back to it
abbrev pub returns_to : File → ℕ → ℕ → Bool
returns_to file f g = row_has (slice_get file.returning f) g

-- a start routine can reach the function, or it is one
abbrev pub is_reached : File → ℕ → Bool
is_reached file f = or_false (slice_get file.reached f)

-- its body is too high
abbrev pub is_high : File → ℕ → Bool
is_high file f = or_false (slice_get file.high f)

-- ---- the file of a program

-- the number of the first name of these bytes, from a number on
abbrev pub name_from : ℕ → List (List ℕ) → List ℕ → Option ℕ
name_from n [] bytes = None
name_from n (name ∷ rest) bytes = if bytes_eq name bytes then Some n else name_from (n + 1) rest bytes

-- What is to be found out about the functions of a file, by their numbers: which of those that one calls come back to
-- it; whether a start routine can reach one, or it is one; and whether its body is too high.
pub record Facts : Type 0 where
  pub returning : List (List ℕ)
  pub reached : List Bool
  pub high : List Bool

-- a file with what is known of it
unfoldable pub file_with : TranslationUnit → Facts → File
file_with unit facts = record {
  known = map known unit.names;
  main = name_from 0 unit.names (codes "main");
  functions = signatures unit.externals;
  returning = facts.returning;
  reached = facts.reached;
  high = facts.high;
}

-- as of a file in which no function reaches another
abbrev pub no_facts : Facts
no_facts = record { returning = []; reached = []; high = [] }

-- a file in which no rule is considered that takes the whole of it
abbrev pub bare : TranslationUnit → File
bare unit = file_with unit no_facts

-- the first function that is called `main`
abbrev pub main_from : File → ℕ → List Signature → Option ℕ
main_from file n [] = None
main_from file n (f ∷ rest) = if is_main file f.name then Some n else main_from file (n + 1) rest
