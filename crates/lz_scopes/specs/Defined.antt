-- Inner: when the table of a file's functions follows the list of them.
use Rattle.std.specs.Prelude.{◌≡◌, ℕ, List, nat_eq}
use Rattle.indexmap.specs.IndexMap.{IndexMap, get}
use Rattle.lz_scopes.specs.declared.signature.Signature.{Signature}
use Rattle.lz_scopes.specs.Files.{function_named}

-- The table has the first function of each name.
pub record HasDefined {S : Type 0} (functions : List Signature) (defined : IndexMap ℕ ℕ S) : Type 0 where
  pub same : (name : ℕ) → get nat_eq defined name ≡ function_named functions name
