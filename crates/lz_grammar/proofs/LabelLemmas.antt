-- An object that is no element, as an expression.
use Rattle.std.proofs.Common.{◌≡◌, ℕ, Option, Some, None, refl, Global}
use Rattle.std.specs.Prelude.{Box}
use Rattle.lz_tree.specs.declared.expression.Expr.{Expr, Object}
use Rattle.lz_tree.specs.Trees.{expression, object, whole}

-- an object without an index is its name
pub object_whole : (line name : ℕ) (i : Option (Box Expr Global)) → i ≡ None → expression (Object (record { line = line; name = name; index = i })) ≡ object line name whole
object_whole line name None h = refl
object_whole line name (Some b) h = absurd cc
