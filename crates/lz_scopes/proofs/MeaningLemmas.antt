-- What is wanted of an argument, by its place.
use Rattle.std.proofs.Common.{◌≡◌, ℕ, zero, suc, List, [], ◌∷◌, ◌<◌, length, get_or, drop, map, refl, arith}
use Rattle.lz_tree.specs.declared.expression.TypeName.{TypeName}
use Rattle.lz_scopes.specs.declared.value_types.Want.{Want}
use Rattle.lz_scopes.specs.declared.value_types.Want.TheVariants as wants
use Rattle.lz_scopes.specs.ValueTypes.{value_type, want_of}
use Rattle.lz_scopes.specs.ExpressionTypes.{first_want}

abbrev want_for : TypeName → Want
want_for t = want_of (value_type t)

-- at a parameter: what its type wants
pub want_here : (params : List TypeName) (i : ℕ) (param : TypeName) → i < length params → param ≡ get_or params i param
    → want_of (value_type param) ≡ first_want (drop i (map (λ t. want_of (value_type t)) params)) wants.Any
want_here [] i param below is = absurd (omega arith)
want_here (p ∷ rest) zero param below is = rw is refl
want_here (p ∷ rest) (suc i) param below is = want_here rest i param (omega arith) is
