-- Rules at a line, one after the other, and the faults of arguments from a place on.
use Rattle.std.proofs.Common.{◌≡◌, ℕ, ◌+◌, ◌<◌, ◌≤◌, List, [], ◌∷◌, ◌++◌, length, drop, get_or, Option, refl, sym, ap, ◌∙◌, append_assoc, append-nil}
use Rattle.lz_tree.specs.declared.expression.Expr.{Expr}
use Rattle.lz_tree.specs.declared.scoped.Object.{Object}
use Rattle.lz_tree.specs.Trees.{Expression, Expressions, call, expression}
use Rattle.lz_scopes.specs.declared.fault.Fault.{Fault}
use Rattle.lz_scopes.specs.declared.fault.Rule.{Rule}
use Rattle.lz_scopes.specs.declared.place.Place.{Place}
use Rattle.lz_scopes.specs.declared.value_types.Want.{Want}
use Rattle.lz_scopes.specs.Files.{File}
use Rattle.lz_scopes.specs.ExpressionTypes.{first_want, callee, wants_of, further_want}
use Rattle.lz_types.specs.Faults.{at, node, faults, all_faults}
use Rattle.lz_scopes.proofs.ArgumentsLemmas.{rest_drop, left_at, next, none_left}

pub at_append : (line : ℕ) (a b : List Rule) → at line (a ++ b) ≡ at line a ++ at line b
at_append line [] b = refl
at_append line (r ∷ a) b = ap (λ (l : List Fault). record { line = line; rule = r } ∷ l) (at_append line a b)

module _ (file : File) (place : Place) (ws : List Want) (further : Want) where
  -- the faults of the arguments from a place on
  abbrev pub faults_from : List Expr → ℕ → List Fault
  faults_from es i = all_faults file place (drop i ws) further (left_at es i)

  pub faults_more : (all noted now : List Fault) (es : List Expr) (i : ℕ) (e : Expr) → all ≡ noted ++ faults_from es i → i < length es → e ≡ get_or es i e
      → now ≡ noted ++ faults file place (first_want (drop i ws) further) (expression e) → all ≡ now ++ faults_from es (i + 1)
  unfolding faults
  faults_more all noted now es i e so_far below is made =
      so_far ∙ rw (
        next es i e below is,
        rest_drop ws i,
        made,
        append_assoc noted (faults file place (first_want (drop i ws) further) (expression e)) (faults_from es (i + 1)),
      ) refl

  pub faults_done : (all noted : List Fault) (es : List Expr) (i : ℕ) → all ≡ noted ++ faults_from es i → length es ≤ i → noted ≡ all
  unfolding faults
  faults_done all noted es i so_far over = sym (so_far ∙ rw (none_left es i over) (append-nil noted))

-- the faults of a call: those of its node, and those of its arguments
pub call_faults : (file : File) (place : Place) (want : Want) (e : Expression) (line name : ℕ) (args : Expressions) (meant : Option Object) (old noted new : List Fault)
    → e ≡ call line name args → meant ≡ callee file place name → noted ≡ old ++ node file place want e
    → new ≡ noted ++ all_faults file place (wants_of file meant) (further_want meant) args → new ≡ old ++ faults file place want e
unfolding faults
call_faults file place want e line name args meant old noted new is means own all =
    rw (
      all,
      own,
      is,
      means,
      append_assoc old (node file place want (call line name args))
          (all_faults file place (wants_of file (callee file place name)) (further_want (callee file place name)) args),
    ) refl
