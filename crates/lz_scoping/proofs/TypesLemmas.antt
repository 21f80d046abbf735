-- Types by what their places want, kinds of values, and tests that break no rule.
use Rattle.std.proofs.Common.{◌≡◌, ℕ, ◌<◌, ◌==◌, nat_le, Bool, true, false, not, ◌&&◌, ◌||◌, List, [], ◌∷◌, Option, Some, inl, inr, refl, sym, ap, ◌∙◌, if◌then◌else◌}
use Rattle.std.proofs.lemmas.Bool.{cases_lt, le-leb, or_parts, both_ways}
use Rattle.lz_base.specs.Words.{value_bound}
use Rattle.lz_base.specs.declared.word.IntType.{IntType}
use Rattle.lz_base.specs.declared.word.IntType.TheVariants.{Int, Unsigned}
use Rattle.lz_base.specs.declared.operator.Unary.{Unary}
use Rattle.lz_base.specs.declared.operator.Unary.TheVariants as unaries
use Rattle.lz_base.specs.declared.operator.Binary.{Binary}
use Rattle.lz_base.specs.declared.operator.Binary.TheVariants as ops
use Rattle.lz_tree.specs.declared.token.Form.{Form}
use Rattle.lz_tree.specs.ScopedTrees.{ScopedExpression, constant}
use Rattle.lz_tree.specs.Kinds as kinds
use Rattle.lz_tree.specs.Kinds.{kind_or, kind_of, common_kind, way_of}
use Rattle.lz_tree.specs.WellScoped.{kind_at, HasValue, unary_result, joint_kind}
use Rattle.lz_scopes.specs.declared.fault.Rule.{Rule}
use Rattle.lz_scopes.specs.declared.fault.Rule.TheVariants.{LargeConstant, RefusedType}
use Rattle.lz_scopes.specs.declared.value_types.ValueType.{ValueType}
use Rattle.lz_scopes.specs.declared.value_types.ValueType.TheVariants.{Integer, Pointer, Nothing, Thread, Mutex, Cond, Function}
use Rattle.lz_scopes.specs.declared.value_types.Want.{Want}
use Rattle.lz_scopes.specs.declared.value_types.Want.TheVariants as wants
use Rattle.lz_scopes.specs.ValueTypes as values
use Rattle.lz_scopes.specs.ValueTypes.{want_of, clash}
use Rattle.lz_scopes.specs.Constants.{joint, binary_kind, unary_kind, is_large, has_longs}
use Rattle.lz_scopes.specs.ExpressionTypes.{is_text_place, is_reference_place, is_handle_place, is_start_place, chosen, as_inner, integer_kind}
use Rattle.lz_resolve.specs.ScopedPrograms.{value_kind}
use Rattle.lz_types.specs.Faults.{at}

-- ---- lists of rules without items

pub no_rules : (line : ℕ) (rules : List Rule) → at line rules ≡ [] → rules ≡ []
no_rules line [] e = refl
no_rules line (r ∷ rules) e = absurd cc

pub not_when : (b : Bool) (rule : Rule) → values.when b rule ≡ [] → b ≡ false
not_when true rule e = absurd cc
not_when false rule e = refl

pub no_truth : {A : Type 0} → false ≡ true → A
no_truth e = absurd cc

pub not_false : (b : Bool) → not b ≡ false → b ≡ true
not_false true e = refl
not_false false e = absurd cc

-- ---- what stands at a place

-- an integer, or a `void *`
abbrev pub IsValue : ValueType → Type 0
IsValue (Integer kind) = Unit {0}
IsValue Pointer = Unit {0}
IsValue Nothing = ⊥
IsValue Thread = ⊥
IsValue Mutex = ⊥
IsValue Cond = ⊥
IsValue Function = ⊥

-- one of these, or nothing
abbrev pub IsOperand : ValueType → Type 0
IsOperand Nothing = Unit {0}
IsOperand of = IsValue of

abbrev pub IsInt : ValueType → Type 0
IsInt (Integer kind) = Unit {0}
IsInt of = ⊥

-- a place of a want has this type
abbrev pub Meets : Want → ValueType → Type 0
Meets wants.Unneeded of = IsOperand of
Meets wants.Integer of = IsInt of
Meets want of = IsValue of

pub meets : (want : Want) (of : ValueType) → clash want of ≡ [] → Meets want of
meets wants.Unneeded (Integer kind) e = tt
meets _ (Integer kind) e = tt
meets wants.Integer Pointer e = absurd cc
meets _ Pointer e = tt
meets wants.Unneeded Nothing e = tt
meets _ Nothing e = absurd cc
meets want Thread e = absurd cc
meets want Mutex e = absurd cc
meets want Cond e = absurd cc
meets want Function e = absurd cc

pub meets_integer : (want : Want) (kind : IntType) → Meets want (Integer kind)
meets_integer wants.Unneeded kind = tt
meets_integer _ kind = tt

pub operand : (want : Want) (of : ValueType) → Meets want of → IsOperand of
operand wants.Unneeded of m = m
operand _ (Integer kind) m = tt
operand _ Pointer m = tt
operand _ Nothing m = tt
operand _ Thread m = absurd m
operand _ Mutex m = absurd m
operand _ Cond m = absurd m
operand _ Function m = absurd m

-- a want of a value
abbrev pub needs : Want → Bool
needs wants.Unneeded = false
needs want = true

pub needed : (want : Want) (of : ValueType) → needs want ≡ true → Meets want of → IsValue of
needed wants.Unneeded of n m = no_truth n
needed _ (Integer kind) n m = tt
needed wants.Integer Pointer n m = absurd m
needed _ Pointer n m = tt
needed _ Nothing n m = absurd m
needed _ Thread n m = absurd m
needed _ Mutex n m = absurd m
needed _ Cond n m = absurd m
needed _ Function n m = absurd m

pub needs_of : (of : ValueType) → needs (want_of of) ≡ true
needs_of (Integer kind) = refl
needs_of _ = refl

-- A place where no argument of a call on threads or of `printf` stands.
pub record IsPlain (want : Want) : Type 0 where
  pub text : is_text_place want ≡ false
  pub reference : is_reference_place want ≡ false
  pub handle : is_handle_place want ≡ false
  pub start : is_start_place want ≡ false

pub plain_integer : IsPlain wants.Integer
plain_integer = record { text = refl; reference = refl; handle = refl; start = refl }

pub plain_any : IsPlain wants.Any
plain_any = record { text = refl; reference = refl; handle = refl; start = refl }

pub plain_unneeded : IsPlain wants.Unneeded
plain_unneeded = record { text = refl; reference = refl; handle = refl; start = refl }

pub plain_of : (of : ValueType) → IsPlain (want_of of)
plain_of (Integer kind) = record { text = refl; reference = refl; handle = refl; start = refl }
plain_of _ = record { text = refl; reference = refl; handle = refl; start = refl }

-- ---- kinds

pub value_has : (of : ValueType) → IsValue of → value_kind of ≡ Some (values.kind_of of)
value_has (Integer kind) v = refl
value_has Pointer v = refl
value_has Nothing v = absurd v
value_has Thread v = absurd v
value_has Mutex v = absurd v
value_has Cond v = absurd v
value_has Function v = absurd v

pub kind_agrees : (e : ScopedExpression) → kind_of e ≡ kind_or (kind_at e)
kind_agrees (constant line value form kind) = refl
kind_agrees _ = refl

pub kind_is : (e : ScopedExpression) (kind : IntType) → kind_at e ≡ Some kind → kind_of e ≡ kind
kind_is e kind h = kind_agrees e ∙ ap (λ (k : Option IntType). kind_or k) h

pub has_value : (e : ScopedExpression) (kind : IntType) → kind_at e ≡ Some kind → HasValue e
has_value e kind h = h ∙ ap (λ (k : IntType). Some k) (sym (kind_is e kind h))

pub integer_is : (of : ValueType) → IsInt of → value_kind of ≡ Some (integer_kind of)
integer_is (Integer kind) i = refl
integer_is Pointer i = absurd i
integer_is Nothing i = absurd i
integer_is Thread i = absurd i
integer_is Mutex i = absurd i
integer_is Cond i = absurd i
integer_is Function i = absurd i

pub unary_gives : (op : Unary) (kind : IntType) → unary_kind op kind ≡ unary_result op kind
unary_gives unaries.Not kind = refl
unary_gives _ kind = refl

joint_common : (a b : IntType) → joint a b ≡ common_kind a b
joint_common Int Int = refl
joint_common Int Unsigned = refl
joint_common Unsigned Int = refl
joint_common Unsigned Unsigned = refl

pub binary_gives : (op : Binary) (a b : IntType) → binary_kind op a b ≡ kinds.value_kind (way_of op) a b
binary_gives ops.Shl a b = refl
binary_gives ops.Shr a b = refl
binary_gives ops.Lt a b = refl
binary_gives ops.Gt a b = refl
binary_gives ops.Le a b = refl
binary_gives ops.Ge a b = refl
binary_gives ops.Eq a b = refl
binary_gives ops.Ne a b = refl
binary_gives ops.Both a b = refl
binary_gives ops.Either a b = refl
binary_gives _ a b = joint_common a b

pub chosen_kind : (a b : ValueType) → IsValue a → IsValue b → value_kind (chosen a b) ≡ joint_kind (value_kind a) (value_kind b)
chosen_kind (Integer i) (Integer j) v w = ap (λ (k : IntType). Some k) (joint_common i j)
chosen_kind (Integer Int) Pointer v w = refl
chosen_kind (Integer Unsigned) Pointer v w = refl
chosen_kind Pointer (Integer Int) v w = refl
chosen_kind Pointer (Integer Unsigned) v w = refl
chosen_kind Pointer Pointer v w = refl
chosen_kind (Integer i) Nothing v w = absurd w
chosen_kind (Integer i) Thread v w = absurd w
chosen_kind (Integer i) Mutex v w = absurd w
chosen_kind (Integer i) Cond v w = absurd w
chosen_kind (Integer i) Function v w = absurd w
chosen_kind Pointer Nothing v w = absurd w
chosen_kind Pointer Thread v w = absurd w
chosen_kind Pointer Mutex v w = absurd w
chosen_kind Pointer Cond v w = absurd w
chosen_kind Pointer Function v w = absurd w
chosen_kind Nothing b v w = absurd v
chosen_kind Thread b v w = absurd v
chosen_kind Mutex b v w = absurd v
chosen_kind Cond b v w = absurd v
chosen_kind Function b v w = absurd v

pub inner_is : (of : ValueType) → IsOperand of → as_inner of ≡ of
inner_is (Integer kind) i = refl
inner_is Pointer i = refl
inner_is Nothing i = refl
inner_is Thread i = absurd i
inner_is Mutex i = absurd i
inner_is Cond i = absurd i
inner_is Function i = absurd i

-- ---- constants

small_word : (value : ℕ) (other : Bool) → (nat_le value_bound value || other) ≡ false → value < value_bound
small_word value other e =
    elim (cases_lt value value_bound) [
      | inl low ↦ low
      | inr high ↦ absurd (both_ways (nat_le value_bound value) (or_parts (nat_le value_bound value) other e).0 (le-leb value_bound value high))
    ]

no_large : (longs : Bool) (rest : Bool) (large : Bool) → large ≡ (longs && rest) → (if not longs then RefusedType ∷ [] else values.when large LargeConstant) ≡ [] → rest ≡ false
no_large true rest large is e = sym is ∙ not_when large LargeConstant e
no_large false rest large is e = absurd cc

-- a constant without a fault is a word
pub constant_word : (value : ℕ) (form : Form) → (if has_longs form then RefusedType ∷ [] else values.when (is_large value form) LargeConstant) ≡ [] → value < value_bound
constant_word value form e = small_word value _ (no_large (form.longs == 0) _ (is_large value form) refl e)
