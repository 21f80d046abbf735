-- What a name means and what a call gives is the same in a file whose facts are left out.
use Rattle.std.proofs.Common.{◌≡◌, ℕ, Bool, true, false, ◌&&◌, List, [], ◌++◌, Option, Some, None, refl, ap, ◌∙◌, if◌then◌else◌, slice_get}
use Rattle.lz_base.proofs.ListLemmas.{nil_back as back}
use Rattle.lz_tree.specs.declared.scoped.KnownName.{KnownName}
use Rattle.lz_tree.specs.declared.scoped.Object.{Object}
use Rattle.lz_tree.specs.declared.scoped.Object.TheVariants.{Routine, Known}
use Rattle.lz_tree.specs.Trees.{Expression, object, whole, Expressions, none, and, TranslationUnit}
use Rattle.lz_scopes.specs.declared.fault.Rule.{Rule}
use Rattle.lz_scopes.specs.declared.fault.Rule.TheVariants.{Recursive, PointerOutsideStart, NoStartRoutine, ThreadInThread, MisplacedAddress, BadAttribute, MisplacedText}
use Rattle.lz_scopes.specs.declared.place.Place.{Place}
use Rattle.lz_scopes.specs.declared.value_types.Want.{Want}
use Rattle.lz_scopes.specs.declared.value_types.Want.TheVariants as wants
use Rattle.lz_scopes.specs.ValueTypes as values
use Rattle.lz_scopes.specs.ValueTypes.{counted}
use Rattle.lz_scopes.specs.Scopes.{around, signatures}
use Rattle.lz_scopes.specs.Files.{File, Facts, file_with, bare}
use Rattle.lz_scopes.specs.KnownNames.{is_for_threads, wants_of_known}
use Rattle.lz_scopes.specs.ExpressionTypes.{callee, further_want, first_want, rest_of, count, given, wrong_call, late_call, misplaced, some_misplaced, is_thread_call, breaks_at_call, can_return, is_only_started, is_none_of, given_at, is_in_thread}

and_false : (a : Bool) → (a && false) ≡ false
and_false true = refl
and_false false = refl

both_true : (a b : Bool) → a ≡ true → b ≡ true → (a && b) ≡ true
both_true true b e h = h
both_true false b e h = absurd cc

-- a call without faults gives what its callee gives
pub given_right : (file : File) (p : Place) (c : Option Object) (args : Expressions) → wrong_call file c (count args) ≡ [] → late_call file p c args ≡ [] → given_at file p c args ≡ given file c
given_right file p c args wrong late =
    ap (λ (b : Bool). if b then given file c else counted)
    (both_true (is_none_of (wrong_call file c (count args))) (is_none_of (late_call file p c args))
    (ap (λ (rules : List Rule). is_none_of rules) wrong) (ap (λ (rules : List Rule). is_none_of rules) late))

-- The rules that a call of a known name does not break by its arguments and its place.
pub record Right (file : File) (p : Place) (k : KnownName) (args : Expressions) : Type 0 where
  pub starts : some_misplaced file p NoStartRoutine (wants_of_known k) (further_want (Some (Known k))) args ≡ false
  pub threads : is_thread_call file p k ≡ false
  pub addresses : some_misplaced file p MisplacedAddress (wants_of_known k) (further_want (Some (Known k))) args ≡ false
  pub attributes : some_misplaced file p BadAttribute (wants_of_known k) (further_want (Some (Known k))) args ≡ false
  pub texts : some_misplaced file p MisplacedText (wants_of_known k) (further_want (Some (Known k))) args ≡ false

late_parts : (a t b c d : Bool) → values.when a NoStartRoutine ++ (values.when t ThreadInThread ++ (values.when b MisplacedAddress ++ (values.when c BadAttribute ++ values.when d MisplacedText))) ≡ []
    → (a ≡ false) × (t ≡ false) × (b ≡ false) × (c ≡ false) × (d ≡ false)
late_parts true t b c d e = absurd cc
late_parts false true b c d e = absurd cc
late_parts false false true c d e = absurd cc
late_parts false false false true d e = absurd cc
late_parts false false false false true e = absurd cc
late_parts false false false false false e = (refl, refl, refl, refl, refl)

pub right_parts : (file : File) (p : Place) (k : KnownName) (args : Expressions) → late_call file p (Some (Known k)) args ≡ [] → Right file p k args
right_parts file p k args e =
    let parts = late_parts (breaks_at_call file p NoStartRoutine (Some (Known k)) args) (is_thread_call file p k) (breaks_at_call file p MisplacedAddress (Some (Known k)) args)
    (breaks_at_call file p BadAttribute (Some (Known k)) args) (breaks_at_call file p MisplacedText (Some (Known k)) args) e in
    record { starts = parts.0; threads = parts.1; addresses = parts.2; attributes = parts.3; texts = parts.4 }

none_broken : (a t b c d : Bool) → a ≡ false → t ≡ false → b ≡ false → c ≡ false → d ≡ false
    → values.when a NoStartRoutine ++ (values.when t ThreadInThread ++ (values.when b MisplacedAddress ++ (values.when c BadAttribute ++ values.when d MisplacedText))) ≡ []
none_broken a t b c d ea et eb ec ed = rw (ea, et, eb, ec, ed) refl

module _ (unit : TranslationUnit) (facts : Facts) where
  pub callee_same : (p : Place) (name : ℕ) → callee (bare unit) p name ≡ callee (file_with unit facts) p name
  unfolding file_with
  callee_same p name = refl

  pub given_same : (c : Option Object) → given (bare unit) c ≡ given (file_with unit facts) c
  unfolding file_with
  given_same None = refl
  given_same (Some (Routine n)) = refl
  given_same _ = refl

  pub wrong_same : (c : Option Object) (n : ℕ) → wrong_call (file_with unit facts) c n ≡ [] → wrong_call (bare unit) c n ≡ []
  unfolding file_with
  wrong_same None n e = e
  wrong_same (Some (Routine m)) n e = e
  wrong_same _ n e = e

  misplaced_same : (p : Place) (want : Want) (e : Expression) → misplaced (bare unit) p want e ≡ misplaced (file_with unit facts) p want e
  unfolding file_with
  misplaced_same p wants.Start (object line name whole) = refl
  misplaced_same p wants.Start _ = refl
  misplaced_same p _ e = refl

  some_same : (p : Place) (rule : Rule) (ws : List Want) (further : Want) (es : Expressions)
      → some_misplaced (bare unit) p rule ws further es ≡ some_misplaced (file_with unit facts) p rule ws further es
  some_same p rule ws further none = refl
  some_same p rule ws further (and e rest) =
      rw (misplaced_same p (first_want ws further) e, some_same p rule (rest_of ws) further rest) refl

  calm_at : (o : Option ℕ) → is_in_thread (bare unit) o ≡ false
  unfolding file_with
  calm_at None = refl
  calm_at (Some n) = refl

  quiet_at : (o : Option ℕ) (n : ℕ) → can_return (bare unit) o n ≡ false
  unfolding file_with
  quiet_at None n = refl
  quiet_at (Some m) n = refl

  calm : (p : Place) (k : KnownName) → is_thread_call (bare unit) p k ≡ false
  calm p k = rw (calm_at (around p)) (and_false (is_for_threads k))

  pub late_same : (p : Place) (c : Option Object) (args : Expressions) → late_call (file_with unit facts) p c args ≡ [] → late_call (bare unit) p c args ≡ []
  unfolding file_with
  late_same p None args e = refl
  late_same p (Some (Routine n)) args e =
      let quiet : can_return (bare unit) (around p) n ≡ false = quiet_at (around p) n in
      ap (λ (b : Bool). values.when b Recursive ++ values.when (is_only_started (file_with unit facts) (slice_get (signatures unit.externals) n)) PointerOutsideStart) quiet
      ∙ back _ _ e
  late_same p (Some (Known k)) args e =
      let r : Right (file_with unit facts) p k args = right_parts (file_with unit facts) p k args e in
      none_broken (breaks_at_call (bare unit) p NoStartRoutine (Some (Known k)) args) (is_thread_call (bare unit) p k) (breaks_at_call (bare unit) p MisplacedAddress (Some (Known k)) args)
      (breaks_at_call (bare unit) p BadAttribute (Some (Known k)) args) (breaks_at_call (bare unit) p MisplacedText (Some (Known k)) args)
      (some_same p NoStartRoutine (wants_of_known k) (further_want (Some (Known k))) args ∙ r.starts)
      (calm p k)
      (some_same p MisplacedAddress (wants_of_known k) (further_want (Some (Known k))) args ∙ r.addresses)
      (some_same p BadAttribute (wants_of_known k) (further_want (Some (Known k))) args ∙ r.attributes)
      (some_same p MisplacedText (wants_of_known k) (further_want (Some (Known k))) args ∙ r.texts)
  late_same p _ args e = refl
