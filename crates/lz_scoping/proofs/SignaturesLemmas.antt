-- Functions by their numbers: each is as it is declared, `main` is one of them, and calls lead where an order of the functions says.
use Rattle.std.proofs.Common.{◌≡◌, ℕ, zero, suc, ◌+◌, ◌<◌, ◌≤◌, ◌==◌, Bool, true, false, not, ◌&&◌, ◌||◌, List, [], ◌∷◌, ◌++◌, length, slice_get, slice_index, slice_index_or, Option, Some, None, inl, inr, refl, sym, ap, ◌∙◌, subst, arith, if◌then◌else◌, eq-eqb}
use Rattle.std.proofs.lemmas.Bool.{cases_Bool, and_parts, eqb-true}
use Rattle.std.proofs.lemmas.List.{length-map}
use denote.Enum.Bare.{same_true}
use Rattle.lz_base.proofs.ListLemmas.{nil_front as front, nil_back as back}
use Rattle.lz_base.proofs.OptionLemmas.{if_some}
use Rattle.lz_base.specs.declared.word.IntType.TheVariants.{Int}
use Rattle.lz_tree.specs.declared.expression.TypeName.{TypeName}
use Rattle.lz_tree.specs.declared.expression.TypeName.TheVariants as spelled
use Rattle.lz_tree.specs.contracts.expression.TypeName as type_name
use Rattle.lz_tree.specs.Calls.{body_at}
use Rattle.lz_tree.specs.ScopedTrees.{ScopedDefinition, empty}
use Rattle.lz_tree.specs.Trees.{ExternalDeclaration, objects, prototype, function, TranslationUnit}
use Rattle.lz_scopes.specs.declared.fault.Rule.TheVariants.{DeclaredTwice, KnownNameTaken, TypeMisfit, PointerOutsideStart, RefusedType, TooHigh}
use Rattle.lz_scopes.specs.declared.place.Place.{Place}
use Rattle.lz_scopes.specs.declared.signature.Signature.{Signature}
use Rattle.lz_scopes.specs.declared.value_types.ValueType.TheVariants.{Integer}
use Rattle.lz_scopes.specs.ValueTypes as values
use Rattle.lz_scopes.specs.ValueTypes.{value_type, same_type, are_one_type, is_no_operand, is_pointer, is_refused}
use Rattle.lz_scopes.specs.Scopes.{signatures, is_start, is_start_form, has_object, after_external}
use Rattle.lz_scopes.specs.Files.{File, Facts, file_with, bare, function_named, main_from, is_main, is_high}
use Rattle.lz_resolve.specs.ScopedPrograms.{value_kind, scope_externals}
use Rattle.lz_types.specs.Faults.{externals_faults, external_faults, is_defined_before, takes_known, is_right_main, main_in, signature_at, has_main}
use Rattle.lz_scoping.proofs.TypesLemmas.{no_rules, no_truth}

-- ---- signatures

-- A function is scoped as it is declared.
pub record Agrees (s : Signature) (d : ScopedDefinition) : Type 0 where
  pub start : d.start ≡ is_start s
  pub params : length d.params ≡ length s.params
  pub gives : d.gives ≡ value_kind (value_type s.gives)
  pub operand : is_no_operand (value_type s.gives) ≡ false

abbrev pub Matched : List Signature → List ScopedDefinition → Type 0
Matched [] [] = Unit {0}
Matched [] (d ∷ ds) = ⊥
Matched (s ∷ ss) [] = ⊥
Matched (s ∷ ss) (d ∷ ds) = Agrees s d × Matched ss ds

pub six : (a b c d e f : Bool)
    → values.when a DeclaredTwice ++ (values.when b KnownNameTaken ++ (values.when c TypeMisfit ++ (values.when d PointerOutsideStart ++ (values.when e RefusedType ++ values.when f TooHigh)))) ≡ [] → c ≡ false
six true b c d e f n = absurd cc
six false true c d e f n = absurd cc
six false false true d e f n = absurd cc
six false false false d e f n = refl

pub matched : (known file : File) (p : Place) (es : List ExternalDeclaration) → externals_faults file p es ≡ [] → Matched (signatures es) (scope_externals known p es)
unfolding externals_faults external_faults scope_externals
matched known file p [] clear = tt
matched known file p (objects hidden of ∷ rest) clear = matched known file (after_external p (objects hidden of)) rest (back _ _ clear)
matched known file p (prototype line lead gives name params void_word ∷ rest) clear = matched known file (after_external p (prototype line lead gives name params void_word)) rest (back _ _ clear)
matched known file p (function line hidden gives name params void_word body ∷ rest) clear = (
  record {
    start = refl;
    params = length-map params _ ∙ sym (length-map params _);
    gives = refl;
    operand = six (has_object p name || is_defined_before (function_named file.functions name) p.function) (takes_known file name) (is_no_operand (value_type gives))
        (is_pointer (value_type gives) && not (is_start_form name gives params)) (is_refused gives) (is_high file p.function) (no_rules line _ (front _ _ (front _ _ clear)));
  },
  matched known file (after_external p (function line hidden gives name params void_word body)) rest (back _ _ clear),
)

pub matched_length : (ss : List Signature) (ds : List ScopedDefinition) → Matched ss ds → length ss ≡ length ds
matched_length [] [] m = refl
matched_length [] (d ∷ ds) m = absurd m
matched_length (s ∷ ss) [] m = absurd m
matched_length (s ∷ ss) (d ∷ ds) m = ap (λ (n : ℕ). suc n) (matched_length ss ds m.1)

pub agreed : (ss : List Signature) (ds : List ScopedDefinition) (other : ScopedDefinition) → Matched ss ds → (n : ℕ) (s : Signature) → slice_get ss n ≡ Some s → Agrees s (slice_index_or ds n other) × (n < length ds)
agreed [] ds other m n s e = absurd cc
agreed (x ∷ ss) [] other m n s e = absurd m
agreed (x ∷ ss) (d ∷ ds) other m zero s e = let same : x ≡ s = cc in (subst (λ (y : Signature). Agrees y d) same m.0, omega arith)
agreed (x ∷ ss) (d ∷ ds) other m (suc n) s e = let r = agreed ss ds other m.1 n s e in (r.0, omega (arith, r.1))

pub signature_of : (ss : List Signature) (n : ℕ) → n < length ss → (s : Signature) × (slice_get ss n ≡ Some s)
signature_of [] n low = absurd (omega arith)
signature_of (s ∷ ss) zero low = (s, refl)
signature_of (s ∷ ss) (suc n) low = signature_of ss n (omega arith)

-- ---- `main`

pub main_found : (file : File) (n : ℕ) (fs : List Signature) (m : ℕ) → main_from file n fs ≡ Some m → (j : ℕ) × (s : Signature) × (m ≡ n + j) × (slice_get fs j ≡ Some s) × (is_main file s.name ≡ true)
main_found file n [] m e = absurd cc
main_found file n (f ∷ rest) m e =
    elim (if_some (is_main file f.name) (Some n) (main_from file (n + 1) rest) m e) [
      | inl here ↦ (let same : n ≡ m = (let h : Some n ≡ Some m = here.1 in cc) in (0, f, omega (arith, same), refl, here.0))
      | inr later ↦ (let r = main_found file (n + 1) rest m later.1 in let far : m ≡ (n + 1) + r.0 = r.2 in (suc r.0, r.1, omega (arith, far), r.3, r.4))
    ]

pub main_same : (unit : TranslationUnit) (facts : Facts) (n : ℕ) (fs : List Signature) → main_from (bare unit) n fs ≡ main_from (file_with unit facts) n fs
unfolding file_with
main_same unit facts n [] = refl
main_same unit facts n (f ∷ rest) = rw (main_same unit facts (n + 1) rest) refl

-- the number of a function `int main(void)`
pub record IsMain (file : File) (o : Option ℕ) : Type 0 where
  pub number : ℕ
  pub signature : Signature
  pub is : o ≡ Some number
  pub got : slice_get file.functions number ≡ Some signature
  pub right : is_right_main file signature ≡ true

main_at : (file : File) (m : ℕ) (x : Option Signature) → slice_get file.functions m ≡ x → main_in file x ≡ true → IsMain file (Some m)
main_at file m None is e = no_truth e
main_at file m (Some s) is e = record { number = m; signature = s; is = refl; got = is; right = e }

main_is : (file : File) (o : Option ℕ) → main_in file (signature_at file.functions o) ≡ true → IsMain file o
main_is file None e = no_truth e
main_is file (Some m) e = main_at file m (slice_get file.functions m) refl e

pub main_of : (file : File) → has_main file ≡ true → IsMain file (main_from file 0 file.functions)
main_of file e = main_is file (main_from file 0 file.functions) e

same_value : (g : TypeName) → value_type g ≡ value_type (same_type g)
same_value spelled.Signed = refl
same_value _ = refl

pub right_gives : (file : File) (s : Signature) → is_right_main file s ≡ true → value_type s.gives ≡ Integer Int
unfolding are_one_type
right_gives file s e = same_value s.gives ∙ ap (λ (g : TypeName). value_type g) (same_true type_name.the_type tt (same_type s.gives) spelled.Int (and_parts _ _ e).0)

right_params : (file : File) (name : ℕ) (gives : TypeName) (params : List TypeName) → is_right_main file (record { name = name; gives = gives; params = params }) ≡ true → length params ≡ 0
right_params file name gives [] e = refl
right_params file name gives (p ∷ rest) e = no_truth (and_parts (are_one_type gives spelled.Int) false e).1

pub right_none : (file : File) (s : Signature) → is_right_main file s ≡ true → length s.params ≡ 0
right_none file s e = right_params file s.name s.gives s.params e

-- ---- an order of the functions

-- the first place of a number
abbrev pub place_in : List ℕ → ℕ → ℕ
place_in [] f = 0
place_in (x ∷ rest) f = if x == f then 0 else suc (place_in rest f)

-- The place of a number is there, and no later than another one.
pub record Placed (order : List ℕ) (f j : ℕ) : Type 0 where
  pub low : place_in order f ≤ j
  pub is : slice_index order (place_in order f) ≡ f

placed_later : (x : ℕ) (rest : List ℕ) (f j : ℕ) → (x == f) ≡ false → Placed rest f j → Placed (x ∷ rest) f (suc j)
placed_later x rest f j other p = record { low = rw other (let l = p.low in omega arith); is = rw other p.is }

pub placed : (order : List ℕ) (f j : ℕ) → j < length order → slice_index order j ≡ f → Placed order f j
placed [] f j low is = absurd (omega arith)
placed (x ∷ rest) f zero low is = record { low = rw (eq-eqb x f is) (omega arith); is = rw (eq-eqb x f is) is }
placed (x ∷ rest) f (suc j) low is =
    elim (cases_Bool (x == f)) [
      | inl here ↦ record { low = rw here (omega arith); is = rw here (eqb-true x f here) }
      | inr other ↦ placed_later x rest f j other (placed rest f j (omega arith) is)
    ]

pub body_is : (ds : List ScopedDefinition) (f : ℕ) (other : ScopedDefinition) → other.body ≡ empty → body_at ds f ≡ (slice_index_or ds f other).body
body_is [] f other is = sym is
body_is (d ∷ ds) zero other is = refl
body_is (d ∷ ds) (suc f) other is = body_is ds f other is
