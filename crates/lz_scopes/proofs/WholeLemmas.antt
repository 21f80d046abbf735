-- Tables of a file as they are filled: names, parameters and functions, one after the other.
use Rattle.std.proofs.Common.{◌≡◌, ℕ, zero, suc, ◌+◌, ◌<◌, ◌≤◌, ◌==◌, Bool, true, false, List, [], ◌∷◌, ◌++◌, length, map, drop, get_or, bytes_eq, Option, Some, None, nat_eq, if◌then◌else◌, eq-eqb, refl, sym, ap, ◌∙◌, append_assoc, append-nil, drop_of_length-le, arith}
use Rattle.std.proofs.lemmas.Bool.{eqb-true}
use Rattle.indexmap.specs.IndexMap.{IndexMap, get}
use Rattle.lz_tree.specs.declared.program.External.{External}
use Rattle.lz_tree.specs.Trees.{external_declaration}
use Rattle.lz_scopes.specs.declared.signature.Signature.{Signature}
use Rattle.lz_scopes.specs.Names.{or}
use Rattle.lz_scopes.specs.Scopes.{signature_in, signatures}
use Rattle.lz_scopes.specs.Files.{File, function_from, function_named, main_from, name_from}
use Rattle.lz_scopes.specs.Defined.{HasDefined}
use Rattle.lz_base.proofs.ListLemmas.{drop_item}

-- ---- lists

-- what was made so far and what is left are all
pub mapped_more : {A B : Type 0} (f : A → B) (xs : List A) (i : ℕ) (x : A) (all now : List B) → all ++ map f (drop i xs) ≡ map f xs
    → i < length xs → x ≡ get_or xs i x → now ≡ all ++ f x ∷ [] → now ++ map f (drop (i + 1) xs) ≡ map f xs
mapped_more f xs i x all now so_far below is made =
    rw made (append_assoc all (f x ∷ []) (map f (drop (i + 1) xs)) ∙ (sym (ap (λ l. all ++ map f l) (drop_item xs i x below is)) ∙ so_far))

pub mapped_end : {A B : Type 0} (f : A → B) (xs : List A) (i : ℕ) (all : List B) → all ++ map f (drop i xs) ≡ map f xs → length xs ≤ i → all ≡ map f xs
mapped_end f xs i all so_far over = sym (ap (λ l. all ++ map f l) (drop_of_length-le xs over) ∙ append-nil all) ∙ so_far

-- ---- names

if_false : {A : Type 0} (b : Bool) (x y : A) → b ≡ false → (if b then x else y) ≡ y
if_false false x y is = refl
if_false true x y is = absurd cc

if_true : {A : Type 0} (b : Bool) (x y : A) → b ≡ true → (if b then x else y) ≡ x
if_true true x y is = refl
if_true false x y is = absurd cc

pub name_more : (names : List (List ℕ)) (bytes : List ℕ) (i : ℕ) (name : List ℕ) → i < length names → name ≡ get_or names i name → bytes_eq name bytes ≡ false
    → name_from i (drop i names) bytes ≡ name_from (i + 1) (drop (i + 1) names) bytes
name_more names bytes i name below is other =
    rw (drop_item names i name below is) (if_false (bytes_eq name bytes) (Some i) (name_from (i + 1) (drop (i + 1) names) bytes) other)

pub name_here : (names : List (List ℕ)) (bytes : List ℕ) (i : ℕ) (name : List ℕ) → i < length names → name ≡ get_or names i name → bytes_eq name bytes ≡ true
    → name_from i (drop i names) bytes ≡ Some i
name_here names bytes i name below is same =
    rw (drop_item names i name below is) (if_true (bytes_eq name bytes) (Some i) (name_from (i + 1) (drop (i + 1) names) bytes) same)

pub name_none : (names : List (List ℕ)) (bytes : List ℕ) (i : ℕ) → length names ≤ i → name_from i (drop i names) bytes ≡ None
name_none names bytes i over = rw (drop_of_length-le names over) refl

-- ---- the first function of each name

same_sym : (a b : ℕ) → (a == b) ≡ (b == a)
same_sym a b = by (a == b) (b == a) refl refl
  where
    by : (p q : Bool) → (a == b) ≡ p → (b == a) ≡ q → p ≡ q
    by true true e f = refl
    by false false e f = refl
    by true false e f = sym (eq-eqb b a (sym (eqb-true a b e))) ∙ f
    by false true e f = sym e ∙ eq-eqb a b (sym (eqb-true b a f))

or_if : {A : Type 0} (b : Bool) (x : A) (p q : Option A) → (if b then Some x else or p q) ≡ or (if b then Some x else p) q
or_if true x p q = refl
or_if false x p q = refl

pub function_push : (n : ℕ) (fs : List Signature) (f : Signature) (name : ℕ)
    → function_from n (fs ++ f ∷ []) name ≡ or (function_from n fs name) (if name == f.name then Some (n + length fs) else None)
function_push n [] f name = let same : n + 0 ≡ n = omega arith in rw (same, same_sym f.name name) refl
function_push n (x ∷ xs) f name =
    let more : (n + 1) + length xs ≡ n + suc (length xs) = omega arith in
    rw (function_push (n + 1) xs f name, more)
    (or_if (x.name == name) n (function_from (n + 1) xs name) (if name == f.name then Some (n + suc (length xs)) else None))

module _ {S : Type 0} (functions : List Signature) (defined defined' : IndexMap ℕ ℕ S) where
  pub defined_more : (f : Signature) → HasDefined functions defined
      → ((k : ℕ) → get nat_eq defined' k ≡ or (get nat_eq defined k) (if k == f.name then Some (length functions) else None))
      → HasDefined (functions ++ f ∷ []) defined'
  defined_more f has set = record {
    same = λ k. set k ∙ (let start : 0 + length functions ≡ length functions = omega arith in rw (function_push 0 functions f k, has.same k, start) refl);
  }

  pub defined_same : HasDefined functions defined → ((k : ℕ) → get nat_eq defined' k ≡ get nat_eq defined k) → HasDefined functions defined'
  defined_same has set = record { same = λ k. set k ∙ has.same k }

-- ---- functions

abbrev pub with_functions : File → List Signature → File
with_functions file more = record file { functions = file.functions ++ more }

abbrev pub left_at_file : List External → ℕ → List Signature
left_at_file es i = signatures (map external_declaration (drop i es))

pub functions_more : (start now now' : File) (all : List Signature) (es : List External) (i : ℕ) (e : External)
    → with_functions start all ≡ with_functions now (left_at_file es i) → i < length es → e ≡ get_or es i e
    → now' ≡ with_functions now (signature_in (external_declaration e)) → with_functions start all ≡ with_functions now' (left_at_file es (i + 1))
functions_more start now now' all es i e so_far below is made =
    so_far ∙ rw (
      ap (λ (l : List External). signatures (map external_declaration l)) (drop_item es i e below is),
      made,
      append_assoc now.functions (signature_in (external_declaration e)) (left_at_file es (i + 1)),
    ) refl

pub functions_end : (start now : File) (all : List Signature) (es : List External) (i : ℕ) → with_functions start all ≡ with_functions now (left_at_file es i)
    → length es ≤ i → now ≡ with_functions start all
functions_end start now all es i so_far over =
    sym (so_far ∙ rw (ap (λ (l : List External). signatures (map external_declaration l)) (drop_of_length-le es over), append-nil now.functions) refl)

-- ---- `main`

pub main_is : (file : File) (main n : ℕ) (fs : List Signature) → file.main ≡ Some main → function_from n fs main ≡ main_from file n fs
main_is file main n [] is = refl
main_is file main n (f ∷ rest) is = rw (is, main_is file main (n + 1) rest is) refl

pub main_not : (file : File) (n : ℕ) (fs : List Signature) → file.main ≡ None → None ≡ main_from file n fs
main_not file n [] is = refl
main_not file n (f ∷ rest) is = rw is (main_not file (n + 1) rest is)
