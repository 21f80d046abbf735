-- What the functions of a program that breaks no rule may call and start.
use Rattle.std.proofs.Common.{◌≡◌, ℕ, suc, ◌+◌, ◌<◌, Bool, true, false, not, ◌||◌, List, [], ◌∷◌, ◌++◌, map, length, slice_get, slice_index, slice_index_or, Option, Some, None, inl, inr, refl, sym, ap, ◌∙◌, subst, arith, if◌then◌else◌}
use Rattle.std.specs.List.{Contains, All, AllByRecursion}
use Rattle.std.proofs.lemmas.Bool.{cases_Bool, or_parts, both_ways}
use Rattle.std.proofs.lemmas.List.{length-map}
use Rattle.std.proofs.lemmas.List.Elements.{All-contains}
use Rattle.lz_base.specs.declared.word.IntType.{IntType}
use Rattle.lz_base.specs.declared.word.IntType.TheVariants.{Int}
use Rattle.lz_tree.specs.Calls.{statement_calls, body_at, StandsBefore, IsCallOrder}
use Rattle.lz_tree.specs.ScopedTrees.{ScopedStatement, ScopedProgram, ScopedDefinition, empty, function_at}
use Rattle.lz_tree.specs.Trees.{ExternalDeclaration, objects, prototype, function, TranslationUnit}
use Rattle.lz_tree.specs.WellFormed.{FitsExternal}
use Rattle.lz_tree.specs.WellScoped.{Setting, Plan, setting_of}
use Rattle.lz_scopes.specs.declared.signature.Signature.{Signature}
use Rattle.lz_scopes.specs.declared.value_types.ValueType.{ValueType}
use Rattle.lz_scopes.specs.ValueTypes.{value_type, want_of, is_no_operand, counted}
use Rattle.lz_scopes.specs.Scopes.{signatures, opening, is_start, is_start_at}
use Rattle.lz_scopes.specs.Files.{File, Facts, file_with, bare, or_false, main_from, is_main, is_reached, params_of}
use Rattle.lz_scopes.specs.ExpressionTypes.{gives_of, as_result, is_only_started}
use Rattle.lz_resolve.specs.ScopedPrograms.{value_kind, param_kinds, scope_externals, after_externals, cells_of, or_zero}
use Rattle.lz_calls.specs.Calls.{graph_of, Calls, AreFacts}
use Rattle.lz_calls.proofs.FactsLemmas.{row_at}
use Rattle.lz_types.specs.Faults.{externals_faults, has_main}
use Rattle.lz_scoping.proofs.TypesLemmas.{no_truth}
use Rattle.lz_scoping.proofs.NumberingLemmas.{kinds_in}
use Rattle.lz_scoping.proofs.ArgumentsLemmas.{Rights}
use Rattle.lz_scoping.proofs.ExpressionLemmas.{Callable, Allowed}
use Rattle.lz_scoping.proofs.SignaturesLemmas.{Agrees, Matched, matched, matched_length, agreed, signature_of, IsMain, main_of, main_found, main_same, place_in, Placed, placed, body_is}
use Rattle.lz_scoping.proofs.CellsLemmas.{cell_kinds_of}

-- the kinds of the locals of each function
abbrev pub kind_lists : List ExternalDeclaration → List (List IntType)
kind_lists [] = []
kind_lists (objects hidden of ∷ rest) = kind_lists rest
kind_lists (prototype line lead gives name params void_word ∷ rest) = kind_lists rest
kind_lists (function line hidden gives name params void_word body ∷ rest) = (param_kinds params ++ kinds_in body) ∷ kind_lists rest

abbrev pub definitions : TranslationUnit → List ScopedDefinition
definitions unit = scope_externals (bare unit) opening unit.externals

-- the scoped program, field by field
abbrev pub program_of : TranslationUnit → ScopedProgram
program_of unit = record {
  cells = cells_of unit.externals;
  mutexes = (after_externals opening unit.externals).counts.mutexes;
  conds = (after_externals opening unit.externals).counts.conds;
  handles = (after_externals opening unit.externals).counts.handles;
  functions = definitions unit;
  main = or_zero (main_from (bare unit) 0 (signatures unit.externals));
}

-- what it says: thread 0 alone runs what no start routine reaches, and calls go down in the order
abbrev pub plan_of : TranslationUnit → Facts → List ℕ → Plan
plan_of unit facts order = record {
  cell_kinds = λ i. slice_index_or (cell_kinds_of unit.externals) i Int;
  local_kinds = λ f i. slice_index_or (slice_index_or (kind_lists unit.externals) f []) i Int;
  alone = λ f. not (or_false (slice_get facts.reached f));
  depth = λ f. place_in order f;
}

-- What is known of a program that breaks no rule.
pub record Basis (unit : TranslationUnit) (facts : Facts) (order : List ℕ) : Type 0 where
  pub clear : externals_faults (file_with unit facts) opening unit.externals ≡ []
  pub main : has_main (file_with unit facts) ≡ true
  pub right : AreFacts (definitions unit) facts
  pub ordered : IsCallOrder (definitions unit) order
  pub formed : AllByRecursion FitsExternal unit.externals

started : (functions : List Signature) (o : Option Signature) → is_start_at o ≡ true → (s : Signature) × (o ≡ Some s) × (is_start s ≡ true)
started functions None e = no_truth e
started functions (Some s) e = (s, refl, e)

result_kind : (of : ValueType) → is_no_operand of ≡ false → value_kind of ≡ value_kind (as_result of)
result_kind of e = sym (ap (λ (b : Bool). value_kind (if b then counted else of)) e)

module _ (unit : TranslationUnit) (facts : Facts) (order : List ℕ) (basis : Basis unit facts order) where
  abbrev file : File
  file = file_with unit facts

  abbrev w : ℕ → Setting
  w f = setting_of (program_of unit) (plan_of unit facts order) f

  matches : Matched (signatures unit.externals) (definitions unit)
  matches = matched (bare unit) file opening unit.externals basis.clear

  pub is_agreed : (n : ℕ) (s : Signature) → slice_get (signatures unit.externals) n ≡ Some s → Agrees s (function_at (program_of unit) n) × (n < length (definitions unit))
  is_agreed n s e = agreed (signatures unit.externals) (definitions unit) (record { start = false; locals = 0; params = []; gives = None; body = empty }) matches n s e

  pub rights : (f : ℕ) → Rights (w f) file
  unfolding file_with
  rights f = record {
    starts = λ n is.
        let r = started (signatures unit.externals) (slice_get (signatures unit.externals) n) is in
        let a = is_agreed n r.0 r.1 in
        record { there = a.1; start = a.0.start ∙ r.2 };
  }

  pub threads : (f : ℕ) → is_reached file f ≡ false → (w f).threads ≡ true
  unfolding file_with
  threads f e = ap (λ (b : Bool). not b) e

  pub is_main_of : IsMain file (main_from file 0 file.functions)
  is_main_of = main_of file basis.main

  pub main_number : (program_of unit).main ≡ is_main_of.number
  unfolding file_with
  main_number = ap (λ (o : Option ℕ). or_zero o) (main_same unit facts 0 (signatures unit.externals) ∙ is_main_of.is)

  -- a function of that name is not called
  main_named : (s : Signature) → slice_get (signatures unit.externals) is_main_of.number ≡ Some s → is_main file s.name ≡ true
  unfolding file_with
  main_named s e =
      let found = main_found file 0 (signatures unit.externals) is_main_of.number is_main_of.is in
      let at : is_main_of.number ≡ found.0 = (let far : is_main_of.number ≡ 0 + found.0 = found.2 in omega (arith, far)) in
      let one : Some s ≡ Some found.1 = sym e ∙ ap (λ (n : ℕ). slice_get (signatures unit.externals) n) at ∙ found.3 in
      let same : s ≡ found.1 = cc in
      subst (λ (x : Signature). is_main file x.name ≡ true) (sym same) found.4

  -- ---- the order

  -- a function of the file has its place
  own_place : (f : ℕ) → f < length (definitions unit) → Placed order f (length order) × (place_in order f < length order)
  own_place f low =
      let stands : StandsBefore order (length order) f = basis.ordered.all f low in
      let p : Placed order f stands.0 = placed order f stands.0 stands.1 stands.2 in
      (record { low = (let a = p.low in let b = stands.1 in omega (arith, a, b)); is = p.is }, (let a = p.low in let b = stands.1 in omega (arith, a, b)))

  called_before : (f n : ℕ) → f < length (definitions unit) → Contains (statement_calls (body_at (definitions unit) f)) n → (n < length (definitions unit)) × (place_in order n < place_in order f)
  called_before f n low c =
      let own = own_place f low in
      let i : ℕ = place_in order f in
      let all : All (StandsBefore order i) (statement_calls (body_at (definitions unit) f)) =
      subst (λ (x : ℕ). All (StandsBefore order i) (statement_calls (body_at (definitions unit) x))) own.0.is (basis.ordered.behind i own.1) in
      let stands : StandsBefore order i n = All-contains (StandsBefore order i) (statement_calls (body_at (definitions unit) f)) n all c in
      let far : stands.0 < length order = (let a = stands.1 in let b = own.1 in omega (arith, a, b)) in
      let p : Placed order n stands.0 = placed order n stands.0 far stands.2 in
      let within : slice_index order stands.0 < length (definitions unit) = basis.ordered.within stands.0 0 far in
      (subst (λ (x : ℕ). x < length (definitions unit)) stands.2 within, (let a = p.low in let b = stands.1 in omega (arith, a, b)))

  -- ---- what start routines reach

  reached_too : (f n : ℕ) → f < length (definitions unit) → n < length (definitions unit) → Contains (statement_calls (body_at (definitions unit) f)) n → or_false (slice_get facts.reached f) ≡ true → or_false (slice_get facts.reached n) ≡ true
  reached_too f n low there c is =
      let from = (basis.right.reached f low).0 is in
      let call : Calls (graph_of (definitions unit)) f n = subst (λ (r : List ℕ). Contains r n) (sym (row_at (definitions unit) f low)) c in
      (basis.right.reached n there).1 (from.0, from.1, (suc from.2.0, (f, from.2.1, call)))

  alone_too : (f n : ℕ) → f < length (definitions unit) → n < length (definitions unit) → Contains (statement_calls (body_at (definitions unit) f)) n
      → (not (not (or_false (slice_get facts.reached n))) || not (or_false (slice_get facts.reached f))) ≡ true
  alone_too f n low there c =
      elim (cases_Bool (or_false (slice_get facts.reached f))) [
        | inl is ↦ (let also : or_false (slice_get facts.reached n) ≡ true = reached_too f n low there c is in rw also refl)
        | inr is_not ↦ either (or_false (slice_get facts.reached n)) (or_false (slice_get facts.reached f)) is_not
      ]
    where
      either : (a b : Bool) → b ≡ false → (not (not a) || not b) ≡ true
      either true b e = refl
      either false b e = ap (λ (x : Bool). not x) e

  -- ---- calls

  pub callable : (f n : ℕ) → f < length (definitions unit) → Contains (statement_calls (body_at (definitions unit) f)) n → Callable (w f) file n
  unfolding file_with
  callable f n low c =
      let before = called_before f n low c in
      let many : length (signatures unit.externals) ≡ length (definitions unit) = matched_length (signatures unit.externals) (definitions unit) matches in
      let s = signature_of (signatures unit.externals) n (omega (arith, before.0, many)) in
      let a = is_agreed n s.0 s.1 in
      record {
        may = λ plain.
            let here : (is_start s.0 || is_main file s.0.name) ≡ false = sym (ap (λ (o : Option Signature). is_only_started file o) s.1) ∙ plain in
            let parts = or_parts (is_start s.0) (is_main file s.0.name) here in
            record {
              there = before.0;
              plain = a.0.start ∙ parts.0;
              not_main = λ same.
                  let at : n ≡ is_main_of.number = same ∙ main_number in
                  absurd (both_ways (is_main file s.0.name) parts.1 (main_named s.0 (subst (λ (m : ℕ). slice_get (signatures unit.externals) m ≡ Some s.0) at s.1)));
              deeper = before.1;
              alone = alone_too f n low before.0 c;
            };
        takes_ = a.0.params ∙ sym (length-map s.0.params (λ t. want_of (value_type t))) ∙ ap (λ (o : Option Signature). length (map (λ t. want_of (value_type t)) (params_of o))) (sym s.1);
        gives = a.0.gives ∙ result_kind (value_type s.0.gives) a.0.operand ∙ ap (λ (o : Option Signature). value_kind (gives_of o)) (sym s.1);
      }

  pub allowed : (f : ℕ) → f < length (definitions unit) → Allowed (w f) file (statement_calls (function_at (program_of unit) f).body)
  allowed f low = record {
    each = λ n c.
        callable f n low (subst (λ (s : ScopedStatement). Contains (statement_calls s) n) (sym (body_is (definitions unit) f (record { start = false; locals = 0; params = []; gives = None; body = empty }) refl)) c);
  }
