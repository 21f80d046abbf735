-- The walk over the functions of a file, and that a program that breaks no rule is well scoped.
use Rattle.std.proofs.Common.{◌≡◌, ℕ, zero, suc, ◌+◌, ◌<◌, ◌≤◌, Bool, true, false, not, ◌&&◌, ◌||◌, List, [], ◌∷◌, ◌++◌, length, slice_get, slice_index_or, Option, Some, None, is_some, IsSome, refl, sym, ap, ◌∙◌, subst, arith}
use Rattle.std.specs.List.{AllByRecursion}
use Rattle.std.proofs.lemmas.Bool.{or_parts, and_parts}
use Rattle.lz_base.proofs.ListLemmas.{nil_front as front, nil_back as back}
use Rattle.lz_base.specs.declared.word.IntType.{IntType}
use Rattle.lz_base.specs.declared.word.IntType.TheVariants.{Int, Unsigned}
use Rattle.lz_tree.specs.declared.expression.TypeName.{TypeName}
use Rattle.lz_tree.specs.declared.program.Param.{Param}
use Rattle.lz_tree.specs.declared.scoped.Object.{Object}
use Rattle.lz_tree.specs.declared.scoped.Object.TheVariants as object
use Rattle.lz_tree.specs.Calls.{statement_calls, IsCallOrder}
use Rattle.lz_tree.specs.Kinds.{len_of}
use Rattle.lz_tree.specs.ScopedTrees.{ScopedDefinition, ScopedProgram, function_at, empty}
use Rattle.lz_tree.specs.Trees.{InitDeclarator, Statement, ExternalDeclaration, objects, prototype, function, TranslationUnit}
use Rattle.lz_tree.specs.WellFormed.{FitsExternal, FitsStatement, IsWellFormed, is_block}
use Rattle.lz_tree.specs.WellScoped.{Setting, Plan, IsLength, IsCode, setting_of, IsFunction, IsWellScoped}
use Rattle.lz_scopes.specs.declared.fault.Rule.TheVariants.{DeclaredTwice, KnownNameTaken, TypeMisfit, PointerOutsideStart, LocalMutex, RefusedType, NoMain}
use Rattle.lz_scopes.specs.declared.place.Counts.{Counts}
use Rattle.lz_scopes.specs.declared.place.Place.{Place}
use Rattle.lz_scopes.specs.declared.value_types.ValueType.{ValueType}
use Rattle.lz_scopes.specs.declared.value_types.ValueType.TheVariants as sorts
use Rattle.lz_scopes.specs.ValueTypes as values
use Rattle.lz_scopes.specs.ValueTypes.{value_type, kind_of, is_nothing, is_pointer, is_thread, is_lock, is_refused, is_no_operand}
use Rattle.lz_scopes.specs.Constants.{elements}
use Rattle.lz_scopes.specs.Scopes.{bases, is_one_pointer, is_start_form, object_from, counted_more, with_declarator, with_declarators, with_declaration, with_function, with_param, with_params, into, into_body, after_body, after_external, past, opening, has_object}
use Rattle.lz_scopes.specs.Files.{File, Facts, file_with, bare, function_named, is_high}
use Rattle.lz_resolve.specs.ScopedPrograms.{value_kind, param_kinds, scope_function, scope_body, scope_externals, after_externals, scoped_of, cells_of}
use Rattle.lz_types.specs.Checking.{AreFaults}
use Rattle.lz_types.specs.Faults.{at, declarators_faults, param_rules, is_repeated, takes_known_if, params_faults, is_defined_before, takes_known, body_faults, external_faults, externals_faults, file_faults, has_main}
use Rattle.lz_scoping.proofs.TypesLemmas.{no_rules, not_when, not_false, no_truth}
use Rattle.lz_scoping.proofs.NumberingLemmas.{Suits, suits_front, suits_back, suits_head, suits_rest, suits_itself, suits_replicate, element_kinds, declared_kinds, kinds_in, Counted, counted_body}
use Rattle.lz_scoping.proofs.PlacesLemmas.{FitsObject, Fits, FitAll, fit_more, At}
use Rattle.lz_scoping.proofs.DeclaratorLemmas.{Clean, clean, length_fits, IsSpelled, is_spelled, Ends, ends_before, object_fits, inner_counts, at_object, single_length}
use Rattle.lz_scoping.proofs.ExpressionLemmas.{Allowed}
use Rattle.lz_scoping.proofs.StatementLemmas.{Here, body_code}
use Rattle.lz_scoping.proofs.SignaturesLemmas.{six, right_gives, right_none}
use Rattle.lz_scoping.proofs.CellsLemmas.{Counts_out, out_declarator, out_declarators, out_external_function, out_externals, param_elements, named_elements, counted_param, counted_params, params_deep, param_deep, flat_declarators, outside, cell_kinds_of, cells_length, cells_are_words}
use Rattle.lz_scoping.proofs.CallsLemmas.{kind_lists, definitions, program_of, plan_of, Basis, rights, threads, allowed, is_main_of, main_number, is_agreed}

-- ---- objects at file scope

abbrev outer_object : Counts → ValueType → ℕ → Object
outer_object c sorts.Thread len = object.Handle c.handles len
outer_object c sorts.Mutex len = object.Mutex c.mutexes len
outer_object c sorts.Cond len = object.Cond c.conds len
outer_object c of len = object.Cell c.cells len (kind_of of)

outer_is : (p : Place) (of : ValueType) (len : ℕ) → p.depth ≡ 0 → object_from p of len ≡ outer_object p.counts of len
outer_is p sorts.Thread len flat = refl
outer_is p sorts.Mutex len flat = refl
outer_is p sorts.Cond len flat = refl
outer_is p (sorts.Integer kind) len flat = rw (outside p flat) refl
outer_is p sorts.Pointer len flat = rw (outside p flat) refl
outer_is p sorts.Nothing len flat = rw (outside p flat) refl
outer_is p sorts.Function len flat = rw (outside p flat) refl

outer_len : (c : Counts) (of : ValueType) (len : ℕ) → len_of (outer_object c of len) ≡ len
outer_len c sorts.Thread len = refl
outer_len c _ len = refl

-- ---- rules of parameters

-- The rules that a parameter does not break.
record CleanParam (base : TypeName) : Type 0 where
  of : (is_nothing (value_type base) || is_thread (value_type base)) ≡ false
  lock : is_lock (value_type base) ≡ false

six_params : (a b c d e f : Bool)
    → values.when a DeclaredTwice ++ (values.when b KnownNameTaken ++ (values.when c TypeMisfit ++ (values.when d PointerOutsideStart ++ (values.when e LocalMutex ++ values.when f RefusedType)))) ≡ [] → (c ≡ false) × (e ≡ false)
six_params true b c d e f n = absurd cc
six_params false true c d e f n = absurd cc
six_params false false true d e f n = absurd cc
six_params false false false true e f n = absurd cc
six_params false false false false true f n = absurd cc
six_params false false false false false f n = (refl, refl)

clean_param : (file : File) (p : Place) (start : Bool) (x : Param) → param_rules file p start x ≡ [] → CleanParam x.base
clean_param file p start x e =
    let r = six_params (is_repeated p x.name) (takes_known_if file x.name) (is_nothing (value_type x.base) || is_thread (value_type x.base)) (is_pointer (value_type x.base) && not start) (is_lock (value_type x.base)) (is_refused x.base) e in
    record { of = r.0; lock = r.1 }

one_kind : (of : ValueType) → (is_nothing of || is_thread of) ≡ false → is_lock of ≡ false → element_kinds of 1 ≡ kind_of of ∷ []
one_kind (sorts.Integer kind) plain free = refl
one_kind sorts.Pointer plain free = refl
one_kind sorts.Function plain free = refl
one_kind sorts.Nothing plain free = no_truth (sym plain)
one_kind sorts.Thread plain free = no_truth (sym plain)
one_kind sorts.Mutex plain free = no_truth (sym free)
one_kind sorts.Cond plain free = no_truth (sym free)

-- parameters have one local each
params_kinds : (file : File) (p : Place) (start : Bool) (params : List Param) → params_faults file p start params ≡ [] → AllByRecursion (λ x. IsSome x.name) params → param_elements params ≡ param_kinds params
unfolding params_faults
params_kinds file p start [] clear named = refl
params_kinds file p start (x ∷ rest) clear named =
    let c : CleanParam x.base = clean_param file p start x (no_rules x.line _ (front _ _ clear)) in
    let here : named_elements x.base x.name ≡ kind_of (value_type x.base) ∷ [] = one_element x.base x.name named.0 c in
    let later : param_elements rest ≡ param_kinds rest = params_kinds file (with_param p x.base x.name) start rest (back _ _ clear) named.1 in
    rw (here, later) refl
  where
    one_element : (base : TypeName) (name : Option ℕ) → IsSome name → CleanParam base → named_elements base name ≡ kind_of (value_type base) ∷ []
    one_element base None some c = no_truth some
    one_element base (Some name) some c = one_kind (value_type base) c.of c.lock

start_params : (params : List Param) → is_one_pointer (bases params) ≡ true → param_kinds params ≡ Unsigned ∷ []
start_params [] e = no_truth e
start_params (x ∷ []) e = ap (λ (k : IntType). k ∷ []) (pointer_kind (value_type x.base) e)
  where
    pointer_kind : (of : ValueType) → is_pointer of ≡ true → kind_of of ≡ Unsigned
    pointer_kind sorts.Pointer e = refl
    pointer_kind _ e = no_truth e
start_params (x ∷ y ∷ rest) e = no_truth e

pointer_gives : (of : ValueType) → is_pointer of ≡ true → value_kind of ≡ Some Unsigned
pointer_gives sorts.Pointer e = refl
pointer_gives _ e = no_truth e

-- ---- parameters and bodies

module _ (w : Setting) (f : ℕ) (file : File) where
  at_param : (p : Place) → At w f p → (base : TypeName) (name : Option ℕ) → IsSome name → CleanParam base → Ends w (with_param p base name).counts → Suits w.local_kinds p.counts.locals (named_elements base name) → At w f (with_param p base name)
  at_param p at base None some c e s = no_truth some
  at_param p at base (Some name) some c e s = record {
    deep = at.deep;
    same = at.same;
    names = fit_more w p.names (record { name = name; depth = p.depth; of = value_type base; array = false; object = object_from p (value_type base) 1 }) at.names
        (at_object w f p name (value_type base) false 1 at (λ same. refl)
        (object_fits w p.counts (value_type base) 1 (is_spelled base) (or_parts (is_nothing (value_type base)) (is_thread (value_type base)) c.of).0 c.lock
        (record { least = omega arith; most = omega arith }) (inner_counts w p (value_type base) 1 at.deep e) s));
  }

  at_params : (p : Place) → At w f p → (start : Bool) (params : List Param) → params_faults file p start params ≡ [] → AllByRecursion (λ x. IsSome x.name) params → Ends w (with_params p params).counts
      → Suits w.local_kinds p.counts.locals (param_elements params) → At w f (with_params p params)
  unfolding params_faults
  at_params p at start [] clear named e s = at
  at_params p at start (x ∷ rest) clear named e s =
      let q : Place = with_param p x.base x.name in
      let n : Counted p.counts q.counts (named_elements x.base x.name) = counted_param p x.base x.name at.deep in
      let deep : 0 < q.depth = (let same = param_deep p x.base x.name in let low = at.deep in omega arith) in
      let c : CleanParam x.base = clean_param file p start x (no_rules x.line _ (front _ _ clear)) in
      let here : At w f q = at_param p at x.base x.name named.0 c (ends_before (counted_params q rest deep) e) (suits_front (named_elements x.base x.name) (param_elements rest) s) in
      let next : Suits w.local_kinds q.counts.locals (param_elements rest) = subst (λ (k : ℕ). Suits w.local_kinds k (param_elements rest)) (sym n.locals) (suits_back (named_elements x.base x.name) (param_elements rest) s) in
      at_params q here start rest (back _ _ clear) named.1 e next

same_gives : (p : Place) (params : List Param) → (with_params p params).gives ≡ p.gives
same_gives p [] = refl
same_gives p (x ∷ rest) = same_gives (with_param p x.base x.name) rest ∙ one x.name
  where
    one : (name : Option ℕ) → (with_param p x.base name).gives ≡ p.gives
    one None = refl
    one (Some name) = refl

same_loop : (p : Place) (params : List Param) → (with_params p params).in_loop ≡ p.in_loop
same_loop p [] = refl
same_loop p (x ∷ rest) = same_loop (with_param p x.base x.name) rest ∙ one x.name
  where
    one : (name : Option ℕ) → (with_param p x.base name).in_loop ≡ p.in_loop
    one None = refl
    one (Some name) = refl

flat_function : (p : Place) (base : TypeName) (ds : List InitDeclarator) → (with_declarators p base ds).function ≡ p.function
flat_function p base [] = refl
flat_function p base (d ∷ rest) = flat_function (with_declarator p base d) base rest

flat_loop : (p : Place) (base : TypeName) (ds : List InitDeclarator) → (with_declarators p base ds).in_loop ≡ p.in_loop
flat_loop p base [] = refl
flat_loop p base (d ∷ rest) = flat_loop (with_declarator p base d) base rest

get_front_or : (xs ys : List IntType) (i : ℕ) → i < length xs → slice_index_or (xs ++ ys) i Int ≡ slice_index_or xs i Int
get_front_or [] ys i low = absurd (omega arith)
get_front_or (x ∷ xs) ys zero low = refl
get_front_or (x ∷ xs) ys (suc i) low = get_front_or xs ys i (omega arith)

-- ---- the functions of a file

module _ (unit : TranslationUnit) (facts : Facts) (order : List ℕ) (basis : Basis unit facts order) where
  abbrev file : File
  file = file_with unit facts

  abbrev known : File
  known = bare unit

  abbrev program : ScopedProgram
  program = program_of unit

  abbrev plan : Plan
  plan = plan_of unit facts order

  abbrev w : ℕ → Setting
  w f = setting_of (program_of unit) (plan_of unit facts order) f

  abbrev cell_kinds : ℕ → IntType
  cell_kinds i = slice_index_or (cell_kinds_of unit.externals) i Int

  -- what is counted at file scope is at most what the program has
  record Totals (c : Counts) : Type 0 where
    cells : c.cells ≤ length (cells_of unit.externals)
    mutexes : c.mutexes ≤ (program_of unit).mutexes
    conds : c.conds ≤ (program_of unit).conds
    handles : c.handles ≤ (program_of unit).handles

  totals_before : {c d : Counts} {xs : List IntType} → Counts_out c d xs → Totals d → Totals c
  totals_before {c} {d} {xs} n t = record {
    cells = (let a = n.cells in let b = t.cells in omega arith);
    mutexes = (let a = n.mutexes in let b = t.mutexes in omega arith);
    conds = (let a = n.conds in let b = t.conds in omega arith);
    handles = (let a = n.handles in let b = t.handles in omega arith);
  }

  outer_fits : (k : ℕ) (c : Counts) (of : ValueType) (len : ℕ) → IsSpelled of → (is_nothing of || is_pointer of) ≡ false → IsLength len → Totals (counted_more true c of len) → Suits cell_kinds c.cells (element_kinds of len) → FitsObject (w k) of (outer_object c of len)
  outer_fits k c (sorts.Integer kind) len is plain l t s = ((record { length_ = l; within = t.cells }, record { each = λ i low. suits_replicate len kind s i low }), refl)
  outer_fits k c sorts.Thread len is plain l t s = record { length_ = l; within = t.handles }
  outer_fits k c sorts.Mutex len is plain l t s = record { length_ = l; within = t.mutexes }
  outer_fits k c sorts.Cond len is plain l t s = record { length_ = l; within = t.conds }
  outer_fits k c sorts.Pointer len is plain l t s = no_truth (sym plain)
  outer_fits k c sorts.Nothing len is plain l t s = no_truth (sym plain)
  outer_fits k c sorts.Function len is plain l t s = absurd is

  outer_declarators : (p : Place) (base : TypeName) (ds : List InitDeclarator) → p.depth ≡ 0 → declarators_faults file p base ds ≡ [] → ((k : ℕ) → FitAll (w k) p.names) → Totals (with_declarators p base ds).counts
      → Suits cell_kinds p.counts.cells (declared_kinds base ds) → (k : ℕ) → FitAll (w k) (with_declarators p base ds).names
  unfolding declarators_faults
  outer_declarators p base [] flat clear names t s k = names k
  outer_declarators p base (d ∷ rest) flat clear names t s k =
      let q : Place = with_declarator p base d in
      let of : ValueType = value_type base in
      let len : ℕ = elements d.length in
      let c : Clean file p base d = clean file p base d (no_rules d.line _ (front _ _ (front _ _ (front _ _ clear)))) in
      let n : Counts_out p.counts q.counts (element_kinds of len) = out_declarator file p base d flat c in
      let here : Totals (counted_more true p.counts of len) = subst (λ (b : Bool). Totals (counted_more b p.counts of len)) (outside p flat) (totals_before (out_declarators file q base rest flat (back _ _ clear)) t) in
      let front_kinds : Suits cell_kinds p.counts.cells (element_kinds of len) = suits_front (element_kinds of len) (declared_kinds base rest) s in
      let next : Suits cell_kinds q.counts.cells (declared_kinds base rest) = subst (λ (m : ℕ). Suits cell_kinds m (declared_kinds base rest)) (sym n.cells) (suits_back (element_kinds of len) (declared_kinds base rest) s) in
      let one : (j : ℕ) → Fits (w j) (record { name = d.name; depth = p.depth; of = of; array = is_some d.length; object = object_from p of len }) =
      λ j. record {
        object = subst (λ (o : Object). FitsObject (w j) of o) (sym (outer_is p of len flat)) (outer_fits j p.counts of len (is_spelled base) c.of (length_fits d.length) here front_kinds);
        alone = λ single. ap (λ (o : Object). len_of o) (outer_is p of len flat) ∙ outer_len p.counts of len ∙ single_length d.length single;
      } in
      outer_declarators q base rest flat (back _ _ clear) (λ j. fit_more (w j) p.names (record { name = d.name; depth = p.depth; of = of; array = is_some d.length; object = object_from p of len }) (names j) (one j)) t next k

  is_there : (ds : List ScopedDefinition) (other : ScopedDefinition) (n : ℕ) → n < length ds → slice_get ds n ≡ Some (slice_index_or ds n other)
  is_there [] other n low = absurd (omega arith)
  is_there (d ∷ ds) other zero low = refl
  is_there (d ∷ ds) other (suc n) low = is_there ds other n (omega arith)

  -- a start routine is reached
  start_reached : (n : ℕ) → n < length (definitions unit) → (function_at program n).start ≡ true → plan.alone n ≡ false
  start_reached n low is =
      ap (λ (b : Bool). not b) ((basis.right.reached n low).1 (n, (function_at program n, is_there (definitions unit) (record { start = false; locals = 0; params = []; gives = None; body = empty }) n low, is), (0, refl)))

  -- a function with a body
  one_function : (p : Place) (gives : TypeName) (name : ℕ) (params : List Param) (body : Statement) → p.in_loop ≡ false → ((k : ℕ) → FitAll (w k) p.names)
      → p.function < length (definitions unit) → is_no_operand (value_type gives) ≡ false
      → params_faults file (into (with_function p name) gives) (is_start_form name gives params) params ≡ [] → body_faults file (into_body p gives name params) body ≡ []
      → AllByRecursion (λ x. IsSome x.name) params → is_block body ≡ true → FitsStatement body → function_at program p.function ≡ scope_function known p gives name params body
      → slice_index_or (kind_lists unit.externals) p.function [] ≡ param_kinds params ++ kinds_in body → Totals (after_body (into_body p gives name params) body).counts → IsFunction program plan p.function
  one_function p gives name params body loop names low operand params_clear body_clear named block formed is lists t =
      let n : ℕ = p.function in
      let q0 : Place = into (with_function p name) gives in
      let q : Place = into_body p gives name params in
      let end : Place = after_body q body in
      let d : ScopedDefinition = scope_function known p gives name params body in
      let at0 : At (w n) n q0 = record { deep = omega arith; same = refl; names = names n } in
      let some : Counted q0.counts q.counts (param_elements params) = counted_params q0 params at0.deep in
      let deep : 0 < q.depth = (let same = params_deep q0 params in let low_ = at0.deep in omega arith) in
      let more : Counted q.counts end.counts (kinds_in body) = counted_body q body deep block in
      let same_kinds : param_elements params ≡ param_kinds params = params_kinds file q0 (is_start_form name gives params) params params_clear named in
      let locals_are : (function_at program n).locals ≡ end.counts.locals = ap (λ (x : ScopedDefinition). x.locals) is in
      let ends : Ends (w n) end.counts = record { locals = omega (arith, locals_are); mutexes = t.mutexes; conds = t.conds; handles = t.handles } in
      let itself : Suits (λ i. slice_index_or (param_kinds params ++ kinds_in body) i Int) 0 (param_kinds params ++ kinds_in body) = suits_itself (param_kinds params ++ kinds_in body) Int in
      let planned : Suits (w n).local_kinds 0 (param_kinds params ++ kinds_in body) = subst (λ (xs : List IntType). Suits (λ i. slice_index_or xs i Int) 0 (param_kinds params ++ kinds_in body)) (sym lists) itself in
      let all : Suits (w n).local_kinds 0 (param_elements params ++ kinds_in body) = subst (λ (xs : List IntType). Suits (w n).local_kinds 0 (xs ++ kinds_in body)) (sym same_kinds) planned in
      let at_q : At (w n) n q = at_params (w n) n file q0 at0 (is_start_form name gives params) params params_clear named (ends_before more ends) (suits_front (param_elements params) (kinds_in body) all) in
      let body_kinds : Suits (w n).local_kinds q.counts.locals (kinds_in body) = subst (λ (k : ℕ). Suits (w n).local_kinds k (kinds_in body)) (sym some.locals) (suits_back (param_elements params) (kinds_in body) all) in
      let here : Here (w n) n gives false q = record { at = at_q; gives = same_gives q0 params; loop = same_loop q0 params ∙ loop } in
      let calls : Allowed (w n) file (statement_calls (scope_body known q body)) = subst (λ (x : ScopedDefinition). Allowed (w n) file (statement_calls x.body)) is (allowed unit facts order basis n low) in
      let code : IsCode (w n) (value_kind (value_type gives)) false (scope_body known q body) =
      body_code (w n) unit facts n (rights unit facts order basis n) (threads unit facts order basis n) gives operand q here body block body_clear formed calls ends body_kinds in
      record {
        room = subst (λ (x : ScopedDefinition). length x.params ≤ x.locals) (sym is) (let l = some.locals in let m = more.locals in let k = ap (λ (xs : List IntType). length xs) same_kinds in omega (arith, l, m, k));
        kinds = subst (λ (x : ScopedDefinition). (i : ℕ) → i < length x.params → plan.local_kinds n i ≡ slice_index_or x.params i Int) (sym is)
            (λ i below. ap (λ (xs : List IntType). slice_index_or xs i Int) lists ∙ get_front_or (param_kinds params) (kinds_in body) i below);
        routine = λ starts.
            let form : is_start_form name gives params ≡ true = sym (ap (λ (x : ScopedDefinition). x.start) is) ∙ starts in
            let parts = and_parts (is_pointer (value_type gives)) (is_one_pointer (bases params)) form in
            (ap (λ (x : ScopedDefinition). x.params) is ∙ start_params params parts.1, ap (λ (x : ScopedDefinition). x.gives) is ∙ pointer_gives (value_type gives) parts.0, start_reached n low starts);
        body = subst (λ (x : ScopedDefinition). IsCode (w n) x.gives false x.body) (sym is) code;
      }

  functions_fit : (p : Place) (es : List ExternalDeclaration) → p.depth ≡ 0 → p.in_loop ≡ false → externals_faults file p es ≡ [] → AllByRecursion FitsExternal es → ((k : ℕ) → FitAll (w k) p.names)
      → p.function + length (scope_externals known p es) ≡ length (definitions unit) → Suits (λ n. function_at program n) p.function (scope_externals known p es)
      → Suits (λ n. slice_index_or (kind_lists unit.externals) n []) p.function (kind_lists es) → Suits cell_kinds p.counts.cells (cell_kinds_of es) → Totals (after_externals p es).counts
      → (k : ℕ) → k < length (scope_externals known p es) → IsFunction program plan (p.function + k)
  unfolding externals_faults external_faults scope_externals after_externals after_external
  functions_fit p [] flat loop clear formed names whole defs lists cells t k low = absurd (omega arith)
  functions_fit p (objects hidden of ∷ rest) flat loop clear formed names whole defs lists cells t k low =
      let q : Place = with_declaration p of in
      let kinds : List IntType = declared_kinds of.base of.declarators in
      let same : q.function ≡ p.function = flat_function p of.base of.declarators in
      let q_flat : q.depth ≡ 0 = flat_declarators p of.base of.declarators ∙ flat in
      let n : Counts_out p.counts q.counts kinds = out_declarators file p of.base of.declarators flat (back _ _ (front _ _ clear)) in
      let totals : Totals q.counts = totals_before (out_externals file q rest q_flat (back _ _ clear) formed.1) t in
      let all = functions_fit q rest q_flat (flat_loop p of.base of.declarators ∙ loop) (back _ _ clear) formed.1
      (outer_declarators p of.base of.declarators flat (back _ _ (front _ _ clear)) names totals (suits_front kinds (cell_kinds_of rest) cells))
      (ap (λ (m : ℕ). m + length (scope_externals known q rest)) same ∙ whole)
      (subst (λ (m : ℕ). Suits (λ i. function_at program i) m (scope_externals known q rest)) (sym same) defs)
      (subst (λ (m : ℕ). Suits (λ i. slice_index_or (kind_lists unit.externals) i []) m (kind_lists rest)) (sym same) lists)
      (subst (λ (m : ℕ). Suits cell_kinds m (cell_kinds_of rest)) (sym n.cells) (suits_back kinds (cell_kinds_of rest) cells)) t k low in
      subst (λ (m : ℕ). IsFunction program plan (m + k)) same all
  functions_fit p (prototype line lead gives name params void_word ∷ rest) flat loop clear formed names whole defs lists cells t k low =
      functions_fit (with_function p name) rest flat loop (back _ _ clear) formed.1 names whole defs lists cells t k low
  functions_fit p (function line hidden gives name params void_word body ∷ rest) flat loop clear formed names whole defs lists cells t zero low =
      let q : Place = past p name (after_body (into_body p gives name params) body) in
      let here : p.function ≡ p.function + 0 = omega arith in
      let operand : is_no_operand (value_type gives) ≡ false = six (has_object p name || is_defined_before (function_named file.functions name) p.function) (takes_known file name) (is_no_operand (value_type gives))
      (is_pointer (value_type gives) && not (is_start_form name gives params)) (is_refused gives) (is_high file p.function) (no_rules line _ (front _ _ (front _ _ clear))) in
      subst (λ (m : ℕ). IsFunction program plan m) here
      (one_function p gives name params body loop names (omega (arith, whole)) operand (front _ _ (back _ _ (front _ _ clear))) (back _ _ (back _ _ (front _ _ clear))) formed.0.1 formed.0.2 formed.0.3
      (suits_head defs) (suits_head lists) (totals_before (out_externals file q rest flat (back _ _ clear) formed.1) t))
  functions_fit p (function line hidden gives name params void_word body ∷ rest) flat loop clear formed names whole defs lists cells t (suc k) low =
      let inner : Place = after_body (into_body p gives name params) body in
      let q : Place = past p name inner in
      let n : Counts_out p.counts inner.counts [] = out_external_function p gives name params body formed.0.2 in
      let same_cells : p.counts.cells ≡ inner.counts.cells = (let c = n.cells in omega arith) in
      let all = functions_fit q rest flat loop (back _ _ clear) formed.1 names (omega (arith, whole)) (suits_rest defs) (suits_rest lists)
      (subst (λ (m : ℕ). Suits cell_kinds m (cell_kinds_of rest)) same_cells cells) t k (omega (arith, low)) in
      let next : q.function + k ≡ p.function + suc k = omega arith in
      subst (λ (m : ℕ). IsFunction program plan m) next all

  -- ---- the whole program

  final : Counts_out opening.counts (after_externals opening unit.externals).counts (cell_kinds_of unit.externals)
  final = out_externals file opening unit.externals refl basis.clear basis.formed

  totals : Totals (after_externals opening unit.externals).counts
  totals = record {
    cells = (let a = final.cells in let b = cells_length file opening unit.externals basis.clear in omega arith);
    mutexes = omega arith;
    conds = omega arith;
    handles = omega arith;
  }

  no_params : (xs : List IntType) → length xs ≡ 0 → xs ≡ []
  no_params [] e = refl
  no_params (x ∷ xs) e = absurd (omega arith)

  pub program_scoped : IsWellScoped program
  unfolding file_with
  program_scoped =
      let m = is_main_of unit facts order basis in
      let number : program.main ≡ m.number = main_number unit facts order basis in
      let a = is_agreed unit facts order basis m.number m.signature m.got in
      let int_given : value_type m.signature.gives ≡ sorts.Integer Int = right_gives file m.signature m.right in
      record {
        plan = plan;
        cells = cells_are_words unit.externals;
        few = (let c = final.cells in let b = cells_length file opening unit.externals basis.clear in let r = final.few (omega arith) (omega arith) in let x = r.0 in let y = r.1 in omega arith);
        there = subst (λ (i : ℕ). i < length (definitions unit)) (sym number) a.1;
        main = subst (λ (i : ℕ). ((function_at program i).params ≡ []) × ((function_at program i).start ≡ false) × ((function_at program i).gives ≡ Some Int)) (sym number) (
          no_params _ (a.0.params ∙ right_none file m.signature m.right),
          a.0.start ∙ ap (λ (of : ValueType). is_pointer of && is_one_pointer m.signature.params) int_given,
          a.0.gives ∙ ap (λ (of : ValueType). value_kind of) int_given,
        );
        each = λ f low.
            let one = functions_fit opening unit.externals refl refl basis.clear basis.formed (λ k. tt) (omega arith)
            (suits_itself (definitions unit) (record { start = false; locals = 0; params = []; gives = None; body = empty })) (suits_itself (kind_lists unit.externals) [])
            (suits_itself (cell_kinds_of unit.externals) Int) totals f low in
            let same : 0 + f ≡ f = omega arith in
            subst (λ (i : ℕ). IsFunction program plan i) same one;
      }

pub well_scoped : (unit : TranslationUnit) (order : List ℕ) → IsWellFormed unit → AreFaults unit [] → IsCallOrder (scoped_of unit).functions order → IsWellScoped (scoped_of unit)
unfolding scoped_of file_faults
well_scoped unit order formed a ordered =
    let clear = sym a.listed in
    program_scoped unit a.facts order (record {
      clear = front _ _ clear;
      main = not_false (has_main (file_with unit a.facts)) (not_when _ NoMain (no_rules 0 _ (back _ _ clear)));
      right = a.right;
      ordered = ordered;
      formed = formed.fits;
    })
