-- Declarations in functions that break no rule declare objects that fit, with values that fit them.
use Rattle.std.proofs.Common.{◌≡◌, ℕ, ◌+◌, ◌<◌, ◌≤◌, nat_le, nat_lt, Bool, true, false, not, ◌&&◌, ◌||◌, List, [], ◌∷◌, ◌++◌, length, replicate, Option, Some, None, is_some, inl, inr, refl, sym, ap, ◌∙◌, subst, arith, if◌then◌else◌}
use Rattle.std.proofs.lemmas.Bool.{cases_lt, lt-ltb, leb-true, and_parts, or_parts, both_ways}
use Rattle.lz_base.proofs.ListLemmas.{nil_front as front, nil_back as back}
use Rattle.lz_base.specs.Limits.{length_limit}
use Rattle.lz_base.specs.declared.word.IntType.{IntType}
use Rattle.lz_base.specs.declared.word.IntType.TheVariants.{Unsigned}
use Rattle.lz_tree.specs.declared.expression.TypeName.{TypeName}
use Rattle.lz_tree.specs.declared.expression.TypeName.TheVariants as spelled
use Rattle.lz_tree.specs.declared.scoped.Object.{Object}
use Rattle.lz_tree.specs.declared.scoped.Object.TheVariants as object
use Rattle.lz_tree.specs.declared.scoped.Object.TheVariants.{Local, Handle}
use Rattle.lz_tree.specs.Calls.{initializer_calls, declarators_calls}
use Rattle.lz_tree.specs.Trees.{Expression, Expressions, Initializer, nothing, single, listed, mutex, cond, InitDeclarator, TranslationUnit}
use Rattle.lz_tree.specs.ScopedTrees as tree
use Rattle.lz_tree.specs.Kinds.{len_of}
use Rattle.lz_tree.specs.WellFormed.{FitsInitializer, FitsDeclarator}
use Rattle.std.specs.List.{AllByRecursion}
use Rattle.lz_tree.specs.WellScoped.{Setting, IsLength, IsInteger, IsFirst, IsDeclared, AreDeclared, number_of}
use Rattle.lz_scopes.specs.declared.constant.Word.{Word}
use Rattle.lz_scopes.specs.declared.fault.Rule.TheVariants.{DeclaredTwice, KnownNameTaken, TypeMisfit, BadLength, NotConstant, BadInitializer, ThreadInThread, LocalMutex, ManyElements}
use Rattle.lz_scopes.specs.declared.place.Counts.{Counts}
use Rattle.lz_scopes.specs.declared.place.Place.{Place}
use Rattle.lz_scopes.specs.declared.value_types.ValueType.{ValueType}
use Rattle.lz_scopes.specs.declared.value_types.ValueType.TheVariants as sorts
use Rattle.lz_scopes.specs.ValueTypes as values
use Rattle.lz_scopes.specs.ValueTypes.{value_type, kind_of, want_of, is_nothing, is_pointer, is_thread, is_lock, is_no_operand}
use Rattle.lz_scopes.specs.Constants.{elements, is_bad_length, constant_value, length_in, is_constant_initializer}
use Rattle.lz_scopes.specs.Scopes.{is_outside, around, has_object, object_from, counted_more, with_declarator, with_declarators}
use Rattle.lz_scopes.specs.Files.{File, Facts, file_with, bare, is_reached}
use Rattle.lz_scopes.specs.ExpressionTypes.{count, is_in_thread}
use Rattle.lz_resolve.specs.ScopedPrograms.{scope_initializer, scope_all, scope_declarators}
use Rattle.lz_base.specs.Limits.{element_limit}
use Rattle.lz_types.specs.Faults.{at, is_over, is_bad_initializer, meets_function, takes_known, declarator_rules, initializer_faults, declarators_faults}
use Rattle.lz_scoping.proofs.TypesLemmas.{no_rules, no_truth, needs_of}
use Rattle.lz_scoping.proofs.NumberingLemmas.{Suits, suits_front, suits_back, suits_replicate, element_kinds, declared_kinds, Counted, counted_object, counted_declarators, not_outside}
use Rattle.lz_scoping.proofs.PlacesLemmas.{FitsObject, Fits, At, fit_more}
use Rattle.lz_scoping.proofs.ArgumentsLemmas.{Good, good_value, Rights, Args, further_values, number_counts}
use Rattle.lz_scoping.proofs.ExpressionLemmas.{Allowed, allowed_front, allowed_back}
use Rattle.lz_scoping.proofs.TypesLemmas.{plain_of}
use Rattle.lz_scoping.proofs.WalkLemmas.{good, all_good, further_of}

-- ---- lengths

-- The number of elements, and how many values it may have.
record Long (e : Expression) : Type 0 where
  length_ : IsLength (elements (Some e))
  room : is_bad_length (Some e) ≡ false → (n : ℕ) → is_over (length_in (constant_value e)) n ≡ false → n ≤ elements (Some e)

not_over : (m n : ℕ) → nat_lt m n ≡ false → n ≤ m
not_over m n e = elim (cases_lt m n) [ inl low ↦ absurd (both_ways (nat_lt m n) e (lt-ltb m n low)) | inr high ↦ high ]

long_at : (e : Expression) (a : Word) (b : Bool) → constant_value e ≡ Some a → (nat_le 1 a.value && nat_le a.value length_limit) ≡ b → Long e
long_at e a true is fits =
    let parts = and_parts (nat_le 1 a.value) (nat_le a.value length_limit) fits in
    let low : 1 ≤ a.value = leb-true 1 a.value parts.0 in
    let high : a.value ≤ length_limit = leb-true a.value length_limit parts.1 in
    record { length_ = rw (is, fits) (record { least = low; most = high }); room = rw (is, fits) (λ right n e. not_over a.value n e) }
long_at e a false is fits = record { length_ = rw (is, fits) (record { least = omega arith; most = omega arith }); room = rw (is, fits) (λ right n e. no_truth (sym right)) }

long : (e : Expression) (o : Option Word) → constant_value e ≡ o → Long e
long e None is = record { length_ = rw is (record { least = omega arith; most = omega arith }); room = rw is (λ right n e. no_truth (sym right)) }
long e (Some a) is = long_at e a (nat_le 1 a.value && nat_le a.value length_limit) is refl

pub length_fits : (e : Option Expression) → IsLength (elements e)
length_fits None = record { least = omega arith; most = omega arith }
length_fits (Some e) = (long e (constant_value e) refl).length_

pub values_fit : (of : ValueType) (length : Option Expression) (values : Expressions) (comma : Bool) → is_bad_length length ≡ false → is_bad_initializer of length (listed values comma) ≡ false → count values ≤ elements length
values_fit of None values comma right fits = no_truth (sym fits)
values_fit of (Some e) values comma right fits = (long e (constant_value e) refl).room right (count values) (or_parts (is_over (length_in (constant_value e)) (count values)) (is_no_operand of) fits).0

-- ---- rules of a declarator

-- The rules that a declarator does not break.
pub record Clean (file : File) (p : Place) (base : TypeName) (d : InitDeclarator) : Type 0 where
  pub of : (is_nothing (value_type base) || is_pointer (value_type base)) ≡ false
  pub length_ : is_bad_length d.length ≡ false
  pub first_ : is_bad_initializer (value_type base) d.length d.first ≡ false
  pub thread : (is_thread (value_type base) && is_in_thread file (around p)) ≡ false
  pub lock : (not (is_outside p) && is_lock (value_type base)) ≡ false
  pub few : (is_outside p && nat_lt element_limit ((with_declarator p base d).counts.elements)) ≡ false

nine : (a b c d e f g h i : Bool)
    → (values.when a DeclaredTwice ++ (values.when b KnownNameTaken ++ (values.when c TypeMisfit ++ values.when d BadLength)))
    ++ (values.when e NotConstant ++ (values.when f BadInitializer ++ (values.when g ThreadInThread ++ (values.when h LocalMutex ++ values.when i ManyElements)))) ≡ []
    → (c ≡ false) × (d ≡ false) × (f ≡ false) × (g ≡ false) × (h ≡ false) × (i ≡ false)
nine true b c d e f g h i n = absurd cc
nine false true c d e f g h i n = absurd cc
nine false false true d e f g h i n = absurd cc
nine false false false true e f g h i n = absurd cc
nine false false false false true f g h i n = absurd cc
nine false false false false false true g h i n = absurd cc
nine false false false false false false true h i n = absurd cc
nine false false false false false false false true i n = absurd cc
nine false false false false false false false false true n = absurd cc
nine false false false false false false false false false n = (refl, refl, refl, refl, refl, refl)

pub clean : (file : File) (p : Place) (base : TypeName) (d : InitDeclarator) → declarator_rules file p base d ≡ [] → Clean file p base d
clean file p base d e =
    let r = nine (has_object p d.name || meets_function p d.name) (takes_known file d.name) (is_nothing (value_type base) || is_pointer (value_type base)) (is_bad_length d.length)
    (is_outside p && not (is_constant_initializer d.first)) (is_bad_initializer (value_type base) d.length d.first) (is_thread (value_type base) && is_in_thread file (around p))
    (not (is_outside p) && is_lock (value_type base)) (is_outside p && nat_lt element_limit ((with_declarator p base d).counts.elements)) e in
    record { of = r.0; length_ = r.1; first_ = r.2; thread = r.3; lock = r.4; few = r.5 }

-- ---- objects in functions

-- What is counted is at most what the setting has.
pub record Ends (w : Setting) (c : Counts) : Type 0 where
  pub locals : c.locals ≤ w.locals
  pub mutexes : c.mutexes ≤ w.mutexes
  pub conds : c.conds ≤ w.conds
  pub handles : c.handles ≤ w.handles

pub ends_before : {w : Setting} {c d : Counts} {xs : List IntType} → Counted c d xs → Ends w d → Ends w c
ends_before {w} {c} {d} {xs} n e = record {
  locals = (let a = n.locals in let b = e.locals in omega arith);
  mutexes = (let a = n.mutexes in let b = e.mutexes in omega arith);
  conds = (let a = n.conds in let b = e.conds in omega arith);
  handles = (let a = n.handles in let b = e.handles in omega arith);
}

-- a type that objects are declared with
abbrev pub IsSpelled : ValueType → Type 0
IsSpelled sorts.Function = ⊥
IsSpelled of = Unit {0}

pub is_spelled : (base : TypeName) → IsSpelled (value_type base)
is_spelled spelled.Unsigned = tt
is_spelled _ = tt

-- the object in a function
abbrev pub inner_object : Counts → ValueType → ℕ → Object
inner_object c sorts.Thread len = Handle c.handles len
inner_object c sorts.Mutex len = object.Mutex c.mutexes len
inner_object c sorts.Cond len = object.Cond c.conds len
inner_object c of len = Local c.locals len (kind_of of)

inner_is : (p : Place) (of : ValueType) (len : ℕ) → 0 < p.depth → object_from p of len ≡ inner_object p.counts of len
inner_is p sorts.Thread len deep = refl
inner_is p sorts.Mutex len deep = refl
inner_is p sorts.Cond len deep = refl
inner_is p (sorts.Integer kind) len deep = rw (not_outside p deep) refl
inner_is p sorts.Pointer len deep = rw (not_outside p deep) refl
inner_is p sorts.Nothing len deep = rw (not_outside p deep) refl
inner_is p sorts.Function len deep = rw (not_outside p deep) refl

local_fits : (w : Setting) (c : Counts) (kind : IntType) (len : ℕ) → IsLength len → c.locals + len ≤ w.locals → Suits w.local_kinds c.locals (replicate len kind) → IsInteger w (Local c.locals len kind)
local_fits w c kind len l within s = (record { length_ = l; within = within }, record { each = λ i low. suits_replicate len kind s i low })

-- it fits, where it is no mutex and no condition
pub object_fits : (w : Setting) (c : Counts) (of : ValueType) (len : ℕ) → IsSpelled of → is_nothing of ≡ false → is_lock of ≡ false → IsLength len → Ends w (counted_more false c of len) → Suits w.local_kinds c.locals (element_kinds of len)
    → FitsObject w of (inner_object c of len)
object_fits w c (sorts.Integer kind) len is plain free l e s = (local_fits w c kind len l e.locals s, refl)
object_fits w c sorts.Pointer len is plain free l e s = (local_fits w c Unsigned len l e.locals s, refl)
object_fits w c sorts.Thread len is plain free l e s = record { length_ = l; within = e.handles }
object_fits w c sorts.Nothing len is plain free l e s = no_truth (sym plain)
object_fits w c sorts.Mutex len is plain free l e s = no_truth (sym free)
object_fits w c sorts.Cond len is plain free l e s = no_truth (sym free)
object_fits w c sorts.Function len is plain free l e s = absurd is

inner_len : (c : Counts) (of : ValueType) (len : ℕ) → len_of (inner_object c of len) ≡ len
inner_len c sorts.Thread len = refl
inner_len c _ len = refl

pub inner_counts : (w : Setting) (p : Place) (of : ValueType) (len : ℕ) → 0 < p.depth → Ends w (counted_more (is_outside p) p.counts of len) → Ends w (counted_more false p.counts of len)
inner_counts w p of len deep e = subst (λ (b : Bool). Ends w (counted_more b p.counts of len)) (not_outside p deep) e

pub at_object : (w : Setting) (f : ℕ) (p : Place) (name : ℕ) (of : ValueType) (array : Bool) (len : ℕ) → At w f p → (array ≡ false → len ≡ 1) → FitsObject w of (inner_object p.counts of len)
    → Fits w (record { name = name; depth = p.depth; of = of; array = array; object = object_from p of len })
at_object w f p name of array len at alone fits = record {
  object = subst (λ (o : Object). FitsObject w of o) (sym (inner_is p of len at.deep)) fits;
  alone = λ single_one. ap (λ (o : Object). len_of o) (inner_is p of len at.deep) ∙ inner_len p.counts of len ∙ alone single_one;
}

or_false_parts : (a b : Bool) → (a || b) ≡ false → (a ≡ false) × (b ≡ false)
or_false_parts a b e = or_parts a b e

pub single_length : (e : Option Expression) → is_some e ≡ false → elements e ≡ 1
single_length None e = refl
single_length (Some x) e = no_truth (sym e)

lock_free : (p : Place) (of : ValueType) → 0 < p.depth → (not (is_outside p) && is_lock of) ≡ false → is_lock of ≡ false
lock_free p of deep e = ap (λ (b : Bool). not b && is_lock of) (sym (not_outside p deep)) ∙ e

-- ---- declarators

module _ (w : Setting) (unit : TranslationUnit) (facts : Facts) (f : ℕ) (rights : Rights w (file_with unit facts)) (threads : is_reached (file_with unit facts) f ≡ false → w.threads ≡ true) where
  abbrev known : File
  known = bare unit

  abbrev file : File
  file = file_with unit facts

  around_in : (p : Place) → At w f p → around p ≡ Some f
  around_in p at = ap (λ (b : Bool). if b then None else Some p.function) (not_outside p at.deep) ∙ ap (λ (n : ℕ). Some n) at.same

  -- the values of an initializer fit
  first_fits : (q : Place) → At w f q → (base : TypeName) (length : Option Expression) (first : Initializer) → is_bad_length length ≡ false → is_bad_initializer (value_type base) length first ≡ false
      → initializer_faults file q base first ≡ [] → FitsInitializer first → Allowed w file (initializer_calls (scope_initializer known q first)) → IsFirst w (elements length) (scope_initializer known q first)
  first_fits q at base length nothing right fits clear formed calls = tt
  first_fits q at base length (single e) right fits clear formed calls =
      let g : Good w known file q (want_of (value_type base)) e = (good w unit facts f rights threads q at (want_of (value_type base)) e clear formed calls).good (plain_of (value_type base)) in
      (g.scoped, good_value g (needs_of (value_type base)), single_length length (or_parts (is_some length) (is_no_operand (value_type base)) fits).0)
  first_fits q at base length (listed vs comma) right fits clear formed calls =
      let a : Args w known q [] vs = all_good w unit facts f rights threads q at [] (want_of (value_type base)) (further_of (value_type base)) tt vs clear formed.1 calls tt in
      let n : number_of (scope_all known q vs) ≡ count vs = number_counts known q vs in
      let low : count vs ≤ elements length = values_fit (value_type base) length vs comma right fits in
      (further_values w known q vs a, subst (λ (m : ℕ). m ≤ elements length) (sym n) low)
  first_fits q at base length mutex right fits clear formed calls = tt
  first_fits q at base length cond right fits clear formed calls = tt

  no_first : (q : Place) (of : ValueType) (length : Option Expression) (first : Initializer) → is_thread of ≡ true → is_bad_initializer of length first ≡ false → scope_initializer known q first ≡ tree.nothing
  no_first q of length nothing is fits = refl
  no_first q sorts.Thread length (single e) is fits = no_truth (sym (or_parts (is_some length) true fits).1)
  no_first q sorts.Thread None (listed vs comma) is fits = no_truth (sym fits)
  no_first q sorts.Thread (Some e) (listed vs comma) is fits = no_truth (sym (or_parts (is_over (length_in (constant_value e)) (count vs)) true fits).1)
  no_first q of length mutex is fits = refl
  no_first q of length cond is fits = refl
  no_first q _ length (single e) is fits = no_truth is
  no_first q _ length (listed vs comma) is fits = no_truth is

  -- a declared object with its initializer
  declared : (p : Place) → At w f p → (of : ValueType) (len : ℕ) (first : tree.ScopedInitializer) → IsSpelled of → is_nothing of ≡ false → is_pointer of ≡ false → is_lock of ≡ false → FitsObject w of (inner_object p.counts of len)
      → (is_thread of ≡ true → w.threads ≡ true) → (is_thread of ≡ true → first ≡ tree.nothing) → IsFirst w len first → IsDeclared w (inner_object p.counts of len) first
  declared p at (sorts.Integer kind) len first is plain other free fits t n v = (fits.0, v)
  declared p at sorts.Thread len first is plain other free fits t n v = ((fits, t refl), n refl)
  declared p at sorts.Pointer len first is plain other free fits t n v = no_truth (sym other)
  declared p at sorts.Nothing len first is plain other free fits t n v = no_truth (sym plain)
  declared p at sorts.Mutex len first is plain other free fits t n v = no_truth (sym free)
  declared p at sorts.Cond len first is plain other free fits t n v = no_truth (sym free)
  declared p at sorts.Function len first is plain other free fits t n v = absurd is

  and_second : (a b : Bool) → (a && b) ≡ false → a ≡ true → b ≡ false
  and_second true b e h = e
  and_second false b e h = no_truth h

  -- behind a declarator the objects fit
  pub at_declarator : (p : Place) → At w f p → (base : TypeName) (d : InitDeclarator) → Clean file p base d → Ends w (with_declarator p base d).counts → Suits w.local_kinds p.counts.locals (element_kinds (value_type base) (elements d.length)) → At w f (with_declarator p base d)
  at_declarator p at base d clear e s =
      let of : ValueType = value_type base in
      let len : ℕ = elements d.length in
      let fits : FitsObject w of (inner_object p.counts of len) =
      object_fits w p.counts of len (is_spelled base) (or_parts (is_nothing of) (is_pointer of) clear.of).0 (lock_free p of at.deep clear.lock) (length_fits d.length) (inner_counts w p of len at.deep e) s in
      record {
        deep = at.deep;
        same = at.same;
        names = fit_more w p.names (record { name = d.name; depth = p.depth; of = of; array = is_some d.length; object = object_from p of len }) at.names
            (at_object w f p d.name of (is_some d.length) len at (single_length d.length) fits);
      }

  pub one_declared : (p : Place) → At w f p → (base : TypeName) (d : InitDeclarator) → Clean file p base d → Ends w (with_declarator p base d).counts → Suits w.local_kinds p.counts.locals (element_kinds (value_type base) (elements d.length))
      → initializer_faults file (with_declarator p base d) base d.first ≡ [] → FitsDeclarator d → Allowed w file (initializer_calls (scope_initializer known (with_declarator p base d) d.first))
      → IsDeclared w (object_from p (value_type base) (elements d.length)) (scope_initializer known (with_declarator p base d) d.first)
  one_declared p at base d clear e s first_clear formed calls =
      let of : ValueType = value_type base in
      let len : ℕ = elements d.length in
      let q : Place = with_declarator p base d in
      let fits : FitsObject w of (inner_object p.counts of len) =
      object_fits w p.counts of len (is_spelled base) (or_parts (is_nothing of) (is_pointer of) clear.of).0 (lock_free p of at.deep clear.lock) (length_fits d.length) (inner_counts w p of len at.deep e) s in
      let value : IsFirst w len (scope_initializer known q d.first) = first_fits q (at_declarator p at base d clear e s) base d.length d.first clear.length_ clear.first_ first_clear formed.1 calls in
      let thread : is_thread of ≡ true → w.threads ≡ true = λ is. threads (ap (λ (o : Option ℕ). is_in_thread file o) (sym (around_in p at)) ∙ and_second (is_thread of) (is_in_thread file (around p)) clear.thread is) in
      subst (λ (o : Object). IsDeclared w o (scope_initializer known q d.first)) (sym (inner_is p of len at.deep))
      (declared p at of len (scope_initializer known q d.first) (is_spelled base) (or_parts (is_nothing of) (is_pointer of) clear.of).0 (or_parts (is_nothing of) (is_pointer of) clear.of).1 (lock_free p of at.deep clear.lock) fits
      thread (λ is. no_first q of d.length d.first is clear.first_) value)

  -- all declarators of a declaration
  pub all_declared : (p : Place) → At w f p → (base : TypeName) (ds : List InitDeclarator) → declarators_faults file p base ds ≡ [] → AllByRecursion FitsDeclarator ds
      → Allowed w file (declarators_calls (scope_declarators known p base ds)) → Ends w (with_declarators p base ds).counts → Suits w.local_kinds p.counts.locals (declared_kinds base ds)
      → AreDeclared w (scope_declarators known p base ds) × At w f (with_declarators p base ds)
  unfolding declarators_faults scope_declarators
  all_declared p at base [] clear formed calls e s = (tt, at)
  all_declared p at base (d ∷ rest) clear formed calls e s =
      let q : Place = with_declarator p base d in
      let kinds : List IntType = element_kinds (value_type base) (elements d.length) in
      let counted_one : Counted p.counts q.counts kinds = counted_object p (value_type base) (elements d.length) at.deep in
      let ends : Ends w q.counts = ends_before (counted_declarators q base rest at.deep) e in
      let here : Suits w.local_kinds p.counts.locals kinds = suits_front kinds (declared_kinds base rest) s in
      let next : Suits w.local_kinds q.counts.locals (declared_kinds base rest) = subst (λ (n : ℕ). Suits w.local_kinds n (declared_kinds base rest)) (sym counted_one.locals) (suits_back kinds (declared_kinds base rest) s) in
      let c : Clean file p base d = clean file p base d (no_rules d.line _ (front _ _ (front _ _ (front _ _ clear)))) in
      let at_next : At w f q = at_declarator p at base d c ends here in
      let more = all_declared q at_next base rest (back _ _ clear) formed.1 (allowed_back _ _ (allowed_back _ _ calls)) e next in
      ((one_declared p at base d c ends here (back _ _ (front _ _ clear)) formed.0 (allowed_front _ _ (allowed_back _ _ calls)), more.0), more.1)
