-- Expressions that break no rule are scoped.
use Rattle.std.proofs.Common.{◌≡◌, ℕ, ◌+◌, Bool, true, false, ◌&&◌, ◌||◌, List, [], ◌++◌, length, slice_get, Option, Some, None, refl, sym, ap, ◌∙◌, if◌then◌else◌}
use Rattle.std.specs.List.{Contains}
use Rattle.std.proofs.lemmas.List.Elements.{Contains-append_left, Contains-append_right}
use Rattle.lz_base.proofs.ListLemmas.{nil_front as front, nil_back as back}
use Rattle.lz_base.specs.declared.word.IntType.{IntType}
use Rattle.lz_base.specs.declared.operator.Unary.{Unary}
use Rattle.lz_base.specs.declared.operator.Binary.{Binary}
use Rattle.lz_tree.specs.declared.token.Form.{Form}
use Rattle.lz_tree.specs.declared.expression.TypeName.{TypeName}
use Rattle.lz_tree.specs.declared.scoped.KnownName.{KnownName}
use Rattle.lz_tree.specs.declared.scoped.KnownName.TheVariants as known_names
use Rattle.lz_tree.specs.declared.scoped.Object.{Object}
use Rattle.lz_tree.specs.declared.scoped.Object.TheVariants.{Routine, Known}
use Rattle.lz_tree.specs.Kinds.{kind_of}
use Rattle.lz_tree.specs.Trees.{Expression, constant, null, object, paren, unary, cast, binary, choose, assign, step, Index}
use Rattle.lz_tree.specs.WellFormed.{MayAssign}
use Rattle.lz_tree.specs.WellScoped.{Setting, IsScoped, kind_at, unary_result, joint_kind}
use Rattle.lz_scopes.specs.declared.fault.Rule.TheVariants.{TypeMisfit}
use Rattle.lz_scopes.specs.declared.place.Place.{Place}
use Rattle.lz_scopes.specs.declared.value_types.ValueType.{ValueType}
use Rattle.lz_scopes.specs.declared.value_types.ValueType.TheVariants.{Integer, Pointer}
use Rattle.lz_scopes.specs.declared.value_types.Want.{Want}
use Rattle.lz_scopes.specs.declared.value_types.Want.TheVariants as wants
use Rattle.lz_scopes.specs.ValueTypes.{want_of, value_type, clash, is_pointer, counted}
use Rattle.lz_scopes.specs.Constants.{constant_kind, unary_kind, binary_kind}
use Rattle.lz_scopes.specs.Names.{nearest}
use Rattle.lz_scopes.specs.Scopes.{named, called_by, function_meant}
use Rattle.lz_scopes.specs.Files.{File, known_at, function_named}
use Rattle.lz_scopes.specs.ExpressionTypes.{callee, wants_of, given, type_of, type_at, own, integer_kind, as_inner, chosen, choice_want, assigned_type, misuse, is_only_started, has_index}
use Rattle.lz_scopes.specs.ExpressionTypes as types
use Rattle.lz_resolve.specs.ScopedPrograms.{value_kind, scope}
use Rattle.lz_types.specs.Faults.{at, target, object_target}
use Rattle.lz_scoping.proofs.TypesLemmas.{no_rules, not_when, Meets, meets, meets_integer, operand, needed, needs_of, integer_is, IsPlain, IsValue, kind_is, has_value, unary_gives, binary_gives, chosen_kind, inner_is, constant_word}
use Rattle.lz_scoping.proofs.PlacesLemmas.{At, Indexes, Target, target_fits, assigned_operand}
use Rattle.lz_scoping.proofs.ArgumentsLemmas.{Good, good_value}

-- ---- calls that a function may make

-- A function of the file that another may call, if it is not only started; it takes and gives what the file says.
pub record Callable (w : Setting) (file : File) (n : ℕ) : Type 0 where
  pub may : is_only_started file (slice_get file.functions n) ≡ false → w.may_call n
  pub takes_ : length (w.params n) ≡ length (wants_of file (Some (Routine n)))
  pub gives : w.gives n ≡ value_kind (given file (Some (Routine n)))

-- So are all functions in a list.
pub record Allowed (w : Setting) (file : File) (calls : List ℕ) : Type 0 where
  pub each : (n : ℕ) → Contains calls n → Callable w file n

pub allowed_front : {w : Setting} {file : File} (xs ys : List ℕ) → Allowed w file (xs ++ ys) → Allowed w file xs
allowed_front xs ys a = record { each = λ n c. a.each n (Contains-append_left xs ys n c) }

pub allowed_back : {w : Setting} {file : File} (xs ys : List ℕ) → Allowed w file (xs ++ ys) → Allowed w file ys
allowed_back xs ys a = record { each = λ n c. a.each n (Contains-append_right xs ys n c) }

-- what a callee can be
abbrev pub IsCalled : Option Object → Type 0
IsCalled None = Unit {0}
IsCalled (Some (Routine n)) = Unit {0}
IsCalled (Some (Known k)) = Unit {0}
IsCalled c = ⊥

meant_called : (k : Option KnownName) (d : Option ℕ) → IsCalled (function_meant k d)
meant_called None None = tt
meant_called None (Some n) = tt
meant_called (Some k) (Some n) = known_called k n
  where
    known_called : (k : KnownName) (n : ℕ) → IsCalled (function_meant (Some k) (Some n))
    known_called known_names.ReachError n = tt
    known_called _ n = tt
meant_called (Some k) None = none_called k
  where
    none_called : (k : KnownName) → IsCalled (function_meant (Some k) None)
    none_called known_names.ReachError = tt
    none_called _ = tt

pub callee_called : (file : File) (p : Place) (name : ℕ) → IsCalled (callee file p name)
callee_called file p name = all (nearest p.names name)
  where
    all : (o : _) → IsCalled (called_by o (known_at file name) (function_named file.functions name))
    all None = meant_called (known_at file name) (function_named file.functions name)
    all (Some e) = tt

-- ---- single nodes

not_right : (a b c d : Bool) → a ≡ false → c ≡ false → ((a && b) || (c && d)) ≡ false
not_right a b c d e h = rw (e, h) refl

module _ (w : Setting) (known file : File) (p : Place) where
  node_of : {want : Want} {e : Expression} → IsScoped w (scope known p e) → kind_at (scope known p e) ≡ value_kind (type_of known p e) → type_of known p e ≡ type_of file p e → Meets want (type_of file p e) → Good w known file p want e
  node_of scoped kind same met = record { scoped = scoped; same = same; kind = kind ∙ ap (λ (t : ValueType). value_kind t) same; met = met }

  integer_good : {e : Expression} → Good w known file p wants.Integer e → kind_at (scope known p e) ≡ Some (integer_kind (type_of file p e))
  integer_good {e} g = g.kind ∙ integer_is (type_of file p e) g.met

  pub constant_good : (want : Want) (line value : ℕ) (form : Form) → own file p want (constant line value form) ≡ [] → Good w known file p want (constant line value form)
  unfolding scope type_of
  constant_good want line value form clear =
      node_of (constant_word value form (back _ _ clear), refl) refl refl (meets_integer want (constant_kind value form))

  pub null_good : (want : Want) (line : ℕ) → own file p want (null line) ≡ [] → Good w known file p want (null line)
  unfolding scope type_of
  null_good want line clear = node_of refl refl refl (meets want Pointer (front _ _ clear))

  pub paren_good : (want : Want) (line : ℕ) (e : Expression) → own file p want (paren line e) ≡ [] → Good w known file p wants.Unneeded e → Good w known file p want (paren line e)
  unfolding scope type_of
  paren_good want line e clear g =
      let same : as_inner (type_of known p e) ≡ as_inner (type_of file p e) = ap (λ (t : ValueType). as_inner t) g.same in
      let kind : value_kind (as_inner (type_of known p e)) ≡ kind_at (scope known p e) = ap (λ (t : ValueType). value_kind t) (same ∙ inner_is (type_of file p e) g.met) ∙ sym g.kind in
      node_of (g.scoped, kind) refl same (meets want (as_inner (type_of file p e)) (front _ _ clear))

  pub unary_good : (want : Want) (line : ℕ) (op : Unary) (e : Expression) → Good w known file p wants.Integer e → Good w known file p want (unary line op e)
  unfolding scope type_of
  unary_good want line op e g =
      let k : IntType = integer_kind (type_of file p e) in
      let is : kind_at (scope known p e) ≡ Some k = integer_good g in
      node_of (
        g.scoped,
        has_value (scope known p e) k is,
        ap (λ (t : ValueType). Some (unary_kind op (integer_kind t))) g.same ∙ ap (λ (x : IntType). Some x) (unary_gives op k) ∙ ap (λ (x : IntType). Some (unary_result op x)) (sym (kind_is (scope known p e) k is)),
      )
      refl (ap (λ (t : ValueType). Integer (unary_kind op (integer_kind t))) g.same) (meets_integer want (unary_kind op k))

  pub cast_good : (want : Want) (line : ℕ) (to : TypeName) (e : Expression) → own file p want (cast line to e) ≡ [] → Good w known file p wants.Any e → Good w known file p want (cast line to e)
  unfolding scope type_of
  cast_good want line to e clear g = node_of (g.scoped, good_value g refl) refl refl (meets want (value_type to) (front _ _ clear))

  pub binary_good : (want : Want) (line : ℕ) (op : Binary) (a b : Expression) → Good w known file p wants.Integer a → Good w known file p wants.Integer b → Good w known file p want (binary line op a b)
  unfolding scope type_of
  binary_good want line op a b g h =
      let i : IntType = integer_kind (type_of file p a) in
      let j : IntType = integer_kind (type_of file p b) in
      let left : kind_at (scope known p a) ≡ Some i = integer_good g in
      let right : kind_at (scope known p b) ≡ Some j = integer_good h in
      let l : integer_kind (type_of known p a) ≡ kind_of (scope known p a) = ap (λ (t : ValueType). integer_kind t) g.same ∙ sym (kind_is (scope known p a) i left) in
      let r : integer_kind (type_of known p b) ≡ kind_of (scope known p b) = ap (λ (t : ValueType). integer_kind t) h.same ∙ sym (kind_is (scope known p b) j right) in
      node_of (
        g.scoped,
        has_value (scope known p a) i left,
        h.scoped,
        has_value (scope known p b) j right,
        ap (λ (x : IntType). Some (binary_kind op x (integer_kind (type_of known p b)))) l ∙ ap (λ (x : IntType). Some (binary_kind op (kind_of (scope known p a)) x)) r
            ∙ ap (λ (x : IntType). Some x) (binary_gives op (kind_of (scope known p a)) (kind_of (scope known p b))),
      )
      refl (ap (λ (t : ValueType). Integer (binary_kind op (integer_kind t) (integer_kind (type_of known p b)))) g.same ∙ ap (λ (t : ValueType). Integer (binary_kind op i (integer_kind t))) h.same)
      (meets_integer want (binary_kind op i j))

  pub choose_good : (want : Want) (line : ℕ) (test a b : Expression) → own file p want (choose line test a b) ≡ [] → Good w known file p wants.Integer test
      → Good w known file p (choice_want (type_of file p a) (type_of file p b)) a → Good w known file p (choice_want (type_of file p a) (type_of file p b)) b → Good w known file p want (choose line test a b)
  unfolding scope type_of
  choose_good want line test a b clear t g h =
      let s : ValueType = type_of file p a in
      let u : ValueType = type_of file p b in
      let first : IsValue s = needed (choice_want s u) s (needs_of (chosen s u)) g.met in
      let second : IsValue u = needed (choice_want s u) u (needs_of (chosen s u)) h.met in
      let same : chosen (type_of known p a) (type_of known p b) ≡ chosen s u = ap (λ (x : ValueType). chosen x (type_of known p b)) g.same ∙ ap (λ (x : ValueType). chosen s x) h.same in
      node_of (
        t.scoped,
        good_value t refl,
        g.scoped,
        h.scoped,
        ap (λ (x : ValueType). value_kind x) same ∙ chosen_kind s u first second
            ∙ ap (λ (x : Option IntType). joint_kind x (value_kind u)) (sym g.kind) ∙ ap (λ (x : Option IntType). joint_kind (kind_at (scope known p a)) x) (sym h.kind),
      )
      refl same (meets want (chosen s u) (front _ _ clear))

  pub object_good : (f : ℕ) → At w f p → (want : Want) → IsPlain want → (line name : ℕ) (index : Index) → own file p want (object line name index) ≡ [] → object_target file p want line name index ≡ []
      → Indexes w known p index → Good w known file p want (object line name index)
  unfolding scope type_of
  object_good f at want plain line name index clear target_clear i =
      let right : misuse false (named p name) (has_index index) ≡ [] = no_rules line _ (ap (λ (b : Bool). if b && types.is_function_name file p (object line name index) then [] else target p false line name index) (sym plain.start) ∙ target_clear) in
      let fits : Meets want (type_at p false name index) = meets want (type_at p false name index)
      (ap (λ (b : Bool). if b then [] else clash want (type_at p false name index)) (sym (not_right (types.is_handle_place want) (types.is_handle p (object line name index)) (types.is_start_place want) (types.is_function_name file p (object line name index)) plain.handle plain.start)) ∙ front _ _ clear) in
      let t : Target w known p false name index = target_fits w known f p false name index at right (operand want (type_at p false name index) fits) i in
      node_of (t.integer, t.there (value_kind (type_at p false name index)) ∙ t.kind, t.index_) (t.there (value_kind (type_at p false name index))) refl fits

  assigned_is : (of : ValueType) → is_pointer of ≡ false → assigned_type of ≡ of
  assigned_is of e = ap (λ (b : Bool). if b then counted else of) e

  pub assign_good : (f : ℕ) → At w f p → (want : Want) (line : ℕ) (op : Option Binary) (where_ name : ℕ) (index : Index) (e : Expression) → own file p want (assign line op where_ name index e) ≡ []
      → target p true where_ name index ≡ [] → MayAssign op → Indexes w known p index → Good w known file p (want_of (type_at p true name index)) e → Good w known file p want (assign line op where_ name index e)
  unfolding scope type_of
  assign_good f at want line op where_ name index e clear target_clear may i g =
      let right : misuse true (named p name) (has_index index) ≡ [] = no_rules where_ _ target_clear in
      let t : Target w known p true name index = target_fits w known f p true name index at right (assigned_operand (named p name) (has_index index) right) i in
      let is : assigned_type (type_at p true name index) ≡ type_at p true name index = assigned_is (type_at p true name index) (not_when _ TypeMisfit (front _ _ clear)) in
      node_of (t.integer, t.index_, g.scoped, good_value g (needs_of (type_at p true name index)), may, ap (λ (x : ValueType). value_kind x) is ∙ t.kind)
      refl refl (meets want (assigned_type (type_at p true name index)) (front _ _ (back _ _ clear)))

  pub step_good : (f : ℕ) → At w f p → (want : Want) (line where_ name : ℕ) (index : Index) (up before : Bool) → own file p want (step line where_ name index up before) ≡ []
      → target p true where_ name index ≡ [] → Indexes w known p index → Good w known file p want (step line where_ name index up before)
  unfolding scope type_of
  step_good f at want line where_ name index up before clear target_clear i =
      let right : misuse true (named p name) (has_index index) ≡ [] = no_rules where_ _ target_clear in
      let t : Target w known p true name index = target_fits w known f p true name index at right (assigned_operand (named p name) (has_index index) right) i in
      let is : assigned_type (type_at p true name index) ≡ type_at p true name index = assigned_is (type_at p true name index) (not_when _ TypeMisfit (front _ _ clear)) in
      node_of (t.integer, t.index_, ap (λ (x : ValueType). value_kind x) is ∙ t.kind)
      refl refl (meets want (assigned_type (type_at p true name index)) (front _ _ (back _ _ clear)))
