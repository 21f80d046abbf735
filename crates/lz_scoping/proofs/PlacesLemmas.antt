-- The objects before a place fit a setting, and what is read and written there is an integer.
use Rattle.std.proofs.Common.{◌≡◌, ℕ, ◌+◌, ◌<◌, ◌==◌, ◌⊎◌, Bool, true, false, not, ◌&&◌, List, [], ◌∷◌, ◌++◌, Option, Some, None, inl, inr, refl, sym, ap, ◌∙◌, subst, if◌then◌else◌}
use Rattle.std.proofs.lemmas.Bool.{or_parts}
use Rattle.lz_base.proofs.OptionLemmas.{then_some}
use Rattle.lz_base.specs.declared.word.IntType.{IntType}
use Rattle.lz_base.specs.declared.word.IntType.TheVariants.{Unsigned}
use Rattle.lz_tree.specs.declared.scoped.Object.{Object}
use Rattle.lz_tree.specs.declared.scoped.Object.TheVariants.{Local, Cell, Mutex, Cond, Handle, Routine, Known}
use Rattle.lz_tree.specs.Trees.{Index}
use Rattle.lz_tree.specs.Kinds.{len_of, kind_of_object}
use Rattle.lz_tree.specs.WellScoped.{Setting, AreWithin, IsInteger, IsMutex, IsCond, IsIndex}
use Rattle.lz_scopes.specs.declared.fault.Rule.TheVariants.{TypeMisfit}
use Rattle.lz_scopes.specs.declared.names.Entry.{Entry}
use Rattle.lz_scopes.specs.declared.meaning.Named.{Named}
use Rattle.lz_scopes.specs.declared.place.Place.{Place}
use Rattle.lz_scopes.specs.declared.value_types.ValueType.{ValueType}
use Rattle.lz_scopes.specs.declared.value_types.ValueType.TheVariants as sorts
use Rattle.lz_scopes.specs.ValueTypes.{is_no_operand, counted}
use Rattle.lz_scopes.specs.Names.{or, nearest}
use Rattle.lz_scopes.specs.Files.{File}
use Rattle.lz_scopes.specs.Scopes.{named_by, named, has_function}
use Rattle.lz_scopes.specs.ExpressionTypes.{misfits, misuse, target_type, type_at, has_index, callee}
use Rattle.lz_resolve.specs.ScopedPrograms.{value_kind, object_or, kind_if, meant, scope_index}
use Rattle.lz_scoping.proofs.TypesLemmas.{not_when, no_truth, IsOperand}

-- ---- objects

-- a thread object, wherever it may be used
abbrev pub IsHeld : Setting → Object → Type 0
IsHeld w (Handle first len) = AreWithin first len w.handles
IsHeld w (Local first len kind) = ⊥
IsHeld w (Cell first len kind) = ⊥
IsHeld w (Mutex first len) = ⊥
IsHeld w (Cond first len) = ⊥
IsHeld w (Routine function) = ⊥
IsHeld w (Known name) = ⊥

-- an object of a type
abbrev pub FitsObject : Setting → ValueType → Object → Type 0
FitsObject w (sorts.Integer kind) o = IsInteger w o × (kind_of_object o ≡ kind)
FitsObject w sorts.Pointer o = IsInteger w o × (kind_of_object o ≡ Unsigned)
FitsObject w sorts.Nothing o = ⊥
FitsObject w sorts.Thread o = IsHeld w o
FitsObject w sorts.Mutex o = IsMutex w o
FitsObject w sorts.Cond o = IsCond w o
FitsObject w sorts.Function o = ⊥

-- A declared object is one of its type, and alone where it is no array.
pub record Fits (w : Setting) (e : Entry) : Type 0 where
  pub object : FitsObject w e.of e.object
  pub alone : e.array ≡ false → len_of e.object ≡ 1

abbrev pub FitAll : Setting → List Entry → Type 0
FitAll w [] = Unit {0}
FitAll w (e ∷ rest) = Fits w e × FitAll w rest

pub fit_more : (w : Setting) (es : List Entry) (e : Entry) → FitAll w es → Fits w e → FitAll w (es ++ e ∷ [])
fit_more w [] e all fits = (fits, tt)
fit_more w (x ∷ es) e all fits = (all.0, fit_more w es e all.1 fits)

or_either : {A : Type 0} (a b : Option A) (x : A) → or a b ≡ Some x → (a ≡ Some x) ⊎ (b ≡ Some x)
or_either (Some a) b x e = inl e
or_either None b x e = inr e

pub nearest_fits : (w : Setting) (es : List Entry) (name : ℕ) (e : Entry) → FitAll w es → nearest es name ≡ Some e → Fits w e
nearest_fits w [] name e all is = absurd cc
nearest_fits w (x ∷ es) name e all is =
    elim (or_either (nearest es name) (if name == x.name then Some x else None) e is) [
      | inl later ↦ nearest_fits w es name e all.1 later
      | inr here ↦
          let got : Some x ≡ Some e = (then_some (name == x.name) (Some x) e here).1 in
          let same : x ≡ e = cc in
          subst (λ (y : Entry). Fits w y) same all.0
    ]

-- The place is in this function, and the objects before it fit.
pub record At (w : Setting) (f : ℕ) (p : Place) : Type 0 where
  pub deep : 0 < p.depth
  pub same : p.function ≡ f
  pub names : FitAll w p.names

-- ---- what a name is that is used as an object

no_operand_is : (of : ValueType) → is_no_operand of ≡ false → IsOperand of
no_operand_is (sorts.Integer kind) e = tt
no_operand_is sorts.Pointer e = tt
no_operand_is sorts.Nothing e = tt
no_operand_is sorts.Thread e = absurd cc
no_operand_is sorts.Mutex e = absurd cc
no_operand_is sorts.Cond e = absurd cc
no_operand_is sorts.Function e = absurd cc

-- what is assigned to is no object for threads and no function
pub assigned_operand : (n : Option Named) (indexed : Bool) → misuse true n indexed ≡ [] → IsOperand (target_type true n indexed)
assigned_operand None indexed e = absurd cc
assigned_operand (Some n) indexed e =
    let right : misfits true n indexed ≡ false = not_when (misfits true n indexed) TypeMisfit e in
    let is : target_type true (Some n) indexed ≡ n.of = ap (λ (b : Bool). if b then counted else n.of) right in
    let of : is_no_operand n.of ≡ false = (or_parts (if n.array then not indexed else indexed) (true && is_no_operand n.of) right).1 in
    subst (λ (t : ValueType). IsOperand t) (sym is) (no_operand_is n.of of)

index_fits : (array indexed : Bool) → (if array then not indexed else indexed) ≡ false → indexed ≡ false → array ≡ false
index_fits false indexed e is = refl
index_fits true false e is = no_truth (sym e)
index_fits true true e is = no_truth (sym is)

-- A name that is used rightly is that of an object.
pub record Uses (o : Option Entry) (of : ValueType) (indexed : Bool) : Type 0 where
  pub entry : Entry
  pub is : o ≡ Some entry
  pub same : of ≡ entry.of
  pub array : indexed ≡ false → entry.array ≡ false

pub used : (assigned : Bool) (o : Option Entry) (b indexed : Bool) → misuse assigned (named_by o b) indexed ≡ [] → (target_type assigned (named_by o b) indexed ≡ sorts.Function → ⊥)
    → Uses o (target_type assigned (named_by o b) indexed) indexed
used assigned (Some e) b indexed clear differs =
    let right : misfits assigned (record { of = e.of; array = e.array }) indexed ≡ false = not_when (misfits assigned (record { of = e.of; array = e.array }) indexed) TypeMisfit clear in
    record {
      entry = e;
      is = refl;
      same = ap (λ (m : Bool). if m then counted else e.of) right;
      array = index_fits e.array indexed (or_parts (if e.array then not indexed else indexed) (assigned && is_no_operand e.of) right).0;
    }
used assigned None true indexed clear differs =
    let right : misfits assigned (record { of = sorts.Function; array = false }) indexed ≡ false = not_when (misfits assigned (record { of = sorts.Function; array = false }) indexed) TypeMisfit clear in
    absurd (differs (ap (λ (m : Bool). if m then counted else sorts.Function) right))
used assigned None false indexed clear differs = absurd cc

integer_object : (w : Setting) (of : ValueType) (o : Object) → FitsObject w of o → IsOperand of → IsInteger w o × (value_kind of ≡ Some (kind_of_object o))
integer_object w (sorts.Integer kind) o fits i = (fits.0, ap (λ (k : IntType). Some k) (sym fits.1))
integer_object w sorts.Pointer o fits i = (fits.0, ap (λ (k : IntType). Some k) (sym fits.1))
integer_object w sorts.Nothing o fits i = absurd fits
integer_object w sorts.Thread o fits i = absurd i
integer_object w sorts.Mutex o fits i = absurd i
integer_object w sorts.Cond o fits i = absurd i
integer_object w sorts.Function o fits i = absurd i

-- An index fits each object of one element, if there is none, and each other one.
pub record Indexes (w : Setting) (known : File) (p : Place) (index : Index) : Type 0 where
  pub each : (o : Object) → (has_index index ≡ false → len_of o ≡ 1) → IsIndex w o false (scope_index known p index)

-- An integer object with its index.
pub record Target (w : Setting) (known : File) (p : Place) (assigned : Bool) (name : ℕ) (index : Index) : Type 0 where
  pub integer : IsInteger w (meant known p name)
  pub kind : value_kind (type_at p assigned name index) ≡ Some (kind_of_object (meant known p name))
  pub index_ : IsIndex w (meant known p name) false (scope_index known p index)
  pub there : (k : Option IntType) → kind_if (nearest p.names name) k ≡ k

pub target_fits : (w : Setting) (known : File) (f : ℕ) (p : Place) (assigned : Bool) (name : ℕ) (index : Index) → At w f p → misuse assigned (named p name) (has_index index) ≡ []
    → IsOperand (type_at p assigned name index) → Indexes w known p index → Target w known p assigned name index
target_fits w known f p assigned name index at clear operand i =
    let uses : Uses (nearest p.names name) (type_at p assigned name index) (has_index index) =
    used assigned (nearest p.names name) (has_function p name) (has_index index) clear (λ e. subst (λ (t : ValueType). IsOperand t) e operand) in
    let e : Entry = uses.entry in
    let fits : Fits w e = nearest_fits w p.names name e at.names uses.is in
    let object : Object = e.object in
    let named_so : object ≡ meant known p name = sym (ap (λ (o : Option Entry). object_or o (callee known p name)) uses.is) in
    let whole : IsInteger w object × (value_kind e.of ≡ Some (kind_of_object object)) = integer_object w e.of object fits.object (subst (λ (t : ValueType). IsOperand t) uses.same operand) in
    record {
      integer = subst (λ (o : Object). IsInteger w o) named_so whole.0;
      kind = ap (λ (t : ValueType). value_kind t) uses.same ∙ whole.1 ∙ ap (λ (o : Object). Some (kind_of_object o)) named_so;
      index_ = subst (λ (o : Object). IsIndex w o false (scope_index known p index)) named_so (i.each object (λ none. fits.alone (uses.array none)));
      there = λ k. ap (λ (o : Option Entry). kind_if o k) uses.is;
    }
