-- Arguments of calls that break no rule have the forms that their callees take.
use Rattle.std.proofs.Common.{◌≡◌, ℕ, suc, ◌≤◌, ◌==◌, nat_lt, Bool, true, false, not, ◌||◌, List, [], ◌∷◌, map, length, Option, Some, None, inl, inr, refl, sym, ap, ◌∙◌, subst, arith, if◌then◌else◌}
use Rattle.std.proofs.lemmas.Bool.{or_parts, eqb-true, cases_lt, lt-ltb}
use Rattle.lz_base.proofs.ListLemmas.{nil_front as front, nil_back as back}
use Rattle.lz_tree.specs.declared.expression.TypeName.{TypeName}
use Rattle.lz_tree.specs.declared.scoped.KnownName.{KnownName}
use Rattle.lz_tree.specs.declared.scoped.KnownName.TheVariants as known_names
use Rattle.lz_tree.specs.declared.scoped.Object.{Object}
use Rattle.lz_tree.specs.declared.scoped.Object.TheVariants.{Local, Cell, Mutex, Cond, Handle, Routine, Known}
use Rattle.lz_base.specs.declared.word.IntType.{IntType}
use Rattle.lz_tree.specs.ScopedTrees as tree
use Rattle.lz_tree.specs.Trees.{Expression, constant, null, text, object, address, Index, whole, Expressions, none, and}
use Rattle.lz_tree.specs.WellScoped as scoped
use Rattle.lz_tree.specs.WellScoped.{Setting, Form, IsScoped, IsIndexed, IsArgument, HasValue, AreValues, AreArguments, IsMutex, IsCond, IsIndex, kind_at, number_of, forms_of, result_of}
use Rattle.lz_scopes.specs.declared.fault.Rule.{Rule}
use Rattle.lz_scopes.specs.declared.fault.Rule.TheVariants.{NoStartRoutine, MisplacedAddress, BadAttribute, MisplacedText, TypeMisfit}
use Rattle.lz_scopes.specs.declared.meaning.Named.{Named}
use Rattle.lz_scopes.specs.declared.names.Entry.{Entry}
use Rattle.lz_scopes.specs.declared.place.Place.{Place}
use Rattle.lz_scopes.specs.declared.value_types.ValueType.{ValueType}
use Rattle.lz_scopes.specs.declared.value_types.ValueType.TheVariants as sorts
use Rattle.lz_scopes.specs.declared.value_types.Want.{Want}
use Rattle.lz_scopes.specs.declared.value_types.Want.TheVariants as wants
use Rattle.lz_scopes.specs.ValueTypes.{value_type, want_of, is_thread, is_mutex, is_cond}
use Rattle.lz_scopes.specs.ValueTypes as values
use Rattle.lz_scopes.specs.Names.{nearest}
use Rattle.lz_scopes.specs.Files.{File, known_at, function_named}
use Rattle.lz_scopes.specs.KnownNames as names
use Rattle.lz_scopes.specs.KnownNames.{wants_of_known, given_by_known, is_for_threads}
use Rattle.lz_scopes.specs.Scopes.{named, named_by, has_function, called_by}
use Rattle.lz_scopes.specs.ExpressionTypes.{callee, count, misfits, misuse, has_index, type_of, is_object_of, is_reference, is_handle, is_start_name, is_start_in, is_null, is_text, is_broken, unless, misplaced, some_misplaced, routine_of}
use Rattle.lz_resolve.specs.ScopedPrograms.{value_kind, scope, scope_index, scope_all, meant, object_or}
use Rattle.lz_types.specs.Faults.{at, faults}
use Rattle.lz_scoping.proofs.TypesLemmas.{no_rules, not_when, no_truth, Meets, IsPlain, IsValue, needs, needed, value_has, has_value}
use Rattle.lz_scoping.proofs.PlacesLemmas.{At, Indexes, IsHeld, FitsObject, Fits, nearest_fits}

-- ---- what holds of an expression

-- An expression is scoped, and has a type that its place wants, in the file with and without its facts.
pub record Good (w : Setting) (known file : File) (p : Place) (want : Want) (e : Expression) : Type 0 where
  pub scoped : IsScoped w (scope known p e)
  pub same : type_of known p e ≡ type_of file p e
  pub kind : kind_at (scope known p e) ≡ value_kind (type_of file p e)
  pub met : Meets want (type_of file p e)

pub good_value : {w : Setting} {known file : File} {p : Place} {want : Want} {e : Expression} → Good w known file p want e → needs want ≡ true → HasValue (scope known p e)
good_value {w} {known} {file} {p} {want} {e} g n =
    let v : IsValue (type_of file p e) = needed want (type_of file p e) n g.met in
    has_value (scope known p e) (values.kind_of (type_of file p e)) (g.kind ∙ value_has (type_of file p e) v)

-- the index of what may be handed on
abbrev pub Indexing : Setting → File → Place → Expression → Type 0
Indexing w known p (address line at name index) = Indexes w known p index
Indexing w known p (object line name index) = Indexes w known p index
Indexing w known p e = Unit {0}

-- What holds of an expression at a place, which may be that of an argument.
pub record Answer (w : Setting) (known file : File) (p : Place) (want : Want) (e : Expression) : Type 0 where
  pub good : IsPlain want → Good w known file p want e
  pub indexing : Indexing w known p e

-- ---- forms of arguments

abbrev pub reference_form : ValueType → Form
reference_form sorts.Thread = scoped.new_thread
reference_form sorts.Mutex = scoped.mutex
reference_form sorts.Cond = scoped.cond
reference_form of = scoped.some_value

abbrev pub form_of : Want → Form
form_of wants.Null = scoped.no_attribute
form_of (wants.Reference to) = reference_form to
form_of wants.Handle = scoped.made_thread
form_of wants.Start = scoped.start
form_of wants.Format = scoped.format
form_of want = scoped.some_value

-- an argument of the form that a want has
abbrev pub IsArg : Setting → File → Place → Want → Expression → Type 0
IsArg w known p want e = IsArgument w (form_of want) (scope known p e) (IsScoped w (scope known p e)) (IsIndexed w (scope known p e))

-- arguments of the forms that wants have, and further values
abbrev pub Args : Setting → File → Place → List Want → Expressions → Type 0
Args w known p [] none = Unit {0}
Args w known p [] (and e rest) = IsScoped w (scope known p e) × HasValue (scope known p e) × Args w known p [] rest
Args w known p (want ∷ ws) none = Unit {0}
Args w known p (want ∷ ws) (and e rest) = IsArg w known p want e × Args w known p ws rest

pub number_counts : (known : File) (p : Place) (es : Expressions) → number_of (scope_all known p es) ≡ count es
unfolding scope
number_counts known p none = refl
number_counts known p (and e rest) = ap (λ (n : ℕ). suc n) (number_counts known p rest)

pub further_values : (w : Setting) (known : File) (p : Place) (es : Expressions) → Args w known p [] es → AreValues w (scope_all known p es)
unfolding scope
further_values w known p none a = tt
further_values w known p (and e rest) a = (a.0, a.1, further_values w known p rest a.2)

plain_form : (of : ValueType) → form_of (want_of of) ≡ scoped.some_value
plain_form (sorts.Integer kind) = refl
plain_form _ = refl

pub plain_values : (w : Setting) (known : File) (p : Place) (types : List TypeName) (es : Expressions) → Args w known p (map (λ t. want_of (value_type t)) types) es → AreValues w (scope_all known p es)
unfolding scope
plain_values w known p [] es a = further_values w known p es a
plain_values w known p (t ∷ types) none a = tt
plain_values w known p (t ∷ types) (and e rest) a =
    let one : IsArgument w scoped.some_value (scope known p e) (IsScoped w (scope known p e)) (IsIndexed w (scope known p e)) =
    subst (λ (form : Form). IsArgument w form (scope known p e) (IsScoped w (scope known p e)) (IsIndexed w (scope known p e))) (plain_form (value_type t)) a.0 in
    (one.0, one.1, plain_values w known p types rest a.1)

pub known_arguments : (w : Setting) (known : File) (p : Place) (more : Bool) (ws : List Want) (es : Expressions) → Args w known p ws es → length ws ≤ count es → (more ≡ false → length ws ≡ count es)
    → AreArguments w more (map (λ want. form_of want) ws) (scope_all known p es)
unfolding scope
known_arguments w known p more [] none a low exact = tt
known_arguments w known p true [] (and e rest) a low exact = (refl, a.0, a.1, further_values w known p rest a.2)
known_arguments w known p false [] (and e rest) a low exact = let n : 0 ≡ suc (count rest) = exact refl in absurd (omega (arith, n))
known_arguments w known p more (want ∷ ws) none a low exact = absurd (omega (arith, low))
known_arguments w known p more (want ∷ ws) (and e rest) a low exact =
    (a.0, known_arguments w known p more ws rest a.1 (omega (arith, low)) (λ m. let n : suc (length ws) ≡ suc (count rest) = exact m in omega (arith, n)))

pub taken : (more : Bool) (n m : ℕ) → (if more then not (nat_lt n m) else m == n) ≡ true → (m ≤ n) × (more ≡ false → m ≡ n)
taken true n m e =
    (elim (cases_lt n m) [ inl low ↦ no_truth (sym (ap (λ (b : Bool). not b) (lt-ltb n m low)) ∙ e) | inr high ↦ high ], λ f. no_truth (sym f))
taken false n m e = let same : m ≡ n = eqb-true m n e in (omega (arith, same), λ f. same)

-- ---- known names

pub known_forms : (k : KnownName) → map (λ want. form_of want) (wants_of_known k) ≡ forms_of k
known_forms known_names.Assert = refl
known_forms _ = refl

pub known_more : (k : KnownName) → names.takes_more k ≡ scoped.takes_more k
known_more known_names.Assert = refl
known_more _ = refl

pub known_result : (k : KnownName) → value_kind (given_by_known k) ≡ result_of k
known_result known_names.Assert = refl
known_result _ = refl

abbrev pub wants_thread : Want → Bool
wants_thread (wants.Reference sorts.Thread) = true
wants_thread wants.Handle = true
wants_thread want = false

abbrev pub want_threads : List Want → Bool
want_threads [] = false
want_threads (want ∷ ws) = wants_thread want || want_threads ws

pub known_threads : (k : KnownName) → want_threads (wants_of_known k) ≡ true → is_for_threads k ≡ true
known_threads known_names.Create e = refl
known_threads known_names.Join e = refl
known_threads _ e = no_truth e

-- ---- arguments at their wants

-- an expression is what a want for a call on threads or for `printf` says
abbrev pub Stands : Setting → File → Place → Want → Expression → Type 0
Stands w file p (wants.Reference sorts.Thread) e = (is_reference p sorts.Thread e ≡ true) × (w.threads ≡ true)
Stands w file p (wants.Reference to) e = is_reference p to e ≡ true
Stands w file p wants.Handle e = (is_handle p e ≡ true) × (w.threads ≡ true)
Stands w file p wants.Start e = is_start_name file p e ≡ true
Stands w file p wants.Null e = is_null e ≡ true
Stands w file p wants.Format e = is_text e ≡ true
Stands w file p want e = Unit {0}

abbrev pub StandAll : Setting → File → Place → List Want → Expressions → Type 0
StandAll w file p [] es = Unit {0}
StandAll w file p (want ∷ ws) none = Unit {0}
StandAll w file p (want ∷ ws) (and e rest) = Stands w file p want e × StandAll w file p ws rest

stands_plain : (w : Setting) (file : File) (p : Place) (of : ValueType) (e : Expression) → Stands w file p (want_of of) e
stands_plain w file p (sorts.Integer kind) e = tt
stands_plain w file p _ e = tt

pub stand_plain : (w : Setting) (file : File) (p : Place) (types : List TypeName) (es : Expressions) → StandAll w file p (map (λ t. want_of (value_type t)) types) es
stand_plain w file p [] es = tt
stand_plain w file p (t ∷ types) none = tt
stand_plain w file p (t ∷ types) (and e rest) = (stands_plain w file p (value_type t) e, stand_plain w file p types rest)

holds : (b : Bool) (rule : Rule) → is_broken rule (Some rule) ≡ true → is_broken rule (unless b rule) ≡ false → b ≡ true
holds true rule same e = refl
holds false rule same e = no_truth (sym e ∙ same)

stands : (w : Setting) (file : File) (p : Place) (want : Want) (e : Expression) → (wants_thread want ≡ true → w.threads ≡ true)
    → is_broken NoStartRoutine (misplaced file p want e) ≡ false → is_broken MisplacedAddress (misplaced file p want e) ≡ false
    → is_broken BadAttribute (misplaced file p want e) ≡ false → is_broken MisplacedText (misplaced file p want e) ≡ false → Stands w file p want e
stands w file p (wants.Reference sorts.Thread) e t s a b x = (holds (is_reference p sorts.Thread e) MisplacedAddress refl a, t refl)
stands w file p (wants.Reference to) e t s a b x = holds _ MisplacedAddress refl a
stands w file p wants.Handle e t s a b x = (holds (is_handle p e) MisplacedAddress refl a, t refl)
stands w file p wants.Start e t s a b x = holds (is_start_name file p e) NoStartRoutine refl s
stands w file p wants.Null e t s a b x = holds (is_null e) BadAttribute refl b
stands w file p wants.Format e t s a b x = holds (is_text e) MisplacedText refl x
stands w file p _ e t s a b x = tt

or_first : (a b : Bool) → a ≡ true → (a || b) ≡ true
or_first true b e = refl
or_first false b e = no_truth e

or_second : (a b : Bool) → b ≡ true → (a || b) ≡ true
or_second true b e = refl
or_second false b e = e

pub stand_known : (w : Setting) (file : File) (p : Place) (ws : List Want) (further : Want) (es : Expressions) → (want_threads ws ≡ true → w.threads ≡ true)
    → some_misplaced file p NoStartRoutine ws further es ≡ false → some_misplaced file p MisplacedAddress ws further es ≡ false
    → some_misplaced file p BadAttribute ws further es ≡ false → some_misplaced file p MisplacedText ws further es ≡ false → StandAll w file p ws es
stand_known w file p [] further es t s a b x = tt
stand_known w file p (want ∷ ws) further none t s a b x = tt
stand_known w file p (want ∷ ws) further (and e rest) t s a b x = (
  stands w file p want e (λ one. t (or_first (wants_thread want) (want_threads ws) one)) (or_parts _ _ s).0 (or_parts _ _ a).0 (or_parts _ _ b).0 (or_parts _ _ x).0,
  stand_known w file p ws further rest (λ more. t (or_second (wants_thread want) (want_threads ws) more)) (or_parts _ _ s).1 (or_parts _ _ a).1 (or_parts _ _ b).1 (or_parts _ _ x).1,
)

-- ---- objects that are handed on

-- A name of an object of a sort.
record Handed (is_of : ValueType → Bool) (o : Option Entry) (indexed : Bool) : Type 0 where
  entry : Entry
  is : o ≡ Some entry
  of : is_of entry.of ≡ true
  array : indexed ≡ false → entry.array ≡ false

array_is : (array indexed : Bool) → (if array then not indexed else indexed) ≡ false → indexed ≡ false → array ≡ false
array_is false indexed e is = refl
array_is true false e is = no_truth (sym e)
array_is true true e is = no_truth (sym is)

handed : (is_of : ValueType → Bool) → is_of sorts.Function ≡ false → (o : Option Entry) (b indexed : Bool) → misuse false (named_by o b) indexed ≡ [] → is_object_of is_of (named_by o b) ≡ true → Handed is_of o indexed
handed is_of no_function (Some e) b indexed clear is =
    let right : misfits false (record { of = e.of; array = e.array }) indexed ≡ false = not_when (misfits false (record { of = e.of; array = e.array }) indexed) TypeMisfit clear in
    record { entry = e; is = refl; of = is; array = array_is e.array indexed (or_parts (if e.array then not indexed else indexed) false right).0 }
handed is_of no_function None true indexed clear is = no_truth (sym no_function ∙ is)
handed is_of no_function None false indexed clear is = no_truth is

held_of : (w : Setting) (of : ValueType) (o : Object) → is_thread of ≡ true → FitsObject w of o → IsHeld w o
held_of w sorts.Thread o is fits = fits
held_of w _ o is fits = no_truth is

mutex_of : (w : Setting) (of : ValueType) (o : Object) → is_mutex of ≡ true → FitsObject w of o → IsMutex w o
mutex_of w sorts.Mutex o is fits = fits
mutex_of w _ o is fits = no_truth is

cond_of : (w : Setting) (of : ValueType) (o : Object) → is_cond of ≡ true → FitsObject w of o → IsCond w o
cond_of w sorts.Cond o is fits = fits
cond_of w _ o is fits = no_truth is

-- such an object and its index
handed_on : (w : Setting) (known : File) (f : ℕ) (p : Place) (P : Object → Type 0) (is_of : ValueType → Bool) → is_of sorts.Function ≡ false
    → ((of : ValueType) (o : Object) → is_of of ≡ true → FitsObject w of o → P o) → At w f p → (name : ℕ) (index : Index) → misuse false (named p name) (has_index index) ≡ []
    → is_object_of is_of (named p name) ≡ true → Indexes w known p index → P (meant known p name) × IsIndex w (meant known p name) false (scope_index known p index)
handed_on w known f p P is_of no_function gives at name index clear is i =
    let h : Handed is_of (nearest p.names name) (has_index index) = handed is_of no_function (nearest p.names name) (has_function p name) (has_index index) clear is in
    let fits : Fits w h.entry = nearest_fits w p.names name h.entry at.names h.is in
    let named_so : h.entry.object ≡ meant known p name = sym (ap (λ (o : Option Entry). object_or o (callee known p name)) h.is) in (
      subst P named_so (gives h.entry.of h.entry.object h.of fits.object),
      subst (λ (o : Object). IsIndex w o false (scope_index known p index)) named_so (i.each h.entry.object (λ whole_one. fits.alone (h.array whole_one))),
    )

-- a thread object that may be used
used_thread : (w : Setting) (o : Object) → IsHeld w o → w.threads ≡ true → scoped.IsThread w o
used_thread w (Handle first len) h t = (h, t)
used_thread w (Local first len kind) h t = absurd h
used_thread w (Cell first len kind) h t = absurd h
used_thread w (Mutex first len) h t = absurd h
used_thread w (Cond first len) h t = absurd h
used_thread w (Routine function) h t = absurd h
used_thread w (Known name) h t = absurd h

-- ---- the name of a start routine

is_routine : (file : File) (o : Option Entry) (x : Option Object) (k : Option KnownName) (d : Option ℕ) → x ≡ called_by o k d → is_start_in file (routine_of x) ≡ true
    → (n : ℕ) × (object_or o x ≡ Routine n) × (is_start_in file (Some n) ≡ true)
is_routine file (Some e) x k d same is = no_truth (ap (λ (y : Option Object). is_start_in file (routine_of y)) (sym same) ∙ is)
is_routine file None (Some (Routine n)) k d same is = (n, refl, is)
is_routine file None None k d same is = no_truth is
is_routine file None _ k d same is = no_truth is

-- What a program lets a function start, and whether thread objects may stand in it.
pub record Rights (w : Setting) (file : File) : Type 0 where
  pub starts : (n : ℕ) → is_start_in file (Some n) ≡ true → w.may_start n

start_fits : (w : Setting) (known file : File) (p : Place) (name line : ℕ) (k : Option IntType) → callee known p name ≡ callee file p name → Rights w file → is_start_in file (routine_of (callee file p name)) ≡ true
    → scoped.IsStart w (tree.object (tree.lvalue line (meant known p name) tree.whole false) k)
start_fits w known file p name line k same rights is =
    let r : (n : ℕ) × (object_or (nearest p.names name) (callee file p name) ≡ Routine n) × (is_start_in file (Some n) ≡ true) =
    is_routine file (nearest p.names name) (callee file p name) (known_at file name) (function_named file.functions name) refl is in
    let is_it : Routine r.0 ≡ meant known p name = sym (ap (λ (x : Option Object). object_or (nearest p.names name) x) same ∙ r.1) in
    subst (λ (o : Object). scoped.IsStart w (tree.object (tree.lvalue line o tree.whole false) k)) is_it (rights.starts r.0 r.2, refl)

-- ---- all arguments

no_attribute_is : (known : File) (p : Place) (e : Expression) → is_null e ≡ true → scoped.IsNoAttribute (scope known p e)
unfolding scope
no_attribute_is known p (null line) e = tt
no_attribute_is known p (constant line value form) e = eqb-true value 0 e
no_attribute_is known p _ e = no_truth e

module _ (w : Setting) (known file : File) (f : ℕ) (rights : Rights w file) (same : (p : Place) (name : ℕ) → callee known p name ≡ callee file p name) where
  address_target : (p : Place) (want : Want) (line where_ name : ℕ) (index : Index) → faults file p want (address line where_ name index) ≡ [] → misuse false (named p name) (has_index index) ≡ []
  unfolding faults
  address_target p want line where_ name index clear = no_rules where_ _ (front _ _ (back _ _ clear))

  reference_argument : (p : Place) → At w f p → (to : ValueType) (e : Expression) → faults file p (wants.Reference to) e ≡ [] → Stands w file p (wants.Reference to) e → Indexing w known p e → IsArg w known p (wants.Reference to) e
  unfolding faults scope
  reference_argument p at sorts.Thread (address line where_ name index) clear stands i =
      let right = address_target p (wants.Reference sorts.Thread) line where_ name index clear in
      let h = handed_on w known f p (λ o. IsHeld w o) is_thread refl (held_of w) at name index right stands.0 i in
      (refl, used_thread w (meant known p name) h.0 stands.1, h.1)
  reference_argument p at sorts.Mutex (address line where_ name index) clear stands i =
      let right = address_target p (wants.Reference sorts.Mutex) line where_ name index clear in
      let h = handed_on w known f p (λ o. IsMutex w o) is_mutex refl (mutex_of w) at name index right stands i in
      (refl, h.0, h.1)
  reference_argument p at sorts.Cond (address line where_ name index) clear stands i =
      let right = address_target p (wants.Reference sorts.Cond) line where_ name index clear in
      let h = handed_on w known f p (λ o. IsCond w o) is_cond refl (cond_of w) at name index right stands i in
      (refl, h.0, h.1)
  reference_argument p at _ (address line where_ name index) clear stands i = no_truth (never _ stands)
    where
      never : (n : Option Named) → is_object_of (λ of. false) n ≡ true → false ≡ true
      never None e = e
      never (Some n) e = e
  reference_argument p at sorts.Thread _ clear stands i = no_truth stands.0
  reference_argument p at _ _ clear stands i = no_truth stands

  handle_argument : (p : Place) → At w f p → (e : Expression) → faults file p wants.Handle e ≡ [] → Stands w file p wants.Handle e → Indexing w known p e → IsArg w known p wants.Handle e
  unfolding faults scope
  handle_argument p at (object line name index) clear stands i =
      let h = handed_on w known f p (λ o. IsHeld w o) is_thread refl (held_of w) at name index (no_rules line _ (front _ _ (back _ _ clear))) stands.0 i in
      (refl, used_thread w (meant known p name) h.0 stands.1, h.1)
  handle_argument p at _ clear stands i = no_truth stands.0

  start_argument : (p : Place) (e : Expression) → is_start_name file p e ≡ true → IsArg w known p wants.Start e
  unfolding scope
  start_argument p (object line name whole) stands = start_fits w known file p name line _ (same p name) rights stands
  start_argument p _ stands = no_truth stands

  format_argument : (p : Place) (e : Expression) → is_text e ≡ true → IsArg w known p wants.Format e
  unfolding scope
  format_argument p (text line) stands = tt
  format_argument p _ stands = no_truth stands

  pub argument : (p : Place) → At w f p → (want : Want) (e : Expression) → faults file p want e ≡ [] → Stands w file p want e → needs want ≡ true → Answer w known file p want e → IsArg w known p want e
  argument p at (wants.Reference to) e clear stands n a = reference_argument p at to e clear stands a.indexing
  argument p at wants.Handle e clear stands n a = handle_argument p at e clear stands a.indexing
  argument p at wants.Start e clear stands n a = start_argument p e stands
  argument p at wants.Format e clear stands n a = format_argument p e stands
  argument p at wants.Null e clear stands n a =
      let g : Good w known file p wants.Null e = a.good (record { text = refl; reference = refl; handle = refl; start = refl }) in
      (g.scoped, no_attribute_is known p e stands)
  argument p at wants.Integer e clear stands n a = let g : Good w known file p wants.Integer e = a.good (record { text = refl; reference = refl; handle = refl; start = refl }) in (g.scoped, good_value g refl)
  argument p at wants.Pointer e clear stands n a = let g : Good w known file p wants.Pointer e = a.good (record { text = refl; reference = refl; handle = refl; start = refl }) in (g.scoped, good_value g refl)
  argument p at wants.Any e clear stands n a = let g : Good w known file p wants.Any e = a.good (record { text = refl; reference = refl; handle = refl; start = refl }) in (g.scoped, good_value g refl)
  argument p at wants.Unneeded e clear stands n a = no_truth n
