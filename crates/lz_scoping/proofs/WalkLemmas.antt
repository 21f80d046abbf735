-- The walk over expressions: those of a program that breaks no rule are scoped.
use Rattle.std.proofs.Common.{◌≡◌, ℕ, Bool, true, false, ◌&&◌, List, [], ◌∷◌, ◌++◌, map, length, slice_get, Option, Some, None, refl, sym, ap, ◌∙◌, subst, if◌then◌else◌}
use Rattle.lz_base.proofs.ListLemmas.{nil_front as front, nil_back as back, head_contained}
use Rattle.lz_base.specs.declared.word.IntType.{IntType}
use Rattle.lz_tree.specs.declared.expression.TypeName.{TypeName}
use Rattle.lz_tree.specs.declared.scoped.KnownName.{KnownName}
use Rattle.lz_tree.specs.declared.scoped.KnownName.TheVariants as known_names
use Rattle.lz_tree.specs.declared.scoped.Object.{Object}
use Rattle.lz_tree.specs.declared.scoped.Object.TheVariants.{Local, Cell, Mutex, Cond, Handle, Routine, Known}
use Rattle.lz_tree.specs.Calls.{called, expression_calls, index_calls, expressions_calls}
use Rattle.lz_tree.specs.ScopedTrees as tree
use Rattle.lz_tree.specs.Trees.{Expression, constant, null, text, object, address, paren, unary, cast, binary, choose, assign, step, call, Index, whole, element, Expressions, none, and, TranslationUnit}
use Rattle.lz_tree.specs.WellFormed.{FitsExpression, FitsIndex, FitsAll}
use Rattle.lz_tree.specs.WellScoped.{Setting, Form, IsScoped, AreArguments, forms_of}
use Rattle.lz_scopes.specs.declared.fault.Fault.{Fault}
use Rattle.lz_scopes.specs.declared.fault.Rule.TheVariants.{ArgumentCount, PointerOutsideStart, MisplacedText, MisplacedAddress}
use Rattle.lz_scopes.specs.declared.place.Place.{Place}
use Rattle.lz_scopes.specs.declared.value_types.ValueType.{ValueType}
use Rattle.lz_scopes.specs.declared.value_types.Want.{Want}
use Rattle.lz_scopes.specs.declared.value_types.Want.TheVariants as wants
use Rattle.lz_scopes.specs.ValueTypes.{want_of, value_type}
use Rattle.lz_scopes.specs.KnownNames as names
use Rattle.lz_scopes.specs.KnownNames.{wants_of_known, is_for_threads}
use Rattle.lz_scopes.specs.Scopes.{around}
use Rattle.lz_scopes.specs.Files.{File, Facts, file_with, bare, params_of, is_reached}
use Rattle.lz_scopes.specs.ExpressionTypes.{callee, wants_of, further_want, count, takes, takes_further, given, given_at, wrong_call, late_call, type_of, type_at, own, choice_want, is_in_thread, is_thread_call, is_text_place, is_reference_place}
use Rattle.lz_resolve.specs.ScopedPrograms.{value_kind, or_nothing, scope, scope_index, scope_all}
use Rattle.lz_types.specs.Faults.{at, node, target, faults, index_faults, all_faults}
use Rattle.lz_scoping.proofs.TypesLemmas.{no_rules, not_when, not_false, no_truth, meets, needs, needs_of, IsPlain, plain_integer, plain_any, plain_unneeded, plain_of}
use Rattle.lz_scoping.proofs.PlacesLemmas.{At, Indexes}
use Rattle.lz_scoping.proofs.NumberingLemmas.{not_outside}
use Rattle.lz_scoping.proofs.TwinsLemmas.{callee_same, given_same, wrong_same, late_same, given_right, Right, right_parts}
use Rattle.lz_scoping.proofs.ArgumentsLemmas.{Good, good_value, Answer, Rights, Args, form_of, StandAll, argument, plain_values, known_arguments, known_forms, known_more, known_result, known_threads, want_threads, number_counts, taken, stand_plain, stand_known}
use Rattle.lz_scoping.proofs.ExpressionLemmas.{Callable, Allowed, allowed_front, allowed_back, IsCalled, callee_called, constant_good, null_good, paren_good, unary_good, cast_good, binary_good, choose_good, object_good, assign_good, step_good}

-- What further arguments are wanted as.
pub record Further (want : Want) : Type 0 where
  pub plain : IsPlain want
  pub needs_ : needs want ≡ true

pub further_of : (of : ValueType) → Further (want_of of)
further_of of = record { plain = plain_of of; needs_ = needs_of of }

further_called : (c : Option Object) → Further (further_want c)
further_called c = either (takes_further c)
  where
    either : (b : Bool) → Further (if b then wants.Integer else wants.Any)
    either true = record { plain = plain_integer; needs_ = refl }
    either false = record { plain = plain_any; needs_ = refl }

-- wants of arguments, none of which is unneeded
abbrev NeedAll : List Want → Type 0
NeedAll [] = Unit {0}
NeedAll (want ∷ ws) = (needs want ≡ true) × NeedAll ws

need_plain : (types : List TypeName) → NeedAll (map (λ t. want_of (value_type t)) types)
need_plain [] = tt
need_plain (t ∷ types) = (needs_of (value_type t), need_plain types)

need_known : (k : KnownName) → NeedAll (wants_of_known k)
need_known known_names.Assert = (refl, tt)
need_known known_names.Assume = (refl, tt)
need_known known_names.Create = (refl, (refl, (refl, (refl, tt))))
need_known known_names.Join = (refl, (refl, tt))
need_known known_names.Exit = (refl, tt)
need_known known_names.MutexInit = (refl, (refl, tt))
need_known known_names.MutexDestroy = (refl, tt)
need_known known_names.MutexLock = (refl, tt)
need_known known_names.MutexUnlock = (refl, tt)
need_known known_names.CondInit = (refl, (refl, tt))
need_known known_names.CondDestroy = (refl, tt)
need_known known_names.CondWait = (refl, (refl, tt))
need_known known_names.CondSignal = (refl, tt)
need_known known_names.CondBroadcast = (refl, tt)
need_known known_names.Printf = (refl, tt)
need_known _ = tt

and_threads : (a b : Bool) → (a && b) ≡ false → a ≡ true → b ≡ false
and_threads true b e h = e
and_threads false b e h = no_truth h

module _ (w : Setting) (unit : TranslationUnit) (facts : Facts) (f : ℕ) (rights : Rights w (file_with unit facts)) (threads : is_reached (file_with unit facts) f ≡ false → w.threads ≡ true) where
  abbrev known : File
  known = bare unit

  abbrev file : File
  file = file_with unit facts

  around_is : (p : Place) → At w f p → around p ≡ Some f
  around_is p at = ap (λ (b : Bool). if b then None else Some p.function) (not_outside p at.deep) ∙ ap (λ (n : ℕ). Some n) at.same

  -- threads may stand where a call on them breaks no rule
  threads_at : (p : Place) → At w f p → (k : KnownName) → is_thread_call file p k ≡ false → want_threads (wants_of_known k) ≡ true → w.threads ≡ true
  threads_at p at k clear wanted =
      let out : is_in_thread file (around p) ≡ false = and_threads (is_for_threads k) (is_in_thread file (around p)) clear (known_threads k wanted) in
      threads (ap (λ (o : Option ℕ). is_in_thread file o) (sym (around_is p at)) ∙ out)

  -- arguments stand where their callee wants them
  stand_called : (p : Place) → At w f p → (c : Option Object) (args : Expressions) → IsCalled c → late_call file p c args ≡ [] → StandAll w file p (wants_of file c) args
  stand_called p at None args is late = tt
  stand_called p at (Some (Routine n)) args is late = stand_plain w file p (params_of (slice_get file.functions n)) args
  stand_called p at (Some (Known k)) args is late =
      let r : Right file p k args = right_parts file p k args late in
      stand_known w file p (wants_of_known k) (further_want (Some (Known k))) args (threads_at p at k r.threads) r.starts r.addresses r.attributes r.texts
  stand_called p at (Some (Local first len kind)) args is late = absurd is
  stand_called p at (Some (Cell first len kind)) args is late = absurd is
  stand_called p at (Some (Mutex first len)) args is late = absurd is
  stand_called p at (Some (Cond first len)) args is late = absurd is
  stand_called p at (Some (Handle first len)) args is late = absurd is

  need_called : (c : Option Object) → IsCalled c → NeedAll (wants_of file c)
  need_called None is = tt
  need_called (Some (Routine n)) is = need_plain (params_of (slice_get file.functions n))
  need_called (Some (Known k)) is = need_known k
  need_called (Some (Local first len kind)) is = absurd is
  need_called (Some (Cell first len kind)) is = absurd is
  need_called (Some (Mutex first len)) is = absurd is
  need_called (Some (Cond first len)) is = absurd is
  need_called (Some (Handle first len)) is = absurd is

  call_scoped : (p : Place) (line : ℕ) (args : Expressions) (c : Option Object) (kind : Option IntType) → IsCalled c → wrong_call file c (count args) ≡ [] → late_call file p c args ≡ []
      → Args w known p (wants_of file c) args → Allowed w file (called (or_nothing c)) → kind ≡ value_kind (given file c) → IsScoped w (tree.call line (or_nothing c) (scope_all known p args) kind)
  call_scoped p line args None kind is wrong late a allowed gives = absurd cc
  call_scoped p line args (Some (Routine n)) kind is wrong late a allowed gives =
      let callable : Callable w file n = allowed.each n (head_contained n []) in
      let so_many : takes file (Some (Routine n)) (count args) ≡ true = not_false (takes file (Some (Routine n)) (count args)) (not_when _ ArgumentCount wrong) in
      let number : length (wants_of file (Some (Routine n))) ≡ count args = (taken false (count args) (length (wants_of file (Some (Routine n)))) so_many).1 refl in (
        callable.may (not_when _ PointerOutsideStart (back _ _ late)),
        number_counts known p args ∙ sym number ∙ sym callable.takes_,
        plain_values w known p (params_of (slice_get file.functions n)) args a,
        gives ∙ sym callable.gives,
      )
  call_scoped p line args (Some (Known k)) kind is wrong late a allowed gives =
      let so_many : takes file (Some (Known k)) (count args) ≡ true = not_false (takes file (Some (Known k)) (count args)) (not_when _ ArgumentCount wrong) in
      let number = taken (names.takes_more k) (count args) (length (wants_of_known k)) so_many in
      let made : AreArguments w (names.takes_more k) (map (λ want. form_of want) (wants_of_known k)) (scope_all known p args) = known_arguments w known p (names.takes_more k) (wants_of_known k) args a number.0 number.1 in
      let formed : AreArguments w (names.takes_more k) (forms_of k) (scope_all known p args) = subst (λ (forms : List Form). AreArguments w (names.takes_more k) forms (scope_all known p args)) (known_forms k) made in
      (subst (λ (more : Bool). AreArguments w more (forms_of k) (scope_all known p args)) (known_more k) formed, gives ∙ known_result k)
  call_scoped p line args (Some (Local first len k)) kind is wrong late a allowed gives = absurd is
  call_scoped p line args (Some (Cell first len k)) kind is wrong late a allowed gives = absurd is
  call_scoped p line args (Some (Mutex first len)) kind is wrong late a allowed gives = absurd is
  call_scoped p line args (Some (Cond first len)) kind is wrong late a allowed gives = absurd is
  call_scoped p line args (Some (Handle first len)) kind is wrong late a allowed gives = absurd is

  call_good : (p : Place) (want : Want) (line name : ℕ) (args : Expressions) → own file p want (call line name args) ≡ [] → Args w known p (wants_of file (callee file p name)) args
      → Allowed w file (called (or_nothing (callee known p name))) → Good w known file p want (call line name args)
  unfolding scope type_of
  call_good p want line name args clear a allowed =
      let c : Option Object = callee file p name in
      let as_known : c ≡ callee known p name = sym (callee_same unit facts p name) in
      let wrong : wrong_call file c (count args) ≡ [] = front _ _ clear in
      let late : late_call file p c args ≡ [] = back _ _ (back _ _ clear) in
      let here : given_at file p c args ≡ given file c = given_right file p c args wrong late in
      let there : given_at known p c args ≡ given known c = given_right known p c args (wrong_same unit facts c (count args) wrong) (late_same unit facts p c args late) in
      let meant_so : given_at known p (callee known p name) args ≡ given_at known p c args = ap (λ (x : Option Object). given_at known p x args) (sym as_known) in
      let same : given_at known p (callee known p name) args ≡ given_at file p c args = meant_so ∙ there ∙ given_same unit facts c ∙ sym here in
      let kind : value_kind (given_at known p (callee known p name) args) ≡ value_kind (given file c) = ap (λ (t : ValueType). value_kind t) (same ∙ here) in
      let allowed_c : Allowed w file (called (or_nothing c)) = subst (λ (x : Option Object). Allowed w file (called (or_nothing x))) (sym as_known) allowed in
      let made : IsScoped w (tree.call line (or_nothing c) (scope_all known p args) (value_kind (given_at known p (callee known p name) args))) =
      call_scoped p line args c (value_kind (given_at known p (callee known p name) args)) (callee_called file p name) wrong late a allowed_c kind in
      record {
        scoped = subst (λ (x : Option Object). IsScoped w (tree.call line (or_nothing x) (scope_all known p args) (value_kind (given_at known p (callee known p name) args)))) as_known made;
        same = same;
        kind = ap (λ (t : ValueType). value_kind t) same;
        met = meets want (given_at file p c args) (front _ _ (back _ _ clear));
      }

  no_text : (want : Want) (line : ℕ) (p : Place) → own file p want (text line) ≡ [] → is_text_place want ≡ true
  unfolding type_of
  no_text want line p clear = not_false (is_text_place want) (not_when _ MisplacedText (back _ _ clear))

  no_address : (want : Want) (line where_ name : ℕ) (index : Index) (p : Place) → own file p want (address line where_ name index) ≡ [] → is_reference_place want ≡ true
  unfolding type_of
  no_address want line where_ name index p clear = not_false (is_reference_place want) (not_when _ MisplacedAddress (back _ _ clear))

  mutual
    unfolding faults scope

    pub good : (p : Place) → At w f p → (want : Want) (e : Expression) → faults file p want e ≡ [] → FitsExpression e → Allowed w file (expression_calls (scope known p e)) → Answer w known file p want e
    good p at want (constant line value form) clear fits calls = record { good = λ plain. constant_good w known file p want line value form (no_rules line _ clear); indexing = tt }
    good p at want (null line) clear fits calls = record { good = λ plain. null_good w known file p want line (no_rules line _ clear); indexing = tt }
    good p at want (text line) clear fits calls = record { good = λ plain. no_truth (sym plain.text ∙ no_text want line p (no_rules line _ clear)); indexing = tt }
    good p at want (object line name index) clear fits calls =
        let i : Indexes w known p index = index_good p at index (back _ _ (back _ _ clear)) fits calls in
        record { good = λ plain. object_good w known file p f at want plain line name index (no_rules line _ (front _ _ clear)) (front _ _ (back _ _ clear)) i; indexing = i }
    good p at want (address line where_ name index) clear fits calls =
        record { good = λ plain. no_truth (sym plain.reference ∙ no_address want line where_ name index p (no_rules line _ (front _ _ clear))); indexing = index_good p at index (back _ _ (back _ _ clear)) fits calls }
    good p at want (paren line e) clear fits calls =
        let a : Answer w known file p wants.Unneeded e = good p at wants.Unneeded e (back _ _ clear) fits calls in
        record { good = λ plain. paren_good w known file p want line e (no_rules line _ (front _ _ clear)) (a.good plain_unneeded); indexing = tt }
    good p at want (unary line op e) clear fits calls =
        let a : Answer w known file p wants.Integer e = good p at wants.Integer e (back _ _ clear) fits.1 calls in
        record { good = λ plain. unary_good w known file p want line op e (a.good plain_integer); indexing = tt }
    good p at want (cast line to e) clear fits calls =
        let a : Answer w known file p wants.Any e = good p at wants.Any e (back _ _ clear) fits.2 calls in
        record { good = λ plain. cast_good w known file p want line to e (no_rules line _ (front _ _ clear)) (a.good plain_any); indexing = tt }
    good p at want (binary line op left right) clear fits calls =
        let a : Answer w known file p wants.Integer left = good p at wants.Integer left (front _ _ (back _ _ clear)) fits.2 (allowed_front _ _ calls) in
        let b : Answer w known file p wants.Integer right = good p at wants.Integer right (back _ _ (back _ _ clear)) fits.3 (allowed_back _ _ calls) in
        record { good = λ plain. binary_good w known file p want line op left right (a.good plain_integer) (b.good plain_integer); indexing = tt }
    good p at want (choose line test first second) clear fits calls =
        let x : Want = choice_want (type_of file p first) (type_of file p second) in
        let own_ones : List Fault = node file p want (choose line test first second) in
        let rest : faults file p wants.Integer test ++ (faults file p x first ++ faults file p x second) ≡ [] =
        back own_ones (faults file p wants.Integer test ++ (faults file p x first ++ faults file p x second)) clear in
        let both_parts : faults file p x first ++ faults file p x second ≡ [] = back (faults file p wants.Integer test) (faults file p x first ++ faults file p x second) rest in
        let t : Answer w known file p wants.Integer test = good p at wants.Integer test (front (faults file p wants.Integer test) (faults file p x first ++ faults file p x second) rest) fits.2 (allowed_front _ _ calls) in
        let a : Answer w known file p x first = good p at x first (front (faults file p x first) (faults file p x second) both_parts) fits.3 (allowed_front _ _ (allowed_back _ _ calls)) in
        let b : Answer w known file p x second = good p at x second (back (faults file p x first) (faults file p x second) both_parts) fits.4 (allowed_back _ _ (allowed_back _ _ calls)) in
        record {
          good = λ plain. choose_good w known file p want line test first second (no_rules line _ (front own_ones (faults file p wants.Integer test ++ (faults file p x first ++ faults file p x second)) clear)) (t.good plain_integer) (a.good (plain_of _)) (b.good (plain_of _));
          indexing = tt;
        }
    good p at want (assign line op where_ name index value) clear fits calls =
        let x : Want = want_of (type_at p true name index) in
        let own_ones : List Fault = node file p want (assign line op where_ name index value) in
        let its : List Fault = target p true where_ name index in
        let rest : its ++ (index_faults file p index ++ faults file p x value) ≡ [] = back own_ones (its ++ (index_faults file p index ++ faults file p x value)) clear in
        let parts : index_faults file p index ++ faults file p x value ≡ [] = back its (index_faults file p index ++ faults file p x value) rest in
        let i : Indexes w known p index = index_good p at index (front (index_faults file p index) (faults file p x value) parts) fits.1 (allowed_front _ _ calls) in
        let v : Answer w known file p x value = good p at x value (back (index_faults file p index) (faults file p x value) parts) fits.2 (allowed_back _ _ calls) in
        record {
          good = λ plain. assign_good w known file p f at want line op where_ name index value (no_rules line _ (front own_ones (its ++ (index_faults file p index ++ faults file p x value)) clear))
              (front its (index_faults file p index ++ faults file p x value) rest) fits.0 i (v.good (plain_of _));
          indexing = tt;
        }
    good p at want (step line where_ name index up before) clear fits calls =
        let i : Indexes w known p index = index_good p at index (back _ _ (back _ _ clear)) fits calls in
        record { good = λ plain. step_good w known file p f at want line where_ name index up before (no_rules line _ (front _ _ clear)) (front _ _ (back _ _ clear)) i; indexing = tt }
    good p at want (call line name args) clear fits calls =
        let c : Option Object = callee file p name in
        let o : own file p want (call line name args) ≡ [] = no_rules line _ (front _ _ clear) in
        let is : IsCalled c = callee_called file p name in
        let a : Args w known p (wants_of file c) args =
        all_good p at (wants_of file c) (further_want c) (further_called c) (need_called c is) args (back _ _ clear) fits (allowed_front _ _ calls) (stand_called p at c args is (back _ _ (back _ _ o))) in
        record { good = λ plain. call_good p want line name args o a (allowed_back _ _ calls); indexing = tt }

    pub index_good : (p : Place) → At w f p → (index : Index) → index_faults file p index ≡ [] → FitsIndex index → Allowed w file (index_calls (scope_index known p index)) → Indexes w known p index
    index_good p at whole clear fits calls = record { each = λ o alone. (alone refl, refl) }
    index_good p at (element e) clear fits calls =
        let g : Good w known file p wants.Integer e = (good p at wants.Integer e clear fits calls).good plain_integer in
        record { each = λ o alone. (g.scoped, good_value g refl, refl) }

    pub all_good : (p : Place) → At w f p → (ws : List Want) (further : Want) → Further further → NeedAll ws → (es : Expressions) → all_faults file p ws further es ≡ [] → FitsAll es
        → Allowed w file (expressions_calls (scope_all known p es)) → StandAll w file p ws es → Args w known p ws es
    all_good p at [] further is need none clear fits calls stand = tt
    all_good p at (want ∷ ws) further is need none clear fits calls stand = tt
    all_good p at [] further is need (and e rest) clear fits calls stand =
        let g : Good w known file p further e = (good p at further e (front _ _ clear) fits.0 (allowed_front _ _ calls)).good is.plain in
        (g.scoped, good_value g is.needs_, all_good p at [] further is need rest (back _ _ clear) fits.1 (allowed_back _ _ calls) tt)
    all_good p at (want ∷ ws) further is need (and e rest) clear fits calls stand = (
      argument w known file f rights (callee_same unit facts) p at want e (front _ _ clear) stand.0 need.0 (good p at want e (front _ _ clear) fits.0 (allowed_front _ _ calls)),
      all_good p at ws further is need.1 rest (back _ _ clear) fits.1 (allowed_back _ _ calls) stand.1,
    )
