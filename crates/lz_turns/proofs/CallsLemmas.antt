-- What a call makes of its stage is what its code may do from there, Loc left out.
use Rattle.std.proofs.Common.{◌≡◌, ℕ, zero, suc, ◌+◌, Bool, true, false, List, [], ◌∷◌, ◌++◌, length, slice_index, Option, Some, None, refl, sym, ◌∙◌, ap, subst}
use Rattle.std.proofs.Math.Seq.{append_snoc}
use Rattle.std.proofs.lemmas.List.{append-nil}
use Rattle.lz_base.specs.declared.word.BreakKind.{BreakKind}
use Rattle.lz_base.specs.declared.word.BreakKind.TheVariants as kinds
use Rattle.lz_base.specs.declared.word.IntType.{IntType}
use Rattle.lz_tree.specs.declared.scoped.KnownName.{KnownName}
use Rattle.lz_tree.specs.declared.scoped.KnownName.TheVariants as known
use Rattle.lz_tree.specs.declared.scoped.Object.{Object}
use Rattle.lz_tree.specs.declared.scoped.Object.TheVariants.{Local, Cell, Mutex, Cond, Handle, Routine, Known}
use Rattle.lz_tree.specs.ScopedTrees.{ScopedExpression, constant, null, text, object, address, paren, unary, cast, binary, choose, assign, step, call, Lvalue, lvalue, ScopedIndex, whole, element, ScopedExpressions, none, and}
use Rattle.lz_model.specs.declared.actions.Action.{Action}
use Rattle.lz_model.specs.declared.actions.Action.TheVariants.{Check, Assume, Wake}
use Rattle.lz_model.specs.Behaviours.{Behaviour, ends_with, stays, ◌and_then◌, ◌gives◌, picks}
use Rattle.lz_model.specs.CodeTraces.{Locals, set_handle, Calls, at, does, locs, checks, assumes, IsAny, checks_index, first_of, known_trace, expression_trace, arguments_trace, objects_trace, values_trace, place_trace, index_trace, is_object_argument}
use Rattle.lz_model.proofs.FrontsLemmas.{FrontCalls, fronts_updates, fronts_chooses, fronts_frame, fronts_expression}
use Rattle.lz_turns.specs.Stages.{settled, passing, handed, argued}
use Rattle.lz_turns.specs.Moves.{Called, function_called, known_called, not_called, called, argument_at, arguments_of, index_of_argument, part_of, handed_slot, check_move, assume_move, calling_so, calling_move, argument_move, passing_one, passing_so, passing_move, handed_one, handed_so, handed_move, known_move, handed_index, written_index, element_at, index_move, value_so, arguing_so, arguing_move, argued_so, argued_move, woken_move, made_move, made_locals, begin_move}
use Rattle.lz_turns.specs.Seen.{Alike}
use Rattle.lz_turns.specs.Resumed.{rest_from, calls_with, calling_from, calling_trace, arguing_from, arguing_trace, argued_known, argued_trace, passing_from, passing_trace, handed_place, handed_expression, handed_known, handed_trace_of, woken_trace, made_trace, stage_trace, with_part, moved}
use Rattle.lz_turns.proofs.SeenLemmas.{alike_same, alike_alike, alike_behind, alike_value, alike_loc, alike_tells, alike_given, alike_ends, alike_assoc, alike_choice, alike_renamed}
use Rattle.lz_turns.proofs.StepsLemmas.{index_moves, place_begins}

-- ---- the arguments from one on

pub rest_none : (args : ScopedExpressions) (k : ℕ) → argument_at args k ≡ None → rest_from args k ≡ none
rest_none none zero e = refl
rest_none none (suc k) e = refl
rest_none (and x rest) zero e = absurd cc
rest_none (and x rest) (suc k) e = rest_none rest k e

pub rest_some : (args : ScopedExpressions) (k : ℕ) (a : ScopedExpression) → argument_at args k ≡ Some a → rest_from args k ≡ and a (rest_from args (suc k))
rest_some none zero a e = absurd cc
rest_some none (suc k) a e = absurd cc
rest_some (and x rest) zero a e = let same : x ≡ a = cc in ap (λ (y : ScopedExpression). and y rest) same
rest_some (and x rest) (suc k) a e = rest_some rest k a e

-- ---- code that is known by an equation

is_same : {P Q : Behaviour Locals ℕ} → P ≡ Q → (s : Locals) → Alike P s Q s
is_same {P} e s = subst (λ (X : Behaviour Locals ℕ). Alike P s X s) e alike_same

-- a part that is there
pub part_is : (o : Option ScopedExpression) (a : ScopedExpression) (code : ScopedExpression → Behaviour Locals ℕ) → o ≡ Some a → (s : Locals) → Alike (code a) s (with_part o code) s
part_is o a code e s = subst (λ (x : Option ScopedExpression). Alike (code a) s (with_part x code) s) (sym e) alike_same

does_ends : (line : ℕ) (action : Action) (v : ℕ) (s : Locals) → Alike (does line action v) s (does line action zero and_then λ _. ends_with v) s
does_ends line action v s = alike_alike (alike_ends fronts_updates s) (alike_renamed _ v zero ends_with s)

-- Loc for each parameter is not seen
locs_quiet : (line : ℕ) (xs : List ℕ) (rest : Behaviour Locals ℕ) (s : Locals) → Alike (locs line xs and_then λ _. rest) s rest s
locs_quiet line [] rest s = alike_value
locs_quiet line (x ∷ xs) rest s = alike_alike alike_assoc (alike_alike (alike_loc line stays zero _ s) (locs_quiet line xs rest s))

-- one more argument
longer : (values : List ℕ) (v : ℕ) → suc (length values) ≡ length (values ++ v ∷ [])
longer [] v = refl
longer (x ∷ xs) v = ap suc (longer xs v)

module _ (calls : Calls) (c : FrontCalls calls) (e : ScopedExpression) where
  -- ---- functions

  callings_at : (line function : ℕ) (values : List ℕ) → called e ≡ function_called line function → (o : Option ScopedExpression) → argument_at (arguments_of e) (length values) ≡ o → (s : Locals)
      → Alike (calling_trace calls (function_called line function) (arguments_of e) values) s (moved calls e (calling_so o function (arguments_of e) values)) s
  callings_at line function values is None at s =
      let args = arguments_of e in
      alike_alike (is_same (ap (λ (r : ScopedExpressions). calling_from calls line function args r values) (rest_none args (length values) at)) s)
      (alike_alike alike_value
      (alike_alike (is_same (ap (λ (vs : List ℕ). calls_with calls line function args vs) (append-nil values)) s)
      (alike_alike (locs_quiet line values _ s) (alike_ends (fronts_frame (c.fronts function)) s))))
  callings_at line function values is (Some a) at s =
      let args = arguments_of e in
      alike_alike (is_same (ap (λ (r : ScopedExpressions). calling_from calls line function args r values) (rest_some args (length values) a at)) s)
      (alike_alike alike_assoc
      (alike_alike (alike_behind (fronts_expression calls c a) (λ v t. alike_alike (alike_given _ (λ (vs : List ℕ). v ∷ vs) _ t) (is_same (later v) t)) s)
      (part_is (argument_at args (length values)) a (λ part. expression_trace calls part and_then λ w. calling_trace calls (called e) args (values ++ w ∷ [])) at s)))
    where
      later : (v : ℕ) → (arguments_trace calls (rest_from (arguments_of e) (suc (length values))) and_then λ vs. calls_with calls line function (arguments_of e) (values ++ v ∷ vs))
          ≡ calling_trace calls (called e) (arguments_of e) (values ++ v ∷ [])
      later v =
          let one : (arguments_trace calls (rest_from (arguments_of e) (suc (length values))) and_then λ vs. calls_with calls line function (arguments_of e) (values ++ v ∷ vs))
          ≡ calling_trace calls (function_called line function) (arguments_of e) (values ++ v ∷ []) =
          λ i. arguments_trace calls (rest_from (arguments_of e) (longer values v i)) and_then λ vs. calls_with calls line function (arguments_of e) (sym (append_snoc values v vs) i) in
          one ∙ ap (λ (d : Called). calling_trace calls d (arguments_of e) (values ++ v ∷ [])) (sym is)

  pub callings : (d : Called) → called e ≡ d → (values : List ℕ) (s : Locals) → Alike (calling_trace calls d (arguments_of e) values) s (moved calls e (calling_move d (arguments_of e) values)) s
  callings (function_called line function) is values s = callings_at line function values is (argument_at (arguments_of e) (length values)) refl s
  callings (known_called line name) is values s = alike_same
  callings not_called is values s = alike_same

  pub argument_behind : (d : Called) → called e ≡ d → (values : List ℕ) (v : ℕ) (s : Locals) → Alike (calling_trace calls d (arguments_of e) (values ++ v ∷ [])) s (moved calls e (argument_move d values v)) s
  argument_behind (function_called line function) is values v s = is_same (ap (λ (d : Called). calling_trace calls d (arguments_of e) (values ++ v ∷ [])) (sym is)) s
  argument_behind (known_called line name) is values v s = alike_same
  argument_behind not_called is values v s = alike_same

  -- ---- objects that are handed to a known name

  passing_later : (line : ℕ) (name : KnownName) → called e ≡ known_called line name → (objects : List ℕ) (k : ℕ) (s : Locals)
      → Alike (passing_from calls line name (arguments_of e) (rest_from (arguments_of e) k) objects) s (stage_trace calls e (passing objects k) 0) s
  passing_later line name is objects k s = is_same (ap (λ (d : Called). passing_trace calls d (arguments_of e) objects k) (sym is)) s

  -- one that has this target
  target_passes : (line : ℕ) (name : KnownName) → called e ≡ known_called line name → (objects : List ℕ) (k place : ℕ) (meant : Object) (index : ScopedIndex) (checked : Bool) (s : Locals)
      → Alike (((place_trace calls (lvalue place meant index checked) gives λ i. first_of meant + i) and_then λ o. objects_trace calls (rest_from (arguments_of e) (suc k)) gives λ os. o ∷ os)
      and_then λ os. arguing_from calls line name (arguments_of e) (objects ++ os) []) s
      (index_trace calls index and_then λ i. checks_index place meant index checked i and_then λ _. passing_trace calls (called e) (arguments_of e) (objects ++ (first_of meant + i) ∷ []) (suc k)) s
  target_passes line name is objects k place meant index checked s =
      alike_alike alike_assoc (alike_alike (alike_given _ (λ (i : ℕ). first_of meant + i) _ s)
      (place_begins calls c place meant index checked _ _ (λ i t. alike_alike (alike_given _ (λ (os : List ℕ). (first_of meant + i) ∷ os) _ t) (is_same (later i) t)) s))
    where
      later : (i : ℕ) → (objects_trace calls (rest_from (arguments_of e) (suc k)) and_then λ os. arguing_from calls line name (arguments_of e) (objects ++ (first_of meant + i) ∷ os) [])
          ≡ passing_trace calls (called e) (arguments_of e) (objects ++ (first_of meant + i) ∷ []) (suc k)
      later i =
          let one : (objects_trace calls (rest_from (arguments_of e) (suc k)) and_then λ os. arguing_from calls line name (arguments_of e) (objects ++ (first_of meant + i) ∷ os) [])
          ≡ passing_trace calls (known_called line name) (arguments_of e) (objects ++ (first_of meant + i) ∷ []) (suc k) =
          λ j. objects_trace calls (rest_from (arguments_of e) (suc k)) and_then λ os. arguing_from calls line name (arguments_of e) (sym (append_snoc objects (first_of meant + i) os) j) [] in
          one ∙ ap (λ (d : Called). passing_trace calls d (arguments_of e) (objects ++ (first_of meant + i) ∷ []) (suc k)) (sym is)

  -- behind its index
  waits : (line : ℕ) (name : KnownName) → called e ≡ known_called line name → (a : ScopedExpression) (objects : List ℕ) (k place : ℕ) (meant : Object) (index : ScopedIndex) (checked : Bool)
      → argument_at (arguments_of e) k ≡ Some a
      → ((d : Called) (v : ℕ) → handed_expression calls d (arguments_of e) a objects k v ≡ handed_place calls d (arguments_of e) (lvalue place meant index checked) objects k v) → (v : ℕ)
      → handed_place calls (called e) (arguments_of e) (lvalue place meant index checked) objects k v ≡ stage_trace calls e (handed objects k) v
  waits line name is a objects k place meant index checked at same v =
      let d = known_called line name in
      let one = ap (λ (x : Called). handed_place calls x (arguments_of e) (lvalue place meant index checked) objects k v) is in
      let two = ap (λ (o : Option ScopedExpression). handed_trace_of calls d (arguments_of e) o objects k v) (sym at) in
      let three = ap (λ (x : Called). handed_trace_of calls x (arguments_of e) (argument_at (arguments_of e) k) objects k v) (sym is) in
      one ∙ (sym (same d v) ∙ (two ∙ three))

  -- what follows it, by its index
  index_passes : (line : ℕ) (name : KnownName) → called e ≡ known_called line name → (a : ScopedExpression) (objects : List ℕ) (k place : ℕ) (meant : Object) (index : ScopedIndex) (checked : Bool)
      → argument_at (arguments_of e) k ≡ Some a
      → ((d : Called) (v : ℕ) → handed_expression calls d (arguments_of e) a objects k v ≡ handed_place calls d (arguments_of e) (lvalue place meant index checked) objects k v)
      → index_of_argument (Some a) ≡ written_index index → (s : Locals)
      → Alike (index_trace calls index and_then λ i. checks_index place meant index checked i and_then λ _. passing_trace calls (called e) (arguments_of e) (objects ++ (first_of meant + i) ∷ []) (suc k)) s
      (moved calls e (handed_index index objects k)) s
  index_passes line name is a objects k place meant whole checked at same inner s =
      alike_alike alike_value (is_same (waits line name is a objects k place meant whole checked at same 0) s)
  index_passes line name is a objects k place meant (element index) checked at same inner s =
      alike_alike (alike_behind (fronts_expression calls c index) (λ v t. is_same (waits line name is a objects k place meant (element index) checked at same v) t) s)
      (part_is (part_of e (handed_slot k)) index (λ part. expression_trace calls part and_then λ w. stage_trace calls e (handed objects k) w) (ap index_of_argument at ∙ inner) s)

  passings_at : (line : ℕ) (name : KnownName) (objects : List ℕ) (k : ℕ) → called e ≡ known_called line name → (o : Option ScopedExpression) → argument_at (arguments_of e) k ≡ o → (s : Locals)
      → Alike (passing_trace calls (known_called line name) (arguments_of e) objects k) s (moved calls e (passing_so o objects k)) s
  passings_at line name objects k is None at s =
      let args = arguments_of e in
      alike_alike (is_same (ap (λ (r : ScopedExpressions). passing_from calls line name args r objects) (rest_none args k at)) s)
      (alike_alike alike_value (is_same (λ i. arguing_trace calls (sym is i) args (append-nil objects i) [] 0) s))
  passings_at line name objects k is (Some a) at s =
      alike_alike (is_same (ap (λ (r : ScopedExpressions). passing_from calls line name (arguments_of e) r objects) (rest_some (arguments_of e) k a at)) s) (by_argument a at s)
    where
      by_argument : (a : ScopedExpression) → argument_at (arguments_of e) k ≡ Some a → (s : Locals)
          → Alike (passing_from calls line name (arguments_of e) (and a (rest_from (arguments_of e) (suc k))) objects) s (moved calls e (passing_one a objects k)) s
      by_argument (constant l value form kind) at s = passing_later line name is objects (suc k) s
      by_argument (null l kind) at s = passing_later line name is objects (suc k) s
      by_argument (text l kind) at s = passing_later line name is objects (suc k) s
      by_argument (object (lvalue place (Handle f len) index checked) kind) at s =
          alike_alike (target_passes line name is objects k place (Handle f len) index checked s)
          (index_passes line name is (object (lvalue place (Handle f len) index checked) kind) objects k place (Handle f len) index checked at (λ d v. refl) refl s)
      by_argument (object (lvalue place (Local f len m) index checked) kind) at s = passing_later line name is objects (suc k) s
      by_argument (object (lvalue place (Cell f len m) index checked) kind) at s = passing_later line name is objects (suc k) s
      by_argument (object (lvalue place (Mutex f len) index checked) kind) at s = passing_later line name is objects (suc k) s
      by_argument (object (lvalue place (Cond f len) index checked) kind) at s = passing_later line name is objects (suc k) s
      by_argument (object (lvalue place (Routine f) index checked) kind) at s = passing_later line name is objects (suc k) s
      by_argument (object (lvalue place (Known n) index checked) kind) at s = passing_later line name is objects (suc k) s
      by_argument (address l (lvalue place meant index checked) kind) at s =
          alike_alike (target_passes line name is objects k place meant index checked s)
          (index_passes line name is (address l (lvalue place meant index checked) kind) objects k place meant index checked at (λ d v. refl) refl s)
      by_argument (paren l inner kind) at s = passing_later line name is objects (suc k) s
      by_argument (unary l op of kind) at s = passing_later line name is objects (suc k) s
      by_argument (cast l to of kind) at s = passing_later line name is objects (suc k) s
      by_argument (binary l op left right kind) at s = passing_later line name is objects (suc k) s
      by_argument (choose l test one two kind) at s = passing_later line name is objects (suc k) s
      by_argument (step l of up prefix kind) at s = passing_later line name is objects (suc k) s
      by_argument (call l callee row kind) at s = passing_later line name is objects (suc k) s
      by_argument (assign l op to value kind) at s = passing_later line name is objects (suc k) s

  pub passings : (d : Called) → called e ≡ d → (objects : List ℕ) (k : ℕ) (s : Locals) → Alike (passing_trace calls d (arguments_of e) objects k) s (moved calls e (passing_move d (arguments_of e) objects k)) s
  passings (known_called line name) is objects k s = passings_at line name objects k is (argument_at (arguments_of e) k) refl s
  passings (function_called line function) is objects k s = alike_same
  passings not_called is objects k s = alike_same

  handed_checks : (d : Called) → called e ≡ d → (of : Lvalue) (objects : List ℕ) (k v : ℕ) (s : Locals)
      → Alike (handed_place calls d (arguments_of e) of objects k v) s (moved calls e (index_move of v (passing (objects ++ element_at of v ∷ []) (suc k)))) s
  handed_checks d is (lvalue place meant index checked) objects k v s =
      index_moves calls e (passing (objects ++ (first_of meant + v) ∷ []) (suc k)) place meant index checked v _
      (λ t. is_same (ap (λ (x : Called). passing_trace calls x (arguments_of e) (objects ++ (first_of meant + v) ∷ []) (suc k)) (sym is)) t) s

  handed_at : (d : Called) → called e ≡ d → (a : ScopedExpression) (objects : List ℕ) (k v : ℕ) (s : Locals)
      → Alike (handed_expression calls d (arguments_of e) a objects k v) s (moved calls e (handed_one a objects k v)) s
  handed_at d is (constant line value form kind) objects k v s = alike_same
  handed_at d is (null line kind) objects k v s = alike_same
  handed_at d is (text line kind) objects k v s = alike_same
  handed_at d is (object of kind) objects k v s = handed_checks d is of objects k v s
  handed_at d is (address line of kind) objects k v s = handed_checks d is of objects k v s
  handed_at d is (paren line inner kind) objects k v s = alike_same
  handed_at d is (unary line op of kind) objects k v s = alike_same
  handed_at d is (cast line to of kind) objects k v s = alike_same
  handed_at d is (binary line op left right kind) objects k v s = alike_same
  handed_at d is (choose line test one two kind) objects k v s = alike_same
  handed_at d is (step line of up prefix kind) objects k v s = alike_same
  handed_at d is (call line callee row kind) objects k v s = alike_same
  handed_at d is (assign line op to value kind) objects k v s = alike_same

  handed_option : (d : Called) → called e ≡ d → (o : Option ScopedExpression) (objects : List ℕ) (k v : ℕ) (s : Locals)
      → Alike (handed_known calls d (arguments_of e) o objects k v) s (moved calls e (handed_so o objects k v)) s
  handed_option d is None objects k v s = alike_same
  handed_option d is (Some a) objects k v s = handed_at d is a objects k v s

  pub handed_behind : (d : Called) → called e ≡ d → (objects : List ℕ) (k v : ℕ) (s : Locals)
      → Alike (handed_trace_of calls d (arguments_of e) (argument_at (arguments_of e) k) objects k v) s (moved calls e (handed_move d (arguments_of e) objects k v)) s
  handed_behind (known_called line name) is objects k v s = handed_option (known_called line name) is (argument_at (arguments_of e) k) objects k v s
  handed_behind (function_called line function) is objects k v s = alike_same
  handed_behind not_called is objects k v s = alike_same

  -- ---- known names

  check_ends : (line value : ℕ) (kind : BreakKind) (s : Locals) → Alike (checks line value kind) s (moved calls e (check_move line value kind (settled 0))) s
  check_ends line zero kind s = alike_same
  check_ends line (suc value) kind s = does_ends line (Check (suc value) kind) zero s

  assume_ends : (line value : ℕ) (s : Locals) → Alike (assumes line value) s (moved calls e (assume_move line value (settled 0))) s
  assume_ends line zero s = alike_same
  assume_ends line (suc value) s = does_ends line (Assume (suc value)) zero s

  knowns : (line : ℕ) (name : KnownName) → called e ≡ known_called line name → (objects values : List ℕ) (s : Locals)
      → Alike (known_trace line name objects values) s (moved calls e (known_move line name objects values s)) s
  knowns line known.Assert is objects values s = check_ends line (slice_index values 0) kinds.Assert s
  knowns line known.Assume is objects values s = assume_ends line (slice_index values 0) s
  knowns line known.NondetInt is objects values s = alike_ends (fronts_chooses (λ v. fronts_updates)) s
  knowns line known.NondetUint is objects values s = alike_ends (fronts_chooses (λ v. fronts_updates)) s
  knowns line known.Error is objects values s = alike_same
  knowns line known.ReachError is objects values s = alike_same
  knowns line known.Abort is objects values s = alike_same
  knowns line known.AtomicBegin is objects values s = does_ends line _ 0 s
  knowns line known.AtomicEnd is objects values s = does_ends line _ 0 s
  knowns line known.Create is objects values s =
      alike_choice IsAny (λ d. alike_behind fronts_updates (λ v t. is_same (ap (λ (x : Called). made_trace x (slice_index objects 0) d) (sym is)) t) s)
  knowns line known.Join is objects values s = alike_alike (alike_tells line _ _ s) (does_ends line _ 0 s)
  knowns line known.Exit is objects values s = alike_same
  knowns line known.MutexInit is objects values s = does_ends line _ 0 s
  knowns line known.MutexDestroy is objects values s = alike_same
  knowns line known.MutexLock is objects values s = does_ends line _ 0 s
  knowns line known.MutexUnlock is objects values s = does_ends line _ 0 s
  knowns line known.CondInit is objects values s = alike_same
  knowns line known.CondDestroy is objects values s = alike_same
  knowns line known.CondWait is objects values s =
      alike_behind fronts_updates (λ v t. is_same (ap (λ (x : Called). woken_trace x (slice_index objects 0) (slice_index objects 1)) (sym is)) t) s
  knowns line known.CondSignal is objects values s = alike_ends (fronts_chooses (λ v. fronts_updates)) s
  knowns line known.CondBroadcast is objects values s = does_ends line _ 0 s
  knowns line known.Printf is objects values s = alike_same

  -- ---- values that are handed to a known name

  arguings_at : (line : ℕ) (name : KnownName) (objects values : List ℕ) (k : ℕ) → called e ≡ known_called line name → (o : Option ScopedExpression) → argument_at (arguments_of e) k ≡ o → (s : Locals)
      → Alike (arguing_trace calls (known_called line name) (arguments_of e) objects values k) s (moved calls e (arguing_so o line name objects values k s)) s
  arguings_at line name objects values k is None at s =
      let args = arguments_of e in
      alike_alike (is_same (ap (λ (r : ScopedExpressions). arguing_from calls line name r objects values) (rest_none args k at)) s)
      (alike_alike alike_value (alike_alike (is_same (ap (λ (vs : List ℕ). known_trace line name objects vs) (append-nil values)) s) (knowns line name is objects values s)))
  arguings_at line name objects values k is (Some a) at s =
      alike_alike (is_same (ap (λ (r : ScopedExpressions). arguing_from calls line name r objects values) (rest_some (arguments_of e) k a at)) s) (by_kind (is_object_argument a))
    where
      later : (v : ℕ) → (values_trace calls (rest_from (arguments_of e) (suc k)) and_then λ vs. known_trace line name objects (values ++ v ∷ vs))
          ≡ stage_trace calls e (argued objects values k) v
      later v =
          let d = known_called line name in
          let one : (values_trace calls (rest_from (arguments_of e) (suc k)) and_then λ vs. known_trace line name objects (values ++ v ∷ vs))
          ≡ arguing_trace calls (known_called line name) (arguments_of e) objects (values ++ v ∷ []) (suc k) =
          λ i. values_trace calls (rest_from (arguments_of e) (suc k)) and_then λ vs. known_trace line name objects (sym (append_snoc values v vs) i) in
          let two = ap (λ (o : Option ScopedExpression). argued_trace calls d (arguments_of e) o objects values k v) (sym at) in
          one ∙ (two ∙ ap (λ (x : Called). argued_trace calls x (arguments_of e) (argument_at (arguments_of e) k) objects values k v) (sym is))

      by_kind : (b : Bool)
          → Alike (picks b (values_trace calls (rest_from (arguments_of e) (suc k))) (expression_trace calls a and_then λ v. values_trace calls (rest_from (arguments_of e) (suc k)) gives λ vs. v ∷ vs)
          and_then λ vs. known_trace line name objects (values ++ vs)) s (moved calls e (value_so b objects values k)) s
      by_kind true = is_same (ap (λ (d : Called). arguing_trace calls d (arguments_of e) objects values (suc k)) (sym is)) s
      by_kind false =
          alike_alike alike_assoc
          (alike_alike (alike_behind (fronts_expression calls c a) (λ v t. alike_alike (alike_given _ (λ (vs : List ℕ). v ∷ vs) _ t) (is_same (later v) t)) s)
          (part_is (argument_at (arguments_of e) k) a (λ part. expression_trace calls part and_then λ w. stage_trace calls e (argued objects values k) w) at s))

  pub arguings : (d : Called) → called e ≡ d → (objects values : List ℕ) (k : ℕ) (s : Locals)
      → Alike (arguing_trace calls d (arguments_of e) objects values k) s (moved calls e (arguing_move d (arguments_of e) objects values k s)) s
  arguings (known_called line name) is objects values k s = arguings_at line name objects values k is (argument_at (arguments_of e) k) refl s
  arguings (function_called line function) is objects values k s = alike_same
  arguings not_called is objects values k s = alike_same

  argued_option : (d : Called) → called e ≡ d → (o : Option ScopedExpression) (objects values : List ℕ) (k v : ℕ) (s : Locals)
      → Alike (argued_known calls d (arguments_of e) o objects values k v) s (moved calls e (argued_so o objects values k v)) s
  argued_option d is None objects values k v s = alike_same
  argued_option d is (Some a) objects values k v s = is_same (ap (λ (x : Called). arguing_trace calls x (arguments_of e) objects (values ++ v ∷ []) (suc k)) (sym is)) s

  pub argued_behind : (d : Called) → called e ≡ d → (objects values : List ℕ) (k v : ℕ) (s : Locals)
      → Alike (argued_trace calls d (arguments_of e) (argument_at (arguments_of e) k) objects values k v) s (moved calls e (argued_move d (arguments_of e) objects values k v)) s
  argued_behind (known_called line name) is objects values k v s = argued_option (known_called line name) is (argument_at (arguments_of e) k) objects values k v s
  argued_behind (function_called line function) is objects values k v s = alike_same
  argued_behind not_called is objects values k v s = alike_same

  pub wokens : (d : Called) (cond mutex : ℕ) (s : Locals) → Alike (woken_trace d cond mutex) s (moved calls e (woken_move d cond mutex)) s
  wokens (known_called line name) cond mutex s = does_ends line (Wake cond mutex) 0 s
  wokens (function_called line function) cond mutex s = alike_same
  wokens not_called cond mutex s = alike_same

  pub mades : (d : Called) (handle v : ℕ) (s : Locals) → Alike (made_trace d handle v) s (moved calls e (made_move d)) (made_locals d handle v s)
  mades (known_called line name) handle v s = alike_alike (alike_ends fronts_updates s) (alike_loc line (set_handle handle v) 0 ends_with s)
  mades (function_called line function) handle v s = alike_same
  mades not_called handle v s = alike_same

-- ---- the start of a call

pub call_starts : (calls : Calls) (line : ℕ) (callee : Object) (args : ScopedExpressions) (kind : Option IntType) (s : Locals)
    → let e = call line callee args kind in Alike (expression_trace calls e) s (moved calls e (begin_move e)) s
call_starts calls line (Local f len m) args kind s = alike_same
call_starts calls line (Cell f len m) args kind s = alike_same
call_starts calls line (Mutex f len) args kind s = alike_same
call_starts calls line (Cond f len) args kind s = alike_same
call_starts calls line (Handle f len) args kind s = alike_same
call_starts calls line (Routine f) args kind s = alike_same
call_starts calls line (Known n) args kind s = alike_same
