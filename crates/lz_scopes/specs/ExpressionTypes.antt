-- Trusted: what each expression is at its place, and which rules its node breaks by itself (C99 6.5).
use Rattle.std.specs.Prelude.{◌≡◌, ℕ, zero, suc, ◌+◌, ◌==◌, nat_lt, Bool, true, false, not, ◌&&◌, ◌||◌, List, [], ◌∷◌, ◌++◌, map, length, Option, Some, None, is_some, is_none, if◌then◌else◌, slice_get}
use denote.Enum.Bare.{sameb}
use Rattle.lz_base.specs.declared.word.IntType.{IntType}
use Rattle.lz_base.specs.declared.word.IntType.TheVariants as kinds
use Rattle.lz_base.specs.declared.operator.Unary.{Unary}
use Rattle.lz_base.specs.declared.operator.Binary.{Binary}
use Rattle.lz_tree.specs.declared.expression.TypeName.{TypeName}
use Rattle.lz_tree.specs.declared.scoped.KnownName.{KnownName}
use Rattle.lz_tree.specs.declared.scoped.KnownName.TheVariants as known_names
use Rattle.lz_tree.specs.declared.scoped.Object.{Object}
use Rattle.lz_tree.specs.declared.scoped.Object.TheVariants.{Routine, Known}
use Rattle.lz_tree.specs.Trees.{Expression, constant, null, text, object, address, paren, unary, cast, binary, choose, assign, step, call, Index, whole, element, Expressions, none, and}
use Rattle.lz_scopes.specs.declared.value_types.ValueType.{ValueType}
use Rattle.lz_scopes.specs.declared.value_types.ValueType.TheVariants.{Integer, Pointer, Nothing, Thread, Mutex, Cond, Function}
use Rattle.lz_scopes.specs.declared.value_types.Want.{Want}
use Rattle.lz_scopes.specs.declared.value_types.Want.TheVariants as wants
use Rattle.lz_scopes.specs.declared.fault.Rule.{Rule}
use Rattle.lz_scopes.specs.contracts.fault.Rule as rule_contract
use Rattle.lz_scopes.specs.declared.fault.Rule.TheVariants.{Undeclared, NoFunction, ArgumentCount, TypeMisfit, LargeConstant, Recursive, NoStartRoutine, ThreadInThread, PointerOutsideStart, MisplacedAddress, BadAttribute, MisplacedText, RefusedType}
use Rattle.lz_scopes.specs.declared.meaning.Named.{Named}
use Rattle.lz_scopes.specs.ValueTypes.{value_type, is_refused, is_pointer, is_thread, is_mutex, is_cond, is_no_operand, kind_of, counted, when, want_of, clash}
use Rattle.lz_scopes.specs.Constants.{is_large, has_longs, constant_kind, joint, binary_kind, unary_kind}
use Rattle.lz_scopes.specs.Files.{File, function_named, params_of, known_at, is_main, returns_to, is_reached}
use Rattle.lz_scopes.specs.KnownNames.{wants_of_known, takes_more, is_for_threads, given_by_known}
use Rattle.lz_scopes.specs.declared.place.Place.{Place}
use Rattle.lz_scopes.specs.Names.{nearest}
use Rattle.lz_scopes.specs.declared.signature.Signature.{Signature}
use Rattle.lz_scopes.specs.Scopes.{is_start_at, named, around, called_by}

-- ---- objects

abbrev pub has_index : Index → Bool
has_index whole = false
has_index (element index) = true

-- an array stands with an index and nothing else does; and what is assigned to is no object for threads and no
-- function
abbrev pub misfits : Bool → Named → Bool → Bool
misfits assigned n indexed = (if n.array then not indexed else indexed) || (assigned && is_no_operand n.of)

-- the rules that a target breaks: its name is declared before it, and it is fit for its place
abbrev pub misuse : Bool → Option Named → Bool → List Rule
misuse assigned None indexed = Undeclared ∷ []
misuse assigned (Some n) indexed = when (misfits assigned n indexed) TypeMisfit

-- what a target is; one with a fault counts as `int`
abbrev pub target_type : Bool → Option Named → Bool → ValueType
target_type assigned None indexed = counted
target_type assigned (Some n) indexed = if misfits assigned n indexed then counted else n.of

-- the elements of an object are of a type, or it is
abbrev pub is_object_of : (ValueType → Bool) → Option Named → Bool
is_object_of is_of None = false
is_object_of is_of (Some n) = is_of n.of

-- ---- calls

-- what a called name means at a place, where it means a function
abbrev pub callee : File → Place → ℕ → Option Object
callee file place name = called_by (nearest place.names name) (known_at file name) (function_named file.functions name)

-- what a called function wants for its arguments
abbrev pub wants_of : File → Option Object → List Want
wants_of file (Some (Routine n)) = map (λ t. want_of (value_type t)) (params_of (slice_get file.functions n))
wants_of file (Some (Known k)) = wants_of_known k
wants_of file _ = []

abbrev pub takes_further : Option Object → Bool
takes_further (Some (Known k)) = takes_more k
takes_further _ = false

-- what it wants for each further argument: a value, and `printf` an integer
abbrev pub further_want : Option Object → Want
further_want callee = if takes_further callee then wants.Integer else wants.Any

abbrev pub first_want : List Want → Want → Want
first_want [] further = further
first_want (w ∷ rest) further = w

abbrev pub rest_of : List Want → List Want
rest_of [] = []
rest_of (w ∷ rest) = rest

abbrev pub count : Expressions → ℕ
count none = 0
count (and e rest) = suc (count rest)

-- it takes so many arguments
abbrev pub takes : File → Option Object → ℕ → Bool
takes file callee args =
    if takes_further callee then not (nat_lt args (length (wants_of file callee))) else length (wants_of file callee) == args

-- what a result of a type is: an object for threads is none
abbrev pub as_result : ValueType → ValueType
as_result of = if is_no_operand of then counted else of

abbrev pub gives_of : Option Signature → ValueType
gives_of None = counted
gives_of (Some f) = as_result (value_type f.gives)

-- what a call gives
abbrev pub given : File → Option Object → ValueType
given file (Some (Routine n)) = gives_of (slice_get file.functions n)
given file (Some (Known k)) = given_by_known k
given file _ = counted

-- ---- arguments of the calls on threads and of `printf`

-- the rule that is broken unless the test holds
abbrev pub unless : Bool → Rule → Option Rule
unless true rule = None
unless false rule = Some rule

-- `NULL`, or the constant 0 in any spelling
abbrev pub is_null : Expression → Bool
is_null (null line) = true
is_null (constant line value form) = value == 0
is_null _ = false

abbrev pub is_text : Expression → Bool
is_text (text line) = true
is_text _ = false

-- the test of a type that a place for `&` of an object wants
abbrev pub is_wanted : ValueType → ValueType → Bool
is_wanted Thread of = is_thread of
is_wanted Mutex of = is_mutex of
is_wanted Cond of = is_cond of
is_wanted _ of = false

abbrev pub routine_of : Option Object → Option ℕ
routine_of (Some (Routine n)) = Some n
routine_of _ = None

abbrev pub is_start_in : File → Option ℕ → Bool
is_start_in file None = false
is_start_in file (Some n) = is_start_at (slice_get file.functions n)

-- `&` of an object of a type
abbrev pub is_reference : Place → ValueType → Expression → Bool
is_reference place to (address line at name index) = is_object_of (is_wanted to) (named place name)
is_reference place to _ = false

-- a thread object
abbrev pub is_handle : Place → Expression → Bool
is_handle place (object line name index) = is_object_of is_thread (named place name)
is_handle place _ = false

module _ (file : File) (place : Place) where
  -- the function of the file that a bare name means
  abbrev pub routine_named : Expression → Option ℕ
  routine_named (object line name whole) = routine_of (callee file place name)
  routine_named _ = None

  -- the name of a function of the file
  abbrev pub is_function_name : Expression → Bool
  is_function_name e = is_some (routine_named e)

  -- the name of a start routine
  abbrev pub is_start_name : Expression → Bool
  is_start_name e = is_start_in file (routine_named e)

  -- the rule that an argument breaks at its call
  abbrev pub misplaced : Want → Expression → Option Rule
  misplaced (wants.Reference to) e = unless (is_reference place to e) MisplacedAddress
  misplaced wants.Handle e = unless (is_handle place e) MisplacedAddress
  misplaced wants.Start e = unless (is_start_name e) NoStartRoutine
  misplaced wants.Null e = unless (is_null e) BadAttribute
  misplaced wants.Format e = unless (is_text e) MisplacedText
  misplaced _ e = None

-- ---- rules that a node breaks by itself

-- this rule is broken
abbrev pub is_broken : Rule → Option Rule → Bool
is_broken rule None = false
is_broken rule (Some other) = sameb rule_contract.the_type other rule

-- the function around the place is one that a start routine can reach or that is one
abbrev pub is_in_thread : File → Option ℕ → Bool
is_in_thread file None = false
is_in_thread file (Some n) = is_reached file n

-- the second function can reach the first
abbrev pub can_return : File → Option ℕ → ℕ → Bool
can_return file None n = false
can_return file (Some f) n = returns_to file f n

-- what may be called directly: no start routine and not `main`
abbrev pub is_only_started : File → Option Signature → Bool
is_only_started file None = false
is_only_started file (Some f) = is_start_at (Some f) || is_main file f.name

-- a place that wants `&` of an object
abbrev pub is_reference_place : Want → Bool
is_reference_place (wants.Reference to) = true
is_reference_place _ = false

abbrev pub is_text_place : Want → Bool
is_text_place wants.Format = true
is_text_place _ = false

-- a place that wants a `void *`
abbrev pub is_pointer_place : Want → Bool
is_pointer_place wants.Pointer = true
is_pointer_place _ = false

abbrev pub is_handle_place : Want → Bool
is_handle_place wants.Handle = true
is_handle_place _ = false

abbrev pub is_start_place : Want → Bool
is_start_place wants.Start = true
is_start_place _ = false

-- the rules behind that of types that a node breaks other than a call: a constant has no `l` and is not too large; a
-- text or `&` stands where it is wanted; and the type of a cast is one of the language
abbrev pub late_alone : Want → Expression → List Rule
late_alone want (constant line value form) =
    if has_longs form then RefusedType ∷ [] else when (is_large value form) LargeConstant
late_alone want (text line) = when (not (is_text_place want)) MisplacedText
late_alone want (address line at name index) = when (not (is_reference_place want)) MisplacedAddress
late_alone want (cast line to of) = when (is_refused to) RefusedType
late_alone want _ = []

-- what an assignment or a step gives: one to a `void *` is a fault
abbrev pub assigned_type : ValueType → ValueType
assigned_type of = if is_pointer of then counted else of

-- nothing in the list
abbrev pub is_none_of : List Rule → Bool
is_none_of [] = true
is_none_of (r ∷ rest) = false

-- what stands in parentheses is what they are, if it is a value or has none
abbrev pub as_inner : ValueType → ValueType
as_inner of = if is_no_operand of then counted else of

-- the kind of what stands where an integer is wanted; anything else has a fault there, and counts as `int`
abbrev pub integer_kind : ValueType → IntType
integer_kind (Integer kind) = kind
integer_kind _ = kinds.Int

-- what one of two is that a test chooses: a `void *` where one of them is
abbrev pub chosen : ValueType → ValueType → ValueType
chosen first second =
    if is_pointer first || is_pointer second then Pointer else Integer (joint (integer_kind first) (integer_kind second))

-- what the chosen ones are wanted as
abbrev pub choice_want : ValueType → ValueType → Want
choice_want first second = want_of (chosen first second)

-- what a target is at a place
abbrev pub type_at : Place → Bool → ℕ → Index → ValueType
type_at place assigned name index = target_type assigned (named place name) (has_index index)

-- the rules up to that of types that a call breaks: it means a function, which takes so many arguments
abbrev pub wrong_call : File → Option Object → ℕ → List Rule
wrong_call file None args = NoFunction ∷ []
wrong_call file (Some callee) args = when (not (takes file (Some callee) args)) ArgumentCount

module _ (file : File) (place : Place) where
  -- one of some arguments breaks the rule at their call
  abbrev pub some_misplaced : Rule → List Want → Want → Expressions → Bool
  some_misplaced rule ws further none = false
  some_misplaced rule ws further (and e rest) =
      is_broken rule (misplaced file place (first_want ws further) e) || some_misplaced rule (rest_of ws) further rest

  abbrev pub breaks_at_call : Rule → Option Object → Expressions → Bool
  breaks_at_call rule callee args = some_misplaced rule (wants_of file callee) (further_want callee) args

  -- the rules up to that of types that a node breaks: no `void *` is assigned to, and a call is of a function
  abbrev pub early : Expression → List Rule
  early (assign line op at name index value) = when (is_pointer (type_at place true name index)) TypeMisfit
  early (step line at name index up before) = when (is_pointer (type_at place true name index)) TypeMisfit
  early (call line name args) = wrong_call file (callee file place name) (count args)
  early _ = []

  -- threads are made or joined where a start routine can come
  abbrev pub is_thread_call : KnownName → Bool
  is_thread_call k = is_for_threads k && is_in_thread file (around place)

  -- the rules behind that of types that a call breaks: of a function of the file, which could come back or is only
  -- started; or of a known name, with its arguments
  abbrev pub late_call : Option Object → Expressions → List Rule
  late_call (Some (Routine n)) args =
      when (can_return file (around place) n) Recursive ++ when (is_only_started file (slice_get file.functions n)) PointerOutsideStart
  late_call (Some (Known k)) args =
      when (breaks_at_call NoStartRoutine (Some (Known k)) args) NoStartRoutine
      ++ (when (is_thread_call k) ThreadInThread
      ++ (when (breaks_at_call MisplacedAddress (Some (Known k)) args) MisplacedAddress
      ++ (when (breaks_at_call BadAttribute (Some (Known k)) args) BadAttribute
      ++ when (breaks_at_call MisplacedText (Some (Known k)) args) MisplacedText)))
  late_call _ args = []

  abbrev pub late : Want → Expression → List Rule
  late want (call line name args) = late_call (callee file place name) args
  late want other = late_alone want other

  -- a call breaks no rule by itself, wherever it stands
  abbrev pub is_right_call : Option Object → Expressions → Bool
  is_right_call callee args = is_none_of (wrong_call file callee (count args)) && is_none_of (late_call callee args)

  -- what a call gives, which counts as `int` where it breaks one
  abbrev pub given_at : Option Object → Expressions → ValueType
  given_at callee args = if is_right_call callee args then given file callee else counted

  -- What an expression is: one whose node breaks a rule counts as `int`.
  unfoldable pub type_of : Expression → ValueType
  type_of (constant line value form) = Integer (constant_kind value form)
  type_of (null line) = Pointer
  type_of (text line) = counted
  type_of (object line name index) = type_at place false name index
  type_of (address line at name index) = counted
  type_of (paren line inner) = as_inner (type_of inner)
  type_of (unary line op of) = Integer (unary_kind op (integer_kind (type_of of)))
  type_of (cast line to of) = value_type to
  type_of (binary line op left right) = Integer (binary_kind op (integer_kind (type_of left)) (integer_kind (type_of right)))
  type_of (choose line test first second) = chosen (type_of first) (type_of second)
  type_of (assign line op at name index value) = assigned_type (type_at place true name index)
  type_of (step line at name index up before) = assigned_type (type_at place true name index)
  type_of (call line name args) = given_at (callee file place name) args

  -- what stands rightly at a place though its type is none that fits: the constant 0 for a `void *`, `&` of an object
  -- or a text where it is wanted, a thread object and the name of a function
  abbrev pub is_right : Want → Expression → Bool
  is_right want (constant line value form) = is_pointer_place want && value == 0
  is_right want (text line) = is_text_place want
  is_right want (address line at name index) = is_reference_place want
  is_right want (object line name index) =
      (is_handle_place want && is_handle place (object line name index))
      || (is_start_place want && is_function_name file place (object line name index))
  is_right want _ = false

  -- the rule that its type breaks at a place
  abbrev pub clash_at : Want → Expression → List Rule
  clash_at want e = if is_right want e then [] else clash want (type_of e)

  -- the rules that a node breaks by itself at a place that wants something of it, by number
  abbrev pub own : Want → Expression → List Rule
  own want e = early e ++ (clash_at want e ++ late want e)
