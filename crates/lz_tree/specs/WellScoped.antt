-- Inner: what holds of a scoped program that breaks no rule (C99 6.2 to 6.9), as later layers need it.
use Rattle.std.specs.Prelude.{◌≡◌, ◌≢◌, ℕ, zero, suc, ◌+◌, ◌<◌, ◌≤◌, Bool, true, false, not, ◌||◌, List, [], ◌∷◌, length, slice_index_or, Option, Some, None, ⊤, All}
use Rattle.lz_base.specs.Words.{value_bound}
use Rattle.lz_base.specs.Limits.{length_limit, element_limit}
use Rattle.lz_base.specs.declared.word.IntType.{IntType}
use Rattle.lz_base.specs.declared.word.IntType.TheVariants.{Int, Unsigned}
use Rattle.lz_base.specs.declared.operator.Unary.{Unary}
use Rattle.lz_base.specs.declared.operator.Unary.TheVariants as unaries
use Rattle.lz_base.specs.declared.operator.Binary.{Binary}
use Rattle.lz_tree.specs.declared.scoped.KnownName.{KnownName}
use Rattle.lz_tree.specs.declared.scoped.KnownName.TheVariants as known
use Rattle.lz_tree.specs.declared.scoped.Object.{Object}
use Rattle.lz_tree.specs.declared.scoped.Object.TheVariants.{Local, Cell, Mutex, Cond, Handle, Routine, Known}
use Rattle.lz_tree.specs.ScopedTrees.{ScopedExpression, constant, null, text, object, address, paren, unary, cast, binary, choose, assign, step, call, Lvalue, lvalue, ScopedIndex, whole, element, ScopedExpressions, none, and, ScopedInitializer, nothing, single, listed, ScopedInitDeclarator, ScopedStatement, empty, eval, block, declare, when, while, do_while, for, break, continue, return, label, ScopedBranch, absent, branch, ScopedStatements, nil, cons, ScopedDefinition, ScopedProgram, function_at}
use Rattle.lz_tree.specs.WellFormed.{MayAssign}
use Rattle.lz_tree.specs.Kinds.{len_of, kind_of_object, kind_of, common_kind, Way, way_of, value_kind}

-- ---- places

-- What holds at a place in the code of a function: the number and the kinds of its locals and of the program's
-- objects, which functions may be called and started, and whether thread objects and indexes that were tested may
-- stand here.
pub record Setting : Type 1 where
  pub locals : ℕ
  pub local_kinds : ℕ → IntType
  pub cells : ℕ
  pub cell_kinds : ℕ → IntType
  pub mutexes : ℕ
  pub conds : ℕ
  pub handles : ℕ
  pub params : ℕ → List IntType
  pub gives : ℕ → Option IntType
  pub may_call : ℕ → Type 0
  pub may_start : ℕ → Type 0
  pub threads : Bool
  pub tested : Bool

pub record IsLength (len : ℕ) : Type 0 where
  pub least : 1 ≤ len
  pub most : len ≤ length_limit

-- the elements from a number on have a kind
pub record AreOfKind (kinds : ℕ → IntType) (first len : ℕ) (kind : IntType) : Type 0 where
  pub each : (i : ℕ) → i < len → kinds (first + i) ≡ kind

-- so many elements from a number on, of so many
pub record AreWithin (first len count : ℕ) : Type 0 where
  pub length_ : IsLength len
  pub within : first + len ≤ count

-- an integer object
abbrev pub IsInteger : Setting → Object → Type 0
IsInteger w (Local first len kind) = AreWithin first len w.locals × AreOfKind w.local_kinds first len kind
IsInteger w (Cell first len kind) = AreWithin first len w.cells × AreOfKind w.cell_kinds first len kind
IsInteger w (Mutex first len) = ⊥
IsInteger w (Cond first len) = ⊥
IsInteger w (Handle first len) = ⊥
IsInteger w (Routine function) = ⊥
IsInteger w (Known name) = ⊥

abbrev pub IsMutex : Setting → Object → Type 0
IsMutex w (Mutex first len) = AreWithin first len w.mutexes
IsMutex w (Local first len kind) = ⊥
IsMutex w (Cell first len kind) = ⊥
IsMutex w (Cond first len) = ⊥
IsMutex w (Handle first len) = ⊥
IsMutex w (Routine function) = ⊥
IsMutex w (Known name) = ⊥

abbrev pub IsCond : Setting → Object → Type 0
IsCond w (Cond first len) = AreWithin first len w.conds
IsCond w (Local first len kind) = ⊥
IsCond w (Cell first len kind) = ⊥
IsCond w (Mutex first len) = ⊥
IsCond w (Handle first len) = ⊥
IsCond w (Routine function) = ⊥
IsCond w (Known name) = ⊥

abbrev pub IsThread : Setting → Object → Type 0
IsThread w (Handle first len) = AreWithin first len w.handles × (w.threads ≡ true)
IsThread w (Local first len kind) = ⊥
IsThread w (Cell first len kind) = ⊥
IsThread w (Mutex first len) = ⊥
IsThread w (Cond first len) = ⊥
IsThread w (Routine function) = ⊥
IsThread w (Known name) = ⊥

-- ---- arguments of known names

pub data Form : Type 0 where
  some_value : Form
  no_attribute : Form
  format : Form
  start : Form
  new_thread : Form
  made_thread : Form
  mutex : Form
  cond : Form

abbrev pub forms_of : KnownName → List Form
forms_of known.Assert = some_value ∷ []
forms_of known.Assume = some_value ∷ []
forms_of known.NondetInt = []
forms_of known.NondetUint = []
forms_of known.Error = []
forms_of known.ReachError = []
forms_of known.Abort = []
forms_of known.AtomicBegin = []
forms_of known.AtomicEnd = []
forms_of known.Create = new_thread ∷ no_attribute ∷ start ∷ some_value ∷ []
forms_of known.Join = made_thread ∷ no_attribute ∷ []
forms_of known.Exit = some_value ∷ []
forms_of known.MutexInit = mutex ∷ no_attribute ∷ []
forms_of known.MutexDestroy = mutex ∷ []
forms_of known.MutexLock = mutex ∷ []
forms_of known.MutexUnlock = mutex ∷ []
forms_of known.CondInit = cond ∷ no_attribute ∷ []
forms_of known.CondDestroy = cond ∷ []
forms_of known.CondWait = cond ∷ mutex ∷ []
forms_of known.CondSignal = cond ∷ []
forms_of known.CondBroadcast = cond ∷ []
forms_of known.Printf = format ∷ []

abbrev pub takes_more : KnownName → Bool
takes_more known.Printf = true
takes_more name = false

-- the kind of the result of a known name
abbrev pub result_of : KnownName → Option IntType
result_of known.Assert = None
result_of known.Assume = None
result_of known.NondetInt = Some Int
result_of known.NondetUint = Some Unsigned
result_of known.Error = None
result_of known.ReachError = None
result_of known.Abort = None
result_of known.AtomicBegin = None
result_of known.AtomicEnd = None
result_of known.Create = Some Int
result_of known.Join = Some Int
result_of known.Exit = None
result_of known.MutexInit = Some Int
result_of known.MutexDestroy = Some Int
result_of known.MutexLock = Some Int
result_of known.MutexUnlock = Some Int
result_of known.CondInit = Some Int
result_of known.CondDestroy = Some Int
result_of known.CondWait = Some Int
result_of known.CondSignal = Some Int
result_of known.CondBroadcast = Some Int
result_of known.Printf = Some Int

-- ---- expressions

-- the kind of a node, which is none where it has no value
abbrev pub kind_at : ScopedExpression → Option IntType
kind_at (constant line value form kind) = kind
kind_at (null line kind) = kind
kind_at (text line kind) = kind
kind_at (object of kind) = kind
kind_at (address line of kind) = kind
kind_at (paren line inner kind) = kind
kind_at (unary line op of kind) = kind
kind_at (cast line to of kind) = kind
kind_at (binary line op left right kind) = kind
kind_at (choose line test first second kind) = kind
kind_at (assign line op to value kind) = kind
kind_at (step line of up before kind) = kind
kind_at (call line callee args kind) = kind

-- it has a value
abbrev pub HasValue : ScopedExpression → Type 0
HasValue e = kind_at e ≡ Some (kind_of e)

abbrev pub number_of : ScopedExpressions → ℕ
number_of none = zero
number_of (and e rest) = suc (number_of rest)

abbrev pub unary_result : Unary → IntType → IntType
unary_result unaries.Not kind = Int
unary_result op kind = kind

-- the value of `?:` has the common kind, where both have one
abbrev pub joint_kind : Option IntType → Option IntType → Option IntType
joint_kind None other = None
joint_kind (Some a) None = None
joint_kind (Some a) (Some b) = Some (common_kind a b)

-- NULL, or the constant 0
abbrev pub IsNoAttribute : ScopedExpression → Type 0
IsNoAttribute (null line kind) = ⊤
IsNoAttribute (constant line value form kind) = value ≡ 0
IsNoAttribute e = ⊥

abbrev pub IsFormat : ScopedExpression → Type 0
IsFormat (text line kind) = ⊤
IsFormat e = ⊥

abbrev pub IsStart : Setting → ScopedExpression → Type 0
IsStart w (object (lvalue line (Routine function) whole checked) kind) = w.may_start function × (checked ≡ false)
IsStart w e = ⊥

abbrev pub is_address : ScopedExpression → Bool
is_address (address line of kind) = true
is_address e = false

abbrev pub is_object : ScopedExpression → Bool
is_object (object of kind) = true
is_object e = false

-- the object that an argument names
abbrev pub meant_by : ScopedExpression → Object
meant_by (address line (lvalue place meant index checked) kind) = meant
meant_by (object (lvalue place meant index checked) kind) = meant
meant_by e = Known known.Abort

-- an argument of a form, from whether it is scoped as a value and whether its index is
abbrev pub IsArgument : Setting → Form → ScopedExpression → Type 0 → Type 0 → Type 0
IsArgument w some_value e scoped indexed = scoped × HasValue e
IsArgument w no_attribute e scoped indexed = scoped × IsNoAttribute e
IsArgument w format e scoped indexed = IsFormat e
IsArgument w start e scoped indexed = IsStart w e
IsArgument w new_thread e scoped indexed = (is_address e ≡ true) × IsThread w (meant_by e) × indexed
IsArgument w made_thread e scoped indexed = (is_object e ≡ true) × IsThread w (meant_by e) × indexed
IsArgument w mutex e scoped indexed = (is_address e ≡ true) × IsMutex w (meant_by e) × indexed
IsArgument w cond e scoped indexed = (is_address e ≡ true) × IsCond w (meant_by e) × indexed

abbrev mutual
  pub IsScoped : Setting → ScopedExpression → Type 0
  IsScoped w (constant line value form kind) = (value < value_bound) × HasValue (constant line value form kind)
  IsScoped w (null line kind) = kind ≡ Some Unsigned
  IsScoped w (text line kind) = ⊥
  IsScoped w (object (lvalue line meant index checked) kind) =
      IsInteger w meant × (kind ≡ Some (kind_of_object meant)) × IsIndex w meant checked index
  IsScoped w (address line of kind) = ⊥
  IsScoped w (paren line inner kind) = IsScoped w inner × (kind ≡ kind_at inner)
  IsScoped w (unary line op of kind) = IsScoped w of × HasValue of × (kind ≡ Some (unary_result op (kind_of of)))
  IsScoped w (cast line to of kind) = IsScoped w of × HasValue of
  IsScoped w (binary line op left right kind) =
      IsScoped w left × HasValue left × IsScoped w right × HasValue right × (kind ≡ Some (value_kind (way_of op) (kind_of left) (kind_of right)))
  IsScoped w (choose line test first second kind) =
      IsScoped w test × HasValue test × IsScoped w first × IsScoped w second × (kind ≡ joint_kind (kind_at first) (kind_at second))
  IsScoped w (assign line op (lvalue place meant index checked) e kind) =
      IsInteger w meant × IsIndex w meant checked index × IsScoped w e × HasValue e × MayAssign op × (kind ≡ Some (kind_of_object meant))
  IsScoped w (step line (lvalue place meant index checked) up before kind) =
      IsInteger w meant × IsIndex w meant checked index × (kind ≡ Some (kind_of_object meant))
  IsScoped w (call line (Routine function) args kind) =
      w.may_call function × (number_of args ≡ length (w.params function)) × AreValues w args × (kind ≡ w.gives function)
  IsScoped w (call line (Known name) args kind) = AreArguments w (takes_more name) (forms_of name) args × (kind ≡ result_of name)
  IsScoped w (call line (Local first len k) args kind) = ⊥
  IsScoped w (call line (Cell first len k) args kind) = ⊥
  IsScoped w (call line (Mutex first len) args kind) = ⊥
  IsScoped w (call line (Cond first len) args kind) = ⊥
  IsScoped w (call line (Handle first len) args kind) = ⊥

  -- an object of one element without index, or one with an index, which may be tested where trees have such ones
  pub IsIndex : Setting → Object → Bool → ScopedIndex → Type 0
  IsIndex w meant checked whole = (len_of meant ≡ 1) × (checked ≡ false)
  IsIndex w meant checked (element e) = IsScoped w e × HasValue e × ((not checked || w.tested) ≡ true)

  pub AreValues : Setting → ScopedExpressions → Type 0
  AreValues w none = ⊤
  AreValues w (and e rest) = IsScoped w e × HasValue e × AreValues w rest

  -- arguments of these forms, and any further values where those are taken
  pub AreArguments : Setting → Bool → List Form → ScopedExpressions → Type 0
  AreArguments w more [] none = ⊤
  AreArguments w more [] (and e rest) = (more ≡ true) × IsScoped w e × HasValue e × AreValues w rest
  AreArguments w more (form ∷ forms) none = ⊥
  AreArguments w more (form ∷ forms) (and e rest) = IsArgument w form e (IsScoped w e) (IsIndexed w e) × AreArguments w more forms rest

  -- the index of an object that is handed on
  pub IsIndexed : Setting → ScopedExpression → Type 0
  IsIndexed w (address line (lvalue place meant index checked) kind) = IsIndex w meant checked index
  IsIndexed w (object (lvalue place meant index checked) kind) = IsIndex w meant checked index
  IsIndexed w e = ⊥

-- ---- declarations and statements

abbrev pub MayScope : Setting → Option ScopedExpression → Type 0
MayScope w None = ⊤
MayScope w (Some e) = IsScoped w e

abbrev pub MayTest : Setting → Option ScopedExpression → Type 0
MayTest w None = ⊤
MayTest w (Some e) = IsScoped w e × HasValue e

abbrev pub IsFirst : Setting → ℕ → ScopedInitializer → Type 0
IsFirst w len nothing = ⊤
IsFirst w len (single e) = IsScoped w e × HasValue e × (len ≡ 1)
IsFirst w len (listed values) = AreValues w values × (number_of values ≤ len)

-- a function declares integers and thread objects
abbrev pub IsDeclared : Setting → Object → ScopedInitializer → Type 0
IsDeclared w (Local first len kind) value = IsInteger w (Local first len kind) × IsFirst w len value
IsDeclared w (Handle first len) value = IsThread w (Handle first len) × (value ≡ nothing)
IsDeclared w (Cell first len kind) value = ⊥
IsDeclared w (Mutex first len) value = ⊥
IsDeclared w (Cond first len) value = ⊥
IsDeclared w (Routine function) value = ⊥
IsDeclared w (Known name) value = ⊥

abbrev pub AreDeclared : Setting → List ScopedInitDeclarator → Type 0
AreDeclared w [] = ⊤
AreDeclared w (d ∷ rest) = IsDeclared w d.object d.first × AreDeclared w rest

abbrev pub IsReturned : Setting → Option IntType → Option ScopedExpression → Type 0
IsReturned w gives None = gives ≡ None
IsReturned w None (Some e) = ⊥
IsReturned w (Some kind) (Some e) = IsScoped w e × HasValue e

abbrev mutual
  -- code of a function that gives this, in a loop or not
  pub IsCode : Setting → Option IntType → Bool → ScopedStatement → Type 0
  IsCode w gives in_loop empty = ⊤
  IsCode w gives in_loop (eval e) = IsScoped w e
  IsCode w gives in_loop (block parts) = AreCode w gives in_loop parts
  IsCode w gives in_loop (declare of) = AreDeclared w of.declarators
  IsCode w gives in_loop (when line test first second) =
      IsScoped w test × HasValue test × IsCode w gives in_loop first × IsBranch w gives in_loop second
  IsCode w gives in_loop (while line test body) = IsScoped w test × HasValue test × IsCode w gives true body
  IsCode w gives in_loop (do_while line body test) = IsCode w gives true body × IsScoped w test × HasValue test
  IsCode w gives in_loop (for line first test change body) =
      IsCode w gives false first × MayTest w test × MayScope w change × IsCode w gives true body
  IsCode w gives in_loop (break line) = in_loop ≡ true
  IsCode w gives in_loop (continue line) = in_loop ≡ true
  IsCode w gives in_loop (return line e) = IsReturned w gives e
  IsCode w gives in_loop (label name of) = IsCode w gives in_loop of

  pub IsBranch : Setting → Option IntType → Bool → ScopedBranch → Type 0
  IsBranch w gives in_loop absent = ⊤
  IsBranch w gives in_loop (branch of) = IsCode w gives in_loop of

  pub AreCode : Setting → Option IntType → Bool → ScopedStatements → Type 0
  AreCode w gives in_loop nil = ⊤
  AreCode w gives in_loop (cons s rest) = IsCode w gives in_loop s × AreCode w gives in_loop rest

-- ---- programs

-- What a whole program says: the kinds of cells and of each function's locals, the functions that thread 0 alone
-- runs, and how deep calls nest.
pub record Plan : Type 0 where
  pub cell_kinds : ℕ → IntType
  pub local_kinds : ℕ → ℕ → IntType
  pub alone : ℕ → Bool
  pub depth : ℕ → ℕ

-- a function of the file that another one may call
pub record MayCall (p : ScopedProgram) (plan : Plan) (from function : ℕ) : Type 0 where
  pub there : function < length p.functions
  pub plain : (function_at p function).start ≡ false
  pub not_main : function ≢ p.main
  pub deeper : plan.depth function < plan.depth from
  pub alone : (not (plan.alone function) || plan.alone from) ≡ true

pub record MayStart (p : ScopedProgram) (function : ℕ) : Type 0 where
  pub there : function < length p.functions
  pub start : (function_at p function).start ≡ true

abbrev pub setting_of : ScopedProgram → Plan → ℕ → Setting
setting_of p plan f = record {
  locals = (function_at p f).locals;
  local_kinds = plan.local_kinds f;
  cells = length p.cells;
  cell_kinds = plan.cell_kinds;
  mutexes = p.mutexes;
  conds = p.conds;
  handles = p.handles;
  params = λ g. (function_at p g).params;
  gives = λ g. (function_at p g).gives;
  may_call = MayCall p plan f;
  may_start = MayStart p;
  threads = plan.alone f;
  tested = false;
}

-- a function, its parameters first among its locals
pub record IsFunction (p : ScopedProgram) (plan : Plan) (f : ℕ) : Type 0 where
  pub room : length (function_at p f).params ≤ (function_at p f).locals
  pub kinds : (i : ℕ) → i < length (function_at p f).params → plan.local_kinds f i ≡ slice_index_or (function_at p f).params i Int
  pub routine : (function_at p f).start ≡ true → ((function_at p f).params ≡ Unsigned ∷ []) × ((function_at p f).gives ≡ Some Unsigned) × (plan.alone f ≡ false)
  pub body : IsCode (setting_of p plan f) (function_at p f).gives false (function_at p f).body

pub record IsWellScoped (p : ScopedProgram) : Type 0 where
  pub plan : Plan
  pub cells : All (λ v. v < value_bound) p.cells
  pub few : length p.cells ≤ element_limit
  pub there : p.main < length p.functions
  pub main : ((function_at p p.main).params ≡ []) × ((function_at p p.main).start ≡ false) × ((function_at p p.main).gives ≡ Some Int)
  pub each : (f : ℕ) → f < length p.functions → IsFunction p plan f
