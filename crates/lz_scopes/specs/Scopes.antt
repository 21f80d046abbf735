-- Trusted: what a name means at a place of the text (C99 6.2.1 and 6.2.3), and how places follow each other.
use Rattle.std.specs.Prelude.{◌≡◌, ℕ, zero, suc, ◌+◌, ◌==◌, Bool, true, false, not, ◌&&◌, ◌||◌, List, [], ◌∷◌, ◌++◌, map, length, Option, Some, None, is_some, if◌then◌else◌, slice_get, option_map}
use Rattle.std.specs.List.{list_any}
use Rattle.lz_tree.specs.declared.expression.TypeName.{TypeName}
use Rattle.lz_tree.specs.declared.expression.TypeName.TheVariants as types
use Rattle.lz_tree.specs.declared.program.Param.{Param}
use Rattle.lz_tree.specs.declared.scoped.KnownName.{KnownName}
use Rattle.lz_tree.specs.declared.scoped.KnownName.TheVariants.{ReachError}
use Rattle.lz_tree.specs.declared.scoped.Object.{Object}
use Rattle.lz_tree.specs.declared.scoped.Object.TheVariants.{Local, Cell, Mutex, Cond, Handle, Routine, Known}
use Rattle.lz_tree.specs.Trees.{InitDeclarator, Declaration, Statement, empty, eval, block, declare, when, while, do_while, for, break, continue, return, label, Branch, absent, branch, Statements, nil, cons, ExternalDeclaration, objects, prototype, function}
use Rattle.lz_scopes.specs.declared.signature.Signature.{Signature}
use Rattle.lz_scopes.specs.declared.names.Entry.{Entry}
use Rattle.lz_scopes.specs.declared.meaning.Named.{Named}
use Rattle.lz_scopes.specs.declared.place.Counts.{Counts}
use Rattle.lz_scopes.specs.declared.place.Place.{Place}
use Rattle.lz_scopes.specs.Names.{or, nearest}
use Rattle.lz_scopes.specs.declared.value_types.ValueType.{ValueType}
use Rattle.lz_scopes.specs.declared.value_types.ValueType.TheVariants as sorts
use Rattle.lz_scopes.specs.ValueTypes.{value_type, kind_of, are_one_type, is_pointer}
use Rattle.lz_scopes.specs.Constants.{elements}

-- ---- the functions of a file

abbrev pub bases : List Param → List TypeName
bases params = map (λ p. p.base) params

abbrev pub signature_in : ExternalDeclaration → List Signature
signature_in (objects hidden of) = []
signature_in (prototype line lead gives name params void_word) = []
signature_in (function line hidden gives name params void_word body) = record { name = name; gives = gives; params = bases params } ∷ []

-- the functions with a body, in the order of the text: each has its place in this list as its number
abbrev pub signatures : List ExternalDeclaration → List Signature
signatures [] = []
signatures (e ∷ rest) = signature_in e ++ signatures rest

-- one parameter, a `void *`
abbrev pub is_one_pointer : List TypeName → Bool
is_one_pointer [] = false
is_one_pointer (p ∷ []) = is_pointer (value_type p)
is_one_pointer (p ∷ q ∷ rest) = false

-- the form of a start routine: `void *f(void *a)`
abbrev pub is_start : Signature → Bool
is_start f = is_pointer (value_type f.gives) && is_one_pointer f.params

abbrev pub is_start_at : Option Signature → Bool
is_start_at None = false
is_start_at (Some f) = is_start f

-- a start routine's form
abbrev pub is_start_form : ℕ → TypeName → List Param → Bool
is_start_form name gives params = is_start (record { name = name; gives = gives; params = bases params })

-- ---- what is declared

-- at file scope
abbrev pub is_outside : Place → Bool
is_outside place = place.depth == 0

-- the function around a place
abbrev pub around : Place → Option ℕ
around place = if is_outside place then None else Some place.function

abbrev pub is_in_scope : ℕ → Option Entry → Bool
is_in_scope depth None = false
is_in_scope depth (Some e) = e.depth == depth

-- an object of the name is declared in the scope of the place
abbrev pub has_object : Place → ℕ → Bool
has_object place name = is_in_scope place.depth (nearest place.names name)

-- a function of the name is declared before the place
abbrev pub has_function : Place → ℕ → Bool
has_function place name = list_any (λ f. f == name) place.functions

abbrev pub named_by : Option Entry → Bool → Option Named
named_by (Some e) is_function = Some (record { of = e.of; array = e.array })
named_by None true = Some (record { of = sorts.Function; array = false })
named_by None false = None

-- what the name is at the place, where it is declared before it: an object hides each function
abbrev pub named : Place → ℕ → Option Named
named place name = named_by (nearest place.names name) (has_function place name)

-- what a name means that no object has: `reach_error` the file's own function where it defines one, each other known
-- name itself, and each further name a function of the file, wherever that is defined
abbrev pub function_meant : Option KnownName → Option ℕ → Option Object
function_meant None None = None
function_meant None (Some n) = Some (Routine n)
function_meant (Some ReachError) (Some n) = Some (Routine n)
function_meant (Some known) _ = Some (Known known)

-- what a called name means, which is nothing where it is an object's
abbrev pub called_by : Option Entry → Option KnownName → Option ℕ → Option Object
called_by (Some e) known defined = None
called_by None known defined = function_meant known defined

-- ---- declarations

-- the object of a type that a declarator at the place declares, with so many elements
abbrev pub object_from : Place → ValueType → ℕ → Object
object_from place sorts.Thread len = Handle place.counts.handles len
object_from place sorts.Mutex len = Mutex place.counts.mutexes len
object_from place sorts.Cond len = Cond place.counts.conds len
object_from place of len =
    if is_outside place then Cell place.counts.cells len (kind_of of)
    else Local place.counts.locals len (kind_of of)

-- an integer or an object for threads, whose elements are counted at file scope
abbrev pub is_counted : ValueType → Bool
is_counted sorts.Pointer = false
is_counted sorts.Nothing = false
is_counted _ = true

-- what was counted behind it, of its kind
abbrev pub counted_kind : Bool → Counts → ValueType → ℕ → Counts
counted_kind outside counts sorts.Thread len = record counts { handles = counts.handles + len }
counted_kind outside counts sorts.Mutex len = record counts { mutexes = counts.mutexes + len }
counted_kind outside counts sorts.Cond len = record counts { conds = counts.conds + len }
counted_kind true counts of len = record counts { cells = counts.cells + len }
counted_kind false counts of len = record counts { locals = counts.locals + len }

-- and of all kinds at file scope
abbrev pub counted_more : Bool → Counts → ValueType → ℕ → Counts
counted_more outside counts of len =
    let now = counted_kind outside counts of len in
    record now { elements = if outside && is_counted of then counts.elements + len else counts.elements }

-- the place behind an object that is declared there
abbrev pub with_object : Place → ℕ → ValueType → Bool → ℕ → Place
with_object place name of array len = record place {
  names = place.names ++ record { name = name; depth = place.depth; of = of; array = array; object = object_from place of len } ∷ [];
  counts = counted_more (is_outside place) place.counts of len;
}

-- the place behind a declarator, where its initializer stands already
abbrev pub with_declarator : Place → TypeName → InitDeclarator → Place
with_declarator place base d = with_object place d.name (value_type base) (is_some d.length) (elements d.length)

abbrev pub with_declarators : Place → TypeName → List InitDeclarator → Place
with_declarators place base [] = place
with_declarators place base (d ∷ rest) = with_declarators (with_declarator place base d) base rest

abbrev pub with_declaration : Place → Declaration → Place
with_declaration place d = with_declarators place d.base d.declarators

-- ---- statements

-- the place within a scope that begins there
abbrev pub inside : Place → Place
inside place = record place { depth = place.depth + 1 }

-- within the body of a loop that begins there
abbrev pub inside_loop : Place → Place
inside_loop place = record place { depth = place.depth + 1; in_loop = true }

-- the place behind a scope that ended: what was declared in it is gone, but its objects were counted
abbrev pub behind : Place → Place → Place
behind place inner = record place { counts = inner.counts }

-- The place behind a statement. The body of `if`, `else` and each loop has a scope of its own, and the head of a
-- `for` one around its body's.
unfoldable mutual
  pub after : Place → Statement → Place
  after place empty = place
  after place (eval value) = place
  after place (block parts) = behind place (after_all (inside place) parts)
  after place (declare of) = with_declaration place of
  after place (when line test first second) = after_branch (behind place (after (inside place) first)) second
  after place (while line test body) = behind place (after (inside_loop place) body)
  after place (do_while line body test) = behind place (after (inside_loop place) body)
  after place (for line first test change body) = behind place (after (inside_loop (after (inside place) first)) body)
  after place (break line) = place
  after place (continue line) = place
  after place (return line value) = place
  after place (label name of) = after place of

  pub after_branch : Place → Branch → Place
  after_branch place absent = place
  after_branch place (branch of) = behind place (after (inside place) of)

  pub after_all : Place → Statements → Place
  after_all place nil = place
  after_all place (cons s rest) = after_all (after place s) rest

-- ---- the file

-- before the first external declaration
abbrev pub opening : Place
opening = record {
  names = [];
  functions = [];
  depth = 0;
  function = 0;
  gives = types.Void;
  in_loop = false;
  counts = record { cells = 0; mutexes = 0; conds = 0; handles = 0; locals = 0; elements = 0 };
}

-- where a function of the name is declared
abbrev pub with_function : Place → ℕ → Place
with_function place name = record place { functions = place.functions ++ name ∷ [] }

-- within a function, before its parameters
abbrev pub into : Place → TypeName → Place
into place gives = record place {
  depth = place.depth + 1;
  gives = gives;
  counts = record place.counts { locals = 0 };
}

-- the place behind a parameter, which is an object only where it has a name
abbrev pub with_param : Place → TypeName → Option ℕ → Place
with_param place base None = place
with_param place base (Some name) = with_object place name (value_type base) false 1

abbrev pub with_params : Place → List Param → Place
with_params place [] = place
with_params place (p ∷ rest) = with_params (with_param place p.base p.name) rest

-- behind the body of a function: parameters and its outermost block are one scope
abbrev pub after_body : Place → Statement → Place
after_body place (block parts) = after_all place parts
after_body place other = after place other

-- the place in a function of the name before its body
abbrev pub into_body : Place → TypeName → ℕ → List Param → Place
into_body place gives name params = with_params (into (with_function place name) gives) params

-- behind a function
abbrev pub past : Place → ℕ → Place → Place
past place name inner = record place {
  functions = place.functions ++ name ∷ [];
  function = place.function + 1;
  counts = inner.counts;
}

-- the place behind an external declaration
unfoldable pub after_external : Place → ExternalDeclaration → Place
after_external place (objects hidden of) = with_declaration place of
after_external place (prototype line lead gives name params void_word) = with_function place name
after_external place (function line hidden gives name params void_word body) =
    past place name (after_body (into_body place gives name params) body)
