-- Inner: the faults of external declarations by their parts, the place behind a function, and a file whose facts are set.
use Rattle.std.specs.Prelude.{ℕ, Bool, true, false, not, ◌&&◌, List, [], ◌∷◌, ◌++◌, Option, Some, None}
use Rattle.lz_tree.specs.declared.expression.TypeName.{TypeName}
use Rattle.lz_tree.specs.declared.program.Param.{Param}
use Rattle.lz_tree.specs.Trees.{Statement}
use Rattle.lz_scopes.specs.declared.fault.Fault.{Fault}
use Rattle.lz_scopes.specs.declared.place.Place.{Place}
use Rattle.lz_scopes.specs.Files.{File, Facts}
use Rattle.lz_scopes.specs.ValueTypes.{value_type, is_pointer, are_one_type, are_one_list}
use Rattle.lz_scopes.specs.Scopes.{bases, is_one_pointer, is_start_form, with_function, into, into_body, after_body, past}
use Rattle.lz_types.specs.Faults.{at, prototype_rules, function_rules, params_faults, body_faults}

-- a type is the one at a place of a list, if there is one
abbrev pub is_one_at : TypeName → Option TypeName → Bool
is_one_at base None = false
is_one_at base (Some other) = are_one_type base other

-- a function of such a result and such parameters has the form of a start routine
abbrev pub has_start_form : TypeName → List Param → Bool
has_start_form gives params = is_pointer (value_type gives) && is_one_pointer (bases params)

-- The parameters of a prototype differ from those of a definition; where it has none and its list does not say `void`,
-- any fit.
abbrev pub params_differ : List TypeName → Bool → List TypeName → Bool
params_differ [] false others = false
params_differ [] true others = not (are_one_list [] others)
params_differ (p ∷ rest) void_word others = not (are_one_list (p ∷ rest) others)

-- the faults of a prototype
abbrev pub prototype_faults : File → Place → ℕ → TypeName → ℕ → List Param → Bool → List Fault
prototype_faults file place line gives name params void_word =
    at line (prototype_rules file place gives name params void_word)
    ++ params_faults file (into (with_function place name) gives) (is_start_form name gives params) params

-- those of a function with a body
abbrev pub function_faults : File → Place → ℕ → TypeName → ℕ → List Param → Statement → List Fault
function_faults file place line gives name params body =
    at line (function_rules file place gives name params)
    ++ (params_faults file (into (with_function place name) gives) (is_start_form name gives params) params
    ++ body_faults file (into_body place gives name params) body)

-- the place behind a function with a body
abbrev pub behind_function : Place → TypeName → ℕ → List Param → Statement → Place
behind_function place gives name params body = past place name (after_body (into_body place gives name params) body)

-- a file in which these facts of its functions are set
abbrev pub with_facts : File → Facts → File
with_facts file facts = record file { returning = facts.returning; reached = facts.reached; high = facts.high }
