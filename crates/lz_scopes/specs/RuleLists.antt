-- Inner: broken rules as the code finds them.
use Rattle.std.specs.Prelude.{List, [], ◌∷◌, Option, Some, None}
use Rattle.lz_scopes.specs.declared.fault.Rule.{Rule}

-- a rule that is broken, if any, as a list
abbrev pub rule_list : Option Rule → List Rule
rule_list None = []
rule_list (Some rule) = rule ∷ []
