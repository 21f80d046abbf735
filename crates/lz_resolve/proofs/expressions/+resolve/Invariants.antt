use Rattle.std.proofs.Common.{◌≡◌, map}
use Rattle.lz_tree.specs.Trees.{expression, expressions_of}
use Rattle.lz_resolve.specs.ScopedPrograms.{scope_all}
use Rattle.lz_resolve.proofs.ExpressionsLemmas.{made}
use Rattle.lz_resolve.proofs.expressions.+resolve.Given as goal

-- what was made so far and what is left are all
abbrev pub invariant-resolve_all-loop-e : goal.invariant-resolve_all-loop-e
invariant-resolve_all-loop-e l = scope_all l.file l.place (expressions_of (map expression l.args)) ≡ made l.file l.place l.all.items l.args l.e-index
