use Rattle.std.specs.Prelude.{◌<◌}
use Rattle.lz_cnf.specs.Models.{variable_of}
use Rattle.lz_base.proofs.ListLemmas.{AllBefore}
use Rattle.lz_cnf.proofs.form.are_below.Given as goal

abbrev pub invariant-loop-lit : goal.invariant-loop-lit
invariant-loop-lit l = AllBefore (λ lit. variable_of lit < l.bound) l.clause l.lit-index
