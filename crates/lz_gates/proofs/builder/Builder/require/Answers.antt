use Rattle.std.proofs.Common.{subst, sym, ◌<◌}
use Rattle.std.specs.List.{All}
use Rattle.lz_cnf.specs.Models.{variable_of}
use Rattle.lz_gates.specs.Circuits.{Circuit}
use Rattle.lz_gates.proofs.ExtendingLemmas.{is_circuit_require}
use Rattle.lz_gates.proofs.builder.Builder.require.Goals as goal

pub invariant_of-self : goal.invariant_of-self
invariant_of-self c =
    let lits = subst (λ (x : Circuit). All (λ lit. variable_of lit < x.variables) c.args.clause.now) (sym c.self.view_is) c.requires.lits in
    rw c.in-Ok.ensures.ok (is_circuit_require _ _ _ _ _ c.requires.some lits c.self.invariant)
