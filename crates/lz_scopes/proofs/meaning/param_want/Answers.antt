use Rattle.lz_scopes.proofs.MeaningLemmas.{want_here}
use Rattle.lz_scopes.proofs.meaning.param_want.Goals as goal

pub returns-in-Some : goal.returns-in-Some
returns-in-Some c =
    let found = c.in-Some.ensures.lookup in
    rw (c.want.ensures, c.value_type.ensures) (want_here c.args.params.now c.args.argument c.in-Some.param.now found.3.0 found.1)
