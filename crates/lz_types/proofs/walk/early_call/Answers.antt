use Rattle.std.proofs.Common.{sym}
use Rattle.lz_scopes.proofs.ArgumentsLemmas.{count_of}
use Rattle.lz_types.proofs.walk.early_call.Goals as goal

pub returns : goal.returns
returns c = rw (count_of c.args.args.now, sym c.callee.ensures) c.wrong_call.ensures
