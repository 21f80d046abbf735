use Rattle.lz_ssa.specs.declared.node.Node.TheVariants.{Constant}
use Rattle.lz_fold.proofs.GoingLemmas.{read_known, read_word}
use Rattle.lz_fold.proofs.up.known.Goals as goal

pub returns-in-Constant-clause-known : goal.returns-in-Constant-clause-known
returns-in-Constant-clause-known c = read_known c.args.out.now c.args.number c.in-Constant.value (Constant 0) c.requires.within c.in-Constant.is

pub returns-in-Constant-clause-word : goal.returns-in-Constant-clause-word
returns-in-Constant-clause-word c = read_word c.args.out.now c.args.number c.in-Constant.value (Constant 0) c.requires.nodes c.requires.within c.in-Constant.is
