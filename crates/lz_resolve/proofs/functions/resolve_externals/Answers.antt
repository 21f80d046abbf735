use Rattle.std.proofs.Common.{map}
use Rattle.lz_tree.specs.Trees.{external_declaration}
use Rattle.lz_resolve.proofs.FunctionsLemmas.{functions_more, functions_all}
use Rattle.lz_resolve.proofs.functions.resolve_externals.Goals as goal

pub loop-external-preserved : goal.loop-external-preserved
loop-external-preserved c =
    functions_more c.args.file.now _ c.loop-external.place c.resolve_external.new.place (map external_declaration c.args.externals.now) c.args.externals.now c.loop-external.external-index c.external-item.result
    c.loop-external.functions c.resolve_external.new.functions c.loop-external.invariant c.loop-external-test.true c.external-item.is
    c.in_ok-resolve_external.ensures.place c.in_ok-resolve_external.ensures.trees

pub returns-clause-place : goal.returns-clause-place
returns-clause-place c =
    (functions_all c.args.file.now _ c.loop-external.place _ c.args.externals.now c.loop-external.external-index c.loop-external.functions c.loop-external.invariant c.loop-external-test.false).0

pub returns-clause-trees : goal.returns-clause-trees
returns-clause-trees c =
    (functions_all c.args.file.now _ c.loop-external.place _ c.args.externals.now c.loop-external.external-index c.loop-external.functions c.loop-external.invariant c.loop-external-test.false).1
