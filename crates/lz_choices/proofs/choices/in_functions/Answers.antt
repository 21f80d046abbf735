use Rattle.std.proofs.Common.{◌∙◌, sym, arith}
use Rattle.lz_tree.specs.ScopedTrees.{scoped_definition}
use Rattle.lz_choices.proofs.ChoicesLemmas.{functions_of, walk_found, walk_end}
use Rattle.lz_choices.proofs.choices.in_functions.Goals as goal

pub returns-in-Some : goal.returns-in-Some
returns-in-Some c =
    walk_found (omega arith) c.item-item.is c.loop-item.invariant c.in_statement.ensures c.in-Some.is ∙ sym (functions_of scoped_definition c.args.items.now)

pub returns : goal.returns
returns c = walk_end (omega arith) c.loop-item.invariant ∙ sym (functions_of scoped_definition c.args.items.now)
