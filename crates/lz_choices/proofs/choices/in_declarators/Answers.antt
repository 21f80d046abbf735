use Rattle.std.proofs.Common.{◌∙◌, sym, arith}
use Rattle.lz_tree.specs.ScopedTrees.{scoped_declarator}
use Rattle.lz_choices.proofs.ChoicesLemmas.{declarators_of, walk_found, walk_end}
use Rattle.lz_choices.proofs.choices.in_declarators.Goals as goal

pub returns-in-Some : goal.returns-in-Some
returns-in-Some c =
    walk_found (omega arith) c.item-item.is c.loop-item.invariant c.in_declarator.ensures c.in-Some.is ∙ sym (declarators_of scoped_declarator c.args.items.now)

pub returns : goal.returns
returns c = walk_end (omega arith) c.loop-item.invariant ∙ sym (declarators_of scoped_declarator c.args.items.now)
