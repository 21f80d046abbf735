use Rattle.std.proofs.Common.{◌∙◌, ap}
use Rattle.std.proofs.Common.{◌++◌, ◌∷◌, []}
use Rattle.lz_tree.specs.ScopedTrees.{scoped_program}
use Rattle.lz_machine.specs.Held.{thread_of}
use Rattle.lz_machine.proofs.ThreadLemmas.{main_begins, routine_begins}
use Rattle.lz_machine.proofs.parts.Parts.start.Goals as goal

pub returns-in_ok-find-in-None-clause-starts : goal.returns-in_ok-find-in-None-clause-starts
returns-in_ok-find-in-None-clause-starts c = main_begins (scoped_program c.args.program.now) c.args.value _ (thread_of c.first.result) c.args.start c.in-None.is c.first.ensures c.new-arguments.ensures.items

pub returns-in_ok-push-in-Some-clause-starts : goal.returns-in_ok-push-in-Some-clause-starts
returns-in_ok-push-in-Some-clause-starts c =
    routine_begins (scoped_program c.args.program.now) c.in-Some.function c.args.value _ (thread_of c.first-in-Some.result) c.args.start c.in-Some.is c.first-in-Some.ensures
    (c.in_ok-push-in-Some.ensures.items ∙ ap (λ xs. xs ++ c.args.value ∷ []) c.new-arguments.ensures.items)
