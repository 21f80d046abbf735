use Rattle.lz_tree.specs.ScopedTrees.{scoped_program}
use Rattle.lz_machine.specs.Held.{running_of, turned_of}
use Rattle.lz_machine.specs.Starts.{word_of}
use Rattle.lz_machine.proofs.ThreadLemmas.{told}
use Rattle.lz_machine.proofs.parts.answer.Goals as goal

pub returns-clause-answers : goal.returns-clause-answers
returns-clause-answers c =
    told (scoped_program c.args.program.now) c.args.unwind c.args.choice c.args.whole (word_of c.args.read) (running_of c.args.running) (running_of c.give.new.running) (turned_of c.in_ok-turned.turned c.run.new.running) _ _ c.give.ensures
    c.in_ok-turned.ensures c.in_ok-answered.ensures.next c.in_ok-answered.ensures.standing
