use Rattle.std.proofs.Common.{Option, sym, subst}
use Rattle.lz_tree.specs.ScopedTrees.{scoped_program}
use Rattle.lz_machine.specs.Answers.{read_back}
use Rattle.lz_machine.specs.Starts.{word_of, answer_of}
use Rattle.lz_replay.specs.declared.threads.Taken.{Taken}
use Rattle.lz_replay.specs.Taking.{IsTaken}
use Rattle.lz_replay.proofs.TakingLemmas.{is_taken}
use Rattle.lz_replay.proofs.threads.take.Goals as goal

pub returns-clause-takes : goal.returns-clause-takes
returns-clause-takes c =
    let before = read_back (word_of c.args.read) c.args.thread.now in
    subst (λ (taken : Option Taken). IsTaken (scoped_program c.args.scoped.now) c.args.unwind c.args.store.now c.args.choice before taken c.next.new.self) (sym c.taken_of.ensures)
    (is_taken (scoped_program c.args.scoped.now) c.args.unwind c.args.store.now c.args.choice before c.next.new.self (answer_of c.in_ok-next.next) c.in_ok-next.ensures.answer)
