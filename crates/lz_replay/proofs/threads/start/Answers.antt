use Rattle.std.proofs.Common.{rules, sym, subst}
use Rattle.lz_tree.specs.ScopedTrees.{scoped_program}
use Rattle.lz_machine.specs.Threads as threads
use Rattle.lz_machine.specs.Starts.{IsStarted}
use Rattle.lz_machine.specs.declared.answer.ReadBack.TheVariants as back
use Rattle.lz_replay.proofs.TakingLemmas.{read_nothing}
use Rattle.lz_replay.proofs.threads.start.Goals as goal

pub returns : goal.returns
returns c = record {
  last = record { thread = c.in_ok-thread.thread; read = back.Nothing };
  begun = record {
    begins = subst (λ (t : threads.Thread). IsStarted (scoped_program c.args.scoped.now) c.args.routine c.args.value t) (sym (read_nothing c.in_ok-thread.thread)) c.in_ok-thread.ensures.starts;
    own = c.in_ok-thread.ensures.own;
  };
  is = search rules;
}
