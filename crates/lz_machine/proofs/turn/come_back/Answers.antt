use Rattle.std.proofs.Common.{ap, sym, ◌∙◌}
use Rattle.lz_machine.specs.Turns as spec
use Rattle.lz_machine.proofs.HeldLemmas.{callers_popped}
use Rattle.lz_machine.proofs.turn.come_back.Goals as goal

pub returns-in-Some : goal.returns-in-Some
returns-in-Some c = ap spec.again c.resume.ensures ∙ sym (ap (λ frames. spec.come_back frames c.args.running.now.locals.handles.items c.args.value c.args.running.now.made) (callers_popped _ _ c.in-Some.ensures.items))
