use Rattle.std.proofs.Common.{ap, ◌∙◌}
use Rattle.lz_tree.specs.ScopedTrees.{scoped_program, scoped_definition}
use Rattle.lz_model.specs.CodeTraces.{passed}
use Rattle.lz_machine.proofs.HeldLemmas.{passed_to, passed_to_none}
use Rattle.lz_machine.proofs.turn.pass_to.Goals as goal

pub returns-in-None : goal.returns-in-None
returns-in-None c = passed_to_none (scoped_program c.args.program.now) c.args.function c.args.kinds.now c.args.values.now.items c.in-None.ensures

pub returns-in-Some : goal.returns-in-Some
returns-in-Some c =
    passed_to (scoped_program c.args.program.now) c.args.function (scoped_definition c.in-Some.callee.now) c.args.kinds.now c.args.values.now.items _ c.in-Some.ensures (c.pass.ensures ∙ ap (λ params. passed c.args.kinds.now params c.args.values.now.items) c.items.ensures)
