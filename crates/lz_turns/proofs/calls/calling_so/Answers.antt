use Rattle.std.proofs.Common.{◌∙◌, ap, length}
use Rattle.lz_turns.proofs.ArgumentsLemmas.{calling_in, calling_out}
use Rattle.lz_turns.proofs.calls.calling_so.Goals as goal

pub returns-then-known-args : goal.returns-then-known-args
returns-then-known-args c =
    calling_in c.args.args.now c.args.function c.args.values.items c.number_of-known.result (c.number_of-known.ensures ∙ ap length c.deref.ensures.value) c.if-known-args.true

pub returns : goal.returns
returns c =
    calling_out c.args.args.now c.args.function c.args.values.items c.number_of-known.result c.in_ok-kinds.kinds.items (c.number_of-known.ensures ∙ ap length c.deref.ensures.value) c.if-known-args.false c.in_ok-kinds.ensures
