use Rattle.std.proofs.Common.{◌<◌, sym, ap, ◌∙◌, arith}
use Rattle.lz_tree.specs.ScopedTrees.{scoped_expression}
use Rattle.lz_turns.specs.Stages.{stage_of, point_of, move_of, comes}
use Rattle.lz_turns.specs.Moves.{slot_of}
use Rattle.lz_turns.specs.Sizes.{size}
use Rattle.lz_turns.specs.Turning.{turned_of}
use Rattle.lz_turns.proofs.AdvanceLemmas.{entered, part_within, part_behind, turn_comes, turn_goes, goes_down, turn_enters, enters_down, turns_next, turns_come}
use Rattle.lz_turns.proofs.PartsLemmas.{part_below, part_fits}
use Rattle.lz_turns.proofs.WentsLemmas.{went_done, went_waits}
use Rattle.lz_turns.proofs.advancing.+advance_in.Goals as goal

pub part-advance_in-requires : goal.part-advance_in-requires
part-advance_in-requires t c =
    let is = sym c.in-Some.ensures in
    let below : size (scoped_expression c.in-Some.inner.now) < size (scoped_expression c.args.e.now) = part_below (scoped_expression c.args.e.now) (slot_of (stage_of c.args.stage.now)) _ is in
    let fits = part_fits (scoped_expression c.args.e.now) (slot_of (stage_of c.args.stage.now)) (scoped_expression c.in-Some.inner.now) is c.requires in
    (omega (arith, below, c.decreases), fits)

pub enter-returns : goal.enter-returns
enter-returns t c = entered (scoped_expression c.args.e.now) (stage_of c.args.stage) _ _ _ _ c.in_ok-went.ensures c.in_ok-turned.ensures

pub go_on-loop-next-preserved : goal.go_on-loop-next-preserved
go_on-loop-next-preserved t c =
    turns_next (scoped_expression c.args.e.now) (stage_of c.args.stage) (stage_of c.loop-next.now) (stage_of c.in-Again.next) c.args.value c.loop-next.held c.in-Again.given c.loop-next.invariant c.in_ok-next.ensures.same
    (ap (λ x. turned_of x (point_of c.turn.new.place)) c.in-Again.is)

pub go_on-returns-in-Stopped : goal.go_on-returns-in-Stopped
go_on-returns-in-Stopped t c =
    turns_come (scoped_expression c.args.e.now) (stage_of c.args.stage) (stage_of c.loop-next.now) c.args.value c.loop-next.held c.loop-next.invariant c.in_ok-next.ensures.same (ap (λ x. turned_of x (point_of c.turn.new.place)) c.in-Stopped.is)

pub turn-returns-in-Comes-clause-same : goal.turn-returns-in-Comes-clause-same
turn-returns-in-Comes-clause-same t c =
    turn_comes (scoped_expression c.args.e.now) (stage_of c.args.stage) c.args.value _ (ap (λ x. comes x) c.stand_behind-went.ensures ∙ sym (ap move_of c.in-Comes.is) ∙ c.in_ok-came.ensures.step) c.in_ok-came.ensures.left

pub turn-returns-in-Goes-clause-same : goal.turn-returns-in-Goes-clause-same
turn-returns-in-Goes-clause-same t c =
    turn_goes (scoped_expression c.args.e.now) (stage_of c.args.stage) (stage_of c.in-Goes.next) c.args.value c.in-Goes.held _ _ (sym (ap move_of c.in-Goes.is) ∙ c.in_ok-came.ensures.step) c.in_ok-came.ensures.left

pub turn-returns-in-Goes-clause-down : goal.turn-returns-in-Goes-clause-down
turn-returns-in-Goes-clause-down t c =
    goes_down (scoped_expression c.args.e.now) (stage_of c.args.stage) (stage_of c.in-Goes.next) c.args.value c.in-Goes.held _ (sym (ap move_of c.in-Goes.is) ∙ c.in_ok-came.ensures.step)

pub turn-returns-in_ok-turned-in-Enters-clause-same : goal.turn-returns-in_ok-turned-in-Enters-clause-same
turn-returns-in_ok-turned-in-Enters-clause-same t c =
    turn_enters (scoped_expression c.args.e.now) (stage_of c.args.stage) (stage_of c.in-Enters.next) c.args.value (sym (ap move_of c.in-Enters.is) ∙ c.in_ok-came.ensures.step) c.in_ok-came.ensures.left
    c.in_ok-turned-in-Enters.ensures

pub turn-returns-in_ok-turned-in-Enters-clause-down : goal.turn-returns-in_ok-turned-in-Enters-clause-down
turn-returns-in_ok-turned-in-Enters-clause-down t c =
    enters_down (scoped_expression c.args.e.now) (stage_of c.args.stage) (stage_of c.in-Enters.next) c.args.value _ (sym (ap move_of c.in-Enters.is) ∙ c.in_ok-came.ensures.step) c.in_ok-turned-in-Enters.ensures

pub advance_in-returns-in-None : goal.advance_in-returns-in-None
advance_in-returns-in-None t c =
    let on = part_within (scoped_expression c.args.e.now) (stage_of c.in-Within.stage) _ c.args.given _ c.in_ok-went-in-Within.ensures (went_waits c.in_ok-went-in-Within.went (stage_of c.in-Within.stage) _ c.in-None.ensures) in
    rw (c.in-Within.is, sym c.deref_mut.ensures.value) on

pub advance_in-returns-in_ok-went-in-Some : goal.advance_in-returns-in_ok-went-in-Some
advance_in-returns-in_ok-went-in-Some t c =
    let on = part_behind (scoped_expression c.args.e.now) (stage_of c.in-Within.stage) _ c.args.given c.in-Some.value c.in_ok-went-in-Within.ensures
    (went_done c.in_ok-went-in-Within.went c.in-Some.value _ c.in-Some.ensures) (rw (ap stage_of c.replace-stage-in-Some.ensures.value) at c.in_ok-went-in-Some.ensures) in
    rw (c.in-Within.is, sym c.deref_mut.ensures.value) on
