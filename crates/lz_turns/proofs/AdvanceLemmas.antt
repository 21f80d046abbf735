-- How an expression comes as far as its part, and by turns of its own.
use Rattle.std.proofs.Common.{◌≡◌, ◌<◌, ◌≤◌, ◌*◌, ℕ, suc, arith, List, Option, Some, None, inr, refl, sym, ◌∙◌, ap, subst}
use Rattle.std.proofs.lemmas.Nat.{mul-le}
use Rattle.lz_tree.specs.ScopedTrees.{ScopedExpression, ScopedProgram}
use Rattle.lz_model.specs.Actions.{Act}
use Rattle.lz_model.specs.WithoutLoc.{without_loc}
use Rattle.lz_model.specs.Behaviours.{Outcome, done, exits, cut, Behaviour, ends_with, halts, ◌and_then◌}
use Rattle.lz_model.specs.CodeTraces.{Locals, Calls, IsAny}
use Rattle.lz_model.specs.Programs.{calls_within}
use Rattle.lz_model.proofs.FrontsLemmas.{FrontCalls, fronts_updates, fronts_chooses, fronts_frame, fronts_calls}
use Rattle.lz_turns.specs.Stages.{Stage, start, Point, at_stage, within, Came, settles, acts, reads, asks, signals, creates, calls_on, fails, refuses, quits, stops, Move, enters, goes, comes, inside, value_if_done}
use Rattle.lz_turns.specs.Moves.{slot_of, part_of, arguments_of, turn_of, left_by}
use Rattle.lz_turns.specs.Seen.{Seen, Alike}
use Rattle.lz_turns.specs.Resumed.{stage_trace, with_part, resumed, behind, moved, Comes, PartComes, Turned, again, stopped, behind_turn, TurnNears, Turns}
use Rattle.lz_turns.proofs.SeenLemmas.{alike_same, alike_back, alike_alike, alike_then, alike_behind, alike_value, alike_halts, alike_leaves, alike_assoc, alike_chooses, alike_choice}
use Rattle.lz_tree.specs.Calls.{expression_calls}
use Rattle.lz_turns.specs.Nears.{Falls, part_calls, calls_left, Nears}
use Rattle.lz_turns.specs.Ranks.{count, rank_of, rank}
use Rattle.lz_turns.specs.Turning.{turned_by, StaysAt, Entered, GoesDown}
use Rattle.lz_turns.proofs.MovesLemmas.{turns_so}
use Rattle.lz_turns.proofs.RanksLemmas.{turn_falls}
use Rattle.lz_turns.proofs.NearsLemmas.{step_over, nears_more, turn_nears_more, told_nears, within_nears, entered_nears}
use Rattle.lz_turns.proofs.CallsLemmas.{part_is}

part_none : (o : Option ScopedExpression) (code : ScopedExpression → Behaviour Locals ℕ) → o ≡ None → (s t : Locals) → Alike (with_part o code) s halts t
part_none o code e s t = subst (λ (x : Option ScopedExpression). Alike (with_part x code) s halts t) (sym e) (record { there = record { leads = λ full out h. of full out h }; back = record { leads = λ full out h. of2 full out h } })
  where
    of : (full : List Act) (out : Outcome Locals ℕ) → halts s full out → Seen halts t (without_loc full) out
    of full (done u v) h = absurd h.is
    of full (exits w) h = absurd h.is
    of full cut h = inr (ap without_loc h.is, refl)

    of2 : (full : List Act) (out : Outcome Locals ℕ) → halts t full out → Seen halts s (without_loc full) out
    of2 full (done u v) h = absurd h.is
    of2 full (exits w) h = absurd h.is
    of2 full cut h = inr (ap without_loc h.is, refl)

-- what did not end in a part did not end
inside_so : (calls : Calls) → FrontCalls calls → (e part : ScopedExpression) (stage : Stage) → part_of e (slot_of stage) ≡ Some part → (came : Came) → value_if_done came ≡ None → (s : Locals)
    → Alike (behind calls part came and_then λ w. stage_trace calls e stage w) s (behind calls e (inside stage came)) s
inside_so calls c e part stage is came not_done s = by came not_done
  where
    there : (point : Point) (v : ℕ) (t : Locals) → Alike (resumed calls part point v and_then λ w. stage_trace calls e stage w) t (resumed calls e (within stage point) v) t
    there point v t = part_is (part_of e (slot_of stage)) part (λ x. resumed calls x point v and_then λ w. stage_trace calls e stage w) is t

    by : (came : Came) → value_if_done came ≡ None → Alike (behind calls part came and_then λ w. stage_trace calls e stage w) s (behind calls e (inside stage came)) s
    by (settles v) h = absurd cc
    by (acts action line point) h = alike_alike alike_assoc (alike_behind fronts_updates (λ v t. there point 0 t) s)
    by (reads cell line point) h = alike_alike alike_assoc (alike_behind (fronts_chooses (λ v. fronts_updates)) (λ v t. there point v t) s)
    by (asks line kind point) h = alike_alike alike_assoc (alike_behind (fronts_chooses (λ v. fronts_updates)) (λ v t. there point v t) s)
    by (signals cond line point) h = alike_alike alike_assoc (alike_behind (fronts_chooses (λ v. fronts_updates)) (λ v t. there point v t) s)
    by (creates routine value line point) h =
        alike_alike (alike_chooses _ _ _ s) (alike_choice IsAny (λ d. alike_alike alike_assoc (alike_behind fronts_updates (λ v t. there point d t) s)))
    by (calls_on function kinds values point) h = alike_alike alike_assoc (alike_behind (fronts_frame (c.fronts function)) (λ v t. there point v t) s)
    by (fails kind line) h = alike_alike alike_assoc (alike_behind fronts_updates (λ v t. alike_halts) s)
    by (refuses line) h = alike_alike alike_assoc (alike_behind fronts_updates (λ v t. alike_halts) s)
    by quits h = alike_leaves _ _ s
    by stops h = alike_halts

done_is : (came : Came) (v : ℕ) → value_if_done came ≡ Some v → came ≡ settles v
done_is (settles w) v h = let same : w ≡ v = cc in ap settles same
done_is (acts action line point) v h = absurd cc
done_is (reads cell line point) v h = absurd cc
done_is (asks line kind point) v h = absurd cc
done_is (signals cond line point) v h = absurd cc
done_is (creates routine value line point) v h = absurd cc
done_is (calls_on function kinds values point) v h = absurd cc
done_is (fails kind line) v h = absurd cc
done_is (refuses line) v h = absurd cc
done_is quits v h = absurd cc
done_is stops v h = absurd cc

-- ---- a part

-- a part that is done
part_done : (e : ScopedExpression) (stage : Stage) (point : Point) (given v : ℕ) (before middle : Locals) (came : Came) (o : Option ScopedExpression)
    → part_of e (slot_of stage) ≡ o → PartComes o point given before came middle → value_if_done came ≡ Some v → (p : ScopedProgram) (n depth : ℕ)
    → Alike (resumed (calls_within p n depth) e (within stage point) given) before (stage_trace (calls_within p n depth) e stage v) middle
part_done e stage point given v before middle came None is part h p n depth = let bad : stops ≡ settles v = sym part ∙ done_is came v h in absurd cc
part_done e stage point given v before middle came (Some a) is part h p n depth =
    let calls = calls_within p n depth in
    alike_alike (alike_back (part_is (part_of e (slot_of stage)) a (λ x. resumed calls x point given and_then λ w. stage_trace calls e stage w) is before))
    (alike_alike (alike_then (part.same p n depth) (λ w. stage_trace calls e stage w))
    (alike_alike (subst (λ (x : Came). Alike (behind calls a x and_then λ w. stage_trace calls e stage w) middle (ends_with v and_then λ w. stage_trace calls e stage w) middle) (sym (done_is came v h)) alike_same)
    alike_value))

-- a part that is not done
part_waits : (e : ScopedExpression) (stage : Stage) (point : Point) (given : ℕ) (before middle : Locals) (came : Came) (o : Option ScopedExpression)
    → part_of e (slot_of stage) ≡ o → PartComes o point given before came middle → value_if_done came ≡ None → (p : ScopedProgram) (n depth : ℕ)
    → Alike (resumed (calls_within p n depth) e (within stage point) given) before (behind (calls_within p n depth) e (inside stage came)) middle
part_waits e stage point given before middle came None is part h p n depth =
    let calls = calls_within p n depth in
    subst (λ (x : Came). Alike (resumed calls e (within stage point) given) before (behind calls e (inside stage x)) middle) (sym part)
    (part_none (part_of e (slot_of stage)) (λ x. resumed calls x point given and_then λ w. stage_trace calls e stage w) is before middle)
part_waits e stage point given before middle came (Some a) is part h p n depth =
    let calls = calls_within p n depth in
    alike_alike (alike_back (part_is (part_of e (slot_of stage)) a (λ x. resumed calls x point given and_then λ w. stage_trace calls e stage w) is before))
    (alike_alike (alike_then (part.same p n depth) (λ w. stage_trace calls e stage w)) (inside_so calls (fronts_calls p n depth) e a stage is came h middle))

-- a node whose part came so far
part_turns : (e : ScopedExpression) (stage : Stage) (point : Point) (given : ℕ) (before after : Locals) (came : Came) → PartComes (part_of e (slot_of stage)) point given before came after → (p : ScopedProgram) (n depth : ℕ)
    → Alike (resumed (calls_within p n depth) e (within stage point) given) before (behind_turn (calls_within p n depth) e (turned_by stage came)) after
part_turns e stage point given before after (settles v) part p n depth = part_done e stage point given v before after (settles v) (part_of e (slot_of stage)) refl part refl p n depth
part_turns e stage point given before after (acts action line inner) part p n depth = part_waits e stage point given before after (acts action line inner) (part_of e (slot_of stage)) refl part refl p n depth
part_turns e stage point given before after (reads cell line inner) part p n depth = part_waits e stage point given before after (reads cell line inner) (part_of e (slot_of stage)) refl part refl p n depth
part_turns e stage point given before after (asks line kind inner) part p n depth = part_waits e stage point given before after (asks line kind inner) (part_of e (slot_of stage)) refl part refl p n depth
part_turns e stage point given before after (signals cond line inner) part p n depth = part_waits e stage point given before after (signals cond line inner) (part_of e (slot_of stage)) refl part refl p n depth
part_turns e stage point given before after (creates routine value line inner) part p n depth = part_waits e stage point given before after (creates routine value line inner) (part_of e (slot_of stage)) refl part refl p n depth
part_turns e stage point given before after (calls_on function kinds values inner) part p n depth = part_waits e stage point given before after (calls_on function kinds values inner) (part_of e (slot_of stage)) refl part refl p n depth
part_turns e stage point given before after (fails kind line) part p n depth = part_waits e stage point given before after (fails kind line) (part_of e (slot_of stage)) refl part refl p n depth
part_turns e stage point given before after (refuses line) part p n depth = part_waits e stage point given before after (refuses line) (part_of e (slot_of stage)) refl part refl p n depth
part_turns e stage point given before after quits part p n depth = part_waits e stage point given before after quits (part_of e (slot_of stage)) refl part refl p n depth
part_turns e stage point given before after stops part p n depth = part_waits e stage point given before after stops (part_of e (slot_of stage)) refl part refl p n depth

stays_by : (stage : Stage) (came : Came) → StaysAt stage (turned_by stage came)
stays_by stage (settles v) = refl
stays_by stage (acts action line inner) = tt
stays_by stage (reads cell line inner) = tt
stays_by stage (asks line kind inner) = tt
stays_by stage (signals cond line inner) = tt
stays_by stage (creates routine value line inner) = tt
stays_by stage (calls_on function kinds values inner) = tt
stays_by stage (fails kind line) = tt
stays_by stage (refuses line) = tt
stays_by stage quits = tt
stays_by stage stops = tt

-- a node whose part came so far is nearer, from a place in the part and from its start
within_near : (e : ScopedExpression) (stage : Stage) (point : Point) (given : ℕ) (before after : Locals) (came : Came) (o : Option ScopedExpression) → part_of e (slot_of stage) ≡ o → PartComes o point given before came after
    → TurnNears e (calls_left (within stage point) e) (turned_by stage came)
within_near e stage point given before after came None is part = subst (λ (x : Came). TurnNears e (calls_left (within stage point) e) (turned_by stage x)) (sym part) tt
within_near e stage point given before after came (Some a) is part = within_nears e a stage point came is part.near

entered_near : (e : ScopedExpression) (stage : Stage) (before after : Locals) (came : Came) (o : Option ScopedExpression) → part_of e (slot_of stage) ≡ o → PartComes o (at_stage start) 0 before came after
    → TurnNears e (suc (rank e stage) * part_calls e) (turned_by stage came)
entered_near e stage before after came None is part = subst (λ (x : Came). TurnNears e (suc (rank e stage) * part_calls e) (turned_by stage x)) (sym part) tt
entered_near e stage before after came (Some a) is part = entered_nears e a stage came is part.near

-- no part
pub part_missing : (o : Option ScopedExpression) (point : Point) (given : ℕ) (before : Locals) → None ≡ o → PartComes o point given before stops before
part_missing None point given before is = refl
part_missing (Some a) point given before is = absurd cc

-- a part
pub part_there : (o : Option ScopedExpression) (a : ScopedExpression) (point : Point) (given : ℕ) (before after : Locals) (came : Came) → Some a ≡ o → Comes a point given before came after → PartComes o point given before came after
part_there None a point given before after came is h = absurd cc
part_there (Some b) a point given before after came is h = let same : a ≡ b = cc in subst (λ (x : ScopedExpression). Comes x point given before came after) same h

-- the part is entered
pub entered : (e : ScopedExpression) (stage : Stage) (before after : Locals) (came : Came) (turned : Turned) → PartComes (part_of e (slot_of stage)) (at_stage start) 0 before came after → turned ≡ turned_by stage came
    → Entered e stage before turned after
entered e stage before after came turned part is =
    record {
      same = λ p n depth. subst (λ (x : Turned). Alike (moved (calls_within p n depth) e (enters stage)) before (behind_turn (calls_within p n depth) e x) after) (sym is) (part_turns e stage (at_stage start) 0 before after came part p n depth);
      stays = subst (λ (x : Turned). StaysAt stage x) (sym is) (stays_by stage came);
      near = subst (λ (x : Turned). TurnNears e (suc (rank e stage) * part_calls e) x) (sym is) (entered_near e stage before after came (part_of e (slot_of stage)) refl part);
    }

-- within a part that is not done
pub part_within : (e : ScopedExpression) (stage : Stage) (point : Point) (given : ℕ) {before after : Locals} (came : Came) {end : Came}
    → PartComes (part_of e (slot_of stage)) point given before came after → turned_by stage came ≡ stopped end → Comes e (within stage point) given before end after
part_within e stage point given {before} {after} came part is =
    record {
      same = λ p n depth. subst (λ (x : Turned). Alike (resumed (calls_within p n depth) e (within stage point) given) before (behind_turn (calls_within p n depth) e x) after) is
          (part_turns e stage point given before after came part p n depth);
      near = subst (λ (x : Turned). TurnNears e (calls_left (within stage point) e) x) is (within_near e stage point given before after came (part_of e (slot_of stage)) refl part);
    }

-- behind a part that is done
pub part_behind : (e : ScopedExpression) (stage : Stage) (point : Point) (given v : ℕ) {before middle after : Locals} {came end : Came}
    → PartComes (part_of e (slot_of stage)) point given before came middle → came ≡ settles v → Comes e (at_stage stage) v middle end after → Comes e (within stage point) given before end after
part_behind e stage point given v {before} {middle} {came} {end} part is on =
    let done_so : turned_by stage came ≡ again stage v = ap (turned_by stage) is in
    record {
      same = λ p n depth. alike_alike
          (subst (λ (x : Turned). Alike (resumed (calls_within p n depth) e (within stage point) given) before (behind_turn (calls_within p n depth) e x) middle) done_so (part_turns e stage point given before middle came part p n depth))
          (on.same p n depth);
      near = nears_more e (calls_left (at_stage stage) e) (calls_left (within stage point) e) end on.near
          (subst (λ (x : Turned). TurnNears e (calls_left (within stage point) e) x) done_so (within_near e stage point given before middle came (part_of e (slot_of stage)) refl part));
    }

-- ---- one turn

-- a move and the local values that it leaves
turn_moves : (e : ScopedExpression) (stage : Stage) (v : ℕ) (before after : Locals) (move : Move) → move ≡ turn_of e stage v before → after ≡ left_by e stage v before → (p : ScopedProgram) (n depth : ℕ)
    → Alike (stage_trace (calls_within p n depth) e stage v) before (moved (calls_within p n depth) e move) after
turn_moves e stage v before after move is left p n depth =
    let calls = calls_within p n depth in
    let one = turns_so calls (fronts_calls p n depth) e stage v before in
    let two = subst (λ (m : Move). Alike (stage_trace calls e stage v) before (moved calls e m) (left_by e stage v before)) (sym is) one in
    subst (λ (t : Locals). Alike (stage_trace calls e stage v) before (moved calls e move) t) (sym left) two

falls_by : (e : ScopedExpression) (stage : Stage) (v : ℕ) (before : Locals) (move : Move) → move ≡ turn_of e stage v before → Falls (expression_calls e) (count (arguments_of e)) (rank e stage) move
falls_by e stage v before move is = subst (λ (m : Move). Falls (expression_calls e) (count (arguments_of e)) (rank e stage) m) (sym is) (turn_falls e stage v before)

-- a stage with a lower rank
lower_near : (e : ScopedExpression) (q r : ℕ) → q < r → q * part_calls e ≤ r * part_calls e
lower_near e q r low = let less = step_over r q (part_calls e) 0 low (omega arith) in omega (arith, less)

-- the rank of a stage at which a node comes to something that it tells
told_near : (e : ScopedExpression) (stage : Stage) (v : ℕ) (before : Locals) (came : Came) → comes came ≡ turn_of e stage v before → Nears e (rank e stage * part_calls e) came
told_near e stage v before came is = told_nears e (rank e stage) came (falls_by e stage v before (comes came) is)

pub turn_goes : (e : ScopedExpression) (stage next : Stage) (v w : ℕ) (before after : Locals) → goes next w ≡ turn_of e stage v before → after ≡ left_by e stage v before
    → Turns e stage v before (again next w) after
turn_goes e stage next v w before after is left =
    record { same = λ p n depth. turn_moves e stage v before after (goes next w) is left p n depth; near = lower_near e (rank e next) (rank e stage) (falls_by e stage v before (goes next w) is) }

pub turn_comes : (e : ScopedExpression) (stage : Stage) (v : ℕ) {before after : Locals} (came : Came) → comes came ≡ turn_of e stage v before → after ≡ left_by e stage v before
    → Turns e stage v before (stopped came) after
turn_comes e stage v {before} {after} came is left =
    record { same = λ p n depth. turn_moves e stage v before after (comes came) is left p n depth; near = told_near e stage v before came is }

pub turn_enters : (e : ScopedExpression) (stage next : Stage) (v : ℕ) {before middle after : Locals} {turned : Turned} → enters next ≡ turn_of e stage v before → middle ≡ left_by e stage v before
    → Entered e next middle turned after → Turns e stage v before turned after
turn_enters e stage next v {before} {middle} {turned} is left inner =
    record {
      same = λ p n depth. alike_alike (turn_moves e stage v before middle (enters next) is left p n depth) (inner.same p n depth);
      near = turn_nears_more e (suc (rank e next) * part_calls e) (rank e stage * part_calls e) turned inner.near (mul-le (suc (rank e next)) (part_calls e) (rank e stage) (part_calls e) (falls_by e stage v before (enters next) is) (omega arith));
    }

-- ---- nearer to the last stage

pub goes_down : (e : ScopedExpression) (stage next : Stage) (v w : ℕ) (before : Locals) → goes next w ≡ turn_of e stage v before → GoesDown (count (arguments_of e)) (rank e stage) (again next w)
goes_down e stage next v w before is = falls_by e stage v before (goes next w) is

stays_down : (n r : ℕ) (next : Stage) (turned : Turned) → StaysAt next turned → rank_of n next < r → GoesDown n r turned
stays_down n r next (again stage w) stays low = subst (λ (x : Stage). rank_of n x < r) (sym stays) low
stays_down n r next (stopped came) stays low = tt

pub enters_down : (e : ScopedExpression) (stage next : Stage) (v : ℕ) (before : Locals) {middle after : Locals} {turned : Turned} → enters next ≡ turn_of e stage v before → Entered e next middle turned after
    → GoesDown (count (arguments_of e)) (rank e stage) turned
enters_down e stage next v before {turned} is inner = stays_down (count (arguments_of e)) (rank e stage) next turned inner.stays (falls_by e stage v before (enters next) is)

pub again_down : (e : ScopedExpression) (stage next : Stage) (w : ℕ) (turned : Turned) → turned ≡ again next w → GoesDown (count (arguments_of e)) (rank e stage) turned → rank e next < rank e stage
again_down e stage next w turned is down = subst (λ (x : Turned). GoesDown (count (arguments_of e)) (rank e stage) x) is down

-- ---- turn by turn

pub turns_first : (e : ScopedExpression) (stage : Stage) (v : ℕ) (before : Locals) → Turns e stage v before (again stage v) before
turns_first e stage v before = record { same = λ p n depth. alike_same; near = omega arith }

turns_turns : (e : ScopedExpression) (stage now : Stage) (v w : ℕ) (before middle after : Locals) (turned : Turned) → Turns e stage v before (again now w) middle → Turns e now w middle turned after → Turns e stage v before turned after
turns_turns e stage now v w before middle after turned one two =
    record {
      same = λ p n depth. alike_alike (one.same p n depth) (two.same p n depth);
      near = turn_nears_more e (rank e now * part_calls e) (rank e stage * part_calls e) turned two.near one.near;
    }

pub turns_next : (e : ScopedExpression) (stage now next : Stage) (v w u : ℕ) {before middle after : Locals} {turned : Turned} → Turns e stage v before (again now w) middle → Turns e now w middle turned after → turned ≡ again next u
    → Turns e stage v before (again next u) after
turns_next e stage now next v w u {before} {middle} {after} {turned} one two is =
    subst (λ (x : Turned). Turns e stage v before x after) is (turns_turns e stage now v w before middle after turned one two)

pub turns_come : (e : ScopedExpression) (stage now : Stage) (v w : ℕ) {before middle after : Locals} {came : Came} {turned : Turned} → Turns e stage v before (again now w) middle → Turns e now w middle turned after → turned ≡ stopped came
    → Comes e (at_stage stage) v before came after
turns_come e stage now v w {before} {middle} {after} {came} {turned} one two is =
    let whole : Turns e stage v before (stopped came) after = subst (λ (x : Turned). Turns e stage v before x after) is (turns_turns e stage now v w before middle after turned one two) in
    record { same = λ p n depth. whole.same p n depth; near = whole.near }
