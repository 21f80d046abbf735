-- How a statement comes as far as its parts, and by steps of its own.
use Rattle.std.proofs.Common.{◌≡◌, ◌<◌, ◌≤◌, ◌*◌, ℕ, zero, suc, arith, List, Option, Some, None, inr, refl, sym, ap, subst}
use Rattle.std.proofs.lemmas.Nat.{mul-le}
use Rattle.lz_tree.specs.ScopedTrees.{ScopedExpression, ScopedStatement, ScopedProgram}
use Rattle.lz_model.specs.Actions.{Act}
use Rattle.lz_model.specs.WithoutLoc.{without_loc}
use Rattle.lz_model.specs.Behaviours.{Outcome, done, exits, cut, Behaviour, halts, ◌and_then◌}
use Rattle.lz_model.specs.CodeTraces.{Locals, Calls, IsAny, Flow, normal}
use Rattle.lz_model.specs.Programs.{calls_within}
use Rattle.lz_model.proofs.FrontsLemmas.{Fronts, FrontCalls, fronts_updates, fronts_chooses, fronts_frame, fronts_calls}
use Rattle.lz_turns.specs.Stages as stages
use Rattle.lz_turns.specs.Stages.{Point, Came, settles}
use Rattle.lz_turns.specs.Seen.{Seen, Alike}
use Rattle.lz_turns.specs.Resumed.{resumed, behind, PartComes}
use Rattle.lz_turns.proofs.SeenLemmas.{alike_same, alike_back, alike_alike, alike_then, alike_behind, alike_value, alike_halts, alike_leaves, alike_assoc, alike_chooses, alike_choice, alike_renamed}
use Rattle.lz_stations.specs.Stations.{Station, Footing, at_station, in_value, in_part, Pause, acts, reads, asks, signals, creates, calls_on, Reached, leads, pauses, fails, refuses, quits, stops, StationMove, enters_value, enters_part, moves_on, reaches}
use Rattle.lz_stations.specs.Stations as at
use Rattle.lz_stations.specs.StationMoves.{value_at, part_at, station_move, station_leaves}
use Rattle.lz_stations.specs.StationTraces.{station_trace, with_value, with_statement, statement_resumed, paused, behind_reached, station_moved}
use Rattle.lz_stations.specs.StationRanks.{station_rank, FallsTo}
use Rattle.lz_stations.specs.StatementNears.{inner_most, statement_left, StatementNears}
use Rattle.lz_stations.specs.declared.walking.Went.{Went}
use Rattle.lz_stations.specs.declared.walking.Went.TheVariants.{Leads, Pauses, Fails, Refuses, Exits, Stops}
use Rattle.lz_stations.specs.WalksHeld.{went_of, led_of}
use Rattle.lz_stations.specs.Walks.{StatementComes, InnerComes, Stepped, again, stopped, behind_step, StepNears, Steps, stepped_by_value, stepped_by_part, StaysAt, EnteredValue, EnteredPart, ComesBehind, GoesDown}
use Rattle.lz_stations.proofs.StationsLemmas.{stations_so}
use Rattle.lz_stations.proofs.StationRanksLemmas.{station_falls}
use Rattle.lz_stations.proofs.StatementNearsLemmas.{reached_more, step_more, still_nears, within_value, begun_value, within_part, begun_part}

-- nothing more, from any local values
halted : (s t : Locals) → Alike {A = Flow} halts s halts t
halted s t = record { there = record { leads = of }; back = record { leads = of2 } }
  where
    of : (full : List Act) (out : Outcome Locals Flow) → halts s full out → Seen halts t (without_loc full) out
    of full (done u v) h = absurd h.is
    of full (exits w) h = absurd h.is
    of full cut h = inr (ap without_loc h.is, refl)

    of2 : (full : List Act) (out : Outcome Locals Flow) → halts t full out → Seen halts s (without_loc full) out
    of2 full (done u v) h = absurd h.is
    of2 full (exits w) h = absurd h.is
    of2 full cut h = inr (ap without_loc h.is, refl)

value_is : (o : Option ScopedExpression) (e : ScopedExpression) (code : ScopedExpression → Behaviour Locals Flow) → o ≡ Some e → (t : Locals) → Alike (code e) t (with_value o code) t
value_is o e code is t = subst (λ (x : Option ScopedExpression). Alike (code e) t (with_value x code) t) (sym is) alike_same

value_none : (o : Option ScopedExpression) (code : ScopedExpression → Behaviour Locals Flow) → o ≡ None → (t u : Locals) → Alike (with_value o code) t halts u
value_none o code is t u = subst (λ (x : Option ScopedExpression). Alike (with_value x code) t halts u) (sym is) (halted t u)

part_is : (o : Option ScopedStatement) (a : ScopedStatement) (code : ScopedStatement → Behaviour Locals Flow) → o ≡ Some a → (t : Locals) → Alike (code a) t (with_statement o code) t
part_is o a code is t = subst (λ (x : Option ScopedStatement). Alike (code a) t (with_statement x code) t) (sym is) alike_same

part_none : (o : Option ScopedStatement) (code : ScopedStatement → Behaviour Locals Flow) → o ≡ None → (t u : Locals) → Alike (with_statement o code) t halts u
part_none o code is t u = subst (λ (x : Option ScopedStatement). Alike (with_statement x code) t halts u) (sym is) (halted t u)

module _ (calls : Calls) (c : FrontCalls calls) (n : ℕ) (s : ScopedStatement) (station : Station) where
  -- behind an expression that came so far
  behind_values : (e : ScopedExpression) → value_at s station ≡ Some e → (came : Came) (t : Locals)
      → Alike (behind calls e came and_then λ w. station_trace calls n s station w normal) t (behind_step calls n s (stepped_by_value station came)) t
  behind_values e is came t = by came
    where
      there : (point : Point) (v : ℕ) (u : Locals) → Alike (resumed calls e point v and_then λ w. station_trace calls n s station w normal) u (statement_resumed calls n s (in_value station point) v) u
      there point v u = value_is (value_at s station) e (λ x. resumed calls x point v and_then λ w. station_trace calls n s station w normal) is u

      by : (came : Came) → Alike (behind calls e came and_then λ w. station_trace calls n s station w normal) t (behind_step calls n s (stepped_by_value station came)) t
      by (settles v) = alike_value
      by (stages.acts action line point) =
          alike_alike alike_assoc (alike_alike (alike_behind fronts_updates (λ v u. there point 0 u) t) (alike_back (alike_renamed _ zero zero (λ v. statement_resumed calls n s (in_value station point) v) t)))
      by (stages.reads cell line point) = alike_alike alike_assoc (alike_behind (fronts_chooses (λ v. fronts_updates)) (λ v u. there point v u) t)
      by (stages.asks line kind point) = alike_alike alike_assoc (alike_behind (fronts_chooses (λ v. fronts_updates)) (λ v u. there point v u) t)
      by (stages.signals cond line point) = alike_alike alike_assoc (alike_behind (fronts_chooses (λ v. fronts_updates)) (λ v u. there point v u) t)
      by (stages.creates routine value line point) =
          alike_alike (alike_chooses _ _ _ t) (alike_alike
          (alike_choice IsAny (λ d. alike_alike alike_assoc (alike_alike (alike_behind fronts_updates (λ v u. there point d u) t) (alike_back (alike_renamed _ d zero (λ v. statement_resumed calls n s (in_value station point) v) t)))))
          (alike_back (alike_chooses _ _ _ t)))
      by (stages.calls_on function kinds values point) = alike_alike alike_assoc (alike_behind (fronts_frame (c.fronts function)) (λ v u. there point v u) t)
      by (stages.fails kind line) = alike_alike alike_assoc (alike_behind fronts_updates (λ v u. alike_halts) t)
      by (stages.refuses line) = alike_alike alike_assoc (alike_behind fronts_updates (λ v u. alike_halts) t)
      by stages.quits = alike_leaves _ _ t
      by stages.stops = alike_halts

  fronts_paused : (pause : Pause) → Fronts (paused calls pause)
  fronts_paused (acts action line) = fronts_updates
  fronts_paused (reads cell line) = fronts_chooses (λ v. fronts_updates)
  fronts_paused (asks line kind) = fronts_chooses (λ v. fronts_updates)
  fronts_paused (signals cond line) = fronts_chooses (λ v. fronts_updates)
  fronts_paused (creates routine value line) = fronts_chooses (λ v. fronts_updates)
  fronts_paused (calls_on function kinds values) = fronts_frame (c.fronts function)

  -- behind a statement that came so far
  behind_parts : (a : ScopedStatement) → part_at s station ≡ Some a → (reached : Reached) (t : Locals)
      → Alike (behind_reached calls n a reached and_then λ flow. station_trace calls n s station 0 flow) t (behind_step calls n s (stepped_by_part station reached)) t
  behind_parts a is (leads flow) t = alike_value
  behind_parts a is (pauses pause footing) t =
      alike_alike alike_assoc
      (alike_behind (fronts_paused pause) (λ v u. part_is (part_at s station) a (λ x. statement_resumed calls n x footing v and_then λ flow. station_trace calls n s station 0 flow) is u) t)
  behind_parts a is (fails kind line) t = alike_alike alike_assoc (alike_behind fronts_updates (λ v u. alike_halts) t)
  behind_parts a is (refuses line) t = alike_alike alike_assoc (alike_behind fronts_updates (λ v u. alike_halts) t)
  behind_parts a is quits t = alike_leaves _ _ t
  behind_parts a is stops t = alike_halts

-- ---- within an expression, and within a statement

value_steps : (s : ScopedStatement) (station : Station) (point : Point) (given : ℕ) (before after : Locals) (came : Came) (o : Option ScopedExpression)
    → value_at s station ≡ o → PartComes o point given before came after → (p : ScopedProgram) (n bound depth : ℕ)
    → Alike (statement_resumed (calls_within p n depth) bound s (in_value station point) given) before (behind_step (calls_within p n depth) bound s (stepped_by_value station came)) after
value_steps s station point given before after came None is part p n bound depth =
    let calls = calls_within p n depth in
    subst (λ (x : Came). Alike (statement_resumed calls bound s (in_value station point) given) before (behind_step calls bound s (stepped_by_value station x)) after) (sym part)
    (value_none (value_at s station) (λ x. resumed calls x point given and_then λ w. station_trace calls bound s station w normal) is before after)
value_steps s station point given before after came (Some e) is part p n bound depth =
    let calls = calls_within p n depth in
    alike_alike (alike_back (value_is (value_at s station) e (λ x. resumed calls x point given and_then λ w. station_trace calls bound s station w normal) is before))
    (alike_alike (alike_then (part.same p n depth) (λ w. station_trace calls bound s station w normal)) (behind_values calls (fronts_calls p n depth) bound s station e is came after))

part_steps : (bound : ℕ) (s : ScopedStatement) (station : Station) (footing : Footing) (given : ℕ) (before after : Locals) (reached : Reached) (o : Option ScopedStatement)
    → part_at s station ≡ o → InnerComes bound o footing given before reached after → (p : ScopedProgram) (n depth : ℕ)
    → Alike (statement_resumed (calls_within p n depth) bound s (in_part station footing) given) before (behind_step (calls_within p n depth) bound s (stepped_by_part station reached)) after
part_steps bound s station footing given before after reached None is part p n depth =
    let calls = calls_within p n depth in
    subst (λ (x : Reached). Alike (statement_resumed calls bound s (in_part station footing) given) before (behind_step calls bound s (stepped_by_part station x)) after) (sym part)
    (part_none (part_at s station) (λ x. statement_resumed calls bound x footing given and_then λ flow. station_trace calls bound s station 0 flow) is before after)
part_steps bound s station footing given before after reached (Some a) is part p n depth =
    let calls = calls_within p n depth in
    alike_alike (alike_back (part_is (part_at s station) a (λ x. statement_resumed calls bound x footing given and_then λ flow. station_trace calls bound s station 0 flow) is before))
    (alike_alike (alike_then (part.same p n depth) (λ flow. station_trace calls bound s station 0 flow)) (behind_parts calls (fronts_calls p n depth) bound s station a is reached after))

stays_value : (station : Station) (came : Came) → StaysAt station (stepped_by_value station came)
stays_value station (settles v) = refl
stays_value station (stages.acts action line point) = tt
stays_value station (stages.reads cell line point) = tt
stays_value station (stages.asks line kind point) = tt
stays_value station (stages.signals cond line point) = tt
stays_value station (stages.creates routine value line point) = tt
stays_value station (stages.calls_on function kinds values point) = tt
stays_value station (stages.fails kind line) = tt
stays_value station (stages.refuses line) = tt
stays_value station stages.quits = tt
stays_value station stages.stops = tt

stays_part : (station : Station) (reached : Reached) → StaysAt station (stepped_by_part station reached)
stays_part station (leads flow) = refl
stays_part station (pauses pause footing) = tt
stays_part station (fails kind line) = tt
stays_part station (refuses line) = tt
stays_part station quits = tt
stays_part station stops = tt

-- a statement whose expression or part came so far is nearer
value_near : (n : ℕ) (s : ScopedStatement) (station : Station) (point : Point) (given : ℕ) (before after : Locals) (came : Came) (o : Option ScopedExpression) → value_at s station ≡ o → PartComes o point given before came after
    → StepNears n s (statement_left n (in_value station point) s) (stepped_by_value station came)
value_near n s station point given before after came None is part = subst (λ (x : Came). StepNears n s (statement_left n (in_value station point) s) (stepped_by_value station x)) (sym part) tt
value_near n s station point given before after came (Some e) is part = within_value n s e station point came is part.near

begun_near : (n : ℕ) (s : ScopedStatement) (station : Station) (before after : Locals) (came : Came) (o : Option ScopedExpression) → value_at s station ≡ o → PartComes o (stages.at_stage stages.start) 0 before came after
    → StepNears n s (suc (station_rank n s station) * suc (inner_most n s)) (stepped_by_value station came)
begun_near n s station before after came None is part = subst (λ (x : Came). StepNears n s (suc (station_rank n s station) * suc (inner_most n s)) (stepped_by_value station x)) (sym part) tt
begun_near n s station before after came (Some e) is part = begun_value n s e station came is part.near

part_near : (n : ℕ) (s : ScopedStatement) (station : Station) (footing : Footing) (given : ℕ) (before after : Locals) (reached : Reached) (o : Option ScopedStatement) → part_at s station ≡ o → InnerComes n o footing given before reached after
    → StepNears n s (statement_left n (in_part station footing) s) (stepped_by_part station reached)
part_near n s station footing given before after reached None is part = subst (λ (x : Reached). StepNears n s (statement_left n (in_part station footing) s) (stepped_by_part station x)) (sym part) tt
part_near n s station footing given before after reached (Some a) is part = within_part n s a station footing reached is part.near

begun_part_near : (n : ℕ) (s : ScopedStatement) (station : Station) (before after : Locals) (reached : Reached) (o : Option ScopedStatement) → part_at s station ≡ o → InnerComes n o (at_station at.start) 0 before reached after
    → StepNears n s (suc (station_rank n s station) * suc (inner_most n s)) (stepped_by_part station reached)
begun_part_near n s station before after reached None is part = subst (λ (x : Reached). StepNears n s (suc (station_rank n s station) * suc (inner_most n s)) (stepped_by_part station x)) (sym part) tt
begun_part_near n s station before after reached (Some a) is part = begun_part n s a station reached is part.near

-- no expression, and no statement
pub value_missing : (o : Option ScopedExpression) (point : Point) (given : ℕ) (before : Locals) → None ≡ o → PartComes o point given before stages.stops before
value_missing None point given before is = refl
value_missing (Some e) point given before is = absurd cc

pub part_missing : (bound : ℕ) (o : Option ScopedStatement) (footing : Footing) (given : ℕ) (before : Locals) → None ≡ o → InnerComes bound o footing given before stops before
part_missing bound None footing given before is = refl
part_missing bound (Some a) footing given before is = absurd cc

pub part_there : (bound : ℕ) (o : Option ScopedStatement) {a : ScopedStatement} {footing : Footing} (given : ℕ) {before after : Locals} {reached : Reached}
    → Some a ≡ o → StatementComes bound a footing given before reached after → InnerComes bound o footing given before reached after
part_there bound None given is h = absurd cc
part_there bound (Some b) {a} {footing} given {before} {after} {reached} is h = let same : a ≡ b = cc in subst (λ (x : ScopedStatement). StatementComes bound x footing given before reached after) same h

-- an expression is entered
pub value_entered : (s : ScopedStatement) (station : Station) (before after : Locals) (came : Came) (stepped : Stepped) → PartComes (value_at s station) (stages.at_stage stages.start) 0 before came after → stepped ≡ stepped_by_value station came
    → EnteredValue s station before stepped after
value_entered s station before after came stepped part is =
    record {
      same = λ p n bound depth. subst (λ (x : Stepped). Alike (station_moved (calls_within p n depth) bound s (enters_value station)) before (behind_step (calls_within p n depth) bound s x) after) (sym is)
          (value_steps s station (stages.at_stage stages.start) 0 before after came (value_at s station) refl part p n bound depth);
      stays = subst (λ (x : Stepped). StaysAt station x) (sym is) (stays_value station came);
      near = λ bound. subst (λ (x : Stepped). StepNears bound s (suc (station_rank bound s station) * suc (inner_most bound s)) x) (sym is) (begun_near bound s station before after came (value_at s station) refl part);
    }

-- a statement is entered
pub part_entered : (bound : ℕ) (s : ScopedStatement) (station : Station) {before after : Locals} (reached : Reached) {stepped : Stepped}
    → InnerComes bound (part_at s station) (at_station at.start) 0 before reached after → stepped ≡ stepped_by_part station reached → EnteredPart bound s station before stepped after
part_entered bound s station {before} {after} reached part is =
    record {
      same = λ p n depth. subst (λ (x : Stepped). Alike (station_moved (calls_within p n depth) bound s (enters_part station)) before (behind_step (calls_within p n depth) bound s x) after) (sym is)
          (part_steps bound s station (at_station at.start) 0 before after reached (part_at s station) refl part p n depth);
      stays = subst (λ (x : Stepped). StaysAt station x) (sym is) (stays_part station reached);
      near = subst (λ (x : Stepped). StepNears bound s (suc (station_rank bound s station) * suc (inner_most bound s)) x) (sym is) (begun_part_near bound s station before after reached (part_at s station) refl part);
    }

-- within an expression, and behind it
pub value_comes : (bound : ℕ) (s : ScopedStatement) (station : Station) (point : Point) (given : ℕ) {before middle after : Locals} (came : Came) {reached : Reached} {stepped : Stepped}
    → PartComes (value_at s station) point given before came middle → stepped ≡ stepped_by_value station came → ComesBehind bound s stepped middle reached after → StatementComes bound s (in_value station point) given before reached after
value_comes bound s station point given {before} {middle} came part is on =
    record {
      same = λ p n depth. alike_alike
          (subst (λ (x : Stepped). Alike (statement_resumed (calls_within p n depth) bound s (in_value station point) given) before (behind_step (calls_within p n depth) bound s x) middle) (sym is)
          (value_steps s station point given before middle came (value_at s station) refl part p n bound depth))
          (on.same p n depth);
      near = on.near (statement_left bound (in_value station point) s)
          (subst (λ (x : Stepped). StepNears bound s (statement_left bound (in_value station point) s) x) (sym is) (value_near bound s station point given before middle came (value_at s station) refl part));
    }

-- within a statement, and behind it
part_comes : (bound : ℕ) (s : ScopedStatement) (station : Station) (footing : Footing) (given : ℕ) (before middle after : Locals) (inner reached : Reached) (stepped : Stepped)
    → InnerComes bound (part_at s station) footing given before inner middle → stepped ≡ stepped_by_part station inner → ComesBehind bound s stepped middle reached after
    → StatementComes bound s (in_part station footing) given before reached after
part_comes bound s station footing given before middle after inner reached stepped part is on =
    record {
      same = λ p n depth. alike_alike
          (subst (λ (x : Stepped). Alike (statement_resumed (calls_within p n depth) bound s (in_part station footing) given) before (behind_step (calls_within p n depth) bound s x) middle) (sym is)
          (part_steps bound s station footing given before middle inner (part_at s station) refl part p n depth))
          (on.same p n depth);
      near = on.near (statement_left bound (in_part station footing) s)
          (subst (λ (x : Stepped). StepNears bound s (statement_left bound (in_part station footing) s) x) (sym is) (part_near bound s station footing given before middle inner (part_at s station) refl part));
    }

pub behind_stopped : (bound : ℕ) (s : ScopedStatement) {before : Locals} {reached : Reached} {stepped : Stepped} → stepped ≡ stopped reached → ComesBehind bound s stepped before reached before
behind_stopped bound s {before} {reached} is = subst (λ (x : Stepped). ComesBehind bound s x before reached before) (sym is) (record { same = λ p n depth. alike_same; near = λ left h. h })

-- a part that led on, and one that did not, which stands where it stands
abbrev stepped_led : Station → Option Flow → Stepped
stepped_led station (Some flow) = again station 0 flow
stepped_led station None = stopped stops

led_steps : (station : Station) (went : Went) (inner : Footing) (flow : Flow) → Some flow ≡ led_of went → again station 0 flow ≡ stepped_by_part station (went_of went inner)
led_steps station (Leads way) inner flow is = ap (stepped_led station) is
led_steps station (Pauses pause) inner flow is = absurd cc
led_steps station (Fails kind line) inner flow is = absurd cc
led_steps station (Refuses line) inner flow is = absurd cc
led_steps station Exits inner flow is = absurd cc
led_steps station Stops inner flow is = absurd cc

stays_within : (station : Station) (went : Went) (inner : Footing) → None ≡ led_of went → stopped (went_of went (in_part station inner)) ≡ stepped_by_part station (went_of went inner)
stays_within station (Leads way) inner is = absurd cc
stays_within station (Pauses pause) inner is = refl
stays_within station (Fails kind line) inner is = refl
stays_within station (Refuses line) inner is = refl
stays_within station Exits inner is = refl
stays_within station Stops inner is = refl

pub part_leads : (bound : ℕ) (s : ScopedStatement) (station : Station) (footing : Footing) (given : ℕ) {before middle after : Locals} (went : Went) (inner : Footing) (flow : Flow) {reached : Reached}
    → InnerComes bound (part_at s station) footing given before (went_of went inner) middle → Some flow ≡ led_of went → ComesBehind bound s (again station 0 flow) middle reached after
    → StatementComes bound s (in_part station footing) given before reached after
part_leads bound s station footing given {before} {middle} {after} went inner flow {reached} part is on =
    part_comes bound s station footing given before middle after (went_of went inner) reached (again station 0 flow) part (led_steps station went inner flow is) on

pub part_stays : (bound : ℕ) (s : ScopedStatement) (station : Station) (footing : Footing) (given : ℕ) (before after : Locals) (went : Went) (inner : Footing)
    → InnerComes bound (part_at s station) footing given before (went_of went inner) after → None ≡ led_of went → StatementComes bound s (in_part station footing) given before (went_of went (in_part station inner)) after
part_stays bound s station footing given before after went inner part is =
    let still = went_of went (in_part station inner) in
    part_comes bound s station footing given before after after (went_of went inner) still (stopped still) part (stays_within station went inner is) (behind_stopped bound s refl)

-- at a station
pub station_comes : (bound : ℕ) (s : ScopedStatement) (station : Station) (given : ℕ) {before after : Locals} {reached : Reached} → ComesBehind bound s (again station given normal) before reached after
    → StatementComes bound s (at_station station) given before reached after
station_comes bound s station given on = record { same = λ p n depth. on.same p n depth; near = on.near (statement_left bound (at_station station) s) (omega arith) }

-- behind a step that leads to a station, and behind one that came so far
pub behind_again : (bound : ℕ) (s : ScopedStatement) (station : Station) (v : ℕ) (flow : Flow) {before after : Locals} {reached : Reached} {stepped : Stepped}
    → stepped ≡ again station v flow → ComesBehind bound s (again station v flow) before reached after → ComesBehind bound s stepped before reached after
behind_again bound s station v flow {before} {after} {reached} is on = subst (λ (x : Stepped). ComesBehind bound s x before reached after) (sym is) on

-- ---- one step

-- a move and the local values that it leaves
step_moves : (bound : ℕ) (s : ScopedStatement) (station : Station) (v : ℕ) (flow : Flow) (before after : Locals) (move : StationMove) → move ≡ station_move bound s station v flow → after ≡ station_leaves s station v before
    → (p : ScopedProgram) (n depth : ℕ) → Alike (station_trace (calls_within p n depth) bound s station v flow) before (station_moved (calls_within p n depth) bound s move) after
step_moves bound s station v flow before after move is left p n depth =
    let calls = calls_within p n depth in
    let one = stations_so calls (fronts_calls p n depth) bound s station v flow before in
    let two = subst (λ (m : StationMove). Alike (station_trace calls bound s station v flow) before (station_moved calls bound s m) (station_leaves s station v before)) (sym is) one in
    subst (λ (t : Locals). Alike (station_trace calls bound s station v flow) before (station_moved calls bound s move) t) (sym left) two

falls_by : (bound : ℕ) (s : ScopedStatement) (station : Station) (v : ℕ) (flow : Flow) (move : StationMove) → move ≡ station_move bound s station v flow → FallsTo bound s (station_rank bound s station) move
falls_by bound s station v flow move is = subst (λ (m : StationMove). FallsTo bound s (station_rank bound s station) m) (sym is) (station_falls bound s station v flow)

-- a station with a lower rank
lower_near : (bound : ℕ) (s : ScopedStatement) (q r : ℕ) → q < r → q * suc (inner_most bound s) ≤ r * suc (inner_most bound s)
lower_near bound s q r low = mul-le q (suc (inner_most bound s)) r (suc (inner_most bound s)) (omega (arith, low)) (omega arith)

step_lower : (bound : ℕ) (s : ScopedStatement) (q r : ℕ) (stepped : Stepped) → StepNears bound s (suc q * suc (inner_most bound s)) stepped → q < r → StepNears bound s (r * suc (inner_most bound s)) stepped
step_lower bound s q r stepped h low =
    step_more bound s (suc q * suc (inner_most bound s)) (r * suc (inner_most bound s)) stepped h (mul-le (suc q) (suc (inner_most bound s)) r (suc (inner_most bound s)) low (omega arith))

pub step_on : (bound : ℕ) (s : ScopedStatement) (station next : Station) (v : ℕ) (flow : Flow) (before after : Locals) → moves_on next ≡ station_move bound s station v flow → after ≡ station_leaves s station v before
    → Steps bound s station v flow before (again next 0 normal) after
step_on bound s station next v flow before after is left =
    record {
      same = λ p n depth. step_moves bound s station v flow before after (moves_on next) is left p n depth;
      near = lower_near bound s (station_rank bound s next) (station_rank bound s station) (falls_by bound s station v flow (moves_on next) is);
    }

pub step_reaches : (bound : ℕ) (s : ScopedStatement) (station : Station) (v : ℕ) (flow : Flow) (before after : Locals) (reached : Reached) → reaches reached ≡ station_move bound s station v flow → after ≡ station_leaves s station v before
    → Steps bound s station v flow before (stopped reached) after
step_reaches bound s station v flow before after reached is left =
    record {
      same = λ p n depth. step_moves bound s station v flow before after (reaches reached) is left p n depth;
      near = still_nears bound s (station_rank bound s station * suc (inner_most bound s)) reached (falls_by bound s station v flow (reaches reached) is);
    }

pub step_value : (bound : ℕ) (s : ScopedStatement) (station next : Station) (v : ℕ) (flow : Flow) {before middle after : Locals} {stepped : Stepped} → enters_value next ≡ station_move bound s station v flow → middle ≡ station_leaves s station v before
    → EnteredValue s next middle stepped after → Steps bound s station v flow before stepped after
step_value bound s station next v flow {before} {middle} {stepped} is left inner =
    record {
      same = λ p n depth. alike_alike (step_moves bound s station v flow before middle (enters_value next) is left p n depth) (inner.same p n bound depth);
      near = step_lower bound s (station_rank bound s next) (station_rank bound s station) stepped (inner.near bound) (falls_by bound s station v flow (enters_value next) is);
    }

pub step_part : (bound : ℕ) (s : ScopedStatement) (station next : Station) (v : ℕ) (flow : Flow) {before middle after : Locals} {stepped : Stepped} → enters_part next ≡ station_move bound s station v flow → middle ≡ station_leaves s station v before
    → EnteredPart bound s next middle stepped after → Steps bound s station v flow before stepped after
step_part bound s station next v flow {before} {middle} {stepped} is left inner =
    record {
      same = λ p n depth. alike_alike (step_moves bound s station v flow before middle (enters_part next) is left p n depth) (inner.same p n depth);
      near = step_lower bound s (station_rank bound s next) (station_rank bound s station) stepped inner.near (falls_by bound s station v flow (enters_part next) is);
    }

-- ---- nearer to the last station

pub on_down : (bound : ℕ) (s : ScopedStatement) (station next : Station) (v : ℕ) (flow : Flow) → moves_on next ≡ station_move bound s station v flow → GoesDown bound s (station_rank bound s station) (again next 0 normal)
on_down bound s station next v flow is = falls_by bound s station v flow (moves_on next) is

stays_down : (bound : ℕ) (s : ScopedStatement) (r : ℕ) (next : Station) (stepped : Stepped) → StaysAt next stepped → station_rank bound s next < r → GoesDown bound s r stepped
stays_down bound s r next (again station v flow) stays low = subst (λ (x : Station). station_rank bound s x < r) (sym stays) low
stays_down bound s r next (stopped reached) stays low = tt

pub value_down : (bound : ℕ) (s : ScopedStatement) (station next : Station) (v : ℕ) (flow : Flow) {before after : Locals} {stepped : Stepped} → enters_value next ≡ station_move bound s station v flow → EnteredValue s next before stepped after
    → GoesDown bound s (station_rank bound s station) stepped
value_down bound s station next v flow {stepped} is inner = stays_down bound s (station_rank bound s station) next stepped inner.stays (falls_by bound s station v flow (enters_value next) is)

pub part_down : (bound : ℕ) (s : ScopedStatement) (station next : Station) (v : ℕ) (flow : Flow) {before after : Locals} {stepped : Stepped} → enters_part next ≡ station_move bound s station v flow → EnteredPart bound s next before stepped after
    → GoesDown bound s (station_rank bound s station) stepped
part_down bound s station next v flow {stepped} is inner = stays_down bound s (station_rank bound s station) next stepped inner.stays (falls_by bound s station v flow (enters_part next) is)

pub again_down : (bound : ℕ) (s : ScopedStatement) (station next : Station) (v : ℕ) (flow : Flow) (stepped : Stepped) → stepped ≡ again next v flow → GoesDown bound s (station_rank bound s station) stepped
    → station_rank bound s next < station_rank bound s station
again_down bound s station next v flow stepped is down = subst (λ (x : Stepped). GoesDown bound s (station_rank bound s station) x) is down

-- ---- step by step

pub steps_first : (bound : ℕ) (s : ScopedStatement) (station : Station) (v : ℕ) (flow : Flow) (before : Locals) → Steps bound s station v flow before (again station v flow) before
steps_first bound s station v flow before = record { same = λ p n depth. alike_same; near = omega arith }

steps_steps : (bound : ℕ) (s : ScopedStatement) (station now : Station) (v w : ℕ) (flow way : Flow) (before middle after : Locals) (stepped : Stepped)
    → Steps bound s station v flow before (again now w way) middle → Steps bound s now w way middle stepped after → Steps bound s station v flow before stepped after
steps_steps bound s station now v w flow way before middle after stepped one two =
    record {
      same = λ p n depth. alike_alike (one.same p n depth) (two.same p n depth);
      near = step_more bound s (station_rank bound s now * suc (inner_most bound s)) (station_rank bound s station * suc (inner_most bound s)) stepped two.near one.near;
    }

pub steps_next : (bound : ℕ) (s : ScopedStatement) (station now next : Station) (v w u : ℕ) (flow way onward : Flow) (before middle after : Locals) (stepped : Stepped)
    → Steps bound s station v flow before (again now w way) middle → Steps bound s now w way middle stepped after → stepped ≡ again next u onward → Steps bound s station v flow before (again next u onward) after
steps_next bound s station now next v w u flow way onward before middle after stepped one two is =
    subst (λ (x : Stepped). Steps bound s station v flow before x after) is (steps_steps bound s station now v w flow way before middle after stepped one two)

pub steps_come : (bound : ℕ) (s : ScopedStatement) (station now : Station) (v w : ℕ) (flow way : Flow) {before middle after : Locals} {reached : Reached} {stepped : Stepped}
    → Steps bound s station v flow before (again now w way) middle → Steps bound s now w way middle stepped after → stepped ≡ stopped reached → ComesBehind bound s (again station v flow) before reached after
steps_come bound s station now v w flow way {before} {middle} {after} {reached} {stepped} one two is =
    let whole : Steps bound s station v flow before (stopped reached) after = subst (λ (x : Stepped). Steps bound s station v flow before x after) is (steps_steps bound s station now v w flow way before middle after stepped one two) in
    record { same = λ p n depth. whole.same p n depth; near = λ left low. reached_more bound s (station_rank bound s station * suc (inner_most bound s)) left reached whole.near low }
