-- One turn of a thread: the innermost call comes so far, and what the thread may do is what it may do there.
use Rattle.std.proofs.Common.{◌≡◌, ℕ, zero, suc, ◌-◌, inl, inr, false, List, [], ◌∷◌, length, refl, sym, subst, arith}
use Rattle.lz_base.specs.declared.word.IntType.{IntType}
use Rattle.lz_tree.specs.ScopedTrees.{ScopedProgram}
use Rattle.lz_model.specs.declared.actions.Action.{Action}
use Rattle.lz_model.specs.declared.actions.Action.TheVariants.{Check, Assume}
use Rattle.lz_model.specs.Actions.{Act}
use Rattle.lz_model.specs.Behaviours.{Outcome, done, exits, cut, Behaviour, ends_with, halts, ◌and_then◌, ◌gives◌}
use Rattle.lz_model.specs.CodeTraces.{Locals, Calls, at, does, entered, in_frame, passed, Flow}
use Rattle.lz_model.specs.Programs.{function_at, value_of, calls_within}
use Rattle.lz_model.proofs.FrontsLemmas.{fronts_updates}
use Rattle.lz_turns.specs.Seen.{Alike}
use Rattle.lz_turns.proofs.SeenLemmas.{alike_same, alike_alike, alike_then, alike_behind, alike_value, alike_halts, alike_leaves, alike_assoc}
use Rattle.lz_turns.specs.Stages.{words_of}
use Rattle.lz_stations.specs.Stations.{Footing, at_station, start, Pause, acts, reads, asks, signals, creates, calls_on, Reached, leads, pauses, fails, refuses, quits, stops}
use Rattle.lz_stations.specs.StationTraces.{statement_resumed, paused, behind_reached}
use Rattle.lz_machine.specs.Threads.{Frame, frame_trace, frames_trace, outside}
use Rattle.lz_machine.specs.Turns.{IsPlainReached, turned_trace, handles_behind, IsPausing, Turns, running_with, turned_by}
use Rattle.lz_machine.proofs.FramesLemmas.{alike_exact, alike_under, beyond, alike_frame, frame_value, frame_halts, frame_leaves, Beside, beside_updates, beside_frame, beside_chooses, frame_then}

-- a check or an assumption behind which nothing comes, from any local values
pub last_action : (line : ℕ) (action : Action) (s t : Locals) → Alike {S = Locals} {A = ℕ} (does {A = ℕ} line action zero and_then λ _. halts) s (does {A = ℕ} line action zero and_then λ _. halts) t
last_action line action s t = alike_exact (of s t) (of t s)
  where
    of : (s t : Locals) (full : List Act) (o : Outcome Locals ℕ) → (does {A = ℕ} line action zero and_then λ _. halts) s full o → (does {A = ℕ} line action zero and_then λ _. halts) t full o
    of s t full (done u v) h = absurd h.is.goes.is
    of s t full (exits w) h = elim h.is [ inl x ↦ absurd x.is | inr g ↦ absurd g.goes.is ]
    of s t full cut h = elim h.is [
      | inl x ↦ record { is = inl (record { is = x.is }) }
      | inr g ↦ record { is = inr (record { value = g.value; middle = t; front = g.front; rest = g.rest; joined = g.joined; starts = record { is = (g.starts.is.0, refl, g.starts.is.2) }; goes = record { is = g.goes.is } }) }
    ]

pause_beside : (calls : Calls) (pause : Pause) → Beside (paused calls pause)
pause_beside calls (acts action line) = beside_updates _ _
pause_beside calls (reads cell line) = beside_chooses _ _ (λ v. beside_updates _ _)
pause_beside calls (asks line kind) = beside_chooses _ _ (λ v. beside_updates _ _)
pause_beside calls (signals cond line) = beside_chooses _ _ (λ v. beside_updates _ _)
pause_beside calls (creates routine value line) = beside_chooses _ _ (λ v. beside_updates _ _)
pause_beside calls (calls_on function kinds values) = beside_frame _ _

module _ (p : ScopedProgram) (n : ℕ) where
  -- a call that has begun: its frame
  abbrev called : ℕ → List IntType → List ℕ → Frame
  called function kinds arguments = record { function = function; footing = at_station start; values = passed kinds (function_at p function).params arguments }

  call_is : (depth function : ℕ) (kinds : List IntType) (arguments : List ℕ) (next : ℕ → Behaviour Locals ℕ) (s : Locals)
      → Alike (paused (calls_within p n depth) (calls_on function kinds arguments) and_then next) s (in_frame (called function kinds arguments).values (frame_trace p n depth (called function kinds arguments) 0) and_then next) s
  call_is zero function kinds arguments next s = alike_same
  call_is (suc depth) function kinds arguments next s = alike_same

  -- the innermost call comes so far, and the others wait
  within_so : (depth own : ℕ) (frame : Frame) (callers : List Frame) (h k : ℕ → ℕ) (v : ℕ) (values : List ℕ) (reached : Reached) → depth - length callers ≡ suc own
      → Alike (statement_resumed (calls_within p n own) n (function_at p frame.function).body frame.footing v) (entered frame.values (beyond h))
      (behind_reached (calls_within p n own) n (function_at p frame.function).body reached) (entered values (beyond k))
      → Alike (frames_trace p n depth (frame ∷ callers) v) (beyond h)
      (in_frame values (behind_reached (calls_within p n own) n (function_at p frame.function).body reached gives value_of (function_at p frame.function).gives) and_then λ w. frames_trace p n depth callers w) (beyond k)
  within_so depth own frame callers h k v values reached e a =
      let g = value_of (function_at p frame.function).gives in
      let rest : ℕ → Behaviour Locals ℕ = λ w. frames_trace p n depth callers w in
      subst (λ (m : ℕ). Alike (in_frame frame.values (frame_trace p n m frame v) and_then rest) (beyond h)
      (in_frame values (behind_reached (calls_within p n own) n (function_at p frame.function).body reached gives g) and_then rest) (beyond k)) (sym e)
      (alike_then (alike_frame frame.values values h k (alike_under a g)) rest)

  -- behind a pause the innermost call goes on
  pause_so : (own function : ℕ) (footing : Footing) (values : List ℕ) (pause : Pause) (rest : ℕ → Behaviour Locals ℕ) (k : ℕ → ℕ)
      → Alike (in_frame values ((paused (calls_within p n own) pause and_then λ v. statement_resumed (calls_within p n own) n (function_at p function).body footing v) gives value_of (function_at p function).gives) and_then rest) (beyond k)
      (paused (calls_within p n own) pause and_then λ w. in_frame values (frame_trace p n (suc own) (record { function = function; footing = footing; values = values }) w) and_then rest) (beyond k)
  pause_so own function footing values pause rest k = alike_alike (alike_then (frame_then (pause_beside (calls_within p n own) pause) values _ (value_of (function_at p function).gives) k) rest) alike_assoc

  pausing_so : (depth own function : ℕ) (footing : Footing) (values : List ℕ) (pause : Pause) (callers : List Frame) (k : ℕ → ℕ) → depth - length callers ≡ suc own
      → Alike (in_frame values ((paused (calls_within p n own) pause and_then λ v. statement_resumed (calls_within p n own) n (function_at p function).body footing v) gives value_of (function_at p function).gives) and_then λ w. frames_trace p n depth callers w) (beyond k)
      (paused (calls_within p n own) pause and_then λ w. frames_trace p n depth (record { function = function; footing = footing; values = values } ∷ callers) w) (beyond k)
  pausing_so depth own function footing values pause callers k e =
      let calls = calls_within p n own in
      let rest : ℕ → Behaviour Locals ℕ = λ w. frames_trace p n depth callers w in
      let before : Behaviour Locals ℕ = in_frame values ((paused calls pause and_then λ v. statement_resumed calls n (function_at p function).body footing v) gives value_of (function_at p function).gives) and_then rest in
      subst (λ (m : ℕ). Alike before (beyond k) (paused calls pause and_then λ w. in_frame values (frame_trace p n m (record { function = function; footing = footing; values = values }) w) and_then rest) (beyond k)) (sym e)
      (pause_so own function footing values pause rest k)

  calling_so : (depth own function : ℕ) (footing : Footing) (values : List ℕ) (callee : ℕ) (kinds : List IntType) (arguments : List ℕ) (callers : List Frame) (k : ℕ → ℕ) → depth - length callers ≡ suc own → depth - suc (length callers) ≡ own
      → Alike (in_frame values ((paused (calls_within p n own) (calls_on callee kinds arguments) and_then λ v. statement_resumed (calls_within p n own) n (function_at p function).body footing v) gives value_of (function_at p function).gives) and_then λ w. frames_trace p n depth callers w) (beyond k)
      (frames_trace p n depth (called callee kinds arguments ∷ record { function = function; footing = footing; values = values } ∷ callers) 0) (beyond k)
  calling_so depth own function footing values callee kinds arguments callers k e d =
      let calls = calls_within p n own in
      let mine : Frame = record { function = function; footing = footing; values = values } in
      let before : Behaviour Locals ℕ = in_frame values ((paused calls (calls_on callee kinds arguments) and_then λ v. statement_resumed calls n (function_at p function).body footing v) gives value_of (function_at p function).gives) and_then λ w. frames_trace p n depth callers w in
      subst (λ (m : ℕ). Alike before (beyond k) (in_frame (called callee kinds arguments).values (frame_trace p n m (called callee kinds arguments) 0) and_then λ w. frames_trace p n depth (mine ∷ callers) w) (beyond k)) (sym d)
      (alike_alike (pausing_so depth own function footing values (calls_on callee kinds arguments) callers k e) (call_is own callee kinds arguments (λ w. frames_trace p n depth (mine ∷ callers) w) (beyond k)))

  -- behind a last action nothing comes
  last_so : (own : ℕ) (values : List ℕ) (line : ℕ) (action : Action) (g : Flow → ℕ) (rest : ℕ → Behaviour Locals ℕ) (k : ℕ → ℕ) (t : Locals)
      → Alike (in_frame values ((does {A = ℕ} line action zero and_then λ _. halts) gives g) and_then rest) (beyond k) (does {A = ℕ} line action zero and_then λ _. halts) t
  last_so own values line action g rest k t =
      alike_alike (alike_then (frame_then (beside_updates (at line action) zero) values (λ _. halts) g k) rest)
      (alike_alike alike_assoc
      (alike_alike (alike_behind fronts_updates (λ v s. alike_alike (alike_then (frame_halts values g s s) rest) alike_halts) (beyond k)) (last_action line action (beyond k) t)))

  -- where the innermost call came so far, the thread came so far
  reached_so : (depth own function : ℕ) (values : List ℕ) (callers : List Frame) (handles : List ℕ) (made : ℕ) (reached : Reached) → depth - length callers ≡ suc own → depth - suc (length callers) ≡ own
      → Alike (in_frame values (behind_reached (calls_within p n own) n (function_at p function).body reached gives value_of (function_at p function).gives) and_then λ w. frames_trace p n depth callers w) (outside handles)
      (turned_trace p n depth (turned_by p (function_at p function).gives function values callers handles made reached)) (outside (handles_behind (turned_by p (function_at p function).gives function values callers handles made reached)))
  reached_so depth own function values [] handles made (leads flow) e d =
      let g = value_of (function_at p function).gives in
      let rest : ℕ → Behaviour Locals ℕ = λ w. ends_with w in
      alike_alike (alike_then (frame_value values flow g (words_of handles)) rest) alike_value
  reached_so depth own function values (frame ∷ callers) handles made (leads flow) e d =
      let g = value_of (function_at p function).gives in
      let rest : ℕ → Behaviour Locals ℕ = λ w. frames_trace p n depth (frame ∷ callers) w in
      alike_alike (alike_then (frame_value values flow g (words_of handles)) rest) alike_value
  reached_so depth own function values callers handles made (pauses (acts action line) footing) e d = pausing_so depth own function footing values (acts action line) callers (words_of handles) e
  reached_so depth own function values callers handles made (pauses (reads cell line) footing) e d = pausing_so depth own function footing values (reads cell line) callers (words_of handles) e
  reached_so depth own function values callers handles made (pauses (asks line kind) footing) e d = pausing_so depth own function footing values (asks line kind) callers (words_of handles) e
  reached_so depth own function values callers handles made (pauses (signals cond line) footing) e d = pausing_so depth own function footing values (signals cond line) callers (words_of handles) e
  reached_so depth own function values callers handles made (pauses (creates routine value line) footing) e d = pausing_so depth own function footing values (creates routine value line) callers (words_of handles) e
  reached_so depth own function values callers handles made (pauses (calls_on callee kinds arguments) footing) e d = calling_so depth own function footing values callee kinds arguments callers (words_of handles) e d
  reached_so depth own function values callers handles made (fails kind line) e d = last_so own values line (Check 0 kind) _ _ (words_of handles) (outside [])
  reached_so depth own function values callers handles made (refuses line) e d = last_so own values line (Assume 0) _ _ (words_of handles) (outside [])
  reached_so depth own function values callers handles made quits e d =
      let g = value_of (function_at p function).gives in
      let rest : ℕ → Behaviour Locals ℕ = λ w. frames_trace p n depth callers w in
      alike_alike (alike_then (frame_leaves values false g (outside handles) (outside [])) rest) (alike_leaves false rest (outside []))
  reached_so depth own function values callers handles made stops e d =
      let g = value_of (function_at p function).gives in
      let rest : ℕ → Behaviour Locals ℕ = λ w. frames_trace p n depth callers w in
      alike_alike (alike_then (frame_halts values g (outside handles) (outside [])) rest) alike_halts

  pausing_fits : (function : ℕ) (values : List ℕ) (callers : List Frame) (handles : List ℕ) (made : ℕ) (reached : Reached) → IsPlainReached reached → IsPausing (turned_by p (function_at p function).gives function values callers handles made reached) made
  pausing_fits function values [] handles made (leads flow) h = tt
  pausing_fits function values (frame ∷ callers) handles made (leads flow) h = refl
  pausing_fits function values callers handles made (pauses (acts action line) footing) h = (h, refl)
  pausing_fits function values callers handles made (pauses (reads cell line) footing) h = (tt, refl)
  pausing_fits function values callers handles made (pauses (asks line kind) footing) h = (tt, refl)
  pausing_fits function values callers handles made (pauses (signals cond line) footing) h = (tt, refl)
  pausing_fits function values callers handles made (pauses (creates routine value line) footing) h = (tt, refl)
  pausing_fits function values callers handles made (pauses (calls_on callee kinds arguments) footing) h = refl
  pausing_fits function values callers handles made (fails kind line) h = tt
  pausing_fits function values callers handles made (refuses line) h = tt
  pausing_fits function values callers handles made quits h = tt
  pausing_fits function values callers handles made stops h = tt

  -- one turn
  pub one_turn : (frame : Frame) (callers : List Frame) (handles more : List ℕ) (v made : ℕ) (values : List ℕ) (reached : Reached) → IsPlainReached reached
      → ((depth : ℕ) → Alike (statement_resumed (calls_within p n depth) n (function_at p frame.function).body frame.footing v) (entered frame.values (outside handles)) (behind_reached (calls_within p n depth) n (function_at p frame.function).body reached) (entered values (outside more)))
      → Turns p n (running_with (frame ∷ callers) handles v made) (turned_by p (function_at p frame.function).gives frame.function values callers more made reached)
  one_turn frame callers handles more v made values reached plain advanced = record {
    least = suc (length callers);
    same = λ depth at_least.
        let own = depth - suc (length callers) in
        let e : depth - length callers ≡ suc own = omega (arith, at_least) in
        alike_alike (within_so depth own frame callers (words_of handles) (words_of more) v values reached e (advanced own)) (reached_so depth own frame.function values callers more made reached e refl);
    fits = pausing_fits frame.function values callers more made reached plain;
  }
