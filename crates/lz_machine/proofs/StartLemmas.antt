-- A thread before its first action may do just the traces of its function, with Loc left out.
use Rattle.std.proofs.Common.{◌≡◌, ℕ, zero, suc, ◌-◌, ◌≤◌, inl, inr, Bool, List, [], ◌∷◌, refl, sym, subst, arith}
use Rattle.lz_tree.specs.ScopedTrees.{ScopedProgram}
use Rattle.lz_model.specs.Actions.{Act}
use Rattle.lz_model.specs.Behaviours.{done, exits, cut, ends_with, ◌and_then◌}
use Rattle.lz_model.specs.CodeTraces.{in_frame}
use Rattle.lz_model.specs.Programs.{calls_within, begun, EndsThread, is_cut, is_done, is_left, IsThreadTrace}
use Rattle.lz_model.specs.WithoutLoc.{IsSeen}
use Rattle.lz_model.proofs.FrontsLemmas.{fronts_frame, fronts_calls}
use Rattle.lz_turns.specs.Seen.{Alike}
use Rattle.lz_turns.proofs.SeenLemmas.{alike_ends}
use Rattle.lz_stations.specs.Stations.{at_station, start}
use Rattle.lz_machine.specs.Threads.{Frame, frame_trace, frames_trace, going, outside, MayDo}
use Rattle.lz_machine.specs.Turns.{running_with}
use Rattle.lz_machine.proofs.ActionsLemmas.{acts_leads}
use Rattle.lz_machine.proofs.DepthLemmas.{deeper_covers}

-- a call that has begun
abbrev begins : ℕ → List ℕ → Frame
begins function arguments = record { function = function; footing = at_station start; values = arguments }

module _ (p : ScopedProgram) (n function : ℕ) (arguments : List ℕ) (whole : Bool) where
  -- a function, in a frame of its own
  framed : (depth : ℕ) (full : List Act) → EndsThread ((calls_within p n depth).does function) (begun arguments) whole full → EndsThread (in_frame arguments ((calls_within p n depth).does function)) (outside []) whole full
  framed depth full (is_cut h) = is_cut (record { is = h })
  framed depth full (is_done front after v h k) = is_done front _ v (record { is = (after, h, refl) }) k
  framed depth full (is_left front w h k) = is_left front w (record { is = h }) k

  unframed : (depth : ℕ) (full : List Act) → EndsThread (in_frame arguments ((calls_within p n depth).does function)) (outside []) whole full → EndsThread ((calls_within p n depth).does function) (begun arguments) whole full
  unframed depth full (is_cut h) = is_cut h.is
  unframed depth full (is_done front after v h k) = is_done front h.is.0 v h.is.1 k
  unframed depth full (is_left front w h k) = is_left front w h.is k

  -- the innermost call alone
  alone_at : (depth : ℕ) → Alike (in_frame arguments ((calls_within p n depth).does function)) (outside []) (in_frame arguments (frame_trace p n depth (begins function arguments) 0) and_then λ w. ends_with w) (outside [])
  alone_at zero = alike_ends (fronts_frame ((fronts_calls p n zero).fronts function)) (outside [])
  alone_at (suc depth) = alike_ends (fronts_frame ((fronts_calls p n (suc depth)).fronts function)) (outside [])

  alone : (depth : ℕ) → Alike (in_frame arguments ((calls_within p n depth).does function)) (outside []) (frames_trace p n depth (begins function arguments ∷ []) 0) (outside [])
  alone depth =
      let e : depth ≡ depth - 0 = omega arith in
      subst (λ (m : ℕ). Alike (in_frame arguments ((calls_within p n depth).does function)) (outside []) (in_frame arguments (frame_trace p n m (begins function arguments) 0) and_then λ w. ends_with w) (outside [])) e (alone_at depth)

  deeper : (depth deep : ℕ) → depth ≤ deep → (full : List Act) → EndsThread ((calls_within p n depth).does function) (begun arguments) whole full → EndsThread ((calls_within p n deep).does function) (begun arguments) whole full
  deeper depth deep h full (is_cut x) = is_cut ((deeper_covers p n depth deep h function).covers _ full cut x)
  deeper depth deep h full (is_done front after v x k) = is_done front after v ((deeper_covers p n depth deep h function).covers _ front (done after v) x) k
  deeper depth deep h full (is_left front w x k) = is_left front w ((deeper_covers p n depth deep h function).covers _ front (exits w) x) k

  pub starts_there : (list : List Act) → MayDo p n (record { standing = going (running_with (begins function arguments ∷ []) [] 0 1); whole = whole }) list → IsSeen (IsThreadTrace p n function arguments whole) list
  starts_there list (inl e) = record { full = []; does = record { depth = 0; does = is_cut (record { is = refl }); numbered = tt }; seen = sym e }
  starts_there [] (inr c) = record { full = []; does = record { depth = 0; does = is_cut (record { is = refl }); numbered = tt }; seen = refl }
  starts_there (first ∷ rest) (inr c) =
      let reach : c.least ≤ c.least = omega arith in
      elim (acts_leads (alone c.least).back whole 1 (first ∷ rest) (c.does c.least reach)) [
        | inl e ↦ absurd cc
        | inr a ↦ record { full = a.full; does = record { depth = c.least; does = unframed c.least a.full a.does; numbered = a.numbered }; seen = a.seen }
      ]

  pub starts_back : (list : List Act) → IsSeen (IsThreadTrace p n function arguments whole) list → MayDo p n (record { standing = going (running_with (begins function arguments ∷ []) [] 0 1); whole = whole }) list
  starts_back [] is = inl refl
  starts_back (first ∷ rest) is =
      inr (record {
        least = is.does.depth;
        does = λ depth h. elim (acts_leads (alone depth).there whole 1 (first ∷ rest)
            (record { full = is.full; does = framed depth is.full (deeper is.does.depth depth h is.full is.does.does); numbered = is.does.numbered; seen = is.seen })) [
              | inl e ↦ absurd cc
              | inr a ↦ a
            ];
      })
