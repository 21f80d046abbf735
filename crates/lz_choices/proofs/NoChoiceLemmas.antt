-- A run of a program without a choice has one schedule: main goes on, and chooses nothing.
use Rattle.std.proofs.Common.{◌≡◌, ℕ, Bool, true, false, List, [], ◌∷◌, ◌++◌, length, replicate, Some, None, ◌∙◌, ap, subst}
use Rattle.lz_tree.specs.ScopedTrees.{ScopedProgram}
use Rattle.lz_model.specs.declared.actions.Event.{Event}
use Rattle.lz_model.specs.declared.schedule.Step.{Step}
use Rattle.lz_model.specs.Actions.{Act}
use Rattle.lz_model.specs.Behaviours.{done, exits, cut, Behaviour}
use Rattle.lz_model.specs.Interleavings.{part, IsRun}
use Rattle.lz_model.specs.BrokenRuns.{Follows}
use Rattle.lz_model.specs.Programs.{begun, end_of, EndsThread, is_cut, is_done, is_left, IsThreadTrace, process_of}
use Rattle.lz_choices.specs.Choices.{first_choice}
use Rattle.lz_choices.specs.MainAlone.{main_step}
use Rattle.lz_choices.proofs.CalmLemmas.{walk, walk_join, Calm}
use Rattle.lz_choices.proofs.CalmCodeLemmas.{calm_calls}
use Rattle.lz_choices.proofs.MainAloneLemmas.{alone_first, alone_run}

ended : (acts front : List Act) (whole : Bool) → walk false front ≡ Some false → acts ≡ front ++ end_of whole ∷ [] → walk false acts ≡ Some false
ended acts front whole h e = ap (walk false) e ∙ walk_join front (end_of whole ∷ []) false false h

-- calm code and the end of its thread
calm_thread : {S A : Type 0} (code : Behaviour S A) (before : S) (whole : Bool) (acts : List Act) → Calm code → EndsThread code before whole acts → (b : Bool) × (walk false acts ≡ Some b)
calm_thread code before whole acts p (is_cut h) = p.calm before acts cut h
calm_thread code before whole acts p (is_done front after v h e) = (false, ended acts front whole (p.calm before front (done after v) h) e)
calm_thread code before whole acts p (is_left front w h e) = (false, ended acts front w (p.calm before front (exits w) h) e)

-- what main does
calm_main : (p : ScopedProgram) (n : ℕ) (acts : List Act) → first_choice p ≡ None → IsThreadTrace p n p.main [] true acts → (b : Bool) × (walk false acts ≡ Some b)
calm_main p n acts none is = calm_thread _ (begun []) true acts ((calm_calls p none n is.depth).calm p.main) is.does

-- the schedule of a run of a program without a choice
pub only_main_steps : (p : ScopedProgram) (n : ℕ) (run : List Event) (schedule : List Step) → first_choice p ≡ None → IsRun (process_of p n) run → Follows run schedule
    → schedule ≡ replicate (length schedule) main_step
only_main_steps p n run schedule none is follows =
    let does = calm_main p n (part 0 run) none (is.parts 0) in
    subst (λ (steps : List Step). steps ≡ replicate (length steps) main_step) follows
    (alone_run run (process_of p n).begins false does.0 (alone_first p.cells p.mutexes) does.1 is.goes)
