-- From a broken run that fits the blocks to guesses and inputs that drive it.
use Rattle.std.proofs.Common.{◌≡◌, ℕ, zero, suc, ◌+◌, ◌≤◌, ◌<◌, Bool, true, false, cond, List, [], ◌∷◌, length, drop, nat_lt, refl, sym, ◌∙◌, ap, subst, arith}
use Rattle.std.specs.Prelude.{slice_index, slice_set}
use Rattle.std.proofs.lemmas.List.{length-set, get_or-set_same, set-get_or}
use Rattle.std.proofs.lemmas.Bool.{lt-ltb, le-ltb}
use Rattle.lz_base.specs.declared.word.BreakKind.{BreakKind}
use Rattle.lz_base.proofs.DescentsLemmas.{Fits, nothing, stay, next}
use Rattle.lz_flat.specs.FlatRuns.{Ran, went, held, breaks, ended, onward, step_from, step, below, Course, going, broken, course, course_behind, block_behind}
use Rattle.lz_flat.specs.Instructions.{did}
use Rattle.lz_flat.specs.Programs.{MarkedInstruction, FlatProgram, code_of}
use Rattle.lz_flat.specs.WellFormed.{BeginsVisible}
use Rattle.lz_flat.proofs.DrivenLemmas.{set_twice}
use Rattle.lz_flat.proofs.InputsLemmas.{block_same}
use Rattle.lz_flat.proofs.LandingLemmas.{drop-next, Lands, step_lands}
use Rattle.lz_flat.proofs.RoundsLemmas.{AreThreads}
use Rattle.lz_lazy.proofs.OnePassLemmas.{pass, carried, through, behind_carried, below_is_pass}
use Rattle.lz_lazy.proofs.DrivingLemmas.{AllStand, stand_after}

-- ---- the first step of a pass

-- a pass below the guess begins with a step
pub pass_steps : (guess : ℕ) (input : ℕ → ℕ) (code part : List MarkedInstruction) (l : ℕ) (memory : List ℕ) → drop l code ≡ part → BeginsVisible part → nat_lt l guess ≡ true
    → (step_from input l part memory ≡ ended → ⊥) → pass guess input l part 0 memory ≡ carried guess input code (step_from input l part memory)
unfolding pass
pass_steps guess input code [] l memory e begin lt real = absurd (real refl)
pass_steps guess input code (first ∷ rest) l memory e begin lt real =
    rw (begin, lt) (behind_carried guess input code (did first.instr (input l) memory) (pass guess input (suc l) rest) (onward input (suc l) rest)
    (λ over m. through guess input code rest (suc l) over m (drop-next code l first rest e)))

-- a pass at the guess goes nowhere
pub pass_stops : (guess : ℕ) (input : ℕ → ℕ) (part : List MarkedInstruction) (l : ℕ) (memory : List ℕ) → BeginsVisible part → nat_lt l guess ≡ false
    → pass guess input l part 0 memory ≡ went l memory
unfolding pass
pass_stops guess input [] l memory begin lt = ap (λ (n : ℕ). went n memory) (let z : l + 0 ≡ l = omega arith in z)
pass_stops guess input (first ∷ rest) l memory begin lt = rw (begin, lt) refl

-- the pass from a place, as steps below the guess
at_once : (guess : ℕ) (input : ℕ → ℕ) (code : List MarkedInstruction) (place : ℕ) (memory : List ℕ) → BeginsVisible (drop place code)
    → below (length code) guess input code place memory ≡ pass guess input place (drop place code) 0 memory
at_once guess input code place memory begin = below_is_pass (length code) guess input code place memory begin (omega arith)

-- where a step leads, the pass goes on from there
stepped_pass : (guess : ℕ) (input : ℕ → ℕ) (code : List MarkedInstruction) (place : ℕ) (memory : List ℕ) (r : Ran) → BeginsVisible (drop place code) → nat_lt place guess ≡ true
    → step input code place memory ≡ r → (r ≡ ended → ⊥) → pass guess input place (drop place code) 0 memory ≡ carried guess input code r
unfolding step
stepped_pass guess input code place memory r begin lt e real =
    pass_steps guess input code (drop place code) place memory refl begin lt (λ h. real (sym e ∙ h)) ∙ ap (carried guess input code) e

-- a guess for one step more before a block with the guess that is given
abbrev pub widened : ℕ → ℕ → ℕ → ℕ
widened place next_place guess = cond (nat_lt place guess) guess next_place

-- one step more is a greater guess
pub one_step_more : (input : ℕ → ℕ) (code : List MarkedInstruction) (place : ℕ) (memory : List ℕ) (next_place : ℕ) (next_memory : List ℕ) (guess : ℕ)
    → BeginsVisible (drop place code) → step input code place memory ≡ went next_place next_memory
    → below (length code) (widened place next_place guess) input code place memory ≡ below (length code) guess input code next_place next_memory
one_step_more input code place memory next_place next_memory guess begin e =
    at_once (widened place next_place guess) input code place memory begin ∙ decide (nat_lt place guess) refl
    ∙ sym (at_once guess input code next_place next_memory lands.stands)
  where
    lands : Lands code (suc place) next_place
    lands = step_lands input code place memory next_place next_memory e

    real : went next_place next_memory ≡ ended → ⊥
    real h = cc

    decide : (b : Bool) → nat_lt place guess ≡ b → pass (cond b guess next_place) input place (drop place code) 0 memory ≡ pass guess input next_place (drop next_place code) 0 next_memory
    decide true lt = stepped_pass guess input code place memory (went next_place next_memory) begin lt e real
    decide false lt =
        stepped_pass next_place input code place memory (went next_place next_memory) begin (lt-ltb place next_place (lands.forward)) e real
        ∙ pass_stops next_place input (drop next_place code) next_place next_memory lands.stands (le-ltb next_place next_place (omega arith))
        ∙ sym (pass_stops guess input (drop next_place code) next_place next_memory lands.stands (le-ltb next_place guess (high lt)))
      where
        high : nat_lt place guess ≡ false → guess ≤ next_place
        high lt = let f = lands.forward in let g : guess ≤ place = grind arith in omega arith

-- a step that breaks is a guess one above its place
pub last_step : (input : ℕ → ℕ) (code : List MarkedInstruction) (place : ℕ) (memory : List ℕ) (kind : BreakKind) (line : ℕ) → BeginsVisible (drop place code) → step input code place memory ≡ breaks kind line
    → below (length code) (suc place) input code place memory ≡ breaks kind line
last_step input code place memory kind line begin e =
    at_once (suc place) input code place memory begin ∙ stepped_pass (suc place) input code place memory (breaks kind line) begin (lt-ltb place (suc place) (omega arith)) e (λ h. cc)

-- below the guess 0 there are no steps
no_steps : (most : ℕ) (input : ℕ → ℕ) (code : List MarkedInstruction) (place : ℕ) (memory : List ℕ) → below most 0 input code place memory ≡ went place memory
unfolding below
no_steps zero input code place memory = refl
no_steps (suc most) input code place memory = rw (le-ltb place 0 (omega arith)) refl

-- ---- blocks with guesses, each thread with its own inputs

-- the drive by a list of guesses, where each thread has inputs of its own
unfoldable pub guided : FlatProgram → (ℕ → ℕ → ℕ) → List ℕ → List ℕ → List ℕ → List ℕ → Course
guided flat inputs guesses [] places memory = going places memory
guided flat inputs guesses (thread ∷ rest) places memory =
    block_behind (below (length (code_of flat thread)) (slice_index guesses 0) (inputs thread) (code_of flat thread) (slice_index places thread) memory)
    (λ place. guided flat inputs (drop 1 guesses) rest (slice_set places thread place))

-- some guesses drive a break through these blocks
abbrev Guided : FlatProgram → (ℕ → ℕ → ℕ) → List ℕ → List ℕ → List ℕ → BreakKind → ℕ → Type 0
Guided flat inputs bs places memory kind line = (guesses : List ℕ) × (guided flat inputs guesses bs places memory ≡ broken kind line)

-- no step in the block
idle_block : (flat : FlatProgram) (inputs : ℕ → ℕ → ℕ) (thread : ℕ) (bs places memory : List ℕ) (kind : BreakKind) (line : ℕ) → Guided flat inputs bs places memory kind line → Guided flat inputs (thread ∷ bs) places memory kind line
unfolding guided
idle_block flat inputs thread bs places memory kind line later = (
  0 ∷ later.0,
  rw (no_steps (length (code_of flat thread)) (inputs thread) (code_of flat thread) (slice_index places thread) memory, set-get_or places thread 0) later.1,
)

-- one step more in the block
more_block : (flat : FlatProgram) (inputs : ℕ → ℕ → ℕ) (thread : ℕ) (bs places memory : List ℕ) (place : ℕ) (next_memory : List ℕ) (kind : BreakKind) (line : ℕ) → thread < length places → AllStand flat places
    → step (inputs thread) (code_of flat thread) (slice_index places thread) memory ≡ went place next_memory
    → Guided flat inputs (thread ∷ bs) (slice_set places thread place) next_memory kind line → Guided flat inputs (thread ∷ bs) places memory kind line
unfolding guided
more_block flat inputs thread bs places memory place next_memory kind line lt all e later =
    let code = code_of flat thread in
    let here : slice_index (slice_set places thread place) thread ≡ place = get_or-set_same places thread place 0 lt in (
      widened (slice_index places thread) place (slice_index later.0 0) ∷ drop 1 later.0,
      rw (one_step_more (inputs thread) code (slice_index places thread) memory place next_memory (slice_index later.0 0) (all thread) e)
          (block_same (below (length code) (slice_index later.0 0) (inputs thread) code place next_memory)
          (λ q. guided flat inputs (drop 1 later.0) bs (slice_set places thread q)) (λ q. guided flat inputs (drop 1 later.0) bs (slice_set (slice_set places thread place) thread q))
          (λ q m. ap (λ (ps : List ℕ). guided flat inputs (drop 1 later.0) bs ps m) (sym (set_twice places thread place q)))
          ∙ (rw here at later.1)),
    )

-- the step that breaks
last_block : (flat : FlatProgram) (inputs : ℕ → ℕ → ℕ) (thread : ℕ) (bs places memory : List ℕ) (kind : BreakKind) (line : ℕ) → AllStand flat places
    → step (inputs thread) (code_of flat thread) (slice_index places thread) memory ≡ breaks kind line → Guided flat inputs (thread ∷ bs) places memory kind line
unfolding guided
last_block flat inputs thread bs places memory kind line all e = (
  suc (slice_index places thread) ∷ [],
  rw (last_step (inputs thread) (code_of flat thread) (slice_index places thread) memory kind line (all thread) e) refl,
)

-- a run that begins with a step of the block's thread is guided where its rest is
by_step : (flat : FlatProgram) (inputs : ℕ → ℕ → ℕ) (thread : ℕ) (run bs places memory : List ℕ) (kind : BreakKind) (line : ℕ) (r : Ran) → thread < length places → AllStand flat places
    → step (inputs thread) (code_of flat thread) (slice_index places thread) memory ≡ r
    → ((place : ℕ) (m : List ℕ) → AllStand flat (slice_set places thread place) → course flat inputs run (slice_set places thread place) m ≡ broken kind line → Guided flat inputs (thread ∷ bs) (slice_set places thread place) m kind line)
    → course_behind r run (λ place. course flat inputs run (slice_set places thread place)) ≡ broken kind line
    → Guided flat inputs (thread ∷ bs) places memory kind line
by_step flat inputs thread run bs places memory kind line (went place m) lt all e later is =
    more_block flat inputs thread bs places memory place m kind line lt all e
    (later place m (stand_after flat places thread place lt all (let lands = step_lands (inputs thread) (code_of flat thread) (slice_index places thread) memory place m e in lands.stands)) is)
by_step flat inputs thread run bs places memory kind line held lt all e later is = absurd cc
by_step flat inputs thread [] bs places memory kind line (breaks k l) lt all e later is =
    let same_kind : k ≡ kind = cc in
    let same_line : l ≡ line = cc in
    last_block flat inputs thread bs places memory kind line all (e ∙ rw (same_kind, same_line) refl)
by_step flat inputs thread (u ∷ run) bs places memory kind line (breaks k l) lt all e later is = absurd cc
by_step flat inputs thread run bs places memory kind line ended lt all e later is = absurd cc

-- guesses for a run that fits
pub guesses_of : (flat : FlatProgram) (inputs : ℕ → ℕ → ℕ) (kind : BreakKind) (line : ℕ) {run bs : List ℕ} → Fits run bs → (places memory : List ℕ) → AreThreads (length places) bs → AllStand flat places
    → course flat inputs run places memory ≡ broken kind line → Guided flat inputs bs places memory kind line
unfolding course
guesses_of flat inputs kind line nothing places memory are all is = absurd cc
guesses_of flat inputs kind line (stay {thread = thread} {run = run} {bs = bs} fits) places memory are all is =
    by_step flat inputs thread run bs places memory kind line (step (inputs thread) (code_of flat thread) (slice_index places thread) memory) are.0 all refl
    (λ place m stand broken_later. guesses_of flat inputs kind line fits (slice_set places thread place) m
    (subst (λ (t : ℕ). AreThreads t (thread ∷ bs)) (sym (length-set places thread place)) are) stand broken_later) is
guesses_of flat inputs kind line (next {thread = thread} {run = run} {bs = bs} fits) places memory are all is =
    idle_block flat inputs thread bs places memory kind line (guesses_of flat inputs kind line fits places memory are.1 all is)
