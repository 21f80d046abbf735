-- Some inputs drive a break exactly where a run of at most so many rounds breaks.
use Rattle.std.proofs.Common.{◌≡◌, ℕ, zero, suc, ◌≤◌, ◌<◌, Bool, true, false, List, [], ◌∷◌, length, nat_lt, refl, ◌∙◌, ap, arith}
use Rattle.std.specs.Prelude.{slice_index, slice_set, slice_index_or, ◌↔◌}
use Rattle.std.proofs.lemmas.List.{drop_all}
use Rattle.lz_base.specs.Words.{value_bound}
use Rattle.lz_base.specs.declared.word.BreakKind.{BreakKind}
use Rattle.lz_flat.specs.FlatRuns.{Ran, went, held, breaks, ended, step_from, step, Course, broken, course, course_behind, blocks, opening, FlatBroken, DrivesBreak}
use Rattle.lz_flat.specs.DrivenRuns.{run_of, inputs_of_run}
use Rattle.lz_flat.specs.Programs.{MarkedInstruction, FlatProgram, code_of}
use Rattle.lz_flat.specs.WellFormed.{IsWellMarked}
use Rattle.lz_flat.proofs.DrivenLemmas.{run_breaks}
use Rattle.lz_flat.proofs.RoundsLemmas.{AreThreads, opening_threads, fits_rounds}
use Rattle.lz_lazy.proofs.DrivingLemmas.{opening_stands}
use Rattle.lz_lazy.proofs.GuessingLemmas.{guesses_of}
use Rattle.lz_lazy.proofs.InputsLemmas.{inputs_of, driven_guided, inputs_small}

-- ---- existence

-- past the last thread there is no code
no_code : (xs : List (List MarkedInstruction)) (k : ℕ) → length xs ≤ k → slice_index_or xs k [] ≡ []
no_code [] zero h = refl
no_code [] (suc k) h = refl
no_code (x ∷ xs) zero h = absurd (let z : ⊥ = omega arith in z)
no_code (x ∷ xs) (suc k) h = no_code xs k (omega arith)

-- a thread without code takes no step
none_steps : (input : ℕ → ℕ) (code : List MarkedInstruction) (place : ℕ) (memory : List ℕ) → code ≡ [] → step input code place memory ≡ ended
unfolding step
none_steps input code place memory e = ap (λ (part : List MarkedInstruction). step_from input place part memory) (drop_all place code (let l : length code ≡ 0 = ap length e in omega arith))

-- before a break no thread has ended
behind_real : (r : Ran) (rest : List ℕ) (onwards : ℕ → List ℕ → Course) (kind : BreakKind) (line : ℕ) → course_behind r rest onwards ≡ broken kind line → r ≡ ended → ⊥
behind_real (went place m) rest onwards kind line e h = cc
behind_real held rest onwards kind line e h = cc
behind_real (breaks k l) rest onwards kind line e h = cc
behind_real ended rest onwards kind line e h = cc

-- a thread with code is one of the program's
is_thread : (flat : FlatProgram) (thread : ℕ) → (code_of flat thread ≡ [] → ⊥) → thread < length flat.threads
is_thread flat thread h = decide (nat_lt thread (length flat.threads)) refl
  where
    decide : (b : Bool) → nat_lt thread (length flat.threads) ≡ b → thread < length flat.threads
    decide true e = grind arith
    decide false e = absurd (h (no_code flat.threads thread (let z : length flat.threads ≤ thread = grind arith in z)))

-- behind a step of a run that breaks come threads of the program
rest_breaks : (r : Ran) (rest : List ℕ) (onwards : ℕ → List ℕ → Course) (kind : BreakKind) (line threads : ℕ) → ((place : ℕ) (m : List ℕ) → onwards place m ≡ broken kind line → AreThreads threads rest) → course_behind r rest onwards ≡ broken kind line → AreThreads threads rest
rest_breaks (went place m) rest onwards kind line threads h e = h place m e
rest_breaks held rest onwards kind line threads h e = absurd cc
rest_breaks (breaks k l) [] onwards kind line threads h e = tt
rest_breaks (breaks k l) (u ∷ rest) onwards kind line threads h e = absurd cc
rest_breaks ended rest onwards kind line threads h e = absurd cc

-- a run that breaks has steps of the program's threads alone
run_threads : (flat : FlatProgram) (inputs : ℕ → ℕ → ℕ) (run places memory : List ℕ) (kind : BreakKind) (line : ℕ) → course flat inputs run places memory ≡ broken kind line → AreThreads (length flat.threads) run
unfolding course
run_threads flat inputs [] places memory kind line e = tt
run_threads flat inputs (thread ∷ rest) places memory kind line e =
    let code = code_of flat thread in (
      is_thread flat thread (λ none. behind_real (step (inputs thread) code (slice_index places thread) memory) rest (λ place. course flat inputs rest (slice_set places thread place)) kind line e (none_steps (inputs thread) code (slice_index places thread) memory none)),
      rest_breaks (step (inputs thread) code (slice_index places thread) memory) rest (λ place. course flat inputs rest (slice_set places thread place)) kind line (length flat.threads)
          (λ place m d. run_threads flat inputs rest (slice_set places thread place) m kind line d) e,
    )

-- inputs that drive a break are a broken run of at most so many rounds
in_rounds : (flat : FlatProgram) (rounds : ℕ) (input : ℕ → ℕ) → ((i : ℕ) → input i < value_bound) → DrivesBreak flat rounds input → FlatBroken flat rounds
in_rounds flat rounds input small d = (run_of flat rounds input, inputs_of_run flat rounds input, d.0, d.1, run_breaks flat rounds input d.0 d.1 small d.2)

-- a broken run of at most so many rounds has inputs that drive a break
some_inputs : (flat : FlatProgram) (rounds : ℕ) → IsWellMarked flat → ((thread : ℕ) → length (code_of flat thread) < value_bound) → FlatBroken flat rounds → (input : ℕ → ℕ) × ((i : ℕ) → input i < value_bound) × DrivesBreak flat rounds input
some_inputs flat rounds well short b =
    let bs = blocks rounds (length flat.threads) in
    let is = b.4 in
    let fits = fits_rounds rounds (length flat.threads) b.0 (run_threads flat b.1 b.0 (opening flat) flat.first b.2 b.3 is.breaks) is.few in
    let guided = guesses_of flat b.1 b.2 b.3 fits (opening flat) flat.first
    (opening_threads flat rounds) (opening_stands flat well) is.breaks in
    (inputs_of flat b.1 guided.0 bs 0, (λ i. inputs_small flat b.1 bs guided.0 0 i is.words short), (b.2, b.3, driven_guided flat b.1 bs guided.0 0 (opening flat) flat.first ∙ guided.1))

-- some inputs drive a break exactly where the flat program is broken in so many rounds
pub existence : (flat : FlatProgram) (rounds : ℕ) → IsWellMarked flat → ((thread : ℕ) → length (code_of flat thread) < value_bound)
    → ((input : ℕ → ℕ) × ((i : ℕ) → input i < value_bound) × DrivesBreak flat rounds input) ↔ FlatBroken flat rounds
existence flat rounds well short =
    (λ s. in_rounds flat rounds s.0 s.1 s.2, λ b. some_inputs flat rounds well short b)
