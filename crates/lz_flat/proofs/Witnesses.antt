-- Small facts that show what the definitions say.
use Rattle.std.proofs.Common.{◌≡◌, ℕ, true, false, List, [], ◌∷◌, eqb, ◌||◌, cond, refl}
use Rattle.lz_base.specs.declared.operator.Binary.TheVariants.{Eq}
use Rattle.lz_base.specs.declared.word.IntType.TheVariants.{Int}
use Rattle.lz_base.specs.declared.word.BreakKind.TheVariants.{Assert}
use Rattle.lz_flat.specs.Programs.{constant, word, binary, Location, Instruction, sets, takes, assumes, checks, skips, MarkedInstruction, FlatProgram}
use Rattle.lz_flat.specs.Instructions.{moved, broke, value, put, did}
use Rattle.lz_flat.specs.FlatRuns.{breaks, onward, step, below}
use Rattle.lz_flat.specs.Places.{onward_places, places_run}
use Rattle.lz_flat.specs.DrivenRuns.{block_steps, driven_run, driven_inputs, run_of, inputs_of_run}
use Rattle.lz_flat.specs.Running.{runs}

-- word 0
abbrev here : Location
here = record { first = 0; len = 1; index = constant 0 }

-- an instruction before which a step may end, and one before which none may
abbrev visible_ : Instruction → MarkedInstruction
visible_ instr = record { instr = instr; visible = true }

abbrev hidden_ : Instruction → MarkedInstruction
hidden_ instr = record { instr = instr; visible = false }

-- ---- which places a step runs

-- what a skip passes over does not run, and the check of 0 that follows is the last
abbrev skipping : List MarkedInstruction
skipping = visible_ (skips (constant 1) 2) ∷ hidden_ (sets here (constant 1)) ∷ hidden_ (checks (word 0) Assert 7) ∷ hidden_ (takes here) ∷ []

skipped_does_not_run : (step (λ k. 0) skipping 0 (0 ∷ []) ≡ breaks Assert 7) × (places_run (λ k. 0) skipping 0 (0 ∷ []) ≡ 0 ∷ 2 ∷ [])
unfolding step onward value did places_run onward_places
skipped_does_not_run = (refl, refl)

-- where the check holds all behind it runs
behind_a_check_that_holds : places_run (λ k. 0) skipping 0 (1 ∷ []) ≡ 0 ∷ 2 ∷ 3 ∷ []
unfolding value put did places_run onward_places
behind_a_check_that_holds = refl

-- a step ends before the next visible instruction, and an assumption of 0 does not run
abbrev waiting : List MarkedInstruction
waiting = visible_ (takes here) ∷ hidden_ (sets here (constant 0)) ∷ visible_ (assumes (word 0)) ∷ []

up_to_a_visible_one : places_run (λ k. 5) waiting 0 (1 ∷ []) ≡ 0 ∷ 1 ∷ []
unfolding value put did places_run onward_places
up_to_a_visible_one = refl

blocked_does_not_run : places_run (λ k. 5) waiting 2 (0 ∷ []) ≡ []
unfolding value did places_run onward_places
blocked_does_not_run = refl

-- ---- groups

-- the second instruction of a group sees what the first one wrote, and has its own input
second_sees_the_first : runs (λ k. k) 3 (takes here ∷ checks (binary Eq Int (word 0) (constant 3)) Assert 1 ∷ takes here ∷ []) (0 ∷ []) ≡ moved 0 (5 ∷ [])
unfolding runs value put did
second_sees_the_first = refl

-- a check of 0 ends the group
check_ends_the_group : runs (λ k. 0) 0 (takes here ∷ checks (word 0) Assert 1 ∷ takes here ∷ []) (1 ∷ []) ≡ broke Assert 1
unfolding runs value put did
check_ends_the_group = refl

-- ---- the run that inputs drive

-- thread 0 checks that word 0 is 0, thread 1 sets it to 1
abbrev pair : FlatProgram
pair = record {
  threads = (visible_ (checks (binary Eq Int (word 0) (constant 0)) Assert 7) ∷ []) ∷ (visible_ (sets here (constant 1)) ∷ []) ∷ [];
  first = 0 ∷ [];
}

-- Each block has 15 inputs. The guesses let thread 1 pass in the first round, and thread 0 in the second.
abbrev guesses : ℕ → ℕ
guesses i = cond (eqb i 15 || eqb i 30) 1 i

-- the run: thread 1, then thread 0, whose check breaks
second_then_first : run_of pair 2 guesses ≡ 1 ∷ 0 ∷ []
unfolding step onward value put did below driven_run block_steps
second_then_first = refl

-- each instruction has the input of the block in which its thread passed it
inputs_of_their_blocks : (inputs_of_run pair 2 guesses 0 0 ≡ 42) × (inputs_of_run pair 2 guesses 1 0 ≡ 27)
unfolding step onward value put did below driven_inputs
inputs_of_their_blocks = (refl, refl)
