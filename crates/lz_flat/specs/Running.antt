-- Inner: instructions that run one after the other, and how a step passes a group of them.
use Rattle.std.specs.Prelude.{◌≡◌, ℕ, suc, ◌+◌, false, List, [], ◌∷◌, ◌++◌, length, map, ⊤}
use Rattle.lz_flat.specs.Programs.{Instruction, MarkedInstruction}
use Rattle.lz_flat.specs.Instructions.{Did, moved, blocked, broke, did}
use Rattle.lz_flat.specs.FlatRuns.{Ran, held, breaks, onward}
use Rattle.lz_flat.specs.WellFormed.{IsNoSkip}

-- what follows an instruction that passes nothing over
abbrev pub did_then : Did → (List ℕ → Did) → Did
did_then (moved over memory) next = next memory
did_then blocked next = blocked
did_then (broke kind line) next = broke kind line

-- One instruction after the other, the first of which stands at place l. It is meant for instructions that are
-- no skips.
unfoldable pub runs : (ℕ → ℕ) → ℕ → List Instruction → List ℕ → Did
runs input l [] memory = moved 0 memory
runs input l (first ∷ rest) memory = did_then (did first (input l) memory) (runs input (suc l) rest)

-- the instructions of code, without their marks
abbrev pub instrs_of : List MarkedInstruction → List Instruction
instrs_of code = map (λ x. x.instr) code

-- none is visible, and none is a skip
abbrev pub AreHidden : List MarkedInstruction → Type 0
AreHidden [] = ⊤
AreHidden (first ∷ rest) = (first.visible ≡ false) × IsNoSkip first.instr × AreHidden rest

-- what follows instructions that ran through
abbrev pub run_then : Did → (List ℕ → Ran) → Ran
run_then (moved over memory) next = next memory
run_then blocked next = held
run_then (broke kind line) next = breaks kind line

-- a step that comes to a group of hidden instructions runs them one after the other, and then goes on
abbrev pub OnwardOver : Type 0
OnwardOver =
    (input : ℕ → ℕ) (l : ℕ) (group rest : List MarkedInstruction) (memory : List ℕ) → AreHidden group
    → onward input l (group ++ rest) 0 memory ≡ run_then (runs input l (instrs_of group) memory) (onward input (l + length group) rest 0)
