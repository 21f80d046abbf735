-- Inner: the passes over the code of a thread, by a test of which instructions name its own words alone.
use Rattle.std.specs.Prelude.{ℕ, zero, suc, Bool, true, false, not, ◌&&◌, ◌||◌, List, [], ◌∷◌}
use Rattle.lz_flat.specs.Programs.{Instruction, sets, takes, assumes, checks, skips, MarkedInstruction}
use Rattle.lz_points.specs.Tags.{owns_instruction}
use Rattle.lz_points.specs.Thinning.{far}

-- the flag of the instruction so many on; past the end it is set
unfoldable pub flag_at : List MarkedInstruction → ℕ → Bool
flag_at [] k = true
flag_at (x ∷ xs) zero = x.visible
flag_at (x ∷ xs) (suc k) = flag_at xs k

-- the instruction names own words alone, and both places behind it have the flag
unfoldable pub clear_here : (Instruction → Bool) → Instruction → List MarkedInstruction → Bool
clear_here own i rest = own i && flag_at rest 0 && flag_at rest (far i)

-- the flag of the first instruction on the way back: it is visible, or clear with what follows
abbrev pub back_flag : (Instruction → Bool) → List MarkedInstruction → Bool
back_flag own [] = true
back_flag own (x ∷ xs) = x.visible || clear_here own x.instr xs

-- the way back, from the end to the front
unfoldable pub back : (Instruction → Bool) → List MarkedInstruction → List MarkedInstruction
back own [] = []
back own (x ∷ xs) = record { instr = x.instr; visible = back_flag own (x ∷ back own xs) } ∷ back own xs

-- an assumption keeps its mark
abbrev pub may_go : Instruction → Bool
may_go (sets to of) = true
may_go (takes to) = true
may_go (assumes test) = false
may_go (checks test kind line) = true
may_go (skips test by) = true

-- the flag of the first instruction on the way forth: it stays where the instruction is not clear, is an assumption,
-- or is the first of its thread
abbrev pub forth_flag : (Instruction → Bool) → Bool → List MarkedInstruction → Bool
forth_flag own first [] = true
forth_flag own first (x ∷ xs) = x.visible && not (clear_here own x.instr xs && may_go x.instr && not first)

-- the way forth, from the front to the end
unfoldable pub forth : (Instruction → Bool) → Bool → List MarkedInstruction → List MarkedInstruction
forth own first [] = []
forth own first (x ∷ xs) = record { instr = x.instr; visible = forth_flag own first (x ∷ xs) } ∷ forth own false xs

-- the code with fewer marks
abbrev pub thinned : (Instruction → Bool) → List MarkedInstruction → List MarkedInstruction
thinned own code = forth own true (back own code)

-- the threads with fewer marks, the first of which has this tag
unfoldable pub thinned_threads : List ℕ → ℕ → List (List MarkedInstruction) → List (List MarkedInstruction)
thinned_threads tags tag [] = []
thinned_threads tags tag (code ∷ rest) = thinned (owns_instruction tags tag) code ∷ thinned_threads tags (suc tag) rest
