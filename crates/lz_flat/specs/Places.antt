-- Trusted: which instructions of a thread a step runs.
use Rattle.std.specs.Prelude.{ℕ, zero, suc, List, [], ◌∷◌, drop, if◌then◌else◌}
use Rattle.lz_flat.specs.Programs.{MarkedInstruction}
use Rattle.lz_flat.specs.Instructions.{Did, moved, blocked, broke, did}

-- an instruction at this place, and what follows: one that is blocked did not run, and what breaks is the last
abbrev pub place_behind : ℕ → Did → (ℕ → List ℕ → List ℕ) → List ℕ
place_behind place (moved over memory) next = place ∷ next over memory
place_behind place blocked next = []
place_behind place (broke kind line) next = place ∷ []

-- the places that run on from place l, whose code this is, after so many are passed over, up to the next visible
-- one or the end
unfoldable pub onward_places : (ℕ → ℕ) → ℕ → List MarkedInstruction → ℕ → List ℕ → List ℕ
onward_places input l [] over memory = []
onward_places input l (first ∷ rest) (suc over) memory = onward_places input (suc l) rest over memory
onward_places input l (first ∷ rest) zero memory =
    if first.visible then [] else place_behind l (did first.instr (input l) memory) (onward_places input (suc l) rest)

-- those of a step whose instruction stands first in this code, at this place
abbrev pub places_from : (ℕ → ℕ) → ℕ → List MarkedInstruction → List ℕ → List ℕ
places_from input place [] memory = []
places_from input place (first ∷ rest) memory = place_behind place (did first.instr (input place) memory) (onward_places input (suc place) rest)

-- the places of the instructions that a step of this code from this place runs, in order, with the check at which
-- it breaks
unfoldable pub places_run : (ℕ → ℕ) → List MarkedInstruction → ℕ → List ℕ → List ℕ
places_run input code place memory = places_from input place (drop place code) memory
