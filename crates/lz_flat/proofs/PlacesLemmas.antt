-- Which places a step runs: as many as it counts, and the last is that of the check where it breaks.
use Rattle.std.proofs.Common.{◌≡◌, ℕ, zero, suc, ◌+◌, Bool, true, false, cond, List, [], ◌∷◌, length, drop, eqb, refl, ◌∙◌, ap, arith}
use Rattle.lz_base.specs.declared.word.BreakKind.{BreakKind}
use Rattle.lz_flat.specs.Programs.{Expression, Instruction, sets, takes, assumes, checks, skips, MarkedInstruction}
use Rattle.lz_flat.specs.Instructions.{Did, moved, blocked, broke, value, did}
use Rattle.lz_flat.specs.FlatRuns.{Ran, went, breaks, behind, onward, step_from, step}
use Rattle.lz_flat.specs.Places.{place_behind, onward_places, places_from, places_run}
use Rattle.lz_flat.specs.Steps.{count_behind, onward_count, count_from, step_count, EndsAtCheck, RunsItsCount, BreaksAtItsLast}
use Rattle.lz_flat.proofs.LandingLemmas.{drop-next}

-- ---- one instruction

-- passing over instructions is beginning behind them
pub places_skip : (input : ℕ → ℕ) (part : List MarkedInstruction) (l over : ℕ) (memory : List ℕ) → onward_places input l part over memory ≡ onward_places input (l + over) (drop over part) 0 memory
unfolding onward_places
places_skip input part l zero memory = ap (λ (n : ℕ). onward_places input n part 0 memory) (let z : l ≡ l + 0 = omega arith in z)
places_skip input [] l (suc over) memory = refl
places_skip input (first ∷ rest) l (suc over) memory =
    places_skip input rest (suc l) over memory ∙ ap (λ (n : ℕ). onward_places input n (drop over rest) 0 memory) (let z : suc l + over ≡ l + suc over = omega arith in z)

-- a hidden instruction runs, with what is behind it
pub places_moves : (input : ℕ → ℕ) (l : ℕ) (first : MarkedInstruction) (rest : List MarkedInstruction) (memory : List ℕ) → first.visible ≡ false
    → onward_places input l (first ∷ rest) 0 memory ≡ place_behind l (did first.instr (input l) memory) (onward_places input (suc l) rest)
unfolding onward_places
places_moves input l first rest memory v = rw v refl

-- a visible one does not
pub places_stop : (input : ℕ → ℕ) (l : ℕ) (first : MarkedInstruction) (rest : List MarkedInstruction) (memory : List ℕ) → first.visible ≡ true → onward_places input l (first ∷ rest) 0 memory ≡ []
unfolding onward_places
places_stop input l first rest memory v = rw v refl

-- ---- the count

-- behind an instruction that goes on there are as many places as are counted where each way on has them
behind_count : (l : ℕ) (d : Did) (f : ℕ → List ℕ → Ran) (g : ℕ → List ℕ → List ℕ) (h : ℕ → List ℕ → ℕ) (next : ℕ) (after : List ℕ)
    → ((over : ℕ) (m : List ℕ) → f over m ≡ went next after → length (g over m) ≡ h over m) → behind d f ≡ went next after → length (place_behind l d g) ≡ suc (count_behind d h)
behind_count l (moved over memory) f g h next after later e = ap suc (later over memory e)
behind_count l blocked f g h next after later e = absurd cc
behind_count l (broke kind line) f g h next after later e = absurd cc

-- so where the walk may stop here
visible_count : (b : Bool) (l : ℕ) (memory : List ℕ) (d : Did) (f : ℕ → List ℕ → Ran) (g : ℕ → List ℕ → List ℕ) (h : ℕ → List ℕ → ℕ) (next : ℕ) (after : List ℕ)
    → ((over : ℕ) (m : List ℕ) → f over m ≡ went next after → length (g over m) ≡ h over m) → cond b (went l memory) (behind d f) ≡ went next after
    → length (cond b [] (place_behind l d g)) ≡ cond b 0 (suc (count_behind d h))
visible_count true l memory d f g h next after later e = refl
visible_count false l memory d f g h next after later e = behind_count l d f g h next after later e

-- a walk that goes runs as many places as are counted
pub onward_length : (input : ℕ → ℕ) (part : List MarkedInstruction) (l over : ℕ) (memory : List ℕ) (next : ℕ) (after : List ℕ) → onward input l part over memory ≡ went next after
    → length (onward_places input l part over memory) ≡ onward_count input l part over memory
unfolding onward onward_places onward_count
onward_length input [] l over memory next after e = refl
onward_length input (first ∷ rest) l (suc over) memory next after e = onward_length input rest (suc l) over memory next after e
onward_length input (first ∷ rest) l zero memory next after e =
    visible_count first.visible l memory (did first.instr (input l) memory) (onward input (suc l) rest) (onward_places input (suc l) rest) (onward_count input (suc l) rest) next after
    (λ over m h. onward_length input rest (suc l) over m next after h) e

-- so does a step whose instruction stands first
from_length : (input : ℕ → ℕ) (part : List MarkedInstruction) (l : ℕ) (memory : List ℕ) (next : ℕ) (after : List ℕ) → step_from input l part memory ≡ went next after
    → length (places_from input l part memory) ≡ count_from input l part memory
from_length input [] l memory next after e = refl
from_length input (first ∷ rest) l memory next after e =
    behind_count l (did first.instr (input l) memory) (onward input (suc l) rest) (onward_places input (suc l) rest) (onward_count input (suc l) rest) next after
    (λ over m h. onward_length input rest (suc l) over m next after h) e

-- a step that goes runs as many places as instructions
pub runs_its_count : RunsItsCount
unfolding step places_run step_count
runs_its_count input code place memory next after e = from_length input (drop place code) place memory next after e

-- ---- the check

-- what breaks is a check
pub breaks_is_check : (i : Instruction) (v : ℕ) (m : List ℕ) (kind : BreakKind) (line : ℕ) → did i v m ≡ broke kind line → (test : Expression) × (i ≡ checks test kind line)
unfolding did
breaks_is_check (sets to of) v m kind line e = absurd cc
breaks_is_check (takes to) v m kind line e = absurd cc
breaks_is_check (assumes test) v m kind line e = absurd (by (eqb (value test m) 0) e)
  where
    by : (b : Bool) → cond b blocked (moved 0 m) ≡ broke kind line → ⊥
    by true h = cc
    by false h = cc
breaks_is_check (checks test k l) v m kind line e = by (eqb (value test m) 0) e
  where
    by : (b : Bool) → cond b (broke k l) (moved 0 m) ≡ broke kind line → (t : Expression) × (checks test k l ≡ checks t kind line)
    by true h = (test, cc)
    by false h = absurd cc
breaks_is_check (skips test by) v m kind line e = absurd cc

-- one place more in front
pub later_check : {code : List MarkedInstruction} {places : List ℕ} {kind : BreakKind} {line : ℕ} (l : ℕ) → EndsAtCheck code places kind line → EndsAtCheck code (l ∷ places) kind line
later_check l later = record { front = l ∷ later.front; last = later.last; are = ap (λ (x : List ℕ). l ∷ x) later.are; check = later.check }

-- behind an instruction of the code the last place is that of the check where each way on says so
behind_check : (code : List MarkedInstruction) (l v : ℕ) (first : MarkedInstruction) (rest : List MarkedInstruction) (memory : List ℕ) (d : Did) (f : ℕ → List ℕ → Ran) (g : ℕ → List ℕ → List ℕ) (kind : BreakKind) (line : ℕ)
    → drop l code ≡ first ∷ rest → did first.instr v memory ≡ d → ((over : ℕ) (m : List ℕ) → f over m ≡ breaks kind line → EndsAtCheck code (g over m) kind line)
    → behind d f ≡ breaks kind line → EndsAtCheck code (place_behind l d g) kind line
behind_check code l v first rest memory (moved over m) f g kind line at is later e = later_check l (later over m e)
behind_check code l v first rest memory blocked f g kind line at is later e = absurd cc
behind_check code l v first rest memory (broke k n) f g kind line at is later e =
    let same : broke k n ≡ broke kind line = cc in
    let check = breaks_is_check first.instr v memory kind line (is ∙ same) in
    record { front = []; last = l; are = refl; check = record { test = check.0; first = first; rest = rest; stands = at; checks_ = check.1 } }

-- so where the walk may stop here
visible_check : (b : Bool) (code : List MarkedInstruction) (l : ℕ) (memory : List ℕ) (d : Did) (f : ℕ → List ℕ → Ran) (g : ℕ → List ℕ → List ℕ) (kind : BreakKind) (line : ℕ)
    → (behind d f ≡ breaks kind line → EndsAtCheck code (place_behind l d g) kind line) → cond b (went l memory) (behind d f) ≡ breaks kind line
    → EndsAtCheck code (cond b [] (place_behind l d g)) kind line
visible_check true code l memory d f g kind line later e = absurd cc
visible_check false code l memory d f g kind line later e = later e

-- the last place of a walk that breaks is that of the check
pub onward_check : (input : ℕ → ℕ) (code part : List MarkedInstruction) (l over : ℕ) (memory : List ℕ) (kind : BreakKind) (line : ℕ) → drop l code ≡ part → onward input l part over memory ≡ breaks kind line
    → EndsAtCheck code (onward_places input l part over memory) kind line
unfolding onward onward_places
onward_check input code [] l over memory kind line at e = absurd cc
onward_check input code (first ∷ rest) l (suc over) memory kind line at e = onward_check input code rest (suc l) over memory kind line (drop-next code l first rest at) e
onward_check input code (first ∷ rest) l zero memory kind line at e =
    visible_check first.visible code l memory (did first.instr (input l) memory) (onward input (suc l) rest) (onward_places input (suc l) rest) kind line
    (behind_check code l (input l) first rest memory (did first.instr (input l) memory) (onward input (suc l) rest) (onward_places input (suc l) rest) kind line at refl
    (λ over m h. onward_check input code rest (suc l) over m kind line (drop-next code l first rest at) h)) e

-- so is that of a step whose instruction stands first
from_check : (input : ℕ → ℕ) (code part : List MarkedInstruction) (l : ℕ) (memory : List ℕ) (kind : BreakKind) (line : ℕ) → drop l code ≡ part → step_from input l part memory ≡ breaks kind line
    → EndsAtCheck code (places_from input l part memory) kind line
from_check input code [] l memory kind line at e = absurd cc
from_check input code (first ∷ rest) l memory kind line at e =
    behind_check code l (input l) first rest memory (did first.instr (input l) memory) (onward input (suc l) rest) (onward_places input (suc l) rest) kind line at refl
    (λ over m h. onward_check input code rest (suc l) over m kind line (drop-next code l first rest at) h) e

-- the last place of a step that breaks is that of a check of the kind and line at which it breaks
pub breaks_at_its_last : BreaksAtItsLast
unfolding step places_run
breaks_at_its_last input code place memory kind line e = from_check input code (drop place code) place memory kind line refl e
