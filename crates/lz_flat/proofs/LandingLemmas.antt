-- Where a step leads: forward, to a visible instruction or the end.
use Rattle.std.proofs.Common.{◌≡◌, ℕ, zero, suc, ◌+◌, ◌-◌, ◌≤◌, Bool, true, false, cond, List, [], ◌∷◌, length, drop, refl, sym, ◌∙◌, ap, subst, arith}
use Rattle.std.proofs.lemmas.List.{length-drop, drop_all}
use Rattle.lz_flat.specs.Programs.{MarkedInstruction}
use Rattle.lz_flat.specs.Instructions.{Did, moved, blocked, broke, did}
use Rattle.lz_flat.specs.FlatRuns.{Ran, went, held, breaks, ended, behind, onward, step_from, step}
use Rattle.lz_flat.specs.WellFormed.{BeginsVisible}

-- ---- what is left of a list

-- behind the first of what is left at a place is what is left at the next
pub drop-next : {A : Type 0} (xs : List A) (l : ℕ) (y : A) (ys : List A) → drop l xs ≡ y ∷ ys → drop (suc l) xs ≡ ys
drop-next [] zero y ys e = absurd cc
drop-next [] (suc l) y ys e = absurd cc
drop-next (x ∷ xs) zero y ys e = cc
drop-next (x ∷ xs) (suc l) y ys e = drop-next xs l y ys e

-- where nothing is left at a place, nothing is left further on
pub drop-none : {A : Type 0} (xs : List A) (l over : ℕ) → drop l xs ≡ [] → drop (l + over) xs ≡ []
drop-none xs l over e =
    let none : length (drop l xs) ≡ 0 = ap length e in
    let short : length xs ≤ l + over = let n : length xs - l ≡ 0 = sym (length-drop l xs) ∙ none in omega arith in
    drop_all (l + over) xs short

-- where a step leads: forward, to a visible instruction or the end
pub record Lands (code : List MarkedInstruction) (l place : ℕ) : Type 0 where
  pub forward : l ≤ place
  pub stands : BeginsVisible (drop place code)

-- where instructions lead to a place, it is not before this one, and visible or the end
abbrev pub LandsWell : List MarkedInstruction → ℕ → Ran → Type 0
LandsWell code l (went place memory) = Lands code l place
LandsWell code l held = Unit
LandsWell code l (breaks kind line) = Unit
LandsWell code l ended = Unit

-- what lands well from the next place on lands well from this one
lands_later : (code : List MarkedInstruction) (l : ℕ) (r : Ran) → LandsWell code (suc l) r → LandsWell code l r
lands_later code l (went place memory) h = record { forward = let f = h.forward in omega arith; stands = h.stands }
lands_later code l held h = h
lands_later code l (breaks kind line) h = h
lands_later code l ended h = h

-- behind an instruction it lands well where each way on does
behind_lands : (code : List MarkedInstruction) (l : ℕ) (d : Did) (f : ℕ → List ℕ → Ran) → ((over : ℕ) (m : List ℕ) → LandsWell code (suc l) (f over m)) → LandsWell code l (behind d f)
behind_lands code l (moved over memory) f h = lands_later code l (f over memory) (h over memory)
behind_lands code l blocked f h = tt
behind_lands code l (broke kind line) f h = tt

-- so from the next place on
pub behind_lands_here : (code : List MarkedInstruction) (l : ℕ) (d : Did) (f : ℕ → List ℕ → Ran) → ((over : ℕ) (m : List ℕ) → LandsWell code (suc l) (f over m)) → LandsWell code (suc l) (behind d f)
behind_lands_here code l (moved over memory) f h = h over memory
behind_lands_here code l blocked f h = tt
behind_lands_here code l (broke kind line) f h = tt

-- code whose first instruction is visible begins visible
pub begins : (first : MarkedInstruction) (rest code : List MarkedInstruction) → code ≡ first ∷ rest → first.visible ≡ true → BeginsVisible code
begins first rest [] e v = tt
begins first rest (x ∷ xs) e v = let same : x ≡ first = cc in rw same v

-- so does code that has ended
pub begins_none : (code : List MarkedInstruction) → code ≡ [] → BeginsVisible code
begins_none [] e = tt
begins_none (x ∷ xs) e = absurd cc

-- the walk stops at a visible instruction, and goes on behind another
lands_at : (input : ℕ → ℕ) (code : List MarkedInstruction) (l : ℕ) (first : MarkedInstruction) (rest : List MarkedInstruction) (memory : List ℕ) (b : Bool)
    → first.visible ≡ b → drop l code ≡ first ∷ rest
    → ((over : ℕ) (m : List ℕ) → LandsWell code (suc l) (onward input (suc l) rest over m))
    → LandsWell code l (cond b (went l memory) (behind (did first.instr (input l) memory) (onward input (suc l) rest)))
lands_at input code l first rest memory true v e h = record { forward = omega arith; stands = begins first rest (drop l code) e v }
lands_at input code l first rest memory false v e h = behind_lands code l (did first.instr (input l) memory) (onward input (suc l) rest) h

-- the walk from a place leads to a visible instruction or the end, not before that place
pub onward_lands : (input : ℕ → ℕ) (code part : List MarkedInstruction) (l over : ℕ) (memory : List ℕ) → drop l code ≡ part → LandsWell code l (onward input l part over memory)
unfolding onward
onward_lands input code [] l over memory e = record { forward = omega arith; stands = begins_none (drop (l + over) code) (drop-none code l over e) }
onward_lands input code (first ∷ rest) l (suc over) memory e =
    lands_later code l (onward input (suc l) rest over memory) (onward_lands input code rest (suc l) over memory (drop-next code l first rest e))
onward_lands input code (first ∷ rest) l zero memory e =
    lands_at input code l first rest memory first.visible refl e (λ over m. onward_lands input code rest (suc l) over m (drop-next code l first rest e))

-- ---- only a step from the end is none

-- behind an instruction the thread has not ended where no way on says so
pub behind_real : (d : Did) (f : ℕ → List ℕ → Ran) → ((over : ℕ) (m : List ℕ) → f over m ≡ ended → ⊥) → behind d f ≡ ended → ⊥
behind_real (moved over memory) f h e = h over memory e
behind_real blocked f h e = cc
behind_real (broke kind line) f h e = cc

-- so where the walk may stop here
real_at : (b : Bool) (l : ℕ) (memory : List ℕ) (r : Ran) → (r ≡ ended → ⊥) → cond b (went l memory) r ≡ ended → ⊥
real_at true l memory r h e = cc
real_at false l memory r h e = h e

-- the walk never says that the thread has ended
pub onward_real : (input : ℕ → ℕ) (part : List MarkedInstruction) (l over : ℕ) (memory : List ℕ) → onward input l part over memory ≡ ended → ⊥
unfolding onward
onward_real input [] l over memory e = cc
onward_real input (first ∷ rest) l (suc over) memory e = onward_real input rest (suc l) over memory e
onward_real input (first ∷ rest) l zero memory e =
    real_at first.visible l memory (behind (did first.instr (input l) memory) (onward input (suc l) rest))
    (behind_real (did first.instr (input l) memory) (onward input (suc l) rest) (λ over m. onward_real input rest (suc l) over m)) e

-- a step does not come to the end where it begins at an instruction
pub step_lands_from : (input : ℕ → ℕ) (code part : List MarkedInstruction) (l : ℕ) (memory : List ℕ) → drop l code ≡ part → LandsWell code (suc l) (step_from input l part memory)
step_lands_from input code [] l memory e = tt
step_lands_from input code (first ∷ rest) l memory e =
    behind_lands_here code l (did first.instr (input l) memory) (onward input (suc l) rest) (λ over m. onward_lands input code rest (suc l) over m (drop-next code l first rest e))

-- a step leads forward, to a visible instruction or the end
pub step_lands : (input : ℕ → ℕ) (code : List MarkedInstruction) (place : ℕ) (memory : List ℕ) (next_place : ℕ) (next_memory : List ℕ) → step input code place memory ≡ went next_place next_memory → Lands code (suc place) next_place
unfolding step
step_lands input code place memory next_place next_memory e = subst (LandsWell code (suc place)) e (step_lands_from input code (drop place code) place memory refl)
