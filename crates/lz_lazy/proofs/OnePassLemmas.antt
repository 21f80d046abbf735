-- One pass over a thread's code does exactly its steps below the guess, because skips go forward.
use Rattle.std.proofs.Common.{◌≡◌, ℕ, zero, suc, ◌+◌, ◌≤◌, Bool, true, false, not, ◌&&◌, cond, List, [], ◌∷◌, length, drop, nat_lt, refl, sym, ◌∙◌, ap, arith}
use Rattle.std.proofs.lemmas.List.{drop_all}
use Rattle.lz_flat.specs.FlatRuns.{Ran, went, held, breaks, ended, behind, onward, step_from, step, steps_on, below}
use Rattle.lz_flat.specs.Instructions.{Did, moved, blocked, broke, did}
use Rattle.lz_flat.specs.Programs.{MarkedInstruction}
use Rattle.lz_flat.specs.WellFormed.{BeginsVisible}
use Rattle.lz_flat.proofs.LandingLemmas.{drop-next, drop-none, LandsWell, onward_lands, behind_lands_here, behind_real, onward_real}

-- the pass, from place l on, whose code this is: a visible instruction runs only below the guess
unfoldable pub pass : ℕ → (ℕ → ℕ) → ℕ → List MarkedInstruction → ℕ → List ℕ → Ran
pass guess input l [] over memory = went (l + over) memory
pass guess input l (first ∷ rest) (suc over) memory = pass guess input (suc l) rest over memory
pass guess input l (first ∷ rest) zero memory =
    cond (first.visible && not (nat_lt l guess)) (went l memory) (behind (did first.instr (input l) memory) (pass guess input (suc l) rest))

-- where a step leads, the pass goes on there
abbrev pub carried : ℕ → (ℕ → ℕ) → List MarkedInstruction → Ran → Ran
carried guess input code (went place memory) = pass guess input place (drop place code) 0 memory
carried guess input code held = held
carried guess input code (breaks kind line) = breaks kind line
carried guess input code ended = ended

-- behind an instruction the pass carries on where each way on does
pub behind_carried : (guess : ℕ) (input : ℕ → ℕ) (code : List MarkedInstruction) (d : Did) (f g : ℕ → List ℕ → Ran)
    → ((over : ℕ) (memory : List ℕ) → f over memory ≡ carried guess input code (g over memory))
    → behind d f ≡ carried guess input code (behind d g)
behind_carried guess input code (moved over memory) f g same = same over memory
behind_carried guess input code blocked f g same = refl
behind_carried guess input code (broke kind line) f g same = refl

-- at the end of the code the pass leads there
pass_end : (guess : ℕ) (input : ℕ → ℕ) (l over : ℕ) (code : List MarkedInstruction) (memory : List ℕ) → code ≡ [] → pass guess input l code over memory ≡ went (l + over) memory
unfolding pass
pass_end guess input l over [] memory e = refl
pass_end guess input l over (x ∷ xs) memory e = absurd cc

-- at a visible instruction the pass goes on below the guess, and stops else
at_visible : (guess : ℕ) (input : ℕ → ℕ) (code : List MarkedInstruction) (l : ℕ) (first : MarkedInstruction) (rest : List MarkedInstruction) (memory : List ℕ) (b : Bool)
    → first.visible ≡ b → drop l code ≡ first ∷ rest
    → ((over : ℕ) (m : List ℕ) → pass guess input (suc l) rest over m ≡ carried guess input code (onward input (suc l) rest over m))
    → pass guess input l (first ∷ rest) 0 memory ≡ carried guess input code (cond b (went l memory) (behind (did first.instr (input l) memory) (onward input (suc l) rest)))
unfolding pass
at_visible guess input code l first rest memory true v e same = ap (λ (c : List MarkedInstruction). pass guess input l c 0 memory) (sym e)
at_visible guess input code l first rest memory false v e same =
    rw v (behind_carried guess input code (did first.instr (input l) memory) (pass guess input (suc l) rest) (onward input (suc l) rest) same)

-- the pass is the step and then the pass from where it leads
pub through : (guess : ℕ) (input : ℕ → ℕ) (code : List MarkedInstruction) (part : List MarkedInstruction) (l over : ℕ) (memory : List ℕ) → drop l code ≡ part
    → pass guess input l part over memory ≡ carried guess input code (onward input l part over memory)
unfolding pass onward
through guess input code [] l over memory e =
    let none : drop (l + over) code ≡ [] = drop-none code l over e in
    sym (pass_end guess input (l + over) 0 (drop (l + over) code) memory none ∙ ap (λ (n : ℕ). went n memory) (let z : l + over + 0 ≡ l + over = omega arith in z))
through guess input code (first ∷ rest) l (suc over) memory e = through guess input code rest (suc l) over memory (drop-next code l first rest e)
through guess input code (first ∷ rest) l zero memory e =
    at_visible guess input code l first rest memory first.visible refl e (λ over m. through guess input code rest (suc l) over m (drop-next code l first rest e))

-- ---- the steps below the guess

-- steps below the guess are what the pass makes of the step
steps_match : (guess : ℕ) (input : ℕ → ℕ) (code : List MarkedInstruction) (place : ℕ) (memory : List ℕ) (l most : ℕ) (r : Ran)
    → (r ≡ ended → ⊥) → LandsWell code (suc l) r → length code ≤ l + suc most
    → ((p : ℕ) (m : List ℕ) → BeginsVisible (drop p code) → length code ≤ p + most → below most guess input code p m ≡ pass guess input p (drop p code) 0 m)
    → steps_on place memory r (below most guess input code) ≡ carried guess input code r
steps_match guess input code place memory l most (went p m) real lands room same =
    same p m lands.stands (let f = lands.forward in omega arith)
steps_match guess input code place memory l most held real lands room same = refl
steps_match guess input code place memory l most (breaks kind line) real lands room same = refl
steps_match guess input code place memory l most ended real lands room same = absurd (real refl)

-- one step and what follows it, by what stands at the place
below_at : (guess : ℕ) (input : ℕ → ℕ) (code part : List MarkedInstruction) (l most : ℕ) (memory : List ℕ) (b : Bool)
    → nat_lt l guess ≡ b → drop l code ≡ part → BeginsVisible part → length code ≤ l + suc most
    → ((p : ℕ) (m : List ℕ) → BeginsVisible (drop p code) → length code ≤ p + most → below most guess input code p m ≡ pass guess input p (drop p code) 0 m)
    → cond b (steps_on l memory (step_from input l part memory) (below most guess input code)) (went l memory) ≡ pass guess input l part 0 memory
unfolding pass
below_at guess input code [] l most memory true lt e begin room same = ap (λ (n : ℕ). went n memory) (let z : l ≡ l + 0 = omega arith in z)
below_at guess input code [] l most memory false lt e begin room same = ap (λ (n : ℕ). went n memory) (let z : l ≡ l + 0 = omega arith in z)
below_at guess input code (first ∷ rest) l most memory true lt e begin room same =
    rw (begin, lt)
    (steps_match guess input code l memory l most (behind (did first.instr (input l) memory) (onward input (suc l) rest))
    (behind_real (did first.instr (input l) memory) (onward input (suc l) rest) (λ over m. onward_real input rest (suc l) over m))
    (behind_lands_here code l (did first.instr (input l) memory) (onward input (suc l) rest) (λ over m. onward_lands input code rest (suc l) over m (drop-next code l first rest e)))
    room same
    ∙ sym (behind_carried guess input code (did first.instr (input l) memory) (pass guess input (suc l) rest) (onward input (suc l) rest)
    (λ over m. through guess input code rest (suc l) over m (drop-next code l first rest e))))
below_at guess input code (first ∷ rest) l most memory false lt e begin room same = rw (begin, lt) refl

-- ONE PASS: from a visible place the steps below the guess are one pass over the code
pub below_is_pass : (most guess : ℕ) (input : ℕ → ℕ) (code : List MarkedInstruction) (place : ℕ) (memory : List ℕ)
    → BeginsVisible (drop place code) → length code ≤ place + most
    → below most guess input code place memory ≡ pass guess input place (drop place code) 0 memory
unfolding below step
below_is_pass zero guess input code place memory begin room =
    sym (pass_end guess input place 0 (drop place code) memory (drop_all place code (omega arith)) ∙ ap (λ (n : ℕ). went n memory) (let z : place + 0 ≡ place = omega arith in z))
below_is_pass (suc most) guess input code place memory begin room =
    below_at guess input code (drop place code) place most memory (nat_lt place guess) refl refl begin room
    (λ p m b r. below_is_pass most guess input code p m b r)

-- passing over the instructions before the place
pub skip_to : (guess : ℕ) (input : ℕ → ℕ) (part : List MarkedInstruction) (l over : ℕ) (memory : List ℕ)
    → pass guess input l part over memory ≡ pass guess input (l + over) (drop over part) 0 memory
unfolding pass
skip_to guess input part l zero memory = ap (λ (n : ℕ). pass guess input n part 0 memory) (let z : l ≡ l + 0 = omega arith in z)
skip_to guess input [] l (suc over) memory = ap (λ (n : ℕ). went n memory) (let z : l + suc over ≡ l + suc over + 0 = omega arith in z)
skip_to guess input (first ∷ rest) l (suc over) memory =
    skip_to guess input rest (suc l) over memory ∙ ap (λ (n : ℕ). pass guess input n (drop over rest) 0 memory) (let z : suc l + over ≡ l + suc over = omega arith in z)

-- THE LEMMA ON ONE PASS: the steps below the guess are one pass over the code from its beginning
pub one_pass : (guess : ℕ) (input : ℕ → ℕ) (code : List MarkedInstruction) (place : ℕ) (memory : List ℕ)
    → BeginsVisible (drop place code)
    → below (length code) guess input code place memory ≡ pass guess input 0 code place memory
one_pass guess input code place memory begin =
    below_is_pass (length code) guess input code place memory begin (omega arith)
    ∙ sym (skip_to guess input code 0 place memory ∙ ap (λ (n : ℕ). pass guess input n (drop place code) 0 memory) (let z : 0 + place ≡ place = omega arith in z))
