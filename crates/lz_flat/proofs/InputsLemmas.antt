-- Which inputs steps, courses and drives read.
use Rattle.std.proofs.Common.{◌≡◌, ℕ, zero, suc, ◌+◌, ◌-◌, ◌*◌, ◌≤◌, ◌<◌, Bool, true, false, cond, List, [], ◌∷◌, length, drop, nat_lt, eqb, refl, sym, ap, subst, arith}
use Rattle.std.specs.Prelude.{slice_index, slice_set, ⊤}
use Rattle.std.proofs.lemmas.List.{length-drop, length-set, get_or-set_same, get_or-set_other}
use Rattle.std.proofs.lemmas.Bool.{eqb-true, eqb-false}
use Rattle.lz_flat.specs.FlatRuns.{Ran, went, held, breaks, ended, behind, onward, step_from, step, steps_on, below, Course, course, course_behind, block_behind, source, block_length, driven}
use Rattle.lz_flat.specs.Instructions.{Did, moved, blocked, broke, did}
use Rattle.lz_flat.specs.Programs.{MarkedInstruction, FlatProgram, code_of}
use Rattle.lz_flat.proofs.RoundsLemmas.{AreThreads}

-- ---- the same inputs where instructions stand

-- behind an instruction comes the same where each way on is the same
behind_same : (d : Did) (f g : ℕ → List ℕ → Ran) → ((over : ℕ) (m : List ℕ) → f over m ≡ g over m) → behind d f ≡ behind d g
behind_same (moved over memory) f g h = h over memory
behind_same blocked f g h = refl
behind_same (broke kind line) f g h = refl

-- a walk reads the inputs of the places in front of it alone
pub onward_agrees : (a b : ℕ → ℕ) (part : List MarkedInstruction) (l over : ℕ) (memory : List ℕ) → ((k : ℕ) → l ≤ k → k < l + length part → a k ≡ b k) → onward a l part over memory ≡ onward b l part over memory
unfolding onward
onward_agrees a b [] l over memory same = refl
onward_agrees a b (first ∷ rest) l (suc over) memory same = onward_agrees a b rest (suc l) over memory (λ k h t. same k (omega arith) (omega arith))
onward_agrees a b (first ∷ rest) l zero memory same =
    rw (same l (omega arith) (omega arith))
    (ap (cond first.visible (went l memory)) (behind_same (did first.instr (b l) memory) (onward a (suc l) rest) (onward b (suc l) rest)
    (λ over m. onward_agrees a b rest (suc l) over m (λ k h t. same k (omega arith) (omega arith)))))

-- so a step whose instruction stands first
step_from_agrees : (a b : ℕ → ℕ) (part : List MarkedInstruction) (l : ℕ) (memory : List ℕ) → ((k : ℕ) → l ≤ k → k < l + length part → a k ≡ b k) → step_from a l part memory ≡ step_from b l part memory
step_from_agrees a b [] l memory same = refl
step_from_agrees a b (first ∷ rest) l memory same =
    rw (same l (omega arith) (omega arith)) (behind_same (did first.instr (b l) memory) (onward a (suc l) rest) (onward b (suc l) rest)
    (λ over m. onward_agrees a b rest (suc l) over m (λ k h t. same k (omega arith) (omega arith))))

-- so a step from a place
pub step_agrees : (a b : ℕ → ℕ) (code : List MarkedInstruction) (place : ℕ) (memory : List ℕ) → ((k : ℕ) → place ≤ k → k < length code → a k ≡ b k) → step a code place memory ≡ step b code place memory
unfolding step
step_agrees a b code place memory same =
    step_from_agrees a b (drop place code) place memory (λ k h t. same k h (let e : length (drop place code) ≡ length code - place = length-drop place code in omega arith))

-- behind a step come the same steps where each way on has the same
pub steps_same : (place : ℕ) (memory : List ℕ) (r : Ran) (f g : ℕ → List ℕ → Ran) → ((p : ℕ) (m : List ℕ) → f p m ≡ g p m) → steps_on place memory r f ≡ steps_on place memory r g
steps_same place memory (went p m) f g h = h p m
steps_same place memory held f g h = refl
steps_same place memory (breaks kind line) f g h = refl
steps_same place memory ended f g h = refl

-- so the steps below a guess
pub below_agrees : (most guess : ℕ) (a b : ℕ → ℕ) (code : List MarkedInstruction) (place : ℕ) (memory : List ℕ) → ((k : ℕ) → k < length code → a k ≡ b k) → below most guess a code place memory ≡ below most guess b code place memory
unfolding below
below_agrees zero guess a b code place memory same = refl
below_agrees (suc most) guess a b code place memory same =
    rw (step_agrees a b code place memory (λ k h t. same k t))
    (ap (λ (r : Ran). cond (nat_lt place guess) r (went place memory))
    (steps_same place memory (step b code place memory) (below most guess a code) (below most guess b code) (λ p m. below_agrees most guess a b code p m same)))

-- behind a block comes the same where each way on is the same
pub block_same : (r : Ran) (f g : ℕ → List ℕ → Course) → ((place : ℕ) (m : List ℕ) → f place m ≡ g place m) → block_behind r f ≡ block_behind r g
block_same (went place memory) f g h = h place memory
block_same held f g h = refl
block_same (breaks kind line) f g h = refl
block_same ended f g h = refl

-- the drive reads the inputs from its offset on alone
pub driven_agrees : (flat : FlatProgram) (a b : ℕ → ℕ) (bs : List ℕ) (o : ℕ) (places memory : List ℕ) → ((i : ℕ) → o ≤ i → a i ≡ b i) → driven flat a o bs places memory ≡ driven flat b o bs places memory
unfolding driven
driven_agrees flat a b [] o places memory same = refl
driven_agrees flat a b (thread ∷ rest) o places memory same =
    let code = code_of flat thread in
    rw (same o (omega arith), below_agrees (length code) (b o) (source a o) (source b o) code (slice_index places thread) memory (λ k h. same (o + (12 + 3 * k)) (omega arith)))
    (block_same (below (length code) (b o) (source b o) code (slice_index places thread) memory)
    (λ place. driven flat a (o + block_length code) rest (slice_set places thread place)) (λ place. driven flat b (o + block_length code) rest (slice_set places thread place))
    (λ place m. driven_agrees flat a b rest (o + block_length code) (slice_set places thread place) m (λ i h. same i (omega arith))))

-- ---- places rise

-- it leads to no place before this one
abbrev Forward : ℕ → Ran → Type 0
Forward l (went place memory) = l ≤ place
Forward l held = ⊤
Forward l (breaks kind line) = ⊤
Forward l ended = ⊤

-- what leads no further back than the next place leads no further back than this one
forward_later : (l : ℕ) (r : Ran) → Forward (suc l) r → Forward l r
forward_later l (went place memory) h = omega arith
forward_later l held h = tt
forward_later l (breaks kind line) h = tt
forward_later l ended h = tt

-- behind an instruction it leads forward where each way on does
behind_forward : (l : ℕ) (d : Did) (f : ℕ → List ℕ → Ran) → ((over : ℕ) (m : List ℕ) → Forward l (f over m)) → Forward l (behind d f)
behind_forward l (moved over memory) f h = h over memory
behind_forward l blocked f h = tt
behind_forward l (broke kind line) f h = tt

-- so where the walk may stop here
cond_forward : (l : ℕ) (b : Bool) (memory : List ℕ) (r : Ran) → Forward l r → Forward l (cond b (went l memory) r)
cond_forward l true memory r h = let z : l ≤ l = omega arith in z
cond_forward l false memory r h = h

-- a walk leads forward
onward_forward : (input : ℕ → ℕ) (part : List MarkedInstruction) (l over : ℕ) (memory : List ℕ) → Forward l (onward input l part over memory)
unfolding onward
onward_forward input [] l over memory = let z : l ≤ l + over = omega arith in z
onward_forward input (first ∷ rest) l (suc over) memory = forward_later l (onward input (suc l) rest over memory) (onward_forward input rest (suc l) over memory)
onward_forward input (first ∷ rest) l zero memory =
    cond_forward l first.visible memory (behind (did first.instr (input l) memory) (onward input (suc l) rest))
    (forward_later l (behind (did first.instr (input l) memory) (onward input (suc l) rest))
    (behind_forward (suc l) (did first.instr (input l) memory) (onward input (suc l) rest) (λ over m. onward_forward input rest (suc l) over m)))

-- so does a step whose instruction stands first
step_from_forward : (input : ℕ → ℕ) (part : List MarkedInstruction) (l : ℕ) (memory : List ℕ) → Forward (suc l) (step_from input l part memory)
step_from_forward input [] l memory = tt
step_from_forward input (first ∷ rest) l memory = behind_forward (suc l) (did first.instr (input l) memory) (onward input (suc l) rest) (λ over m. onward_forward input rest (suc l) over m)

-- a step leads past its place
step_forward : (input : ℕ → ℕ) (code : List MarkedInstruction) (place : ℕ) (memory : List ℕ) → Forward (suc place) (step input code place memory)
unfolding step
step_forward input code place memory = step_from_forward input (drop place code) place memory

-- where it leads is not before
pub went_forward : (l : ℕ) (r : Ran) (place : ℕ) (memory : List ℕ) → Forward l r → r ≡ went place memory → l ≤ place
went_forward l r place memory h e = subst (Forward l) e h

-- the steps below a guess lead forward
pub below_forward : (most guess : ℕ) (input : ℕ → ℕ) (code : List MarkedInstruction) (place : ℕ) (memory : List ℕ) → Forward place (below most guess input code place memory)
unfolding below
below_forward zero guess input code place memory = let z : place ≤ place = omega arith in z
below_forward (suc most) guess input code place memory = decide (λ p m. below_forward most guess input code p m) (nat_lt place guess) (step input code place memory) (step_forward input code place memory)
  where
    weaker : (p : ℕ) (r : Ran) → suc place ≤ p → Forward p r → Forward place r
    weaker p (went q m) h f = omega arith
    weaker p held h f = tt
    weaker p (breaks kind line) h f = tt
    weaker p ended h f = tt

    decide : ((p : ℕ) (m : List ℕ) → Forward p (below most guess input code p m)) → (b : Bool) (r : Ran) → Forward (suc place) r → Forward place (cond b (steps_on place memory r (below most guess input code)) (went place memory))
    decide later true (went p m) h = weaker p (below most guess input code p m) h (later p m)
    decide later true held h = tt
    decide later true (breaks kind line) h = tt
    decide later true ended h = let z : place ≤ place = omega arith in z
    decide later false r h = let z : place ≤ place = omega arith in z

-- ---- a step reads the inputs of the instructions that it runs alone, which are below the place where it leads

-- behind an instruction a walk to a place reads the inputs before that place alone
behind_until : (a b : ℕ → ℕ) (l : ℕ) (rest : List MarkedInstruction) (d : Did) (place : ℕ) (next_memory : List ℕ)
    → ((over : ℕ) (m : List ℕ) → onward a (suc l) rest over m ≡ went place next_memory → onward b (suc l) rest over m ≡ went place next_memory)
    → behind d (onward a (suc l) rest) ≡ went place next_memory → behind d (onward b (suc l) rest) ≡ went place next_memory
behind_until a b l rest (moved over memory) place next_memory h e = h over memory e
behind_until a b l rest blocked place next_memory h e = absurd cc
behind_until a b l rest (broke kind line) place next_memory h e = absurd cc

-- so where the instruction reads its input
did_until : (a b : ℕ → ℕ) (l : ℕ) (first : MarkedInstruction) (rest : List MarkedInstruction) (memory : List ℕ) (place : ℕ) (next_memory : List ℕ) → ((k : ℕ) → k < place → a k ≡ b k)
    → ((over : ℕ) (m : List ℕ) → onward a (suc l) rest over m ≡ went place next_memory → onward b (suc l) rest over m ≡ went place next_memory)
    → behind (did first.instr (a l) memory) (onward a (suc l) rest) ≡ went place next_memory → behind (did first.instr (b l) memory) (onward b (suc l) rest) ≡ went place next_memory
did_until a b l first rest memory place next_memory same h e =
    let on : suc l ≤ place =
    went_forward (suc l) (behind (did first.instr (a l) memory) (onward a (suc l) rest)) place next_memory
    (behind_forward (suc l) (did first.instr (a l) memory) (onward a (suc l) rest) (λ over m. onward_forward a rest (suc l) over m)) e in
    let here : a l ≡ b l = same l on in
    behind_until a b l rest (did first.instr (b l) memory) place next_memory h
    (subst (λ (x : ℕ). behind (did first.instr x memory) (onward a (suc l) rest) ≡ went place next_memory) here e)

-- so where the walk may stop here
visible_until : (a b : ℕ → ℕ) (l : ℕ) (first : MarkedInstruction) (rest : List MarkedInstruction) (memory : List ℕ) (place : ℕ) (next_memory : List ℕ) (v : Bool) → ((k : ℕ) → k < place → a k ≡ b k)
    → ((over : ℕ) (m : List ℕ) → onward a (suc l) rest over m ≡ went place next_memory → onward b (suc l) rest over m ≡ went place next_memory)
    → cond v (went l memory) (behind (did first.instr (a l) memory) (onward a (suc l) rest)) ≡ went place next_memory
    → cond v (went l memory) (behind (did first.instr (b l) memory) (onward b (suc l) rest)) ≡ went place next_memory
visible_until a b l first rest memory place next_memory true same h e = e
visible_until a b l first rest memory place next_memory false same h e = did_until a b l first rest memory place next_memory same h e

-- a walk to a place reads the inputs before that place alone
onward_until : (a b : ℕ → ℕ) (part : List MarkedInstruction) (l over : ℕ) (memory : List ℕ) (place : ℕ) (next_memory : List ℕ) → ((k : ℕ) → k < place → a k ≡ b k)
    → onward a l part over memory ≡ went place next_memory → onward b l part over memory ≡ went place next_memory
unfolding onward
onward_until a b [] l over memory place next_memory same e = e
onward_until a b (first ∷ rest) l (suc over) memory place next_memory same e = onward_until a b rest (suc l) over memory place next_memory same e
onward_until a b (first ∷ rest) l zero memory place next_memory same e =
    visible_until a b l first rest memory place next_memory first.visible same (λ over m. onward_until a b rest (suc l) over m place next_memory same) e

-- so does a step whose instruction stands first
step_from_until : (a b : ℕ → ℕ) (part : List MarkedInstruction) (l : ℕ) (memory : List ℕ) (place : ℕ) (next_memory : List ℕ) → ((k : ℕ) → k < place → a k ≡ b k)
    → step_from a l part memory ≡ went place next_memory → step_from b l part memory ≡ went place next_memory
step_from_until a b [] l memory place next_memory same e = e
step_from_until a b (first ∷ rest) l memory place next_memory same e =
    did_until a b l first rest memory place next_memory same (λ over m. onward_until a b rest (suc l) over m place next_memory same) e

-- so does a step from a place
pub step_until : (a b : ℕ → ℕ) (code : List MarkedInstruction) (l : ℕ) (memory : List ℕ) (place : ℕ) (next_memory : List ℕ) → ((k : ℕ) → k < place → a k ≡ b k)
    → step a code l memory ≡ went place next_memory → step b code l memory ≡ went place next_memory
unfolding step
step_until a b code l memory place next_memory same e = step_from_until a b (drop l code) l memory place next_memory same e

-- ---- a course reads the inputs from the places on alone

-- behind a step the course is the same where each way on is
course_behind_same : (flat : FlatProgram) (a b : ℕ → ℕ → ℕ) (thread : ℕ) (rest places : List ℕ) (r : Ran)
    → ((place : ℕ) (m : List ℕ) → r ≡ went place m → course flat a rest (slice_set places thread place) m ≡ course flat b rest (slice_set places thread place) m)
    → course_behind r rest (λ place. course flat a rest (slice_set places thread place)) ≡ course_behind r rest (λ place. course flat b rest (slice_set places thread place))
course_behind_same flat a b thread rest places (went place m) h = h place m refl
course_behind_same flat a b thread rest places held h = refl
course_behind_same flat a b thread [] places (breaks kind line) h = refl
course_behind_same flat a b thread (u ∷ rest) places (breaks kind line) h = refl
course_behind_same flat a b thread rest places ended h = refl

-- inputs that agree from each thread's place on agree from a later place of one thread on
agree_after : (a b : ℕ → ℕ → ℕ) (thread place : ℕ) (places : List ℕ) → thread < length places → slice_index places thread ≤ place
    → ((u k : ℕ) → slice_index places u ≤ k → a u k ≡ b u k) → (u k : ℕ) → slice_index (slice_set places thread place) u ≤ k → a u k ≡ b u k
agree_after a b thread place places lt up same u k h = decide (eqb u thread) refl
  where
    decide : (r : Bool) → eqb u thread ≡ r → a u k ≡ b u k
    decide true e =
        let is : u ≡ thread = eqb-true u thread e in
        let at : slice_index (slice_set places thread place) u ≡ place = subst (λ (v : ℕ). slice_index (slice_set places thread place) v ≡ place) (sym is) (get_or-set_same places thread place 0 lt) in
        let old : slice_index places u ≡ slice_index places thread = ap (slice_index places) is in
        same u k (omega arith)
    decide false e =
        let at : slice_index (slice_set places thread place) u ≡ slice_index places u = get_or-set_other places thread u place 0 (eqb-false u thread e) in
        same u k (omega arith)

-- a course reads the inputs from each thread's place on alone
pub course_agrees : (flat : FlatProgram) (a b : ℕ → ℕ → ℕ) (run places memory : List ℕ) → AreThreads (length places) run → ((u k : ℕ) → slice_index places u ≤ k → a u k ≡ b u k)
    → course flat a run places memory ≡ course flat b run places memory
unfolding course
course_agrees flat a b [] places memory are same = refl
course_agrees flat a b (thread ∷ rest) places memory are same =
    rw (step_agrees (a thread) (b thread) (code_of flat thread) (slice_index places thread) memory (λ k h t. same thread k h))
    (course_behind_same flat a b thread rest places (step (b thread) (code_of flat thread) (slice_index places thread) memory)
    (λ place m e. course_agrees flat a b rest (slice_set places thread place) m
    (subst (λ (t : ℕ). AreThreads t rest) (sym (length-set places thread place)) are.1)
    (agree_after a b thread place places are.0
    (let f = went_forward (suc (slice_index places thread)) (step (b thread) (code_of flat thread) (slice_index places thread) memory) place m (step_forward (b thread) (code_of flat thread) (slice_index places thread) memory) e in omega arith) same)))
