-- One turn of a step of a thread, its end, and the instructions that are passed over.
use Rattle.std.proofs.Common.{◌≡◌, ℕ, zero, suc, ◌+◌, ◌-◌, ◌≤◌, ◌<◌, Bool, true, false, cond, List, [], ◌∷◌, length, map, drop, get_or, eqb, slice_index_or, All, Ok, Err, refl, sym, ◌∙◌, ap, subst, arith}
use Rattle.std.specs.List.{AllByRecursion}
use Rattle.std.proofs.lemmas.List.{drop_all, drop-drop, drop-map}
use Rattle.lz_base.specs.declared.word.BreakKind.{BreakKind}
use Rattle.lz_base.proofs.ListLemmas.{drop_item}
use Rattle.lz_flat.specs.declared.perform.Halt.{Halt}
use Rattle.lz_flat.specs.declared.perform.Halt.TheVariants as halts
use Rattle.lz_flat.specs.declared.program.Marked.{Marked}
use Rattle.lz_flat.specs.Programs.{Instruction, sets, takes, assumes, checks, skips, MarkedInstruction, marked, instruction}
use Rattle.lz_flat.specs.Instructions.{moved, blocked, broke, value, did}
use Rattle.lz_flat.specs.FlatRuns.{Ran, went, held, breaks, ended, onward, step}
use Rattle.lz_flat.specs.WellFormed.{IsWord, IsInstructionOf, IsMarkedSo, IsForward, IsCodeOf}
use Rattle.lz_flat.specs.Steps.{Performs, RunsOn, Steps, stepped_so, onward_count, step_count}

-- ---- passing over instructions

-- passing over is going on from further behind
pub onward_skip : (input : ℕ → ℕ) (part : List MarkedInstruction) (l over : ℕ) (memory : List ℕ) → onward input l part over memory ≡ onward input (l + over) (drop over part) 0 memory
unfolding onward
onward_skip input part l zero memory = ap (λ (n : ℕ). onward input n part 0 memory) (let z : l ≡ l + 0 = omega arith in z)
onward_skip input [] l (suc over) memory = ap (λ (n : ℕ). went n memory) (let z : l + suc over ≡ l + suc over + 0 = omega arith in z)
onward_skip input (first ∷ rest) l (suc over) memory =
    onward_skip input rest (suc l) over memory ∙ ap (λ (n : ℕ). onward input n (drop over rest) 0 memory) (let z : suc l + over ≡ l + suc over = omega arith in z)

-- passing over instructions is beginning behind them, for the count too
pub count_skip : (input : ℕ → ℕ) (part : List MarkedInstruction) (l over : ℕ) (memory : List ℕ) → onward_count input l part over memory ≡ onward_count input (l + over) (drop over part) 0 memory
unfolding onward_count
count_skip input part l zero memory = ap (λ (n : ℕ). onward_count input n part 0 memory) (let z : l ≡ l + 0 = omega arith in z)
count_skip input [] l (suc over) memory = refl
count_skip input (first ∷ rest) l (suc over) memory =
    count_skip input rest (suc l) over memory ∙ ap (λ (n : ℕ). onward_count input n (drop over rest) 0 memory) (let z : suc l + over ≡ l + suc over = omega arith in z)

-- ---- what well marked code says of one instruction

-- the instruction at a place of well marked code
pub record IsInstructionAt (n left : ℕ) (i : Instruction) (visible : Bool) : Type 0 where
  pub named : IsInstructionOf n i
  pub mark : IsMarkedSo i visible
  pub forward : IsForward left i

-- the instruction at a place is one of the code: it names words within, and goes forward alone
pub instruction_at : (n : ℕ) (code : List Marked) (at : ℕ) (next : Marked) → IsCodeOf n (map marked code) → at < length code → next ≡ get_or code at next
    → IsInstructionAt n (length code - at) (instruction next.instr) next.visible
instruction_at n [] at next is lt e = absurd (let z : ⊥ = omega arith in z)
instruction_at n (x ∷ xs) zero next is lt e = rw e record {
  named = is.0;
  mark = is.1;
  forward = subst (λ (left : ℕ). IsForward left (instruction x.instr)) (let k = length_marked xs in let z : suc (length (map marked xs)) ≡ suc (length xs) - 0 = omega arith in z) is.2;
}
  where
    length_marked : (ys : List Marked) → length (map marked ys) ≡ length ys
    length_marked [] = refl
    length_marked (y ∷ ys) = ap suc (length_marked ys)
instruction_at n (x ∷ xs) (suc at) next is lt e =
    subst (λ (left : ℕ). IsInstructionAt n left (instruction next.instr) next.visible) (let z : length xs - at ≡ suc (length xs) - suc at = omega arith in z) (instruction_at n xs at next is.3 (omega arith) e)

-- an instruction that is not visible is not blocked
pub not_blocked : {n left : ℕ} {i : Instruction} (input : ℕ) (memory : List ℕ) → IsInstructionAt n left i false → did i input memory ≡ blocked → ⊥
unfolding did
not_blocked {i = sets to of} input memory is e = cc
not_blocked {i = takes to} input memory is e = cc
not_blocked {i = assumes test} input memory is e = let m = is.mark in cc
not_blocked {i = checks test kind line} input memory is e = decide (eqb (value test memory) 0) e
  where
    decide : (b : Bool) → cond b (broke kind line) (moved 0 memory) ≡ blocked → ⊥
    decide true h = cc
    decide false h = cc
not_blocked {i = skips test by} input memory is e = cc

-- an instruction moves no further than the end of the code
pub moves_within : (n left : ℕ) (i : Instruction) (visible : Bool) (input : ℕ) (memory : List ℕ) (over : ℕ) (after : List ℕ) → IsInstructionAt n left i visible → 1 ≤ left → did i input memory ≡ moved over after → 1 + over ≤ left
unfolding did
moves_within n left (sets to of) visible input memory over after is some e = let z : over ≡ 0 = cc in omega arith
moves_within n left (takes to) visible input memory over after is some e = let z : over ≡ 0 = cc in omega arith
moves_within n left (assumes test) visible input memory over after is some e = let z = cond_zero (eqb (value test memory) 0) e in omega arith
  where
    cond_zero : (b : Bool) → cond b blocked (moved 0 memory) ≡ moved over after → over ≡ 0
    cond_zero true h = absurd cc
    cond_zero false h = cc
moves_within n left (checks test kind line) visible input memory over after is some e = let z = cond_zero (eqb (value test memory) 0) e in omega arith
  where
    cond_zero : (b : Bool) → cond b (broke kind line) (moved 0 memory) ≡ moved over after → over ≡ 0
    cond_zero true h = absurd cc
    cond_zero false h = cc
moves_within n left (skips test by) visible input memory over after is some e =
    let f = is.forward in
    let z : cond (eqb (value test memory) 0) 0 (by - 1) ≡ over = cc in
    let w = cond_most (eqb (value test memory) 0) in
    omega arith
  where
    cond_most : (b : Bool) → cond b 0 (by - 1) ≤ by - 1
    cond_most true = omega arith
    cond_most false = omega arith

-- ---- the loop over what follows the first instruction

-- What is left from a place on comes to what the whole comes to, with so many instructions run.
pub record LeftFrom (code : List Marked) (input : ℕ → ℕ) (from : ℕ) (start : List ℕ) (at used : ℕ) (memory : List ℕ) : Type 0 where
  pub same : onward input at (map marked (drop at code)) 0 memory ≡ onward input from (map marked (drop from code)) 0 start
  pub count : used + onward_count input at (map marked (drop at code)) 0 memory ≡ suc (onward_count input from (map marked (drop from code)) 0 start)
  pub within : at ≤ length code
  pub few : used ≤ at
  pub words : All IsWord memory
  pub size : length memory ≡ length start

-- before the first turn of the loop all from its start is left
pub left_at_first : (code : List Marked) (input : ℕ → ℕ) (from : ℕ) (start : List ℕ) → from ≤ length code → 1 ≤ from → All IsWord start → LeftFrom code input from start from 1 start
left_at_first code input from start within some words = record {
  same = refl;
  count = let z : 1 + onward_count input from (map marked (drop from code)) 0 start ≡ suc (onward_count input from (map marked (drop from code)) 0 start) = omega arith in z;
  within = within;
  few = some;
  words = words;
  size = refl;
}

-- an instruction that is not visible and moves on leads to what is behind it
onward_moves : (input : ℕ → ℕ) (l : ℕ) (first : MarkedInstruction) (rest : List MarkedInstruction) (memory after : List ℕ) (over : ℕ) → first.visible ≡ false → did first.instr (input l) memory ≡ moved over after
    → onward input l (first ∷ rest) 0 memory ≡ onward input (suc l) rest over after
unfolding onward
onward_moves input l first rest memory after over v e = rw (v, e) refl

-- it counts one more
count_moves : (input : ℕ → ℕ) (l : ℕ) (first : MarkedInstruction) (rest : List MarkedInstruction) (memory after : List ℕ) (over : ℕ) → first.visible ≡ false → did first.instr (input l) memory ≡ moved over after
    → onward_count input l (first ∷ rest) 0 memory ≡ suc (onward_count input (suc l) rest over after)
unfolding onward_count
count_moves input l first rest memory after over v e = rw (v, e) refl

-- one that breaks ends the walk
onward_breaks : (input : ℕ → ℕ) (l : ℕ) (first : MarkedInstruction) (rest : List MarkedInstruction) (memory : List ℕ) (kind : BreakKind) (line : ℕ) → first.visible ≡ false → did first.instr (input l) memory ≡ broke kind line
    → onward input l (first ∷ rest) 0 memory ≡ breaks kind line
unfolding onward
onward_breaks input l first rest memory kind line v e = rw (v, e) refl

-- what is left behind the instructions passed over, as definitions read it
behind_drop : (code : List Marked) (at over : ℕ) → drop over (map marked (drop (at + 1) code)) ≡ map marked (drop (at + (1 + over)) code)
behind_drop code at over =
    drop-map marked over (drop (at + 1) code) ∙ ap (map marked) (drop-drop over (at + 1) code ∙ ap (λ (n : ℕ). drop n code) (let z : at + 1 + over ≡ at + (1 + over) = omega arith in z))

-- a turn of the loop keeps what is left
pub left_moves : {code : List Marked} {input : ℕ → ℕ} {from : ℕ} {start : List ℕ} {at used : ℕ} {memory after : List ℕ} (next : Marked) (over n : ℕ) → LeftFrom code input from start at used memory
    → IsCodeOf n (map marked code) → at < length code → next ≡ get_or code at next → next.visible ≡ false
    → Performs (instruction next.instr) (input at) memory after (Ok over) → All IsWord after → length after ≡ length memory
    → LeftFrom code input from start (at + (1 + over)) (used + 1) after
left_moves {code} {input} {from} {start} {at} {used} {memory} {after} next over n left is lt e v performs words size =
    let more = drop_item code at next lt e in
    let rest = map marked (drop (at + 1) code) in
    let place : suc at + over ≡ at + (1 + over) = omega arith in
    let fact = instruction_at n code at next is lt e in
    let within = moves_within n (length code - at) (instruction next.instr) next.visible (input at) memory over after fact (omega arith) performs in
    let here : onward input at (marked next ∷ rest) 0 memory ≡ onward input (at + (1 + over)) (map marked (drop (at + (1 + over)) code)) 0 after =
    onward_moves input at (marked next) rest memory after over v performs ∙ onward_skip input rest (suc at) over after
    ∙ rw (place, behind_drop code at over) refl in
    let counted : onward_count input at (marked next ∷ rest) 0 memory ≡ suc (onward_count input (at + (1 + over)) (map marked (drop (at + (1 + over)) code)) 0 after) =
    count_moves input at (marked next) rest memory after over v performs ∙ ap suc (count_skip input rest (suc at) over after
    ∙ rw (place, behind_drop code at over) refl) in
    let old = subst (λ (part : List Marked). onward input at (map marked part) 0 memory ≡ onward input from (map marked (drop from code)) 0 start) more left.same in
    let old_count = subst (λ (part : List Marked). used + onward_count input at (map marked part) 0 memory ≡ suc (onward_count input from (map marked (drop from code)) 0 start)) more left.count in
    record {
      same = sym here ∙ old;
      count = omega (arith, counted, old_count);
      within = omega (arith, within);
      few = let f = left.few in omega arith;
      words = words;
      size = size ∙ left.size;
    }

-- a turn that breaks breaks the walk from the start
pub left_breaks : (code : List Marked) (input : ℕ → ℕ) (from : ℕ) (start : List ℕ) (at used : ℕ) (memory after : List ℕ) (next : Marked) (kind : BreakKind) (line : ℕ) → LeftFrom code input from start at used memory
    → at < length code → next ≡ get_or code at next → next.visible ≡ false
    → Performs (instruction next.instr) (input at) memory after (Err (halts.Broke kind line))
    → onward input from (drop from (map marked code)) 0 start ≡ breaks kind line
left_breaks code input from start at used memory after next kind line left lt e v performs =
    let more = drop_item code at next lt e in
    let rest = map marked (drop (at + 1) code) in
    let old = subst (λ (part : List Marked). onward input at (map marked part) 0 memory ≡ onward input from (map marked (drop from code)) 0 start) more left.same in
    rw (drop-map marked from code) (sym old ∙ onward_breaks input at (marked next) rest memory kind line v performs.0)

-- a turn that stops stops the walk from the start
pub left_halts : {code : List Marked} {input : ℕ → ℕ} {from : ℕ} {start : List ℕ} {at used : ℕ} {memory : List ℕ} (after : List ℕ) (next : Marked) (halt : Halt) (n : ℕ) → LeftFrom code input from start at used memory
    → IsCodeOf n (map marked code) → at < length code → next ≡ get_or code at next → next.visible ≡ false
    → Performs (instruction next.instr) (input at) memory after (Err halt) → RunsOn (map marked code) input from start after (Err halt)
left_halts {code} {at} after next halts.Blocked n left is lt e v performs =
    let unseen = subst (λ (b : Bool). IsInstructionAt n (length code - at) (instruction next.instr) b) v (instruction_at n code at next is lt e) in
    not_blocked _ _ unseen performs.0
left_halts {code} {input} {from} {start} {at} {used} {memory} after next (halts.Broke kind line) n left is lt e v performs =
    left_breaks code input from start at used memory after next kind line left lt e v performs

-- at the end the walk leads to the end
onward_ends : (input : ℕ → ℕ) (l : ℕ) (memory : List ℕ) → onward input l [] 0 memory ≡ went l memory
unfolding onward
onward_ends input l memory = ap (λ (n : ℕ). went n memory) (let z : l + 0 ≡ l = omega arith in z)

-- and counts nothing
count_ends : (input : ℕ → ℕ) (l : ℕ) (memory : List ℕ) → onward_count input l [] 0 memory ≡ 0
unfolding onward_count
count_ends input l memory = refl

-- at a visible instruction the walk leads there
onward_visible : (input : ℕ → ℕ) (l : ℕ) (first : MarkedInstruction) (rest : List MarkedInstruction) (memory : List ℕ) → first.visible ≡ true → onward input l (first ∷ rest) 0 memory ≡ went l memory
unfolding onward
onward_visible input l first rest memory v = rw v refl

-- and counts nothing
count_visible : (input : ℕ → ℕ) (l : ℕ) (first : MarkedInstruction) (rest : List MarkedInstruction) (memory : List ℕ) → first.visible ≡ true → onward_count input l (first ∷ rest) 0 memory ≡ 0
unfolding onward_count
count_visible input l first rest memory v = rw v refl

-- where a step ends, at the end of the code or at a visible instruction
pub record EndsAt (code : List Marked) (input : ℕ → ℕ) (from : ℕ) (start : List ℕ) (at used : ℕ) (memory : List ℕ) : Type 0 where
  pub led : onward input from (drop from (map marked code)) 0 start ≡ went at memory
  pub count : used ≡ suc (onward_count input from (drop from (map marked code)) 0 start)

-- a loop that comes to the end has the walk from the start
pub left_ends : {code : List Marked} {input : ℕ → ℕ} {from : ℕ} {start : List ℕ} {at used : ℕ} {memory : List ℕ} → LeftFrom code input from start at used memory → length code ≤ at → EndsAt code input from start at used memory
left_ends {code} {input} {from} {start} {at} {used} {memory} left h =
    let none : drop at code ≡ [] = drop_all at code h in
    let same = subst (λ (part : List Marked). onward input at (map marked part) 0 memory ≡ onward input from (map marked (drop from code)) 0 start) none left.same in
    let count = subst (λ (part : List Marked). used + onward_count input at (map marked part) 0 memory ≡ suc (onward_count input from (map marked (drop from code)) 0 start)) none left.count in
    let zero_ = count_ends input at memory in
    record {
      led = rw (drop-map marked from code) (sym same ∙ onward_ends input at memory);
      count = rw (drop-map marked from code) (omega (arith, count, zero_));
    }

-- so has one that comes to a visible instruction
pub left_stops : {code : List Marked} {input : ℕ → ℕ} {from : ℕ} {start : List ℕ} {at used : ℕ} {memory : List ℕ} (next : Marked) → LeftFrom code input from start at used memory → at < length code → next ≡ get_or code at next → next.visible ≡ true
    → EndsAt code input from start at used memory
left_stops {code} {input} {from} {start} {at} {used} {memory} next left lt e v =
    let more = drop_item code at next lt e in
    let rest = map marked (drop (at + 1) code) in
    let same = subst (λ (part : List Marked). onward input at (map marked part) 0 memory ≡ onward input from (map marked (drop from code)) 0 start) more left.same in
    let count = subst (λ (part : List Marked). used + onward_count input at (map marked part) 0 memory ≡ suc (onward_count input from (map marked (drop from code)) 0 start)) more left.count in
    let zero_ = count_visible input at (marked next) rest memory v in
    record {
      led = rw (drop-map marked from code) (sym same ∙ onward_visible input at (marked next) rest memory v);
      count = rw (drop-map marked from code) (omega (arith, count, zero_));
    }

-- ---- a whole step

-- what is left at a place, as definitions read it
drop_marked : (code : List Marked) (at : ℕ) (next : Marked) → at < length code → next ≡ get_or code at next → drop at (map marked code) ≡ marked next ∷ map marked (drop (at + 1) code)
drop_marked code at next lt e = drop-map marked at code ∙ ap (map marked) (drop_item code at next lt e)

-- code has as many instructions as definitions read
pub length_marked : (code : List Marked) → length (map marked code) ≡ length code
length_marked [] = refl
length_marked (x ∷ xs) = ap suc (length_marked xs)

-- past the end a step says that the thread has ended
pub step_ends : (code : List Marked) (input : ℕ → ℕ) (at : ℕ) (memory : List ℕ) → length code ≤ at → step input (map marked code) at memory ≡ ended
unfolding step
step_ends code input at memory h = rw (drop_all at (map marked code) (let k = length_marked code in omega arith)) refl

-- a step whose first instruction is blocked is held
pub step_blocked : (code : List Marked) (input : ℕ → ℕ) (at : ℕ) (memory after : List ℕ) (next : Marked) → at < length code → next ≡ get_or code at next
    → Performs (instruction next.instr) (input at) memory after (Err halts.Blocked) → step input (map marked code) at memory ≡ held
unfolding step
step_blocked code input at memory after next lt e performs = rw (drop_marked code at next lt e, performs.0) refl

-- a step whose first instruction breaks breaks
pub step_breaks : (code : List Marked) (input : ℕ → ℕ) (at : ℕ) (memory after : List ℕ) (next : Marked) (kind : BreakKind) (line : ℕ) → at < length code → next ≡ get_or code at next
    → Performs (instruction next.instr) (input at) memory after (Err (halts.Broke kind line)) → step input (map marked code) at memory ≡ breaks kind line
unfolding step
step_breaks code input at memory after next kind line lt e performs = rw (drop_marked code at next lt e, performs.0) refl

-- behind the first instruction of a step come those from its place on
pub step_moves : (code : List Marked) (input : ℕ → ℕ) (at : ℕ) (memory after : List ℕ) (next : Marked) (over : ℕ) (r : Ran) → at < length code → next ≡ get_or code at next
    → Performs (instruction next.instr) (input at) memory after (Ok over) → onward input (at + (1 + over)) (drop (at + (1 + over)) (map marked code)) 0 after ≡ r
    → step input (map marked code) at memory ≡ r
unfolding step
step_moves code input at memory after next over r lt e performs led =
    let place : suc at + over ≡ at + (1 + over) = omega arith in
    let skipped : onward input (suc at) (map marked (drop (at + 1) code)) over after ≡ onward input (at + (1 + over)) (drop (at + (1 + over)) (map marked code)) 0 after =
    onward_skip input (map marked (drop (at + 1) code)) (suc at) over after
    ∙ rw (place, behind_drop code at over, drop-map marked (at + (1 + over)) code) refl in
    rw (drop_marked code at next lt e, performs) (skipped ∙ led)

-- a step whose first instruction moves on counts it and those behind it
pub step_counts : (code : List Marked) (input : ℕ → ℕ) (at : ℕ) (memory after : List ℕ) (next : Marked) (over : ℕ) → at < length code → next ≡ get_or code at next
    → Performs (instruction next.instr) (input at) memory after (Ok over)
    → suc (onward_count input (at + (1 + over)) (drop (at + (1 + over)) (map marked code)) 0 after) ≡ step_count input (map marked code) at memory
unfolding step_count
step_counts code input at memory after next over lt e performs =
    let place : suc at + over ≡ at + (1 + over) = omega arith in
    let skipped : onward_count input (suc at) (map marked (drop (at + 1) code)) over after ≡ onward_count input (at + (1 + over)) (drop (at + (1 + over)) (map marked code)) 0 after =
    count_skip input (map marked (drop (at + 1) code)) (suc at) over after
    ∙ rw (place, behind_drop code at over, drop-map marked (at + (1 + over)) code) refl in
    rw (drop_marked code at next lt e, performs) (ap suc (sym skipped))

-- a step whose first instruction stops stops
pub step_halts : (code : List Marked) (input : ℕ → ℕ) (at : ℕ) (memory after : List ℕ) (next : Marked) (halt : Halt) → at < length code → next ≡ get_or code at next
    → Performs (instruction next.instr) (input at) memory after (Err halt) → Steps (map marked code) input at at memory after (stepped_so (Err halt))
step_halts code input at memory after next halts.Blocked lt e performs = (step_blocked code input at memory after next lt e performs, refl, performs.1)
step_halts code input at memory after next (halts.Broke kind line) lt e performs = (step_breaks code input at memory after next kind line lt e performs, refl)

-- so does one that is stopped behind its first instruction
pub step_halts_behind : (code : List Marked) (input : ℕ → ℕ) (at : ℕ) (memory after later : List ℕ) (next : Marked) (over : ℕ) (halt : Halt) → at < length code → next ≡ get_or code at next
    → Performs (instruction next.instr) (input at) memory after (Ok over) → RunsOn (map marked code) input (at + (1 + over)) after later (Err halt)
    → Steps (map marked code) input at at memory later (stepped_so (Err halt))
step_halts_behind code input at memory after later next over halts.Blocked lt e performs runs = absurd runs
step_halts_behind code input at memory after later next over (halts.Broke kind line) lt e performs runs =
    (step_moves code input at memory after next over (breaks kind line) lt e performs runs, refl)

-- the code of a thread of a program
pub code_at : (threads : List (List Marked)) (thread : ℕ) (code : List Marked) → thread < length threads → code ≡ get_or threads thread code → slice_index_or (map (λ c. map marked c) threads) thread [] ≡ map marked code
code_at [] thread code lt e = absurd (let z : ⊥ = omega arith in z)
code_at (x ∷ xs) zero code lt e = ap (map marked) (sym e)
code_at (x ∷ xs) (suc thread) code lt e = code_at xs thread code (omega arith) e

-- the code of each thread of a well marked program is well marked
pub codes_at : (n : ℕ) (threads : List (List Marked)) (thread : ℕ) (code : List Marked) → AllByRecursion (IsCodeOf n) (map (λ c. map marked c) threads) → thread < length threads → code ≡ get_or threads thread code → IsCodeOf n (map marked code)
codes_at n [] thread code all lt e = absurd (let z : ⊥ = omega arith in z)
codes_at n (x ∷ xs) zero code all lt e = subst (λ (c : List Marked). IsCodeOf n (map marked c)) (sym e) all.0
codes_at n (x ∷ xs) (suc thread) code all lt e = codes_at n xs thread code all.1 (omega arith) e

-- the first instruction of a step moves no further than the end of the code
pub first_within : (n : ℕ) (code : List Marked) (input : ℕ → ℕ) (at : ℕ) (memory after : List ℕ) (next : Marked) (over : ℕ) → IsCodeOf n (map marked code) → at < length code → next ≡ get_or code at next
    → Performs (instruction next.instr) (input at) memory after (Ok over) → at + (1 + over) ≤ length code
first_within n code input at memory after next over is lt e performs =
    let within = moves_within n (length code - at) (instruction next.instr) next.visible (input at) memory over after (instruction_at n code at next is lt e) (omega arith) performs in
    omega (arith, within)
