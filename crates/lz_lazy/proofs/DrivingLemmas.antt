-- The straight program fails exactly where its inputs drive a break.
use Rattle.std.proofs.Common.{◌≡◌, ℕ, zero, suc, ◌+◌, ◌*◌, ◌<◌, Bool, true, false, not, ◌&&◌, cond, List, [], ◌∷◌, ◌++◌, length, drop, nat_lt, eqb, replicate, refl, sym, ◌∙◌, ap, subst, arith}
use Rattle.std.specs.Prelude.{slice_index, slice_set, slice_index_or, ◌==◌, ⊤, ◌↔◌}
use Rattle.std.specs.List.{AllByRecursion}
use Rattle.std.proofs.lemmas.List.{length-set, length-append, get_or-set_same, get_or-set_other}
use Rattle.std.proofs.lemmas.Bool.{eqb-true, eqb-false}
use Rattle.lz_base.specs.declared.word.BreakKind.{BreakKind}
use Rattle.lz_flat.specs.FlatRuns.{Ran, went, held, breaks, ended, behind, below, Course, going, stuck, broken, block_behind, source, block_length, driven, blocks, opening, DrivesBreak}
use Rattle.lz_flat.specs.Instructions.{value, put, Did, moved, blocked, broke, did}
use Rattle.lz_flat.specs.Programs.{sets, takes, MarkedInstruction, FlatProgram, code_of, Statement}
use Rattle.lz_flat.specs.StraightRuns.{Fate, still, stops, fails, fate_behind, straight}
use Rattle.lz_flat.specs.WellFormed.{IsCodeOf, BeginsVisible, IsWellMarked}
use Rattle.lz_lazy.specs.Encoding.{whole, guess_place, flag_place, runs_next, clamp, mask_of, idle, always, head, encoded, encoded_blocks, encoding, encoded_first}
use Rattle.lz_base.specs.Words.{value_bound}
use Rattle.lz_flat.proofs.LandingLemmas.{drop-none, drop-next, begins, begins_none}
use Rattle.lz_flat.proofs.RoundsLemmas.{AreThreads, opening_threads}
use Rattle.lz_flat.proofs.WordsLemmas.{KeepsLength, did_keeps_length}
use Rattle.lz_lazy.proofs.GuessesLemmas.{clamped, clamped_below}
use Rattle.lz_lazy.proofs.MasksLemmas.{IsMask, mask_is, mask_enough}
use Rattle.lz_lazy.proofs.OnePassLemmas.{pass, one_pass}
use Rattle.lz_lazy.proofs.LaidOutLemmas.{laid, set_guess, ready_next, value_clamp}
use Rattle.lz_lazy.proofs.SimulationLemmas.{taken, constant_is, sets_did, third, fate_of, simulates}

-- ---- one list of statements after another

-- what comes behind statements that stop or fail is not run
abbrev pub fate_then : Fate → (List ℕ → Fate) → Fate
fate_then (still memory) next = next memory
fate_then stops next = stops
fate_then fails next = fails

-- behind an instruction, then behind the rest
then_did : (d : Did) (f g : List ℕ → Fate) (next : List ℕ → Fate) → ((m : List ℕ) → f m ≡ fate_then (g m) next) → fate_behind d f ≡ fate_then (fate_behind d g) next
then_did (moved over memory) f g next h = h memory
then_did blocked f g next h = refl
then_did (broke kind line) f g next h = refl

-- so behind either of two
then_cond : (b : Bool) (f g f' g' : Fate) (next : List ℕ → Fate) → f ≡ fate_then g next → f' ≡ fate_then g' next → cond b f f' ≡ fate_then (cond b g g') next
then_cond true f g f' g' next h k = h
then_cond false f g f' g' next h k = k

-- statements behind others run from where those lead
pub straight_append : (input : ℕ → ℕ) (i : ℕ) (xs ys : List Statement) (memory : List ℕ)
    → straight input i (xs ++ ys) memory ≡ fate_then (straight input i xs memory) (straight input (i + length xs) ys)
unfolding straight
straight_append input i [] ys memory = ap (λ (k : ℕ). straight input k ys memory) (let z : i ≡ i + 0 = omega arith in z)
straight_append input i (x ∷ xs) ys memory =
    let each : (m : List ℕ) → straight input (suc i) (xs ++ ys) m ≡ fate_then (straight input (suc i) xs m) (straight input (i + length (x ∷ xs)) ys) =
    λ m. straight_append input (suc i) xs ys m ∙ ap (λ (k : ℕ). fate_then (straight input (suc i) xs m) (straight input k ys)) (let z : suc i + length xs ≡ i + suc (length xs) = omega arith in z) in
    then_cond (value x.guard memory == 0) (straight input (suc i) (xs ++ ys) memory) (straight input (suc i) xs memory)
    (fate_behind (did x.instr (input i) memory) (straight input (suc i) (xs ++ ys))) (fate_behind (did x.instr (input i) memory) (straight input (suc i) xs))
    (straight input (i + length (x ∷ xs)) ys) (each memory)
    (then_did (did x.instr (input i) memory) (straight input (suc i) (xs ++ ys)) (straight input (suc i) xs) (straight input (i + length (x ∷ xs)) ys) each)

-- ---- the head of a block

-- the nine statements that do nothing do nothing
idles : (input : ℕ → ℕ) (o : ℕ) (rest : List Statement) (memory : List ℕ)
    → straight input o (idle ∷ idle ∷ idle ∷ idle ∷ idle ∷ idle ∷ idle ∷ idle ∷ idle ∷ rest) memory ≡ straight input (suc (suc (suc (suc (suc (suc (suc (suc (suc o))))))))) rest memory
unfolding straight value
idles input o rest memory = refl

-- the guess takes its input
takes_did : (n : ℕ) (input : ℕ) (memory : List ℕ) → did (takes (whole (guess_place n))) input memory ≡ moved 0 (put (whole (guess_place n)) input memory)
unfolding did
takes_did n input memory = refl

-- the clamp leaves a guess that compares with each place as before
clamps : (input : ℕ → ℕ) (o n mask : ℕ) (rest : List Statement) (words : List ℕ) (guess flag : ℕ) (places : List ℕ) → length words ≡ n → IsMask mask
    → straight input o (always (sets (whole (guess_place n)) (clamp n mask)) ∷ rest) (laid words guess flag places) ≡ straight input (suc o) rest (laid words (clamped guess mask) flag places)
clamps input o n mask rest words guess flag places long is =
    taken input o (always (sets (whole (guess_place n)) (clamp n mask))) rest (laid words guess flag places) (constant_is 1 (laid words guess flag places))
    ∙ rw (
      sets_did (whole (guess_place n)) (clamp n mask) (input o) (laid words guess flag places),
      value_clamp n mask words guess flag places long is,
      set_guess n words guess flag (clamped guess mask) places long,
    ) refl

-- the guess of a block, as the straight program keeps it
abbrev pub kept_guess : (ℕ → ℕ) → ℕ → List MarkedInstruction → ℕ
kept_guess input o code = clamped (input o) (mask_of (length code))

-- the head of a block sets the guess and the flag, and its code follows
head_then : (input : ℕ → ℕ) (o n thread : ℕ) (code : List MarkedInstruction) (rest : List Statement) (words : List ℕ) (guess flag : ℕ) (places : List ℕ) → length words ≡ n
    → straight input o (head n thread code ++ rest) (laid words guess flag places)
    ≡ straight input (o + (12 + 3 * 0)) rest (laid words (kept_guess input o code) (ready_next (kept_guess input o code) (slice_index places thread) 0 code) places)
head_then input o n thread code rest words guess flag places long =
    let at : suc (suc (suc (suc (suc (suc (suc (suc (suc (suc (suc (suc o))))))))))) ≡ o + (12 + 3 * 0) = omega arith in
    let kept = kept_guess input o code in
    taken input o (always (takes (whole (guess_place n)))) _ (laid words guess flag places) (constant_is 1 (laid words guess flag places))
    ∙ rw (takes_did n (input o) (laid words guess flag places), set_guess n words guess flag (input o) places long)
    (clamps input (suc o) n (mask_of (length code)) _ words (input o) flag places long (mask_is (length code))
    ∙ idles input (suc (suc o)) (always (sets (whole (flag_place n)) (runs_next n thread 0 code)) ∷ rest) (laid words kept flag places)
    ∙ third input (suc (suc (suc (suc (suc (suc (suc (suc (suc (suc (suc o))))))))))) n thread 0 code rest words kept flag places long
    ∙ ap (λ (k : ℕ). straight input k rest (laid words kept (ready_next kept (slice_index places thread) 0 code) places)) at)

-- each instruction has three statements
pub length_encoded : (n thread l : ℕ) (code : List MarkedInstruction) → length (encoded n thread l code) ≡ 3 * length code
unfolding encoded
length_encoded n thread l [] = refl
length_encoded n thread l (first ∷ rest) = let h = length_encoded n thread (suc l) rest in omega arith

-- ---- what a pass keeps

-- where a step or a block leads, the place is visible or the end and the memory has its length
abbrev pub WentWell : ℕ → List MarkedInstruction → Ran → Type 0
WentWell n code (went place memory) = (length memory ≡ n) × BeginsVisible (drop place code)
WentWell n code held = ⊤
WentWell n code (breaks kind line) = ⊤
WentWell n code ended = ⊤

-- behind an instruction all is well where each way on is
well_behind : (n : ℕ) (code : List MarkedInstruction) (d : Did) (f : ℕ → List ℕ → Ran) → KeepsLength n d → ((over : ℕ) (m : List ℕ) → length m ≡ n → WentWell n code (f over m)) → WentWell n code (behind d f)
well_behind n code (moved over memory) f keeps h = h over memory keeps
well_behind n code blocked f keeps h = tt
well_behind n code (broke kind line) f keeps h = tt

-- so where the walk may stop here
well_cond : (n : ℕ) (code : List MarkedInstruction) (l : ℕ) (first : MarkedInstruction) (rest : List MarkedInstruction) (memory : List ℕ) (visible below : Bool) (r : Ran)
    → first.visible ≡ visible → drop l code ≡ first ∷ rest → length memory ≡ n → WentWell n code r → WentWell n code (cond (visible && below) (went l memory) r)
well_cond n code l first rest memory true true r v e long h = (long, begins first rest (drop l code) e v)
well_cond n code l first rest memory true false r v e long h = h
well_cond n code l first rest memory false true r v e long h = h
well_cond n code l first rest memory false false r v e long h = h

-- a pass over the code ends well
pub pass_well : (n guess : ℕ) (input : ℕ → ℕ) (code part : List MarkedInstruction) (l over : ℕ) (memory : List ℕ) → drop l code ≡ part → length memory ≡ n → WentWell n code (pass guess input l part over memory)
unfolding pass
pass_well n guess input code [] l over memory e long = (long, begins_none (drop (l + over) code) (drop-none code l over e))
pass_well n guess input code (first ∷ rest) l (suc over) memory e long = pass_well n guess input code rest (suc l) over memory (drop-next code l first rest e) long
pass_well n guess input code (first ∷ rest) l zero memory e long =
    well_cond n code l first rest memory first.visible (not (nat_lt l guess)) (behind (did first.instr (input l) memory) (pass guess input (suc l) rest)) refl e long
    (well_behind n code (did first.instr (input l) memory) (pass guess input (suc l) rest) (did_keeps_length n first.instr (input l) memory long)
    (λ over m k. pass_well n guess input code rest (suc l) over m (drop-next code l first rest e) k))

-- ---- a block

-- a place set to itself changes nothing
set_own : (places : List ℕ) (thread : ℕ) → slice_set places thread (slice_index places thread) ≡ places
set_own [] thread = refl
set_own (x ∷ xs) zero = refl
set_own (x ∷ xs) (suc thread) = ap (λ (t : List ℕ). x ∷ t) (set_own xs thread)

-- a block of statements is a pass over the code of its thread
pub block : (input : ℕ → ℕ) (o n thread : ℕ) (code : List MarkedInstruction) (words : List ℕ) (guess flag : ℕ) (places : List ℕ)
    → length words ≡ n → thread < length places → IsCodeOf n code → length code < value_bound → BeginsVisible (drop (slice_index places thread) code)
    → straight input o (head n thread code ++ encoded n thread 0 code) (laid words guess flag places)
    ≡ fate_of thread (kept_guess input o code) places (below (length code) (input o) (source input o) code (slice_index places thread) words)
block input o n thread code words guess flag places long lt is short begin =
    let place = slice_index places thread in
    let kept = kept_guess input o code in
    let z : 0 + place ≡ place = omega arith in
    let run : straight input (o + (12 + 3 * 0)) (encoded n thread 0 code) (laid words kept (ready_next kept (0 + place) 0 code) (slice_set places thread (0 + place)))
    ≡ fate_of thread kept places (pass kept (source input o) 0 code place words) = simulates input o n thread 0 place code words kept places long lt is in
    let run' : straight input (o + (12 + 3 * 0)) (encoded n thread 0 code) (laid words kept (ready_next kept place 0 code) places)
    ≡ fate_of thread kept places (pass kept (source input o) 0 code place words) =
    subst (λ (q : List ℕ). straight input (o + (12 + 3 * 0)) (encoded n thread 0 code) (laid words kept (ready_next kept place 0 code) q) ≡ fate_of thread kept places (pass kept (source input o) 0 code place words)) (set_own places thread)
    (subst (λ (p : ℕ). straight input (o + (12 + 3 * 0)) (encoded n thread 0 code) (laid words kept (ready_next kept p 0 code) (slice_set places thread p)) ≡ fate_of thread kept places (pass kept (source input o) 0 code place words)) z run) in
    head_then input o n thread code (encoded n thread 0 code) words guess flag places long ∙ run'
    ∙ ap (fate_of thread kept places)
    (sym (one_pass kept (source input o) code place words begin)
    ∙ clamped_below (length code) (input o) (mask_of (length code)) (source input o) code place words (mask_enough (length code) short))

-- ---- all blocks

-- whether statements fail
abbrev pub failing : Fate → Bool
failing (still memory) = false
failing stops = false
failing fails = true

-- whether a course breaks
abbrev pub breaking : Course → Bool
breaking (going places memory) = false
breaking stuck = false
breaking (broken kind line) = true

-- each thread stands at a visible instruction or at its end
abbrev pub AllStand : FlatProgram → List ℕ → Type 0
AllStand flat places = (thread : ℕ) → BeginsVisible (drop (slice_index places thread) (code_of flat thread))

-- each thread still stands at a visible instruction or the end where one comes to such a place
pub stand_after : (flat : FlatProgram) (places : List ℕ) (thread place : ℕ) → thread < length places → AllStand flat places → BeginsVisible (drop place (code_of flat thread)) → AllStand flat (slice_set places thread place)
stand_after flat places thread place lt all here other = decide (eqb other thread) refl
  where
    decide : (b : Bool) → eqb other thread ≡ b → BeginsVisible (drop (slice_index (slice_set places thread place) other) (code_of flat other))
    decide true e =
        let same : thread ≡ other = sym (eqb-true other thread e) in
        subst (λ (t : ℕ). BeginsVisible (drop (slice_index (slice_set places thread place) t) (code_of flat t))) same
        (rw (get_or-set_same places thread place 0 lt) here)
    decide false e = rw (get_or-set_other places thread other place 0 (eqb-false other thread e)) (all other)

-- behind a block come the others, from where it leads
next_block : (input : ℕ → ℕ) (flat : FlatProgram) (o n thread : ℕ) (rest : List ℕ) (places : List ℕ) (r : Ran) → thread < length places → AllStand flat places → WentWell n (code_of flat thread) r
    → ((guess flag : ℕ) (ps m : List ℕ) → length m ≡ n → length ps ≡ length places → AllStand flat ps
    → failing (straight input (o + block_length (code_of flat thread)) (encoded_blocks flat rest) (laid m guess flag ps)) ≡ breaking (driven flat input (o + block_length (code_of flat thread)) rest ps m))
    → failing (fate_then (fate_of thread (kept_guess input o (code_of flat thread)) places r) (straight input (o + block_length (code_of flat thread)) (encoded_blocks flat rest)))
    ≡ breaking (block_behind r (λ place. driven flat input (o + block_length (code_of flat thread)) rest (slice_set places thread place)))
next_block input flat o n thread rest places (went place memory) lt all well later =
    later (kept_guess input o (code_of flat thread)) 0 (slice_set places thread place) memory well.0 (length-set places thread place) (stand_after flat places thread place lt all well.1)
next_block input flat o n thread rest places held lt all well later = refl
next_block input flat o n thread rest places (breaks kind line) lt all well later = refl
next_block input flat o n thread rest places ended lt all well later = refl

-- the statements of blocks fail exactly where the drive through them breaks
pub driving : (input : ℕ → ℕ) (flat : FlatProgram) (bs : List ℕ) (o guess flag : ℕ) (places words : List ℕ) → length words ≡ length flat.first → AreThreads (length places) bs → AllStand flat places
    → ((thread : ℕ) → IsCodeOf (length flat.first) (code_of flat thread)) → ((thread : ℕ) → length (code_of flat thread) < value_bound)
    → failing (straight input o (encoded_blocks flat bs) (laid words guess flag places)) ≡ breaking (driven flat input o bs places words)
unfolding encoded_blocks driven straight
driving input flat [] o guess flag places words long are all codes short = refl
driving input flat (thread ∷ rest) o guess flag places words long are all codes short =
    let n = length flat.first in
    let code = code_of flat thread in
    let statements = head n thread code ++ encoded n thread 0 code in
    let size : o + length statements ≡ o + block_length code = let e = length-append (head n thread code) (encoded n thread 0 code) in let k = length_encoded n thread 0 code in omega arith in
    let well : WentWell n code (below (length code) (input o) (source input o) code (slice_index places thread) words) =
    subst (WentWell n code) (sym (one_pass (input o) (source input o) code (slice_index places thread) words (all thread))) (pass_well n (input o) (source input o) code code 0 (slice_index places thread) words refl long) in
    ap failing (straight_append input o statements (encoded_blocks flat rest) (laid words guess flag places))
    ∙ rw (size, block input o n thread code words guess flag places long are.0 (codes thread) (short thread) (all thread))
    (next_block input flat o n thread rest places (below (length code) (input o) (source input o) code (slice_index places thread) words) are.0 all well
    (λ g f ps m k same stand. driving input flat rest (o + block_length code) g f ps m k (subst (λ (t : ℕ). AreThreads t rest) (sym same) are.1) stand codes short))

-- ---- the whole program

-- what holds of each code and of none holds of any thread's
pub all_at : (P : List MarkedInstruction → Type 0) (xs : List (List MarkedInstruction)) (k : ℕ) → AllByRecursion P xs → P [] → P (slice_index_or xs k [])
all_at P [] zero all none = none
all_at P [] (suc k) all none = none
all_at P (x ∷ xs) zero all none = all.0
all_at P (x ∷ xs) (suc k) all none = all_at P xs k all.1 none

-- among zeros each is 0
pub zeros : (n k : ℕ) → slice_index (replicate n 0) k ≡ 0
zeros zero zero = refl
zeros zero (suc k) = refl
zeros (suc n) zero = refl
zeros (suc n) (suc k) = zeros n k

-- at the opening each thread stands at a visible instruction or the end
pub opening_stands : (flat : FlatProgram) → IsWellMarked flat → AllStand flat (opening flat)
opening_stands flat well thread =
    rw (zeros (length flat.threads) thread) (all_at BeginsVisible flat.threads thread well.begins tt)

-- where statements fail as a course breaks, and they fail, the course breaks
to_break : (f : Fate) (c : Course) → failing f ≡ breaking c → f ≡ fails → (kind : BreakKind) × (line : ℕ) × (c ≡ broken kind line)
to_break f (going places memory) e h = let g : failing f ≡ true = ap failing h in absurd cc
to_break f stuck e h = let g : failing f ≡ true = ap failing h in absurd cc
to_break f (broken kind line) e h = (kind, line, refl)

-- where the course breaks, they fail
of_break : (f : Fate) (c : Course) (kind : BreakKind) (line : ℕ) → failing f ≡ breaking c → c ≡ broken kind line → f ≡ fails
of_break (still memory) c kind line e h = let g : breaking c ≡ true = ap breaking h in absurd cc
of_break stops c kind line e h = let g : breaking c ≡ true = ap breaking h in absurd cc
of_break fails c kind line e h = refl

-- the straight program fails on inputs exactly where they drive a break
pub exact : (flat : FlatProgram) (rounds : ℕ) → IsWellMarked flat → ((thread : ℕ) → length (code_of flat thread) < value_bound) → (input : ℕ → ℕ)
    → (straight input 0 (encoding flat rounds) (encoded_first flat) ≡ fails) ↔ DrivesBreak flat rounds input
exact flat rounds well short input =
    let same : failing (straight input 0 (encoding flat rounds) (encoded_first flat)) ≡ breaking (driven flat input 0 (blocks rounds (length flat.threads)) (opening flat) flat.first) =
    driving input flat (blocks rounds (length flat.threads)) 0 0 0 (opening flat) flat.first refl
    (opening_threads flat rounds)
    (opening_stands flat well) (λ thread. all_at (IsCodeOf (length flat.first)) flat.threads thread well.codes tt) short in (
      λ h. to_break (straight input 0 (encoding flat rounds) (encoded_first flat)) (driven flat input 0 (blocks rounds (length flat.threads)) (opening flat) flat.first) same h,
      λ d. of_break (straight input 0 (encoding flat rounds) (encoded_first flat)) (driven flat input 0 (blocks rounds (length flat.threads)) (opening flat) flat.first) d.0 d.1 same d.2,
    )
