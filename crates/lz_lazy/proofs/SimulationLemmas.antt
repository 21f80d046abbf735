-- The straight program of a thread's code does what one pass over the code does.
use Rattle.std.proofs.Common.{◌≡◌, ℕ, zero, suc, ◌+◌, ◌-◌, ◌*◌, ◌≤◌, ◌<◌, Bool, true, false, not, ◌&&◌, cond, List, [], ◌∷◌, ◌++◌, length, nat_lt, refl, ◌∙◌, ap, arith}
use Rattle.std.specs.Prelude.{slice_index, slice_set, ◌==◌, if◌then◌else◌, ⊤}
use Rattle.std.proofs.lemmas.List.{length-set, get_or-set_same}
use Rattle.std.proofs.lemmas.Bool.{ne_eqb, eq-eqb}
use Rattle.lz_flat.specs.FlatRuns.{Ran, went, held, breaks, ended, behind, source}
use Rattle.lz_flat.specs.Instructions.{value, put, Did, moved, blocked, broke, did}
use Rattle.lz_flat.specs.Programs.{Expression, constant, word, choose, Location, Instruction, sets, takes, assumes, checks, skips, MarkedInstruction, Statement}
use Rattle.lz_flat.specs.StraightRuns.{Fate, still, stops, fails, fate_behind, straight}
use Rattle.lz_flat.specs.WellFormed.{IsInstructionOf, IsForward, IsCodeOf}
use Rattle.lz_lazy.specs.Encoding.{whole, flag_place, saved_place, runs_next, idle, always, flagged, body, following, encoded}
use Rattle.lz_lazy.proofs.OnePassLemmas.{pass}
use Rattle.lz_flat.proofs.DrivenLemmas.{set_twice}
use Rattle.lz_flat.proofs.WordsLemmas.{value_laid, extended, did_laid, KeepsLength, did_keeps_length}
use Rattle.lz_flat.proofs.StraightRunLemmas.{straight_passed}
use Rattle.lz_lazy.proofs.LaidOutLemmas.{laid, at_flag, set_flag, set_saved, ready, ready_next, value_next}

-- ---- one statement

-- a statement whose guard is 1 does what its instruction does
pub taken : (input : ℕ → ℕ) (i : ℕ) (first : Statement) (rest : List Statement) (memory : List ℕ) → value first.guard memory ≡ 1
    → straight input i (first ∷ rest) memory ≡ fate_behind (did first.instr (input i) memory) (straight input (suc i) rest)
unfolding straight
taken input i first rest memory e = rw e refl

-- the guard of an instruction is the flag
pub flag_is : (n : ℕ) (words : List ℕ) (guess flag : ℕ) (places : List ℕ) → length words ≡ n → value (word (flag_place n)) (laid words guess flag places) ≡ flag
unfolding value
flag_is n words guess flag places long = at_flag n words guess flag places long

-- a constant has its value
pub constant_is : (v : ℕ) (memory : List ℕ) → value (constant v) memory ≡ v
unfolding value
constant_is v memory = refl

-- an assignment writes the value
pub sets_did : (to : Location) (of : Expression) (input : ℕ) (memory : List ℕ) → did (sets to of) input memory ≡ moved 0 (put to (value of memory) memory)
unfolding did
sets_did to of input memory = refl

-- ---- the second and third statements

-- the third: the flag of the next instruction
pub third : (input : ℕ → ℕ) (o n thread l : ℕ) (part : List MarkedInstruction) (rest : List Statement) (words : List ℕ) (guess flag : ℕ) (places : List ℕ) → length words ≡ n
    → straight input o (always (sets (whole (flag_place n)) (runs_next n thread l part)) ∷ rest) (laid words guess flag places)
    ≡ straight input (suc o) rest (laid words guess (ready_next guess (slice_index places thread) l part) places)
third input o n thread l part rest words guess flag places long =
    taken input o (always (sets (whole (flag_place n)) (runs_next n thread l part))) rest (laid words guess flag places) (constant_is 1 (laid words guess flag places))
    ∙ rw (
      sets_did (whole (flag_place n)) (runs_next n thread l part) (input o) (laid words guess flag places),
      value_next n thread l part words guess flag places long,
      set_flag n words guess flag (ready_next guess (slice_index places thread) l part) places long,
    ) refl

-- the two statements behind an instruction that did not run set the flag for the next alone
pub tail_off : (input : ℕ → ℕ) (o n thread l : ℕ) (of : Expression) (part : List MarkedInstruction) (rest : List Statement) (words : List ℕ) (guess : ℕ) (places : List ℕ) → length words ≡ n
    → straight input o (flagged n (sets (whole (saved_place n thread)) of) ∷ always (sets (whole (flag_place n)) (runs_next n thread l part)) ∷ rest) (laid words guess 0 places)
    ≡ straight input (suc (suc o)) rest (laid words guess (ready_next guess (slice_index places thread) l part) places)
tail_off input o n thread l of part rest words guess places long =
    straight_passed input o (flagged n (sets (whole (saved_place n thread)) of)) (always (sets (whole (flag_place n)) (runs_next n thread l part)) ∷ rest) (laid words guess 0 places) (flag_is n words guess 0 places long)
    ∙ third input (suc o) n thread l part rest words guess 0 places long

-- behind one that ran they set the saved place and the flag
pub tail_on : (input : ℕ → ℕ) (o n thread l : ℕ) (of : Expression) (part : List MarkedInstruction) (rest : List Statement) (words : List ℕ) (guess place : ℕ) (places : List ℕ) → length words ≡ n
    → thread < length places → value of (laid words guess 1 places) ≡ place
    → straight input o (flagged n (sets (whole (saved_place n thread)) of) ∷ always (sets (whole (flag_place n)) (runs_next n thread l part)) ∷ rest) (laid words guess 1 places)
    ≡ straight input (suc (suc o)) rest (laid words guess (ready_next guess place l part) (slice_set places thread place))
tail_on input o n thread l of part rest words guess place places long lt e =
    let after : straight input (suc o) (always (sets (whole (flag_place n)) (runs_next n thread l part)) ∷ rest) (laid words guess 1 (slice_set places thread place))
    ≡ straight input (suc (suc o)) rest (laid words guess (ready_next guess (slice_index (slice_set places thread place) thread) l part) (slice_set places thread place)) =
    third input (suc o) n thread l part rest words guess 1 (slice_set places thread place) long in
    taken input o (flagged n (sets (whole (saved_place n thread)) of)) (always (sets (whole (flag_place n)) (runs_next n thread l part)) ∷ rest) (laid words guess 1 places) (flag_is n words guess 1 places long)
    ∙ rw (sets_did (whole (saved_place n thread)) of (input o) (laid words guess 1 places), e, set_saved n thread words guess 1 place places long)
    (after ∙ ap (λ (q : ℕ). straight input (suc (suc o)) rest (laid words guess (ready_next guess q l part) (slice_set places thread place))) (get_or-set_same places thread place 0 lt))

-- ---- the three statements of an instruction

-- what follows an instruction, by its memory
abbrev pub did_next : Did → (ℕ → List ℕ → Fate) → Fate
did_next (moved over memory) next = next over memory
did_next blocked next = stops
did_next (broke kind line) next = fails

-- it passes over nothing
abbrev Plain : Did → Type 0
Plain (moved over memory) = over ≡ 0
Plain blocked = ⊤
Plain (broke kind line) = ⊤

-- either of two that move on by one place does so
plain_cond : (b : Bool) (d e : Did) → Plain d → Plain e → Plain (cond b d e)
plain_cond true d e h k = h
plain_cond false d e h k = k

-- what follows the three statements of an instruction that led to a memory
abbrev Behind3 : (ℕ → ℕ) → ℕ → ℕ → ℕ → ℕ → List MarkedInstruction → List Statement → ℕ → List ℕ → ℕ → List ℕ → Fate
Behind3 input o n thread l part rest guess places over memory =
    straight input (suc (suc (suc o))) rest (laid memory guess (ready_next guess (l + over) l part) (slice_set places thread (l + over)))

-- an instruction that is no skip, then what follows
plain_on : (input : ℕ → ℕ) (o n thread l : ℕ) (part : List MarkedInstruction) (rest : List Statement) (d : Did) (guess : ℕ) (places : List ℕ)
    → thread < length places → Plain d → KeepsLength n d
    → fate_behind (extended (guess ∷ 1 ∷ places) d) (straight input (suc o) (flagged n (sets (whole (saved_place n thread)) (constant l)) ∷ always (sets (whole (flag_place n)) (runs_next n thread l part)) ∷ rest))
    ≡ did_next d (Behind3 input o n thread l part rest guess places)
plain_on input o n thread l part rest (moved over memory) guess places lt plain keeps =
    let place : value (constant l) (laid memory guess 1 places) ≡ l + over = constant_is l (laid memory guess 1 places) ∙ (let z : l ≡ l + over = omega arith in z) in
    tail_on input (suc o) n thread l (constant l) part rest memory guess (l + over) places keeps lt place
plain_on input o n thread l part rest blocked guess places lt plain keeps = refl
plain_on input o n thread l part rest (broke kind line) guess places lt plain keeps = refl

-- an instruction under a flag of 1 does what it does
flagged_on : (input : ℕ → ℕ) (o n thread l : ℕ) (i : Instruction) (part : List MarkedInstruction) (rest : List Statement) (words : List ℕ) (guess : ℕ) (places : List ℕ)
    → length words ≡ n → thread < length places → IsInstructionOf n i → Plain (did i (input o) words)
    → straight input o (flagged n i ∷ flagged n (sets (whole (saved_place n thread)) (constant l)) ∷ always (sets (whole (flag_place n)) (runs_next n thread l part)) ∷ rest) (laid words guess 1 places)
    ≡ did_next (did i (input o) words) (Behind3 input o n thread l part rest guess places)
flagged_on input o n thread l i part rest words guess places long lt is plain =
    taken input o (flagged n i) (flagged n (sets (whole (saved_place n thread)) (constant l)) ∷ always (sets (whole (flag_place n)) (runs_next n thread l part)) ∷ rest) (laid words guess 1 places) (flag_is n words guess 1 places long)
    ∙ rw (did_laid n i (input o) words (guess ∷ 1 ∷ places) long is) (plain_on input o n thread l part rest (did i (input o) words) guess places lt plain (did_keeps_length n i (input o) words long))

-- the place behind a skip is where it leads
skip_value : (n l by : ℕ) (test : Expression) (words rest : List ℕ) → length words ≡ n → IsInstructionOf n (skips test by) → 1 ≤ by
    → value (choose test (constant (l + by)) (constant (suc l))) (words ++ rest) ≡ suc l + (if value test words == 0 then 0 else by - 1)
unfolding value
skip_value n l by test words rest long is lt = rw (value_laid n test words rest long is) (by_cases (value test words == 0))
  where
    by_cases : (b : Bool) → cond b (suc l) (l + by) ≡ suc l + cond b 0 (by - 1)
    by_cases true = omega arith
    by_cases false = omega arith

-- the three statements of an instruction whose flag is set
pub three_on : (input : ℕ → ℕ) (o n thread l left : ℕ) (i : Instruction) (part : List MarkedInstruction) (rest : List Statement) (words : List ℕ) (guess : ℕ) (places : List ℕ)
    → length words ≡ n → thread < length places → IsInstructionOf n i → IsForward left i
    → straight input o (body n i ∷ flagged n (sets (whole (saved_place n thread)) (following l i)) ∷ always (sets (whole (flag_place n)) (runs_next n thread (suc l) part)) ∷ rest) (laid words guess 1 places)
    ≡ did_next (did i (input o) words) (Behind3 input o n thread (suc l) part rest guess places)
unfolding did
three_on input o n thread l left (sets to of) part rest words guess places long lt is go = flagged_on input o n thread (suc l) (sets to of) part rest words guess places long lt is refl
three_on input o n thread l left (takes to) part rest words guess places long lt is go = flagged_on input o n thread (suc l) (takes to) part rest words guess places long lt is refl
three_on input o n thread l left (assumes test) part rest words guess places long lt is go =
    flagged_on input o n thread (suc l) (assumes test) part rest words guess places long lt is (plain_cond (value test words == 0) blocked (moved 0 words) tt refl)
three_on input o n thread l left (checks test kind line) part rest words guess places long lt is go =
    flagged_on input o n thread (suc l) (checks test kind line) part rest words guess places long lt is (plain_cond (value test words == 0) (broke kind line) (moved 0 words) tt refl)
three_on input o n thread l left (skips test by) part rest words guess places long lt is go =
    straight_passed input o idle (flagged n (sets (whole (saved_place n thread)) (following l (skips test by))) ∷ always (sets (whole (flag_place n)) (runs_next n thread (suc l) part)) ∷ rest) (laid words guess 1 places) (constant_is 0 (laid words guess 1 places))
    ∙ tail_on input (suc o) n thread (suc l) (following l (skips test by)) part rest words guess (suc l + (if value test words == 0 then 0 else by - 1)) places long lt
    (skip_value n l by test words (guess ∷ 1 ∷ places) long is go.0)

-- under a flag of 0 the instruction does nothing
body_off : (input : ℕ → ℕ) (o n : ℕ) (i : Instruction) (rest : List Statement) (words : List ℕ) (guess : ℕ) (places : List ℕ) → length words ≡ n
    → straight input o (body n i ∷ rest) (laid words guess 0 places) ≡ straight input (suc o) rest (laid words guess 0 places)
body_off input o n (sets to of) rest words guess places long = straight_passed input o (flagged n (sets to of)) rest (laid words guess 0 places) (flag_is n words guess 0 places long)
body_off input o n (takes to) rest words guess places long = straight_passed input o (flagged n (takes to)) rest (laid words guess 0 places) (flag_is n words guess 0 places long)
body_off input o n (assumes test) rest words guess places long = straight_passed input o (flagged n (assumes test)) rest (laid words guess 0 places) (flag_is n words guess 0 places long)
body_off input o n (checks test kind line) rest words guess places long = straight_passed input o (flagged n (checks test kind line)) rest (laid words guess 0 places) (flag_is n words guess 0 places long)
body_off input o n (skips test by) rest words guess places long = straight_passed input o idle rest (laid words guess 0 places) (constant_is 0 (laid words guess 0 places))

-- and of one whose flag is not set
pub three_off : (input : ℕ → ℕ) (o n thread l : ℕ) (i : Instruction) (part : List MarkedInstruction) (rest : List Statement) (words : List ℕ) (guess : ℕ) (places : List ℕ) → length words ≡ n
    → straight input o (body n i ∷ flagged n (sets (whole (saved_place n thread)) (following l i)) ∷ always (sets (whole (flag_place n)) (runs_next n thread (suc l) part)) ∷ rest) (laid words guess 0 places)
    ≡ straight input (suc (suc (suc o))) rest (laid words guess (ready_next guess (slice_index places thread) (suc l) part) places)
three_off input o n thread l i part rest words guess places long =
    body_off input o n i (flagged n (sets (whole (saved_place n thread)) (following l i)) ∷ always (sets (whole (flag_place n)) (runs_next n thread (suc l) part)) ∷ rest) words guess places long
    ∙ tail_off input (suc o) n thread (suc l) (following l i) part rest words guess places long

-- ---- the flag's value

-- no instruction runs but the one at the saved place
pub ready_off : (guess place l : ℕ) (visible : Bool) → (place ≡ l → ⊥) → ready guess place l visible ≡ 0
ready_off guess place l true h = rw (ne_eqb place l h) refl
ready_off guess place l false h = rw (ne_eqb place l h) refl

-- at its own place the flag is set but where the pass stops
pub ready_on : (guess place l : ℕ) (visible : Bool) → place ≡ l → ready guess place l visible ≡ cond (visible && not (nat_lt l guess)) 0 1
ready_on guess place l true e = rw (e, eq-eqb l l refl) (turned (nat_lt l guess))
  where
    turned : (b : Bool) → ◌≡◌ {A = ℕ} (cond b 1 0) (cond (not b) 0 1)
    turned true = refl
    turned false = refl
ready_on guess place l false e = rw (e, eq-eqb l l refl) refl

-- so the next one where the thread stands elsewhere
pub next_off : (guess place l : ℕ) (part : List MarkedInstruction) → (place ≡ l → ⊥) → ready_next guess place l part ≡ 0
next_off guess place l [] h = refl
next_off guess place l (first ∷ rest) h = ready_off guess place l first.visible h

-- ---- a thread's code

-- the thread has stopped before this code: nothing more is done
pub rests : (input : ℕ → ℕ) (o n thread l : ℕ) (part : List MarkedInstruction) (words : List ℕ) (guess : ℕ) (places : List ℕ) → length words ≡ n
    → slice_index places thread < l
    → straight input o (encoded n thread l part) (laid words guess 0 places) ≡ still (laid words guess 0 places)
unfolding encoded straight
rests input o n thread l [] words guess places long before = refl
rests input o n thread l (first ∷ rest) words guess places long before =
    three_off input o n thread l first.instr rest (encoded n thread (suc l) rest) words guess places long
    ∙ rw (next_off guess (slice_index places thread) (suc l) rest (λ e. let f : slice_index places thread ≡ suc l = e in omega arith))
    (rests input (suc (suc (suc o))) n thread (suc l) rest words guess places long (omega arith))

-- what the pass comes to, as the straight program has it
abbrev pub fate_of : ℕ → ℕ → List ℕ → Ran → Fate
fate_of thread guess places (went place memory) = still (laid memory guess 0 (slice_set places thread place))
fate_of thread guess places held = stops
fate_of thread guess places (breaks kind line) = fails
fate_of thread guess places ended = stops

-- what follows an instruction that ran
on_next : (input : ℕ → ℕ) (b n thread l : ℕ) (part : List MarkedInstruction) (guess : ℕ) (places : List ℕ) (d : Did) → KeepsLength n d
    → ((over : ℕ) (m : List ℕ) → length m ≡ n → straight input (b + (12 + 3 * suc l)) (encoded n thread (suc l) part) (laid m guess (ready_next guess (suc l + over) (suc l) part) (slice_set places thread (suc l + over)))
    ≡ fate_of thread guess places (pass guess (source input b) (suc l) part over m))
    → did_next d (Behind3 input (b + (12 + 3 * l)) n thread (suc l) part (encoded n thread (suc l) part) guess (slice_set places thread l))
    ≡ fate_of thread guess places (behind d (pass guess (source input b) (suc l) part))
on_next input b n thread l part guess places (moved over memory) keeps later =
    let o : suc (suc (suc (b + (12 + 3 * l)))) ≡ b + (12 + 3 * suc l) = omega arith in
    rw (o, set_twice places thread l (suc l + over)) (later over memory keeps)
on_next input b n thread l part guess places blocked keeps later = refl
on_next input b n thread l part guess places (broke kind line) keeps later = refl

-- the instruction at whose place the thread stands, by whether the pass stops there
at_place : (input : ℕ → ℕ) (b n thread l : ℕ) (first : MarkedInstruction) (part : List MarkedInstruction) (words : List ℕ) (guess : ℕ) (places : List ℕ) (stop : Bool)
    → length words ≡ n → thread < length places → IsInstructionOf n first.instr → IsForward (suc (length part)) first.instr
    → ((over : ℕ) (m : List ℕ) → length m ≡ n → straight input (b + (12 + 3 * suc l)) (encoded n thread (suc l) part) (laid m guess (ready_next guess (suc l + over) (suc l) part) (slice_set places thread (suc l + over)))
    ≡ fate_of thread guess places (pass guess (source input b) (suc l) part over m))
    → straight input (b + (12 + 3 * l)) (encoded n thread l (first ∷ part)) (laid words guess (cond stop 0 1) (slice_set places thread l))
    ≡ fate_of thread guess places (cond stop (went l words) (behind (did first.instr (source input b l) words) (pass guess (source input b) (suc l) part)))
unfolding encoded
at_place input b n thread l first part words guess places true long lt is go later =
    let here : slice_index (slice_set places thread l) thread ≡ l = get_or-set_same places thread l 0 lt in
    three_off input (b + (12 + 3 * l)) n thread l first.instr part (encoded n thread (suc l) part) words guess (slice_set places thread l) long
    ∙ rw (here, next_off guess l (suc l) part (λ e. omega arith))
    (rests input (suc (suc (suc (b + (12 + 3 * l))))) n thread (suc l) part words guess (slice_set places thread l) long (omega (arith, here)))
at_place input b n thread l first part words guess places false long lt is go later =
    let lt' : thread < length (slice_set places thread l) = let s = length-set places thread l in omega arith in
    three_on input (b + (12 + 3 * l)) n thread l (suc (length part)) first.instr part (encoded n thread (suc l) part) words guess (slice_set places thread l) long lt' is go
    ∙ on_next input b n thread l part guess places (did first.instr (source input b l) words) (did_keeps_length n first.instr (source input b l) words long) later

-- at the end of the code nothing is left to simulate
simulates_none : (input : ℕ → ℕ) (b n thread l over : ℕ) (words : List ℕ) (guess : ℕ) (places : List ℕ)
    → straight input (b + (12 + 3 * l)) (encoded n thread l []) (laid words guess 0 (slice_set places thread (l + over))) ≡ still (laid words guess 0 (slice_set places thread (l + over)))
unfolding encoded straight
simulates_none input b n thread l over words guess places = refl

-- the statements of an instruction that is passed over change nothing but the flag
passes_over : (input : ℕ → ℕ) (b n thread l over : ℕ) (first : MarkedInstruction) (rest : List MarkedInstruction) (words : List ℕ) (guess : ℕ) (places : List ℕ) → length words ≡ n → thread < length places
    → straight input (b + (12 + 3 * suc l)) (encoded n thread (suc l) rest) (laid words guess (ready_next guess (suc l + over) (suc l) rest) (slice_set places thread (suc l + over)))
    ≡ fate_of thread guess places (pass guess (source input b) (suc l) rest over words)
    → straight input (b + (12 + 3 * l)) (encoded n thread l (first ∷ rest)) (laid words guess (ready guess (l + suc over) l first.visible) (slice_set places thread (l + suc over)))
    ≡ fate_of thread guess places (pass guess (source input b) (suc l) rest over words)
unfolding encoded
passes_over input b n thread l over first rest words guess places long lt later =
    let here : slice_index (slice_set places thread (l + suc over)) thread ≡ l + suc over = get_or-set_same places thread (l + suc over) 0 lt in
    let o : suc (suc (suc (b + (12 + 3 * l)))) ≡ b + (12 + 3 * suc l) = omega arith in
    let q : l + suc over ≡ suc l + over = omega arith in
    rw (ready_off guess (l + suc over) l first.visible (λ e. omega arith))
    (three_off input (b + (12 + 3 * l)) n thread l first.instr rest (encoded n thread (suc l) rest) words guess (slice_set places thread (l + suc over)) long
    ∙ rw (here, q, o) later)

-- THE SIMULATION OF A THREAD'S CODE: from a place that is not before this code, the statements do what the
-- pass does
pub simulates : (input : ℕ → ℕ) (b n thread l over : ℕ) (part : List MarkedInstruction) (words : List ℕ) (guess : ℕ) (places : List ℕ)
    → length words ≡ n → thread < length places → IsCodeOf n part
    → straight input (b + (12 + 3 * l)) (encoded n thread l part) (laid words guess (ready_next guess (l + over) l part) (slice_set places thread (l + over)))
    ≡ fate_of thread guess places (pass guess (source input b) l part over words)
unfolding pass
simulates input b n thread l over [] words guess places long lt is = simulates_none input b n thread l over words guess places
simulates input b n thread l (suc over) (first ∷ rest) words guess places long lt is =
    passes_over input b n thread l over first rest words guess places long lt (simulates input b n thread (suc l) over rest words guess places long lt is.3)
simulates input b n thread l zero (first ∷ rest) words guess places long lt is =
    let z : l + 0 ≡ l = omega arith in
    rw (z, ready_on guess l l first.visible refl)
    (at_place input b n thread l first rest words guess places (first.visible && not (nat_lt l guess)) long lt is.0 is.2
    (λ over m k. simulates input b n thread (suc l) over rest m guess places k lt is.3))
