-- Where inputs drive a break, the run that they drive breaks so, in no more rounds.
use Rattle.std.proofs.Common.{◌≡◌, ℕ, zero, suc, ◌+◌, ◌*◌, ◌≤◌, ◌<◌, Bool, true, false, cond, List, [], ◌∷◌, ◌++◌, length, nat_lt, eqb, refl, sym, ◌∙◌, ap, subst, arith}
use Rattle.std.specs.Prelude.{slice_index, slice_set, if◌then◌else◌}
use Rattle.std.proofs.lemmas.List.{append-nil, length-set, get_or-set_same, set-get_or}
use Rattle.std.proofs.lemmas.Bool.{eqb-true, eqb-false, lt-ltb, le-ltb}
use Rattle.lz_base.specs.Words.{value_bound}
use Rattle.lz_base.specs.declared.word.BreakKind.{BreakKind}
use Rattle.lz_base.proofs.DescentsLemmas.{Fits, nothing, stay, next}
use Rattle.lz_flat.specs.FlatRuns.{Ran, went, held, breaks, ended, step, steps_on, below, broken, course, block_behind, source, block_length, driven, blocks, opening}
use Rattle.lz_flat.specs.Programs.{FlatProgram, code_of}
use Rattle.lz_flat.specs.DrivenRuns.{step_then, block_steps, steps_behind, driven_run, spliced, inputs_behind, driven_inputs, run_of, DrivesItsRun}
use Rattle.lz_flat.proofs.RoundsLemmas.{AreThreads, opening_threads, few_rounds}
use Rattle.lz_flat.proofs.InputsLemmas.{went_forward, below_forward, step_until, step_agrees, course_agrees}

-- of two writes of a place the second stays
pub set_twice : (places : List ℕ) (thread a b : ℕ) → slice_set (slice_set places thread a) thread b ≡ slice_set places thread b
set_twice [] thread a b = refl
set_twice (x ∷ xs) zero a b = refl
set_twice (x ∷ xs) (suc thread) a b = ap (λ (t : List ℕ). x ∷ t) (set_twice xs thread a b)

-- the run fits these blocks and breaks, with these inputs
pub record Breaks (flat : FlatProgram) (inputs : ℕ → ℕ → ℕ) (run bs places memory : List ℕ) (kind : BreakKind) (line : ℕ) : Type 0 where
  pub fits : Fits run bs
  pub ends : course flat inputs run places memory ≡ broken kind line

-- one step before a run
run_more : (flat : FlatProgram) (inputs : ℕ → ℕ → ℕ) (thread : ℕ) (run bs places memory : List ℕ) (place : ℕ) (m : List ℕ) (kind : BreakKind) (line : ℕ)
    → step (inputs thread) (code_of flat thread) (slice_index places thread) memory ≡ went place m
    → Breaks flat inputs run (thread ∷ bs) (slice_set places thread place) m kind line → Breaks flat inputs (thread ∷ run) (thread ∷ bs) places memory kind line
unfolding course
run_more flat inputs thread run bs places memory place m kind line e later = record { fits = stay later.fits; ends = rw e later.ends }

-- a block that goes
stays : (flat : FlatProgram) (inputs : ℕ → ℕ → ℕ) (thread : ℕ) (run bs places memory : List ℕ) (place end : ℕ) (m : List ℕ) (kind : BreakKind) (line : ℕ)
    → slice_index places thread ≡ place → went place memory ≡ went end m
    → Breaks flat inputs run bs (slice_set places thread end) m kind line → Breaks flat inputs run (thread ∷ bs) places memory kind line
stays flat inputs thread run bs places memory place end m kind line at e later =
    let same_memory : m ≡ memory = cc in
    let here : slice_set places thread end ≡ places = (let q : end ≡ slice_index places thread = cc in ap (slice_set places thread) q) ∙ set-get_or places thread 0 in
    record {
      fits = next later.fits;
      ends = subst (λ (x : List ℕ). course flat inputs run places x ≡ broken kind line) same_memory (subst (λ (ps : List ℕ). course flat inputs run ps m ≡ broken kind line) here later.ends);
    }

-- a step of the block's thread, and the others behind it
block_step : (most guess : ℕ) (input : ℕ → ℕ) (flat : FlatProgram) (inputs : ℕ → ℕ → ℕ) (thread : ℕ) (run bs places memory : List ℕ) (place end : ℕ) (m : List ℕ) (kind : BreakKind) (line : ℕ) (b : Bool) (r : Ran)
    → thread < length places → slice_index places thread ≡ place → ((k : ℕ) → k < end → input k ≡ inputs thread k)
    → step input (code_of flat thread) place memory ≡ r
    → ((p : ℕ) (x : List ℕ) → below most guess input (code_of flat thread) p x ≡ went end m → Breaks flat inputs (block_steps thread most guess input (code_of flat thread) p x ++ run) (thread ∷ bs) (slice_set places thread p) x kind line)
    → cond b (steps_on place memory r (below most guess input (code_of flat thread))) (went place memory) ≡ went end m
    → Breaks flat inputs run bs (slice_set places thread end) m kind line
    → Breaks flat inputs (cond b (step_then thread r (block_steps thread most guess input (code_of flat thread))) [] ++ run) (thread ∷ bs) places memory kind line
block_step most guess input flat inputs thread run bs places memory place end m kind line true (went p x) lt at same is again e later =
    let up : p ≤ end = went_forward p (below most guess input (code_of flat thread) p x) end m (below_forward most guess input (code_of flat thread) p x) e in
    run_more flat inputs thread (block_steps thread most guess input (code_of flat thread) p x ++ run) bs places memory p x kind line
    (subst (λ (q : ℕ). step (inputs thread) (code_of flat thread) q memory ≡ went p x) (sym at) (step_until input (inputs thread) (code_of flat thread) place memory p x (λ k h. same k (omega arith)) is))
    (again p x e)
block_step most guess input flat inputs thread run bs places memory place end m kind line true held lt at same is again e later = absurd cc
block_step most guess input flat inputs thread run bs places memory place end m kind line true (breaks k l) lt at same is again e later = absurd cc
block_step most guess input flat inputs thread run bs places memory place end m kind line true ended lt at same is again e later = stays flat inputs thread run bs places memory place end m kind line at e later
block_step most guess input flat inputs thread run bs places memory place end m kind line false r lt at same is again e later = stays flat inputs thread run bs places memory place end m kind line at e later

-- the steps of a block are steps of a run
block_run : (most guess : ℕ) (input : ℕ → ℕ) (flat : FlatProgram) (inputs : ℕ → ℕ → ℕ) (thread : ℕ) (run bs places memory : List ℕ) (place end : ℕ) (m : List ℕ) (kind : BreakKind) (line : ℕ)
    → thread < length places → slice_index places thread ≡ place → ((k : ℕ) → k < end → input k ≡ inputs thread k)
    → below most guess input (code_of flat thread) place memory ≡ went end m
    → Breaks flat inputs run bs (slice_set places thread end) m kind line
    → Breaks flat inputs (block_steps thread most guess input (code_of flat thread) place memory ++ run) (thread ∷ bs) places memory kind line
unfolding below block_steps
block_run zero guess input flat inputs thread run bs places memory place end m kind line lt at same e later = stays flat inputs thread run bs places memory place end m kind line at e later
block_run (suc most) guess input flat inputs thread run bs places memory place end m kind line lt at same e later =
    block_step most guess input flat inputs thread run bs places memory place end m kind line (nat_lt place guess) (step input (code_of flat thread) place memory) lt at same refl
    (λ p x is. block_run most guess input flat inputs thread run bs (slice_set places thread p) x p end m kind line
    (let s = length-set places thread p in omega arith) (get_or-set_same places thread p 0 lt) same is
    (record { fits = later.fits; ends = rw (set_twice places thread p end) later.ends })) e later

-- a block that breaks
break_step : (most guess : ℕ) (input : ℕ → ℕ) (flat : FlatProgram) (inputs : ℕ → ℕ → ℕ) (thread : ℕ) (bs places memory : List ℕ) (place : ℕ) (kind : BreakKind) (line : ℕ) (b : Bool) (r : Ran)
    → slice_index places thread ≡ place → ((k : ℕ) → input k ≡ inputs thread k) → step input (code_of flat thread) place memory ≡ r
    → ((p : ℕ) (x : List ℕ) → below most guess input (code_of flat thread) p x ≡ breaks kind line → Breaks flat inputs (block_steps thread most guess input (code_of flat thread) p x) (thread ∷ bs) (slice_set places thread p) x kind line)
    → cond b (steps_on place memory r (below most guess input (code_of flat thread))) (went place memory) ≡ breaks kind line
    → Breaks flat inputs (cond b (step_then thread r (block_steps thread most guess input (code_of flat thread))) []) (thread ∷ bs) places memory kind line
unfolding course
break_step most guess input flat inputs thread bs places memory place kind line true (went p x) at same is again e =
    run_more flat inputs thread (block_steps thread most guess input (code_of flat thread) p x) bs places memory p x kind line
    (subst (λ (q : ℕ). step (inputs thread) (code_of flat thread) q memory ≡ went p x) (sym at) (step_until input (inputs thread) (code_of flat thread) place memory p x (λ k h. same k) is))
    (again p x e)
break_step most guess input flat inputs thread bs places memory place kind line true held at same is again e = absurd cc
break_step most guess input flat inputs thread bs places memory place kind line true (breaks k l) at same is again e =
    let whole : step (inputs thread) (code_of flat thread) (slice_index places thread) memory ≡ breaks kind line =
    subst (λ (q : ℕ). step (inputs thread) (code_of flat thread) q memory ≡ breaks kind line) (sym at)
    (sym (step_agrees input (inputs thread) (code_of flat thread) place memory (λ k h t. same k)) ∙ is ∙ e) in
    record { fits = stay nothing; ends = rw whole refl }
break_step most guess input flat inputs thread bs places memory place kind line true ended at same is again e = absurd cc
break_step most guess input flat inputs thread bs places memory place kind line false r at same is again e = absurd cc

-- a block that breaks is a run that breaks
block_break : (most guess : ℕ) (input : ℕ → ℕ) (flat : FlatProgram) (inputs : ℕ → ℕ → ℕ) (thread : ℕ) (bs places memory : List ℕ) (place : ℕ) (kind : BreakKind) (line : ℕ)
    → thread < length places → slice_index places thread ≡ place → ((k : ℕ) → input k ≡ inputs thread k)
    → below most guess input (code_of flat thread) place memory ≡ breaks kind line
    → Breaks flat inputs (block_steps thread most guess input (code_of flat thread) place memory) (thread ∷ bs) places memory kind line
unfolding below block_steps
block_break zero guess input flat inputs thread bs places memory place kind line lt at same e = absurd cc
block_break (suc most) guess input flat inputs thread bs places memory place kind line lt at same e =
    break_step most guess input flat inputs thread bs places memory place kind line (nat_lt place guess) (step input (code_of flat thread) place memory) at same refl
    (λ p x is. block_break most guess input flat inputs thread bs (slice_set places thread p) x p kind line
    (let s = length-set places thread p in omega arith) (get_or-set_same places thread p 0 lt) same is) e

-- ---- all blocks

-- a run that fits blocks of threads is one of these threads
fits_small : (threads : ℕ) {run bs : List ℕ} → Fits run bs → AreThreads threads bs → AreThreads threads run
fits_small threads nothing are = tt
fits_small threads (stay fits) are = (are.0, fits_small threads fits are)
fits_small threads (next fits) are = fits_small threads fits are.1

-- inputs taken from two sources are words where both have words
spliced_small : (thread end : ℕ) (now : ℕ → ℕ) (later : ℕ → ℕ → ℕ) → ((k : ℕ) → now k < value_bound) → ((u k : ℕ) → later u k < value_bound) → (u k : ℕ) → spliced thread end now later u k < value_bound
spliced_small thread end now later h g u k = decide (eqb u thread) (nat_lt k end)
  where
    decide : (a b : Bool) → (if a then (if b then now k else later u k) else later u k) < value_bound
    decide true true = h k
    decide true false = g u k
    decide false b = g u k

-- a number equals itself
eqb_self : (a : ℕ) → eqb a a ≡ true
eqb_self a = decide (eqb a a) refl
  where
    decide : (b : Bool) → eqb a a ≡ b → eqb a a ≡ true
    decide true e = e
    decide false e = absurd (eqb-false a a e refl)

-- up to the end of the block the thread has the inputs of the block
spliced_now : (thread end : ℕ) (now : ℕ → ℕ) (later : ℕ → ℕ → ℕ) (k : ℕ) → k < end → now k ≡ spliced thread end now later thread k
spliced_now thread end now later k h = rw (eqb_self thread, lt-ltb k end h) refl

-- from there on each thread has the later ones
spliced_later : (thread end : ℕ) (now : ℕ → ℕ) (later : ℕ → ℕ → ℕ) (places : List ℕ) → thread < length places → (u k : ℕ) → slice_index (slice_set places thread end) u ≤ k → later u k ≡ spliced thread end now later u k
spliced_later thread end now later places lt u k h = decide (eqb u thread) refl
  where
    decide : (r : Bool) → eqb u thread ≡ r → later u k ≡ (if r then (if nat_lt k end then now k else later u k) else later u k)
    decide true e =
        let at : slice_index (slice_set places thread end) u ≡ end = subst (λ (v : ℕ). slice_index (slice_set places thread end) v ≡ end) (sym (eqb-true u thread e)) (get_or-set_same places thread end 0 lt) in
        rw (le-ltb k end (omega arith)) refl
    decide false e = refl

-- what a block leads to, by where its steps end
by_block : (flat : FlatProgram) (input : ℕ → ℕ) (o thread : ℕ) (bs places memory : List ℕ) (kind : BreakKind) (line : ℕ) (r : Ran)
    → thread < length places → AreThreads (length places) bs
    → below (length (code_of flat thread)) (input o) (source input o) (code_of flat thread) (slice_index places thread) memory ≡ r
    → ((place : ℕ) (m : List ℕ) → driven flat input (o + block_length (code_of flat thread)) bs (slice_set places thread place) m ≡ broken kind line
    → Breaks flat (driven_inputs flat input (o + block_length (code_of flat thread)) bs (slice_set places thread place) m)
    (driven_run flat input (o + block_length (code_of flat thread)) bs (slice_set places thread place) m) bs (slice_set places thread place) m kind line)
    → block_behind r (λ place. driven flat input (o + block_length (code_of flat thread)) bs (slice_set places thread place)) ≡ broken kind line
    → Breaks flat (inputs_behind thread (source input o) r (λ place. driven_inputs flat input (o + block_length (code_of flat thread)) bs (slice_set places thread place)))
    (block_steps thread (length (code_of flat thread)) (input o) (source input o) (code_of flat thread) (slice_index places thread) memory
    ++ steps_behind r (λ place. driven_run flat input (o + block_length (code_of flat thread)) bs (slice_set places thread place)))
    (thread ∷ bs) places memory kind line
by_block flat input o thread bs places memory kind line (went place m) lt are is again e =
    let later = again place m e in
    let code = code_of flat thread in
    let o2 = o + block_length code in
    let ps = slice_set places thread place in
    let rest = driven_run flat input o2 bs ps m in
    let theirs = driven_inputs flat input o2 bs ps m in
    let inputs = spliced thread place (source input o) theirs in
    let same : course flat theirs rest ps m ≡ course flat inputs rest ps m =
    course_agrees flat theirs inputs rest ps m
    (fits_small (length ps) later.fits (subst (λ (t : ℕ). AreThreads t bs) (sym (length-set places thread place)) are))
    (spliced_later thread place (source input o) theirs places lt) in
    block_run (length code) (input o) (source input o) flat inputs thread rest bs places memory (slice_index places thread) place m kind line lt refl
    (spliced_now thread place (source input o) theirs) is
    (record { fits = later.fits; ends = sym same ∙ later.ends })
by_block flat input o thread bs places memory kind line held lt are is again e = absurd cc
by_block flat input o thread bs places memory kind line (breaks k l) lt are is again e =
    let same_kind : k ≡ kind = cc in
    let same_line : l ≡ line = cc in
    let code = code_of flat thread in
    let whole = block_break (length code) (input o) (source input o) flat (λ u. source input o) thread bs places memory (slice_index places thread) kind line lt refl (λ k. refl)
    (is ∙ rw (same_kind, same_line) refl) in
    subst (λ (run : List ℕ). Breaks flat (λ u. source input o) run (thread ∷ bs) places memory kind line)
    (sym (append-nil (block_steps thread (length code) (input o) (source input o) code (slice_index places thread) memory))) whole
by_block flat input o thread bs places memory kind line ended lt are is again e = absurd cc

-- THE RUN: where inputs drive a break, the run that they drive breaks so
pub driven_breaks : (flat : FlatProgram) (input : ℕ → ℕ) (kind : BreakKind) (line : ℕ) (bs : List ℕ) (o : ℕ) (places memory : List ℕ) → AreThreads (length places) bs
    → driven flat input o bs places memory ≡ broken kind line
    → Breaks flat (driven_inputs flat input o bs places memory) (driven_run flat input o bs places memory) bs places memory kind line
unfolding driven driven_run driven_inputs
driven_breaks flat input kind line [] o places memory are e = absurd cc
driven_breaks flat input kind line (thread ∷ bs) o places memory are e =
    by_block flat input o thread bs places memory kind line (below (length (code_of flat thread)) (input o) (source input o) (code_of flat thread) (slice_index places thread) memory)
    are.0 are.1 refl
    (λ place m d. driven_breaks flat input kind line bs (o + block_length (code_of flat thread)) (slice_set places thread place) m
    (subst (λ (t : ℕ). AreThreads t bs) (sym (length-set places thread place)) are.1) d) e

-- its inputs are words
behind_small : (thread : ℕ) (now : ℕ → ℕ) (r : Ran) (f : ℕ → List ℕ → ℕ → ℕ → ℕ) → ((k : ℕ) → now k < value_bound) → ((place : ℕ) (m : List ℕ) (u k : ℕ) → f place m u k < value_bound) → (u k : ℕ) → inputs_behind thread now r f u k < value_bound
behind_small thread now (went place m) f small later u k = spliced_small thread place now (f place m) small (later place m) u k
behind_small thread now held f small later u k = small k
behind_small thread now (breaks kind line) f small later u k = small k
behind_small thread now ended f small later u k = small k

pub driven_small : (flat : FlatProgram) (input : ℕ → ℕ) → ((i : ℕ) → input i < value_bound) → (bs : List ℕ) (o : ℕ) (places memory : List ℕ) (u k : ℕ) → driven_inputs flat input o bs places memory u k < value_bound
unfolding driven_inputs
driven_small flat input small [] o places memory u k = omega arith
driven_small flat input small (thread ∷ bs) o places memory u k =
    let code = code_of flat thread in
    behind_small thread (source input o) (below (length code) (input o) (source input o) code (slice_index places thread) memory)
    (λ place. driven_inputs flat input (o + block_length code) bs (slice_set places thread place))
    (λ k. small (o + (12 + 3 * k)))
    (λ place m. driven_small flat input small bs (o + block_length code) (slice_set places thread place) m) u k

-- THE LAW
pub run_breaks : DrivesItsRun
unfolding driven
run_breaks flat zero input kind line small e = absurd cc
run_breaks flat (suc rounds) input kind line small e =
    let b = driven_breaks flat input kind line (blocks (suc rounds) (length flat.threads)) 0 (opening flat) flat.first (opening_threads flat (suc rounds)) e in
    record {
      words = driven_small flat input small (blocks (suc rounds) (length flat.threads)) 0 (opening flat) flat.first;
      few = few_rounds rounds (length flat.threads) (run_of flat (suc rounds) input) b.fits;
      breaks = b.ends;
    }
