-- The reading of a text, line by line.
use Rattle.std.proofs.Common.{◌≡◌, ℕ, suc, ◌+◌, ◌<◌, ◌≤◌, Bool, true, false, not, eqb, cond, List, [], ◌∷◌, ◌++◌, length, take, drop, Some, None, refl, sym, ◌∙◌, ap, subst, append_assoc, arith}
use Rattle.std.specs.List.{prefix_len}
use Rattle.std.proofs.lemmas.List.{append-nil, length-drop}
use Rattle.lz_model.specs.declared.schedule.Step.{Step}
use Rattle.lz_model.specs.ScheduleText.{before_first, lines_of, Reads, passes_over, tells, ReadLines, IsScheduleText, IsFirstBad}
use Rattle.lz_replay.specs.Lines.{is_other, step_at, is_passed_over}
use Rattle.lz_replay.specs.Reading.{Adds, IsLineRefusal}
use Rattle.lz_replay.specs.Refusals.{IsRefusal}
use Rattle.lz_replay.specs.declared.error.ScheduleError.{ScheduleError}
use Rattle.lz_replay.specs.declared.error.ScheduleError.TheVariants as errors
use Rattle.lz_replay.proofs.LinesLemmas.{step_spelled, step_read, passed_spelled, passed_read}

-- ---- one line

-- a line that is passed over adds nothing
pub adds_none : (line : List ℕ) (before : List Step) → is_passed_over line ≡ true → Adds line before before
adds_none line before h = record { steps = []; reads = passes_over (passed_spelled line h) refl; is = sym (append-nil before) }

-- a step is added
pub adds_step : (line : List ℕ) (before after : List Step) (s : Step) → Some s ≡ step_at line → after ≡ before ++ s ∷ [] → Adds line before after
adds_step line before after s h is = record { steps = s ∷ []; reads = tells s (step_spelled line s (sym h)) refl; is = is }

-- what is neither has no reading
pub reads_nothing : (line : List ℕ) → is_passed_over line ≡ false → None ≡ step_at line → (some : List Step) → Reads line some → ⊥
reads_nothing line h none some (passes_over p e) = let t = passed_read line p in let both : true ≡ false = sym t ∙ h in cc
reads_nothing line h none some (tells s is e) = let t = step_read line s is in let both : None ≡ Some s = none ∙ t in cc

-- ---- lines

-- behind a byte that is no newline the first line goes on
line_goes_on : (b : ℕ) (bytes : List ℕ) (k count : ℕ) → count ≡ suc k → k ≡ prefix_len (is_other 10) bytes
    → (0 < length bytes → lines_of bytes ≡ take k bytes ∷ lines_of (drop (k + 1) bytes))
    → before_first b (lines_of bytes) ≡ take count (b ∷ bytes) ∷ lines_of (drop (count + 1) (b ∷ bytes))
line_goes_on b [] k count e is ih =
    let one : count ≡ 1 = omega arith in
    ap (λ (n : ℕ). take n (b ∷ []) ∷ lines_of (drop (n + 1) (b ∷ []))) (sym one)
line_goes_on b (c ∷ bytes) k count e is ih =
    let next : count + 1 ≡ suc (k + 1) = omega arith in
    ap (before_first b) (ih (omega arith))
    ∙ ap (λ (n : ℕ). (b ∷ take k (c ∷ bytes)) ∷ lines_of (drop n (b ∷ c ∷ bytes))) (sym next)
    ∙ ap (λ (n : ℕ). take n (b ∷ c ∷ bytes) ∷ lines_of (drop (count + 1) (b ∷ c ∷ bytes))) (sym e)

first_line_by : (b : ℕ) (bytes : List ℕ) (count : ℕ) (c : Bool) → count ≡ cond (not c) (1 + prefix_len (is_other 10) bytes) 0
    → (0 < length bytes → lines_of bytes ≡ take (prefix_len (is_other 10) bytes) bytes ∷ lines_of (drop (prefix_len (is_other 10) bytes + 1) bytes))
    → cond c ([] ∷ lines_of bytes) (before_first b (lines_of bytes)) ≡ take count (b ∷ bytes) ∷ lines_of (drop (count + 1) (b ∷ bytes))
first_line_by b bytes count true e ih = ap (λ (n : ℕ). take n (b ∷ bytes) ∷ lines_of (drop (n + 1) (b ∷ bytes))) (sym e)
first_line_by b bytes count false e ih = line_goes_on b bytes (prefix_len (is_other 10) bytes) count (omega arith) refl ih

-- the first line of a text that is not empty, and the others
pub first_line : (bytes : List ℕ) (count : ℕ) → 0 < length bytes → count ≡ prefix_len (is_other 10) bytes → lines_of bytes ≡ take count bytes ∷ lines_of (drop (count + 1) bytes)
first_line [] count lt e = absurd (omega arith)
first_line (b ∷ bytes) count lt e = first_line_by b bytes count (eqb b 10) e (λ some. first_line bytes (prefix_len (is_other 10) bytes) some refl)

-- ---- the text

-- However the rest of the text is read from here, so is the whole; so many lines were read.
pub record LeadsOn (text rest : List ℕ) (schedule : List Step) (line : ℕ) : Type 0 where
  pub on : (more : List Step) → ReadLines (lines_of rest) more → ReadLines (lines_of text) (schedule ++ more)
  pub bad : (m n : ℕ) → IsFirstBad (lines_of rest) m → n ≡ m + line → IsFirstBad (lines_of text) n
  pub few : line + length rest ≤ length text

pub LeadsOn-start : (text : List ℕ) → LeadsOn text text [] 0
LeadsOn-start text = record {
  on = λ more h. h;
  bad = λ m n h e. let same : m ≡ n = omega arith in subst (λ (k : ℕ). IsFirstBad (lines_of text) k) same h;
  few = omega arith;
}

length_behind : (count : ℕ) (bytes : List ℕ) → 0 < length bytes → length (drop (count + 1) bytes) < length bytes
length_behind count bytes lt = let l = length-drop (count + 1) bytes in omega (arith, l)

-- behind one more line
pub LeadsOn-line : {text rest : List ℕ} {schedule after : List Step} {line : ℕ} (count : ℕ) → LeadsOn text rest schedule line → 0 < length rest → count ≡ prefix_len (is_other 10) rest
    → Adds (take count rest) schedule after → LeadsOn text (drop (count + 1) rest) after (line + 1)
LeadsOn-line {text} {rest} {schedule} {after} {line} count p lt e adds = record {
  on = λ more h. on_line more h;
  bad = λ m n h same. p.bad (suc m) n (later m h) (omega arith);
  few = let shorter = length_behind count rest lt in let f = p.few in omega arith;
}
  where
    lines : lines_of rest ≡ take count rest ∷ lines_of (drop (count + 1) rest)
    lines = first_line rest count lt e

    on_line : (more : List Step) → ReadLines (lines_of (drop (count + 1) rest)) more → ReadLines (lines_of text) (after ++ more)
    on_line more h =
        let whole = p.on (adds.steps ++ more) (subst (λ (ls : List (List ℕ)). ReadLines ls (adds.steps ++ more)) (sym lines) (adds.steps, more, adds.reads, h, refl)) in
        subst (λ (steps : List Step). ReadLines (lines_of text) steps) (sym (append_assoc schedule adds.steps more) ∙ ap (λ (steps : List Step). steps ++ more) (sym adds.is)) whole

    later : (m : ℕ) → IsFirstBad (lines_of (drop (count + 1) rest)) m → IsFirstBad (lines_of rest) (suc m)
    later m h = record {
      front = take count rest ∷ h.front;
      line = h.line;
      back = h.back;
      divided = lines ∙ ap (λ (ls : List (List ℕ)). take count rest ∷ ls) h.divided;
      counted = let c = h.counted in omega arith;
      steps = adds.steps ++ h.steps;
      read = (adds.steps, h.steps, adds.reads, h.read, refl);
      bad = h.bad;
    }

-- at a line that has no reading
pub LeadsOn-bad : {text rest : List ℕ} {schedule : List Step} {line : ℕ} (count told : ℕ) → LeadsOn text rest schedule line → 0 < length rest → count ≡ prefix_len (is_other 10) rest
    → ((some : List Step) → Reads (take count rest) some → ⊥) → told ≡ line + 1 → IsFirstBad (lines_of text) told
LeadsOn-bad {text} {rest} {schedule} {line} count told p lt e none same =
    p.bad 1 told
    (record { front = []; line = take count rest; back = lines_of (drop (count + 1) rest); divided = first_line rest count lt e; counted = refl; steps = []; read = refl; bad = none })
    (omega arith)

-- at the end of the text
pub LeadsOn-end : {text : List ℕ} (rest : List ℕ) {schedule : List Step} {line : ℕ} → length rest ≡ 0 → LeadsOn text rest schedule line → IsScheduleText text schedule
LeadsOn-end {text} [] {schedule} {line} none p = record { lines = subst (λ (steps : List Step). ReadLines (lines_of text) steps) (append-nil schedule) (p.on [] refl) }
LeadsOn-end {text} (b ∷ rest) none p = absurd (omega arith)

-- a refusal of a line is one of the text
pub LeadsOn-refused : {text rest : List ℕ} {schedule : List Step} {line : ℕ} (count : ℕ) (e : ScheduleError) → LeadsOn text rest schedule line → 0 < length rest → count ≡ prefix_len (is_other 10) rest
    → IsLineRefusal (take count rest) (line + 1) e → IsRefusal text e
LeadsOn-refused count (errors.Bad told) p lt same h = LeadsOn-bad count told p lt same h.1 h.0
LeadsOn-refused count errors.Memory p lt same h = tt
