-- A printed schedule is read as it, and a text is one schedule at most.
use Rattle.std.proofs.Common.{◌≡◌, ℕ, ◌^◌, ◌<◌, Bool, true, false, not, eqb, List, [], ◌∷◌, ◌++◌, get_or, Some, refl, sym, ◌∙◌, ap, subst, append_assoc, arith}
use Rattle.std.specs.Prelude.{codes}
use Rattle.std.specs.List.{list_all, AllByRecursion}
use Rattle.std.specs.Fmt.{decimal}
use Rattle.std.specs.Int.{IsInRange}
use Rattle.std.specs.Str.Parse.{AllDigits}
use Rattle.std.proofs.lemmas.Bool.{and_parts}
use Rattle.std.proofs.lemmas.Bool.Decides.{nat_tests}
use Rattle.std.proofs.lemmas.Str.Parse.{tells_digits}
use Rattle.std.proofs.lemmas.Fmt.{digits_decimal}
use Rattle.lz_model.specs.declared.schedule.Step.{Step}
use Rattle.lz_model.specs.ScheduleText.{before_first, lines_of, step_text, IsStep, IsStepLine, IsPassedOver, empty, failed, check, rounds, Reads, passes_over, tells, ReadLines, printed}
use Rattle.lz_replay.specs.Lines.{is_other}
use Rattle.lz_replay.proofs.LinesLemmas.{step_read}
use Rattle.lz_base.proofs.NumeralLemmas.{decimal_numerals}

-- ---- a printed schedule is read

-- bytes without a newline, and what stands behind them and a newline
pub line_first : (xs rest : List ℕ) → list_all (is_other 10) xs ≡ true → lines_of (xs ++ 10 ∷ rest) ≡ xs ∷ lines_of rest
line_first [] rest h = refl
line_first (x ∷ xs) rest h =
    let p = and_parts (is_other 10 x) (list_all (is_other 10) xs) h in
    let other : eqb x 10 ≡ false = is_false (eqb x 10) p.0 in
    rw other (ap (before_first x) (line_first xs rest p.1))
  where
    is_false : (b : Bool) → not b ≡ true → b ≡ false
    is_false true e = absurd cc
    is_false false e = refl

-- a test of all elements of two lists
pub all_append : (p : ℕ → Bool) (xs ys : List ℕ) → list_all p xs ≡ true → list_all p ys ≡ true → list_all p (xs ++ ys) ≡ true
all_append p [] ys h k = k
all_append p (x ∷ xs) ys h k =
    let parts = and_parts (p x) (list_all p xs) h in
    rw (parts.0, all_append p xs ys parts.1 k) refl

-- digits have no newline
pub no_newline : (ds : List ℕ) → AllDigits 10 ds → list_all (is_other 10) ds ≡ true
no_newline [] h = refl
no_newline (d ∷ ds) h =
    let p = tells_digits.parts d ds h in
    rw (other d p.0, no_newline ds p.1) refl
  where
    other : (c : ℕ) → IsInRange 48 57 c → not (eqb c 10) ≡ true
    other c k = grind (arith, nat_tests)

step_is_a_line : (s : Step) → IsStep s → list_all (is_other 10) (step_text s) ≡ true
step_is_a_line s within =
    let small : s.thread < 2 ^ 64 = let w = within.thread in omega arith in
    let thread = no_newline (decimal s.thread) (digits_decimal decimal_numerals s.thread small) in
    let choice = no_newline (decimal s.choice) (digits_decimal decimal_numerals s.choice within.choice) in
    all_append (is_other 10) (codes "step " ++ decimal s.thread ++ codes " ") (decimal s.choice)
    (all_append (is_other 10) (codes "step " ++ decimal s.thread) (codes " ") (all_append (is_other 10) (codes "step ") (decimal s.thread) refl thread) refl)
    choice

printed_lines : (s : Step) (rest : List Step) → IsStep s → lines_of (printed (s ∷ rest)) ≡ step_text s ∷ lines_of (printed rest)
printed_lines s rest within =
    ap lines_of (append_assoc (step_text s) (codes "\n") (printed rest)) ∙ line_first (step_text s) (printed rest) (step_is_a_line s within)

pub printed_read : (schedule : List Step) → AllByRecursion IsStep schedule → ReadLines (lines_of (printed schedule)) schedule
printed_read [] h = refl
printed_read (s ∷ rest) h =
    subst (λ (lines : List (List ℕ)). ReadLines lines (s ∷ rest)) (sym (printed_lines s rest h.0))
    (s ∷ [], rest, tells s (record { spelled = refl; within = h.0 }) refl, printed_read rest h.1, refl)

-- ---- a text is one schedule

first_byte : List ℕ → ℕ
first_byte line = get_or line 0 0

-- no line is both passed over and a step
no_step : (line : List ℕ) (s : Step) → IsPassedOver line → IsStepLine line s → ⊥
unfolding first_byte
no_step line s (empty e) is = let same : [] ≡ step_text s = sym e ∙ is.spelled in let z : ◌≡◌ {A = ℕ} 0 115 = ap first_byte same in omega arith
no_step line s (failed e) is = let same : codes "FAILED" ≡ step_text s = sym e ∙ is.spelled in let z : ◌≡◌ {A = ℕ} 70 115 = ap first_byte same in omega arith
no_step line s (check front) is = let same : codes "check " ++ front.rest ≡ step_text s = sym front.is ∙ is.spelled in let z : ◌≡◌ {A = ℕ} 99 115 = ap first_byte same in omega arith
no_step line s (rounds front) is = let same : codes "rounds " ++ front.rest ≡ step_text s = sym front.is ∙ is.spelled in let z : ◌≡◌ {A = ℕ} 114 115 = ap first_byte same in omega arith

one_reading : (line : List ℕ) (a b : List Step) → Reads line a → Reads line b → a ≡ b
one_reading line a b (passes_over p e) (passes_over q f) = e ∙ sym f
one_reading line a b (passes_over p e) (tells s is f) = absurd (no_step line s p is)
one_reading line a b (tells s is e) (passes_over q f) = absurd (no_step line s q is)
one_reading line a b (tells s is e) (tells t it f) =
    let same : Some s ≡ Some t = sym (step_read line s is) ∙ step_read line t it in
    let steps : s ≡ t = cc in
    e ∙ ap (λ (x : Step). x ∷ []) steps ∙ sym f

pub one_list : (lines : List (List ℕ)) (a b : List Step) → ReadLines lines a → ReadLines lines b → a ≡ b
one_list [] a b h k = h ∙ sym k
one_list (line ∷ lines) a b h k =
    let first = one_reading line h.0 k.0 h.2 k.2 in
    let more = one_list lines h.1 k.1 h.3 k.3 in
    h.4 ∙ ap (λ (xs : List Step). xs ++ h.1) first ∙ ap (λ (ys : List Step). k.0 ++ ys) more ∙ sym k.4
