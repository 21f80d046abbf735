-- The report of a failure, read as a schedule text, is its schedule.
use Rattle.std.proofs.Common.{◌≡◌, ℕ, ◌^◌, ◌<◌, true, List, [], ◌∷◌, ◌++◌, refl, sym, ◌∙◌, ap, subst, append_assoc, arith}
use Rattle.std.specs.Prelude.{codes}
use Rattle.std.specs.List.{list_all, AllByRecursion}
use Rattle.std.specs.Fmt.{decimal}
use Rattle.std.proofs.lemmas.Fmt.{digits_decimal}
use Rattle.lz_base.specs.declared.word.BreakKind.{BreakKind}
use Rattle.lz_base.specs.declared.word.BreakKind.TheVariants.{Assert, Bounds, DivZero, Unlock, Wait, Join, Reached}
use Rattle.lz_model.specs.declared.schedule.Step.{Step}
use Rattle.lz_model.specs.Rounds.{rounds_of, threads_of}
use Rattle.lz_model.specs.ScheduleText.{lines_of, IsStep, BeginsWith, failed, check, rounds, Reads, passes_over, ReadLines, printed, IsScheduleText}
use Rattle.lz_replay.specs.Lines.{is_other}
use Rattle.lz_replay.proofs.LawsLemmas.{line_first, all_append, no_newline, printed_read}
use Rattle.lz_cli.specs.declared.ending.Ending.TheVariants.{Failed}
use Rattle.lz_cli.specs.Report.{kind_word, report}
use Rattle.lz_base.proofs.NumeralLemmas.{decimal_numerals}

number_is_in_line : (n : ℕ) → n < 2 ^ 64 → list_all (is_other 10) (decimal n) ≡ true
number_is_in_line n small = no_newline (decimal n) (digits_decimal decimal_numerals n small)

word_is_in_line : (kind : BreakKind) → list_all (is_other 10) (kind_word kind) ≡ true
word_is_in_line Assert = refl
word_is_in_line Bounds = refl
word_is_in_line DivZero = refl
word_is_in_line Unlock = refl
word_is_in_line Wait = refl
word_is_in_line Join = refl
word_is_in_line Reached = refl

check_line : BreakKind → ℕ → List ℕ
check_line kind line = codes "check " ++ (kind_word kind ++ (codes " line " ++ decimal line))

rounds_line : ℕ → List ℕ
rounds_line number = codes "rounds " ++ decimal number

check_is_line : (kind : BreakKind) (line : ℕ) → line < 2 ^ 64 → list_all (is_other 10) (check_line kind line) ≡ true
unfolding check_line
check_is_line kind line small =
    all_append (is_other 10) (codes "check ") (kind_word kind ++ (codes " line " ++ decimal line)) refl
    (all_append (is_other 10) (kind_word kind) (codes " line " ++ decimal line) (word_is_in_line kind)
    (all_append (is_other 10) (codes " line ") (decimal line) refl (number_is_in_line line small)))

rounds_is_line : (number : ℕ) → number < 2 ^ 64 → list_all (is_other 10) (rounds_line number) ≡ true
unfolding rounds_line
rounds_is_line number small = all_append (is_other 10) (codes "rounds ") (decimal number) refl (number_is_in_line number small)

-- eight texts, each behind those before it
joined : (a b c d e f g h : List ℕ) → a ++ b ++ c ++ d ++ e ++ f ++ g ++ h ≡ a ++ ((b ++ (c ++ d)) ++ (e ++ (f ++ (g ++ h))))
joined a b c d e f g h = simp append_assoc

in_lines : (kind : BreakKind) (line : ℕ) (schedule : List Step)
    → report (Failed kind line schedule) ≡ codes "FAILED" ++ 10 ∷ (check_line kind line ++ 10 ∷ (rounds_line (rounds_of (threads_of schedule)) ++ 10 ∷ printed schedule))
unfolding check_line rounds_line
in_lines kind line schedule =
    joined (codes "FAILED\ncheck ") (kind_word kind) (codes " line ") (decimal line) (codes "\nrounds ") (decimal (rounds_of (threads_of schedule))) (codes "\n") (printed schedule)

-- lines that say nothing, before others
passed : (line : List ℕ) (lines : List (List ℕ)) (steps : List Step) → Reads line [] → ReadLines lines steps → ReadLines (line ∷ lines) steps
passed line lines steps reads rest = ([], steps, reads, rest, refl)

pub report_read : (kind : BreakKind) (line : ℕ) (schedule : List Step) → line < 2 ^ 64 → rounds_of (threads_of schedule) < 2 ^ 64 → AllByRecursion IsStep schedule
    → IsScheduleText (report (Failed kind line schedule)) schedule
unfolding check_line rounds_line
report_read kind line schedule small few within = record { lines = subst (λ (text : List ℕ). ReadLines (lines_of text) schedule) (sym (in_lines kind line schedule)) read }
  where
    number : ℕ
    number = rounds_of (threads_of schedule)

    behind_rounds : List ℕ
    behind_rounds = rounds_line number ++ 10 ∷ printed schedule

    divided : lines_of (codes "FAILED" ++ 10 ∷ (check_line kind line ++ 10 ∷ behind_rounds)) ≡ codes "FAILED" ∷ check_line kind line ∷ rounds_line number ∷ lines_of (printed schedule)
    divided =
        line_first (codes "FAILED") (check_line kind line ++ 10 ∷ behind_rounds) refl
        ∙ ap (λ (ls : List (List ℕ)). codes "FAILED" ∷ ls) (line_first (check_line kind line) behind_rounds (check_is_line kind line small))
        ∙ ap (λ (ls : List (List ℕ)). codes "FAILED" ∷ check_line kind line ∷ ls) (line_first (rounds_line number) (printed schedule) (rounds_is_line number few))

    read : ReadLines (lines_of (codes "FAILED" ++ 10 ∷ (check_line kind line ++ 10 ∷ behind_rounds))) schedule
    read = subst (λ (ls : List (List ℕ)). ReadLines ls schedule) (sym divided)
        (passed (codes "FAILED") (check_line kind line ∷ rounds_line number ∷ lines_of (printed schedule)) schedule (passes_over (failed refl) refl)
        (passed (check_line kind line) (rounds_line number ∷ lines_of (printed schedule)) schedule (passes_over (check (record { rest = kind_word kind ++ (codes " line " ++ decimal line); is = refl })) refl)
        (passed (rounds_line number) (lines_of (printed schedule)) schedule (passes_over (rounds (record { rest = decimal number; is = refl })) refl)
        (printed_read schedule within))))
