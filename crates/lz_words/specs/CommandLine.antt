-- Trusted: how the words of a command line are read: clap's matches for the command, then the numbers, the ranges, and what each mode needs.
use Rattle.std.specs.Prelude.{◌≡◌, ℕ, ◌^◌, codes, Bool, true, false, ◌&&◌, nat_lt, nat_le, if◌then◌else◌, option_map, List, [], ◌∷◌, length, Option, Some, None, is_some}
use Rattle.std.specs.List.{list_all}
use Rattle.std.specs.Char.{is_ascii_digit}
use Rattle.std.specs.Str.{bytes_eq}
use Rattle.std.specs.Borrow.{Bor}
use Rattle.std.specs.Str.Parse.{digits_value}
use Rattle.clap.specs.Walk.{Row, Rule, first_of}
use Rattle.clap.specs.Simple.{App, matches_of, new_app, new_rule, with_rule}
use Rattle.clap.specs.Faults.{fault_of}
use Rattle.lz_words.specs.declared.asked.Asked.{Asked}
use Rattle.lz_words.specs.declared.asked.Mode.{Mode}
use Rattle.lz_words.specs.declared.asked.Mode.TheVariants.{Check, Replay, Recheck, Gen, Emit}
use Rattle.lz_words.specs.Limits.{digit_limit, default_unwind, greatest_unwind, default_rounds, greatest_rounds, default_conflicts, greatest_conflicts, greatest_seed}

-- ---- the command, as clap is told it

-- a long option that takes one value
abbrev pub option_rule : List ℕ → Rule
option_rule name = record (new_rule name) { long = Some name }

-- the name of the file, which stands without an option and is required
abbrev pub file_rule : Rule
file_rule = record (new_rule (codes "file")) { required = true }

-- the word before those that are read
abbrev pub program_name : List ℕ
program_name = codes "lazycheck"

-- seven options and the file
abbrev pub command_line : App
command_line =
    with_rule (with_rule (with_rule (with_rule (with_rule (with_rule (with_rule (with_rule
    (new_app program_name)
    (option_rule (codes "mode")))
    (option_rule (codes "unwind")))
    (option_rule (codes "rounds")))
    (option_rule (codes "conflicts")))
    (option_rule (codes "schedule")))
    (option_rule (codes "proof")))
    (option_rule (codes "seed")))
    file_rule

-- clap's matches for the words after the program's name
abbrev pub rows_of_words : List (List ℕ) → List Row
rows_of_words words = matches_of command_line (program_name ∷ words)

-- clap takes the words
abbrev pub AreTaken : List (List ℕ) → Type 0
AreTaken words = fault_of command_line (program_name ∷ words) ≡ []

-- ---- numbers and modes

-- a text that is lent, if there is one
abbrev pub text_of : Option (Bor (List ℕ)) → Option (List ℕ)
text_of = option_map (λ s. s.now)

abbrev pub some_where : Bool → ℕ → Option ℕ
some_where true number = Some number
some_where false number = None

-- the word is one to twenty decimal digits
abbrev pub is_number : List ℕ → Bool
is_number word = nat_lt 0 (length word) && (nat_le (length word) digit_limit && list_all is_ascii_digit word)

-- the number that such a word writes, where 64 bits hold it
abbrev pub number_of : List ℕ → Option ℕ
number_of word = some_where (is_number word && nat_lt (digits_value 10 word) (2 ^ 64)) (digits_value 10 word)

-- the number, where it is in the range
abbrev pub within : ℕ → ℕ → Option ℕ → Option ℕ
within least most None = None
within least most (Some number) = some_where (nat_le least number && nat_le number most) number

-- the number that an option says, in its range, or the default where the option is absent
abbrev pub number_or : ℕ → ℕ → ℕ → Option (List ℕ) → Option ℕ
number_or least most default None = Some default
number_or least most default (Some word) = within least most (number_of word)

-- the seed that an option says, in its range, or none where the option is absent
abbrev pub seed_or_none : ℕ → Option (List ℕ) → Option (Option ℕ)
seed_or_none most None = Some None
seed_or_none most (Some word) = option_map Some (within 0 most (number_of word))

-- the mode of this name
abbrev pub mode_named : List ℕ → Option Mode
mode_named word =
    if bytes_eq word (codes "check") then Some Check
    else (if bytes_eq word (codes "replay") then Some Replay
    else (if bytes_eq word (codes "recheck") then Some Recheck
    else (if bytes_eq word (codes "gen") then Some Gen
    else (if bytes_eq word (codes "emit") then Some Emit else None))))

-- the mode that an option says, or mode check where the option is absent
abbrev pub mode_or_check : Option (List ℕ) → Option Mode
mode_or_check None = Some Check
mode_or_check (Some word) = mode_named word

-- what the mode needs is there
abbrev pub has_needed : Mode → Option (List ℕ) → Option ℕ → Bool
has_needed Check schedule seed = true
has_needed Replay schedule seed = is_some schedule
has_needed Recheck schedule seed = true
has_needed Gen schedule seed = is_some seed
has_needed Emit schedule seed = true

-- ---- readings

-- the matches ask for this
pub record Asks (rows : List Row) (asked : Asked) : Type 0 where
  pub mode : mode_or_check (first_of (codes "mode") rows) ≡ Some asked.mode
  pub unwind : number_or 1 greatest_unwind default_unwind (first_of (codes "unwind") rows) ≡ Some asked.unwind
  pub rounds : number_or 1 greatest_rounds default_rounds (first_of (codes "rounds") rows) ≡ Some asked.rounds
  pub conflicts : number_or 1 greatest_conflicts default_conflicts (first_of (codes "conflicts") rows) ≡ Some asked.conflicts
  pub schedule : asked.schedule ≡ first_of (codes "schedule") rows
  pub proof : asked.proof ≡ first_of (codes "proof") rows
  pub seed : seed_or_none greatest_seed (first_of (codes "seed") rows) ≡ Some asked.seed
  pub file : first_of (codes "file") rows ≡ Some asked.file
  pub needed : has_needed asked.mode asked.schedule asked.seed ≡ true

-- the words are read so
pub record IsReading (words : List (List ℕ)) (asked : Asked) : Type 0 where
  pub taken : AreTaken words
  pub asks : Asks (rows_of_words words) asked

-- the words have no reading
abbrev pub HasNoReading : List (List ℕ) → Type 0
HasNoReading words = (asked : Asked) → IsReading words asked → ⊥
