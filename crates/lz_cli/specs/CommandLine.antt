-- Trusted: what a reading of the words asks for, how much of it is built, and which files it names.
use Rattle.std.specs.Prelude.{◌≡◌, ◌⊎◌, ℕ, ◌==◌, ◌&&◌, Bool, true, false, List, Some, is_none}
use Rattle.lz_words.specs.declared.asked.Asked.{Asked}
use Rattle.lz_words.specs.declared.asked.Mode.{Mode}
use Rattle.lz_words.specs.declared.asked.Mode.TheVariants as modes
use Rattle.lz_words.specs.CommandLine.{IsReading, HasNoReading}
use Rattle.lz_cli.specs.Limits.{default_unwind, default_rounds, default_conflicts}

-- ---- what is built

-- the default numbers of rounds and conflicts, and no name for a proof
abbrev pub is_plain : Asked → Bool
is_plain asked = (asked.rounds == default_rounds) && ((asked.conflicts == default_conflicts) && is_none asked.proof)

-- a decision within these, a replay or a recheck
abbrev pub is_built_in : Mode → Asked → Bool
is_built_in modes.Check asked = is_plain asked
is_built_in modes.Replay asked = true
is_built_in modes.Recheck asked = true
is_built_in modes.Gen asked = false
is_built_in modes.Emit asked = false

abbrev pub is_built : Asked → Bool
is_built asked = is_built_in asked.mode asked

-- the words ask for what is not built
pub record IsUnbuilt (words : List (List ℕ)) : Type 0 where
  pub asked : Asked
  pub reading : IsReading words asked
  pub unbuilt : is_built asked ≡ false

-- the words have no reading, or ask for what is not built
abbrev pub AskForNoFile : List (List ℕ) → Type 0
AskForNoFile words = HasNoReading words ⊎ IsUnbuilt words

-- ---- files that are read

-- the words ask for a decision of the file of this name, with so many turns
pub record IsCheckName (words : List (List ℕ)) (turns : ℕ) (name : List ℕ) : Type 0 where
  pub asked : Asked
  pub reading : IsReading words asked
  pub mode : asked.mode ≡ modes.Check
  pub plain : is_plain asked ≡ true
  pub told_turns : turns ≡ asked.unwind
  pub told_name : name ≡ asked.file

-- the same, with as many turns as where no word says another number
abbrev pub IsFileName : List (List ℕ) → List ℕ → Type 0
IsFileName words name = IsCheckName words default_unwind name

-- the words ask that the file of this name be run by the schedule of that name, with so many turns
pub record IsReplayName (words : List (List ℕ)) (turns : ℕ) (schedule name : List ℕ) : Type 0 where
  pub asked : Asked
  pub reading : IsReading words asked
  pub mode : asked.mode ≡ modes.Replay
  pub told_schedule : asked.schedule ≡ Some schedule
  pub told_turns : turns ≡ asked.unwind
  pub told_name : name ≡ asked.file

-- the words ask for a recheck of the proof file of this name
pub record IsProofName (words : List (List ℕ)) (name : List ℕ) : Type 0 where
  pub asked : Asked
  pub reading : IsReading words asked
  pub mode : asked.mode ≡ modes.Recheck
  pub told_name : name ≡ asked.file

-- ---- files that are read first

-- the words name a source file, whose program is decided or run
abbrev pub IsSourceName : List (List ℕ) → List ℕ → Type 0
IsSourceName words name =
    ((turns : ℕ) × IsCheckName words turns name) ⊎ ((turns : ℕ) × (schedule : List ℕ) × IsReplayName words turns schedule name)

-- the words name a file, of either kind
abbrev pub IsNamed : List (List ℕ) → List ℕ → Type 0
IsNamed words name = IsSourceName words name ⊎ IsProofName words name
