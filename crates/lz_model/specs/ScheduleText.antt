-- Trusted: the reading of a schedule text.
use Rattle.std.specs.Prelude.{◌≡◌, ℕ, ◌<◌, ◌^◌, ◌+◌, ◌==◌, List, [], ◌∷◌, ◌++◌, length, codes, if◌then◌else◌}
use Rattle.std.specs.Fmt.{decimal}
use Rattle.std.specs.List.{flat_map}
use Rattle.lz_model.specs.declared.schedule.Step.{Step}

-- ---- lines

-- the first line with one more byte at its front
abbrev pub before_first : ℕ → List (List ℕ) → List (List ℕ)
before_first byte [] = (byte ∷ []) ∷ []
before_first byte (line ∷ lines) = (byte ∷ line) ∷ lines

-- the lines of a text: it is divided at newlines, and what stands behind the last one is a line where it is not
-- empty
abbrev pub lines_of : List ℕ → List (List ℕ)
lines_of [] = []
lines_of (byte ∷ bytes) = if byte == 10 then [] ∷ lines_of bytes else before_first byte (lines_of bytes)

-- ---- what a line says

-- `step T C`, in decimal numbers without leading zeros and with single spaces
abbrev pub step_text : Step → List ℕ
step_text step = codes "step " ++ decimal step.thread ++ codes " " ++ decimal step.choice

-- the numbers of a step are within their types
pub record IsStep (step : Step) : Type 0 where
  pub thread : step.thread < 2 ^ 32
  pub choice : step.choice < 2 ^ 64

-- the line is a step
pub record IsStepLine (line : List ℕ) (step : Step) : Type 0 where
  pub spelled : line ≡ step_text step
  pub within : IsStep step

-- the line begins with these bytes
pub record BeginsWith (front line : List ℕ) : Type 0 where
  pub rest : List ℕ
  pub is : line ≡ front ++ rest

-- the line says nothing of the schedule: it is empty, or is `FAILED`, or tells the check or the rounds
pub data IsPassedOver (line : List ℕ) : Type 0 where
  empty : line ≡ [] → IsPassedOver line
  failed : line ≡ codes "FAILED" → IsPassedOver line
  check : BeginsWith (codes "check ") line → IsPassedOver line
  rounds : BeginsWith (codes "rounds ") line → IsPassedOver line

-- the line has a reading, in these steps: none or one
pub data Reads (line : List ℕ) (steps : List Step) : Type 0 where
  passes_over : IsPassedOver line → steps ≡ [] → Reads line steps
  tells : (step : Step) → IsStepLine line step → steps ≡ step ∷ [] → Reads line steps

-- the lines have a reading: the steps of each in order
abbrev pub ReadLines : List (List ℕ) → List Step → Type 0
ReadLines [] steps = steps ≡ []
ReadLines (line ∷ lines) steps = (first more : List Step) × Reads line first × ReadLines lines more × (steps ≡ first ++ more)

-- the text is a schedule
pub record IsScheduleText (text : List ℕ) (schedule : List Step) : Type 0 where
  pub lines : ReadLines (lines_of text) schedule

-- The line of this number, counted from 1, is the first that has no reading.
pub record IsFirstBad (lines : List (List ℕ)) (number : ℕ) : Type 0 where
  pub front : List (List ℕ)
  pub line : List ℕ
  pub back : List (List ℕ)
  pub divided : lines ≡ front ++ line ∷ back
  pub counted : number ≡ length front + 1
  pub steps : List Step
  pub read : ReadLines front steps
  pub bad : (some : List Step) → Reads line some → ⊥

-- the text has no reading, and this is the first line without one
abbrev pub IsNoSchedule : List ℕ → ℕ → Type 0
IsNoSchedule text number = IsFirstBad (lines_of text) number

-- the text that is printed for a schedule: a line for each step
abbrev pub printed : List Step → List ℕ
printed schedule = flat_map (λ step. step_text step ++ codes "\n") schedule
