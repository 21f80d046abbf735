-- Trusted: when an ending is lawful, case by case.
use Rattle.std.specs.Prelude.{◌≡◌, ℕ, ◌<◌, ◌≤◌, ◌^◌, ◌⊎◌, ◌↔◌, List, length, Option, Some, None, ⊤}
use Rattle.lz_base.specs.declared.word.BreakKind.{BreakKind}
use Rattle.lz_outside.specs.Faults.{Rose}
use Rattle.lz_outside.specs.Files.{FileMap, Lacks, Holds, IsLonger}
use Rattle.lz_tree.specs.ScopedTrees.{ScopedProgram}
use Rattle.lz_model.specs.declared.schedule.Step.{Step}
use Rattle.lz_model.specs.Rounds.{rounds_of, threads_of}
use Rattle.lz_model.specs.Programs.{IsViolatedWithin}
use Rattle.lz_model.specs.ScheduleText.{IsScheduleText, IsNoSchedule}
use Rattle.lz_resolve.specs.ScopedPrograms.{scoped_of}
use Rattle.lz_choices.specs.Choices.{first_choice}
use Rattle.lz_slots.specs.Costs.{cost}
use Rattle.lz_replay.specs.declared.answer.Replayed.{Replayed}
use Rattle.lz_replay.specs.Replays.{IsBrokenAt, Says}
use Rattle.lz_cnf.specs.declared.clause.Cnf.{Cnf}
use Rattle.lz_cnf.specs.Models.{IsFormula, HasModel}
use Rattle.lz_log.specs.declared.log.LogStep.{LogStep}
use Rattle.lz_log.specs.Refutation.{Refutes}
use Rattle.lz_cli.specs.declared.ending.Ending.{Ending}
use Rattle.lz_cli.specs.declared.ending.Ending.TheVariants.{Successful, Failed, NotAToken, NotAProgram, Faulty, ManySlots, HighCost, Recheck, Replay, NotBuilt, FileTooLong, ScheduleTooLong, ProofTooLong, BadSchedule, ReadFault, Usage, OutOfMemory}
use Rattle.lz_words.specs.CommandLine.{HasNoReading}
use Rattle.lz_cli.specs.CommandLine.{IsUnbuilt, IsProofName, IsCheckName, IsReplayName, IsSourceName, IsNamed}
use Rattle.lz_cli.specs.Recheck.{proof_limit, IsRechecked}
use Rattle.lz_cli.specs.Source.{HasNoTokens, HasNoTree}
use Rattle.lz_base.specs.Limits.{file_limit}
use Rattle.lz_cli.specs.Limits.{Bounds, checking, replaying, schedule_limit}
use Rattle.lz_cli.specs.Admission.{IsFaulty, HasManySlots, HasHighCost, IsAdmitted}

-- ---- verdicts on the bytes of a file

-- The evidence of a success: a log that is within the bounds refutes the formula, which has a model exactly
-- where the program is violated, and at most as many variables as the program costs.
pub record IsProofOf (bounds : Bounds) (p : ScopedProgram) (formula : Cnf) (log : List LogStep) : Type 0 where
  pub is : IsFormula formula
  pub refutes : Refutes formula log
  pub exact : HasModel formula ↔ IsViolatedWithin p bounds.unwind bounds.rounds
  pub few_variables : formula.variables ≤ cost p bounds.unwind bounds.rounds
  pub within : length log ≤ bounds.conflicts

-- the program has no choice, and no run of it breaks a check within the bounds
pub record IsSuccess (bounds : Bounds) (bytes : List ℕ) (unwind rounds : ℕ) (formula : Cnf) (log : List LogStep) : Type 0 where
  pub admitted : IsAdmitted bounds bytes
  pub no_choice : first_choice (scoped_of admitted.tree) ≡ None
  pub told_unwind : unwind ≡ bounds.unwind
  pub told_rounds : rounds ≡ bounds.rounds
  pub not_violated : IsViolatedWithin (scoped_of admitted.tree) bounds.unwind bounds.rounds → ⊥
  pub proof : IsProofOf bounds (scoped_of admitted.tree) formula log

-- the program has no choice, and a run of it follows the schedule and breaks a check of this kind on this line
pub record IsFailure (bounds : Bounds) (bytes : List ℕ) (kind : BreakKind) (line : ℕ) (schedule : List Step) : Type 0 where
  pub admitted : IsAdmitted bounds bytes
  pub no_choice : first_choice (scoped_of admitted.tree) ≡ None
  pub breaks : IsBrokenAt (scoped_of admitted.tree) bounds.unwind schedule kind line
  pub told_line : line < 2 ^ 32
  pub within_rounds : rounds_of (threads_of schedule) ≤ bounds.rounds

-- the program has a choice, and this is the line of its first
pub record IsNotBuilt (bounds : Bounds) (bytes : List ℕ) (line : ℕ) : Type 0 where
  pub admitted : IsAdmitted bounds bytes
  pub choice : first_choice (scoped_of admitted.tree) ≡ Some line

-- the ending is lawful for a file of these bytes, all of which were read
abbrev pub IsVerdict : Bounds → List ℕ → Ending → Type 0
IsVerdict bounds bytes (Successful unwind rounds formula log) = IsSuccess bounds bytes unwind rounds formula log
IsVerdict bounds bytes (Failed kind line schedule) = IsFailure bounds bytes kind line schedule
IsVerdict bounds bytes (NotAToken line place) = HasNoTokens bytes line place
IsVerdict bounds bytes (NotAProgram line token) = HasNoTree bytes line token
IsVerdict bounds bytes (Faulty line rule) = IsFaulty bytes line rule
IsVerdict bounds bytes (ManySlots slots) = HasManySlots bounds bytes slots
IsVerdict bounds bytes (HighCost cost) = HasHighCost bounds bytes cost
IsVerdict bounds bytes (Recheck answer) = ⊥
IsVerdict bounds bytes (Replay answer) = ⊥
IsVerdict bounds bytes (NotBuilt line) = IsNotBuilt bounds bytes line
IsVerdict bounds bytes FileTooLong = ⊥
IsVerdict bounds bytes ScheduleTooLong = ⊥
IsVerdict bounds bytes ProofTooLong = ⊥
IsVerdict bounds bytes (BadSchedule line) = ⊥
IsVerdict bounds bytes (ReadFault name) = ⊥
IsVerdict bounds bytes Usage = ⊥
IsVerdict bounds bytes OutOfMemory = ⊤

-- ---- endings

-- What a call was given, and how many reads of its folder had failed before and after: its words, and
-- what the files hold, where that is told.
pub record Call : Type 0 where
  pub words : List (List ℕ)
  pub files : Option FileMap
  pub faults_before : ℕ
  pub faults_after : ℕ

abbrev pub call_of : List (List ℕ) → Option FileMap → ℕ → ℕ → Call
call_of words files faults_before faults_after =
    record { words = words; files = files; faults_before = faults_before; faults_after = faults_after }

-- the words name a file whose program is decided, it holds these bytes, where that is told, and they are within the limit
pub record IsSource (call : Call) (turns : ℕ) (bytes : List ℕ) : Type 0 where
  pub name : List ℕ
  pub named : IsCheckName call.words turns name
  pub held : Holds call.files name bytes
  pub within_limit : length bytes ≤ file_limit

-- the ending is the verdict on the bytes of the named file, within the default bounds but for the turns, which a word may say
abbrev pub IsFromFile : Call → Ending → Type 0
IsFromFile call ending = (turns : ℕ) × (bytes : List ℕ) × IsSource call turns bytes × IsVerdict (checking turns) bytes ending

-- the words name a schedule and a file whose program is run by it, the file holds these bytes, where that is told, and they
-- are within the limit
pub record IsRunSource (call : Call) (turns : ℕ) (schedule bytes : List ℕ) : Type 0 where
  pub name : List ℕ
  pub named : IsReplayName call.words turns schedule name
  pub held : Holds call.files name bytes
  pub within_limit : length bytes ≤ file_limit

-- the ending says why the program of the file is not run
abbrev pub IsFromReplay : Call → Ending → Type 0
IsFromReplay call ending =
    (turns : ℕ) × (schedule : List ℕ) × (bytes : List ℕ) × IsRunSource call turns schedule bytes × IsVerdict (replaying turns) bytes ending

-- the ending says why the program of a file is neither decided nor run
abbrev pub IsFromSource : Call → Ending → Type 0
IsFromSource call ending = IsFromFile call ending ⊎ IsFromReplay call ending

-- the words name a schedule and a file, whose program breaks no rule and is within the limits
pub record IsRun (call : Call) (turns : ℕ) (schedule bytes : List ℕ) : Type 0 where
  pub source : IsRunSource call turns schedule bytes
  pub admitted : IsAdmitted (replaying turns) bytes

-- the schedule holds these bytes too, where that is told, and they are within the limit
pub record IsRunBy (call : Call) (turns : ℕ) (bytes text : List ℕ) : Type 0 where
  pub schedule : List ℕ
  pub run : IsRun call turns schedule bytes
  pub held : Holds call.files schedule text
  pub within_limit : length text ≤ schedule_limit

-- the schedule has a reading, and the answer to it is right on the runs of the program
pub record IsReplayed (call : Call) (answer : Replayed) : Type 0 where
  pub turns : ℕ
  pub bytes : List ℕ
  pub text : List ℕ
  pub by : IsRunBy call turns bytes text
  pub steps : List Step
  pub read : IsScheduleText text steps
  pub says : Says (scoped_of by.run.admitted.tree) turns steps answer

-- the schedule has no reading; this is the first line without one
pub record IsBadSchedule (call : Call) (line : ℕ) : Type 0 where
  pub turns : ℕ
  pub bytes : List ℕ
  pub text : List ℕ
  pub by : IsRunBy call turns bytes text
  pub bad : IsNoSchedule text line

-- the schedule is longer than the limit, where that is told
pub record IsScheduleTooLong (call : Call) : Type 0 where
  pub turns : ℕ
  pub schedule : List ℕ
  pub bytes : List ℕ
  pub run : IsRun call turns schedule bytes
  pub longer : IsLonger call.files schedule schedule_limit

-- the words name a proof file, it holds these bytes, where that is told, and they are within the limit
pub record IsProofSource (call : Call) (bytes : List ℕ) : Type 0 where
  pub name : List ℕ
  pub named : IsProofName call.words name
  pub held : Holds call.files name bytes
  pub within_limit : length bytes ≤ proof_limit

-- the proof file is longer than the limit, where that is told
pub record IsProofTooLong (call : Call) : Type 0 where
  pub name : List ℕ
  pub named : IsProofName call.words name
  pub longer : IsLonger call.files name proof_limit

-- the file is longer than the limit, where that is told
pub record IsFileTooLong (call : Call) : Type 0 where
  pub name : List ℕ
  pub named : IsSourceName call.words name
  pub longer : IsLonger call.files name file_limit

-- the told files lack the named file, or the count of failed reads rose in this call or stands at its end
pub record IsReadFault (call : Call) (name : List ℕ) : Type 0 where
  pub named : IsNamed call.words name
  pub cause : Rose call.faults_before call.faults_after ⊎ Lacks call.files name

-- The program of the file breaks no rule and is within the limits, and the told files lack the schedule of this name, or the
-- count of failed reads rose in this call or stands at its end.
pub record IsScheduleFault (call : Call) (schedule : List ℕ) : Type 0 where
  pub turns : ℕ
  pub bytes : List ℕ
  pub run : IsRun call turns schedule bytes
  pub cause : Rose call.faults_before call.faults_after ⊎ Lacks call.files schedule

-- the ending is lawful in the call; want of memory always is
abbrev pub IsLawful : Call → Ending → Type 0
IsLawful call (Successful unwind rounds formula log) = IsFromFile call (Successful unwind rounds formula log)
IsLawful call (Failed kind line schedule) = IsFromFile call (Failed kind line schedule)
IsLawful call (NotAToken line place) = IsFromSource call (NotAToken line place)
IsLawful call (NotAProgram line token) = IsFromSource call (NotAProgram line token)
IsLawful call (Faulty line rule) = IsFromSource call (Faulty line rule)
IsLawful call (ManySlots slots) = IsFromSource call (ManySlots slots)
IsLawful call (HighCost cost) = IsFromSource call (HighCost cost)
IsLawful call (Recheck answer) = (bytes : List ℕ) × IsProofSource call bytes × IsRechecked bytes answer
IsLawful call (Replay answer) = IsReplayed call answer
IsLawful call (NotBuilt line) = IsFromFile call (NotBuilt line) ⊎ (IsUnbuilt call.words × (line ≡ 0))
IsLawful call FileTooLong = IsFileTooLong call
IsLawful call ScheduleTooLong = IsScheduleTooLong call
IsLawful call ProofTooLong = IsProofTooLong call
IsLawful call (BadSchedule line) = IsBadSchedule call line
IsLawful call (ReadFault name) = IsReadFault call name ⊎ IsScheduleFault call name
IsLawful call Usage = HasNoReading call.words
IsLawful call OutOfMemory = ⊤
