-- Inner: which endings are left where the folder tells the named file and no read failed.
-- With the cases of a lawful ending: there one ending is lawful beside want of memory.
use Rattle.std.specs.Prelude.{◌≡◌, ◌⊎◌, ℕ, List, ⊤}
use Rattle.lz_outside.specs.Faults.{Rose}
use Rattle.lz_outside.specs.Files.{Tells}
use Rattle.lz_tree.specs.declared.token.Tokens.{Tokens}
use Rattle.lz_parse.specs.Programs.{IsRefusedAt}
use Rattle.lz_model.specs.declared.schedule.Step.{Step}
use Rattle.lz_model.specs.Programs.{IsViolatedWithin}
use Rattle.lz_model.specs.ScheduleText.{IsScheduleText, IsNoSchedule}
use Rattle.lz_tree.specs.ScopedTrees.{ScopedProgram}
use Rattle.lz_replay.specs.declared.answer.Replayed.{Replayed}
use Rattle.lz_replay.specs.Replays.{Says}
use Rattle.lz_cli.specs.declared.ending.Ending.{Ending}
use Rattle.lz_cli.specs.declared.ending.Ending.TheVariants.{Successful, Failed, NotAToken, NotAProgram, Faulty, ManySlots, HighCost, Recheck, Replay, NotBuilt, FileTooLong, ScheduleTooLong, ProofTooLong, BadSchedule, ReadFault, Usage, OutOfMemory}
use Rattle.lz_cli.specs.CommandLine.{IsFileName, IsProofName, IsCheckName, IsReplayName}
use Rattle.lz_cli.specs.Recheck.{IsRechecked}
use Rattle.lz_cli.specs.Limits.{Bounds, defaults, checking, replaying}
use Rattle.lz_cli.specs.Ending.{Call}

-- the words name a file that the folder tells, with this content, and no read failed
pub record IsToldFile (call : Call) (content : List ℕ) : Type 0 where
  pub name : List ℕ
  pub named : IsFileName call.words name
  pub tells : Tells call.files name content
  pub calm : Rose call.faults_before call.faults_after → ⊥

-- the words name a file whose program is decided, and so many turns; the folder tells it, with this content, and no read failed
pub record IsToldCheck (call : Call) (turns : ℕ) (content : List ℕ) : Type 0 where
  pub name : List ℕ
  pub named : IsCheckName call.words turns name
  pub tells : Tells call.files name content
  pub calm : Rose call.faults_before call.faults_after → ⊥

-- the same of a file whose program is run by the schedule of this name
pub record IsToldRun (call : Call) (turns : ℕ) (schedule content : List ℕ) : Type 0 where
  pub name : List ℕ
  pub named : IsReplayName call.words turns schedule name
  pub tells : Tells call.files name content
  pub calm : Rose call.faults_before call.faults_after → ⊥

-- the words name a source file, which is read within these bounds; the folder tells it, with this content, and no read failed
abbrev pub IsToldSource : Call → Bounds → List ℕ → Type 0
IsToldSource call bounds content =
    ((turns : ℕ) × IsToldCheck call turns content × (bounds ≡ checking turns))
    ⊎ ((turns : ℕ) × (schedule : List ℕ) × IsToldRun call turns schedule content × (bounds ≡ replaying turns))

-- the folder tells the schedule too, with this text
pub record IsToldReplay (call : Call) (turns : ℕ) (content text : List ℕ) : Type 0 where
  pub schedule : List ℕ
  pub source : IsToldRun call turns schedule content
  pub tells : Tells call.files schedule text

-- the ending tells whether the program is violated within these bounds, or that memory ran out
abbrev pub IsDecidedWithin : Bounds → ScopedProgram → Ending → Type 0
IsDecidedWithin bounds p (Successful unwind rounds formula log) = IsViolatedWithin p bounds.unwind bounds.rounds → ⊥
IsDecidedWithin bounds p (Failed kind line schedule) = IsViolatedWithin p bounds.unwind bounds.rounds
IsDecidedWithin bounds p (NotAToken line place) = ⊥
IsDecidedWithin bounds p (NotAProgram line token) = ⊥
IsDecidedWithin bounds p (Faulty line rule) = ⊥
IsDecidedWithin bounds p (ManySlots slots) = ⊥
IsDecidedWithin bounds p (HighCost cost) = ⊥
IsDecidedWithin bounds p (Recheck answer) = ⊥
IsDecidedWithin bounds p (Replay answer) = ⊥
IsDecidedWithin bounds p (NotBuilt line) = ⊥
IsDecidedWithin bounds p FileTooLong = ⊥
IsDecidedWithin bounds p ScheduleTooLong = ⊥
IsDecidedWithin bounds p ProofTooLong = ⊥
IsDecidedWithin bounds p (BadSchedule line) = ⊥
IsDecidedWithin bounds p (ReadFault name) = ⊥
IsDecidedWithin bounds p Usage = ⊥
IsDecidedWithin bounds p OutOfMemory = ⊤

-- the same within the default bounds
abbrev pub IsDecided : ScopedProgram → Ending → Type 0
IsDecided p ending = IsDecidedWithin defaults p ending

-- the ending tells the first token up to and with which no program's spelling begins, or that memory ran out
abbrev pub IsRefusal : Tokens → Ending → Type 0
IsRefusal tokens (NotAProgram line token) = IsRefusedAt tokens token line
IsRefusal tokens OutOfMemory = ⊤
IsRefusal tokens _ = ⊥

-- the ending is this one, or that memory ran out
abbrev pub IsEither : Ending → Ending → Type 0
IsEither expected (Successful unwind rounds formula log) = expected ≡ Successful unwind rounds formula log
IsEither expected (Failed kind line schedule) = expected ≡ Failed kind line schedule
IsEither expected (NotAToken line place) = expected ≡ NotAToken line place
IsEither expected (NotAProgram line token) = expected ≡ NotAProgram line token
IsEither expected (Faulty line rule) = expected ≡ Faulty line rule
IsEither expected (ManySlots slots) = expected ≡ ManySlots slots
IsEither expected (HighCost cost) = expected ≡ HighCost cost
IsEither expected (Recheck answer) = expected ≡ Recheck answer
IsEither expected (Replay answer) = expected ≡ Replay answer
IsEither expected (NotBuilt line) = expected ≡ NotBuilt line
IsEither expected FileTooLong = expected ≡ FileTooLong
IsEither expected ScheduleTooLong = expected ≡ ScheduleTooLong
IsEither expected ProofTooLong = expected ≡ ProofTooLong
IsEither expected (BadSchedule line) = expected ≡ BadSchedule line
IsEither expected (ReadFault name) = expected ≡ ReadFault name
IsEither expected Usage = expected ≡ Usage
IsEither expected OutOfMemory = ⊤

-- the words name a proof file that the folder tells, with this content, and no read failed
pub record IsToldProof (call : Call) (content : List ℕ) : Type 0 where
  pub name : List ℕ
  pub named : IsProofName call.words name
  pub tells : Tells call.files name content
  pub calm : Rose call.faults_before call.faults_after → ⊥

-- the ending is the right answer to these bytes, or that memory ran out
abbrev pub IsAnswer : List ℕ → Ending → Type 0
IsAnswer bytes (Recheck answer) = IsRechecked bytes answer
IsAnswer bytes OutOfMemory = ⊤
IsAnswer bytes _ = ⊥

-- the text is a schedule, and the answer is right on the runs of the program, with at most so many turns of each entered loop
pub record IsReplayOf (p : ScopedProgram) (turns : ℕ) (text : List ℕ) (answer : Replayed) : Type 0 where
  pub steps : List Step
  pub read : IsScheduleText text steps
  pub says : Says p turns steps answer

-- the ending is a right answer to this program and this schedule, or that memory ran out
abbrev pub IsRunAnswer : ScopedProgram → ℕ → List ℕ → Ending → Type 0
IsRunAnswer p turns text (Replay answer) = IsReplayOf p turns text answer
IsRunAnswer p turns text (BadSchedule line) = IsNoSchedule text line
IsRunAnswer p turns text OutOfMemory = ⊤
IsRunAnswer p turns text _ = ⊥
