-- Trusted: the report of an ending, to the byte, its status and its evidence.
use Rattle.std.specs.Prelude.{ℕ, List, ◌++◌, codes}
use Rattle.std.specs.List.{flat_map}
use Rattle.std.specs.Fmt.{decimal}
use Rattle.lz_base.specs.declared.word.BreakKind.{BreakKind}
use Rattle.lz_base.specs.declared.word.BreakKind.TheVariants.{Assert, Bounds, DivZero, Unlock, Wait, Join, Reached}
use Rattle.lz_model.specs.declared.schedule.Step.{Step}
use Rattle.lz_model.specs.Rounds.{rounds_of, threads_of}
use Rattle.lz_replay.specs.declared.answer.Replayed.{Replayed}
use Rattle.lz_replay.specs.declared.answer.Replayed.TheVariants.{Broke, Holds, NotARun}
use Rattle.lz_cli.specs.declared.ending.Ending.{Ending}
use Rattle.lz_cli.specs.declared.ending.Ending.TheVariants.{Successful, Failed, NotAToken, NotAProgram, Faulty, ManySlots, HighCost, Recheck, Replay, NotBuilt, FileTooLong, ScheduleTooLong, ProofTooLong, BadSchedule, ReadFault, Usage, OutOfMemory}
use Rattle.lz_cli.specs.declared.evidence.Evidence.{Evidence}
use Rattle.lz_cli.specs.declared.evidence.Evidence.TheVariants.{Nothing, Proof}
use Rattle.lz_base.specs.Limits.{file_limit}
use Rattle.lz_cli.specs.Limits.{slot_limit, cost_limit, schedule_limit}
use Rattle.lz_cli.specs.Recheck.{proof_limit, recheck_line, recheck_status}

-- the word for what breaks
abbrev pub kind_word : BreakKind → List ℕ
kind_word Assert = codes "assert"
kind_word Bounds = codes "bounds"
kind_word DivZero = codes "divzero"
kind_word Unlock = codes "unlock"
kind_word Wait = codes "wait"
kind_word Join = codes "join"
kind_word Reached = codes "reached"

-- one step of a schedule
abbrev pub step_line : Step → List ℕ
step_line step = codes "step " ++ decimal step.thread ++ codes " " ++ decimal step.choice ++ codes "\n"

-- the line of a success
abbrev pub success_line : ℕ → ℕ → List ℕ
success_line unwind rounds =
    codes "SUCCESSFUL unwind " ++ decimal unwind ++ codes " rounds " ++ decimal rounds ++ codes "\n"

-- the line of a replay's answer
abbrev pub replay_line : Replayed → List ℕ
replay_line (Broke kind line events) =
    codes "BROKEN check " ++ kind_word kind ++ codes " line " ++ decimal line ++ codes " events " ++ decimal events ++ codes "\n"
replay_line (Holds events) = codes "HOLDS events " ++ decimal events ++ codes "\n"
replay_line (NotARun index) = codes "NOTARUN index " ++ decimal index ++ codes "\n"

-- its status
abbrev pub replay_status : Replayed → ℕ
replay_status (Broke kind line events) = 1
replay_status (Holds events) = 0
replay_status (NotARun index) = 9

-- how the command is called
abbrev pub usage_line : List ℕ
usage_line =
    codes "usage: lazycheck [--mode check|replay|recheck|gen|emit] [--unwind N] [--rounds K] [--conflicts C] [--schedule NAME] [--proof NAME] [--seed S] FILE\n"

-- each line ends with a newline
abbrev pub report : Ending → List ℕ
report (Successful unwind rounds formula log) = success_line unwind rounds
report (Failed kind line schedule) =
    codes "FAILED\ncheck " ++ kind_word kind ++ codes " line " ++ decimal line
    ++ codes "\nrounds " ++ decimal (rounds_of (threads_of schedule)) ++ codes "\n" ++ flat_map step_line schedule
report (NotAToken line place) = codes "SOURCE line " ++ decimal line ++ codes " byte " ++ decimal place ++ codes ": not a token\n"
report (NotAProgram line token) = codes "SOURCE line " ++ decimal line ++ codes " token " ++ decimal token ++ codes ": not a program\n"
report (Faulty line rule) = codes "SOURCE line " ++ decimal line ++ codes " rule " ++ decimal rule ++ codes "\n"
report (ManySlots slots) = codes "LIMIT slots " ++ decimal slots ++ codes " over " ++ decimal slot_limit ++ codes "\n"
report (HighCost cost) = codes "LIMIT cost " ++ decimal cost ++ codes " over " ++ decimal cost_limit ++ codes "\n"
report (Recheck answer) = recheck_line answer
report (Replay answer) = replay_line answer
report (NotBuilt line) = codes "NOTBUILT line " ++ decimal line ++ codes "\n"
report FileTooLong = codes "LIMIT file over " ++ decimal file_limit ++ codes " bytes\n"
report ScheduleTooLong = codes "LIMIT schedule over " ++ decimal schedule_limit ++ codes " bytes\n"
report ProofTooLong = codes "LIMIT proof over " ++ decimal proof_limit ++ codes " bytes\n"
report (BadSchedule line) = codes "TEXT line " ++ decimal line ++ codes "\n"
report (ReadFault name) = codes "READ " ++ name ++ codes "\n"
report Usage = usage_line
report OutOfMemory = codes "MEMORY\n"

-- the status that the command ends with
abbrev pub status_of : Ending → ℕ
status_of (Successful unwind rounds formula log) = 0
status_of (Failed kind line schedule) = 1
status_of (NotAToken line place) = 4
status_of (NotAProgram line token) = 4
status_of (Faulty line rule) = 4
status_of (ManySlots slots) = 5
status_of (HighCost cost) = 5
status_of (Recheck answer) = recheck_status answer
status_of (Replay answer) = replay_status answer
status_of (NotBuilt line) = 12
status_of FileTooLong = 5
status_of ScheduleTooLong = 5
status_of ProofTooLong = 5
status_of (BadSchedule line) = 10
status_of (ReadFault name) = 6
status_of Usage = 3
status_of OutOfMemory = 8

-- what shows that the ending is right, beside its report
abbrev pub evidence_of : Ending → Evidence
evidence_of (Successful unwind rounds formula log) = Proof formula log
evidence_of (Failed kind line schedule) = Nothing
evidence_of (NotAToken line place) = Nothing
evidence_of (NotAProgram line token) = Nothing
evidence_of (Faulty line rule) = Nothing
evidence_of (ManySlots slots) = Nothing
evidence_of (HighCost cost) = Nothing
evidence_of (Recheck answer) = Nothing
evidence_of (Replay answer) = Nothing
evidence_of (NotBuilt line) = Nothing
evidence_of FileTooLong = Nothing
evidence_of ScheduleTooLong = Nothing
evidence_of ProofTooLong = Nothing
evidence_of (BadSchedule line) = Nothing
evidence_of (ReadFault name) = Nothing
evidence_of Usage = Nothing
evidence_of OutOfMemory = Nothing
