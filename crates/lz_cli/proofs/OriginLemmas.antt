-- Where a lawful ending comes from: few cases, which tell what was read.
use Rattle.std.proofs.Common.{◌≡◌, ℕ, ◌≤◌, ◌⊎◌, inl, inr, List, length, refl, sym, ap, subst}
use Rattle.lz_outside.specs.Faults.{Rose}
use Rattle.lz_outside.specs.Files.{Lacks, Holds, IsLonger}
use Rattle.lz_base.specs.Limits.{file_limit}
use Rattle.lz_model.specs.declared.schedule.Step.{Step}
use Rattle.lz_model.specs.ScheduleText.{IsScheduleText, IsNoSchedule}
use Rattle.lz_tree.specs.ScopedTrees.{ScopedProgram}
use Rattle.lz_resolve.specs.ScopedPrograms.{scoped_of}
use Rattle.lz_replay.specs.declared.answer.Replayed.{Replayed}
use Rattle.lz_replay.specs.Replays.{Says}
use Rattle.lz_cli.specs.declared.recheck.Rechecked.{Rechecked}
use Rattle.lz_cli.specs.declared.ending.Ending.{Ending}
use Rattle.lz_cli.specs.declared.ending.Ending.TheVariants.{Successful, Failed, NotAToken, NotAProgram, Faulty, ManySlots, HighCost, Recheck, Replay, NotBuilt, FileTooLong, ScheduleTooLong, ProofTooLong, BadSchedule, ReadFault, Usage, OutOfMemory}
use Rattle.lz_words.specs.CommandLine.{HasNoReading}
use Rattle.lz_cli.specs.CommandLine.{IsUnbuilt, IsProofName, IsSourceName, IsNamed}
use Rattle.lz_cli.specs.Recheck.{proof_limit, IsRechecked}
use Rattle.lz_cli.specs.Limits.{Bounds, checking, replaying, schedule_limit}
use Rattle.lz_cli.specs.Source.{HasNoTokens, HasNoTree}
use Rattle.lz_cli.specs.Admission.{IsFaulty, HasManySlots, HasHighCost, IsAdmitted}
use Rattle.lz_cli.specs.Ending.{Call, IsSource, IsRunSource, IsRun, IsProofSource, IsVerdict, IsLawful}
use Rattle.lz_cli.proofs.SourceLemmas.{OneTree, no_tokens, no_tree}
use Rattle.lz_cli.proofs.AdmissionLemmas.{no_fault_accepted, no_slots_accepted, no_cost_accepted}

-- the ending says why bytes have no program that is admitted
pub data Unfit (bounds : Bounds) (bytes : List ℕ) (ending : Ending) : Type 0 where
  no_tokens_ : (line place : ℕ) → HasNoTokens bytes line place → ending ≡ NotAToken line place → Unfit bounds bytes ending
  no_tree_ : (line token : ℕ) → HasNoTree bytes line token → ending ≡ NotAProgram line token → Unfit bounds bytes ending
  breaks_rule : (line rule : ℕ) → IsFaulty bytes line rule → ending ≡ Faulty line rule → Unfit bounds bytes ending
  many_slots_ : (slots : ℕ) → HasManySlots bounds bytes slots → ending ≡ ManySlots slots → Unfit bounds bytes ending
  high_cost_ : (cost : ℕ) → HasHighCost bounds bytes cost → ending ≡ HighCost cost → Unfit bounds bytes ending

pub unfit_verdict : (bounds : Bounds) (bytes : List ℕ) (ending : Ending) → Unfit bounds bytes ending → IsVerdict bounds bytes ending
unfit_verdict bounds bytes ending (no_tokens_ line place h e) = subst (IsVerdict bounds bytes) (sym e) h
unfit_verdict bounds bytes ending (no_tree_ line token h e) = subst (IsVerdict bounds bytes) (sym e) h
unfit_verdict bounds bytes ending (breaks_rule line rule h e) = subst (IsVerdict bounds bytes) (sym e) h
unfit_verdict bounds bytes ending (many_slots_ slots h e) = subst (IsVerdict bounds bytes) (sym e) h
unfit_verdict bounds bytes ending (high_cost_ cost h e) = subst (IsVerdict bounds bytes) (sym e) h

pub admitted_fits : OneTree → (bounds : Bounds) (bytes : List ℕ) (ending : Ending) → IsAdmitted bounds bytes → Unfit bounds bytes ending → ⊥
admitted_fits one bounds bytes ending a (no_tokens_ line place h e) = no_tokens bytes a.accepted.of.tokens line place a.accepted.of.are h
admitted_fits one bounds bytes ending a (no_tree_ line token h e) = no_tree bytes a.tree line token a.accepted.of h
admitted_fits one bounds bytes ending a (breaks_rule line rule h e) = no_fault_accepted one bytes a.tree line rule a.accepted h
admitted_fits one bounds bytes ending a (many_slots_ slots h e) = no_slots_accepted one bounds bytes a.tree slots a.accepted a.few_slots h
admitted_fits one bounds bytes ending a (high_cost_ cost h e) = no_cost_accepted one bounds bytes a.tree cost a.accepted a.low_cost h

-- a program that is run by a schedule comes to this ending
pub data RunEnds (call : Call) (turns : ℕ) (schedule : List ℕ) (p : ScopedProgram) (ending : Ending) : Type 0 where
  replayed : (text : List ℕ) (steps : List Step) (answer : Replayed) → Holds call.files schedule text → length text ≤ schedule_limit → IsScheduleText text steps
      → Says p turns steps answer → ending ≡ Replay answer → RunEnds call turns schedule p ending
  unreadable : (text : List ℕ) (line : ℕ) → Holds call.files schedule text → length text ≤ schedule_limit → IsNoSchedule text line → ending ≡ BadSchedule line
      → RunEnds call turns schedule p ending
  longer : IsLonger call.files schedule schedule_limit → ending ≡ ScheduleTooLong → RunEnds call turns schedule p ending
  unread : Rose call.faults_before call.faults_after ⊎ Lacks call.files schedule → ending ≡ ReadFault schedule → RunEnds call turns schedule p ending

pub data Origin (call : Call) (ending : Ending) : Type 0 where
  decided : (turns : ℕ) (bytes : List ℕ) → IsSource call turns bytes → IsVerdict (checking turns) bytes ending → Origin call ending
  refused : (turns : ℕ) (schedule bytes : List ℕ) → IsRunSource call turns schedule bytes → Unfit (replaying turns) bytes ending → Origin call ending
  ran : (turns : ℕ) (schedule bytes : List ℕ) (run : IsRun call turns schedule bytes) → RunEnds call turns schedule (scoped_of run.admitted.tree) ending → Origin call ending
  rechecked : (bytes : List ℕ) (answer : Rechecked) → IsProofSource call bytes → IsRechecked bytes answer → ending ≡ Recheck answer → Origin call ending
  too_long : (name : List ℕ) → IsSourceName call.words name → IsLonger call.files name file_limit → ending ≡ FileTooLong → Origin call ending
  proof_too_long : (name : List ℕ) → IsProofName call.words name → IsLonger call.files name proof_limit → ending ≡ ProofTooLong → Origin call ending
  not_read : (name : List ℕ) → IsNamed call.words name → Rose call.faults_before call.faults_after ⊎ Lacks call.files name → ending ≡ ReadFault name → Origin call ending
  unread_words : HasNoReading call.words → ending ≡ Usage → Origin call ending
  unbuilt : IsUnbuilt call.words → ending ≡ NotBuilt 0 → Origin call ending
  out : ending ≡ OutOfMemory → Origin call ending

-- each lawful ending has one
pub origin : (call : Call) (ending : Ending) → IsLawful call ending → Origin call ending
origin call (Successful unwind rounds formula log) from = decided from.0 from.1 from.2 from.3
origin call (Failed kind line schedule) from = decided from.0 from.1 from.2 from.3
origin call (NotAToken line place) (inl from) = decided from.0 from.1 from.2 from.3
origin call (NotAToken line place) (inr from) = refused from.0 from.1 from.2 from.3 (no_tokens_ line place from.4 refl)
origin call (NotAProgram line token) (inl from) = decided from.0 from.1 from.2 from.3
origin call (NotAProgram line token) (inr from) = refused from.0 from.1 from.2 from.3 (no_tree_ line token from.4 refl)
origin call (Faulty line rule) (inl from) = decided from.0 from.1 from.2 from.3
origin call (Faulty line rule) (inr from) = refused from.0 from.1 from.2 from.3 (breaks_rule line rule from.4 refl)
origin call (ManySlots slots) (inl from) = decided from.0 from.1 from.2 from.3
origin call (ManySlots slots) (inr from) = refused from.0 from.1 from.2 from.3 (many_slots_ slots from.4 refl)
origin call (HighCost cost) (inl from) = decided from.0 from.1 from.2 from.3
origin call (HighCost cost) (inr from) = refused from.0 from.1 from.2 from.3 (high_cost_ cost from.4 refl)
origin call (Recheck answer) from = rechecked from.0 answer from.1 from.2 refl
origin call (Replay answer) from =
    ran from.turns from.by.schedule from.bytes from.by.run (replayed from.text from.steps answer from.by.held from.by.within_limit from.read from.says refl)
origin call (NotBuilt line) (inl from) = decided from.0 from.1 from.2 from.3
origin call (NotBuilt line) (inr un) = unbuilt un.0 (ap NotBuilt un.1)
origin call FileTooLong from = too_long from.name from.named from.longer refl
origin call ScheduleTooLong from = ran from.turns from.schedule from.bytes from.run (longer from.longer refl)
origin call ProofTooLong from = proof_too_long from.name from.named from.longer refl
origin call (BadSchedule line) from =
    ran from.turns from.by.schedule from.bytes from.by.run (unreadable from.text line from.by.held from.by.within_limit from.bad refl)
origin call (ReadFault name) (inl from) = not_read name from.named from.cause refl
origin call (ReadFault name) (inr from) = ran from.turns name from.bytes from.run (unread from.cause refl)
origin call Usage none = unread_words none refl
origin call OutOfMemory from = out refl
