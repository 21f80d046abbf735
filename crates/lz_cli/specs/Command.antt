-- Trusted: what the command answers, which is a lawful ending with its report, its status and its evidence.
use Rattle.std.specs.Prelude.{◌≡◌, ℕ, ◌⊎◌, List, Option}
use Rattle.lz_outside.specs.Faults.{Rose}
use Rattle.lz_outside.specs.Written.{Gains, GainsPrefix}
use Rattle.lz_cli.specs.declared.ending.Ending.{Ending}
use Rattle.lz_cli.specs.declared.evidence.Evidence.{Evidence}
use Rattle.lz_cli.specs.Report.{report, status_of, evidence_of}
use Rattle.lz_cli.specs.Ending.{Call, IsLawful}

-- what a sink told before and after, and how many writes to it had failed
pub record Output : Type 0 where
  pub before : Option (List ℕ)
  pub after : Option (List ℕ)
  pub faults_before : ℕ
  pub faults_after : ℕ

abbrev pub output_of : Option (List ℕ) → Option (List ℕ) → ℕ → ℕ → Output
output_of before after faults_before faults_after =
    record { before = before; after = after; faults_before = faults_before; faults_after = faults_after }

-- no write failed, the whole text went out, and the status is its own
pub record IsDelivered (output : Output) (text : List ℕ) (own status : ℕ) : Type 0 where
  pub ends : status ≡ own
  pub calm : output.faults_after ≡ output.faults_before
  pub gained : Gains output.before output.after text

-- the status of a report that was cut off
abbrev pub cut_off_status : ℕ
cut_off_status = 7

-- the count of failed writes rose or stands at its end, and some front of the text went out
pub record IsCutOff (output : Output) (text : List ℕ) (status : ℕ) : Type 0 where
  pub ends : status ≡ cut_off_status
  pub failed : Rose output.faults_before output.faults_after
  pub gained : GainsPrefix output.before output.after text

abbrev pub IsDeliveredOrCutOff : Output → List ℕ → ℕ → ℕ → Type 0
IsDeliveredOrCutOff output text own status = IsDelivered output text own status ⊎ IsCutOff output text status

-- the report of some lawful ending was delivered, or was being delivered when the sink failed, and the evidence is its own
pub record Answers (call : Call) (output : Output) (status : ℕ) (evidence : Evidence) : Type 0 where
  pub ending : Ending
  pub lawful : IsLawful call ending
  pub own_evidence : evidence ≡ evidence_of ending
  pub delivered : IsDeliveredOrCutOff output (report ending) (status_of ending) status
