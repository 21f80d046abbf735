mod AdmissionLemmas
pub mod EndingLemmas
pub mod ExactnessLemmas
pub mod NamesLemmas
mod OriginLemmas
pub mod RefutationLemmas
mod ReportLemmas
mod ScheduleLemmas
mod SourceLemmas
