pub mod ActsLemmas
pub mod SimulatedLemmas
pub mod QuietLemmas
pub mod CorrespondsLemmas
pub mod SameLemmas
