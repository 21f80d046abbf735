pub mod StraightRunLemmas
pub mod StepLemmas
pub mod LandingLemmas
pub mod PlacesLemmas
pub mod RoundsLemmas
pub mod InputsLemmas
pub mod DrivenLemmas
pub mod WordsLemmas
pub mod NamingLemmas
pub mod RunningLemmas
pub mod WeightLemmas
mod Witnesses
