pub mod Deeds
pub mod StepLaw
pub mod Pieces
