pub mod KeepingLemmas
pub mod FlatToDeedsLemmas
pub mod DeedsToFlatLemmas
pub mod WholeLemmas
pub mod SteppingLemmas
