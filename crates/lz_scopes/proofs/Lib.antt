pub mod ArgumentsLemmas
pub mod MeaningLemmas
pub mod NamesLemmas
pub mod WholeLemmas
pub mod PlacesLemmas
