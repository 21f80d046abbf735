pub mod PlacesLemmas
pub mod StatementNearsLemmas
pub mod StatementsLemmas
pub mod StationRanksLemmas
pub mod StationsLemmas
pub mod WalkLemmas
