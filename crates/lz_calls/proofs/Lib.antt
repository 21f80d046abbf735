pub mod ListingLemmas
pub mod ReachingLemmas
pub mod RanksLemmas
pub mod TopsLemmas
pub mod HeightsLemmas
pub mod FactsLemmas
pub mod UniqueLemmas
