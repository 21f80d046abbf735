pub mod InSlotsLemmas
pub mod ListingsLemmas
