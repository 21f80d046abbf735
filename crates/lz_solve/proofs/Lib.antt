pub mod ModelLemmas
pub mod TernaryLemmas
pub mod SearchLemmas
