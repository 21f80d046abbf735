pub mod ChoicesLemmas
pub mod CalmLemmas
pub mod CalmCodeLemmas
pub mod MainAloneLemmas
pub mod NoChoiceLemmas
pub mod ChoicesWitnesses
