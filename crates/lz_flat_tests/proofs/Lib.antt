pub mod MarksLemmas
pub mod FoldingLemmas
