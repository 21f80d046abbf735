mod NumbersLemmas
mod CommandLineLemmas
pub mod LawLemmas
