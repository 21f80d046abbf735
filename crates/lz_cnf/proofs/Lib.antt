pub mod LitLemmas
mod SatisfiedLemmas
