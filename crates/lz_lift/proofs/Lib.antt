pub mod OnlyStartsLemmas
pub mod RenamedLemmas
pub mod LiftedLemmas
pub mod SameRunsLemmas
