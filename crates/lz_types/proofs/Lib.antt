mod CheckingLemmas
mod ExternalLemmas
mod RecursionLemmas
mod StatementLemmas
pub mod UniqueLemmas
mod WalkLemmas
mod Witnesses
