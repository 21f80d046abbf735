pub mod RulesLemmas
pub mod GoingLemmas
pub mod ConeLemmas
