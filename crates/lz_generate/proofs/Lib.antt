mod NumberedLemmas
pub mod GeneratedWitnesses
