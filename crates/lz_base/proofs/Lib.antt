pub mod WordsLemmas
pub mod WordsWitnesses
pub mod DescentsLemmas
pub mod ListLemmas
pub mod OptionLemmas
pub mod BoolLemmas
pub mod NumeralLemmas
pub mod ResultLemmas
