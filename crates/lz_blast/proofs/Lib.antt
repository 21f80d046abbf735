pub mod EncodingLemmas
pub mod StepsLemmas
pub mod CountsLemmas
pub mod WordsMadeLemmas
pub mod NodeLemmas
pub mod FormulasLemmas
pub mod TurnsLemmas
