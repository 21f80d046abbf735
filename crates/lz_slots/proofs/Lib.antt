pub mod SumLemmas
pub mod SaturationLemmas
pub mod ArgumentLemmas
pub mod AgreementLemmas
pub mod NestingLemmas
pub mod LocalLemmas
pub mod Witnesses
