pub mod Counts
pub mod Encoding
pub mod Formulas
pub mod Steps
