pub mod Circuits
pub mod Freedom
pub mod Values
