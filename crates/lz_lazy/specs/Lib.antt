pub mod Encoding
pub mod Sequential
pub mod Example
