pub mod Tables
pub mod Folding
