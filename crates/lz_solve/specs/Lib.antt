pub mod Solving
pub mod Search
pub mod Turns
