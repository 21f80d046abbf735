pub mod Answers
pub mod Codes
pub mod Held
pub mod Starts
pub mod Threads
pub mod Turns
pub mod Weights
