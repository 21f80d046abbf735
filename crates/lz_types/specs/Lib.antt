pub mod Faults
pub mod Parts
pub mod Checking
pub mod Answering
