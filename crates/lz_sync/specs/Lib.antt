pub mod Slots
pub mod Standing
pub mod Operations
pub mod Groups
pub mod Doing
pub mod Forming
pub mod Weights
pub mod Reaching
