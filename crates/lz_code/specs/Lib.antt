pub mod Structured
pub mod LaidOut
