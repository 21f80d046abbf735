pub mod Choices
pub mod MainAlone
