pub mod Lowered
pub mod Lowers
