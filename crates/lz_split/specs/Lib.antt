pub mod Deeds
pub mod DeedsDo
