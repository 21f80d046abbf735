pub mod Tags
pub mod Thinning
pub mod Passes
pub mod Marks
