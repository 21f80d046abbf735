pub mod Moved
pub mod Pieces
pub mod Relation
pub mod Translation
pub mod Inlining
pub mod Weights
