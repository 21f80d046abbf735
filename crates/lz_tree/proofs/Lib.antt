pub mod TreesLemmas
pub mod ScopedTreesLemmas
pub mod HeightLemmas
pub mod Witnesses
