pub mod BoundedTrees
pub mod BoundedTraces
pub mod CreateSites
pub mod WellFormed
pub mod SlottedPrograms
pub mod Rows
pub mod Sizes
