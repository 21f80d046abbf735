pub mod OpensLemmas
pub mod TreeFrontsLemmas
pub mod RowsLemmas
pub mod SumLemmas
pub mod BoundedTreesLemmas
pub mod Witnesses
