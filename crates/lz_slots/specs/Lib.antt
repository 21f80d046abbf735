pub mod Nesting
pub mod CostTable
pub mod Slots
pub mod Costs
pub mod Walking
pub mod Example
