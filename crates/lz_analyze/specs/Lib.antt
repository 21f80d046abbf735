pub mod Learnt
pub mod Walks
pub mod Walking
pub mod Highest
pub mod LearntFrom
pub mod Marked
pub mod Chains
