pub mod SmallOperations
